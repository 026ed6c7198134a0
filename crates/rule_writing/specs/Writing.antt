-- Writing: when a rule is written, and when and how it is refused.
use Rattle.std.specs.Prelude.{◌≡◌, ℕ, ◌*◌, ◌<◌, ◌≤◌, List, [], ◌++◌, length, drop, Some, Ok, Err, Result, slice_index_or}
use Rattle.refusals.specs.declared.Fault.{Fault}
use Rattle.refusals.specs.declared.Refusal.TheVariants.{TooDeep, UnknownName, TextTooLong, BadNames, MemoryTooShort}
use Rattle.rules.specs.declared.node.Node.{Node}
use Rattle.rules.specs.Nodes.{FirstTest, WellFormed}
use Rattle.rule_text.specs.Words.{words_in}
use Rattle.rule_text.specs.Names.{GoodNames, NamesFault}
use Rattle.rule_text.specs.Faults.{fault, IsRule}
use Rattle.rule_text.specs.Reading.{Taken}
use Rattle.rule_writing.specs.Texts.{IsText, nesting, brackets_in}

-- each entry of a name list has 16 bytes
abbrev pub FullEntries : List (List ℕ) → Type 0
FullEntries names = (t : ℕ) → t < length names → length (slice_index_or names t []) ≡ 16

-- a rule's text that may be written, with a good list of full entries: brackets at most 16 deep, and at most 4,096 bytes
pub record Writable (names : List (List ℕ)) (ns : List Node) (text : List ℕ) : Type 0 where
  pub good : GoodNames names
  pub full : FullEntries names
  pub is_text : IsText names ns text
  pub shallow : nesting 0 text ≤ 16
  pub short : length text ≤ 4096

-- why a text of so many bytes, with brackets so deep, is not written into a memory of this many bytes: brackets too deep, then a text too long, then a memory too short
pub data Unfit (bytes depth room : ℕ) (f : Fault) : Type 0 where
  deep : 16 < depth → f ≡ fault TooDeep 0 → Unfit bytes depth room f
  long : depth ≤ 16 → 4096 < bytes → f ≡ fault TextTooLong 0 → Unfit bytes depth room f
  no_room : depth ≤ 16 → bytes ≤ 4096 → room < bytes → f ≡ fault MemoryTooShort 0 → Unfit bytes depth room f

-- why a rule's list is not written: a bad name list, then the first test without a name (n names have 2n tests, their own and the opposite ones), then a text that is unfit
pub data Unwritten (names : List (List ℕ)) (ns : List Node) (room : ℕ) : Fault → Type 0 where
  bad_names : {p : ℕ} → NamesFault names p → Unwritten names ns room (fault BadNames p)
  unnamed : {i : ℕ} → GoodNames names → FirstTest (2 * length names) ns (Some i) → Unwritten names ns room (fault UnknownName i)
  unfit : {f : Fault} (text : List ℕ) → GoodNames names → IsText names ns text → Unfit (length text) (nesting 0 text) room f → Unwritten names ns room f

-- what writing a rule's list into a memory does: the text stands at its front and the bytes past it stay, or the rule is refused and all bytes stay
abbrev pub Outcome : List (List ℕ) → List Node → List ℕ → List ℕ → Result ℕ Fault → Type 0
Outcome names ns before after (Ok k) = (text : List ℕ) × Writable names ns text × (k ≡ length text) × (length text ≤ length before) × (after ≡ text ++ drop k before)
Outcome names ns before after (Err f) = (after ≡ before) × Unwritten names ns (length before) f

-- a rule's list has one text
abbrev pub OneText : Type 0
OneText = (names : List (List ℕ)) (ns : List Node) (text text' : List ℕ) → IsText names ns text → IsText names ns text' → text ≡ text'

-- a text that is written is read back, with the same names, as the same list
abbrev pub ReadsBack : Type 0
ReadsBack = (names : List (List ℕ)) (ns : List Node) (text : List ℕ) → WellFormed ns → Writable names ns text → Taken names text ns

-- no text that is read as the same list has fewer brackets
abbrev pub FewestBrackets : Type 0
FewestBrackets = (names : List (List ℕ)) (ns : List Node) (text other : List ℕ) → IsText names ns text → IsRule names (words_in other) ns → brackets_in text ≤ brackets_in other

-- writing has one answer
abbrev pub OneAnswer : Type 0
OneAnswer = (names : List (List ℕ)) (ns : List Node) (before after after' : List ℕ) (r r' : Result ℕ Fault) → Outcome names ns before after r → Outcome names ns before after' r' → (r ≡ r') × (after ≡ after')

-- what is promised of writing: what it does, and what its texts are worth
pub record Writing (names : List (List ℕ)) (ns : List Node) (before after : List ℕ) (r : Result ℕ Fault) : Type 0 where
  pub outcome : Outcome names ns before after r
  pub one_text : OneText
  pub one_answer : OneAnswer
  pub reads_back : ReadsBack
  pub fewest : FewestBrackets
