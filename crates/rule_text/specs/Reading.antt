-- Reading: when a text is taken, and when and how it is refused.
use Rattle.std.specs.Prelude.{◌≡◌, ℕ, ◌<◌, ◌≤◌, List, length, Ok, Err, Result}
use Rattle.refusals.specs.declared.Fault.{Fault}
use Rattle.refusals.specs.declared.Refusal.TheVariants.{BadNames, TextTooLong, TooManyNodes}
use Rattle.rules.specs.declared.node.Node.{Node}
use Rattle.rule_text.specs.Words.{Word, words_in}
use Rattle.rule_text.specs.Names.{GoodNames, NamesFault}
use Rattle.rule_text.specs.Faults.{fault, IsRule, FirstFault}

-- a good name list and a text of at most 4,096 bytes whose words are a rule of at most 512 nodes
pub record Taken (names : List (List ℕ)) (text : List ℕ) (ns : List Node) : Type 0 where
  pub good : GoodNames names
  pub short : length text ≤ 4096
  pub gives : IsRule names (words_in text) ns
  pub few : length ns ≤ 512

-- why a text is refused: a bad name list, then a text too long, then its first fault, then too many nodes
pub data Refused (names : List (List ℕ)) (text : List ℕ) : Fault → Type 0 where
  bad_names : {p : ℕ} → NamesFault names p → Refused names text (fault BadNames p)
  long : GoodNames names → 4096 < length text → Refused names text (fault TextTooLong 4096)
  faulty : {f : Fault} → GoodNames names → length text ≤ 4096 → FirstFault names (length text) (words_in text) f → Refused names text f
  many : (ns : List Node) → GoodNames names → length text ≤ 4096 → IsRule names (words_in text) ns → 512 < length ns → Refused names text (fault TooManyNodes (length text))

-- what reading a text into a rule does: the rule holds the text's node list, or the text is refused and the rule is as it was
abbrev pub Reads : List (List ℕ) → List ℕ → List Node → List Node → Result (Unit {0}) Fault → Type 0
Reads names text before after (Ok u) = Taken names text after
Reads names text before after (Err f) = (after ≡ before) × Refused names text f

-- the words of a rule have one node list
abbrev pub OneReading : Type 0
OneReading = (names : List (List ℕ)) (ws : List (ℕ × Word)) (ns ms : List Node) → IsRule names ws ns → IsRule names ws ms → ns ≡ ms

-- no text is both taken and refused
abbrev pub Exact : Type 0
Exact = (names : List (List ℕ)) (text : List ℕ) (ns : List Node) (f : Fault) → Taken names text ns → Refused names text f → ⊥

-- a text is refused in one way
abbrev pub OneRefusal : Type 0
OneRefusal = (names : List (List ℕ)) (text : List ℕ) (f g : Fault) → Refused names text f → Refused names text g → f ≡ g

-- what is promised of a reading: what it does, and that its definitions leave no choice
pub record Reading (names : List (List ℕ)) (text : List ℕ) (before after : List Node) (r : Result (Unit {0}) Fault) : Type 0 where
  pub reads : Reads names text before after r
  -- a text without a fault has a node list
  pub total : ((f : Fault) → Refused names text f → ⊥) → (ns : List Node) × Taken names text ns
  pub one_reading : OneReading
  pub exact : Exact
  pub one_refusal : OneRefusal
