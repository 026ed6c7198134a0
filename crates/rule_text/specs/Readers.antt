-- What each of the four readers does.
use Rattle.std.specs.Prelude.{◌≡◌, ℕ, zero, suc, ◌+◌, ◌<◌, ◌≤◌, Bool, true, false, cond, ◌⊎◌, List, [], ◌∷◌, ◌++◌, length, Some, None, Ok, Err, Option, Result, ◌≢◌, nat_le}
use Rattle.std.specs.Borrow.{Bor}
use Rattle.refusals.specs.declared.Fault.{Fault}
use Rattle.refusals.specs.declared.Refusal.{Refusal}
use Rattle.refusals.specs.declared.Refusal.TheVariants.{Misplaced, TooDeep, TooManyNodes, UnknownName}
use Rattle.rules.specs.declared.node.Node.{Node}
use Rattle.rules.specs.declared.node.Join.{Join}
use Rattle.rules.specs.declared.node.Join.TheVariants.{Chain, Choice}
use Rattle.rules.specs.declared.node.Shape.{Shape}
use Rattle.rules.specs.declared.node.Shape.TheVariants.{Leaf, Join as Joining}
use Rattle.rules.specs.Nodes.{node, grown}
use Rattle.rule_text.specs.declared.rest.Placed.{Placed}
use Rattle.rule_text.specs.declared.rest.Rest.{Rest}
use Rattle.rule_text.specs.declared.words.Word.TheVariants.{Name, End}
use Rattle.rule_text.specs.Words.{Word, name, nil, void, open', close', bar, star, bang, no_name, stray}
use Rattle.rule_text.specs.Names.{test_named}
use Rattle.rule_text.specs.Grammar.{Level, choice, chain, item, atom, Gives}
use Rattle.rule_text.specs.Faults.{fault, by_list, by_any_name, Begins, own_fault}
use Rattle.rule_text.specs.Lexing.{words_of}

-- before an atom, after one, or after `!`
pub data Mode : Type 0 where
  wants : Mode
  has : Mode
  turns : Mode

-- past one word, in d brackets; none where the word is not allowed
abbrev pub step : Mode → ℕ → Word → Option (Mode × ℕ)
step wants d (name x) = Some (has, d)
step wants d nil = Some (has, d)
step wants d void = Some (has, d)
step wants d open' = Some (wants, suc d)
step wants d close' = None
step wants d bar = None
step wants d star = None
step wants d bang = Some (turns, d)
step wants d no_name = None
step wants d stray = None
step has d (name x) = Some (has, d)
step has d nil = Some (has, d)
step has d void = Some (has, d)
step has d open' = Some (wants, suc d)
step has zero close' = None
step has (suc d) close' = Some (has, d)
step has d bar = Some (wants, d)
step has d star = Some (has, d)
step has d bang = Some (turns, d)
step has d no_name = None
step has d stray = None
step turns d (name x) = Some (has, d)
step turns d nil = None
step turns d void = None
step turns d open' = None
step turns d close' = None
step turns d bar = None
step turns d star = None
step turns d bang = None
step turns d no_name = None
step turns d stray = None

abbrev pub onward : Option (Mode × ℕ) → Word → Option (Mode × ℕ)
onward None w = None
onward (Some s) w = step s.0 s.1 w

-- past some words
abbrev pub scan : Option (Mode × ℕ) → List (ℕ × Word) → Option (Mode × ℕ)
scan s [] = s
scan s (w ∷ ws) = scan (onward s w.1) ws

-- a bracket may stand here
abbrev pub Ready : Mode → Type 0
Ready wants = Unit {0}
Ready has = Unit {0}
Ready turns = ⊥

-- the word is faulty here
pub data Faulty (names : List (List ℕ)) (m : Mode) (d : ℕ) : Word → Refusal → Type 0 where
  own : {w : Word} {x : Refusal} → own_fault w ≡ Some x → Faulty names m d w x
  barred : {w : Word} → own_fault w ≡ None → step m d w ≡ None → Faulty names m d w Misplaced
  deep : Ready m → 16 ≤ d → Faulty names m d open' TooDeep
  strange : (x : List ℕ) → test_named names x ≡ None → Faulty names m d (name x) UnknownName

-- the end is not allowed here
abbrev pub Unfinished : Mode → ℕ → Type 0
Unfinished wants d = Unit {0}
Unfinished has zero = ⊥
Unfinished has (suc d) = Unit {0}
Unfinished turns d = Unit {0}

-- the first of the words is faulty, or the end is
abbrev pub FaultAt : List (List ℕ) → ℕ → Mode → ℕ → List (ℕ × Word) → Fault → Type 0
FaultAt names whole m d [] f = (f ≡ fault Misplaced whole) × Unfinished m d
FaultAt names whole m d (w ∷ ws) f = (f.place ≡ w.0) × Faulty names m d w.1 f.refusal

-- some l begins with these words and the first of the others, as far as the grammar goes
abbrev pub GoesOn : Level → ℕ → List (ℕ × Word) → List (ℕ × Word) → Type 0
GoesOn l d us [] = Unit {0}
GoesOn l d us (w ∷ ws) = (depth : ℕ) × (16 ≤ depth) × Begins (by_any_name depth) l d (us ++ w ∷ [])

-- the faults of words that the grammar allows where they stand
abbrev pub IsAllowed : Refusal → Type 0
IsAllowed x = (x ≡ TooDeep) ⊎ (x ≡ UnknownName)

-- the first fault: what stands before it begins an l, and it is faulty there
pub record Fails (names : List (List ℕ)) (l : Level) (m : Mode) (d whole : ℕ) (words : List (ℕ × Word)) (f : Fault) : Type 0 where
  pub used : List (ℕ × Word)
  pub left : List (ℕ × Word)
  pub split : words ≡ used ++ left
  pub begins : Begins (by_list names) l d used
  pub allowed : IsAllowed f.refusal → GoesOn l d used left
  pub mode : Mode
  pub depth : ℕ
  pub ran : scan (Some (m, d)) used ≡ Some (mode, depth)
  pub here : FaultAt names whole mode depth left f

-- how closely a word holds to what stands before it
abbrev pub tight : Word → ℕ
tight close' = 0
tight bar = 1
tight (name x) = 2
tight nil = 2
tight void = 2
tight open' = 2
tight bang = 2
tight star = 3
tight no_name = 3
tight stray = 3

abbrev pub loose : Level → ℕ
loose choice = 0
loose chain = 1
loose item = 2
loose atom = 3

-- where a reader stops, no further word belongs to what it read
abbrev pub Follows : Level → List (ℕ × Word) → Type 0
Follows l [] = Unit {0}
Follows l (w ∷ ws) = tight w.1 ≤ loose l

-- the draft holds these nodes, or there are too many of them
abbrev pub Holds : List Node → Bool → List Node → Type 0
Holds items over ns = ((length ns ≤ 512) × (items ≡ ns) × (over ≡ false)) ⊎ ((512 < length ns) × (over ≡ true))

-- whatever the draft held, it holds that and then these nodes
abbrev pub Adds : List Node → Bool → List Node → Bool → List Node → Type 0
Adds items over items' over' new = (before : List Node) → Holds items over before → Holds items' over' (before ++ new)

-- the text begins with what is an l, `rest` is left, and the draft has its nodes
pub record Done (names : List (List ℕ)) (l f : Level) (d whole : ℕ) (text rest : List ℕ) (items : List Node) (over : Bool) (items' : List Node) (over' : Bool) : Type 0 where
  pub used : List (ℕ × Word)
  pub new : List Node
  pub split : words_of whole text ≡ used ++ words_of whole rest
  pub gives : Gives (by_list names) l d used new
  pub adds : Adds items over items' over' new
  pub shorter : length rest < length text
  pub follows : Follows f (words_of whole rest)

-- a draft before and after a node of this shape is pushed
pub record Pushed (x : Shape) (items : List Node) (over : Bool) (items' : List Node) (over' : Bool) : Type 0 where
  pub list : items' ≡ cond (nat_le 512 (length items)) items (grown items x)
  pub flag : over' ≡ cond (nat_le 512 (length items)) true over

-- the text begins with what is an l, and the draft has its nodes and then a join of what stood before them and of them
pub record Joined (names : List (List ℕ)) (l : Level) (j : Join) (d whole : ℕ) (text rest : List ℕ) (items : List Node) (over : Bool) (items' : List Node) (over' : Bool) : Type 0 where
  pub between : List Node
  pub past : Bool
  pub done : Done names l l d whole text rest items over between past
  pub pushed : Pushed (Joining j) between past items' over'

-- what is read after `!`: a name that stands for a test
pub record NameRead (names : List (List ℕ)) (whole : ℕ) (text rest : List ℕ) : Type 0 where
  pub place : ℕ
  pub own : List ℕ
  pub test : ℕ
  pub first : words_of whole text ≡ (place, name own) ∷ words_of whole rest
  pub known : test_named names own ≡ Some test
  pub shorter : length rest < length text

-- what reading the name after `!` does
abbrev pub Opposite : List (List ℕ) → ℕ → List ℕ → List Node → Bool → List Node → Bool → Result Rest Fault → Type 0
Opposite names whole text items over items' over' (Ok rest) = (h : NameRead names whole text rest.bytes.now) × (rest.whole ≡ whole) × Adds items over items' over' (node (Leaf (length names + h.test)) 1 ∷ [])
Opposite names whole text items over items' over' (Err f) = (d : ℕ) → FaultAt names whole turns d (words_of whole text) f

-- the name that a word is, or the refusal of a word that is none
abbrev pub NameIn : Placed → Result (Bor (List ℕ)) Fault → Type 0
NameIn w (Ok x) = w.word ≡ Name x
NameIn w (Err f) = ((x : Bor (List ℕ)) → w.word ≢ Name x) × (f ≡ fault Misplaced w.place)

-- what looking a name up tells
abbrev pub TestOf : List (List ℕ) → List ℕ → ℕ → Result ℕ Fault → Type 0
TestOf names x p (Ok t) = test_named names x ≡ Some t
TestOf names x p (Err f) = (test_named names x ≡ None) × (f ≡ fault UnknownName p)

-- what a reader of level l does
abbrev pub Outcome : List (List ℕ) → Level → ℕ → List ℕ → ℕ → List Node → Bool → List Node → Bool → Result Rest Fault → Type 0
Outcome names l whole text d items over items' over' (Ok rest) = Done names l l d whole text rest.bytes.now items over items' over' × (rest.whole ≡ whole)
Outcome names l whole text d items over items' over' (Err f) = Fails names l wants d whole (words_of whole text) f

-- what a chain or a choice goes on with
abbrev pub operand : Join → Level
operand Chain = item
operand Choice = chain

-- what reading a further l and joining it to what stood before does
abbrev pub Joins : List (List ℕ) → Level → Join → ℕ → List ℕ → ℕ → List Node → Bool → List Node → Bool → Result Rest Fault → Type 0
Joins names l j whole text d items over items' over' (Ok rest) = Joined names l j d whole text rest.bytes.now items over items' over' × (rest.whole ≡ whole)
Joins names l j whole text d items over items' over' (Err f) = Fails names l wants d whole (words_of whole text) f

-- why a text is refused after a whole rule: more than the end stands there, or it is the end and there are too many nodes
pub data EndFault (last : Placed) (over : Bool) (f : Fault) : Type 0 where
  not_ended : (last.word ≢ End) → f ≡ fault Misplaced last.place → EndFault last over f
  too_many : last.word ≡ End → over ≡ true → f ≡ fault TooManyNodes last.rest.whole → EndFault last over f

-- what looking at the word after a whole rule tells
abbrev pub Ends : Placed → Bool → Result (Unit {0}) Fault → Type 0
Ends last over (Ok u) = (last.word ≡ End) × (over ≡ false)
Ends last over (Err f) = EndFault last over f
