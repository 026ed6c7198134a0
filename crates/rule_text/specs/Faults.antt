-- The first fault of a text's words.
use Rattle.std.specs.Prelude.{◌≡◌, ℕ, suc, ◌-◌, ◌≤◌, List, [], ◌∷◌, ◌++◌, length, Some, None, Option}
use Rattle.refusals.specs.declared.Fault.{Fault}
use Rattle.refusals.specs.declared.Refusal.{Refusal}
use Rattle.refusals.specs.declared.Refusal.TheVariants.{StrayByte, NotAName, Misplaced, TooDeep, UnknownName}
use Rattle.rules.specs.declared.node.Node.{Node}
use Rattle.rule_text.specs.Words.{Word, name, nil, void, open', close', bar, star, bang, no_name, stray}
use Rattle.rule_text.specs.Names.{test_named}
use Rattle.rule_text.specs.Grammar.{Level, choice, Gives, Naming}

abbrev pub fault : Refusal → ℕ → Fault
fault x p = record { refusal = x; place = p }

-- a name list, with brackets at most 16 deep
abbrev pub by_list : List (List ℕ) → Naming
by_list names = record { test = test_named names; count = length names; depth = 16 }

-- any name will do, and brackets of this depth: what the grammar alone asks
abbrev pub by_any_name : ℕ → Naming
by_any_name depth = record { test = λ x. Some 0; count = 0; depth = depth }

-- some l begins with these words
abbrev pub Begins : Naming → Level → ℕ → List (ℕ × Word) → Type 0
Begins m l d ws = (more : List (ℕ × Word)) × (ns : List Node) × Gives m l d (ws ++ more) ns

-- the words are a rule, and ns is its node list
abbrev pub IsRule : List (List ℕ) → List (ℕ × Word) → List Node → Type 0
IsRule names ws ns = Gives (by_list names) choice 0 ws ns

-- some rule begins with these words, as far as the grammar goes
abbrev pub Allowed : List (ℕ × Word) → Type 0
Allowed ws = (depth : ℕ) × Begins (by_any_name depth) choice 0 ws

-- how many brackets stand open after these words
abbrev pub opened : ℕ → List (ℕ × Word) → ℕ
opened d [] = d
opened d ((p, name x) ∷ ws) = opened d ws
opened d ((p, nil) ∷ ws) = opened d ws
opened d ((p, void) ∷ ws) = opened d ws
opened d ((p, open') ∷ ws) = opened (suc d) ws
opened d ((p, close') ∷ ws) = opened (d - 1) ws
opened d ((p, bar) ∷ ws) = opened d ws
opened d ((p, star) ∷ ws) = opened d ws
opened d ((p, bang) ∷ ws) = opened d ws
opened d ((p, no_name) ∷ ws) = opened d ws
opened d ((p, stray) ∷ ws) = opened d ws

-- a fault that a word has wherever it stands
abbrev pub own_fault : Word → Option Refusal
own_fault (name x) = None
own_fault nil = None
own_fault void = None
own_fault open' = None
own_fault close' = None
own_fault bar = None
own_fault star = None
own_fault bang = None
own_fault no_name = Some NotAName
own_fault stray = Some StrayByte

-- the fault of a word, by the words before it
pub data WordFault (names : List (List ℕ)) (before : List (ℕ × Word)) (w : ℕ × Word) : Refusal → Type 0 where
  -- it has one of its own
  spoilt : {x : Refusal} → own_fault w.1 ≡ Some x → WordFault names before w x
  -- no rule begins like this
  misplaced : own_fault w.1 ≡ None → (Allowed (before ++ w ∷ []) → ⊥) → WordFault names before w Misplaced
  -- a bracket is allowed here, and stands deeper than 16
  deeper : w.1 ≡ open' → Allowed (before ++ w ∷ []) → 16 ≤ opened 0 before → WordFault names before w TooDeep
  -- a name is allowed here, and the list has it not
  unknown : (x : List ℕ) → w.1 ≡ name x → Allowed (before ++ w ∷ []) → test_named names x ≡ None → WordFault names before w UnknownName

-- the first of the words left is faulty; or, where none is left, the end: the words are no rule
abbrev pub FaultHere : List (List ℕ) → ℕ → List (ℕ × Word) → List (ℕ × Word) → Fault → Type 0
FaultHere names end before [] f = (f ≡ fault Misplaced end) × ((ns : List Node) → IsRule names before ns → ⊥)
FaultHere names end before (w ∷ ws) f = (f.place ≡ w.0) × WordFault names before w f.refusal

-- the first fault of the words ws of a text that ends at `end`: the words before it begin a rule, so that none of them is faulty
pub record FirstFault (names : List (List ℕ)) (end : ℕ) (ws : List (ℕ × Word)) (f : Fault) : Type 0 where
  pub before : List (ℕ × Word)
  pub left : List (ℕ × Word)
  pub split : ws ≡ before ++ left
  pub begins : Begins (by_list names) choice 0 before
  pub here : FaultHere names end before left f
