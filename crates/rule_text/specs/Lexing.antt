-- What the word reader tells of a text.
use Rattle.std.specs.Prelude.{◌≡◌, ℕ, ◌-◌, ◌<◌, ◌≤◌, false, List, [], ◌∷◌, length, Some, None, Ok, Err, Option, Result}
use Rattle.refusals.specs.declared.Fault.{Fault}
use Rattle.rule_text.specs.declared.words.Word.{Word as Token}
use Rattle.rule_text.specs.declared.words.Word.TheVariants.{Name, Nil, Void, Open, Close, Bar, Star, Bang, End}
use Rattle.rule_text.specs.declared.rest.Placed.{Placed}
use Rattle.rule_text.specs.Words.{Word, name, nil, void, open', close', bar, star, bang, no_name, words, run_word}
use Rattle.rule_text.specs.Faults.{own_fault}

-- the words of the last bytes of a text with `whole` bytes
abbrev pub words_of : ℕ → List ℕ → List (ℕ × Word)
words_of whole rest = words (whole - length rest) false rest

-- the token is the first of the words ws, at the place p, and vs are the others; or it is the end, and there are none
abbrev pub Starts : ℕ → Token → ℕ → List (ℕ × Word) → List (ℕ × Word) → Type 0
Starts whole (Name s) p ws vs = ws ≡ (p, name s.now) ∷ vs
Starts whole Nil p ws vs = ws ≡ (p, nil) ∷ vs
Starts whole Void p ws vs = ws ≡ (p, void) ∷ vs
Starts whole Open p ws vs = ws ≡ (p, open') ∷ vs
Starts whole Close p ws vs = ws ≡ (p, close') ∷ vs
Starts whole Bar p ws vs = ws ≡ (p, bar) ∷ vs
Starts whole Star p ws vs = ws ≡ (p, star) ∷ vs
Starts whole Bang p ws vs = ws ≡ (p, bang) ∷ vs
Starts whole End p ws vs = (ws ≡ []) × (vs ≡ []) × (p ≡ whole)

-- each word takes some of the text
abbrev pub Shorter : Token → ℕ → ℕ → Type 0
Shorter (Name s) m n = m < n
Shorter Nil m n = m < n
Shorter Void m n = m < n
Shorter Open m n = m < n
Shorter Close m n = m < n
Shorter Bar m n = m < n
Shorter Star m n = m < n
Shorter Bang m n = m < n
Shorter End m n = m ≤ n

-- the first of the words ws has a fault of its own
pub record Spoilt (ws : List (ℕ × Word)) (f : Fault) : Type 0 where
  pub word : Word
  pub after : List (ℕ × Word)
  pub first : ws ≡ (f.place, word) ∷ after
  pub own : own_fault word ≡ Some f.refusal

-- what reading one word tells
abbrev pub ReadsWord : ℕ → List ℕ → Result Placed Fault → Type 0
ReadsWord whole text (Ok n) = Starts whole n.word n.place (words_of whole text) (words_of whole n.rest.bytes.now) × Shorter n.word (length n.rest.bytes.now) (length text) × (n.rest.whole ≡ whole)
ReadsWord whole text (Err f) = Spoilt (words_of whole text) f

-- the token that a run is; none where it is no name
abbrev pub IsRunWord : List ℕ → Option Token → Type 0
IsRunWord r None = run_word r ≡ no_name
IsRunWord r (Some (Name s)) = (run_word r ≡ name r) × (s.now ≡ r)
IsRunWord r (Some Nil) = run_word r ≡ nil
IsRunWord r (Some Void) = run_word r ≡ void
IsRunWord r (Some Open) = ⊥
IsRunWord r (Some Close) = ⊥
IsRunWord r (Some Bar) = ⊥
IsRunWord r (Some Star) = ⊥
IsRunWord r (Some Bang) = ⊥
IsRunWord r (Some End) = ⊥
