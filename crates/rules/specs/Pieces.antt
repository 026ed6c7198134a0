-- Whole pieces: the sequences of symbols that each node of a list gives.
use Rattle.std.specs.Prelude.{◌≡◌, ℕ, ◌-◌, Bool, true, List, [], ◌∷◌, ◌++◌, length}
use Rattle.rules.specs.declared.node.Node.{Node}
use Rattle.rules.specs.declared.node.Join.TheVariants.{Chain as chain, Choice as choice}
use Rattle.rules.specs.declared.node.Form.TheVariants.{Nil as nil, Leaf as leaf, Join as join, Repeat as repeat}
use Rattle.rules.specs.Nodes.{form_at}

-- node i gives this sequence, where meets says which symbols meet each test; a void gives none
pub data Gives (S : Type 0) (meets : ℕ → S → Bool) (ns : List Node) : ℕ → List S → Type 0 where
  -- a nil gives the empty sequence
  empty : {i : ℕ} → form_at ns i ≡ nil → Gives S meets ns i []
  -- a leaf gives each single symbol that meets its test
  one : {i t : ℕ} {s : S} → form_at ns i ≡ leaf t → meets t s ≡ true → Gives S meets ns i (s ∷ [])
  -- a chain gives a sequence of its left child followed by one of its right child
  both : {i l r : ℕ} {u v : List S} → form_at ns i ≡ join chain l r → Gives S meets ns l u → Gives S meets ns r v → Gives S meets ns i (u ++ v)
  -- a choice gives what its left child gives
  left : {i l r : ℕ} {u : List S} → form_at ns i ≡ join choice l r → Gives S meets ns l u → Gives S meets ns i u
  -- a choice gives what its right child gives
  right : {i l r : ℕ} {u : List S} → form_at ns i ≡ join choice l r → Gives S meets ns r u → Gives S meets ns i u
  -- a repeat gives the empty sequence
  none : {i c : ℕ} → form_at ns i ≡ repeat c → Gives S meets ns i []
  -- a repeat gives a sequence of its child followed by one of the repeat
  more : {i c : ℕ} {u v : List S} → form_at ns i ≡ repeat c → Gives S meets ns c u → Gives S meets ns i v → Gives S meets ns i (u ++ v)

-- a piece is whole when the root gives it
abbrev pub Whole : (S : Type 0) → (ℕ → S → Bool) → List Node → List S → Type 0
Whole S meets ns piece = Gives S meets ns (length ns - 1) piece
