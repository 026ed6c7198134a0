-- Children: which node is a child of which, and that each node but the root is a child of one.
use Rattle.std.specs.Prelude.{◌≡◌, ℕ, ◌-◌, ◌<◌, List, length}
use Rattle.rules.specs.declared.node.Node.{Node}
use Rattle.rules.specs.declared.node.Join.{Join}
use Rattle.rules.specs.declared.node.Form.{Form}
use Rattle.rules.specs.declared.node.Form.TheVariants.{Join as join, Repeat as repeat}
use Rattle.rules.specs.Nodes.{form_at, WellFormed}

-- q is a child of p, where form says what each node is
pub data Kid (form : ℕ → Form) : ℕ → ℕ → Type 0 where
  left_kid : {p l r : ℕ} {o : Join} → form p ≡ join o l r → Kid form p l
  right_kid : {p l r : ℕ} {o : Join} → form p ≡ join o l r → Kid form p r
  only_kid : {p c : ℕ} → form p ≡ repeat c → Kid form p c

-- q has one parent, which stands later in the list
pub record HasOneParent (ns : List Node) (q : ℕ) : Type 0 where
  pub parent : ℕ
  pub kid : Kid (form_at ns) parent q
  pub later : q < parent
  pub within : parent < length ns
  pub only : (p : ℕ) → Kid (form_at ns) p q → p ≡ parent

-- each node of a well-formed list but the root has one parent
abbrev pub OneParent : Type 0
OneParent = (ns : List Node) → WellFormed ns → (q : ℕ) → q < length ns - 1 → HasOneParent ns q
