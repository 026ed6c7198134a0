-- Short and far: how few symbols a node needs, and how few are needed from a node to the end.
use Rattle.std.specs.Prelude.{◌≡◌, ℕ, ◌+◌, ◌<◌, ◌≤◌, Bool, cond, List, length, Some, None, Option, nat_le, slice_index, slice_index_or}
use Rattle.rules.specs.declared.node.Node.{Node}
use Rattle.rules.specs.declared.node.Join.TheVariants.{Chain as chain, Choice as choice}
use Rattle.rules.specs.declared.node.Form.{Form}
use Rattle.rules.specs.declared.node.Form.TheVariants.{Void as void, Nil as nil, Leaf as leaf, Join as join, Repeat as repeat}
use Rattle.rules.specs.Nodes.{form_at, WellFormed}
use Rattle.lockstep.specs.Next.{IsNext}

-- the sum, none if either is none
abbrev pub sum : Option ℕ → Option ℕ → Option ℕ
sum None b = None
sum (Some x) None = None
sum (Some x) (Some y) = Some (x + y)

-- the smaller one of those that are there
abbrev pub smaller : Option ℕ → Option ℕ → Option ℕ
smaller None b = b
smaller (Some x) None = Some x
smaller (Some x) (Some y) = Some (cond (nat_le x y) x y)

-- short of a node of this form, where `at` is short of its children and `possible` says which tests are possible
abbrev pub short_of : (ℕ → Bool) → Form → (ℕ → Option ℕ) → Option ℕ
short_of possible void at = None
short_of possible nil at = Some 0
short_of possible (leaf t) at = cond (possible t) (Some 1) None
short_of possible (join chain l r) at = sum (at l) (at r)
short_of possible (join choice l r) at = smaller (at l) (at r)
short_of possible (repeat c) at = Some 0

-- short is right at each node, where these tests are possible
abbrev pub IsShort : (ℕ → Bool) → List Node → (ℕ → Option ℕ) → Type 0
IsShort possible ns short = (p : ℕ) → p < length ns → short p ≡ short_of possible (form_at ns p) short

-- far is right at the end and at each node, where these tests are possible
pub record IsFar (possible : ℕ → Bool) (ns : List Node) (next : ℕ → ℕ) (far : ℕ → Option ℕ) : Type 0 where
  -- short of each node
  pub short : ℕ → Option ℕ
  pub is_short : IsShort possible ns short
  -- nothing is needed at the end
  pub end : far (length ns) ≡ Some 0
  -- a node needs its short, and then what its next needs
  pub step : (p : ℕ) → p < length ns → far p ≡ sum (short p) (far (next p))

-- a table of far, by a table of next, has an entry for each node and one for the end
abbrev pub FarTable : (ℕ → Bool) → List Node → List ℕ → List (Option ℕ) → Type 0
FarTable possible ns next far = (length far ≡ length ns + 1) × IsFar possible ns (λ q. slice_index next q) (λ q. slice_index_or far q None)

-- a number that is at most n, or none
abbrev pub AtMost : ℕ → Option ℕ → Type 0
AtMost n None = Unit {0}
AtMost n (Some k) = k ≤ n

-- any two fars of a well-formed list agree at each node and at the end
abbrev pub OneFar : Type 0
OneFar = (ns : List Node) → WellFormed ns → (possible : ℕ → Bool) (next next' : ℕ → ℕ) (far far' : ℕ → Option ℕ) → IsNext ns next → IsNext ns next' → IsFar possible ns next far → IsFar possible ns next' far' → (q : ℕ) → q ≤ length ns → far q ≡ far' q
