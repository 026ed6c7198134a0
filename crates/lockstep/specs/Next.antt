-- Next: the number of what follows a node, where the node count stands for the end.
use Rattle.std.specs.Prelude.{◌≡◌, ℕ, ◌-◌, ◌<◌, ◌≤◌, List, length, slice_index, slice_set}
use Rattle.rules.specs.declared.node.Node.{Node}
use Rattle.rules.specs.declared.node.Join.{Join}
use Rattle.rules.specs.declared.node.Join.TheVariants.{Chain as chain, Choice as choice}
use Rattle.rules.specs.declared.node.Form.{Form}
use Rattle.rules.specs.declared.node.Form.TheVariants.{Void as void, Nil as nil, Leaf as leaf, Join as join, Repeat as repeat}
use Rattle.rules.specs.Nodes.{form_at, WellFormed}

-- what follows the left child of a join whose right child is r, where k follows the join
abbrev pub after_left : Join → ℕ → ℕ → ℕ
after_left chain r k = r
after_left choice r k = k

-- next gives each node what follows it
pub record IsNext (ns : List Node) (next : ℕ → ℕ) : Type 0 where
  -- the end follows the root
  pub root : next (length ns - 1) ≡ length ns
  -- a chain's right child follows its left one, and what follows a choice follows its left child
  pub left : (p l r : ℕ) (o : Join) → form_at ns p ≡ join o l r → next l ≡ after_left o r (next p)
  -- what follows a chain or a choice follows its right child
  pub right : (p l r : ℕ) (o : Join) → form_at ns p ≡ join o l r → next r ≡ next p
  -- a repeat follows its child
  pub child : (p c : ℕ) → form_at ns p ≡ repeat c → next c ≡ p

-- a table of next has an entry for each node
abbrev pub NextTable : List Node → List ℕ → Type 0
NextTable ns next = (length next ≡ length ns) × IsNext ns (λ q. slice_index next q)

-- a table of next once p, a node of this form, has set the entries of its children
abbrev pub handed_down : Form → ℕ → List ℕ → List ℕ
handed_down void p next = next
handed_down nil p next = next
handed_down (leaf t) p next = next
handed_down (join o l r) p next = slice_set (slice_set next l (after_left o r (slice_index next p))) r (slice_index next p)
handed_down (repeat c) p next = slice_set next c p

-- a list has one next
pub record HasOneNext (ns : List Node) : Type 0 where
  -- it has a next
  pub some : (next : ℕ → ℕ) × IsNext ns next
  -- next of each node stands after it, and no further than the end
  pub later : (next : ℕ → ℕ) → IsNext ns next → (q : ℕ) → q < length ns → (q < next q) × (next q ≤ length ns)
  -- any two agree at each node
  pub only : (next next' : ℕ → ℕ) → IsNext ns next → IsNext ns next' → (q : ℕ) → q < length ns → next q ≡ next' q

-- each well-formed list has one next
abbrev pub OneNext : Type 0
OneNext = (ns : List Node) → WellFormed ns → HasOneNext ns
