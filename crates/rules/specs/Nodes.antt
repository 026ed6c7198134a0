-- Node lists: what each node is, which lists are well formed, and how a list grows.
use Rattle.std.specs.Prelude.{◌≡◌, ℕ, ◌+◌, ◌-◌, ◌<◌, ◌≤◌, Bool, true, false, cond, List, [], ◌∷◌, ◌++◌, length, Some, None, codes, Option, ◌==◌, nat_le, nat_lt, slice_index_or}
use Rattle.std.specs.Option.{unwrap_or}
use Rattle.rules.specs.declared.node.Shape.{Shape}
use Rattle.rules.specs.declared.node.Shape.TheVariants.{Void, Nil, Leaf, Join, Repeat}
use Rattle.rules.specs.declared.node.Node.{Node}
use Rattle.rules.specs.declared.node.Join.TheVariants.{Chain, Choice}
use Rattle.rules.specs.declared.node.Form.{Form}
use Rattle.rules.specs.declared.node.Form.TheVariants.{Void as void, Nil as nil, Leaf as leaf, Join as join, Repeat as repeat}

abbrev pub node : Shape → ℕ → Node
node x s = record { shape = x; size = s }

-- what is read past the end of a list
abbrev pub no_node : Node
no_node = node Void 0

-- the shape and the size of node i
abbrev pub shape_at : List Node → ℕ → Shape
shape_at ns i = (slice_index_or ns i no_node).shape

abbrev pub size_at : List Node → ℕ → ℕ
size_at ns i = (slice_index_or ns i no_node).size

-- the size of a chain or a choice at i: its right child stands at i - 1, and its left child before all of the right one's part
abbrev pub joined_size : (ℕ → ℕ) → ℕ → Option ℕ
joined_size size i = cond (nat_lt (size (i - 1)) i) (Some (1 + (size (i - 1 - size (i - 1)) + size (i - 1)))) None

-- the size of a repeat at i: its child stands at i - 1
abbrev pub repeated_size : (ℕ → ℕ) → ℕ → Option ℕ
repeated_size size i = cond (nat_lt 0 i) (Some (1 + size (i - 1))) None

-- the size that a node of this shape has at i, by the sizes of the nodes before it; none where a child is not there
abbrev pub size_for : (ℕ → ℕ) → Shape → ℕ → Option ℕ
size_for size Void i = Some 1
size_for size Nil i = Some 1
size_for size (Leaf t) i = Some 1
size_for size (Join o) i = joined_size size i
size_for size Repeat i = repeated_size size i

abbrev pub is_size : ℕ → Option ℕ → Bool
is_size s None = false
is_size s (Some n) = s == n

-- node i, judged with those before it, has the size that its shape asks
abbrev pub fits_at : List Node → ℕ → Bool
fits_at ns i = is_size (size_at ns i) (size_for (size_at ns) (shape_at ns i) i)

-- each node fits
abbrev pub Fitting : List Node → Type 0
Fitting ns = (i : ℕ) → i < length ns → fits_at ns i ≡ true

-- the last node is the root of all: its part is the whole list
abbrev pub Rooted : List Node → Type 0
Rooted ns = (0 < length ns) × (size_at ns (length ns - 1) ≡ length ns)

-- the word for a node's kind
abbrev pub kind_word : Shape → List ℕ
kind_word Void = codes "void"
kind_word Nil = codes "nil"
kind_word (Leaf t) = codes "leaf"
kind_word (Join Chain) = codes "chain"
kind_word (Join Choice) = codes "choice"
kind_word Repeat = codes "repeat"

-- the test of a leaf; none of every other shape
abbrev pub leaf_test : Shape → Option ℕ
leaf_test Void = None
leaf_test Nil = None
leaf_test (Leaf t) = Some t
leaf_test (Join o) = None
leaf_test Repeat = None

-- the number that stands for a shape's test in records: 0 where it has none
abbrev pub test_of : Shape → ℕ
test_of x = unwrap_or (leaf_test x) 0

-- each test is at most 255
abbrev pub TestsFit : List Node → Type 0
TestsFit ns = (i : ℕ) → i < length ns → test_of (shape_at ns i) ≤ 255

-- whether a node of this shape has a test at or above a bound
abbrev pub test_from : ℕ → Shape → Bool
test_from bound Void = false
test_from bound Nil = false
test_from bound (Leaf t) = nat_le bound t
test_from bound (Join o) = false
test_from bound Repeat = false

-- the first node whose test is at or above a bound, if any
abbrev pub FirstTest : ℕ → List Node → Option ℕ → Type 0
FirstTest bound ns None = (i : ℕ) → i < length ns → test_from bound (shape_at ns i) ≡ false
FirstTest bound ns (Some i) = (i < length ns) × (test_from bound (shape_at ns i) ≡ true) × ((k : ℕ) → k < i → test_from bound (shape_at ns k) ≡ false)

-- a rule's list: fitting nodes, the last of them the root of all, 1 to 512 of them, and tests that fit
abbrev pub WellFormed : List Node → Type 0
WellFormed ns = Fitting ns × Rooted ns × (length ns ≤ 512) × TestsFit ns

-- what a node of this shape at i is, with its children's numbers, where s is the size of the node before it
abbrev pub form_of : Shape → ℕ → ℕ → Form
form_of Void i s = void
form_of Nil i s = nil
form_of (Leaf t) i s = leaf t
form_of (Join o) i s = join o (i - 1 - s) (i - 1)
form_of Repeat i s = repeat (i - 1)

-- what node i is; past the list it is void
abbrev pub form_at : List Node → ℕ → Form
form_at ns i = form_of (shape_at ns i) i (size_at ns (i - 1))

-- the list with a node of this shape at its end, over the last nodes; where its children are not there, the list as it is
abbrev pub with_node : List Node → Shape → Option ℕ → List Node
with_node ns x None = ns
with_node ns x (Some s) = ns ++ node x s ∷ []

abbrev pub grown : List Node → Shape → List Node
grown ns x = with_node ns x (size_for (size_at ns) x (length ns))
