-- Records: nodes as plain numbers, which lists of them are taken and where the others are refused.
use Rattle.std.specs.Prelude.{◌≡◌, ℕ, ◌-◌, ◌<◌, ◌≤◌, List, [], ◌∷◌, ◌++◌, map, length, get_or, Some, None, Ok, Err, Option, Result, slice_index_or}
use Rattle.refusals.specs.declared.Fault.{Fault}
use Rattle.refusals.specs.declared.Refusal.TheVariants.{BadNodes}
use Rattle.rules.specs.declared.node.Join.TheVariants.{Chain, Choice}
use Rattle.rules.specs.declared.node.Shape.{Shape}
use Rattle.rules.specs.declared.node.Shape.TheVariants.{Void, Nil, Leaf, Join, Repeat}
use Rattle.rules.specs.declared.node.Node.{Node}
use Rattle.rules.specs.declared.record.Record.{Record}
use Rattle.rules.specs.Nodes.{node, no_node, size_at, size_for, WellFormed, test_of}

-- the number that tells each shape
abbrev pub code_of : Shape → ℕ
code_of Void = 0
code_of Nil = 1
code_of (Leaf t) = 2
code_of (Join Chain) = 3
code_of (Join Choice) = 4
code_of Repeat = 5

-- a node as plain numbers
abbrev pub record_of : Node → Record
record_of n = record { code = code_of n.shape; test = test_of n.shape; size = n.size }

-- x is the shape that a record's code and test tell; a test is at most 255
abbrev pub Tells : Record → Shape → Type 0
Tells r x = (r.code ≡ code_of x) × (r.test ≡ test_of x) × (r.test ≤ 255)

-- which shape a record's code and test tell, if any
abbrev pub ToldBy : Record → Option Shape → Type 0
ToldBy r None = (x : Shape) → Tells r x → ⊥
ToldBy r (Some x) = Tells r x

-- a record at i, where the nodes before it have these sizes, is good: its code and its test tell a shape, and its size is the one that the shape asks
pub record Good (size : ℕ → ℕ) (i : ℕ) (r : Record) : Type 0 where
  pub shape : Shape
  pub tells : Tells r shape
  pub fits : size_for size shape i ≡ Some r.size

-- what is read past the end of a list
abbrev pub no_record : Record
no_record = record_of no_node

-- the size of record i
abbrev pub size_in : List Record → ℕ → ℕ
size_in rs i = (get_or rs i no_record).size

-- record i is good, judged with those before it
abbrev pub GoodAt : List Record → ℕ → Type 0
GoodAt rs i = Good (size_in rs) i (slice_index_or rs i no_record)

-- the last record is the root of all
abbrev pub EndsInRoot : List Record → Type 0
EndsInRoot rs = (0 < length rs) × (size_in rs (length rs - 1) ≡ length rs)

-- where a list of records is refused
pub data BadAt (rs : List Record) (place : ℕ) : Type 0 where
  -- there are too many
  too_many : 512 < length rs → place ≡ 512 → BadAt rs place
  -- the record at the place is the first that is not good
  bad_record : length rs ≤ 512 → place < length rs → ((i : ℕ) → i < place → GoodAt rs i) → (GoodAt rs place → ⊥) → BadAt rs place
  -- each is good, and the last is not the root of all
  no_root : length rs ≤ 512 → place ≡ length rs → ((i : ℕ) → i < length rs → GoodAt rs i) → (EndsInRoot rs → ⊥) → BadAt rs place

-- the records are those of a well-formed list
abbrev pub RecordsOf : List Node → List Record → Type 0
RecordsOf ns rs = (map record_of ns ≡ rs) × WellFormed ns

-- what taking the records into a rule that holds the list old answers, and the list that it then holds
abbrev pub Takes : List Record → List Node → Result (Unit {0}) Fault → List Node → Type 0
Takes rs old (Ok done) new = RecordsOf new rs
Takes rs old (Err f) new = (f.refusal ≡ BadNodes) × BadAt rs f.place × (new ≡ old)

-- the node that a record tells at the end of a list, if the record is good there
abbrev pub NodeOf : List Node → Record → Option Node → Type 0
NodeOf ns r None = Good (size_at ns) (length ns) r → ⊥
NodeOf ns r (Some n) = Tells r n.shape × (size_for (size_at ns) n.shape (length ns) ≡ Some n.size) × (r.size ≡ n.size)

-- what adding a record's node to a list answers, and the list then: where the record is good its node stands at the end, and else the list stays
abbrev pub Adds : List Node → Record → Result (Unit {0}) Fault → List Node → Type 0
Adds ns r (Ok done) new = (g : Good (size_at ns) (length ns) r) × (new ≡ ns ++ node g.shape r.size ∷ [])
Adds ns r (Err f) new = (f ≡ record { refusal = BadNodes; place = length ns }) × (Good (size_at ns) (length ns) r → ⊥) × (new ≡ ns)

-- taking has one answer
abbrev pub OneAnswer : Type 0
OneAnswer = (rs : List Record) (old new new' : List Node) (r r' : Result (Unit {0}) Fault) → Takes rs old r new → Takes rs old r' new' → (r ≡ r') × (new ≡ new')

-- a rule's list that is given out as records and taken again, into any rule, is accepted and is that list
abbrev pub ComesBack : Type 0
ComesBack = (ns old new : List Node) (r : Result (Unit {0}) Fault) → WellFormed ns → Takes (map record_of ns) old r new → (r ≡ Ok tt) × (new ≡ ns)
