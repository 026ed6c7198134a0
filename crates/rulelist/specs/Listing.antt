-- What the program prints, byte for byte.
use Rattle.std.specs.Prelude.{◌≡◌, ℕ, zero, suc, Bool, true, false, not, List, [], ◌∷◌, ◌++◌, length, Some, None, codes, decimal, Option, slice_index, slice_index_or}
use Rattle.lockstep.specs.Next.{NextTable}
use Rattle.lockstep.specs.Far.{FarTable}
use Rattle.refusals.specs.declared.Fault.{Fault}
use Rattle.refusals.specs.Table.{number_of, layer_of, name_of}
use Rattle.rules.specs.declared.node.Node.{Node}
use Rattle.rules.specs.Nodes.{no_node, kind_word, leaf_test}
use Rattle.rule_text.specs.Reading.{Taken, Refused}
use Rattle.symbols.specs.Bytes.{every_byte, is_every}
use Rattle.symbols.specs.Lists.{has_at}
use Rattle.symbols.specs.Turned.{turned_at}
use Rattle.symbols.specs.declared.bytes.ByteTest.{ByteTest}

-- fields parted by one space, and a newline
abbrev pub line : List (List ℕ) → List ℕ
line [] = codes "\n"
line (x ∷ []) = x ++ codes "\n"
line (x ∷ y ∷ xs) = x ++ (codes " " ++ line (y ∷ xs))

-- a number, or `-` where there is none
abbrev pub field : Option ℕ → List ℕ
field None = codes "-"
field (Some n) = decimal n

abbrev pub header : List ℕ
header = line (codes "node" ∷ codes "kind" ∷ codes "test" ∷ codes "size" ∷ codes "next" ∷ codes "far" ∷ [])

-- the line of node i
abbrev pub row : ℕ → Node → ℕ → Option ℕ → List ℕ
row i n next far = line (decimal i ∷ kind_word n.shape ∷ field (leaf_test n.shape) ∷ decimal n.size ∷ decimal next ∷ field far ∷ [])

-- the lines of the first k nodes
abbrev pub rows : List Node → List ℕ → List (Option ℕ) → ℕ → List ℕ
rows ns next far zero = []
rows ns next far (suc k) = rows ns next far k ++ row k (slice_index_or ns k no_node) (slice_index next k) (slice_index_or far k None)

-- the line of a fault
abbrev pub fault_line : Fault → List ℕ
fault_line f = line (codes "fault" ∷ decimal (number_of f.refusal) ∷ name_of (layer_of f.refusal) ∷ decimal f.place ∷ [])

-- the header, and a line for each node
abbrev pub listing : List Node → List ℕ → List (Option ℕ) → List ℕ
listing ns next far = header ++ rows ns next far (length ns)

-- the name list of the program: any, a, b
abbrev pub program_names : List (List ℕ)
program_names =
    (97 ∷ 110 ∷ 121 ∷ 0 ∷ 0 ∷ 0 ∷ 0 ∷ 0 ∷ 0 ∷ 0 ∷ 0 ∷ 0 ∷ 0 ∷ 0 ∷ 0 ∷ 0 ∷ [])
    ∷ (97 ∷ 0 ∷ 0 ∷ 0 ∷ 0 ∷ 0 ∷ 0 ∷ 0 ∷ 0 ∷ 0 ∷ 0 ∷ 0 ∷ 0 ∷ 0 ∷ 0 ∷ 0 ∷ [])
    ∷ (98 ∷ 0 ∷ 0 ∷ 0 ∷ 0 ∷ 0 ∷ 0 ∷ 0 ∷ 0 ∷ 0 ∷ 0 ∷ 0 ∷ 0 ∷ 0 ∷ 0 ∷ 0 ∷ [])
    ∷ []

-- the tests of these names: bytes 0 to 255, 97 and 98
abbrev pub letter_tests : List ByteTest
letter_tests = every_byte ∷ record { lowest = 97; highest = 97 } ∷ record { lowest = 98; highest = 98 } ∷ []

-- which tests some byte meets, where these tests are turned
abbrev pub possible : List ByteTest → ℕ → Bool
possible tests t = turned_at (length tests) (has_at (λ _. true) tests) (λ u. not (has_at is_every tests u)) false t

-- what is printed for a rule's list
pub record Lists (ns : List Node) (bytes : List ℕ) : Type 0 where
  pub next : List ℕ
  pub far : List (Option ℕ)
  pub is_next : NextTable ns next
  pub is_far : FarTable (possible letter_tests) ns next far
  pub is : bytes ≡ listing ns next far

-- what the program prints for a text: the line of its fault, or the listing of its rule
pub data Prints (text bytes : List ℕ) : Type 0 where
  faulty : (f : Fault) → Refused program_names text f → bytes ≡ fault_line f → Prints text bytes
  listed : (ns : List Node) → Taken program_names text ns → Lists ns bytes → Prints text bytes
