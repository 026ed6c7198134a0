-- Parts of a rule's list: what the inner functions write of each.
use Rattle.std.specs.Prelude.{◌≡◌, ℕ, zero, suc, ◌+◌, ◌-◌, ◌*◌, ◌≤◌, max, Bool, true, false, cond, List, [], ◌++◌, length, take, drop, None, Ok, Err, codes, Result, nat_lt}
use Rattle.refusals.specs.declared.Fault.{Fault}
use Rattle.rules.specs.declared.node.Node.{Node}
use Rattle.rules.specs.declared.node.Form.{Form}
use Rattle.rules.specs.declared.node.Form.TheVariants.{Void, Nil, Leaf, Join, Repeat}
use Rattle.rules.specs.Nodes.{FirstTest, form_at, size_at}
use Rattle.rule_writing.specs.declared.place.Place.{Place}
use Rattle.rule_writing.specs.declared.place.Place.TheVariants.{Left, Right, Repeated}
use Rattle.rule_writing.specs.Texts.{name_at, between, needs_brackets, in_brackets, nesting}
use Rattle.rule_writing.specs.Writing.{Unfit}

-- what is written of a leaf: the name of its test, or `!` and the name of the test that its own is the opposite of
abbrev pub leaf_text : List (List ℕ) → ℕ → List ℕ
leaf_text names t = cond (nat_lt t (length names)) (name_at names t) (codes "!" ++ name_at names (t - length names))

-- what is written of a node of this form at a place, where `at` is what is written of its children
abbrev pub text_of : List (List ℕ) → Place → Form → (Place → ℕ → List ℕ) → List ℕ
text_of names place Void at = codes "void"
text_of names place Nil at = codes "nil"
text_of names place (Leaf t) at = leaf_text names t
text_of names place (Join j l r) at = in_brackets (needs_brackets place j) (at (Left j) l ++ (between j ++ at (Right j) r))
text_of names place (Repeat c) at = at Repeated c ++ codes "*"

abbrev pub text_within : List (List ℕ) → List Node → ℕ → Place → ℕ → List ℕ
text_within names ns zero place p = []
text_within names ns (suc f) place p = text_of names place (form_at ns p) (text_within names ns f)

-- what is written of node p of a list, where it stands at a place
unfoldable pub text_at : List (List ℕ) → List Node → Place → ℕ → List ℕ
text_at names ns place p = text_within names ns (suc p) place p

-- the nodes of the part that ends with node p
abbrev pub part : List Node → ℕ → List Node
part ns p = take (size_at ns p) (drop (suc p - size_at ns p) ns)

-- the brackets of a text stand h deep
abbrev pub Deep : List ℕ → ℕ → Type 0
Deep text h = (d : ℕ) (after : List ℕ) → nesting d (text ++ after) ≡ max (d + h) (nesting d after)

-- one deeper in brackets
abbrev pub height_in : Bool → ℕ → ℕ
height_in true h = suc h
height_in false h = h

-- two bytes longer in brackets
abbrev pub length_in : Bool → ℕ → ℕ
length_in true n = n + 2
length_in false n = n

-- the text of node p has so many bytes and so deep brackets, and neither is out of hand
pub record Measured (names : List (List ℕ)) (ns : List Node) (place : Place) (p bytes depth : ℕ) : Type 0 where
  pub long : bytes ≡ length (text_at names ns place p)
  pub deep : Deep (text_at names ns place p) depth
  pub few : bytes ≤ 17 * size_at ns p
  pub flat : depth ≤ size_at ns p

-- a memory with a text written over it from a place on
abbrev pub overwritten : List ℕ → ℕ → List ℕ → List ℕ
overwritten memory at text = take at memory ++ (text ++ drop (length text) (drop at memory))

-- the text is written over a memory from a place on, and `end` is the place behind it
pub record Puts (text before : List ℕ) (at : ℕ) (after : List ℕ) (end : ℕ) : Type 0 where
  pub bytes : after ≡ overwritten before at text
  pub ends : end ≡ at + length text

-- each test of a list has a name
abbrev pub AllNamed : List (List ℕ) → List Node → Type 0
AllNamed names ns = FirstTest (2 * length names) ns None

-- what judging a text's extent tells
abbrev pub Judges : ℕ → ℕ → ℕ → Result (Unit {0}) Fault → Type 0
Judges bytes depth room (Ok u) = (depth ≤ 16) × (bytes ≤ 4096) × (bytes ≤ room)
Judges bytes depth room (Err f) = Unfit bytes depth room f
