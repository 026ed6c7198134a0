-- The text of a rule: how each part is written, and where brackets stand.
use Rattle.std.specs.Prelude.{ℕ, suc, ◌+◌, ◌-◌, ◌<◌, max, Bool, true, false, cond, List, [], ◌∷◌, ◌++◌, length, codes, ◌==◌, slice_index_or}
use Rattle.rules.specs.declared.node.Join.{Join as Joining}
use Rattle.rules.specs.declared.node.Join.TheVariants.{Chain, Choice}
use Rattle.rules.specs.declared.node.Node.{Node}
use Rattle.rules.specs.declared.node.Shape.TheVariants.{Void, Nil, Leaf, Join, Repeat}
use Rattle.rules.specs.Nodes.{node}
use Rattle.rule_text.specs.Words.{front}
use Rattle.rule_text.specs.Grammar.{under}
use Rattle.rule_writing.specs.declared.place.Place.{Place}
use Rattle.rule_writing.specs.declared.place.Place.TheVariants.{Whole, Left, Right, Repeated}

-- the name of entry t, without its fill
abbrev pub name_at : List (List ℕ) → ℕ → List ℕ
name_at names t = front (slice_index_or names t [])

-- what stands between the two parts of a chain, and of a choice
abbrev pub between : Joining → List ℕ
between Chain = codes " "
between Choice = codes " | "

-- whether a chain or a choice needs brackets where it stands
abbrev pub needs_brackets : Place → Joining → Bool
needs_brackets Whole j = false
needs_brackets (Left Chain) Chain = false
needs_brackets (Left Chain) Choice = true
needs_brackets (Left Choice) j = false
needs_brackets (Right Chain) j = true
needs_brackets (Right Choice) Chain = false
needs_brackets (Right Choice) Choice = true
needs_brackets Repeated j = true

-- a text, in brackets where they are needed
abbrev pub in_brackets : Bool → List ℕ → List ℕ
in_brackets true text = codes "(" ++ (text ++ codes ")")
in_brackets false text = text

-- `Writes names place ns text`: a part with the node list ns is written as this text, where it stands at this place
pub data Writes (names : List (List ℕ)) : Place → List Node → List ℕ → Type 0 where
  -- a leaf is a name, or `!` and a name
  named : {place : Place} {t : ℕ} → t < length names → Writes names place (node (Leaf t) 1 ∷ []) (name_at names t)
  opposite : {place : Place} {t : ℕ} → t < length names → Writes names place (node (Leaf (length names + t)) 1 ∷ []) (codes "!" ++ name_at names t)
  is_nil : {place : Place} → Writes names place (node Nil 1 ∷ []) (codes "nil")
  is_void : {place : Place} → Writes names place (node Void 1 ∷ []) (codes "void")
  -- a repeat is its child and a star
  starred : {place : Place} {ns : List Node} {text : List ℕ} → Writes names Repeated ns text → Writes names place (under Repeat ns) (text ++ codes "*")
  -- a chain or a choice is its left child, what stands between, and its right child, in brackets where it needs them
  joined : {place : Place} {j : Joining} {ls rs : List Node} {left right : List ℕ} → Writes names (Left j) ls left → Writes names (Right j) rs right → Writes names place (under (Join j) (ls ++ rs)) (in_brackets (needs_brackets place j) (left ++ (between j ++ right)))

-- the text of a rule's list
abbrev pub IsText : List (List ℕ) → List Node → List ℕ → Type 0
IsText names ns text = Writes names Whole ns text

-- the most brackets that stand open at once in a text that itself stands in d of them
abbrev pub nesting : ℕ → List ℕ → ℕ
nesting d [] = d
nesting d (b ∷ bs) = cond (b == 40) (nesting (suc d) bs) (cond (b == 41) (max d (nesting (d - 1) bs)) (nesting d bs))

-- how many brackets open in a text
abbrev pub brackets_in : List ℕ → ℕ
brackets_in [] = 0
brackets_in (b ∷ bs) = cond (b == 40) (suc (brackets_in bs)) (brackets_in bs)
