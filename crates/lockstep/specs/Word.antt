-- The word of a node: the tests of the shortest sequence that it needs.
use Rattle.std.specs.Prelude.{◌≡◌, ℕ, ◌<◌, Bool, cond, List, [], ◌∷◌, ◌++◌, length, Some, None, Option, nat_le}
use Rattle.rules.specs.declared.node.Node.{Node}
use Rattle.rules.specs.declared.node.Join.TheVariants.{Chain as chain, Choice as choice}
use Rattle.rules.specs.declared.node.Form.{Form}
use Rattle.rules.specs.declared.node.Form.TheVariants.{Void as void, Nil as nil, Leaf as leaf, Join as join, Repeat as repeat}
use Rattle.rules.specs.Nodes.{form_at, WellFormed}
use Rattle.lockstep.specs.Far.{IsShort}

-- both in turn, none if either is none
abbrev pub in_turn : Option (List ℕ) → Option (List ℕ) → Option (List ℕ)
in_turn None b = None
in_turn (Some x) None = None
in_turn (Some x) (Some y) = Some (x ++ y)

-- the shorter one of those that are there, the left if they are equally long
abbrev pub shorter : Option (List ℕ) → Option (List ℕ) → Option (List ℕ)
shorter None b = b
shorter (Some x) None = Some x
shorter (Some x) (Some y) = Some (cond (nat_le (length x) (length y)) x y)

-- the word of a node of this form, where `at` is the word of its children and `possible` says which tests are possible
abbrev pub word_of : (ℕ → Bool) → Form → (ℕ → Option (List ℕ)) → Option (List ℕ)
word_of possible void at = None
word_of possible nil at = Some []
word_of possible (leaf t) at = cond (possible t) (Some (t ∷ [])) None
word_of possible (join chain l r) at = in_turn (at l) (at r)
word_of possible (join choice l r) at = shorter (at l) (at r)
word_of possible (repeat c) at = Some []

-- word is right at each node, where these tests are possible
abbrev pub IsWord : (ℕ → Bool) → List Node → (ℕ → Option (List ℕ)) → Type 0
IsWord possible ns word = (p : ℕ) → p < length ns → word p ≡ word_of possible (form_at ns p) word

-- any two words of a well-formed list agree at each node
abbrev pub OneWord : Type 0
OneWord = (ns : List Node) → WellFormed ns → (possible : ℕ → Bool) (word word' : ℕ → Option (List ℕ)) → IsWord possible ns word → IsWord possible ns word' → (p : ℕ) → p < length ns → word p ≡ word' p

-- the length of a word, if there is one
abbrev pub length_of : Option (List ℕ) → Option ℕ
length_of None = None
length_of (Some x) = Some (length x)

-- a node has a word exactly where it has a short, and the short is the word's length
abbrev pub ShortOfWord : Type 0
ShortOfWord = (ns : List Node) → WellFormed ns → (possible : ℕ → Bool) (short : ℕ → Option ℕ) (word : ℕ → Option (List ℕ)) → IsShort possible ns short → IsWord possible ns word → (p : ℕ) → p < length ns → short p ≡ length_of (word p)
