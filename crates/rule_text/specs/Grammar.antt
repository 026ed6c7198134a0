-- The grammar: which words give which node list.
use Rattle.std.specs.Prelude.{◌≡◌, ℕ, suc, ◌+◌, ◌<◌, List, [], ◌∷◌, ◌++◌, length, Some, Option}
use Rattle.rules.specs.declared.node.Join.TheVariants.{Chain, Choice}
use Rattle.rules.specs.declared.node.Node.{Node}
use Rattle.rules.specs.declared.node.Shape.{Shape}
use Rattle.rules.specs.declared.node.Shape.TheVariants.{Void, Nil, Leaf, Join, Repeat}
use Rattle.rules.specs.Nodes.{node}
use Rattle.rule_text.specs.Words.{Word, name, nil, void, open', close', bar, star, bang}

-- the children's nodes and then their parent
abbrev pub under : Shape → List Node → List Node
under x ns = ns ++ node x (length ns + 1) ∷ []

pub data Level : Type 0 where
  choice : Level
  chain : Level
  item : Level
  atom : Level

-- what a reading of names goes by: the test that each name stands for, how many names there are, and how deep brackets may stand
pub record Naming : Type 0 where
  pub test : List ℕ → Option ℕ
  pub count : ℕ
  pub depth : ℕ

-- `Gives m l d ws ns`: in d brackets, the words ws are a choice, a chain, an item or an atom, and ns is its node list
pub data Gives (m : Naming) : Level → ℕ → List (ℕ × Word) → List Node → Type 0 where
  -- an atom is a name, `!` and a name, `nil`, `void`, or a choice in brackets
  named : {d p t : ℕ} {x : List ℕ} → m.test x ≡ Some t → Gives m atom d ((p, name x) ∷ []) (node (Leaf t) 1 ∷ [])
  opposite : {d p q t : ℕ} {x : List ℕ} → m.test x ≡ Some t → Gives m atom d ((p, bang) ∷ (q, name x) ∷ []) (node (Leaf (m.count + t)) 1 ∷ [])
  is_nil : {d p : ℕ} → Gives m atom d ((p, nil) ∷ []) (node Nil 1 ∷ [])
  is_void : {d p : ℕ} → Gives m atom d ((p, void) ∷ []) (node Void 1 ∷ [])
  brackets : {d : ℕ} (p q : ℕ) {ws : List (ℕ × Word)} {ns : List Node} → d < m.depth → Gives m choice (suc d) ws ns → Gives m atom d ((p, open') ∷ (ws ++ (q, close') ∷ [])) ns
  -- an item is an atom, then any number of stars
  plain : {d : ℕ} {ws : List (ℕ × Word)} {ns : List Node} → Gives m atom d ws ns → Gives m item d ws ns
  starred : {d : ℕ} (p : ℕ) {ws : List (ℕ × Word)} {ns : List Node} → Gives m item d ws ns → Gives m item d (ws ++ (p, star) ∷ []) (under Repeat ns)
  -- a chain is one or more items, grouped to the left
  single : {d : ℕ} {ws : List (ℕ × Word)} {ns : List Node} → Gives m item d ws ns → Gives m chain d ws ns
  longer : {d : ℕ} {us vs : List (ℕ × Word)} {ls rs : List Node} → Gives m chain d us ls → Gives m item d vs rs → Gives m chain d (us ++ vs) (under (Join Chain) (ls ++ rs))
  -- a choice is one chain, then any number of bars and a chain, grouped to the left
  alone : {d : ℕ} {ws : List (ℕ × Word)} {ns : List Node} → Gives m chain d ws ns → Gives m choice d ws ns
  wider : {d : ℕ} (p : ℕ) {us vs : List (ℕ × Word)} {ls rs : List Node} → Gives m choice d us ls → Gives m chain d vs rs → Gives m choice d (us ++ (p, bar) ∷ vs) (under (Join Choice) (ls ++ rs))
