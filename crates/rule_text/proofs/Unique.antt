-- The words of a rule have one node list.
use Rattle.std.proofs.Common.{◌≡◌, ℕ, ◌+◌, ◌<◌, List, [], ◌∷◌, ◌++◌, length, unwrap_or, sym, refl, ap, ◌∙◌, arith}
use Rattle.rules.specs.declared.node.Join.TheVariants.{Chain, Choice}
use Rattle.rules.specs.declared.node.Node.{Node}
use Rattle.rules.specs.declared.node.Shape.{Shape}
use Rattle.rules.specs.declared.node.Shape.TheVariants.{Void as VoidShape, Nil as NilShape, Leaf, Join, Repeat}
use Rattle.rules.specs.Nodes.{node}
use Rattle.rule_text.specs.Words.{Word, name, nil, void, open', close', bar, star, bang, no_name, stray}
use Rattle.rule_text.specs.Grammar.{Level, choice, chain, item, atom, Naming, Gives, named, opposite, is_nil, is_void, brackets, plain, starred, single, longer, alone, wider, under}
use Rattle.rule_text.proofs.Drafting.{gives_rooted}

-- in one pair of brackets: the chains so far, the items so far, the last item, and how much `!` adds to the next test
abbrev Frame : Type 0
Frame = List Node × List Node × List Node × ℕ

abbrev joined : Shape → List Node → List Node → List Node
joined s [] rs = rs
joined s (l ∷ ls) rs = under s ((l ∷ ls) ++ rs)

abbrev on_atom : List Node → Frame → Frame
on_atom ns f = (f.0, joined (Join Chain) f.1 f.2, ns, 0)

abbrev all_of : Frame → List Node
all_of f = joined (Join Choice) f.0 (joined (Join Chain) f.1 f.2)

abbrev none : Frame
none = ([], [], [], 0)

module _ (m : Naming) where
  abbrev test_of : List ℕ → ℕ
  test_of x = unwrap_or (m.test x) 0

  abbrev go : List Frame → Word → List Frame
  go [] w = []
  go (f ∷ s) (name x) = on_atom (node (Leaf (f.3 + test_of x)) 1 ∷ []) f ∷ s
  go (f ∷ s) nil = on_atom (node NilShape 1 ∷ []) f ∷ s
  go (f ∷ s) void = on_atom (node VoidShape 1 ∷ []) f ∷ s
  go (f ∷ s) open' = none ∷ f ∷ s
  go (f ∷ []) close' = f ∷ []
  go (f ∷ g ∷ s) close' = on_atom (all_of f) g ∷ s
  go (f ∷ s) bar = (all_of f, [], [], 0) ∷ s
  go (f ∷ s) star = (f.0, f.1, under Repeat f.2, 0) ∷ s
  go (f ∷ s) bang = (f.0, f.1, f.2, m.count) ∷ s
  go (f ∷ s) no_name = f ∷ s
  go (f ∷ s) stray = f ∷ s

  abbrev eval : List Frame → List (ℕ × Word) → List Frame
  eval s [] = s
  eval s (w ∷ ws) = eval (go s w.1) ws

  eval_append : (s : List Frame) (us vs : List (ℕ × Word)) → eval s (us ++ vs) ≡ eval (eval s us) vs
  eval_append s [] vs = refl
  eval_append s (u ∷ us) vs = eval_append (go s u.1) us vs

  joined_is : (s : Shape) (ls rs : List Node) → 0 < length ls → joined s ls rs ≡ under s (ls ++ rs)
  joined_is s [] rs k = absurd (omega arith)
  joined_is s (l ∷ ls) rs k = refl

  -- before an atom no `!` stands open
  abbrev Evals : Level → List (ℕ × Word) → List Node → Type 0
  Evals atom ws ns = (a b c : List Node) (s : List Frame) → eval ((a, b, c, 0) ∷ s) ws ≡ on_atom ns (a, b, c, 0) ∷ s
  Evals item ws ns = (a b c : List Node) (s : List Frame) → eval ((a, b, c, 0) ∷ s) ws ≡ on_atom ns (a, b, c, 0) ∷ s
  Evals chain ws ns = (a : List Node) (s : List Frame) → (r : List Node) × (l : List Node) × (joined (Join Chain) r l ≡ ns) × (eval ((a, [], [], 0) ∷ s) ws ≡ (a, r, l, 0) ∷ s)
  Evals choice ws ns = (s : List Frame) → (a : List Node) × (b : List Node) × (c : List Node) × (all_of (a, b, c, 0) ≡ ns) × (eval (none ∷ s) ws ≡ (a, b, c, 0) ∷ s)

  evals : {l : Level} {d : ℕ} {ws : List (ℕ × Word)} {ns : List Node} → Gives m l d ws ns → Evals l ws ns
  evals (named {t = t} {x = x} e) = λ a b c s.
      let k : 0 + test_of x ≡ t = omega (arith, ap (λ o. unwrap_or o 0) e) in
      ap (λ n. on_atom (node (Leaf n) 1 ∷ []) (a, b, c, 0) ∷ s) k
  evals (opposite {t = t} {x = x} e) = λ a b c s. ap (λ n. on_atom (node (Leaf (m.count + n)) 1 ∷ []) (a, b, c, 0) ∷ s) (ap (λ o. unwrap_or o 0) e)
  evals is_nil = λ a b c s. refl
  evals is_void = λ a b c s. refl
  evals (brackets p q {ws = ws} k g) = λ a b c s.
      let x = evals g ((a, b, c, 0) ∷ s) in
      eval_append (none ∷ (a, b, c, 0) ∷ s) ws ((q, close') ∷ []) ∙ ap (λ t. eval t ((q, close') ∷ [])) x.4 ∙ ap (λ ns. on_atom ns (a, b, c, 0) ∷ s) x.3
  evals (plain g) = evals g
  evals (starred p {ws = ws} g) = λ a b c s. eval_append ((a, b, c, 0) ∷ s) ws ((p, star) ∷ []) ∙ ap (λ t. eval t ((p, star) ∷ [])) (evals g a b c s)
  evals (single {ns = ns} g) = λ a s. ([], ns, refl, evals g a [] [] s)
  evals (longer {us = us} {vs = vs} {ls = ls} {rs = rs} g h) = λ a s.
      let x = evals g a s in
      (ls, rs, joined_is (Join Chain) ls rs (gives_rooted g).0, eval_append ((a, [], [], 0) ∷ s) us vs ∙ ap (λ t. eval t vs) x.3 ∙ evals h a x.0 x.1 s ∙ ap (λ (y : List Node). (a, y, rs, 0) ∷ s) x.2)
  evals (alone g) = λ s. let x = evals g [] s in ([], x.0, x.1, x.2, x.3)
  evals (wider p {us = us} {vs = vs} {ls = ls} {rs = rs} g h) = λ s.
      let x = evals g s in
      let y = evals h ls s in
      (ls, y.0, y.1, ap (joined (Join Choice) ls) y.2 ∙ joined_is (Join Choice) ls rs (gives_rooted g).0, eval_append (none ∷ s) us ((p, bar) ∷ vs) ∙ ap (λ t. eval t ((p, bar) ∷ vs)) x.4 ∙ ap (λ (z : List Node). eval ((z, [], [], 0) ∷ s) vs) x.3 ∙ y.3)

  abbrev top : List Frame → List Node
  top [] = []
  top (f ∷ s) = all_of f

  pub one_list : {d : ℕ} {ws : List (ℕ × Word)} {ns ms : List Node} → Gives m choice d ws ns → Gives m choice d ws ms → ns ≡ ms
  one_list g h =
      let x = evals g [] in
      let y = evals h [] in
      sym x.3 ∙ ap top (sym x.4 ∙ y.4) ∙ y.3
