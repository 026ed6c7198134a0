-- Next of a node stands after it, and no further than the end; and there is one next.
use Rattle.std.proofs.Common.{◌≡◌, ℕ, ◌<◌, ◌≤◌, List, length, sym, ap, ◌∙◌, arith}
use Rattle.rules.specs.declared.node.Node.{Node}
use Rattle.rules.specs.declared.node.Join.{Join}
use Rattle.rules.specs.declared.node.Join.TheVariants.{Chain as chain, Choice as choice}
use Rattle.rules.specs.Children.{Kid, left_kid, right_kid, only_kid}
use Rattle.rules.specs.Nodes.{form_at, WellFormed}
use Rattle.rules.proofs.Spans.{spans, join_facts, repeat_facts, from_root}
use Rattle.lockstep.specs.Next.{after_left, IsNext}

module _ (ns : List Node) (w : WellFormed ns) (next : ℕ → ℕ) (N : IsNext ns next) where
  -- next of q stands after q, and no further than the end
  abbrev Later : ℕ → Type 0
  Later q = (q < next q) × (next q ≤ length ns)

  after : (p l r : ℕ) (o : Join) → l < r → r < p → p < length ns → Later p → next l ≡ after_left o r (next p) → Later l
  after p l r chain h1 h2 k j e = omega arith
  after p l r choice h1 h2 k j e = omega arith

  hands : (p q : ℕ) → Kid (form_at ns) p q → Later p → Later q
  hands p q (left_kid {l = l} {r = r} {o = o} e) j = let f = join_facts (spans ns w) p l r o e in after p l r o (omega arith) (omega arith) (omega arith) j (N.left p l r o e)
  hands p q (right_kid {l = l} {r = r} {o = o} e) j = let f = join_facts (spans ns w) p l r o e in omega (arith, N.right p l r o e)
  hands p q (only_kid {c = c} e) j = let f = repeat_facts (spans ns w) p c e in omega (arith, N.child p c e)

  pub next_later : (q : ℕ) → q < length ns → (q < next q) × (next q ≤ length ns)
  next_later = from_root (spans ns w) Later (omega (arith, N.root, w.1.0)) hands

  pub same_next : (next' : ℕ → ℕ) → IsNext ns next' → (q : ℕ) → q < length ns → next q ≡ next' q
  same_next next' M = from_root (spans ns w) (λ q. next q ≡ next' q) (N.root ∙ sym M.root) alike
    where
      alike : (p q : ℕ) → Kid (form_at ns) p q → next p ≡ next' p → next q ≡ next' q
      alike p q (left_kid {l = l} {r = r} {o = o} e) j = N.left p l r o e ∙ ap (after_left o r) j ∙ sym (M.left p l r o e)
      alike p q (right_kid {l = l} {r = r} {o = o} e) j = N.right p l r o e ∙ j ∙ sym (M.right p l r o e)
      alike p q (only_kid {c = c} e) j = N.child p c e ∙ sym (M.child p c e)
