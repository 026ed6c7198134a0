-- Bounds of sums, and of short of the children of a join.
use Rattle.std.proofs.Common.{◌≡◌, ℕ, ◌+◌, ◌^◌, ◌<◌, ◌≤◌, List, Some, None, Option, sym, arith}
use Rattle.rules.specs.declared.node.Node.{Node}
use Rattle.rules.specs.declared.node.Join.{Join}
use Rattle.rules.specs.declared.node.Form.TheVariants.{Join as join}
use Rattle.rules.specs.Nodes.{form_at, size_at, WellFormed}
use Rattle.rules.proofs.Sizes.{size_within}
use Rattle.rules.proofs.Spans.{spans, join_facts}
use Rattle.lockstep.specs.Far.{sum, AtMost}

pub at_most_more : (m n : ℕ) (o : Option ℕ) → m ≤ n → AtMost m o → AtMost n o
at_most_more m n None h f = tt
at_most_more m n (Some k) h f = omega arith

pub sum_at_most : (m n : ℕ) (a b : Option ℕ) → AtMost m a → AtMost n b → AtMost (m + n) (sum a b)
sum_at_most m n None b f g = tt
sum_at_most m n (Some x) None f g = tt
sum_at_most m n (Some x) (Some y) f g = omega arith

module _ (ns : List Node) (w : WellFormed ns) (p l r : ℕ) (o : Join) (e : join o l r ≡ form_at ns p) (short : ℕ → Option ℕ) (low : (q : ℕ) → q < p → AtMost (size_at ns q) (short q)) where
  left_low : AtMost (size_at ns l) (short l)
  left_low = let f = join_facts (spans ns w) p l r o (sym e) in low l (omega arith)

  right_low : AtMost (size_at ns r) (short r)
  right_low = let f = join_facts (spans ns w) p l r o (sym e) in low r (omega arith)

  pub kids_low : AtMost (2 ^ 20) (short l) × AtMost (2 ^ 20) (short r)
  kids_low =
      let f = join_facts (spans ns w) p l r o (sym e) in (
        at_most_more _ _ (short l) (omega (arith, size_within ns w.0 l (omega arith), w.2)) left_low,
        at_most_more _ _ (short r) (omega (arith, size_within ns w.0 r (omega arith), w.2)) right_low,
      )
