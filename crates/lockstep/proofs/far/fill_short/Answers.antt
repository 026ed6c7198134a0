-- One more entry is pushed.
use Rattle.std.proofs.Common.{◌≡◌, length, get_or, None, vec_items, ap, ◌∙◌, arith}
use Rattle.rules.specs.Nodes.{form_at, size_at}
use Rattle.rules.proofs.Sizes.{size_within}
use Rattle.lockstep.specs.Far.{short_of, AtMost}
use Rattle.lockstep.proofs.Pushes.{pushed_each}
use Rattle.lockstep.proofs.Bounds.{at_most_more}
use Rattle.lockstep.proofs.Shorts.{short_more}
use Rattle.lockstep.proofs.far.fill_short.Goals as goal

pub loop-p-preserved : goal.loop-p-preserved
loop-p-preserved g c =
    let ns = vec_items c.args.rule.now.nodes in
    let old = vec_items c.loop-p.short in
    let own = c.short_at-own.result in
    let at : length old ≡ c.loop-p.p = omega arith in
    let read = c.deref.ensures.value in
    let same = c.loop-p.invariant.0 in
    let value : own ≡ short_of (g.K.Kind.can_meet c.args.kind.now) (form_at ns (length old)) (λ q. get_or old q None) = rw (at, ← read, ← same) c.short_at-own.ensures.value in (
      c.short_at-own.ensures.kind ∙ same,
      omega arith,
      omega arith,
      λ k h. short_more ns c.args.rule.now.formed (g.K.Kind.can_meet c.args.kind.now) old (vec_items c.push_reserved.new.self) own c.push_reserved.ensures.items (λ k h. c.loop-p.invariant.3 k (omega arith)) value k (omega arith),
      λ k h. pushed_each (λ k x. AtMost (size_at ns k) x) old (vec_items c.push_reserved.new.self) own None c.push_reserved.ensures.items (λ k h. c.loop-p.invariant.4 k (omega arith)) (rw at c.short_at-own.ensures.low) k (omega arith),
    )

pub returns-clause-low : goal.returns-clause-low
returns-clause-low g c q h =
    let count = ap length c.nodes-p-end.ensures in
    at_most_more _ _ (get_or (vec_items c.loop-p.short) q None) (omega (arith, size_within (vec_items c.args.rule.now.nodes) c.args.rule.now.formed.0 q h, c.args.rule.now.formed.2)) (c.loop-p.invariant.4 q (omega arith))
