-- One more entry is pushed.
use Rattle.std.proofs.Common.{[], ◌∷◌, ◌++◌, ap, ◌∙◌, arith}
use Rattle.std.proofs.lemmas.List.{replicate_more}
use Rattle.lockstep.proofs.tables.refill.Goals as goal

pub loop-preserved : goal.loop-preserved
loop-preserved g c = (
  c.push_reserved.ensures.items ∙ ap (λ xs. xs ++ c.args.value ∷ []) c.loop.invariant.0 ∙ replicate_more c.loop.counter c.args.value,
  omega arith,
  omega arith,
)
