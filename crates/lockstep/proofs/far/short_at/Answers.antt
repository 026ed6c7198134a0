-- Short of a join is bounded by its children's sizes.
use Rattle.std.proofs.Common.{get_or, None, vec_items}
use Rattle.lockstep.proofs.Bounds.{kids_low}
use Rattle.lockstep.proofs.far.short_at.Goals as goal

pub add-requires : goal.add-requires
add-requires g c =
    let k = kids_low (vec_items c.args.rule.now.nodes) c.args.rule.now.formed c.args.p _ _ _ c.in-Join-Chain-default-default.ensures (λ q. get_or c.args.short.now q None) c.requires.low in
    record { a_low = k.0; b_low = k.1 }
