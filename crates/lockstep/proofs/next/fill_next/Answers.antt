-- Each node hands down.
use Rattle.std.proofs.Common.{length, vec_items, ap, arith}
use Rattle.lockstep.proofs.Handing.{set_more}
use Rattle.lockstep.proofs.next.fill_next.Goals as goal

pub loop-p-preserved : goal.loop-p-preserved
loop-p-preserved c =
    let count = ap length c.nodes-count.ensures in
    set_more (vec_items c.args.rule.now.nodes) c.args.rule.now.formed c.loop-p.p c.loop-p.next c.hand_down.new.next (omega arith) (omega arith) c.hand_down.ensures c.loop-p.invariant
