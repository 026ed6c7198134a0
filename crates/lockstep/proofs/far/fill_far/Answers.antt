-- What follows a node is in the table already, and low enough to be added; each node adds its own.
use Rattle.std.proofs.Common.{◌-◌, length, get_or, None, vec_items, ap, arith}
use Rattle.lockstep.proofs.Later.{next_later}
use Rattle.lockstep.proofs.Adding.{next_low, added_more}
use Rattle.lockstep.proofs.far.fill_far.Goals as goal

pub slice_copy_out-add : goal.slice_copy_out-add
slice_copy_out-add c =
    let count = ap length c.nodes-count.ensures in
    omega (arith, next_later (vec_items c.args.rule.now.nodes) c.args.rule.now.formed (λ q. get_or c.args.next.now q 0) c.requires.next.1 (c.loop-p.p - 1) (omega arith), c.loop-p.invariant.long)

pub add-requires-clause-b_low : goal.add-requires-clause-b_low
add-requires-clause-b_low c =
    let count = ap length c.nodes-count.ensures in
    next_low (vec_items c.args.rule.now.nodes) c.args.rule.now.formed (λ q. get_or c.args.next.now q 0) c.requires.next.1 (λ q. get_or c.args.short.now q None) c.requires.low c.loop-p.p c.loop-p.far (omega arith) (omega arith) c.loop-p.invariant

pub loop-p-preserved : goal.loop-p-preserved
loop-p-preserved c =
    let count = ap length c.nodes-count.ensures in
    added_more (vec_items c.args.rule.now.nodes) c.args.rule.now.formed (λ q. get_or c.args.next.now q 0) c.requires.next.1 (λ q. get_or c.args.short.now q None) c.requires.low c.loop-p.p c.loop-p.far (omega arith) (omega arith) c.loop-p.invariant c.add.result c.add.ensures
