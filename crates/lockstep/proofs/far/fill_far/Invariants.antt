-- The entries from p on add up.
use Rattle.std.proofs.Common.{get_or, None, vec_items}
use Rattle.lockstep.proofs.Adding.{AddedFrom}
use Rattle.lockstep.proofs.far.fill_far.Given as goal

abbrev pub invariant-loop-p : goal.invariant-loop-p
invariant-loop-p l = AddedFrom (vec_items l.rule.nodes) (λ q. get_or l.next q 0) (λ q. get_or l.short q None) l.far l.p
