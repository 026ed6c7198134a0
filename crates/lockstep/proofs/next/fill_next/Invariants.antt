-- The nodes from p on have set their children's entries.
use Rattle.std.proofs.Common.{vec_items}
use Rattle.lockstep.proofs.Handing.{SetFrom}
use Rattle.lockstep.proofs.next.fill_next.Given as goal

abbrev pub invariant-loop-p : goal.invariant-loop-p
invariant-loop-p l = SetFrom (vec_items l.rule.nodes) l.next l.p
