-- No word so far has a bit.
use Rattle.lockstep.proofs.Sets.{ClearTo}
use Rattle.lockstep.proofs.set.NodeSet.next_from.Given as goal

abbrev pub invariant-loop-i : goal.invariant-loop-i
invariant-loop-i l = ClearTo l.self.words l.n l.i
