-- So many numbers are below the one where the search goes on, and none of them is too many.
use Rattle.std.proofs.Common.{◌≡◌, ◌-◌, ◌≤◌}
use Rattle.lockstep.specs.Sets.{count_below}
use Rattle.lockstep.proofs.set.NodeSet.count_below.Given as goal

abbrev pub invariant-loop-n : goal.invariant-loop-n
invariant-loop-n l = (l.count ≡ count_below l.self.words l.from) × (l.count ≤ l.from) × (l.from ≤ 576) × (l.from ≤ l.bound)

abbrev pub decreases-loop-n : goal.decreases-loop-n
decreases-loop-n l = 577 - l.from
