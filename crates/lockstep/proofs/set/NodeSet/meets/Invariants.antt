-- No word so far has a bit in both.
use Rattle.std.proofs.Common.{◌≡◌, ℕ, ◌<◌, get_or, bit_and}
use Rattle.std.specs.Int.{bit_at}
use Rattle.lockstep.proofs.set.NodeSet.meets.Given as goal

abbrev pub invariant-loop-i : goal.invariant-loop-i
invariant-loop-i l = (k : ℕ) → k < l.i → (j : ℕ) → bit_at (bit_and (get_or l.self.words k 0) (get_or l.other.words k 0)) j ≡ 0
