-- The words so far are of both, and the others as they were.
use Rattle.std.proofs.Common.{◌≡◌, ℕ, ◌<◌, ◌≤◌, length, get_or, bit_or}
use Rattle.lockstep.proofs.set.NodeSet.unite.Given as goal

abbrev pub invariant-loop-i : goal.invariant-loop-i
invariant-loop-i l =
    ((k : ℕ) → k < l.i → get_or l.self.words k 0 ≡ bit_or (get_or l.fn.self.words k 0) (get_or l.fn.other.words k 0))
    × ((k : ℕ) → l.i ≤ k → get_or l.self.words k 0 ≡ get_or l.fn.self.words k 0)
    × (length l.self.words ≡ 9)
