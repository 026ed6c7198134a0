-- The first bit from the number on, in its word or in a later one.
use Rattle.std.proofs.Common.{arith, rules}
use Rattle.lockstep.proofs.Sets.{found_first, found_later, none_left}
use Rattle.lockstep.proofs.set.NodeSet.next_from.Goals as goal

pub returns-in-Some : goal.returns-in-Some
returns-in-Some c = found_first c.args.self.now.words c.args.n (search rules) c.in-Some.bit c.in-Some.ensures

pub returns-in-Some-lowest : goal.returns-in-Some-lowest
returns-in-Some-lowest c = found_later c.args.self.now.words c.args.n c.in_default.ensures c.loop-i.i (omega arith) c.loop-i.invariant c.in-Some-lowest.bit c.in-Some-lowest.ensures

pub returns : goal.returns
returns c = none_left c.args.self.now.words c.args.n c.in_default.ensures (λ k h l. c.loop-i.invariant k h (omega arith)) (omega arith)
