-- Each word is of both.
use Rattle.std.proofs.Common.{arith}
use Rattle.lockstep.proofs.Sets.{put_all}
use Rattle.lockstep.proofs.set.NodeSet.unite.Goals as goal

pub returns : goal.returns
returns c m = put_all c.args.self.now.words c.args.other.now.words c.loop-i.self.words m (λ k h. c.loop-i.invariant.0 k (omega arith)) (omega arith) (omega arith) c.loop-i.invariant.2
