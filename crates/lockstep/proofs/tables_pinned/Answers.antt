-- There is one next and one far.
use Rattle.lockstep.proofs.Pinned.{one_next, one_far}
use Rattle.lockstep.proofs.tables_pinned.Goals as goal

pub returns : goal.returns
returns c = record { next = one_next; far = one_far }
