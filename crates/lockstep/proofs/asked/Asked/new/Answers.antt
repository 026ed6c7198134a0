-- Nothing is known at first.
use Rattle.lockstep.proofs.Asking.{nothing_known}
use Rattle.lockstep.proofs.asked.Asked.new.Goals as goal

pub invariant_of-result : goal.invariant_of-result
invariant_of-result g c = record { right = λ t b is. (let none = nothing_known 256 t in cc) }
