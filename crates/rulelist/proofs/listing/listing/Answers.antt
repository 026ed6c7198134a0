-- The text is taken and its rule is listed, or it is refused and its fault is told.
use Rattle.std.proofs.Common.{vec_items}
use Rattle.rulelist.specs.Listing.{faulty, listed}
use Rattle.rulelist.proofs.Made.{made_so}
use Rattle.rulelist.proofs.listing.listing.Goals as goal

pub returns-in-Ok : goal.returns-in-Ok
returns-in-Ok c = made_so _ _ c.list_rule.result (λ s l. listed (vec_items c.read.new.rule.nodes) c.in-Ok.ensures.reading.reads l) c.list_rule.ensures

pub returns : goal.returns
returns c = made_so _ _ c.fault_line.result (λ s e. faulty c.in-Err.fault c.in-Err.ensures.reading.reads.1 e) c.fault_line.ensures
