-- Each node but the root has one parent.
use Rattle.rules.proofs.Spans.{parents}
use Rattle.rules.proofs.structure_stands.Goals as goal

pub returns : goal.returns
returns c = parents
