-- What the drafting does, and that its definitions leave no choice.
use Rattle.rule_text.proofs.Exact.{reading}
use Rattle.rule_text.proofs.read.Goals as goal

pub returns : goal.returns
returns c = record { reading = reading _ c.read_drafting-answer.ensures; emptied = (c.clear.ensures.items, c.clear.ensures.over) }
