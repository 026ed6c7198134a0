-- Children's numbers fall.
use Rattle.rule_writing.proofs.writer.Writer.+put.Given as goal

abbrev pub decreases-put : goal.decreases-put
decreases-put l = l.p
