-- Children's numbers fall.
use Rattle.rule_writing.proofs.writer.Writer.+measure.Given as goal

abbrev pub decreases-measure : goal.decreases-measure
decreases-measure l = l.p
