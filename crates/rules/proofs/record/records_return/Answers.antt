-- The two theorems on taking.
use Rattle.rules.proofs.Taking.{one_answer, comes_back}
use Rattle.rules.proofs.record.records_return.Goals as goal

pub returns : goal.returns
returns c = record { one = one_answer; back = comes_back }
