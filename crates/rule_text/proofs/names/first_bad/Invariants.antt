-- The entries so far are good.
use Rattle.std.proofs.Common.{ℕ, ◌<◌}
use Rattle.rule_text.specs.Names.{GoodEntry}
use Rattle.rule_text.proofs.names.first_bad.Given as goal

abbrev pub invariant-loop-i : goal.invariant-loop-i
invariant-loop-i l = (j : ℕ) → j < l.i → GoodEntry l.entries j
