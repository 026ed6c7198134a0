use Rattle.std.proofs.Common.{◌≡◌, ◌≤◌, length}
use Rattle.rule_text.specs.Lexing.{words_of}
use Rattle.rule_text.proofs.rest.Rest.skip_blanks.Given as goal

abbrev pub invariant-loop-rest : goal.invariant-loop-rest
invariant-loop-rest l = (length l.rest ≤ length l.self.bytes.now) × (words_of l.self.whole l.rest ≡ words_of l.self.whole l.self.bytes.now)

abbrev pub decreases-loop-rest : goal.decreases-loop-rest
decreases-loop-rest l = length l.rest
