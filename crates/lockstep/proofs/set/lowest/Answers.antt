-- A word that is not 0 has a lowest bit.
use Rattle.std.proofs.Common.{w64, arith}
use Rattle.std.proofs.lemmas.Nat.Bits.{bit_at-trailing_zeros}
use Rattle.lockstep.proofs.set.lowest.Goals as goal

pub returns-else-word-eq0 : goal.returns-else-word-eq0
returns-else-word-eq0 c = bit_at-trailing_zeros w64 c.args.word (omega arith) c.ranges.word.fits
