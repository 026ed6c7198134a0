-- There is one word, and short of a node is its length.
use Rattle.lockstep.proofs.Words.{one_word, short_of_word}
use Rattle.lockstep.proofs.words_pinned.Goals as goal

pub returns : goal.returns
returns c = record { one = one_word; short = short_of_word }
