-- The bytes from the front on that are in runs are the first run.
use Rattle.std.proofs.Common.{◌∙◌, ap, length, take, drop, rules}
use Rattle.rule_text.proofs.Lexing.{take_front, take_while_front}
use Rattle.rule_text.proofs.words.split_run.Goals as goal

pub returns : goal.returns
returns c =
    let xs = c.args.text.now in
    let long = c.run_len.ensures.run ∙ ap length (take_while_front xs) in
    record { run = c.split_at.ensures.front ∙ ap (λ n. take n xs) long ∙ take_front xs; after = c.split_at.ensures.back ∙ ap (λ n. drop n xs) long; within = search rules }
