-- The first word, by the first byte or the first run.
use Rattle.std.proofs.Common.{◌≡◌, ◌-◌, ◌<◌, ◌∷◌, length, refl, ap, arith, rules, length-drop}
use Rattle.rule_text.specs.Words.{run_word, front}
use Rattle.rule_text.specs.Lexing.{words_of}
use Rattle.rule_text.proofs.Lexing.{run_step, first_of, run_starts}
use Rattle.rule_text.proofs.rest.Rest.next_word.Goals as goal
use Rattle.rule_text.proofs.rest.Rest.next_word.Goals.{After-split_run}

-- the run that the text starts with
first_word : (c : After-split_run) → 0 < length c.skip_blanks-text.result.bytes.now → 0 < length c.split_run.result.0.now → words_of c.args.self.whole c.args.self.bytes.now ≡ (c.args.self.whole - length c.skip_blanks-text.result.bytes.now, run_word c.split_run.result.0.now) ∷ words_of c.args.self.whole c.split_run.result.1.now
first_word c k some =
    let xs = c.skip_blanks-text.result.bytes.now in
    rw (c.split_run.ensures.run, c.split_run.ensures.after) (run_step c.args.self.whole c.args.self.bytes.now xs (search rules) c.skip_blanks-text.ensures.same k (first_of xs _ 0 c.split_run.ensures.run some))

pub returns-in_ok-word-in_default : goal.returns-in_ok-word-in_default
returns-in_ok-word-in_default c =
    let here = (goal.at.returns-in_ok-word-in_default c).After-split_run in
    let p = c.placed-in_default.ensures in
    let k : 0 < length c.skip_blanks-text.result.bytes.now = search rules in
    let some : 0 < length c.split_run.result.0.now = search rules in
    let m = run_starts c.args.self.whole _ _ _ c.split_run.result.0.now _ _ c.in_ok-word-in_default.word (rw c.in_ok-word-in_default.ensures.ok_part at c.run_word.ensures) (first_word here k some) (omega (arith, some, ap length c.split_run.ensures.run, ap length c.split_run.ensures.after, length-drop (length (front c.skip_blanks-text.result.bytes.now)) c.skip_blanks-text.result.bytes.now, c.skip_blanks-text.ensures.shorter)) in
    rw (p.word, p.place, p.after, p.whole, c.skip_blanks-text.ensures.whole) (m.0, m.1, refl)
