-- The run that an entry starts with is the only name that can fill it.
use Rattle.std.proofs.Common.{◌≡◌, ℕ, true, List, sym, ap, ◌∙◌, subst}
use Rattle.std.proofs.lemmas.Bool.{both_ways}
use Rattle.rule_text.specs.Words.{front, is_test_name}
use Rattle.rule_text.specs.Names.{is_entry, AllZero}
use Rattle.rule_text.proofs.Entries.{run_fills, fills_run, fills_zero, front_run}
use Rattle.rule_text.proofs.names.entry_name.Goals as goal
use Rattle.rule_text.proofs.names.entry_name.Goals.{else-is_test_name-via-then-is_test_name+else-is_fill, else-is_test_name-via-else-is_test_name}

pub returns-then-is_fill : goal.returns-then-is_fill
returns-then-is_fill c =
    let e = c.args.filled.now in
    let own = c.split_run.ensures.run in
    let zeros = subst AllZero c.split_run.ensures.after (c.is_fill.ensures.0 c.if-is_fill.true) in
    record {
      is_run = ap front own ∙ front_run e ∙ sym own;
      is_test = sym c.is_test_name.ensures ∙ c.if-is_test_name.true;
      filled = subst (λ (x : List ℕ). is_entry e x ≡ true) (sym own) (run_fills e c.told-filled zeros);
    }

pub returns-else-is_test_name : goal.returns-else-is_test_name
returns-else-is_test_name c x f =
    let e = c.args.filled.now in
    let own : c.split_run.result.0.now ≡ x = c.split_run.ensures.run ∙ fills_run e c.told-filled x f in
    elim c.else-is_test_name.branch [
      | else-is_test_name-via-then-is_test_name+else-is_fill w ↦ both_ways w.is_fill.result w.if-is_fill.false (w.is_fill.ensures.1 (subst AllZero (sym c.split_run.ensures.after) (fills_zero e c.told-filled x f)))
      | else-is_test_name-via-else-is_test_name w ↦ both_ways c.is_test_name.result w.if-is_test_name.false (c.is_test_name.ensures ∙ ap is_test_name own ∙ f.is_test)
    ]
