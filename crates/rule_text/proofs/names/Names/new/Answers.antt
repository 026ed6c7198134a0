-- A list of too few or too many entries.
use Rattle.std.proofs.Common.{sym, refl, ◌∙◌, inl, inr, arith, rules}
use Rattle.std.proofs.lemmas.Bool.{eqb-true}
use Rattle.rule_text.specs.Names.{bad_length, bad_entry}
use Rattle.rule_text.proofs.names.Names.new.Goals as goal
use Rattle.rule_text.proofs.names.Names.new.Goals.{then-is_empty-via-then-is_empty, then-is_empty-via-else-is_empty+then-entries-gt-MAX_NAMES}

pub returns-then-is_empty : goal.returns-then-is_empty
returns-then-is_empty c = rw c.at.ensures (
  refl,
  bad_length (elim c.then-is_empty.branch [
    | then-is_empty-via-then-is_empty w ↦ inl (eqb-true _ 0 (sym c.is_empty.ensures ∙ w.if-is_empty.true))
    | then-is_empty-via-else-is_empty+then-entries-gt-MAX_NAMES w ↦ inr (omega (arith, w.if-entries-gt-MAX_NAMES.true))
  ]),
)

pub returns-in-Some : goal.returns-in-Some
returns-in-Some c =
    let b = c.in-Some.ensures in
    rw c.at-in-Some.ensures (refl, bad_entry c.in-Some.i (search rules) b.0 b.1 b.2)
