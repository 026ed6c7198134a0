-- A text is taken, or refused for the first reason that applies.
use Rattle.std.proofs.Common.{◌≡◌, ℕ, ◌≤◌, true, List, [], length, Ok, Err, Result, is_ok, sym, refl, ap, ◌∙◌, subst, inl, arith}
use Rattle.std.proofs.lemmas.Result.{err_from_is_err_and}
use Rattle.std.proofs.lemmas.Bool.{cond-true, true≢false}
use Rattle.refusals.specs.declared.Fault.{Fault}
use Rattle.refusals.specs.declared.Refusal.TheVariants.{BadNames}
use Rattle.rules.specs.declared.node.Node.{Node}
use Rattle.rules.specs.Nodes.{Rooted}
use Rattle.rule_text.specs.Words.{words_in}
use Rattle.rule_text.specs.Names.{NamesFault}
use Rattle.rule_text.specs.Faults.{fault, IsRule}
use Rattle.rule_text.specs.Reading.{Refused, bad_names, long, faulty}
use Rattle.rule_text.proofs.Drafting.{gives_rooted}
use Rattle.rule_text.proofs.First.{first_fault, not_over, ends_rule, end_refused}
use Rattle.rule_text.proofs.read_drafting.Goals as goal

bad_names_lem : {names : List (List ℕ)} {text : List ℕ} (f : Fault) → f.refusal ≡ BadNames → NamesFault names f.place → Refused names text f
bad_names_lem {names} {text} f e h = subst (Refused names text) (ap (λ x. fault x f.place) (sym e)) (bad_names h)

pub returns-in_err-names : goal.returns-in_err-names
returns-in_err-names c =
    let p = err_from_is_err_and c.from_residual.result c.from_residual.ensures.1 in
    let e = c.in_err-names.ensures in
    rw (p.1, p.2) (refl, bad_names_lem _ e.0 e.1)

pub returns-in_err-check_length : goal.returns-in_err-check_length
returns-in_err-check_length c =
    let p = err_from_is_err_and c.from_residual-in_err-check_length.result c.from_residual-in_err-check_length.ensures.1 in
    let e = c.in_err-check_length.ensures in
    rw (p.1, p.2, e.1) (refl, long c.in_ok-names.ensures.0 e.0)

pub returns-in_err-rest : goal.returns-in_err-rest
returns-in_err-rest c =
    let p = err_from_is_err_and c.from_residual-in_err-rest.result c.from_residual-in_err-rest.ensures.1 in
    let e = rw (c.new-2.ensures.names, c.new-2.ensures.depth, c.new-3.ensures.bytes, c.new-3.ensures.whole, c.in_ok-names.ensures.1) at c.in_err-rest.ensures in
    rw (p.1, p.2) (refl, faulty c.in_ok-names.ensures.0 c.in_ok-check_length.ensures (first_fault c.args.text.now e))

pub returns-in_err-check_end : goal.returns-in_err-check_end
returns-in_err-check_end c =
    let p = err_from_is_err_and c.from_residual-in_err-check_end.result c.from_residual-in_err-check_end.ensures.1 in
    let k = rw (c.new-2.ensures.names, c.new-2.ensures.depth, c.new-3.ensures.bytes, c.new-3.ensures.whole, c.in_ok-names.ensures.1) at c.in_ok-rest.ensures in
    let w = rw k.1 at c.in_ok-last.ensures in
    let h = k.0.adds [] (inl (omega arith, c.clear.ensures.items, c.clear.ensures.over)) in
    rw (p.1, p.2) (refl, end_refused c.args.text.now c.in_ok-rest.rest.bytes.now c.in_ok-last.last _ c.in_ok-names.ensures.0 c.in_ok-check_length.ensures k.0 h w.0 w.2 _ c.in_err-check_end.ensures)

-- what is no refusal is the answer that says so
accepted : (r : Result (Unit {0}) Fault) → is_ok r ≡ true → r ≡ Ok tt
accepted (Ok done) h = refl
accepted (Err f) h = absurd (true≢false (sym h))

pub returns : goal.returns
returns c =
    let text = c.args.text.now in
    let k = rw (c.new-2.ensures.names, c.new-2.ensures.depth, c.new-3.ensures.bytes, c.new-3.ensures.whole, c.in_ok-names.ensures.1) at c.in_ok-rest.ensures in
    let w = rw k.1 at c.in_ok-last.ensures in
    let e = c.in_ok-check_end.ensures in
    let h = k.0.adds [] (inl (omega arith, c.clear.ensures.items, c.clear.ensures.over)) in
    let n = not_over h e.1 in
    let ok = c.adopt.ensures.whether.1 (e.1, subst Rooted (sym n.1) (gives_rooted k.0.gives)) in
    let is = c.adopt.ensures.nodes ∙ cond-true _ _ _ ok ∙ n.1 in
    rw (accepted c.adopt.result ok) (record {
      good = c.in_ok-names.ensures.0;
      short = c.in_ok-check_length.ensures;
      gives = subst (IsRule c.args.names.now (words_in text)) (sym is) (ends_rule text c.in_ok-rest.rest.bytes.now c.in_ok-last.last _ c.in_ok-names.ensures.0 c.in_ok-check_length.ensures k.0 h w.0 e.0);
      few = subst (λ (ns : List Node). length ns ≤ 512) (sym is) n.0;
    })
