-- The name after `!`, or the fault there.
use Rattle.std.proofs.Common.{◌+◌, refl, arith}
use Rattle.std.proofs.lemmas.Result.{err_from_is_err_and}
use Rattle.rules.specs.declared.node.Shape.TheVariants.{Leaf}
use Rattle.rule_text.proofs.Drafting.{pushed, adds_one}
use Rattle.rule_text.proofs.Entries.{some_found, few_names}
use Rattle.rule_text.proofs.Failing.{spoilt_name, unknown_name, barred_name}
use Rattle.rule_text.proofs.reader.Reader.opposite.Goals as goal

pub returns-in_err-next : goal.returns-in_err-next
returns-in_err-next c =
    let p = err_from_is_err_and c.from_residual.result c.from_residual.ensures.1 in
    rw (p.1, p.2) (λ d. spoilt_name c.args.self.names.entries.now c.args.text.whole d c.in_err-next.ensures)

pub returns-in_err-name : goal.returns-in_err-name
returns-in_err-name c =
    let p = err_from_is_err_and c.from_residual-in_err-name.result c.from_residual-in_err-name.ensures.1 in
    let e = c.in_err-name.ensures in
    rw (p.1, p.2, e.1) (λ d. barred_name c.args.self.names.entries.now c.args.text.whole d _ _ _ c.in_ok-next.next.word e.0 c.in_ok-next.ensures.0)

pub returns-in_err-test : goal.returns-in_err-test
returns-in_err-test c =
    let w = rw c.in_ok-name.ensures at c.in_ok-next.ensures in
    let p = err_from_is_err_and c.from_residual-in_err-test.result c.from_residual-in_err-test.ensures.1 in
    let e = c.in_err-test.ensures in
    rw (p.1, p.2, e.1) (λ d. unknown_name c.args.self.names.entries.now c.args.text.whole d c.in_ok-next.next.place c.in_ok-name.name.now w.0 e.0)

pub overflow_add-count : goal.overflow_add-count
overflow_add-count c = omega (arith, c.count.ensures, some_found c.args.self.names.entries.now c.in_ok-name.name.now c.in_ok-test.test c.in_ok-test.ensures, few_names c.args.self.names.good)

pub returns : goal.returns
returns c =
    let w = rw c.in_ok-name.ensures at c.in_ok-next.ensures in
    let p = pushed {x = Leaf (c.count.result + c.in_ok-test.test)} c.args.draft.now.nodes.ok.0 c.push.ensures.items c.push.ensures.over in
    let a = adds_one p (λ b. refl) in (
      record { place = c.in_ok-next.next.place; own = c.in_ok-name.name.now; test = c.in_ok-test.test; first = w.0; known = c.in_ok-test.ensures; shorter = w.1 },
      w.2,
      rw c.count.ensures at a,
    )
