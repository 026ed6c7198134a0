-- Each record is judged by the nodes of those before it, and the last by how many there are.
use Rattle.std.proofs.Common.{◌≡◌, List, cond, is_ok, map, vec_items, sym, refl, ap, ◌∙◌, subst, arith, below_more}
use Rattle.std.proofs.lemmas.List.{take_all}
use Rattle.std.proofs.lemmas.Result.{err_from_is_err_and}
use Rattle.refusals.specs.declared.Fault.{Fault}
use Rattle.rules.specs.declared.node.Node.{Node}
use Rattle.rules.specs.Records.{record_of, GoodAt, BadAt, bad_record}
use Rattle.rules.proofs.Taking.{so_many, judged, judged_back, one_more, taken}
use Rattle.rules.proofs.rule.Rule.take_drafting.Goals as goal

pub returns-in_err-add : goal.returns-in_err-add
returns-in_err-add c =
    let p = err_from_is_err_and c.from_residual.result c.from_residual.ensures.1 in
    let ns = vec_items c.loop-given.self.draft.nodes in
    let rs = c.args.records.now in
    let i = c.loop-given.given-index in
    let inv = c.loop-given.invariant in
    let refused = c.in_err-add.ensures.nodes in
    rw (p.1, p.2) (
      ap (λ (f : Fault). f.refusal) refused.0,
      subst (BadAt rs) (sym (ap (λ (f : Fault). f.place) refused.0 ∙ so_many ns rs i inv.0 c.loop-given-test.true)) (bad_record inv.3 c.loop-given-test.true inv.1 (λ g. refused.1 (judged_back ns rs i inv.0 c.loop-given-test.true g))),
      inv.4,
    )

pub loop-given-preserved : goal.loop-given-preserved
loop-given-preserved c =
    let ns = vec_items c.loop-given.self.draft.nodes in
    let rs = c.args.records.now in
    let i = c.loop-given.given-index in
    let inv = c.loop-given.invariant in
    let added = c.in_ok-add.ensures.nodes in (
      one_more ns rs i inv.0 c.loop-given-test.true (vec_items c.add.new.self.nodes) _ added.0.shape refl added.0.tells added.1,
      below_more (GoodAt rs) i inv.1 (judged ns rs i inv.0 c.loop-given-test.true added.0),
      c.add.ensures.over ∙ inv.2,
      inv.3,
      inv.4,
    )

pub returns : goal.returns
returns c =
    let ns = vec_items c.loop-given.self.draft.nodes in
    let rs = c.args.records.now in
    let inv = c.loop-given.invariant in
    let draft = c.loop-given.self.draft in
    let all : map record_of ns ≡ rs = inv.0 ∙ take_all c.loop-given.given-index rs c.loop-given-test.false in
    taken ns c.args.self.now.nodes.items c.adopt.new.self.nodes.items rs draft.over c.adopt.result all draft.fitting draft.tests inv.3 (λ k h. inv.1 k (omega arith)) inv.2 c.adopt.ensures.whether c.adopt.ensures.fault (c.adopt.ensures.nodes ∙ ap (λ (old : List Node). cond (is_ok c.adopt.result) ns old) inv.4)
