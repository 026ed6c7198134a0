-- Each table stays as its part leaves it.
use Rattle.std.proofs.Common.{length, get_or, None, vec_items, sym, ap, ◌∙◌, subst, arith}
use Rattle.std.proofs.lemmas.List.{with_items_is}
use Rattle.std.specs.Vec.{with_items}
use Rattle.lockstep.specs.Next.{NextTable}
use Rattle.lockstep.specs.Far.{FarTable}
use Rattle.lockstep.proofs.tables.Tables.fill.Goals as goal

pub fill_far-requires-clause-next : goal.fill_far-requires-clause-next
fill_far-requires-clause-next g c =
    let count = ap length c.nodes-count.ensures in
    let next-kept = with_items_is c.refill.new.table c.fill_next.new.next (omega arith) in
    subst (NextTable (vec_items c.args.rule.now.nodes)) (sym (c.deref.ensures.value ∙ next-kept)) (omega arith, c.fill_next.ensures)

pub returns : goal.returns
returns g c =
    let ns = vec_items c.args.rule.now.nodes in
    let count = ap length c.nodes-count.ensures in
    let short = vec_items c.fill_short.new.short in
    let far = c.fill_far.new.far in
    let next = (with_items c.refill.new.table c.fill_next.new.next).items in
    let next-kept = with_items_is c.refill.new.table c.fill_next.new.next (omega arith) in
    let far-kept = with_items_is c.refill-2.new.table far (omega arith) in
    record {
      next = subst (NextTable ns) (sym next-kept) (omega arith, c.fill_next.ensures);
      far = subst (FarTable (g.K.Kind.can_meet c.args.kind.now) ns next) (sym far-kept) (
        omega arith,
        record {
          short = λ q. get_or short q None;
          is_short = c.fill_short.ensures.value;
          end = c.fill_far.ensures.end;
          step = λ p h. (let s = c.fill_far.ensures.step p h in let read_next = c.deref.ensures.value in let read_short = c.deref-2.ensures.value in cc);
        },
      );
    }
