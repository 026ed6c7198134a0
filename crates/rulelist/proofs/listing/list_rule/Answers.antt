-- The tables that are listed are those of the rule.
use Rattle.std.proofs.Common.{vec_items, string_bytes}
use Rattle.rulelist.proofs.Made.{made_so, lists_from}
use Rattle.rulelist.proofs.listing.list_rule.Goals as goal

pub returns : goal.returns
returns c =
    made_so _ _ c.table_text.result
    (λ s e. lists_from (vec_items c.args.rule.now.nodes) c.nodes.result.now (vec_items c.fill.new.self.next) c.next.result.now (vec_items c.fill.new.self.far) c.far.result.now (vec_items c.in_ok-kind.kind.kind.tests)
    c.in_ok-kind.ensures c.fill.ensures.next c.fill.ensures.far c.nodes.ensures c.next.ensures c.far.ensures (string_bytes s) e)
    c.table_text.ensures
