-- The extent of each form, from those of the children.
use Rattle.std.proofs.Common.{length, vec_items, sym, ap, arith}
use Rattle.rules.proofs.Spans.{spans, join_facts, repeat_facts}
use Rattle.rule_writing.proofs.Extents.{between_short, small, measured_void, measured_nil, measured_leaf, measured_repeat, measured_join}
use Rattle.rule_writing.proofs.writer.Writer.+measure.Goals as goal

pub overflow_add-result-in-Repeat : goal.overflow_add-result-in-Repeat
overflow_add-result-in-Repeat t c =
    let ns = vec_items c.args.self.rule.now.nodes in
    let f = repeat_facts (spans ns c.args.self.rule.now.formed) c.args.p c.in-Repeat.child (sym c.in-Repeat.ensures) in
    omega (arith, small c.args.self.names.entries.now ns c.args.self.rule.now.formed _ c.in-Repeat.child _ _ (omega arith) c.measure-inner.ensures)

pub measure-requires-in-Join : goal.measure-requires-in-Join
measure-requires-in-Join t c =
    let f = join_facts (spans (vec_items c.args.self.rule.now.nodes) c.args.self.rule.now.formed) c.args.p c.in-Join.left c.in-Join.right c.in-Join.join (sym c.in-Join.ensures) in
    (omega arith, omega arith)

pub joined-requires : goal.joined-requires
joined-requires t c =
    let ns = vec_items c.args.self.rule.now.nodes in
    let f = join_facts (spans ns c.args.self.rule.now.formed) c.args.p c.in-Join.left c.in-Join.right c.in-Join.join (sym c.in-Join.ensures) in
    let l = small c.args.self.names.entries.now ns c.args.self.rule.now.formed _ c.in-Join.left _ _ (omega arith) c.measure.ensures in
    let r = small c.args.self.names.entries.now ns c.args.self.rule.now.formed _ c.in-Join.right _ _ (omega arith) c.measure-in-Join.ensures in
    record { left_low = omega arith; right_low = omega arith; gap_low = omega (arith, ap length c.between.ensures, between_short c.in-Join.join); left_flat = omega arith; right_flat = omega arith }

pub returns-in-Void : goal.returns-in-Void
returns-in-Void t c = measured_void c.args.self.names.entries.now (vec_items c.args.self.rule.now.nodes) c.args.self.rule.now.formed c.args.place c.args.p c.requires (sym c.in-Void.ensures)

pub returns-in-Nil : goal.returns-in-Nil
returns-in-Nil t c = measured_nil c.args.self.names.entries.now (vec_items c.args.self.rule.now.nodes) c.args.self.rule.now.formed c.args.place c.args.p c.requires (sym c.in-Nil.ensures)

pub returns-in-Leaf : goal.returns-in-Leaf
returns-in-Leaf t c = measured_leaf c.args.self.names.entries.now (vec_items c.args.self.rule.now.nodes) c.args.self.rule.now.formed c.args.place c.args.p c.requires c.in-Leaf.test _ _ (sym c.in-Leaf.ensures) c.leaf_parts.ensures.text c.leaf_parts.ensures.mark c.leaf_parts.ensures.name

pub returns-in-Repeat : goal.returns-in-Repeat
returns-in-Repeat t c = measured_repeat c.args.self.names.entries.now (vec_items c.args.self.rule.now.nodes) c.args.self.rule.now.formed c.args.place c.args.p c.requires c.in-Repeat.child _ _ (sym c.in-Repeat.ensures) c.measure-inner.ensures

pub returns-in-Join : goal.returns-in-Join
returns-in-Join t c =
    measured_join c.args.self.names.entries.now (vec_items c.args.self.rule.now.nodes) c.args.self.rule.now.formed c.args.place c.args.p c.requires
    c.in-Join.join c.in-Join.left c.in-Join.right _ _ _ _ _ _ _ _ (sym c.in-Join.ensures) c.measure.ensures c.measure-in-Join.ensures c.between.ensures c.needs_brackets.ensures c.joined.ensures.length c.joined.ensures.depth
