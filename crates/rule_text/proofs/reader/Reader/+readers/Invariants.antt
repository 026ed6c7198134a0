-- The remaining text falls over the cycle and from turn to turn; a turn goes on with what the loop began with.
use Rattle.std.proofs.Common.{◌≡◌, ◌+◌, ◌*◌, ◌<◌, Bool, List, length, vec_items}
use Rattle.rules.specs.declared.node.Node.{Node}
use Rattle.rule_text.specs.Grammar.{choice, chain, item, atom}
use Rattle.rule_text.specs.Readers.{Done}
use Rattle.rule_text.proofs.reader.Reader.+readers.Given as goal

abbrev pub decreases-atom : goal.decreases-atom
decreases-atom l = 5 * length l.text.bytes.now

abbrev pub decreases-item : goal.decreases-item
decreases-item l = 5 * length l.text.bytes.now + 1

abbrev pub decreases-chain : goal.decreases-chain
decreases-chain l = 5 * length l.text.bytes.now + 2

abbrev pub decreases-choice : goal.decreases-choice
decreases-choice l = 5 * length l.text.bytes.now + 3

abbrev pub decreases-further : goal.decreases-further
decreases-further l = 5 * length l.text.bytes.now + 4

abbrev pub invariant-item-loop-next : goal.invariant-item-loop-next
invariant-item-loop-next l =
    (length l.rest.bytes.now < length l.text.bytes.now)
    × (l.rest.whole ≡ l.text.whole)
    × ((i : List Node) (o : Bool) → Done l.self.names.entries.now item atom l.self.depth l.text.whole l.text.bytes.now l.initial.rest.bytes.now i o (vec_items l.initial.draft.nodes) l.initial.draft.over → Done l.self.names.entries.now item atom l.self.depth l.text.whole l.text.bytes.now l.rest.bytes.now i o (vec_items l.draft.nodes) l.draft.over)

abbrev pub decreases-item-loop-next : goal.decreases-item-loop-next
decreases-item-loop-next l = length l.rest.bytes.now

abbrev pub invariant-chain-loop-next : goal.invariant-chain-loop-next
invariant-chain-loop-next l =
    (length l.rest.bytes.now < length l.text.bytes.now)
    × (l.rest.whole ≡ l.text.whole)
    × ((i : List Node) (o : Bool) → Done l.self.names.entries.now chain item l.self.depth l.text.whole l.text.bytes.now l.initial.rest.bytes.now i o (vec_items l.initial.draft.nodes) l.initial.draft.over → Done l.self.names.entries.now chain item l.self.depth l.text.whole l.text.bytes.now l.rest.bytes.now i o (vec_items l.draft.nodes) l.draft.over)

abbrev pub decreases-chain-loop-next : goal.decreases-chain-loop-next
decreases-chain-loop-next l = length l.rest.bytes.now

abbrev pub invariant-choice-loop-next : goal.invariant-choice-loop-next
invariant-choice-loop-next l =
    (length l.rest.bytes.now < length l.text.bytes.now)
    × (l.rest.whole ≡ l.text.whole)
    × ((i : List Node) (o : Bool) → Done l.self.names.entries.now choice chain l.self.depth l.text.whole l.text.bytes.now l.initial.rest.bytes.now i o (vec_items l.initial.draft.nodes) l.initial.draft.over → Done l.self.names.entries.now choice chain l.self.depth l.text.whole l.text.bytes.now l.rest.bytes.now i o (vec_items l.draft.nodes) l.draft.over)

abbrev pub decreases-choice-loop-next : goal.decreases-choice-loop-next
decreases-choice-loop-next l = length l.rest.bytes.now
