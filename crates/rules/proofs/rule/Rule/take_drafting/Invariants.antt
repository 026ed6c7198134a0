-- The nodes so far are those of the records so far, each of them good; there are not too many, and the rule's list is as it was.
use Rattle.std.proofs.Common.{◌≡◌, ℕ, ◌<◌, ◌≤◌, false, map, length, take, vec_items}
use Rattle.rules.specs.Records.{record_of, GoodAt}
use Rattle.rules.proofs.rule.Rule.take_drafting.Given as goal

abbrev pub invariant-loop-given : goal.invariant-loop-given
invariant-loop-given l =
    (map record_of (vec_items l.self.draft.nodes) ≡ take l.given-index l.records)
    × ((k : ℕ) → k < l.given-index → GoodAt l.records k)
    × (l.self.draft.over ≡ false)
    × (length l.records ≤ 512)
    × (vec_items l.self.nodes ≡ vec_items l.fn.self.nodes)
