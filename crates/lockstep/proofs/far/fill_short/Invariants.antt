-- The entries so far are short of their nodes and at most their sizes, in the room that there was, and the kind that is asked is the one given.
use Rattle.std.proofs.Common.{◌≡◌, ℕ, ◌<◌, get_or, None, vec_items, vec_len, vec_capacity}
use Rattle.rules.specs.Nodes.{form_at, size_at}
use Rattle.lockstep.specs.Far.{short_of, AtMost}
use Rattle.lockstep.proofs.far.fill_short.Given as goal

abbrev pub invariant-loop-p : goal.invariant-loop-p
invariant-loop-p g l =
    (l.asked.kind.now ≡ l.kind)
    × (vec_len l.short ≡ l.p)
    × (vec_capacity l.short ≡ vec_capacity l.fn.short)
    × ((k : ℕ) → k < l.p → get_or (vec_items l.short) k None ≡ short_of (g.K.Kind.can_meet l.kind) (form_at (vec_items l.rule.nodes) k) (λ q. get_or (vec_items l.short) q None))
    × ((k : ℕ) → k < l.p → AtMost (size_at (vec_items l.rule.nodes) k) (get_or (vec_items l.short) k None))
