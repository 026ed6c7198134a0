-- A table of nothing known knows nothing at any place.
use Rattle.std.proofs.Common.{◌≡◌, ℕ, Bool, None, Option, replicate, slice_index_or, inl, inr}
use Rattle.std.proofs.lemmas.Bool.{cases_lt}
use Rattle.std.proofs.lemmas.List.{get_or_past, get_or-replicate, length-replicate}

pub nothing_known : (n t : ℕ) → slice_index_or {A = Option Bool} (replicate n None) t None ≡ None
nothing_known n t =
    elim (cases_lt t n) [
      | inl l ↦ get_or-replicate {A = Option Bool} n t None None l
      | inr l ↦ get_or_past {X = Option Bool} (replicate n None) t None (rw length-replicate l)
    ]
