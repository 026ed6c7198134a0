-- What holds of each entry of a list still does once another for which it holds is pushed.
use Rattle.std.proofs.Common.{◌≡◌, ℕ, ◌+◌, ◌<◌, List, [], ◌∷◌, ◌++◌, length, get_or, refl, inl, inr, arith}
use Rattle.std.proofs.lemmas.List.{get_or_append_left, get_or_push}
use Rattle.std.proofs.lemmas.Bool.Decides.{eqb_tells}

pub pushed_each : {X : Type 0} (P : ℕ → X → Type 0) (xs ys : List X) (x d : X) → ys ≡ xs ++ x ∷ [] → ((k : ℕ) → k < length xs → P k (get_or xs k d)) → P (length xs) x → (k : ℕ) → k < length xs + 1 → P k (get_or ys k d)
pushed_each P xs ys x d e each here k h = elim (eqb_tells k (length xs)) [
  | inl i ↦ rw (e, i.1, get_or_push xs x d (length xs) refl) here
  | inr i ↦ (let l : k < length xs = omega arith in rw (e, get_or_append_left xs (x ∷ []) d k l) (each k l))
]
