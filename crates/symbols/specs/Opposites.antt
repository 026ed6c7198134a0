-- At every place of a turned kind, what can be met and what can be failed is exactly what some symbol meets or fails.
-- Past the tests any symbol shows a failure.
use Rattle.std.specs.Prelude.{ℕ, Bool, true, false, not, Decides, refl}
use Rattle.std.proofs.Math.Bool.{Bool-set}
use Rattle.std.proofs.Math.Logic.{∥∥₁_elim, ∥∥₁_map}
use Rattle.std.proofs.lemmas.Bool.{not-true, not-false, not_from_true, not_from_false, true≢false}
use Rattle.std.proofs.lemmas.Bool.Decides.{Decides-like}
use Rattle.symbols.specs.declared.turned.Place.{Place}
use Rattle.symbols.specs.declared.turned.Place.TheVariants.{Same, Opposite, Past}
use Rattle.symbols.specs.Kinds.{SomeMeets, SomeFails}
use Rattle.symbols.specs.Turned.{at_place}

module _ {S : Type 0} {meets : ℕ → S → Bool} {can_meet can_fail : ℕ → Bool} (some : ∥ S ∥₁)
    (meetable : (t : ℕ) → Decides (can_meet t) (SomeMeets (meets t)))
    (failable : (t : ℕ) → Decides (can_fail t) (SomeFails (meets t))) where
  -- some symbol meets the test at a place exactly where it can be met there
  pub place_meetable : (p : Place) → Decides (at_place can_meet can_fail false p) (SomeMeets (λ s. at_place (λ u. meets u s) (λ u. not (meets u s)) false p))
  place_meetable (Same u) = meetable u
  place_meetable (Opposite u) =
      Decides-like (can_fail u)
      (λ h. ∥∥₁_map h (λ x. (x.0, not_from_false (meets u x.0) x.1)))
      (λ h. ∥∥₁_map h (λ x. (x.0, not-true (meets u x.0) x.1)))
      (failable u)
  place_meetable Past = (λ e. absurd (true≢false (cc)), λ h. ∥∥₁_elim h (Bool-set false true) (λ x. x.1))

  -- some symbol fails the test at a place exactly where it can be failed there
  pub place_failable : (p : Place) → Decides (at_place can_fail can_meet true p) (SomeFails (λ s. at_place (λ u. meets u s) (λ u. not (meets u s)) false p))
  place_failable (Same u) = failable u
  place_failable (Opposite u) =
      Decides-like (can_meet u)
      (λ h. ∥∥₁_map h (λ x. (x.0, not_from_true (meets u x.0) x.1)))
      (λ h. ∥∥₁_map h (λ x. (x.0, not-false (meets u x.0) x.1)))
      (meetable u)
  place_failable Past = (λ _. ∥∥₁_map some (λ s. (s, refl)), λ _. refl)
