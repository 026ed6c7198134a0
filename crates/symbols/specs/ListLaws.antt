-- Lists of sound tests: what stands past the end, and which tests some symbol meets or fails.
use Rattle.std.specs.Prelude.{◌≡◌, ℕ, zero, suc, ◌≤◌, Bool, true, false, not, List, [], ◌∷◌, length, None, Some, Option, Decides, slice_get, refl}
use Rattle.std.specs.List.{list_all}
use Rattle.std.specs.Option.{option_map_or}
use Rattle.std.proofs.Common.{inl, inr}
use Rattle.std.proofs.Math.Bool.{Bool-set}
use Rattle.std.proofs.Math.Logic.{∥∥₁_elim}
use Rattle.std.proofs.lemmas.Bool.{and_parts, both_ways, cases_Bool, not-true, false≢true}
use Rattle.std.proofs.lemmas.Option.{slice_get_past}
use Rattle.symbols.specs.Kinds.{SomeMeets, SomeFails}
use Rattle.symbols.specs.Lists.{has_at}

-- a number past the list is that of no test
pub past_fails : {B : Type 0} (passes : B → Bool) (list : List B) (t : ℕ) → length list ≤ t → has_at passes list t ≡ false
past_fails passes list t past = rw (slice_get_past list t past)

-- what each test of a list passes, test t passes
pub passes_at : {B : Type 0} (passes : B → Bool) (list : List B) → list_all passes list ≡ true → (t : ℕ) (b : B) → slice_get list t ≡ Some b → passes b ≡ true
passes_at passes [] each t b is = cc
passes_at passes (x ∷ xs) each zero b is = let p = (and_parts (passes x) _ each).0 in let e : x ≡ b = cc in cc
passes_at passes (x ∷ xs) each (suc t) b is = passes_at passes xs (and_parts (passes x) _ each).1 t b is

module _ {B S : Type 0} {meets : B → S → Bool} {sound can_meet : B → Bool} (law : (b : B) → sound b ≡ true → Decides (can_meet b) (SomeMeets (meets b))) where
  -- what holds of each sound test holds of the one that there may be at a place
  meetable_of : (o : Option B) → ((b : B) → o ≡ Some b → sound b ≡ true) → Decides (option_map_or can_meet o false) (SomeMeets (λ s. option_map_or (λ b. meets b s) o false))
  meetable_of None each = (λ e. absurd (false≢true e), λ h. ∥∥₁_elim h (Bool-set false true) (λ x. x.1))
  meetable_of (Some b) each = law b (each b refl)

  -- some symbol meets test t exactly where the list has one that can be met
  pub list_meetable : (list : List B) → list_all sound list ≡ true → (t : ℕ) → Decides (has_at can_meet list t) (SomeMeets (λ s. has_at (λ b. meets b s) list t))
  list_meetable list each t = meetable_of (slice_get list t) (passes_at sound list each t)

module _ {B S : Type 0} {meets : B → S → Bool} {sound : B → Bool} (all_meet : B → Bool) (law : (b : B) → sound b ≡ true → Decides (not (all_meet b)) (SomeFails (meets b))) where
  -- what holds of each sound test holds of the one that there may be at a place; past the list every symbol fails
  failable_of : S → (o : Option B) → ((b : B) → o ≡ Some b → sound b ≡ true) → Decides (not (option_map_or all_meet o false)) (SomeFails (λ s. option_map_or (λ b. meets b s) o false))
  failable_of some None each = (λ _. ∣ (some, refl) ∣₁, λ _. refl)
  failable_of some (Some b) each = law b (each b refl)

  -- some symbol fails test t exactly where the list has none there that every symbol meets
  pub list_failable : S → (list : List B) → list_all sound list ≡ true → (t : ℕ) → Decides (not (has_at all_meet list t)) (SomeFails (λ s. has_at (λ b. meets b s) list t))
  list_failable some list each t = failable_of some (slice_get list t) (passes_at sound list each t)

  -- every symbol meets the first test, where it is a sound one that every symbol meets
  pub first_met : (every : B) → sound every ≡ true → all_meet every ≡ true → (list : List B) → slice_get list 0 ≡ Some every → (s : S) → has_at (λ b. meets b s) list 0 ≡ true
  first_met every is all list first s = rw first (elim (cases_Bool (meets every s)) [
    | inl y ↦ y
    | inr n ↦ absurd (both_ways (all_meet every) (not-true (all_meet every) ((law every is).1 ∣ (s, n) ∣₁)) all)
  ])
