-- Lists of tests: what test t of one is, and what adding one gives.
use Rattle.std.specs.Prelude.{ℕ, Bool, false, cond, List, [], ◌∷◌, ◌++◌, length, is_ok, Ok, Err, Result, nat_le, slice_get}
use Rattle.std.specs.Option.{option_map_or}
use Rattle.refusals.specs.declared.Fault.{Fault}
use Rattle.refusals.specs.declared.Refusal.{Refusal}
use Rattle.refusals.specs.declared.Refusal.TheVariants.{KindFull}

-- whether a list has test t, and it passes
abbrev pub has_at : {B : Type 0} → (B → Bool) → List B → ℕ → Bool
has_at passes list t = option_map_or passes (slice_get list t) false

-- what adding a test answers: refused where 64 tests are there, then with this refusal where the test is not sound, and else the number of the new test
abbrev pub add_answer : {B : Type 0} → List B → Bool → Refusal → Result ℕ Fault
add_answer list sound refusal =
    cond (nat_le 64 (length list))
    (Err (record { refusal = KindFull; place = 0 }))
    (cond sound (Ok (length list)) (Err (record { refusal = refusal; place = 0 })))

-- the list after that answer: with the new test at its end where one was added, and else as it was
abbrev pub added_to : {B : Type 0} → List B → B → Result ℕ Fault → List B
added_to list new answer = cond (is_ok answer) (list ++ new ∷ []) list
