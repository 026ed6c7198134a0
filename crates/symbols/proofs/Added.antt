-- A test added at the end of a list leaves the first as it was, and what all tests pass they still pass.
use Rattle.std.proofs.Common.{◌≡◌, true, Bool, List, [], ◌∷◌, ◌++◌, Some, slice_get}
use Rattle.std.specs.List.{list_all}
use Rattle.std.proofs.lemmas.Bool.{and_from}
use Rattle.std.proofs.lemmas.List.Folds.{list_all-append}

module _ {B : Type 0} (passes : B → Bool) (new : B) where
  -- the first test is the same
  pub first_push : (list after : List B) (first : B) → after ≡ list ++ new ∷ [] → slice_get list 0 ≡ Some first → slice_get after 0 ≡ Some first
  first_push [] after first e is = cc
  first_push (x ∷ xs) after first e is = rw e is

  -- what all tests and the new one pass all pass afterwards
  pub all_push : (list after : List B) → after ≡ list ++ new ∷ [] → list_all passes list ≡ true → passes new ≡ true → list_all passes after ≡ true
  all_push list after e all is = rw (e, list_all-append) (and_from _ _ all (rw is))
