-- What is said of a value that was made, and of a listing that was made from a rule's tables.
use Rattle.std.proofs.Common.{◌≡◌, ℕ, List, IfOk, Ok, Err, Option, Result, ◌∙◌, subst}
use Rattle.lockstep.specs.Next.{NextTable}
use Rattle.lockstep.specs.Far.{FarTable}
use Rattle.rules.specs.declared.node.Node.{Node}
use Rattle.symbols.specs.declared.bytes.ByteTest.{ByteTest}
use Rattle.rulelist.specs.Listing.{letter_tests, possible, listing, Lists}

pub made_so : {X Y : Type 0} (P Q : X → Type 0) (r : Result X Y) → ((x : X) → P x → Q x) → IfOk r P → IfOk r Q
made_so P Q (Ok x) f h = f x h
made_so P Q (Err y) f h = tt

module _ (ns shown : List Node) (next seen : List ℕ) (far told : List (Option ℕ)) (tests : List ByteTest) where
  pub lists_from : tests ≡ letter_tests → NextTable ns next → FarTable (possible tests) ns next far → shown ≡ ns → seen ≡ next → told ≡ far → (bytes : List ℕ) → bytes ≡ listing shown seen told → Lists ns bytes
  lists_from e n f a b c bytes is =
      record { next = next; far = far; is_next = n; is_far = subst (λ (ts : List ByteTest). FarTable (possible ts) ns next far) e f; is = is ∙ (λ i. listing (a i) (b i) (c i)) }
