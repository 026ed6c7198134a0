-- Whether some symbol meets a test, and whether some symbol fails it.
use Rattle.std.specs.Prelude.{◌≡◌, Bool, true, false}

-- some symbol meets the test
abbrev pub SomeMeets : {S : Type 0} → (S → Bool) → Type 0
SomeMeets {S} p = ∥ ((s : S) × (p s ≡ true)) ∥₁

-- some symbol fails the test
abbrev pub SomeFails : {S : Type 0} → (S → Bool) → Type 0
SomeFails {S} p = ∥ ((s : S) × (p s ≡ false)) ∥₁

-- what a place holds after a call that shows a symbol: after a yes one of which the test says what was wanted, after a no what it held
abbrev pub Shown : {S : Type 0} → (S → Bool) → Bool → S → S → Bool → Type 0
Shown meets wanted before after true = meets after ≡ wanted
Shown meets wanted before after false = after ≡ before
