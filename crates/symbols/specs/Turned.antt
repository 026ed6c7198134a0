-- The tests of a turned kind: those beneath, and after them their opposites.
use Rattle.std.specs.Prelude.{ℕ, ◌+◌, ◌-◌, min, Bool, cond, nat_lt}
use Rattle.symbols.specs.declared.turned.Place.{Place}
use Rattle.symbols.specs.declared.turned.Place.TheVariants.{Same, Opposite, Past}

-- how many tests beneath are turned: as many as there are, and 128 at most
abbrev pub half_of : ℕ → ℕ
half_of count = min count 128

-- where test t falls, with n tests beneath: below n the same test, below 2n the opposite of t - n, and past that no test
abbrev pub place_of : ℕ → ℕ → Place
place_of n t = cond (nat_lt t n) (Same t) (cond (nat_lt t (n + n)) (Opposite (t - n)) Past)

-- what holds at a place: of the same test what the first says, of an opposite what the second says of the test beneath, and past the tests the third
abbrev pub at_place : (ℕ → Bool) → (ℕ → Bool) → Bool → Place → Bool
at_place same opposite past (Same u) = same u
at_place same opposite past (Opposite u) = opposite u
at_place same opposite past Past = past

-- what holds of test t, by the count of tests beneath
abbrev pub turned_at : ℕ → (ℕ → Bool) → (ℕ → Bool) → Bool → ℕ → Bool
turned_at count same opposite past t = at_place same opposite past (place_of (half_of count) t)
