-- Sets of numbers in words of 64 bits.
use Rattle.std.specs.Prelude.{◌≡◌, ℕ, zero, suc, ◌+◌, ◌/◌, ◌%◌, ◌<◌, ◌≤◌, Bool, true, false, cond, List, Some, None, Option, ◌==◌, slice_index}
use Rattle.std.specs.Int.{bit_at}

-- whether the words have number n: bit n mod 64 of word n / 64
abbrev pub has : List ℕ → ℕ → Bool
has words n = bit_at (slice_index words (n / 64)) (n % 64) == 1

-- how many numbers below n the words have
abbrev pub count_below : List ℕ → ℕ → ℕ
count_below ws zero = 0
count_below ws (suc n) = count_below ws n + cond (has ws n) 1 0

-- some number is in both
pub record Meet (us vs : List ℕ) : Type 0 where
  pub number : ℕ
  pub here : has us number ≡ true
  pub there : has vs number ≡ true

-- no number is in both
abbrev pub Apart : List ℕ → List ℕ → Type 0
Apart us vs = (n : ℕ) → has us n ≡ true → has vs n ≡ false

-- the least number at or above n that the words have, if any
abbrev pub IsNextFrom : List ℕ → ℕ → Option ℕ → Type 0
IsNextFrom ws n None = (m : ℕ) → n ≤ m → has ws m ≡ false
IsNextFrom ws n (Some k) = (n ≤ k) × (has ws k ≡ true) × ((m : ℕ) → n ≤ m → m < k → has ws m ≡ false)

-- the place of the lowest bit of a word of 64 bits that is 1, if any
abbrev pub IsLowest : ℕ → Option ℕ → Type 0
IsLowest w None = (j : ℕ) → bit_at w j ≡ 0
IsLowest w (Some k) = (k < 64) × (bit_at w k ≡ 1) × ((j : ℕ) → j < k → bit_at w j ≡ 0)
