-- A test of every number between two, and the hooks that a list of bytes has and has not.
use Rattle.std.specs.Prelude.{◌≡◌, ℕ, zero, suc, ◌+◌, ◌-◌, ◌*◌, ◌/◌, ◌%◌, ◌^◌, ◌<◌, ◌≤◌, Bool, true, false, not, List, length, replicate, nat_eq, slice_index_or}
use Rattle.std.specs.List.{list_all, range_with_len}
use Rattle.std.proofs.Common.{inl, inr, arith}
use Rattle.std.proofs.Math.Path.{refl}
use Rattle.std.proofs.Math.Nat.{zero-div}
use Rattle.std.proofs.lemmas.Nat.{le-div}
use Rattle.std.proofs.lemmas.List.{get_or_past, length-replicate, get_or-replicate}
use Rattle.std.proofs.lemmas.Bool.{and_cases, and_from, and_parts, cases_Bool, cases_eq, cases_lt, not-false, not-true, not_from_false, true≢false}
use Rattle.symbols.specs.Hooks.{every_between, bit_of, none_from}

module _ (p : ℕ → Bool) where
  -- of n numbers from a on: all pass where each does
  run_yes : (n a : ℕ) → ((k : ℕ) → a ≤ k → k < a + n → p k ≡ true) → list_all p (range_with_len a n) ≡ true
  run_yes zero a each = refl
  run_yes (suc n) a each = and_from (p a) _ (each a (omega arith) (omega arith)) (run_yes n (a + 1) (λ k low high. each k (omega arith) (omega arith)))

  -- each passes where all do
  run_at : (n a : ℕ) → list_all p (range_with_len a n) ≡ true → (k : ℕ) → a ≤ k → k < a + n → p k ≡ true
  run_at zero a all k low high = absurd (omega arith)
  run_at (suc n) a all k low high =
      let parts = and_parts (p a) _ all in
      elim (cases_eq a k) [
        | inl here ↦ rw here at parts.0
        | inr other ↦ run_at n (a + 1) parts.1 k (omega arith) (omega arith)
      ]

  -- one fails where not all pass
  run_some : (n a : ℕ) → list_all p (range_with_len a n) ≡ false → (k : ℕ) × (a ≤ k) × (k < a + n) × (p k ≡ false)
  run_some zero a fails = absurd (true≢false fails)
  run_some (suc n) a fails =
      elim (and_cases (p a) _ fails) [
        | inl here ↦ (a, omega arith, omega arith, here)
        | inr later ↦ let found = run_some n (a + 1) later in (found.0, omega (arith, found.1), omega (arith, found.2), found.3)
      ]

module _ (p : ℕ → Bool) (a b : ℕ) where
  -- the test of every number from a up to b is true where each passes
  pub every_yes : ((k : ℕ) → a ≤ k → k < b → p k ≡ true) → every_between a b p ≡ true
  unfolding every_between
  every_yes each = run_yes p (b - a) a (λ k low high. each k low (omega arith))

  -- where it is true, each passes
  pub every_at : every_between a b p ≡ true → (k : ℕ) → a ≤ k → k < b → p k ≡ true
  unfolding every_between
  every_at all k low high = run_at p (b - a) a all k low (omega arith)

  -- it is false where one fails
  pub every_no : (k : ℕ) → a ≤ k → k < b → p k ≡ false → every_between a b p ≡ false
  every_no k low high fails =
      elim (cases_Bool (every_between a b p)) [
        | inl all ↦ let passes = every_at all k low high in absurd (true≢false (cc))
        | inr some ↦ some
      ]

  -- where it is false, one fails
  pub every_some : every_between a b p ≡ false → (k : ℕ) × (a ≤ k) × (k < b) × (p k ≡ false)
  unfolding every_between
  every_some fails = let found = run_some p (b - a) a fails in (found.0, found.1, omega (arith, found.1, found.2), found.3)

-- a hook past the bytes is not set
pub bit_past : (bytes : List ℕ) (h : ℕ) → length bytes ≤ h / 8 → bit_of bytes h ≡ false
bit_past bytes h past = rw (get_or_past bytes (h / 8) 0 past, zero-div)

-- every byte of zeros is 0, and so is what is read past them
pub get_or_zeros : (n i : ℕ) → slice_index_or {A = ℕ} (replicate n 0) i 0 ≡ 0
get_or_zeros n i =
    elim (cases_lt i n) [
      | inl l ↦ get_or-replicate {A = ℕ} n i 0 0 l
      | inr l ↦ get_or_past (replicate n 0) i 0 (rw length-replicate l)
    ]

-- no hook of bytes that are 0 is set
pub bit_zeros : (n h : ℕ) → bit_of (replicate n 0) h ≡ false
bit_zeros n h = rw (get_or_zeros n (h / 8), zero-div)

-- each of the 8 bits of 255 is set
byte_ones : every_between 0 8 (λ k. nat_eq (255 / 2 ^ k % 2) 1) ≡ true
unfolding every_between
byte_ones = refl

-- every hook of 32 bytes that are 255 is set
pub bit_ones : (h : ℕ) → h < 256 → bit_of (replicate 32 255) h ≡ true
bit_ones h top =
    let here : h / 8 < 32 = omega arith in
    rw (get_or-replicate {A = ℕ} 32 (h / 8) 255 0 here) (every_at (λ k. nat_eq (255 / 2 ^ k % 2) 1) 0 8 byte_ones (h % 8) (omega arith) (omega arith))

module _ (bytes : List ℕ) (start : ℕ) where
  -- no hook from a number on is set, where each of them is not
  pub none_each : ((h : ℕ) → start ≤ h → h < 256 → bit_of bytes h ≡ false) → none_from bytes start ≡ true
  none_each each = every_yes (λ h. not (bit_of bytes h)) start 256 (λ h low top. not_from_false (bit_of bytes h) (each h low top))

  -- where no hook from a number on is set, each of them is not
  pub none_at : none_from bytes start ≡ true → (h : ℕ) → start ≤ h → h < 256 → bit_of bytes h ≡ false
  none_at none h low top = not-true (bit_of bytes h) (every_at (λ k. not (bit_of bytes k)) start 256 none h low top)

  -- where some hook from a number on is set, here is one
  pub none_some : none_from bytes start ≡ false → (h : ℕ) × (h < 256) × (bit_of bytes h ≡ true)
  none_some some =
      let found = every_some (λ h. not (bit_of bytes h)) start 256 some in
      (found.0, found.2, not-false (bit_of bytes found.0) found.3)

  -- it is enough that none is among those that the bytes hold
  pub none_held : ((h : ℕ) → h < 8 * length bytes → start ≤ h → bit_of bytes h ≡ false) → none_from bytes start ≡ true
  none_held each =
      none_each (λ h low _. elim (cases_lt h (8 * length bytes)) [
        | inl held ↦ each h held low
        | inr beyond ↦ bit_past bytes h (le-div (length bytes) h 8 (omega arith) (omega arith))
      ])

  -- so looking at those alone tells the same, where there are at most 256
  pub held_is_all : length bytes ≤ 32 → every_between start (8 * length bytes) (λ h. not (bit_of bytes h)) ≡ none_from bytes start
  held_is_all few =
      let p = λ (h : ℕ). not (bit_of bytes h) in
      elim (cases_Bool (every_between start (8 * length bytes) p)) [
        | inl all ↦ let none = none_held (λ h held low. not-true (bit_of bytes h) (every_at p start (8 * length bytes) all h low held)) in cc
        | inr some ↦
            let found = every_some p start (8 * length bytes) some in
            let set : none_from bytes start ≡ false = every_no p start 256 found.0 found.1 (omega (arith, found.2)) found.3 in
            cc
      ]
