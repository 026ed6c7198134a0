-- Tests of rows: which rows meet one, and which of them some row meets or fails.
use Rattle.std.specs.Prelude.{◌≡◌, ℕ, ◌<◌, ◌≤◌, true, false, not, replicate, Decides}
use Rattle.std.proofs.Math.Bool.{Bool-set}
use Rattle.std.proofs.Common.{inl, inr, arith}
use Rattle.std.proofs.Math.Logic.{∥∥₁_elim}
use Rattle.std.proofs.lemmas.Bool.Decides.{nat_tests}
use Rattle.std.proofs.lemmas.Bool.{cases_Bool, cases_lt, not-true, true≢false}
use Rattle.symbols.specs.declared.row_kind.RowTest.{RowTest}
use Rattle.symbols.specs.declared.rows.Row.{Row}
use Rattle.symbols.specs.Hooks.{every_between, bit_of, none_from}
use Rattle.symbols.specs.Kinds.{SomeMeets, SomeFails}
use Rattle.symbols.specs.RowTests.{every_row, as_wanted, named_if_wanted, row_meets, is_sound, wants_below, is_every_row}
use Rattle.symbols.specs.Rows.{fresh_row, width_of}
use Rattle.symbols.specs.Bits.{every_yes, every_at, every_no, bit_zeros, bit_ones, none_each, none_at, none_some}

-- the widest row with no hook set
abbrev blank : Row
blank = record { width = 256; bits = replicate 32 0 }

-- the widest row with every hook set
abbrev full : Row
full = record { width = 256; bits = replicate 32 255 }

module _ (b : RowTest) (r : Row) where
  -- a row of a width below the lowest fails
  pub narrow_fails : width_of r < b.lowest → row_meets b r ≡ false
  narrow_fails l = grind (arith, nat_tests)

  -- a row of a width above the highest fails
  pub wide_fails : b.highest < width_of r → row_meets b r ≡ false
  wide_fails l = grind (arith, nat_tests)

  -- a row with a hook that is not as wanted fails
  hook_fails : (h : ℕ) → h < 256 → as_wanted b r h ≡ false → row_meets b r ≡ false
  hook_fails h top e = let some = every_no (as_wanted b r) 0 256 h (omega arith) top e in grind (arith, nat_tests)

  -- a row of a width between, with each hook as wanted, meets
  meets_from : b.lowest ≤ width_of r → width_of r ≤ b.highest → ((h : ℕ) → h < 256 → as_wanted b r h ≡ true) → row_meets b r ≡ true
  meets_from low high each = let all = every_yes (as_wanted b r) 0 256 (λ h _ top. each h top) in grind (arith, nat_tests)

  -- a row that meets has no more than the highest width
  meets_high : row_meets b r ≡ true → width_of r ≤ b.highest
  meets_high e = grind (arith, nat_tests)

  -- in a row that meets each hook is as wanted
  meets_hook : row_meets b r ≡ true → (h : ℕ) → h < 256 → as_wanted b r h ≡ true
  meets_hook e h top = let all : every_between 0 256 (as_wanted b r) ≡ true = grind (arith, nat_tests) in every_at (as_wanted b r) 0 256 all h (omega arith) top

  -- a test with widths 0 to 256 and no named hook is met by every row
  pub every_meets : is_every_row b ≡ true → row_meets b r ≡ true
  every_meets e =
      let none : none_from b.named 0 ≡ true = grind (arith, nat_tests) in
      meets_from (grind (arith, nat_tests)) (grind (arith, nat_tests)) (λ h top. rw (none_at b.named 0 none h (omega arith) top))

-- a test of widths 0 to 256 that is not the one that every row meets names some hook
pub named_some : (b : RowTest) → b.lowest ≤ 0 → b.highest ≤ 256 → 256 ≤ b.highest → is_every_row b ≡ false → none_from b.named 0 ≡ false
named_some b low top high e = grind (arith, nat_tests)

module _ (b : RowTest) (sound : is_sound b ≡ true) where
  -- the highest width is not below the lowest, and is at most 256
  pub widths : (b.lowest ≤ b.highest) × (b.highest ≤ 256)
  widths = grind (arith, nat_tests)

  -- a hook with wanted 1 is named
  wanted_named : (h : ℕ) → h < 256 → bit_of b.wanted h ≡ true → bit_of b.named h ≡ true
  wanted_named h top set =
      let all : every_between 0 256 (named_if_wanted b) ≡ true = grind (arith, nat_tests) in
      let each = every_at (named_if_wanted b) 0 256 all h (omega arith) top in
      rw set at each

  -- in the row of the highest width with the wanted bits each hook is as wanted, where every hook with wanted 1 lies below that width
  inside_hook : wants_below b ≡ true → (h : ℕ) → h < 256 → as_wanted b (record { width = b.highest; bits = b.wanted }) h ≡ true
  inside_hook below h top = grind (arith, nat_tests, none_at b.wanted b.highest below h, widths)

  -- so that row meets
  pub inside_meets : wants_below b ≡ true → row_meets b (record { width = b.highest; bits = b.wanted }) ≡ true
  inside_meets below =
      let wide = widths in
      meets_from b (record { width = b.highest; bits = b.wanted }) (omega arith) (omega arith) (inside_hook below)

  -- where a row meets, every hook with wanted 1 lies below the highest width
  meets_below : (r : Row) → row_meets b r ≡ true → wants_below b ≡ true
  meets_below r e = none_each b.wanted b.highest (λ h l top. grind (arith, nat_tests, meets_high b r e, meets_hook b r e h top, wanted_named h top))

  -- where some hook has wanted 1, the widest row with no hook set fails
  pub blank_fails : none_from b.wanted 0 ≡ false → row_meets b blank ≡ false
  blank_fails some =
      let found = none_some b.wanted 0 some in
      let named = wanted_named found.0 found.1 found.2 in
      let unset = bit_zeros 32 found.0 in
      hook_fails b blank found.0 found.1 (grind (arith, nat_tests))

  -- where no hook has wanted 1 and some hook is named, the widest row with every hook set fails
  pub full_fails : none_from b.wanted 0 ≡ true → none_from b.named 0 ≡ false → row_meets b full ≡ false
  full_fails none some =
      let found = none_some b.named 0 some in
      let unset = none_at b.wanted 0 none found.0 (omega arith) found.1 in
      let set = bit_ones found.0 found.1 in
      hook_fails b full found.0 found.1 (grind (arith, nat_tests))

  -- where the test is not the one that every row meets, one of three rows fails it
  some_fails : is_every_row b ≡ false → (r : Row) × (row_meets b r ≡ false)
  some_fails e =
      elim (cases_lt 0 b.lowest) [
        | inl l ↦ (fresh_row, narrow_fails b fresh_row l)
        | inr low ↦ elim (cases_lt b.highest 256) [
          | inl l ↦ (blank, wide_fails b blank l)
          | inr high ↦ elim (cases_Bool (none_from b.wanted 0)) [
            | inl none ↦ (full, full_fails none (named_some b low widths.1 high e))
            | inr some ↦ (blank, blank_fails some)
          ]
        ]
      ]

-- the test of widths 0 to 256 that names no hook is the one that every row meets
pub every_is : is_every_row every_row ≡ true
every_is = none_each (replicate 32 0) 0 (λ h _ _. bit_zeros 32 h)

-- it keeps the rules of tests
pub every_sound : is_sound every_row ≡ true
every_sound = every_yes (named_if_wanted every_row) 0 256 (λ h _ _. rw (bit_zeros 32 h))

module _ (b : RowTest) (sound : is_sound b ≡ true) where
  -- some row meets a sound test exactly where every hook with wanted 1 lies below its highest width
  pub row_meetable : Decides (wants_below b) (SomeMeets (row_meets b))
  row_meetable = (
    λ e. ∣ (record { width = b.highest; bits = b.wanted }, inside_meets b sound e) ∣₁,
    λ h. ∥∥₁_elim h (Bool-set (wants_below b) true) (λ x. meets_below b sound x.0 x.1),
  )

  -- some row fails a sound test exactly where it is not the one that every row meets
  pub row_failable : Decides (not (is_every_row b)) (SomeFails (row_meets b))
  row_failable = (
    λ e. ∣ some_fails b sound (not-true (is_every_row b) e) ∣₁,
    λ h. ∥∥₁_elim h (Bool-set (not (is_every_row b)) true) (λ x. elim (cases_Bool (is_every_row b)) [
      | inl y ↦ let p = every_meets b x.0 y in let q = x.1 in absurd (true≢false (cc))
      | inr y ↦ rw y
    ]),
  )
