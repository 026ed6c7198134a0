-- Tests of bytes: which of them some byte meets or fails.
use Rattle.std.specs.Prelude.{◌≡◌, ℕ, ◌<◌, ◌≢◌, true, false, not, Decides, refl}
use Rattle.std.proofs.Common.{inl, inr, arith}
use Rattle.std.proofs.Math.Bool.{Bool-set}
use Rattle.std.proofs.Math.Logic.{∥∥₁_elim}
use Rattle.std.proofs.lemmas.Bool.{cases_Bool, cases_eq}
use Rattle.std.proofs.lemmas.Bool.Decides.{nat_tests}
use Rattle.symbols.specs.declared.bytes.ByteTest.{ByteTest}
use Rattle.symbols.specs.Bytes.{inside, is_every, is_sound}
use Rattle.symbols.specs.Kinds.{SomeMeets, SomeFails}

module _ (b : ByteTest) where
  -- every byte meets the test from 0 to 255
  every_meets : (s : ℕ) → is_every b ≡ true → inside b s ≡ true
  every_meets s h = grind (arith, nat_tests)

  -- byte 0 fails a test whose lowest is above 0
  low_fails : (b.lowest ≢ 0) → inside b 0 ≡ false
  low_fails h = grind (arith, nat_tests)

  -- byte 255 fails a test whose highest is below 255
  high_fails : b.highest < 255 → inside b 255 ≡ false
  high_fails h = grind (arith, nat_tests)

  module _ (sound : is_sound b ≡ true) where
    -- the lowest byte of a sound test meets it
    lowest_meets : inside b b.lowest ≡ true
    lowest_meets = grind (arith, nat_tests)

    -- some byte meets every sound test
    pub byte_meetable : Decides true (SomeMeets (inside b))
    byte_meetable = (λ _. ∣ (b.lowest, lowest_meets) ∣₁, λ _. refl)

    -- some byte fails a sound test exactly where it is not the one from 0 to 255
    pub byte_failable : Decides (not (is_every b)) (SomeFails (inside b))
    byte_failable = (
      λ e. elim (cases_eq b.lowest 0) [
        | inl z ↦ ∣ (255, high_fails (grind (arith, nat_tests))) ∣₁
        | inr z ↦ ∣ (0, low_fails z) ∣₁
      ],
      λ h. ∥∥₁_elim h (Bool-set (not (is_every b)) true) (λ x. elim (cases_Bool (is_every b)) [
        | inl y ↦ let p = every_meets x.0 y in let q = x.1 in cc
        | inr y ↦ rw y
      ]),
    )
