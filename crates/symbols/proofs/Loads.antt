-- What a loaded row reads: the width and the hooks that were given.
use Rattle.std.proofs.Common.{◌≡◌, ℕ, ◌-◌, ◌/◌, ◌≤◌, true, false, List, ◌++◌, length, get_or, replicate, is_ok, sym, refl, ap, inl, inr, arith}
use borrow.Rule.Slice.PartMut.{post_of}
use Rattle.std.proofs.lemmas.List.{get_or_append_left, get_or-append_right, get_or_past, drop-replicate}
use Rattle.std.proofs.lemmas.Bool.{cases_lt, le-ltb, lt-ltb}
use Rattle.std.proofs.lemmas.Bool.Decides.{nat_tests}
use Rattle.symbols.specs.Hooks.{bit_of, none_from}
use Rattle.symbols.specs.Rows.{hook_of, width_of, bytes_for, padded_to32, load_result}
use Rattle.symbols.specs.Bits.{bit_past, get_or_zeros, none_at}

-- bytes copied over the front of 32 zeros are the bytes with zeros after them
pub pad_is : (bytes front : List ℕ) → front ≡ bytes → front ++ post_of 0 (length bytes - 0) (replicate 32 0) ≡ padded_to32 bytes
pad_is bytes front e =
    let n : length bytes - 0 ≡ length bytes = omega arith in
    rw (e, n) (ap (λ rest. bytes ++ rest) (drop-replicate (length bytes) 32 0))

-- zeros after the bytes set no hook
bit_padded : (bytes : List ℕ) (n h : ℕ) → bit_of (bytes ++ replicate n 0) h ≡ bit_of bytes h
bit_padded bytes n h =
    elim (cases_lt (h / 8) (length bytes)) [
      | inl l ↦ rw (get_or_append_left bytes (replicate n 0) 0 (h / 8) l)
      | inr l ↦
          let right = get_or-append_right bytes (replicate n 0) (length bytes) (h / 8) 0 refl l in
          let zeros = get_or_zeros n (h / 8 - length bytes) in
          let past = get_or_past bytes (h / 8) 0 l in
          let same : get_or (bytes ++ replicate n 0) (h / 8) 0 ≡ get_or bytes (h / 8) 0 = cc in
          rw same
    ]

module _ (width : ℕ) (bytes bits : List ℕ) (ok : is_ok (load_result width bytes) ≡ true) (same : bits ≡ padded_to32 bytes) where
  -- what can be loaded has a width of at most 256
  narrow : width ≤ 256
  narrow = grind (arith, nat_tests)

  -- it has as many bytes as go with the width
  enough : length bytes ≡ bytes_for width
  enough = grind (arith, nat_tests)

  -- it has no bit at or above the width
  none : none_from bytes width ≡ true
  none = grind (arith, nat_tests)

  -- the width is the one that was given
  pub loaded_width : width_of (record { width = width; bits = bits }) ≡ width
  loaded_width = omega (arith, narrow)

  -- a hook at or above the width is not set in the bytes
  past_width : (h : ℕ) → width ≤ h → bit_of bytes h ≡ false
  past_width h l =
      elim (cases_lt h 256) [
        | inl low ↦ none_at bytes width none h l low
        | inr high ↦ bit_past bytes h (omega (arith, narrow, enough))
      ]

  -- each hook is the bit of the bytes given
  pub loaded_hooks : (h : ℕ) → hook_of (record { width = width; bits = bits }) h ≡ bit_of bytes h
  loaded_hooks h =
      elim (cases_lt h width) [
        | inl l ↦ rw (loaded_width, lt-ltb h width l, same) (bit_padded bytes (32 - length bytes) h)
        | inr l ↦ rw (loaded_width, le-ltb h width l) (sym (past_width h l))
      ]
