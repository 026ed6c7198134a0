-- Hooks: numbered bits, eight to a byte.
use Rattle.std.specs.Prelude.{ℕ, ◌-◌, ◌/◌, ◌%◌, ◌^◌, Bool, not, List, ◌==◌, slice_index}
use Rattle.std.specs.List.{list_all, range_with_len}

-- every number from a up to b passes, without b
unfoldable pub every_between : ℕ → ℕ → (ℕ → Bool) → Bool
every_between a b passes = list_all passes (range_with_len a (b - a))

-- hook h of a list of bytes: the bit of value 2^(h mod 8) in byte h / 8, and 0 past the bytes
abbrev pub bit_of : List ℕ → ℕ → Bool
bit_of bytes h = slice_index bytes (h / 8) / 2 ^ (h % 8) % 2 == 1

-- none of the 256 hooks at or above n is set
abbrev pub none_from : List ℕ → ℕ → Bool
none_from bytes n = every_between n 256 (λ h. not (bit_of bytes h))
