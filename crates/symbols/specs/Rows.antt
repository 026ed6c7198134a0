-- Rows: how one is read, and what loading one gives.
use Rattle.std.specs.Prelude.{ℕ, ◌+◌, ◌-◌, ◌/◌, min, Bool, cond, ◌&&◌, List, ◌++◌, length, replicate, is_ok, Ok, Err, Result, ◌==◌, nat_lt}
use Rattle.refusals.specs.declared.Fault.{Fault}
use Rattle.refusals.specs.declared.Refusal.TheVariants.{TooWide, WrongLength, BitPastWidth}
use Rattle.symbols.specs.declared.rows.Row.{Row}
use Rattle.symbols.specs.Hooks.{bit_of, none_from}

-- the width of a row: what is kept, and 256 at most
abbrev pub width_of : Row → ℕ
width_of r = min r.width 256

-- hook h of a row: below the width the kept bit, and else 0
abbrev pub hook_of : Row → ℕ → Bool
hook_of r h = nat_lt h (width_of r) && bit_of r.bits h

-- a row of width 0 with no hook set
abbrev pub fresh_row : Row
fresh_row = record { width = 0; bits = replicate 32 0 }

-- bytes with zeros after them, 32 in all
abbrev pub padded_to32 : List ℕ → List ℕ
padded_to32 bytes = bytes ++ replicate (32 - length bytes) 0

-- how many bytes go with a width: width / 8 rounded up
abbrev pub bytes_for : ℕ → ℕ
bytes_for width = (width + 7) / 8

-- what loading answers: refused where the width is over 256, then where the number of bytes is wrong, then where a bit at or above the width is 1
abbrev pub load_result : ℕ → List ℕ → Result (Unit {0}) Fault
load_result width bytes =
    cond (nat_lt 256 width)
    (Err (record { refusal = TooWide; place = 0 }))
    (cond (length bytes == bytes_for width) (cond (none_from bytes width) (Ok tt) (Err (record { refusal = BitPastWidth; place = 0 }))) (Err (record { refusal = WrongLength; place = 0 })))

-- the row after that: where it was loaded the width and the bytes given, with zeros after them, and else as it was
abbrev pub load_after : Row → ℕ → List ℕ → Row
load_after r width bytes = cond (is_ok (load_result width bytes)) (record { width = width; bits = padded_to32 bytes }) r
