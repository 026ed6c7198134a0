-- The tests of bytes: which bytes meet each.
use Rattle.std.specs.Prelude.{ℕ, min, Bool, ◌&&◌, ◌==◌, nat_le}
use Rattle.symbols.specs.declared.bytes.ByteTest.{ByteTest}

-- a number as a byte: one past 255 reads as 255
abbrev pub reading : ℕ → ℕ
reading n = min n 255

-- the test from byte 0 to byte 255, which every byte meets
abbrev pub every_byte : ByteTest
every_byte = record { lowest = 0; highest = 255 }

-- whether the lowest of a test is not above its highest, and the highest is a byte
abbrev pub is_sound : ByteTest → Bool
is_sound b = nat_le b.lowest b.highest && nat_le b.highest 255

-- whether a byte meets a test: it lies from the lowest to the highest, both included
abbrev pub inside : ByteTest → ℕ → Bool
inside b s = nat_le b.lowest (reading s) && nat_le (reading s) b.highest

-- whether a test is the one from 0 to 255
abbrev pub is_every : ByteTest → Bool
is_every b = b.lowest == 0 && b.highest == 255
