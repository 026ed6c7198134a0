-- The tests of rows: which rows meet each.
use Rattle.std.specs.Prelude.{ℕ, Bool, cond, not, ◌&&◌, ◌||◌, replicate, ◌==◌, nat_le}
use Rattle.symbols.specs.declared.row_kind.RowTest.{RowTest}
use Rattle.symbols.specs.declared.rows.Row.{Row}
use Rattle.symbols.specs.Hooks.{every_between, bit_of, none_from}
use Rattle.symbols.specs.Rows.{width_of, hook_of}

-- the test of widths 0 to 256 that names no hook, which every row meets
abbrev pub every_row : RowTest
every_row = record { lowest = 0; highest = 256; named = replicate 32 0; wanted = replicate 32 0 }

-- whether a hook of a row is as a test wants it: it is not named, or it has its wanted bit
abbrev pub as_wanted : RowTest → Row → ℕ → Bool
as_wanted b r h = not (bit_of b.named h) || cond (bit_of b.wanted h) (hook_of r h) (not (hook_of r h))

-- whether a row meets a test: its width lies from the lowest to the highest, both included, and each of the 256 hooks is as wanted
abbrev pub row_meets : RowTest → Row → Bool
row_meets b r = nat_le b.lowest (width_of r) && (nat_le (width_of r) b.highest && every_between 0 256 (as_wanted b r))

-- whether a hook of a test is named, or its wanted bit is 0
abbrev pub named_if_wanted : RowTest → ℕ → Bool
named_if_wanted b h = not (bit_of b.wanted h) || bit_of b.named h

-- whether a test keeps its rules: the lowest width is not above the highest, the highest is at most 256, and a wanted 1 stands on named hooks alone
abbrev pub is_sound : RowTest → Bool
is_sound b = nat_le b.lowest b.highest && (nat_le b.highest 256 && every_between 0 256 (named_if_wanted b))

-- whether every hook with wanted 1 lies below the highest width
abbrev pub wants_below : RowTest → Bool
wants_below b = none_from b.wanted b.highest

-- whether a test has widths 0 to 256 and names no hook
abbrev pub is_every_row : RowTest → Bool
is_every_row b = b.lowest == 0 && (b.highest == 256 && none_from b.named 0)
