-- The text so far is the header and the lines of the nodes so far.
use Rattle.std.proofs.Common.{◌≡◌, ◌++◌, string_bytes}
use Rattle.rulelist.specs.Listing.{header, rows}
use Rattle.rulelist.proofs.listing.table_text.Given as goal

abbrev pub invariant-loop-number : goal.invariant-loop-number
invariant-loop-number l = string_bytes l.text ≡ header ++ rows l.nodes l.next l.far l.number
