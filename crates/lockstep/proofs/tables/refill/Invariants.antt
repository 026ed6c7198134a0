-- So far all entries are equal, in the room that there was.
use Rattle.std.proofs.Common.{◌≡◌, replicate, vec_items, vec_len, vec_capacity}
use Rattle.lockstep.proofs.tables.refill.Given as goal

abbrev pub invariant-loop : goal.invariant-loop
invariant-loop g l = (vec_items l.table ≡ replicate l.counter l.value) × (vec_len l.table ≡ l.counter) × (vec_capacity l.table ≡ vec_capacity l.initial.table)
