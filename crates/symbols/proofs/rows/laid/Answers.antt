-- Bytes that can be loaded give a row of the width and the hooks that were given.
use Rattle.std.proofs.Common.{◌-◌, ◌++◌, length, replicate, ap}
use borrow.Rule.Slice.PartMut.{post_of}
use Rattle.symbols.specs.declared.rows.Row.{Row}
use Rattle.symbols.proofs.Loads.{pad_is, loaded_width, loaded_hooks}
use Rattle.symbols.proofs.rows.laid.Goals as goal

pub returns : goal.returns
returns c =
    let width = c.args.width in
    let bytes = c.args.bytes.now in
    let front = c.copy_from_slice.new.self in
    let bits = front ++ post_of 0 (length bytes - 0) (replicate 32 0) in
    let same = pad_is bytes front c.copy_from_slice.ensures.after in
    let ok = c.requires in
    record {
      row = ap {B = Row} (λ b. record { width = width; bits = b }) same;
      reads = (loaded_width width bytes bits ok same, loaded_hooks width bytes bits ok same);
    }
