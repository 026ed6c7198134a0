-- All bytes are the same, or one differs.
use Rattle.std.proofs.iter.runs.Made.{chains}
use Rattle.std.proofs.Common.{◌≡◌, ℕ, ◌<◌, length, get_or, Decides, rules}
use Rattle.rule_text.proofs.Entries.{entry_decided}
use Rattle.rule_text.proofs.names.is_entry.Goals as goal

pub returns : goal.returns
returns c =
    let same : Decides c.all.result ((k : ℕ) → k < length c.args.filled.now → get_or c.args.filled.now k 0 ≡ get_or c.args.name.now k 0) = search (rules, chains) in
    entry_decided c.args.filled.now c.args.name.now c.all.result c.told-filled same
