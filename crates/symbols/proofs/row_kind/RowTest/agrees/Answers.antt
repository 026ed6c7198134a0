-- The chain goes over all 256 hooks.
use Rattle.std.proofs.Common.{refl, rules}
use Rattle.std.proofs.lemmas.Iterator.{YieldsList-from_range}
use Rattle.std.proofs.lemmas.Iterator.Search.{all_from_yields_List}
use Rattle.symbols.specs.Hooks.{every_between}
use Rattle.symbols.specs.RowTests.{as_wanted}
use Rattle.symbols.proofs.row_kind.RowTest.agrees.Goals as goal

pub returns : goal.returns
unfolding every_between
returns c = all_from_yields_List (as_wanted c.args.self.now c.args.row.now) _ _ _ c.all.ensures.ran (YieldsList-from_range 0 256 256 refl refl) (λ x b q k. search rules)
