-- The chain goes over every hook that the bytes hold from the start on.
use Rattle.std.proofs.Common.{◌*◌, not, length, refl, rules, ◌∙◌}
use Rattle.std.proofs.lemmas.Iterator.{YieldsList-from_range}
use Rattle.std.proofs.lemmas.Iterator.Search.{all_from_yields_List}
use Rattle.symbols.specs.Hooks.{every_between, bit_of}
use Rattle.symbols.specs.Bits.{held_is_all}
use Rattle.symbols.proofs.rows.none_from.Goals as goal

pub returns : goal.returns
unfolding every_between
returns c =
    all_from_yields_List (λ h. not (bit_of c.args.bytes.now h)) _ _ _ c.all.ensures.ran (YieldsList-from_range c.args.start (8 * length c.args.bytes.now) _ refl refl) (λ x b q k. search rules)
    ∙ held_is_all c.args.bytes.now c.args.start c.requires
