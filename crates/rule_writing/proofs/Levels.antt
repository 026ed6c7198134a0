-- The level of the grammar that is read at each place of a rule.
use Rattle.rules.specs.declared.node.Join.TheVariants.{Chain, Choice}
use Rattle.rule_text.specs.Grammar.{Level, choice, chain, item}
use Rattle.rule_writing.specs.declared.place.Place.{Place}
use Rattle.rule_writing.specs.declared.place.Place.TheVariants.{Whole, Left, Right, Repeated}

abbrev pub level_of : Place → Level
level_of Whole = choice
level_of (Left Chain) = chain
level_of (Left Choice) = choice
level_of (Right Chain) = item
level_of (Right Choice) = chain
level_of Repeated = item
