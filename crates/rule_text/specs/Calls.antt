-- What each reader does, by the structs that it is called with.
use Rattle.std.specs.Prelude.{Result}
use Rattle.refusals.specs.declared.Fault.{Fault}
use Rattle.rules.specs.declared.node.Join.{Join}
use Rattle.rules.specs.declared.rule.Draft.{Draft}
use Rattle.rule_text.specs.declared.reader.Reader.{Reader}
use Rattle.rule_text.specs.declared.rest.Rest.{Rest}
use Rattle.rule_text.specs.Grammar.{Level}
use Rattle.rule_text.specs.Readers.{Outcome, Joins, Opposite, operand}

-- a reader reads a part of level l from a text into a draft
abbrev pub ReadsPart : Reader → Level → Rest → Draft → Draft → Result Rest Fault → Type 0
ReadsPart reader l text before after r = Outcome reader.names.entries.now l text.whole text.bytes.now reader.depth before.nodes.items before.over after.nodes.items after.over r

-- it reads a further part, and joins it to what stood before
abbrev pub ReadsFurther : Reader → Join → Rest → Draft → Draft → Result Rest Fault → Type 0
ReadsFurther reader j text before after r = Joins reader.names.entries.now (operand j) j text.whole text.bytes.now reader.depth before.nodes.items before.over after.nodes.items after.over r

-- it reads the name after `!`
abbrev pub ReadsOpposite : Reader → Rest → Draft → Draft → Result Rest Fault → Type 0
ReadsOpposite reader text before after r = Opposite reader.names.entries.now text.whole text.bytes.now before.nodes.items before.over after.nodes.items after.over r
