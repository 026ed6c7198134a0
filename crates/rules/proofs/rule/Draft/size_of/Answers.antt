-- The part of a node lies within the list.
use Rattle.std.proofs.Common.{arith, rules}
use Rattle.rules.proofs.Sizes.{size_few}
use Rattle.rules.proofs.rule.Draft.size_of.Goals as goal

pub returns-clause-few : goal.returns-clause-few
returns-clause-few c =
    let ns = c.args.self.now.nodes.items in
    size_few ns c.args.self.now.fitting (omega arith) c.args.i _ (search rules)
