-- What is known of the node makes the record good.
use Rattle.std.proofs.Common.{◌++◌, ◌∷◌, [], ℕ, Some, sym, ap, ◌∙◌}
use Rattle.rules.specs.Nodes.{node}
use Rattle.rules.proofs.rule.Draft.add.Goals as goal

pub returns-clause-nodes : goal.returns-clause-nodes
returns-clause-nodes c =
    let t = c.in-Some.ensures in (
      record { shape = c.in-Some.node.shape; tells = t.0; fits = t.1 ∙ ap Some (sym t.2) },
      c.append.ensures.items ∙ ap (λ (s : ℕ). c.args.self.now.nodes.items ++ node c.in-Some.node.shape s ∷ []) (sym t.2),
    )
