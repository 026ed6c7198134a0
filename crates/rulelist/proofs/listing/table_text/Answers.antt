-- One line more.
use Rattle.std.proofs.Common.{◌≡◌, ℕ, ◌+◌, List, ◌++◌, get_or, None, Option, sym, ap, ◌∙◌, append_assoc, add-one}
use Rattle.rules.specs.declared.node.Node.{Node}
use Rattle.rules.specs.Nodes.{no_node}
use Rattle.rulelist.specs.Listing.{header, row, rows}
use Rattle.rulelist.proofs.listing.table_text.Goals as goal

more_rows : (ns : List Node) (next : List ℕ) (far : List (Option ℕ)) (k : ℕ) → (header ++ rows ns next far k) ++ row k (get_or ns k no_node) (get_or next k 0) (get_or far k None) ≡ header ++ rows ns next far (k + 1)
more_rows ns next far k = append_assoc header (rows ns next far k) _ ∙ ap (λ (j : ℕ). header ++ rows ns next far j) (sym (add-one k))

pub loop-number-preserved : goal.loop-number-preserved
loop-number-preserved c =
    let k = c.loop-number.number in
    c.in_ok-write.ensures.bytes
    ∙ ap (λ (text : List ℕ). text ++ row k (get_or c.args.nodes.now k no_node) (get_or c.args.next.now k 0) (get_or c.args.far.now k None)) c.loop-number.invariant
    ∙ more_rows c.args.nodes.now c.args.next.now c.args.far.now k
