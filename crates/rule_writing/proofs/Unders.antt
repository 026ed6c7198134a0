-- A parent over its children's nodes: what it is, and what stands beneath it.
use Rattle.std.proofs.Common.{◌≡◌, ◌+◌, ◌-◌, List, [], ◌∷◌, ◌++◌, length, take, drop, sym, refl, ap, ◌∙◌, arith, length-append}
use Rattle.std.proofs.lemmas.List.{get_or_push, same_from_push, take_at, drop_at}
use Rattle.rules.specs.declared.node.Node.{Node}
use Rattle.rules.specs.declared.node.Shape.{Shape}
use Rattle.rules.specs.Nodes.{node, no_node, shape_at, size_at, Rooted}
use Rattle.rule_text.specs.Grammar.{under}
use Rattle.rule_text.proofs.Drafting.{last_size}

-- the shape of the last node
abbrev pub top : List Node → Shape
top ns = shape_at ns (length ns - 1)

pub top_under : (x : Shape) (ns : List Node) → top (under x ns) ≡ x
top_under x ns =
    let n = node x (length ns + 1) in
    let last : length (under x ns) - 1 ≡ length ns = omega (arith, length-append ns (n ∷ [])) in
    ap (shape_at (under x ns)) last ∙ ap (λ (m : Node). m.shape) (get_or_push ns n no_node (length ns) refl)

pub beneath : (x y : Shape) (ns ms : List Node) → under x ns ≡ under y ms → ns ≡ ms
beneath x y ns ms e = (same_from_push ns ms _ _ e).0

-- two children's lists are told by what they come to together, since each ends in its root
pub same_parts : (ls ls' rs rs' : List Node) → Rooted rs → Rooted rs' → ls ++ rs ≡ ls' ++ rs' → (ls ≡ ls') × (rs ≡ rs')
same_parts ls ls' rs rs' r r' e =
    let right : length rs ≡ length rs' = sym (last_size ls rs r) ∙ ap (λ (ns : List Node). size_at ns (length ns - 1)) e ∙ last_size ls' rs' r' in
    let left : length ls' ≡ length ls = omega (arith, ap length e, length-append ls rs, length-append ls' rs') in (
      sym (take_at ls rs (length ls) refl) ∙ ap (take (length ls)) e ∙ take_at ls' rs' (length ls) left,
      sym (drop_at ls rs (length ls) refl) ∙ ap (drop (length ls)) e ∙ drop_at ls' rs' (length ls) left,
    )
