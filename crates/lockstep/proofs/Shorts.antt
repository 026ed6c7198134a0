-- There is one short, and a table of it stays one as the next node's is pushed.
use Rattle.std.proofs.Common.{◌≡◌, ℕ, ◌+◌, ◌<◌, Bool, List, [], ◌∷◌, ◌++◌, length, get_or, None, Option, sym, refl, ap, ◌∙◌, ap₂, arith}
use Rattle.std.proofs.lemmas.List.{get_or_append_left}
use Rattle.rules.specs.declared.node.Node.{Node}
use Rattle.rules.specs.declared.node.Join.TheVariants.{Chain as chain, Choice as choice}
use Rattle.rules.specs.declared.node.Form.{Form}
use Rattle.rules.specs.declared.node.Form.TheVariants.{Void as void, Nil as nil, Leaf as leaf, Join as join, Repeat as repeat}
use Rattle.rules.specs.Nodes.{form_at, WellFormed}
use Rattle.rules.proofs.Sizes.{strong}
use Rattle.rules.proofs.Spans.{spans, join_facts}
use Rattle.lockstep.specs.Far.{sum, smaller, short_of, IsShort}
use Rattle.lockstep.proofs.Pushes.{pushed_each}

module _ (ns : List Node) (w : WellFormed ns) (possible : ℕ → Bool) where
  -- short of a node is told by those before it
  short_from : (p : ℕ) (at at' : ℕ → Option ℕ) → ((q : ℕ) → q < p → at q ≡ at' q) → (x : Form) → form_at ns p ≡ x → short_of possible x at ≡ short_of possible x at'
  short_from p at at' same void e = refl
  short_from p at at' same nil e = refl
  short_from p at at' same (leaf t) e = refl
  short_from p at at' same (join chain l r) e = let f = join_facts (spans ns w) p l r chain e in ap₂ sum (same l (omega arith)) (same r (omega arith))
  short_from p at at' same (join choice l r) e = let f = join_facts (spans ns w) p l r choice e in ap₂ smaller (same l (omega arith)) (same r (omega arith))
  short_from p at at' same (repeat c) e = refl

  pub same_short : (short short' : ℕ → Option ℕ) → IsShort possible ns short → IsShort possible ns short' → (q : ℕ) → q < length ns → short q ≡ short' q
  same_short short short' S S' = strong (λ q. q < length ns → short q ≡ short' q) (λ q ih h. S q h ∙ short_from q short short' (λ p k. ih p k (omega arith)) (form_at ns q) refl ∙ sym (S' q h))

  pub short_more : (xs ys : List (Option ℕ)) (x : Option ℕ) → ys ≡ xs ++ x ∷ [] → ((k : ℕ) → k < length xs → get_or xs k None ≡ short_of possible (form_at ns k) (λ q. get_or xs q None)) → x ≡ short_of possible (form_at ns (length xs)) (λ q. get_or xs q None) → (k : ℕ) → k < length xs + 1 → get_or ys k None ≡ short_of possible (form_at ns k) (λ q. get_or ys q None)
  short_more xs ys x e each here = pushed_each (λ k y. y ≡ short_of possible (form_at ns k) (λ q. get_or ys q None)) xs ys x None e (λ k h. each k h ∙ moved k (omega arith)) (here ∙ moved (length xs) (omega arith))
    where
      moved : (k : ℕ) → k < length xs + 1 → short_of possible (form_at ns k) (λ q. get_or xs q None) ≡ short_of possible (form_at ns k) (λ q. get_or ys q None)
      moved k h = short_from k _ _ (λ q j. sym (ap (λ zs. get_or zs q None) e ∙ get_or_append_left xs (x ∷ []) None q (omega arith))) (form_at ns k) refl
