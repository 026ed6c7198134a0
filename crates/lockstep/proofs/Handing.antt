-- The table of next as each node, from the root down, sets the entries of its children; so there is a next.
use Rattle.std.proofs.Common.{◌≡◌, ℕ, zero, suc, ◌-◌, ◌<◌, ◌≤◌, List, length, get_or, set, replicate, sym, refl, ap, ◌∙◌, subst, inl, inr, arith}
use lib.ListN.{length-replicate}
use Rattle.std.proofs.lemmas.List.{length-set, get_or-set_same, get_or-set_other}
use Rattle.std.proofs.lemmas.Bool.Decides.{eqb_tells}
use Rattle.rules.specs.declared.node.Node.{Node}
use Rattle.rules.specs.declared.node.Form.{Form}
use Rattle.rules.specs.declared.node.Form.TheVariants.{Void as void, Nil as nil, Leaf as leaf, Join as join, Repeat as repeat}
use Rattle.rules.specs.Nodes.{form_at, WellFormed}
use Rattle.rules.specs.Children.{Kid, left_kid, right_kid, only_kid}
use Rattle.rules.proofs.Spans.{join_facts, repeat_facts, kid_facts, one_parent, spans}
use Rattle.lockstep.specs.Next.{after_left, handed_down, IsNext}

-- the entries of p's children, where p has this form, are set by p's
abbrev pub Sets : Form → ℕ → (ℕ → ℕ) → Type 0
Sets void p next = Unit {0}
Sets nil p next = Unit {0}
Sets (leaf t) p next = Unit {0}
Sets (join o l r) p next = (next l ≡ after_left o r (next p)) × (next r ≡ next p)
Sets (repeat c) p next = next c ≡ p

-- the root's entry is set, and those of the children of p and of later nodes
abbrev pub SetFrom : List Node → List ℕ → ℕ → Type 0
SetFrom ns next p = (length next ≡ length ns) × (get_or next (length ns - 1) 0 ≡ length ns) × ((a : ℕ) → p ≤ a → Sets (form_at ns a) a (λ q. get_or next q 0))

length_handed : (x : Form) (p : ℕ) (next : List ℕ) → length (handed_down x p next) ≡ length next
length_handed void p next = refl
length_handed nil p next = refl
length_handed (leaf t) p next = refl
length_handed (join o l r) p next = simp length-set
length_handed (repeat c) p next = length-set next c p

module _ (ns : List Node) (w : WellFormed ns) where
  pub root_set : (next : List ℕ) → length next ≡ length ns → SetFrom ns (set next (length ns - 1) (length ns)) (length ns)
  root_set next h = (
    length-set next (length ns - 1) (length ns) ∙ h,
    get_or-set_same next (length ns - 1) (length ns) 0 (omega (arith, w.1.0)),
    λ a k. subst (λ (x : Form). Sets x a (λ q. get_or (set next (length ns - 1) (length ns)) q 0)) (sym ((spans ns w).outside a k)) tt,
  )

  module _ (p : ℕ) (next : List ℕ) where
    handed : ℕ → ℕ
    handed q = get_or (handed_down (form_at ns p) p next) q 0

    -- only the entries of children are written
    kept : (q : ℕ) → (Kid (form_at ns) p q → ⊥) → handed q ≡ get_or next q 0
    unfolding handed
    kept q d = go (form_at ns p) refl
      where
        go : (x : Form) → form_at ns p ≡ x → get_or (handed_down x p next) q 0 ≡ get_or next q 0
        go void e = refl
        go nil e = refl
        go (leaf t) e = refl
        go (join o l r) e =
            get_or-set_other _ r q _ 0 (λ i. d (subst (Kid (form_at ns) p) (sym i) (right_kid e)))
            ∙ get_or-set_other next l q _ 0 (λ i. d (subst (Kid (form_at ns) p) (sym i) (left_kid e)))
        go (repeat c) e = get_or-set_other next c q p 0 (λ i. d (subst (Kid (form_at ns) p) (sym i) (only_kid e)))

    -- a node that is not before p keeps its entry, and so do the children of a later one
    kept_later : (q : ℕ) → p ≤ q → handed q ≡ get_or next q 0
    kept_later q k = kept q (λ d. omega (arith, (kid_facts (spans ns w) d).0))

    kept_kid : (a q : ℕ) → p < a → Kid (form_at ns) a q → handed q ≡ get_or next q 0
    kept_kid a q k b = kept q (λ d. omega (arith, one_parent (spans ns w) d b))

    sets_later : (a : ℕ) → p < a → (x : Form) → form_at ns a ≡ x → Sets x a (λ q. get_or next q 0) → Sets x a handed
    sets_later a k void e s = tt
    sets_later a k nil e s = tt
    sets_later a k (leaf t) e s = tt
    sets_later a k (join o l r) e s =
        let own = kept_later a (omega arith) in
        (kept_kid a l k (left_kid e) ∙ s.0 ∙ ap (after_left o r) (sym own), kept_kid a r k (right_kid e) ∙ s.1 ∙ sym own)
    sets_later a k (repeat c) e s = kept_kid a c k (only_kid e) ∙ s

    sets_own : length next ≡ length ns → (x : Form) → form_at ns p ≡ x → Sets x p handed
    unfolding handed
    sets_own h void e = tt
    sets_own h nil e = tt
    sets_own h (leaf t) e = tt
    sets_own h (join o l r) e =
        let f = join_facts (spans ns w) p l r o e in
        let own = kept_later p (omega arith) in
        let apart : l ≡ r → ⊥ = omega arith in (
          ap (λ (x : Form). get_or (handed_down x p next) l 0) e ∙ get_or-set_other _ r l _ 0 apart ∙ get_or-set_same next l _ 0 (omega arith) ∙ ap (after_left o r) (sym own),
          ap (λ (x : Form). get_or (handed_down x p next) r 0) e ∙ get_or-set_same _ r _ 0 (simp length-set (omega arith)) ∙ sym own,
        )
    sets_own h (repeat c) e = let f = repeat_facts (spans ns w) p c e in ap (λ (x : Form). get_or (handed_down x p next) c 0) e ∙ get_or-set_same next c p 0 (omega arith)

  pub set_more : (p : ℕ) (next new : List ℕ) → 0 < p → p ≤ length ns → new ≡ handed_down (form_at ns (p - 1)) (p - 1) next → SetFrom ns next p → SetFrom ns new (p - 1)
  unfolding handed
  set_more p next new some k e s = rw e (
    length_handed (form_at ns (p - 1)) (p - 1) next ∙ s.0,
    kept_later (p - 1) next (length ns - 1) (omega arith) ∙ s.1,
    λ a b. elim (eqb_tells a (p - 1)) [
      | inl i ↦ rw i.1 (sets_own (p - 1) next s.0 (form_at ns (p - 1)) refl)
      | inr i ↦ sets_later (p - 1) next a (omega arith) (form_at ns a) refl (s.2 a (omega arith))
    ],
  )

  set_all : (k : ℕ) → k ≤ length ns → (next : List ℕ) × SetFrom ns next (length ns - k)
  set_all zero h = (_, (let e : length ns ≡ length ns - 0 = omega arith in subst (SetFrom ns _) e (root_set (replicate (length ns) 0) (length-replicate (length ns) 0))))
  set_all (suc k) h =
      let s = set_all k (omega arith) in
      let e : length ns - k - 1 ≡ length ns - suc k = omega arith in
      (_, subst (SetFrom ns _) e (set_more (length ns - k) s.0 _ (omega arith) (omega arith) refl s.1))

  pub is_next : (next : List ℕ) → SetFrom ns next 0 → IsNext ns (λ q. get_or next q 0)
  is_next next s = record {
    root = s.1;
    left = λ p l r o e. (at p (join o l r) e).0;
    right = λ p l r o e. (at p (join o l r) e).1;
    child = λ p c e. at p (repeat c) e;
  }
    where
      at : (p : ℕ) (x : Form) → form_at ns p ≡ x → Sets x p (λ q. get_or next q 0)
      at p x e = subst (λ (x : Form). Sets x p (λ q. get_or next q 0)) e (s.2 p (omega arith))

  pub has_next : (next : ℕ → ℕ) × IsNext ns next
  has_next =
      let s = set_all (length ns) (omega arith) in
      let e : length ns - length ns ≡ 0 = omega arith in
      (λ q. get_or s.0 q 0, is_next s.0 (subst (SetFrom ns s.0) e s.1))
