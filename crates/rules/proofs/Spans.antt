-- Where the parts of a well-formed list begin, where children stand, and that a node has one parent.
use Rattle.std.proofs.Common.{◌≡◌, ℕ, suc, ◌+◌, ◌-◌, ◌<◌, ◌≤◌, max, true, ◌⊎◌, List, length, sym, refl, ap, subst, inl, inr, arith}
use Rattle.std.proofs.lemmas.List.{get_or_past}
use Rattle.std.proofs.lemmas.Bool.{eqb-true}
use Rattle.std.proofs.lemmas.Bool.Decides.{leb_tells, eqb_tells}
use Rattle.rules.specs.declared.node.Node.{Node}
use Rattle.rules.specs.declared.node.Join.{Join}
use Rattle.rules.specs.declared.node.Shape.{Shape}
use Rattle.rules.specs.declared.node.Shape.TheVariants.{Void, Nil, Leaf, Join as Joined, Repeat}
use Rattle.rules.specs.declared.node.Form.{Form}
use Rattle.rules.specs.declared.node.Form.TheVariants.{Void as void, Nil as nil, Leaf as leaf, Join as join, Repeat as repeat}
use Rattle.rules.specs.Children.{Kid, left_kid, right_kid, only_kid, OneParent}
use Rattle.rules.specs.Nodes.{no_node, size_at, shape_at, size_for, is_size, form_of, form_at, WellFormed}
use Rattle.rules.proofs.Sizes.{strong, joined, repeated, size_within}

-- the part that ends with p, a node of this form, begins at lo p
abbrev pub Spanned : (ℕ → ℕ) → Form → ℕ → Type 0
Spanned lo void p = lo p ≡ p
Spanned lo nil p = lo p ≡ p
Spanned lo (leaf t) p = lo p ≡ p
Spanned lo (join o l r) p = (suc r ≡ p) × (lo r ≡ suc l) × (lo p ≡ lo l)
Spanned lo (repeat c) p = (suc c ≡ p) × (lo p ≡ lo c)

-- n nodes of these forms, whose parts begin at lo, the last one at 0
pub record Spans (form : ℕ → Form) (lo : ℕ → ℕ) (n : ℕ) : Type 0 where
  pub low : (p : ℕ) → lo p ≤ p
  pub span : (p : ℕ) → Spanned lo (form p) p
  pub outside : (p : ℕ) → n ≤ p → form p ≡ void
  pub full : lo (n - 1) ≡ 0
  pub some : 0 < n

module _ {form : ℕ → Form} {lo : ℕ → ℕ} {n : ℕ} (N : Spans form lo n) where
  -- a part that ends within another begins within it
  pub nested : (a p : ℕ) → lo a ≤ p → p ≤ a → lo a ≤ lo p
  nested = strong (λ a. (p : ℕ) → lo a ≤ p → p ≤ a → lo a ≤ lo p) (λ a ih p h1 h2. go a ih p h1 h2 (form a) (N.span a))
    where
      same : (a p : ℕ) → p ≡ a → lo a ≤ lo p
      same a p e = rw e (omega arith)

      go : (a : ℕ) → ((b : ℕ) → b < a → (p : ℕ) → lo b ≤ p → p ≤ b → lo b ≤ lo p) → (p : ℕ) → lo a ≤ p → p ≤ a → (x : Form) → Spanned lo x a → lo a ≤ lo p
      go a ih p h1 h2 void s = same a p (omega arith)
      go a ih p h1 h2 nil s = same a p (omega arith)
      go a ih p h1 h2 (leaf t) s = same a p (omega arith)
      go a ih p h1 h2 (join o l r) s = elim (leb_tells p l) [
        | inl k ↦ (let i = ih l (omega (arith, N.low r)) p (omega arith) (omega arith) in omega arith)
        | inr k ↦ elim (eqb_tells p a) [
          | inl e ↦ same a p e.1
          | inr e ↦ (let i = ih r (omega arith) p (omega arith) (omega arith) in omega (arith, N.low l))
        ]
      ]
      go a ih p h1 h2 (repeat c) s = elim (eqb_tells p a) [
        | inl e ↦ same a p e.1
        | inr e ↦ (let i = ih c (omega arith) p (omega arith) (omega arith) in omega arith)
      ]

  -- what is not void stands in the list
  pub within : (p : ℕ) → (form p ≡ void → ⊥) → p < n
  within p d = elim (leb_tells n p) [ inl e ↦ absurd (d (N.outside p e.1)) | inr e ↦ e.1 ]

  pub join_facts : (p l r : ℕ) (o : Join) → form p ≡ join o l r → (p < n) × (l < r) × (suc r ≡ p) × (lo r ≡ suc l) × (lo p ≡ lo l)
  join_facts p l r o e =
      let s : Spanned lo (join o l r) p = rw e at (N.span p) in
      let d : form p ≡ void → ⊥ = λ q. (let z : ◌≡◌ {A = ℕ} 0 1 = cc in omega arith) in
      (within p d, omega (arith, N.low r), s.0, s.1, s.2)

  pub repeat_facts : (p c : ℕ) → form p ≡ repeat c → (p < n) × (suc c ≡ p) × (lo p ≡ lo c)
  repeat_facts p c e =
      let s : Spanned lo (repeat c) p = rw e at (N.span p) in
      let d : form p ≡ void → ⊥ = λ q. (let z : ◌≡◌ {A = ℕ} 0 1 = cc in omega arith) in
      (within p d, s.0, s.1)

  -- a child q stands before p and in p's part, and the part after q, if there is one, is that of the node before p
  pub kid_facts : {p q : ℕ} → Kid form p q → (q < p) × (p < n) × (lo p ≤ q) × ((suc q ≡ p) ⊎ (lo (p - 1) ≡ suc q))
  kid_facts (left_kid {p = p} {l = l} {r = r} {o = o} e) =
      let f = join_facts p l r o e in
      let g : p - 1 ≡ r = omega arith in
      (omega arith, f.0, omega (arith, N.low l), inr (rw g f.3))
  kid_facts (right_kid {p = p} {l = l} {r = r} {o = o} e) = let f = join_facts p l r o e in (omega arith, f.0, omega (arith, N.low l), inl f.2)
  kid_facts (only_kid {p = p} {c = c} e) = let f = repeat_facts p c e in (omega arith, f.0, omega (arith, N.low c), inl f.1)

  not_later : {p p' q : ℕ} → Kid form p q → Kid form p' q → p < p' → ⊥
  not_later {p} {p'} {q} a b h =
      let f = kid_facts a in
      let g = kid_facts b in
      elim g.3 [
        | inl e ↦ omega arith
        | inr e ↦ (let k = nested (p' - 1) p (omega arith) (omega arith) in omega arith)
      ]

  pub one_parent : {p p' q : ℕ} → Kid form p q → Kid form p' q → p ≡ p'
  one_parent {p} {p'} a b = elim (eqb_tells p p') [
    | inl e ↦ e.1
    | inr e ↦ elim (leb_tells p p') [ inl f ↦ absurd (not_later a b (omega arith)) | inr f ↦ absurd (not_later b a (omega arith)) ]
  ]

  -- what holds of the root and is handed from each node to its children holds of each node
  pub from_root : (P : ℕ → Type 0) → P (n - 1) → ((p q : ℕ) → Kid form p q → P p → P q) → (q : ℕ) → q < n → P q
  from_root P root hand q h = down (n - 1) (omega (arith, N.full)) (omega arith) root
    where
      go : (a : ℕ) → ((b : ℕ) → b < a → lo b ≤ q → q ≤ b → P b → P q) → lo a ≤ q → q ≤ a → P a → (x : Form) → form a ≡ x → Spanned lo x a → (q ≡ a → ⊥) → P q
      go a ih h1 h2 f void e s d = absurd (omega arith)
      go a ih h1 h2 f nil e s d = absurd (omega arith)
      go a ih h1 h2 f (leaf t) e s d = absurd (omega arith)
      go a ih h1 h2 f (join o l r) e s d = elim (leb_tells q l) [
        | inl k ↦ ih l (omega (arith, N.low r)) (omega arith) (omega arith) (hand a l (left_kid e) f)
        | inr k ↦ ih r (omega arith) (omega arith) (omega arith) (hand a r (right_kid e) f)
      ]
      go a ih h1 h2 f (repeat c) e s d = ih c (omega arith) (omega arith) (omega arith) (hand a c (only_kid e) f)

      down : (a : ℕ) → lo a ≤ q → q ≤ a → P a → P q
      down = strong (λ a. lo a ≤ q → q ≤ a → P a → P q) (λ a ih h1 h2 f. elim (eqb_tells q a) [ inl e ↦ rw e.1 f | inr e ↦ go a ih h1 h2 f (form a) refl (N.span a) e.1 ])

  -- each node but the root is some node's child
  pub parent_of : (q : ℕ) → q < n - 1 → (p : ℕ) × Kid form p q
  parent_of q h = from_root (λ q. q < n - 1 → (p : ℕ) × Kid form p q) (λ k. absurd (omega arith)) (λ p q k f g. (p, k)) q (omega arith) h

-- where the part that ends with p begins; beyond the list at p itself
abbrev pub begin : (ℕ → ℕ) → ℕ → ℕ
begin size p = suc p - max 1 (size p)

spanned_fit : (size : ℕ → ℕ) (x : Shape) (i : ℕ) → ((j : ℕ) → j ≤ i → 1 ≤ size j) → is_size (size i) (size_for size x i) ≡ true → Spanned (begin size) (form_of x i (size (i - 1))) i
spanned_fit size Void i pos e = omega (arith, eqb-true (size i) 1 e)
spanned_fit size Nil i pos e = omega (arith, eqb-true (size i) 1 e)
spanned_fit size (Leaf t) i pos e = omega (arith, eqb-true (size i) 1 e)
spanned_fit size (Joined o) i pos e = omega (arith, joined size i (size i) e, pos (i - 1) (omega arith), pos (i - 1 - size (i - 1)) (omega arith))
spanned_fit size Repeat i pos e = omega (arith, repeated size i (size i) e, pos (i - 1) (omega arith))

-- past the list a void is read
pub void_past : (ns : List Node) (i : ℕ) → length ns ≤ i → form_at ns i ≡ void
void_past ns i h = ap (λ (x : Node). form_of x.shape i (size_at ns (i - 1))) (get_or_past ns i no_node h)

-- the parts of a well-formed list
module _ (ns : List Node) (w : WellFormed ns) where
  at_node : (p : ℕ) → Spanned (begin (size_at ns)) (form_at ns p) p
  at_node p = elim (leb_tells (length ns) p) [
    | inl d ↦
        (let alone : Spanned (begin (size_at ns)) void p = omega (arith, ap (λ (x : Node). x.size) (get_or_past ns p no_node d.1)) in
        subst (λ (x : Form). Spanned (begin (size_at ns)) x p) (sym (void_past ns p d.1)) alone)
    | inr d ↦ spanned_fit (size_at ns) (shape_at ns p) p (λ j h. (size_within ns w.0 j (omega arith)).0) (w.0 p d.1)
  ]

  pub spans : Spans (form_at ns) (begin (size_at ns)) (length ns)
  spans = record {
    low = λ p. omega arith;
    span = at_node;
    outside = void_past ns;
    full = omega (arith, w.1);
    some = w.1.0;
  }

  -- a join's part is itself and its children's parts
  pub join_size : (p l r : ℕ) (o : Join) → form_at ns p ≡ join o l r → size_at ns p ≡ 1 + (size_at ns l + size_at ns r)
  join_size p l r o e =
      let f = join_facts spans p l r o e in
      omega (arith, size_within ns w.0 p (omega arith), size_within ns w.0 l (omega arith), size_within ns w.0 r (omega arith))

pub parents : OneParent
parents ns w q h =
    let k = parent_of (spans ns w) q h in
    let f = kid_facts (spans ns w) k.1 in
    record { parent = k.0; kid = k.1; later = f.0; within = f.1; only = λ p j. one_parent (spans ns w) j k.1 }
