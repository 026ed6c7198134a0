-- What is written of each node of a well-formed list, and that it is the text of the node's part.
use Rattle.std.proofs.Common.{◌≡◌, ℕ, zero, suc, ◌+◌, ◌-◌, ◌*◌, ◌<◌, true, false, List, [], ◌∷◌, ◌++◌, length, take, drop, Some, codes, Option, sym, refl, ap, ◌∙◌, subst, ap₂, inl, inr, arith, length-append, take-add}
use Rattle.std.proofs.lemmas.List.{drop-drop, drop_more, length-drop, length-take-le, take_all}
use Rattle.std.proofs.lemmas.Bool.{eqb-true, leb-false, cond-true, cond-false, lt-ltb, le-ltb}
use Rattle.std.proofs.lemmas.Bool.Decides.{leb_tells}
use Rattle.rules.specs.declared.node.Join.{Join as Joining}
use Rattle.rules.specs.declared.node.Node.{Node}
use Rattle.rules.specs.declared.node.Shape.{Shape}
use Rattle.rules.specs.declared.node.Shape.TheVariants.{Void as VoidShape, Nil as NilShape, Leaf as LeafShape, Join as JoinShape, Repeat as RepeatShape}
use Rattle.rules.specs.declared.node.Form.{Form}
use Rattle.rules.specs.declared.node.Form.TheVariants.{Void, Nil, Leaf, Join, Repeat}
use Rattle.rules.specs.Nodes.{node, no_node, shape_at, size_at, form_of, form_at, size_for, is_size, test_from, WellFormed}
use Rattle.rules.proofs.Sizes.{strong, size_within}
use Rattle.rules.proofs.Spans.{spans, join_facts, repeat_facts, join_size}
use Rattle.rule_text.specs.Grammar.{under}
use Rattle.rule_writing.specs.declared.place.Place.{Place}
use Rattle.rule_writing.specs.declared.place.Place.TheVariants.{Whole, Left, Right, Repeated}
use Rattle.rule_writing.specs.Texts.{name_at, between, needs_brackets, in_brackets, Writes, named, opposite, is_nil, is_void, starred, joined}
use Rattle.rule_writing.specs.Parts.{AllNamed, leaf_text, text_of, text_within, text_at, part}

-- a form tells its node's shape
abbrev shape_of : Form → Shape
shape_of Void = VoidShape
shape_of Nil = NilShape
shape_of (Leaf t) = LeafShape t
shape_of (Join o l r) = JoinShape o
shape_of (Repeat c) = RepeatShape

shape_back : (x : Shape) (i s : ℕ) → shape_of (form_of x i s) ≡ x
shape_back VoidShape i s = refl
shape_back NilShape i s = refl
shape_back (LeafShape t) i s = refl
shape_back (JoinShape o) i s = refl
shape_back RepeatShape i s = refl

module _ (names : List (List ℕ)) (ns : List Node) (w : WellFormed ns) where
  shape_is : (p : ℕ) (x : Form) → form_at ns p ≡ x → shape_at ns p ≡ shape_of x
  shape_is p x e = sym (shape_back (shape_at ns p) p (size_at ns (p - 1))) ∙ ap shape_of e

  -- what is written of a node is told by what is written of its children
  text_from : (p : ℕ) (place : Place) (at at' : Place → ℕ → List ℕ) → ((q : ℕ) → q < p → (place : Place) → at place q ≡ at' place q) → (x : Form) → form_at ns p ≡ x → text_of names place x at ≡ text_of names place x at'
  text_from p place at at' same Void e = refl
  text_from p place at at' same Nil e = refl
  text_from p place at at' same (Leaf t) e = refl
  text_from p place at at' same (Join j l r) e =
      let f = join_facts (spans ns w) p l r j e in
      ap₂ (λ (u v : List ℕ). in_brackets (needs_brackets place j) (u ++ (between j ++ v))) (same l (omega arith) (Left j)) (same r (omega arith) (Right j))
  text_from p place at at' same (Repeat c) e = let f = repeat_facts (spans ns w) p c e in ap (λ (u : List ℕ). u ++ codes "*") (same c (omega arith) Repeated)

  enough : (f g p : ℕ) → p < f → p < g → (place : Place) → text_within names ns f place p ≡ text_within names ns g place p
  enough zero g p h k place = absurd (omega arith)
  enough (suc f) zero p h k place = absurd (omega arith)
  enough (suc f) (suc g) p h k place = text_from p place (text_within names ns f) (text_within names ns g) (λ q l. enough f g q (omega arith) (omega arith)) (form_at ns p) refl

  pub text_law : (place : Place) (p : ℕ) → text_at names ns place p ≡ text_of names place (form_at ns p) (text_at names ns)
  unfolding text_at
  text_law place p = text_from p place (text_within names ns p) (λ place q. text_within names ns (suc q) place q) (λ q h. enough p (suc q) q h (omega arith)) (form_at ns p) refl

  -- the same of a node whose form is known
  pub text_as : (place : Place) (p : ℕ) (x : Form) → form_at ns p ≡ x → text_at names ns place p ≡ text_of names place x (text_at names ns)
  text_as place p x e = text_law place p ∙ ap (λ (y : Form). text_of names place y (text_at names ns)) e

  -- the part of a node: its nodes are as many as its size
  part_long : (p : ℕ) → p < length ns → length (part ns p) ≡ size_at ns p
  part_long p h =
      let s = size_within ns w.0 p h in
      length-take-le (size_at ns p) (drop (suc p - size_at ns p) ns) (omega (arith, length-drop (suc p - size_at ns p) ns))

  -- the node at the end of a part
  last_node : (p : ℕ) (x : Form) (s : ℕ) → p < length ns → form_at ns p ≡ x → size_at ns p ≡ s → take 1 (drop p ns) ≡ node (shape_of x) s ∷ []
  last_node p x s h e f = ap (take 1) (drop_more ns p no_node h) ∙ ap₂ (λ (y : Shape) (k : ℕ). node y k ∷ []) (shape_is p x e) f

  -- n nodes from b on, and the one after them, at m
  over : (b n m : ℕ) → b + n ≡ m → take (n + 1) (drop b ns) ≡ take n (drop b ns) ++ take 1 (drop m ns)
  over b n m e = take-add n 1 (drop b ns) ∙ ap (λ (xs : List Node). take n (drop b ns) ++ take 1 xs) (drop-drop n b ns ∙ ap (λ (k : ℕ). drop k ns) e)

  part_flat : (p : ℕ) (x : Form) → p < length ns → form_at ns p ≡ x → size_at ns p ≡ 1 → part ns p ≡ node (shape_of x) 1 ∷ []
  part_flat p x h e f =
      let at : suc p - size_at ns p ≡ p = omega arith in
      ap₂ (λ (k b : ℕ). take k (drop b ns)) f at ∙ last_node p x 1 h e f

  part_repeat : (p c : ℕ) → form_at ns p ≡ Repeat c → part ns p ≡ under RepeatShape (part ns c)
  part_repeat p c e =
      let f = repeat_facts (spans ns w) p c e in
      let s = size_within ns w.0 p f.0 in
      let k = size_within ns w.0 c (omega arith) in
      let size : size_at ns p ≡ size_at ns c + 1 = omega arith in
      let at : suc p - size_at ns p ≡ suc c - size_at ns c = omega arith in
      let long = part_long c (omega arith) in
      ap₂ (λ (n b : ℕ). take n (drop b ns)) size at
      ∙ over (suc c - size_at ns c) (size_at ns c) p (omega arith)
      ∙ ap (λ (xs : List Node). part ns c ++ xs) (last_node p (Repeat c) (length (part ns c) + 1) f.0 e (omega arith))

  part_join : (p l r : ℕ) (j : Joining) → form_at ns p ≡ Join j l r → part ns p ≡ under (JoinShape j) (part ns l ++ part ns r)
  part_join p l r j e =
      let f = join_facts (spans ns w) p l r j e in
      let a = size_within ns w.0 l (omega arith) in
      let c = size_within ns w.0 r (omega arith) in
      let s = join_size ns w p l r j e in
      let n = size_at ns l + size_at ns r in
      let b = suc l - size_at ns l in
      let size : size_at ns p ≡ n + 1 = omega arith in
      let at : suc p - size_at ns p ≡ b = omega arith in
      let second : b + size_at ns l ≡ suc r - size_at ns r = omega arith in
      let both : take n (drop b ns) ≡ part ns l ++ part ns r = take-add (size_at ns l) (size_at ns r) (drop b ns) ∙ ap (λ (xs : List Node). part ns l ++ take (size_at ns r) xs) (drop-drop (size_at ns l) b ns ∙ ap (λ (k : ℕ). drop k ns) second) in
      let long : length (part ns l ++ part ns r) ≡ n = length-append (part ns l) (part ns r) ∙ ap₂ (λ (x y : ℕ). x + y) (part_long l (omega arith)) (part_long r (omega arith)) in
      ap₂ (λ (k i : ℕ). take k (drop i ns)) size at
      ∙ over b n p (omega arith)
      ∙ ap₂ (λ (xs ys : List Node). xs ++ ys) both (last_node p (Join j l r) (length (part ns l ++ part ns r) + 1) f.0 e (omega arith))

  -- the root's part is the whole list
  part_root : part ns (length ns - 1) ≡ ns
  part_root =
      let all : size_at ns (length ns - 1) ≡ length ns = w.1.1 in
      let at : suc (length ns - 1) - size_at ns (length ns - 1) ≡ 0 = omega (arith, w.1.0) in
      ap₂ (λ (k b : ℕ). take k (drop b ns)) all at ∙ take_all (length ns) ns (omega arith)

  -- each test has a name
  module _ (known : AllNamed names ns) where
    leaf_writes : (place : Place) (t : ℕ) → t < 2 * length names → Writes names place (node (LeafShape t) 1 ∷ []) (leaf_text names t)
    leaf_writes place t h = elim (leb_tells (length names) t) [
      | inl k ↦
          (let sum : length names + (t - length names) ≡ t = omega arith in
          rw (cond-false _ (name_at names t) (codes "!" ++ name_at names (t - length names)) (le-ltb t (length names) k.1))
          (subst (λ (u : ℕ). Writes names place (node (LeafShape u) 1 ∷ []) (codes "!" ++ name_at names (t - length names))) sum (opposite (omega arith))))
      | inr k ↦ rw (cond-true _ (name_at names t) (codes "!" ++ name_at names (t - length names)) (lt-ltb t (length names) k.1)) (named k.1)
    ]

    flat_size : (p : ℕ) (x : Shape) → p < length ns → shape_at ns p ≡ x → size_for (size_at ns) x p ≡ Some 1 → size_at ns p ≡ 1
    flat_size p x h e f = eqb-true (size_at ns p) 1 (subst (λ (o : Option ℕ). is_size (size_at ns p) o ≡ true) (ap (λ (y : Shape). size_for (size_at ns) y p) e ∙ f) (w.0 p h))

    -- what is written of each node is the text of its part
    node_writes : (p : ℕ) → p < length ns → (place : Place) → Writes names place (part ns p) (text_at names ns place p)
    node_writes = strong (λ p. p < length ns → (place : Place) → Writes names place (part ns p) (text_at names ns place p)) (λ p ih h place. go p ih h place (form_at ns p) refl)
      where
        go : (p : ℕ) → ((q : ℕ) → q < p → q < length ns → (place : Place) → Writes names place (part ns q) (text_at names ns place q)) → p < length ns → (place : Place) (x : Form) → form_at ns p ≡ x → Writes names place (part ns p) (text_at names ns place p)
        go p ih h place Void e = rw (text_as place p Void e, part_flat p Void h e (flat_size p VoidShape h (shape_is p Void e) refl)) is_void
        go p ih h place Nil e = rw (text_as place p Nil e, part_flat p Nil h e (flat_size p NilShape h (shape_is p Nil e) refl)) is_nil
        go p ih h place (Leaf t) e =
            let k : t < 2 * length names = leb-false (2 * length names) t (subst (λ (x : Shape). test_from (2 * length names) x ≡ false) (shape_is p (Leaf t) e) (known p h)) in
            rw (text_as place p (Leaf t) e, part_flat p (Leaf t) h e (flat_size p (LeafShape t) h (shape_is p (Leaf t) e) refl)) (leaf_writes place t k)
        go p ih h place (Join j l r) e =
            let f = join_facts (spans ns w) p l r j e in
            rw (text_as place p (Join j l r) e, part_join p l r j e) (joined (ih l (omega arith) (omega arith) (Left j)) (ih r (omega arith) (omega arith) (Right j)))
        go p ih h place (Repeat c) e =
            let f = repeat_facts (spans ns w) p c e in
            rw (text_as place p (Repeat c) e, part_repeat p c e) (starred (ih c (omega arith) (omega arith) Repeated))

    pub is_text : Writes names Whole ns (text_at names ns Whole (length ns - 1))
    is_text = subst (λ (ms : List Node). Writes names Whole ms (text_at names ns Whole (length ns - 1))) part_root (node_writes (length ns - 1) (omega (arith, w.1.0)) Whole)
