-- The extent of a node's text, by the node's form.
use Rattle.std.proofs.Common.{◌≡◌, ℕ, ◌+◌, ◌*◌, ◌<◌, ◌≤◌, max, Bool, true, false, List, ◌++◌, length, codes, sym, refl, ap, ◌∙◌, subst, arith, length-append}
use Rattle.rules.specs.declared.node.Join.{Join as Joining}
use Rattle.rules.specs.declared.node.Join.TheVariants.{Chain, Choice}
use Rattle.rules.specs.declared.node.Node.{Node}
use Rattle.rules.specs.declared.node.Form.{Form}
use Rattle.rules.specs.declared.node.Form.TheVariants.{Void, Nil, Leaf, Join, Repeat}
use Rattle.rules.specs.Nodes.{size_at, form_at, WellFormed}
use Rattle.rules.proofs.Sizes.{size_within}
use Rattle.rules.proofs.Spans.{spans, repeat_facts, join_size}
use Rattle.rule_writing.specs.declared.place.Place.{Place}
use Rattle.rule_writing.specs.declared.place.Place.TheVariants.{Left, Right, Repeated}
use Rattle.rule_writing.specs.Texts.{between, needs_brackets, in_brackets}
use Rattle.rule_writing.specs.Parts.{leaf_text, text_of, text_at, Deep, height_in, length_in, Measured}
use Rattle.rule_writing.proofs.Nesting.{void_deep, nil_deep, leaf_deep, star_deep, join_deep}
use Rattle.rule_writing.proofs.Positions.{text_as}

length_in_lem : (b : Bool) (text : List ℕ) → length (in_brackets b text) ≡ length_in b (length text)
length_in_lem true text = let a = length-append text (codes ")") in omega arith
length_in_lem false text = refl

pub between_short : (j : Joining) → length (between j) ≤ 3
between_short Chain = omega arith
between_short Choice = omega arith

in_limits : (b : Bool) (n h m : ℕ) → n + 2 ≤ 17 * m → h + 1 ≤ m → (length_in b n ≤ 17 * m) × (height_in b h ≤ m)
in_limits true n h m k l = (k, omega arith)
in_limits false n h m k l = (omega arith, omega arith)

module _ (names : List (List ℕ)) (ns : List Node) (w : WellFormed ns) (place : Place) (p : ℕ) (within : p < length ns) where
  -- from what the node's text is
  told : (x : Form) (n h : ℕ) → form_at ns p ≡ x → n ≡ length (text_of names place x (text_at names ns)) → Deep (text_of names place x (text_at names ns)) h → n ≤ 17 * size_at ns p → h ≤ size_at ns p → Measured names ns place p n h
  told x n h e long deep few flat =
      let is = sym (text_as names ns w place p x e) in
      record { long = long ∙ ap length is; deep = subst (λ (text : List ℕ). Deep text h) is deep; few = few; flat = flat }

  one : 1 ≤ size_at ns p
  one = (size_within ns w.0 p within).0

  pub measured_void : form_at ns p ≡ Void → Measured names ns place p 4 0
  measured_void e = told Void 4 0 e refl void_deep (omega (arith, one)) (omega arith)

  pub measured_nil : form_at ns p ≡ Nil → Measured names ns place p 3 0
  measured_nil e = told Nil 3 0 e refl nil_deep (omega (arith, one)) (omega arith)

  pub measured_leaf : (t : ℕ) (mark name : List ℕ) → form_at ns p ≡ Leaf t → mark ++ name ≡ leaf_text names t → length mark ≤ 1 → length name ≤ 16 → Measured names ns place p (length mark + length name) 0
  measured_leaf t mark name e text a b = told (Leaf t) (length mark + length name) 0 e (sym (length-append mark name) ∙ ap length text) (leaf_deep names t) (omega (arith, one)) (omega arith)

  pub measured_repeat : (c n h : ℕ) → form_at ns p ≡ Repeat c → Measured names ns Repeated c n h → Measured names ns place p (n + 1) h
  measured_repeat c n h e m =
      let f = repeat_facts (spans ns w) p c e in
      let s = size_within ns w.0 p within in
      let k = size_within ns w.0 c (omega arith) in
      told (Repeat c) (n + 1) h e (omega (arith, m.long, length-append (text_at names ns Repeated c) (codes "*"))) (star_deep (text_at names ns Repeated c) h m.deep) (omega (arith, m.few)) (omega (arith, m.flat))

  pub measured_join : (j : Joining) (l r n h k i x y : ℕ) (b : Bool) (gap : List ℕ) → form_at ns p ≡ Join j l r → Measured names ns (Left j) l n h → Measured names ns (Right j) r k i → gap ≡ between j → b ≡ needs_brackets place j
      → x ≡ length_in b (n + (length gap + k)) → y ≡ height_in b (max h i) → Measured names ns place p x y
  measured_join j l r n h k i x y b gap e m o g c ex ey =
      let size = join_size ns w p l r j e in
      let u = text_at names ns (Left j) l in
      let v = text_at names ns (Right j) r in
      let long : n + (length gap + k) ≡ length (u ++ (between j ++ v)) = omega (arith, m.long, o.long, ap length g, length-append u (between j ++ v), length-append (between j) v) in
      let low = in_limits b (n + (length gap + k)) (max h i) (size_at ns p) (omega (arith, m.few, o.few, ap length g, between_short j)) (omega (arith, m.flat, o.flat)) in
      let is = ap (λ (a : Bool). in_brackets a (u ++ (between j ++ v))) c in
      told (Join j l r) x y e
      (ex ∙ ap (length_in b) long ∙ sym (length_in_lem b (u ++ (between j ++ v))) ∙ ap length is)
      (subst (λ (z : ℕ). Deep (text_of names place (Join j l r) (text_at names ns)) z) (sym ey) (subst (λ (text : List ℕ). Deep text (height_in b (max h i))) is (join_deep b j u v h i m.deep o.deep)))
      (omega (arith, low.0, ex)) (omega (arith, low.1, ey))

-- no node's text is long, or deep in brackets
pub small : (names : List (List ℕ)) (ns : List Node) → WellFormed ns → (place : Place) (p n h : ℕ) → p < length ns → Measured names ns place p n h → (n ≤ 8704) × (h ≤ 512)
small names ns w place p n h k m = let s = size_within ns w.0 p k in (omega (arith, m.few, w.2), omega (arith, m.flat, w.2))
