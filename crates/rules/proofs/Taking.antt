-- Lists of records: those of a well-formed list are good, they tell that list, and a refusal has one place.
use Rattle.std.proofs.Common.{◌≡◌, ℕ, zero, suc, ◌+◌, ◌-◌, ◌<◌, ◌≤◌, Bool, true, false, cond, List, [], ◌∷◌, ◌++◌, map, length, get_or, take, Some, None, Ok, Err, Option, Result, is_ok, IfErr, Decides, sym, refl, ap, ◌∙◌, subst, ap₂, inl, inr, arith}
use Rattle.std.proofs.lemmas.List.{length-map, length-take-le, get_or-take, map_push, take_more}
use Rattle.std.proofs.lemmas.Bool.{eqb-true, cases_order, true≢false}
use Rattle.refusals.specs.declared.Fault.{Fault}
use Rattle.refusals.specs.declared.Refusal.{Refusal}
use Rattle.refusals.specs.declared.Refusal.TheVariants.{BadNodes}
use Rattle.rules.specs.declared.node.Join.TheVariants.{Chain, Choice}
use Rattle.rules.specs.declared.node.Shape.{Shape}
use Rattle.rules.specs.declared.node.Shape.TheVariants.{Void, Nil, Leaf, Join, Repeat}
use Rattle.rules.specs.declared.node.Node.{Node}
use Rattle.rules.specs.declared.record.Record.{Record}
use Rattle.rules.specs.Nodes.{node, no_node, shape_at, size_at, is_size, Fitting, Rooted, test_of, TestsFit}
use Rattle.rules.specs.Records.{code_of, record_of, Tells, Good, no_record, size_in, GoodAt, EndsInRoot, BadAt, too_many, bad_record, no_root, RecordsOf, Takes, OneAnswer, ComesBack}
use Rattle.rules.proofs.Sizes.{size_from}

-- the shape that a code and a test tell, and the node that a record does
abbrev shape_of : ℕ → ℕ → Shape
shape_of zero t = Void
shape_of (suc zero) t = Nil
shape_of (suc (suc zero)) t = Leaf t
shape_of (suc (suc (suc zero))) t = Join Chain
shape_of (suc (suc (suc (suc zero)))) t = Join Choice
shape_of (suc (suc (suc (suc (suc c))))) t = Repeat

abbrev node_of : Record → Node
node_of r = record { shape = shape_of r.code r.test; size = r.size }

told_shape : (x : Shape) → shape_of (code_of x) (test_of x) ≡ x
told_shape Void = refl
told_shape Nil = refl
told_shape (Leaf t) = refl
told_shape (Join Chain) = refl
told_shape (Join Choice) = refl
told_shape Repeat = refl

told_node : (n : Node) → node_of (record_of n) ≡ n
told_node n = ap (λ (x : Shape). record { shape = x; size = n.size }) (told_shape n.shape)

told_record : (r : Record) (x : Shape) → Tells r x → record_of (node x r.size) ≡ r
told_record r x t = sym (ap₂ (λ (c u : ℕ). record { code = c; test = u; size = r.size }) t.0 t.1)

told_list : (ns : List Node) → map node_of (map record_of ns) ≡ ns
told_list [] = refl
told_list (n ∷ ns) = rw (told_node n, told_list ns)

-- a list of records has at most one list of nodes
same_list : (ns ms : List Node) → map record_of ns ≡ map record_of ms → ns ≡ ms
same_list ns ms e = sym (told_list ns) ∙ ap (map node_of) e ∙ told_list ms

record_at : (ns : List Node) (i : ℕ) → get_or (map record_of ns) i no_record ≡ record_of (get_or ns i no_node)
record_at [] i = refl
record_at (n ∷ ns) zero = refl
record_at (n ∷ ns) (suc i) = record_at ns i

size_of : (ns : List Node) (i : ℕ) → size_in (map record_of ns) i ≡ size_at ns i
size_of ns i = ap (λ (r : Record). r.size) (record_at ns i)

asked : (s : ℕ) (o : Option ℕ) → is_size s o ≡ true → o ≡ Some s
asked s None e = let z : ◌≡◌ {A = ℕ} 0 1 = cc in absurd (omega arith)
asked s (Some n) e = ap Some (sym (eqb-true s n e))

-- a good record is good still where the nodes before it have the same sizes
pub good_from : (size size' : ℕ → ℕ) (i : ℕ) (r : Record) → ((j : ℕ) → j < i → size j ≡ size' j) → Good size i r → Good size' i r
good_from size size' i r h g = record { shape = g.shape; tells = g.tells; fits = sym (size_from size size' g.shape i h) ∙ g.fits }

-- the records of a fitting list are good
node_good : (ns : List Node) → Fitting ns → TestsFit ns → (i : ℕ) → i < length ns → GoodAt (map record_of ns) i
node_good ns f t i h = subst (Good _ i) (sym (record_at ns i)) (good_from (size_at ns) _ i (record_of (get_or ns i no_node)) (λ j k. sym (size_of ns j)) (record { shape = shape_at ns i; tells = (refl, refl, t i h); fits = asked _ _ (f i h) }))

module _ (ns : List Node) (rs : List Record) (e : map record_of ns ≡ rs) where
  pub same_length : length rs ≡ length ns
  same_length = sym (ap length e) ∙ length-map ns record_of

  -- the root of the nodes is that of the records
  pub roots : Rooted ns → EndsInRoot rs
  roots r = (omega (arith, same_length, r.0), rw (← e, length-map ns record_of) (size_of ns (length ns - 1) ∙ r.1))

  pub roots_back : EndsInRoot rs → Rooted ns
  roots_back r = (omega (arith, same_length, r.0), sym (size_of ns (length ns - 1)) ∙ (let s : EndsInRoot (map record_of ns) = rw e r in rw (length-map ns record_of) at s.1))

-- after the nodes of the first i records
module _ (ns : List Node) (rs : List Record) (i : ℕ) (e : map record_of ns ≡ take i rs) (h : i < length rs) where
  pub so_many : length ns ≡ i
  so_many = sym (length-map ns record_of) ∙ ap length e ∙ length-take-le i rs (omega arith)

  same_size : (j : ℕ) → j < i → size_at ns j ≡ size_in rs j
  same_size j k = sym (size_of ns j) ∙ ap (λ (xs : List Record). size_in xs j) e ∙ ap (λ (r : Record). r.size) (get_or-take i rs j no_record k)

  -- the next record is judged alike by the nodes and by the records
  pub judged : Good (size_at ns) (length ns) (get_or rs i no_record) → GoodAt rs i
  judged g = good_from (size_at ns) (size_in rs) i _ same_size (rw so_many at g)

  pub judged_back : GoodAt rs i → Good (size_at ns) (length ns) (get_or rs i no_record)
  judged_back g = rw so_many (good_from (size_in rs) (size_at ns) i _ (λ j k. sym (same_size j k)) g)

  -- with its node there are those of one more record
  pub one_more : (ms : List Node) (r : Record) (x : Shape) → r ≡ get_or rs i no_record → Tells r x → ms ≡ ns ++ node x r.size ∷ [] → map record_of ms ≡ take (i + 1) rs
  one_more ms r x d t f =
      ap (map record_of) f
      ∙ map_push record_of ns (node x r.size)
      ∙ ap₂ (λ (xs : List Record) (y : Record). xs ++ y ∷ []) e (told_record r x t ∙ d)
      ∙ sym (take_more rs i no_record h)

-- a list that is taken is nowhere refused
not_both : (ns : List Node) (rs : List Record) (p : ℕ) → RecordsOf ns rs → BadAt rs p → ⊥
not_both ns rs p a (too_many h e) = omega (arith, same_length ns rs a.0, a.1.2)
not_both ns rs p a (bad_record h i g b) = b (subst (λ (xs : List Record). GoodAt xs p) a.0 (node_good ns a.1.0 a.1.3 p (omega (arith, same_length ns rs a.0))))
not_both ns rs p a (no_root h e g b) = b (roots ns rs a.0 a.1.1)

one_place : (rs : List Record) (p q : ℕ) → BadAt rs p → BadAt rs q → p ≡ q
one_place rs p q (too_many h e) (too_many h' e') = omega arith
one_place rs p q (too_many h e) (bad_record h' i g b) = absurd (omega arith)
one_place rs p q (too_many h e) (no_root h' e' g b) = absurd (omega arith)
one_place rs p q (bad_record h' i g b) (too_many h e) = absurd (omega arith)
one_place rs p q (bad_record h i g b) (bad_record h' i' g' b') = elim (cases_order p q) [
  | inl e ↦ e
  | inr (inl l) ↦ absurd (b (g' p l))
  | inr (inr l) ↦ absurd (b' (g q l))
]
one_place rs p q (bad_record h i g b) (no_root h' e' g' b') = absurd (b (g' p i))
one_place rs p q (no_root h' e' g b) (too_many h e) = absurd (omega arith)
one_place rs p q (no_root h e g b) (bad_record h' i' g' b') = absurd (b' (g q i'))
one_place rs p q (no_root h e g b) (no_root h' e' g' b') = omega arith

same_fault : (f f' : Fault) → f.refusal ≡ f'.refusal → f.place ≡ f'.place → f ≡ f'
same_fault f f' a b = ap₂ (λ (x : Refusal) (p : ℕ). record { refusal = x; place = p }) a b

pub one_answer : OneAnswer
one_answer rs old new new' (Ok u) (Ok v) a b = (refl, same_list new new' (a.0 ∙ sym b.0))
one_answer rs old new new' (Ok u) (Err f) a b = absurd (not_both new rs f.place a b.1)
one_answer rs old new new' (Err f) (Ok v) a b = absurd (not_both new' rs f.place b a.1)
one_answer rs old new new' (Err f) (Err f') a b = (ap Err (same_fault f f' (a.0 ∙ sym b.0) (one_place rs f.place f'.place a.1 b.1)), a.2 ∙ sym b.2)

pub comes_back : ComesBack
comes_back ns old new r w a = one_answer (map record_of ns) old new ns r (Ok tt) a (refl, w)

-- good records that are those of these nodes are taken where the last node is the root of all, and else refused at the end
pub taken : (ns old new : List Node) (rs : List Record) (over : Bool) (r : Result (Unit {0}) Fault) → map record_of ns ≡ rs → Fitting ns → TestsFit ns → length rs ≤ 512 → ((i : ℕ) → i < length rs → GoodAt rs i) → over ≡ false → Decides (is_ok r) ((over ≡ false) × Rooted ns) → IfErr r (λ f. f ≡ record { refusal = BadNodes; place = length ns }) → new ≡ cond (is_ok r) ns old → Takes rs old r new
taken ns old new rs over (Ok u) e f t few good none whether at is =
    subst (λ (ms : List Node). RecordsOf ms rs) (sym is) (e, (f, (whether.0 refl).1, omega (arith, same_length ns rs e), t))
taken ns old new rs over (Err x) e f t few good none whether at is = (
  ap (λ (y : Fault). y.refusal) at,
  no_root few (ap (λ (y : Fault). y.place) at ∙ sym (same_length ns rs e)) good (λ r. true≢false (sym (whether.1 (none, roots_back ns rs e r)))),
  is,
)
