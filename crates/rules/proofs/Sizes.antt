-- The sizes of a fitting list: each part has a node, and begins within the list.
use Rattle.std.proofs.Common.{◌≡◌, ℕ, zero, suc, ◌+◌, ◌-◌, ◌<◌, ◌≤◌, Bool, true, false, cond, ltb, List, length, Some, None, Option, sym, refl, subst, inl, inr, arith}
use Rattle.std.specs.Option.{unwrap_or}
use Rattle.std.proofs.lemmas.Bool.{eqb-true, ltb-true, cases_lt, lt-ltb, le-ltb}
use Rattle.rules.specs.declared.node.Node.{Node}
use Rattle.rules.specs.declared.node.Shape.{Shape}
use Rattle.rules.specs.declared.node.Shape.TheVariants.{Void, Nil, Leaf, Join, Repeat}
use Rattle.rules.specs.Nodes.{size_at, shape_at, size_for, joined_size, repeated_size, is_size, Fitting}

pub strong : (P : ℕ → Type 0) → ((a : ℕ) → ((b : ℕ) → b < a → P b) → P a) → (a : ℕ) → P a
strong P step a = go (suc a) a (omega arith)
  where
    go : (f a : ℕ) → a < f → P a
    go zero a h = absurd (omega arith)
    go (suc f) a h = step a (λ b k. go f b (omega arith))

-- a size that a test allows
pub allowed : (s x : ℕ) (b : Bool) → is_size s (cond b (Some x) None) ≡ true → (b ≡ true) × (s ≡ x)
allowed s x true e = (refl, eqb-true s x e)
allowed s x false e = let z : ◌≡◌ {A = ℕ} 0 1 = cc in absurd (omega arith)

-- what fitting says of a node of each shape, over the sizes of a list
pub joined : (size : ℕ → ℕ) (i s : ℕ) → is_size s (joined_size size i) ≡ true → (size (i - 1) < i) × (s ≡ 1 + (size (i - 1 - size (i - 1)) + size (i - 1)))
joined size i s e = let a = allowed s _ (ltb (size (i - 1)) i) e in (ltb-true (size (i - 1)) i a.0, a.1)

pub repeated : (size : ℕ → ℕ) (i s : ℕ) → is_size s (repeated_size size i) ≡ true → (0 < i) × (s ≡ 1 + size (i - 1))
repeated size i s e = let a = allowed s _ (ltb 0 i) e in (ltb-true 0 i a.0, a.1)

-- the part of a node takes a node or more, and none before the list
abbrev pub Within : (ℕ → ℕ) → ℕ → Type 0
Within size i = (1 ≤ size i) × (size i ≤ suc i)

within_fit : (size : ℕ → ℕ) (x : Shape) (i : ℕ) → ((j : ℕ) → j < i → Within size j) → is_size (size i) (size_for size x i) ≡ true → Within size i
within_fit size Void i ih e = omega (arith, eqb-true (size i) 1 e)
within_fit size Nil i ih e = omega (arith, eqb-true (size i) 1 e)
within_fit size (Leaf t) i ih e = omega (arith, eqb-true (size i) 1 e)
within_fit size (Join o) i ih e = let a = joined size i (size i) e in omega (arith, ih (i - 1 - size (i - 1)) (omega arith), ih (i - 1) (omega arith))
within_fit size Repeat i ih e = let a = repeated size i (size i) e in omega (arith, ih (i - 1) (omega arith))

pub size_within : (ns : List Node) → Fitting ns → (i : ℕ) → i < length ns → Within (size_at ns) i
size_within ns f = strong (λ i. i < length ns → Within (size_at ns) i) (λ i ih h. within_fit (size_at ns) (shape_at ns i) i (λ j k. ih j k (omega arith)) (f i h))

-- a size that is read in a list of at most 512 nodes is at most 512
pub size_few : (ns : List Node) → Fitting ns → length ns ≤ 512 → (i s : ℕ) → Some s ≡ cond (ltb i (length ns)) (Some (size_at ns i)) None → s ≤ 512
size_few ns f few i s e =
    subst (λ (o : Option ℕ). unwrap_or o 0 ≤ 512) (sym e) (elim (cases_lt i (length ns)) [
      | inl l ↦ rw (lt-ltb i (length ns) l) (omega (arith, size_within ns f i l))
      | inr l ↦ rw (le-ltb i (length ns) l) (omega arith)
    ])

-- a node's size is told by the sizes before it
joined_from : (size size' : ℕ → ℕ) (i : ℕ) → ((j : ℕ) → j < i → size j ≡ size' j) → joined_size size i ≡ joined_size size' i
joined_from size size' zero h = rw (le-ltb (size 0) 0 (omega arith), le-ltb (size' 0) 0 (omega arith))
joined_from size size' (suc i) h = rw (h (suc i - 1) (omega arith), h (suc i - 1 - size' (suc i - 1)) (omega arith))

pub size_from : (size size' : ℕ → ℕ) (x : Shape) (i : ℕ) → ((j : ℕ) → j < i → size j ≡ size' j) → size_for size x i ≡ size_for size' x i
size_from size size' Void i h = refl
size_from size size' Nil i h = refl
size_from size size' (Leaf t) i h = refl
size_from size size' (Join o) i h = joined_from size size' i h
size_from size size' Repeat zero h = refl
size_from size size' Repeat (suc i) h = rw (h (suc i - 1) (omega arith))
