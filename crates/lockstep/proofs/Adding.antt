-- The table of far as each node, from the last down, adds its short to what follows it.
use Rattle.std.proofs.Common.{◌≡◌, ℕ, ◌+◌, ◌-◌, ◌*◌, ◌^◌, ◌<◌, ◌≤◌, List, length, get_or, set, Some, None, Option, sym, ap, ◌∙◌, inl, inr, arith}
use Rattle.std.proofs.lemmas.List.{length-set, get_or-set_same, get_or-set_other}
use Rattle.std.proofs.lemmas.Bool.Decides.{eqb_tells}
use Rattle.rules.specs.declared.node.Node.{Node}
use Rattle.rules.specs.Nodes.{WellFormed}
use Rattle.lockstep.specs.Next.{IsNext}
use Rattle.lockstep.specs.Far.{sum, AtMost}
use Rattle.lockstep.proofs.Later.{next_later}
use Rattle.lockstep.proofs.Bounds.{at_most_more, sum_at_most}

-- the entries of p and of later nodes add up, and are bounded by how many nodes are left
pub record AddedFrom (ns : List Node) (next : ℕ → ℕ) (short : ℕ → Option ℕ) (far : List (Option ℕ)) (p : ℕ) : Type 0 where
  pub long : length far ≡ length ns + 1
  pub end : get_or far (length ns) None ≡ Some 0
  pub adds : (a : ℕ) → p ≤ a → a < length ns → get_or far a None ≡ sum (short a) (get_or far (next a) None)
  pub low : (a : ℕ) → p ≤ a → a ≤ length ns → AtMost (512 * (length ns - a)) (get_or far a None)

module _ (ns : List Node) (w : WellFormed ns) (next : ℕ → ℕ) (N : IsNext ns next) (short : ℕ → Option ℕ) (short-low : (q : ℕ) → q < length ns → AtMost 512 (short q)) where
  module _ (p : ℕ) (far : List (Option ℕ)) (some : 0 < p) (h : p ≤ length ns) (s : AddedFrom ns next short far p) where
    later : (p - 1 < next (p - 1)) × (next (p - 1) ≤ length ns)
    later = next_later ns w next N (p - 1) (omega arith)

    -- what is added at p - 1
    own_low : AtMost 512 (short (p - 1))
    own_low = short-low (p - 1) (omega arith)

    -- and what is added to it
    left_low : AtMost (512 * (length ns - next (p - 1))) (get_or far (next (p - 1)) None)
    left_low = let l = later in s.low (next (p - 1)) (omega arith) l.1

    pub next_low : AtMost (2 ^ 20) (get_or far (next (p - 1)) None)
    next_low = at_most_more _ _ (get_or far (next (p - 1)) None) (omega (arith, w.2)) left_low

    pub added_more : (x : Option ℕ) → x ≡ sum (short (p - 1)) (get_or far (next (p - 1)) None) → AddedFrom ns next short (set far (p - 1) x) (p - 1)
    added_more x e = record {
      long = length-set far (p - 1) x ∙ s.long;
      end = other (length ns) (omega arith) ∙ s.end;
      adds = λ a k j. elim (eqb_tells a (p - 1)) [
        | inl i ↦ (let l = later in rw i.1 (own ∙ e ∙ ap (sum (short (p - 1))) (sym (other (next (p - 1)) (omega arith)))))
        | inr i ↦ (let l = next_later ns w next N a j in other a (omega arith) ∙ s.adds a (omega arith) j ∙ ap (sum (short a)) (sym (other (next a) (omega arith))))
      ];
      low = λ a k j. elim (eqb_tells a (p - 1)) [
        | inl i ↦ (let l = later in rw (i.1, own, e) (at_most_more _ _ (sum (short (p - 1)) (get_or far (next (p - 1)) None)) (omega arith) (sum_at_most _ _ (short (p - 1)) (get_or far (next (p - 1)) None) own_low left_low)))
        | inr i ↦ (let o = other a (omega arith) in rw o (s.low a (omega arith) j))
      ];
    }
      where
        own : get_or (set far (p - 1) x) (p - 1) None ≡ x
        own = get_or-set_same far (p - 1) x None (omega (arith, s.long))

        other : (a : ℕ) → p - 1 < a → get_or (set far (p - 1) x) a None ≡ get_or far a None
        other a k = get_or-set_other far (p - 1) a x None (omega arith)
