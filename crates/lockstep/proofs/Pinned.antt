-- The tables are pinned: there is one next and one far.
use Rattle.std.proofs.Common.{◌≡◌, ℕ, ◌-◌, ◌≤◌, Bool, List, length, Option, sym, refl, ap, ◌∙◌, ap₂, inl, inr, arith}
use Rattle.std.proofs.lemmas.Bool.Decides.{eqb_tells}
use Rattle.rules.specs.declared.node.Node.{Node}
use Rattle.rules.specs.Nodes.{WellFormed}
use Rattle.rules.proofs.Sizes.{strong}
use Rattle.lockstep.specs.Next.{IsNext, OneNext}
use Rattle.lockstep.specs.Far.{sum, IsFar, OneFar}
use Rattle.lockstep.proofs.Handing.{has_next}
use Rattle.lockstep.proofs.Later.{next_later, same_next}
use Rattle.lockstep.proofs.Shorts.{same_short}

pub one_next : OneNext
one_next ns w = record {
  some = has_next ns w;
  later = next_later ns w;
  only = λ next next' N N'. same_next ns w next N next' N';
}

module _ (ns : List Node) (w : WellFormed ns) (possible : ℕ → Bool) (next next' : ℕ → ℕ) (far far' : ℕ → Option ℕ) (N : IsNext ns next) (N' : IsNext ns next') (F : IsFar possible ns next far) (F' : IsFar possible ns next' far') where
  -- d is how many nodes are left from q on
  from_end : (d q : ℕ) → q ≤ length ns → length ns - q ≡ d → far q ≡ far' q
  from_end = strong (λ d. (q : ℕ) → q ≤ length ns → length ns - q ≡ d → far q ≡ far' q) (λ d ih q h e. elim (eqb_tells q (length ns)) [
    | inl i ↦ rw i.1 (F.end ∙ sym F'.end)
    | inr i ↦
        (let l = next_later ns w next N q (omega arith) in
        F.step q (omega arith)
        ∙ ap₂ sum (same_short ns w possible F.short F'.short F.is_short F'.is_short q (omega arith)) (ih (length ns - next q) (omega arith) (next q) (omega arith) (omega arith) ∙ ap far' (same_next ns w next N next' N' q (omega arith)))
        ∙ sym (F'.step q (omega arith)))
  ])

pub one_far : OneFar
one_far ns w possible next next' far far' N N' F F' q h = from_end ns w possible next next' far far' N N' F F' (length ns - q) q h refl
