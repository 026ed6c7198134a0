-- The text of a whole rule: refused where it is unfit, and else written at the front of the memory.
use Rattle.std.proofs.Common.{◌≡◌, ℕ, ◌-◌, ◌≤◌, List, ◌++◌, length, drop, Ok, sym, ap, ◌∙◌, subst, arith}
use Rattle.refusals.specs.declared.Fault.{Fault}
use Rattle.rules.specs.declared.node.Node.{Node}
use Rattle.rules.specs.Nodes.{WellFormed}
use Rattle.rule_text.specs.Names.{GoodNames}
use Rattle.rule_writing.specs.declared.place.Place.TheVariants.{Whole}
use Rattle.rule_writing.specs.Texts.{IsText, nesting}
use Rattle.rule_writing.specs.Parts.{text_at, AllNamed, Measured, Puts}
use Rattle.rule_writing.specs.Writing.{FullEntries, Unfit, Unwritten, unfit, Outcome}
use Rattle.rule_writing.proofs.Nesting.{depth_is}
use Rattle.rule_writing.proofs.Positions.{is_text}

module _ (names : List (List ℕ)) (ns : List Node) (w : WellFormed ns) (good : GoodNames names) (full : FullEntries names) (known : AllNamed names ns) (root bytes depth : ℕ) (at : root ≡ length ns - 1) (m : Measured names ns Whole root bytes depth) where
  is_whole : IsText names ns (text_at names ns Whole root)
  is_whole = subst (λ (p : ℕ). IsText names ns (text_at names ns Whole p)) (sym at) (is_text names ns w known)

  whole_deep : nesting 0 (text_at names ns Whole root) ≡ depth
  whole_deep = depth_is (text_at names ns Whole root) depth m.deep

  pub whole_refused : (room : ℕ) (f : Fault) → Unfit bytes depth room f → Unwritten names ns room f
  whole_refused room f u = unfit (text_at names ns Whole root) good is_whole (subst (λ (k : ℕ). Unfit k (nesting 0 (text_at names ns Whole root)) room f) m.long (subst (λ (k : ℕ). Unfit bytes k room f) (sym whole_deep) u))

  pub whole_written : {before after : List ℕ} {end : ℕ} → (depth ≤ 16) × (bytes ≤ 4096) × (bytes ≤ length before) → Puts (text_at names ns Whole root) before 0 after end → Outcome names ns before after (Ok end)
  whole_written {before} {after} {end} fits p =
      let n : end ≡ length (text_at names ns Whole root) = omega (arith, p.ends) in (
        text_at names ns Whole root,
        record { good = good; full = full; is_text = is_whole; shallow = omega (arith, whole_deep, fits.0); short = omega (arith, m.long, fits.1) },
        n,
        omega (arith, m.long, fits.2),
        p.bytes ∙ ap (λ (k : ℕ). text_at names ns Whole root ++ drop k before) (sym n),
      )
