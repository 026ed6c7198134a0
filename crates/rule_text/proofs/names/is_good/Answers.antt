-- The name in an entry is the only one that can be judged.
use Rattle.std.proofs.Common.{◌≡◌, ℕ, false, List, [], length, get_or, codes, sym, ◌∙◌, subst, arith}
use Rattle.std.proofs.lemmas.Slice.Eq.{bytes_eq-Decides}
use Rattle.rule_text.specs.Names.{Fills, is_entry}
use Rattle.rule_text.proofs.Entries.{fills_run, new_from, new_none}
use Rattle.rule_text.proofs.names.is_good.Goals as goal

only : (e x y : List ℕ) → length e ≡ 16 → Fills e x → Fills e y → x ≡ y
only e x y h f g = sym (fills_run e h x f) ∙ fills_run e h y g

pub returns-in-Some : goal.returns-in-Some
returns-in-Some c =
    let x = c.in-Some.name.now in
    let fills = c.in-Some.ensures in (
      (λ r. record {
        own = x;
        fills = fills;
        first = λ _. (bytes_eq-Decides x (codes "any")).0 (sym c.spells.ensures ∙ r);
        new = λ j h. absurd (omega (arith, c.if-i-eq0.true));
      }),
      (λ g. c.spells.ensures ∙ (bytes_eq-Decides x (codes "any")).1 (only _ x g.own (c.told-entries c.args.i c.requires) fills g.fills ∙ g.first c.if-i-eq0.true)),
    )

pub returns-in-Some-2 : goal.returns-in-Some-2
returns-in-Some-2 c =
    let names = c.args.entries.now in
    let x = c.in-Some.name.now in
    let fills = c.in-Some.ensures in (
      (λ r. record {
        own = x;
        fills = fills;
        first = λ z. absurd (c.if-i-eq0.false z);
        new = new_from names x c.args.i (omega (arith, c.requires)) (c.is_new.ensures.0 r);
      }),
      (λ g.
          let same = only _ g.own x (c.told-entries c.args.i c.requires) g.fills fills in
          c.is_new.ensures.1 (new_none names x c.args.i (omega (arith, c.requires)) (λ j h. subst (λ (y : List ℕ). is_entry (get_or names j []) y ≡ false) same (g.new j h)))),
    )
