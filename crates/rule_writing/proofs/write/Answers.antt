-- The text is written, or the rule is refused for the first reason that applies.
use Rattle.std.proofs.Common.{◌≡◌, ℕ, ◌-◌, ◌*◌, List, length, Some, vec_items, Result, Ok, rules, sym, refl, ap, subst}
use Rattle.std.proofs.lemmas.Result.{err_from_is_err_and}
use Rattle.refusals.specs.declared.Fault.{Fault}
use Rattle.refusals.specs.declared.Refusal.TheVariants.{BadNames, UnknownName}
use Rattle.rules.specs.declared.node.Node.{Node}
use Rattle.rules.specs.Nodes.{FirstTest}
use Rattle.rule_text.specs.Faults.{fault}
use Rattle.rule_text.specs.Names.{NamesFault, GoodNames}
use Rattle.rule_writing.specs.Writing.{Outcome, Unwritten, bad_names, unnamed, Writing}
use Rattle.rule_writing.proofs.Back.{reads_back}
use Rattle.rule_writing.proofs.Exact.{one_answer}
use Rattle.rule_writing.proofs.Fewest.{fewest_brackets}
use Rattle.rule_writing.proofs.Shown.{one_text}
use Rattle.rule_writing.proofs.Wholes.{whole_refused, whole_written}
use Rattle.rule_writing.proofs.write.Goals as goal

-- what writing does tells the rest of it
writing : {names : List (List ℕ)} {ns : List Node} {before after : List ℕ} (r : Result ℕ Fault) → Outcome names ns before after r → Writing names ns before after r
writing r h = record { outcome = h; one_text = one_text; one_answer = one_answer; reads_back = reads_back; fewest = fewest_brackets }

bad_names_lem : {names : List (List ℕ)} {ns : List Node} {room : ℕ} (f : Fault) → f.refusal ≡ BadNames → NamesFault names f.place → Unwritten names ns room f
bad_names_lem {names} {ns} {room} f e h = subst (Unwritten names ns room) (ap (λ x. fault x f.place) (sym e)) (bad_names h)

no_name_lem : {names : List (List ℕ)} {ns : List Node} {room : ℕ} (f : Fault) → GoodNames names → f.refusal ≡ UnknownName → FirstTest (2 * length names) ns (Some f.place) → Unwritten names ns room f
no_name_lem {names} {ns} {room} f g e h = subst (Unwritten names ns room) (ap (λ x. fault x f.place) (sym e)) (unnamed g h)

pub returns-in_err-names : goal.returns-in_err-names
returns-in_err-names c =
    let p = err_from_is_err_and c.from_residual.result c.from_residual.ensures.1 in
    let e = c.in_err-names.ensures in
    rw (p.1, p.2) (writing _ (refl, bad_names_lem _ e.0 e.1))

pub returns-in_err-writer : goal.returns-in_err-writer
returns-in_err-writer c =
    let p = err_from_is_err_and c.from_residual-in_err-writer.result c.from_residual-in_err-writer.ensures.1 in
    let n = c.in_ok-names.ensures in
    let e = rw n.1 at c.in_err-writer.ensures in
    rw (p.1, p.2) (writing _ (refl, no_name_lem _ n.0 e.0 e.1))

pub returns-in_err-check_extent : goal.returns-in_err-check_extent
returns-in_err-check_extent c =
    let p = err_from_is_err_and c.from_residual-in_err-check_extent.result c.from_residual-in_err-check_extent.ensures.1 in
    let n = c.in_ok-names.ensures in
    let w = c.in_ok-writer.ensures in
    let named = rw (w.0, w.1, n.1) at c.in_ok-writer.writer.named in
    let m = rw (w.0, w.1, n.1) at c.measure-extent.ensures in
    rw (p.1, p.2) (writing _ (refl, whole_refused c.args.names.now (vec_items c.args.rule.now.nodes) c.args.rule.now.formed n.0 (λ t h. c.told-names t h) named (length c.nodes.result.now - 1) _ _ (ap (λ (ns : List Node). length ns - 1) c.nodes.ensures) m _ _ c.in_err-check_extent.ensures))

-- what the page was left with
left : (names : List (List ℕ)) (ns : List Node) (before : List ℕ) {after after' : List ℕ} {k k' : ℕ} → after ≡ after' → k ≡ k' → Outcome names ns before after' (Ok k') → Outcome names ns before after (Ok k)
left names ns before e f h = rw (e, f) h

pub returns : goal.returns
returns c =
    let n = c.in_ok-names.ensures in
    let w = c.in_ok-writer.ensures in
    let named = rw (w.0, w.1, n.1) at c.in_ok-writer.writer.named in
    let m = rw (w.0, w.1, n.1) at c.measure-extent.ensures in
    let u = rw (w.0, w.1, n.1, c.new-page.ensures.memory, c.new-page.ensures.front) at c.put.ensures.puts in
    writing _ (left c.args.names.now (vec_items c.args.rule.now.nodes) c.args.memory.now (search rules) c.written.ensures (whole_written c.args.names.now (vec_items c.args.rule.now.nodes) c.args.rule.now.formed n.0 (λ t h. c.told-names t h) named (length c.nodes.result.now - 1) _ _ (ap (λ (ns : List Node). length ns - 1) c.nodes.ensures) m c.in_ok-check_extent.ensures u))
