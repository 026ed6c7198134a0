-- What each reader has read, or the first fault that it met.
use Rattle.std.proofs.Common.{◌≡◌, ℕ, ◌+◌, ◌<◌, Bool, List, ◌∷◌, length, Ok, Err, Result, arith, codes}
use Rattle.std.proofs.lemmas.Result.{err_from_is_err_and}
use Rattle.refusals.specs.declared.Fault.{Fault}
use Rattle.rules.specs.declared.node.Node.{Node}
use Rattle.rule_text.specs.Words.{bang}
use Rattle.rule_text.specs.declared.rest.Rest.{Rest}
use Rattle.rule_text.specs.Names.{GoodNames}
use Rattle.rule_text.specs.Grammar.{choice, chain, item, atom, alone, single, plain}
use Rattle.rule_text.specs.Lexing.{words_of}
use Rattle.rule_text.specs.Readers.{Opposite, Outcome}
use Rattle.rule_text.proofs.Entries.{any_known}
use Rattle.rule_text.proofs.Drafting.{pushed}
use Rattle.rule_text.proofs.Reading.{follows_other, first_atom, first_item, first_chain, stops_item, stops_chain, stops_choice, item_turn, chain_turn, choice_turn, name_atom, nil_atom, void_atom, bang_atom, bracket_atom}
use Rattle.rule_text.proofs.Failing.{spoilt_next, first_spoilt, raised, in_choice, in_chain, in_brackets, not_closed, barred_atom, too_deep, unknown_atom, no_name_lem, starter}
use Rattle.rule_text.proofs.reader.Reader.+readers.Goals as goal

pub atom-returns-in_err-next : goal.atom-returns-in_err-next
atom-returns-in_err-next t c =
    let p = err_from_is_err_and c.from_residual.result c.from_residual.ensures.1 in
    rw (p.1, p.2) (first_spoilt c.in_err-next.ensures)

pub atom-returns-in_err-test-in-Name : goal.atom-returns-in_err-test-in-Name
atom-returns-in_err-test-in-Name t c =
    let w = rw c.in-Name.is at c.in_ok-next.ensures in
    let p = err_from_is_err_and c.from_residual-in_err-test-in-Name.result c.from_residual-in_err-test-in-Name.ensures.1 in
    let e = c.in_err-test-in-Name.ensures in
    rw (p.1, p.2, e.1) (unknown_atom c.in_ok-next.next.place c.in-Name.name.now w.0 e.0)

pub atom-returns-in_ok-test-in-Name : goal.atom-returns-in_ok-test-in-Name
atom-returns-in_ok-test-in-Name t c =
    let w = rw c.in-Name.is at c.in_ok-next.ensures in
    (name_atom c.in_ok-next.next.place c.in-Name.name.now c.in_ok-test-in-Name.test w.0 w.1 c.in_ok-test-in-Name.ensures (pushed c.args.draft.now.nodes.ok.0 c.push.ensures.items c.push.ensures.over), w.2)

pub atom-returns-in-Nil : goal.atom-returns-in-Nil
atom-returns-in-Nil t c =
    let w = rw c.in-Nil.is at c.in_ok-next.ensures in
    (nil_atom c.in_ok-next.next.place w.0 w.1 (pushed c.args.draft.now.nodes.ok.0 c.push-in-Nil.ensures.items c.push-in-Nil.ensures.over), w.2)

pub atom-returns-in-Void : goal.atom-returns-in-Void
atom-returns-in-Void t c =
    let w = rw c.in-Void.is at c.in_ok-next.ensures in
    (void_atom c.in_ok-next.next.place w.0 w.1 (pushed c.args.draft.now.nodes.ok.0 c.push-in-Void.ensures.items c.push-in-Void.ensures.over), w.2)

-- what an opposite gives an atom
turned : (names : List (List ℕ)) (good : ∥ GoodNames names ∥₁) (whole d p : ℕ) (text mid : List ℕ) (i i' : List Node) (o o' : Bool) (r : Result Rest Fault)
    → words_of whole text ≡ (p, bang) ∷ words_of whole mid → length mid < length text → Opposite names whole mid i o i' o' r → Outcome names atom whole text d i o i' o' r
turned names good whole d p text mid i i' o o' (Ok rest) w lt h = (bang_atom p w lt h.0 h.2, h.1)
turned names good whole d p text mid i i' o o' (Err f) w lt h = no_name_lem (words_of whole mid) p (codes "any") 0 (any_known names good) w (h d)

pub atom-returns-in-Bang : goal.atom-returns-in-Bang
atom-returns-in-Bang t c =
    let w = rw c.in-Bang.is at c.in_ok-next.ensures in
    let h = rw w.2 at c.opposite.ensures in
    turned c.args.self.names.entries.now c.args.self.names.good c.args.text.whole c.args.self.depth c.in_ok-next.next.place c.args.text.bytes.now c.in_ok-next.next.rest.bytes.now _ _ _ _ c.opposite.result w.0 w.1 h

pub atom-returns-in_err-inner-in-Open : goal.atom-returns-in_err-inner-in-Open
atom-returns-in_err-inner-in-Open t c =
    let w = rw c.in-Open.is at c.in_ok-next.ensures in
    let p = err_from_is_err_and c.from_residual-in_err-inner-in-Open.result c.from_residual-in_err-inner-in-Open.ensures.1 in
    let e = c.in_err-inner-in-Open.ensures in
    rw (p.1, p.2, e.1) (too_deep c.in_ok-next.next.place w.0 e.0 c.args.self.shallow)

pub atom-returns-in_err-rest-in-Open : goal.atom-returns-in_err-rest-in-Open
atom-returns-in_err-rest-in-Open t c =
    let w = rw c.in-Open.is at c.in_ok-next.ensures in
    let p = err_from_is_err_and c.from_residual-in_err-rest-in-Open.result c.from_residual-in_err-rest-in-Open.ensures.1 in
    let i = c.in_ok-inner-in-Open.ensures in
    let k = rw (i.1, i.2, w.2) at c.in_err-rest-in-Open.ensures in
    rw (p.1, p.2) (in_brackets c.in_ok-next.next.place (c.args.self.depth + 1) (omega arith) i.0 w.0 k)

pub atom-returns-in_err-last-in-Open : goal.atom-returns-in_err-last-in-Open
atom-returns-in_err-last-in-Open t c =
    let w = rw c.in-Open.is at c.in_ok-next.ensures in
    let p = err_from_is_err_and c.from_residual-in_err-last-in-Open.result c.from_residual-in_err-last-in-Open.ensures.1 in
    let i = c.in_ok-inner-in-Open.ensures in
    let k = rw (i.1, i.2, w.2) at c.in_ok-rest-in-Open.ensures in
    let e = rw k.1 at c.in_err-last-in-Open.ensures in
    rw (p.1, p.2) (in_brackets c.in_ok-next.next.place (c.args.self.depth + 1) (omega arith) i.0 w.0 (spoilt_next {us = k.0.used} {ns = k.0.new} k.0.gives k.0.split e))

pub atom-returns-in-Close : goal.atom-returns-in-Close
atom-returns-in-Close t c =
    let w = rw c.in-Open.is at c.in_ok-next.ensures in
    let i = c.in_ok-inner-in-Open.ensures in
    let k = rw (i.1, i.2, w.2) at c.in_ok-rest-in-Open.ensures in
    let v = rw (c.in-Close.is, k.1) at c.in_ok-last-in-Open.ensures in
    (bracket_atom (c.args.self.depth + 1) (omega arith) i.0 c.in_ok-next.next.place c.in_ok-last-in-Open.last.place w.0 w.1 k.0 v.0 v.1, v.2)

pub atom-returns-in_default-word : goal.atom-returns-in_default-word
atom-returns-in_default-word t c =
    let w = rw c.in-Open.is at c.in_ok-next.ensures in
    let i = c.in_ok-inner-in-Open.ensures in
    let k = rw (i.1, i.2, w.2) at c.in_ok-rest-in-Open.ensures in
    let v = rw k.1 at c.in_ok-last-in-Open.ensures in
    rw c.at.ensures (not_closed (words_of c.args.text.whole c.in_ok-rest-in-Open.rest.bytes.now) c.in_ok-next.next.place (c.args.self.depth + 1) (omega arith) i.0 w.0 k.0.gives k.0.split k.0.follows c.in_ok-last-in-Open.last.word c.in_ok-last-in-Open.last.place _ c.in_default-word.not-Close v.0)

pub atom-returns-in_default : goal.atom-returns-in_default
atom-returns-in_default t c = rw c.at-in_default.ensures (barred_atom c.in_ok-next.next.place _ _ c.in_ok-next.next.word c.in_default.not-Name c.in_default.not-Nil c.in_default.not-Void c.in_default.not-Bang c.in_default.not-Open c.in_ok-next.ensures.0)

pub item-returns-in_err-rest : goal.item-returns-in_err-rest
item-returns-in_err-rest t c =
    let p = err_from_is_err_and c.from_residual.result c.from_residual.ensures.1 in
    rw (p.1, p.2) (raised item atom (λ m u b. (b.0, b.1, plain b.2)) c.in_err-rest.ensures)

pub item-returns-in_err-next : goal.item-returns-in_err-next
item-returns-in_err-next t c =
    let p = err_from_is_err_and c.from_residual-in_err-next.result c.from_residual-in_err-next.ensures.1 in
    let k = c.loop-next.invariant.2 _ _ (first_atom c.in_ok-rest.ensures.0) in
    rw (p.1, p.2) (spoilt_next {us = k.used} {ns = k.new} k.gives k.split (rw c.loop-next.invariant.1 at c.in_err-next.ensures))

pub item-returns-in_default : goal.item-returns-in_default
item-returns-in_default t c =
    let k = c.loop-next.invariant.2 _ _ (first_atom c.in_ok-rest.ensures.0) in
    let w = rw c.loop-next.invariant.1 at c.in_ok-next.ensures in
    (follows_other k (stops_item c.args.text.whole c.in_ok-next.next.place _ _ c.in_ok-next.next.word c.in_default.not-Star w.0), c.loop-next.invariant.1)

pub item-loop-next-preserved : goal.item-loop-next-preserved
item-loop-next-preserved t c =
    let w = rw (c.in-Star.is, c.loop-next.invariant.1) at c.in_ok-next.ensures in
    (omega (arith, w.1, c.loop-next.invariant.0), w.2, λ i o k. item_turn c.in_ok-next.next.place w.0 w.1 (pushed c.loop-next.draft.nodes.ok.0 c.push.ensures.items c.push.ensures.over) (c.loop-next.invariant.2 i o k))

pub chain-returns-in_err-rest : goal.chain-returns-in_err-rest
chain-returns-in_err-rest t c =
    let p = err_from_is_err_and c.from_residual.result c.from_residual.ensures.1 in
    rw (p.1, p.2) (raised chain item (λ m u b. (b.0, b.1, single b.2)) c.in_err-rest.ensures)

pub chain-returns-in_err-next : goal.chain-returns-in_err-next
chain-returns-in_err-next t c =
    let p = err_from_is_err_and c.from_residual-in_err-next.result c.from_residual-in_err-next.ensures.1 in
    let k = c.loop-next.invariant.2 _ _ (first_item c.in_ok-rest.ensures.0) in
    rw (p.1, p.2) (spoilt_next {us = k.used} {ns = k.new} k.gives k.split (rw c.loop-next.invariant.1 at c.in_err-next.ensures))

pub chain-returns-in_default : goal.chain-returns-in_default
chain-returns-in_default t c =
    let k = c.loop-next.invariant.2 _ _ (first_item c.in_ok-rest.ensures.0) in
    let w = rw c.loop-next.invariant.1 at c.in_ok-next.ensures in
    (follows_other k (stops_chain c.args.text.whole c.in_ok-next.next.place _ _ c.in_ok-next.next.word c.in_default.not-Name c.in_default.not-Nil c.in_default.not-Void c.in_default.not-Bang c.in_default.not-Open w.0 k.follows), c.loop-next.invariant.1)

pub chain-returns-in_err-rest-2 : goal.chain-returns-in_err-rest-2
chain-returns-in_err-rest-2 t c =
    let p = err_from_is_err_and c.from_residual-in_err-rest-2.result c.from_residual-in_err-rest-2.ensures.1 in
    let k = c.loop-next.invariant.2 _ _ (first_item c.in_ok-rest.ensures.0) in
    let w = rw c.loop-next.invariant.1 at c.in_ok-next.ensures in
    let s = starter c.args.text.whole c.in_ok-next.next.place _ _ c.in_ok-next.next.word c.in-Name.is w.0 in
    rw (p.1, p.2) (in_chain {us = k.used} {ns = k.new} k.gives k.split c.in_ok-next.next.place s.0 s.1 s.2 (rw c.loop-next.invariant.1 at c.in_err-rest-2.ensures))

pub chain-loop-next-preserved : goal.chain-loop-next-preserved
chain-loop-next-preserved t c =
    let e = rw c.loop-next.invariant.1 at c.in_ok-rest-2.ensures in
    (omega (arith, e.0.done.shorter, c.loop-next.invariant.0), e.1, λ i o k. chain_turn e.0 (c.loop-next.invariant.2 i o k))

pub choice-returns-in_err-rest : goal.choice-returns-in_err-rest
choice-returns-in_err-rest t c =
    let p = err_from_is_err_and c.from_residual.result c.from_residual.ensures.1 in
    rw (p.1, p.2) (raised choice chain (λ m u b. (b.0, b.1, alone b.2)) c.in_err-rest.ensures)

pub choice-returns-in_err-next : goal.choice-returns-in_err-next
choice-returns-in_err-next t c =
    let p = err_from_is_err_and c.from_residual-in_err-next.result c.from_residual-in_err-next.ensures.1 in
    let k = c.loop-next.invariant.2 _ _ (first_chain c.in_ok-rest.ensures.0) in
    rw (p.1, p.2) (spoilt_next {us = k.used} {ns = k.new} k.gives k.split (rw c.loop-next.invariant.1 at c.in_err-next.ensures))

pub choice-returns-in_default : goal.choice-returns-in_default
choice-returns-in_default t c =
    let k = c.loop-next.invariant.2 _ _ (first_chain c.in_ok-rest.ensures.0) in
    let w = rw c.loop-next.invariant.1 at c.in_ok-next.ensures in
    (follows_other k (stops_choice c.args.text.whole c.in_ok-next.next.place _ _ c.in_ok-next.next.word c.in_default.not-Bar w.0 k.follows), c.loop-next.invariant.1)

pub choice-returns-in_err-rest-2 : goal.choice-returns-in_err-rest-2
choice-returns-in_err-rest-2 t c =
    let w = rw (c.in-Bar.is, c.loop-next.invariant.1) at c.in_ok-next.ensures in
    let p = err_from_is_err_and c.from_residual-in_err-rest-2.result c.from_residual-in_err-rest-2.ensures.1 in
    let k = c.loop-next.invariant.2 _ _ (first_chain c.in_ok-rest.ensures.0) in
    rw (p.1, p.2) (in_choice {us = k.used} {ns = k.new} c.in_ok-next.next.place k.gives k.split w.0 (rw w.2 at c.in_err-rest-2.ensures))

pub choice-loop-next-preserved : goal.choice-loop-next-preserved
choice-loop-next-preserved t c =
    let w = rw (c.in-Bar.is, c.loop-next.invariant.1) at c.in_ok-next.ensures in
    let e = rw w.2 at c.in_ok-rest-2.ensures in
    (omega (arith, w.1, e.0.done.shorter, c.loop-next.invariant.0), e.1, λ i o k. choice_turn c.in_ok-next.next.place c.in_ok-next.next.rest.bytes.now w.0 w.1 e.0 (c.loop-next.invariant.2 i o k))
