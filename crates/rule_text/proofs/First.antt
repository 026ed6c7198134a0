-- The fault that a reader meets is the first fault of the text.
use Rattle.std.proofs.Common.{◌≡◌, ℕ, ◌-◌, ◌<◌, ◌≤◌, Bool, true, false, List, [], ◌∷◌, ◌++◌, length, Some, sym, refl, ap, ◌∙◌, subst, inl, inr, append-nil, arith}
use Rattle.std.proofs.lemmas.Bool.{both_ways}
use Rattle.refusals.specs.declared.Fault.{Fault}
use Rattle.refusals.specs.declared.Refusal.{Refusal}
use Rattle.refusals.specs.declared.Refusal.TheVariants.{TooManyNodes}
use Rattle.rules.specs.declared.node.Node.{Node}
use Rattle.rule_text.specs.declared.rest.Placed.{Placed}
use Rattle.rule_text.specs.declared.words.Word.TheVariants.{End}
use Rattle.rule_text.specs.Words.{Word, words, words_in}
use Rattle.rule_text.specs.Grammar.{choice}
use Rattle.rule_text.specs.Faults.{fault, IsRule, WordFault, spoilt, misplaced, deeper, unknown, FaultHere, FirstFault}
use Rattle.rule_text.specs.Lexing.{words_of, Starts}
use Rattle.rule_text.specs.Names.{GoodNames}
use Rattle.rule_text.specs.Reading.{Refused, faulty, many}
use Rattle.rule_text.specs.Readers.{Mode, wants, scan, Faulty, own, barred, deep, strange, FaultAt, GoesOn, IsAllowed, Fails, Done, Holds, EndFault, not_ended, too_many}
use Rattle.rule_text.proofs.Failing.{not_ended_lem}
use Rattle.rule_text.proofs.Scanning.{refuses, ends_early, depth_is}

-- the fault of a word, in the grammar's words
at_word : {names : List (List ℕ)} {m : Mode} {d : ℕ} {us : List (ℕ × Word)} (p : ℕ) {v : Word} {x : Refusal} → scan (Some (wants, 0)) us ≡ Some (m, d) → (IsAllowed x → GoesOn choice 0 us ((p, v) ∷ [])) → Faulty names m d v x → WordFault names us (p, v) x
at_word p r z (own e) = spoilt e
at_word {us = us} p {v} r z (barred e s) = misplaced e (λ b. refuses us b.1.0 (p, v) b.1.1 r s b.1.2)
at_word {us = us} p r z (deep k h) = let a = z (inl refl) in deeper refl (a.0, a.2) (omega (arith, depth_is 0 us wants r))
at_word p r z (strange x e) = let a = z (inr refl) in unknown x refl (a.0, a.2) e

at_fault : (names : List (List ℕ)) (whole : ℕ) (f : Fault) {m : Mode} {d : ℕ} (us left : List (ℕ × Word)) → scan (Some (wants, 0)) us ≡ Some (m, d) → FaultAt names whole m d left f → (IsAllowed f.refusal → GoesOn choice 0 us left) → FaultHere names whole us left f
at_fault names whole f us [] r h z = (h.0, λ ns g. ends_early us ns r h.1 g)
at_fault names whole f us ((p, v) ∷ ws) r h z = (h.0, at_word p r z h.1)

-- a text's own words
words_of_lem : (text : List ℕ) → words_of (length text) text ≡ words_in text
words_of_lem text = let e : length text - length text ≡ 0 = omega arith in ap (λ k. words k false text) e

pub first_fault : {names : List (List ℕ)} {f : Fault} (text : List ℕ) → Fails names choice wants 0 (length text) (words_of (length text) text) f → FirstFault names (length text) (words_in text) f
first_fault {names} {f} text h =
    record { before = h.used; left = h.left; split = sym (words_of_lem text) ∙ h.split; begins = h.begins; here = at_fault names (length text) f h.used h.left h.ran h.here h.allowed }

-- a text that is read to its end is a rule
pub whole_rule : {names : List (List ℕ)} {i i' : List Node} {o o' : Bool} (text rest : List ℕ) (k : Done names choice choice 0 (length text) text rest i o i' o') → words_of (length text) rest ≡ [] → IsRule names (words_in text) k.new
whole_rule {names} text rest k w =
    subst (λ x. IsRule names x k.new) (sym (k.split ∙ ap (λ x. k.used ++ x) w ∙ append-nil k.used) ∙ words_of_lem text) k.gives

-- a draft of a whole rule holds that rule, unless there were too many nodes
pub not_over : {items new : List Node} {over : Bool} → Holds items over new → over ≡ false → (length new ≤ 512) × (items ≡ new)
not_over (inl (few, is, under)) e = (few, is)
not_over {over = over} (inr (more, past)) e = absurd (both_ways over e past)

is_over : {items new : List Node} {over : Bool} → Holds items over new → over ≡ true → 512 < length new
is_over {over = over} (inl (few, is, under)) e = absurd (both_ways over under e)
is_over (inr (more, past)) e = more

-- what stands after a whole rule is refused
module _ {names : List (List ℕ)} {i items : List Node} {o over : Bool} (text rest : List ℕ) (last : Placed) (vs : List (ℕ × Word)) (good : GoodNames names) (short : length text ≤ 4096) (k : Done names choice choice 0 (length text) text rest i o items over) (h : Holds items over k.new) (s : Starts (length text) last.word last.place (words_of (length text) rest) vs) where
  pub ends_rule : last.word ≡ End → IsRule names (words_in text) k.new
  ends_rule e = whole_rule text rest k (subst (λ t. Starts (length text) t last.place (words_of (length text) rest) vs) e s).0

  pub end_refused : last.rest.whole ≡ length text → (f : Fault) → EndFault last over f → Refused names text f
  end_refused same f (not_ended n e) = subst (Refused names text) (sym e) (faulty good short (first_fault text (not_ended_lem (words_of (length text) rest) k.gives k.split k.follows last.word last.place vs n s)))
  end_refused same f (too_many w p e) = subst (Refused names text) (sym (e ∙ ap (fault TooManyNodes) same)) (many k.new good short (ends_rule w) (is_over h p))
