-- The scan: what the grammar gives passes it, and a word that it refuses begins no rule.
use Rattle.std.proofs.Common.{◌≡◌, ℕ, zero, suc, ◌-◌, List, [], ◌∷◌, ◌++◌, Some, None, Option, sym, refl, ap, ◌∙◌, subst, arith}
use Rattle.rules.specs.declared.node.Node.{Node}
use Rattle.rule_text.specs.Words.{Word, name, nil, void, open', close', bar, star, bang, no_name, stray}
use Rattle.rule_text.specs.Grammar.{Level, choice, Gives, Naming, named, opposite, is_nil, is_void, brackets, plain, starred, single, longer, alone, wider}
use Rattle.rule_text.specs.Faults.{opened}
use Rattle.rule_text.specs.Readers.{Mode, wants, has, turns, Ready, step, onward, scan, Unfinished}

pub scan_append : (s : Option (Mode × ℕ)) (us vs : List (ℕ × Word)) → scan s (us ++ vs) ≡ scan (scan s us) vs
scan_append s [] vs = refl
scan_append s (u ∷ us) vs = scan_append (onward s u.1) us vs

none_scan : (us : List (ℕ × Word)) → scan None us ≡ None
none_scan [] = refl
none_scan (u ∷ us) = none_scan us

none_some : {s : Mode × ℕ} → None ≡ Some s → ⊥
none_some e = let z : ◌≡◌ {A = ℕ} 0 1 = cc in omega arith

step_name : (m : Mode) (d : ℕ) (x : List ℕ) → step m d (name x) ≡ Some (has, d)
step_name wants d x = refl
step_name has d x = refl
step_name turns d x = refl

step_open : (m : Mode) (d : ℕ) → Ready m → step m d open' ≡ Some (wants, suc d)
step_open wants d r = refl
step_open has d r = refl
step_open turns d r = absurd r

step_bang : (m : Mode) (d : ℕ) → Ready m → step m d bang ≡ Some (turns, d)
step_bang wants d r = refl
step_bang has d r = refl
step_bang turns d r = absurd r

step_nil : (m : Mode) (d : ℕ) → Ready m → step m d nil ≡ Some (has, d)
step_nil wants d r = refl
step_nil has d r = refl
step_nil turns d r = absurd r

step_void : (m : Mode) (d : ℕ) → Ready m → step m d void ≡ Some (has, d)
step_void wants d r = refl
step_void has d r = refl
step_void turns d r = absurd r

-- what the grammar gives, the scan passes
pub gives_scan : {n : Naming} {l : Level} {d : ℕ} {ws : List (ℕ × Word)} {ns : List Node} → Gives n l d ws ns → (m : Mode) → Ready m → scan (Some (m, d)) ws ≡ Some (has, d)
gives_scan {d = d} (named {x = x} e) m r = step_name m d x
gives_scan {d = d} (opposite {q = q} {x = x} e) m r = ap (λ s. scan s ((q, name x) ∷ [])) (step_bang m d r)
gives_scan {d = d} is_nil m r = step_nil m d r
gives_scan {d = d} is_void m r = step_void m d r
gives_scan {d = d} (brackets p q {ws = ws} k g) m r =
    ap (λ s. scan s (ws ++ (q, close') ∷ [])) (step_open m d r) ∙ scan_append (Some (wants, suc d)) ws ((q, close') ∷ []) ∙ ap (λ s. scan s ((q, close') ∷ [])) (gives_scan g wants tt)
gives_scan (plain g) m r = gives_scan g m r
gives_scan {d = d} (starred p {ws = ws} g) m r = scan_append (Some (m, d)) ws ((p, star) ∷ []) ∙ ap (λ s. scan s ((p, star) ∷ [])) (gives_scan g m r)
gives_scan (single g) m r = gives_scan g m r
gives_scan {d = d} (longer {us = us} {vs = vs} g h) m r = scan_append (Some (m, d)) us vs ∙ ap (λ s. scan s vs) (gives_scan g m r) ∙ gives_scan h has tt
gives_scan (alone g) m r = gives_scan g m r
gives_scan {d = d} (wider p {us = us} {vs = vs} g h) m r = scan_append (Some (m, d)) us ((p, bar) ∷ vs) ∙ ap (λ s. scan s ((p, bar) ∷ vs)) (gives_scan g m r) ∙ gives_scan h wants tt

-- no rule begins with a word that the scan refuses, or ends where it is not done
pub refuses : {n : Naming} {m : Mode} {d : ℕ} (us vs : List (ℕ × Word)) (w : ℕ × Word) (ns : List Node) → scan (Some (wants, 0)) us ≡ Some (m, d) → step m d w.1 ≡ None → Gives n choice 0 ((us ++ w ∷ []) ++ vs) ns → ⊥
refuses {m = m} {d} us vs w ns r e g =
    let all = gives_scan g wants tt in
    let stuck = scan_append (Some (wants, 0)) us (w ∷ []) ∙ ap (λ s. scan s (w ∷ [])) r ∙ e in
    let z = sym (none_scan vs) ∙ ap (λ s. scan s vs) (sym stuck) ∙ sym (scan_append (Some (wants, 0)) (us ++ w ∷ []) vs) ∙ all in
    none_some z

abbrev pub un_some : Option (Mode × ℕ) → Mode × ℕ
un_some None = (wants, 0)
un_some (Some s) = s

unfinished : (m : Mode) (d : ℕ) → Unfinished m d → ◌≡◌ {A = Option (Mode × ℕ)} (Some (m, d)) (Some (has, 0)) → ⊥
unfinished m d u e = subst (λ s. Unfinished s.0 s.1) (ap un_some e) u

pub ends_early : {n : Naming} {m : Mode} {d : ℕ} (us : List (ℕ × Word)) (ns : List Node) → scan (Some (wants, 0)) us ≡ Some (m, d) → Unfinished m d → Gives n choice 0 us ns → ⊥
ends_early {m = m} {d} us ns r u g = unfinished m d u (sym r ∙ gives_scan g wants tt)

-- the scan counts the brackets that stand open
pub depth_is : {m : Mode} {d : ℕ} (k : ℕ) (us : List (ℕ × Word)) (n : Mode) → scan (Some (n, k)) us ≡ Some (m, d) → opened k us ≡ d
depth_is k [] n r = ap (λ s. (un_some s).1) r
depth_is k ((p, name x) ∷ us) wants r = depth_is k us has r
depth_is k ((p, name x) ∷ us) has r = depth_is k us has r
depth_is k ((p, name x) ∷ us) turns r = depth_is k us has r
depth_is k ((p, nil) ∷ us) wants r = depth_is k us has r
depth_is k ((p, nil) ∷ us) has r = depth_is k us has r
depth_is k ((p, nil) ∷ us) turns r = absurd (none_some (sym (none_scan us) ∙ r))
depth_is k ((p, void) ∷ us) wants r = depth_is k us has r
depth_is k ((p, void) ∷ us) has r = depth_is k us has r
depth_is k ((p, void) ∷ us) turns r = absurd (none_some (sym (none_scan us) ∙ r))
depth_is k ((p, open') ∷ us) wants r = depth_is (suc k) us wants r
depth_is k ((p, open') ∷ us) has r = depth_is (suc k) us wants r
depth_is k ((p, open') ∷ us) turns r = absurd (none_some (sym (none_scan us) ∙ r))
depth_is k ((p, close') ∷ us) wants r = absurd (none_some (sym (none_scan us) ∙ r))
depth_is zero ((p, close') ∷ us) has r = absurd (none_some (sym (none_scan us) ∙ r))
depth_is (suc k) ((p, close') ∷ us) has r = let e : suc k - 1 ≡ k = omega arith in ap (λ j. opened j us) e ∙ depth_is k us has r
depth_is k ((p, close') ∷ us) turns r = absurd (none_some (sym (none_scan us) ∙ r))
depth_is k ((p, bar) ∷ us) wants r = absurd (none_some (sym (none_scan us) ∙ r))
depth_is k ((p, bar) ∷ us) has r = depth_is k us wants r
depth_is k ((p, bar) ∷ us) turns r = absurd (none_some (sym (none_scan us) ∙ r))
depth_is k ((p, star) ∷ us) wants r = absurd (none_some (sym (none_scan us) ∙ r))
depth_is k ((p, star) ∷ us) has r = depth_is k us has r
depth_is k ((p, star) ∷ us) turns r = absurd (none_some (sym (none_scan us) ∙ r))
depth_is k ((p, bang) ∷ us) wants r = depth_is k us turns r
depth_is k ((p, bang) ∷ us) has r = depth_is k us turns r
depth_is k ((p, bang) ∷ us) turns r = absurd (none_some (sym (none_scan us) ∙ r))
depth_is k ((p, no_name) ∷ us) wants r = absurd (none_some (sym (none_scan us) ∙ r))
depth_is k ((p, no_name) ∷ us) has r = absurd (none_some (sym (none_scan us) ∙ r))
depth_is k ((p, no_name) ∷ us) turns r = absurd (none_some (sym (none_scan us) ∙ r))
depth_is k ((p, stray) ∷ us) wants r = absurd (none_some (sym (none_scan us) ∙ r))
depth_is k ((p, stray) ∷ us) has r = absurd (none_some (sym (none_scan us) ∙ r))
depth_is k ((p, stray) ∷ us) turns r = absurd (none_some (sym (none_scan us) ∙ r))
