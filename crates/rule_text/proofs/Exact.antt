-- No text is both taken and refused, and a text is refused in one way.
use Rattle.std.proofs.Common.{◌≡◌, ℕ, suc, ◌-◌, ◌<◌, ◌⊎◌, List, [], ◌∷◌, ◌++◌, length, Some, None, Ok, Err, Option, Result, sym, refl, ap, ◌∙◌, subst, ap₂, inl, inr, ⊎_elim, append_assoc, append-nil, arith}
use Rattle.refusals.specs.declared.Fault.{Fault}
use Rattle.refusals.specs.declared.Refusal.{Refusal}
use Rattle.refusals.specs.declared.Refusal.TheVariants.{BadNames, Misplaced}
use Rattle.rules.specs.declared.node.Node.{Node}
use Rattle.rule_text.specs.Words.{Word, name, nil, void, open', close', bar, star, bang, no_name, stray, words_in}
use Rattle.rule_text.specs.Grammar.{Level, choice, Naming, Gives, named, opposite, is_nil, is_void, brackets, plain, starred, single, longer, alone, wider}
use Rattle.rule_text.specs.Faults.{fault, by_list, by_any_name, Begins, IsRule, opened, own_fault, WordFault, spoilt, misplaced, deeper, unknown, FaultHere, FirstFault}
use Rattle.rule_text.specs.Reading.{Taken, Refused, bad_names, long, faulty, many, Exact, OneRefusal, Reads, Reading}
use Rattle.rule_text.proofs.Entries.{not_both, one_place}
use Rattle.rule_text.proofs.Failing.{widen, wide_any}
use Rattle.rule_text.proofs.Unique.{one_list}

abbrev Words : Type 0
Words = List (ℕ × Word)

-- the brackets open past one word
abbrev past : ℕ → Word → ℕ
past d (name x) = d
past d nil = d
past d void = d
past d open' = suc d
past d close' = d - 1
past d bar = d
past d star = d
past d bang = d
past d no_name = d
past d stray = d

abbrev depth_of : ℕ → Words → ℕ
depth_of d [] = d
depth_of d (w ∷ ws) = depth_of (past d w.1) ws

same_depth : (d : ℕ) (ws : Words) → opened d ws ≡ depth_of d ws
same_depth d [] = refl
same_depth d ((p, name x) ∷ ws) = same_depth d ws
same_depth d ((p, nil) ∷ ws) = same_depth d ws
same_depth d ((p, void) ∷ ws) = same_depth d ws
same_depth d ((p, open') ∷ ws) = same_depth (suc d) ws
same_depth d ((p, close') ∷ ws) = same_depth (d - 1) ws
same_depth d ((p, bar) ∷ ws) = same_depth d ws
same_depth d ((p, star) ∷ ws) = same_depth d ws
same_depth d ((p, bang) ∷ ws) = same_depth d ws
same_depth d ((p, no_name) ∷ ws) = same_depth d ws
same_depth d ((p, stray) ∷ ws) = same_depth d ws

-- a word of a rule: no fault of its own, a bracket not too deep, a name that is known
abbrev Known : Naming → List ℕ → Type 0
Known m x = (t : ℕ) × (m.test x ≡ Some t)

abbrev Fits : Naming → ℕ → Word → Type 0
Fits m d (name x) = Known m x
Fits m d nil = Unit {0}
Fits m d void = Unit {0}
Fits m d open' = d < m.depth
Fits m d close' = Unit {0}
Fits m d bar = Unit {0}
Fits m d star = Unit {0}
Fits m d bang = Unit {0}
Fits m d no_name = ⊥
Fits m d stray = ⊥

abbrev Clean : Naming → ℕ → Words → Type 0
Clean m d [] = Unit {0}
Clean m d (w ∷ ws) = Fits m d w.1 × Clean m (past d w.1) ws

depth_append : (d : ℕ) (us vs : Words) → depth_of d (us ++ vs) ≡ depth_of (depth_of d us) vs
depth_append d [] vs = refl
depth_append d (u ∷ us) vs = depth_append (past d u.1) us vs

clean_append : (m : Naming) (d : ℕ) (us vs : Words) → Clean m d us → Clean m (depth_of d us) vs → Clean m d (us ++ vs)
clean_append m d [] vs c e = e
clean_append m d (u ∷ us) vs c e = (c.0, clean_append m (past d u.1) us vs c.1 e)

clean_at : (m : Naming) (d : ℕ) (us vs : Words) (w : ℕ × Word) → Clean m d (us ++ w ∷ vs) → Fits m (depth_of d us) w.1
clean_at m d [] vs w c = c.0
clean_at m d (u ∷ us) vs w c = clean_at m (past d u.1) us vs w c.1

record Kept (m : Naming) (d : ℕ) (ws : Words) : Type 0 where
  clean : Clean m d ws
  level : depth_of d ws ≡ d

kept_append : {m : Naming} {d : ℕ} {us vs : Words} → Kept m d us → Kept m d vs → Kept m d (us ++ vs)
kept_append {m} {d} {us} {vs} g h =
    record {
      clean = clean_append m d us vs g.clean (subst (λ k. Clean m k vs) (sym g.level) h.clean);
      level = depth_append d us vs ∙ ap (λ k. depth_of k vs) g.level ∙ h.level;
    }

kept : {m : Naming} {l : Level} {d : ℕ} {ws : Words} {ns : List Node} → Gives m l d ws ns → Kept m d ws
kept (named {t = t} e) = record { clean = ((t, e), tt); level = refl }
kept (opposite {t = t} e) = record { clean = (tt, ((t, e), tt)); level = refl }
kept is_nil = record { clean = (tt, tt); level = refl }
kept is_void = record { clean = (tt, tt); level = refl }
kept {m} {d = d} (brackets p q {ws = ws} k g) =
    let x = kept g in
    let back : suc d - 1 ≡ d = omega arith in
    record {
      clean = (k, clean_append m (suc d) ws ((q, close') ∷ []) x.clean (tt, tt));
      level = depth_append (suc d) ws ((q, close') ∷ []) ∙ ap (λ j. j - 1) x.level ∙ back;
    }
kept (plain g) = kept g
kept (starred p g) = kept_append (kept g) (record { clean = (tt, tt); level = refl })
kept (single g) = kept g
kept (longer g h) = kept_append (kept g) (kept h)
kept (alone g) = kept g
kept (wider p g h) = let y = kept h in kept_append (kept g) (record { clean = (tt, y.clean); level = y.level })

fits_own : (m : Naming) (d : ℕ) (w : Word) (x : Refusal) → Fits m d w → own_fault w ≡ Some x → ⊥
fits_own m d (name y) x f e = let k : ◌≡◌ {A = ℕ} 0 1 = cc in omega arith
fits_own m d nil x f e = let k : ◌≡◌ {A = ℕ} 0 1 = cc in omega arith
fits_own m d void x f e = let k : ◌≡◌ {A = ℕ} 0 1 = cc in omega arith
fits_own m d open' x f e = let k : ◌≡◌ {A = ℕ} 0 1 = cc in omega arith
fits_own m d close' x f e = let k : ◌≡◌ {A = ℕ} 0 1 = cc in omega arith
fits_own m d bar x f e = let k : ◌≡◌ {A = ℕ} 0 1 = cc in omega arith
fits_own m d star x f e = let k : ◌≡◌ {A = ℕ} 0 1 = cc in omega arith
fits_own m d bang x f e = let k : ◌≡◌ {A = ℕ} 0 1 = cc in omega arith
fits_own m d no_name x f e = f
fits_own m d stray x f e = f

-- a word of a rule has no fault
no_fault : {names : List (List ℕ)} {x : Refusal} {ns : List Node} (before ws : Words) (w : ℕ × Word) → IsRule names (before ++ w ∷ ws) ns → WordFault names before w x → ⊥
no_fault {names} {x} before ws w g (spoilt e) = fits_own (by_list names) _ w.1 x (clean_at (by_list names) 0 before ws w (kept g).clean) e
no_fault {names} before ws w g (misplaced e a) =
    let b = widen (wide_any names 16 (omega arith)) g in
    a (16, (ws, b.0, subst (λ y. Gives (by_any_name 16) choice 0 y b.0) (sym (append_assoc before (w ∷ []) ws)) b.1))
no_fault {names} before ws w g (deeper e a k) =
    let f = subst (Fits (by_list names) (depth_of 0 before)) e (clean_at (by_list names) 0 before ws w (kept g).clean) in
    omega (arith, same_depth 0 before, f)
no_fault {names} before ws w g (unknown y e a n) =
    let f = subst (Fits (by_list names) (depth_of 0 before)) e (clean_at (by_list names) 0 before ws w (kept g).clean) in
    let known = f.1 in
    let z : ◌≡◌ {A = ℕ} 0 1 = cc in omega arith

not_here : (names : List (List ℕ)) (end : ℕ) (f : Fault) {ns : List Node} (before left : Words) → IsRule names (before ++ left) ns → FaultHere names end before left f → ⊥
not_here names end f {ns} before [] g h = h.1 ns (subst (λ y. IsRule names y ns) (append-nil before) g)
not_here names end f before (w ∷ ws) g h = no_fault before ws w g h.1

no_rule : (names : List (List ℕ)) (end : ℕ) (f : Fault) (ws : Words) (ns : List Node) → FirstFault names end ws f → IsRule names ws ns → ⊥
no_rule names end f ws ns h g = not_here names end f h.before h.left (subst (λ x. IsRule names x ns) h.split g) h.here

pub exact : Exact
exact names text ns f t (bad_names h) = not_both t.good h
exact names text ns f t (long g h) = omega (arith, t.short)
exact names text ns f t (faulty g k h) = no_rule names (length text) f (words_in text) ns h t.gives
exact names text ns f t (many ms g k r m) = omega (arith, t.few, ap length (one_list (by_list names) t.gives r))

-- b goes on past a
abbrev Past : Words → Words → Words → Words → Type 0
Past a l b m = (w : ℕ × Word) × (us : Words) × (b ≡ a ++ w ∷ us) × (l ≡ w ∷ (us ++ m))

abbrev head_or : ℕ × Word → Words → ℕ × Word
head_or d [] = d
head_or d (x ∷ xs) = x

abbrev tail : Words → Words
tail [] = []
tail (x ∷ xs) = xs

compare : (a l b m : Words) → a ++ l ≡ b ++ m → ((a ≡ b) × (l ≡ m)) ⊎ (Past a l b m ⊎ Past b m a l)
compare [] l [] m e = inl (refl, e)
compare [] l (y ∷ b) m e = inr (inl (y, b, refl, e))
compare (x ∷ a) l [] m e = inr (inr (x, a, refl, sym e))
compare (x ∷ a) l (y ∷ b) m e =
    let h : x ≡ y = ap (head_or x) e in
    ⊎_elim
    (λ s. inl ((λ i. h i ∷ s.0 i), s.1))
    (λ s. ⊎_elim
    (λ t. inr (inl (t.0, t.1, (λ i. sym h i ∷ t.2 i), t.3)))
    (λ t. inr (inr (t.0, t.1, (λ i. h i ∷ t.2 i), t.3)))
    s)
    (compare a l b m (ap tail e))

abbrev refusal_or : Option Refusal → Refusal
refusal_or None = Misplaced
refusal_or (Some x) = x

-- a word has one fault
own_none : (w : Word) (x : Refusal) → own_fault w ≡ Some x → own_fault w ≡ None → ⊥
own_none w x e n = let z : ◌≡◌ {A = ℕ} 0 1 = cc in omega arith

same_fault : {names : List (List ℕ)} {x y : Refusal} {b : Words} {w : ℕ × Word} → WordFault names b w x → WordFault names b w y → x ≡ y
same_fault (spoilt e) (spoilt h) = ap refusal_or (sym e ∙ h)
same_fault {x = x} {w = w} (spoilt e) (misplaced n a) = absurd (own_none w.1 x e n)
same_fault {x = x} (spoilt e) (deeper o a k) = absurd (own_none open' x (sym (ap own_fault o) ∙ e) refl)
same_fault {x = x} (spoilt e) (unknown z o a k) = absurd (own_none (name z) x (sym (ap own_fault o) ∙ e) refl)
same_fault {y = y} {w = w} (misplaced n a) (spoilt e) = absurd (own_none w.1 y e n)
same_fault (misplaced n a) (misplaced m b) = refl
same_fault (misplaced n a) (deeper o b k) = absurd (a b)
same_fault (misplaced n a) (unknown z o b k) = absurd (a b)
same_fault {y = y} (deeper o a k) (spoilt e) = absurd (own_none open' y (sym (ap own_fault o) ∙ e) refl)
same_fault (deeper o a k) (misplaced n b) = absurd (b a)
same_fault (deeper o a k) (deeper p b j) = refl
same_fault (deeper o a k) (unknown z p b j) = let q : ◌≡◌ {A = ℕ} 0 1 = cc in absurd (omega arith)
same_fault {y = y} (unknown z o a k) (spoilt e) = absurd (own_none (name z) y (sym (ap own_fault o) ∙ e) refl)
same_fault (unknown z o a k) (misplaced n b) = absurd (b a)
same_fault (unknown z o a k) (deeper p b j) = let q : ◌≡◌ {A = ℕ} 0 1 = cc in absurd (omega arith)
same_fault (unknown z o a k) (unknown v p b j) = refl

-- a fault is its refusal and its place
same_parts : (f g : Fault) → f.refusal ≡ g.refusal → f.place ≡ g.place → f ≡ g
same_parts f g r p = ap₂ fault r p

same_here : (names : List (List ℕ)) (end : ℕ) (f g : Fault) (b l : Words) → FaultHere names end b l f → FaultHere names end b l g → f ≡ g
same_here names end f g b [] h j = h.0 ∙ sym j.0
same_here names end f g b (w ∷ ws) h j = same_parts f g (same_fault h.1 j.1) (h.0 ∙ sym j.0)

not_past : (names : List (List ℕ)) (end : ℕ) (f : Fault) (a l b m : Words) → Past a l b m → FaultHere names end a l f → Begins (by_list names) choice 0 b → ⊥
not_past names end f a l b m (w, us, e, k) h (more, ns, g) =
    no_fault a (us ++ more) w (subst (λ x. IsRule names x ns) (ap (λ x. x ++ more) e ∙ append_assoc a (w ∷ us) more) g) (subst (λ x. FaultHere names end a x f) k h).1

one_fault : (names : List (List ℕ)) (end : ℕ) (f g : Fault) (ws : Words) → FirstFault names end ws f → FirstFault names end ws g → f ≡ g
one_fault names end f g ws h j =
    ⊎_elim
    (λ s. same_here names end f g j.before j.left (subst (λ x. FaultHere names end x j.left f) s.0 (subst (λ x. FaultHere names end h.before x f) s.1 h.here)) j.here)
    (λ s. ⊎_elim
    (λ t. absurd (not_past names end f h.before h.left j.before j.left t h.here j.begins))
    (λ t. absurd (not_past names end g j.before j.left h.before h.left t j.here h.begins))
    s)
    (compare h.before h.left j.before j.left (sym h.split ∙ j.split))

pub one_refusal : OneRefusal
one_refusal names text f g (bad_names h) (bad_names j) = ap (fault BadNames) (one_place h j)
one_refusal names text f g (bad_names h) (long k j) = absurd (not_both k h)
one_refusal names text f g (bad_names h) (faulty k j w) = absurd (not_both k h)
one_refusal names text f g (bad_names h) (many ns k j r m) = absurd (not_both k h)
one_refusal names text f g (long k h) (bad_names j) = absurd (not_both k j)
one_refusal names text f g (long k h) (long l j) = refl
one_refusal names text f g (long k h) (faulty l j w) = absurd (omega arith)
one_refusal names text f g (long k h) (many ns l j r m) = absurd (omega arith)
one_refusal names text f g (faulty k h v) (bad_names j) = absurd (not_both k j)
one_refusal names text f g (faulty k h v) (long l j) = absurd (omega arith)
one_refusal names text f g (faulty k h v) (faulty l j w) = one_fault names (length text) f g (words_in text) v w
one_refusal names text f g (faulty k h v) (many ns l j r m) = absurd (no_rule names (length text) f (words_in text) ns v r)
one_refusal names text f g (many ns k h r m) (bad_names j) = absurd (not_both k j)
one_refusal names text f g (many ns k h r m) (long l j) = absurd (omega arith)
one_refusal names text f g (many ns k h r m) (faulty l j w) = absurd (no_rule names (length text) g (words_in text) ns w r)
one_refusal names text f g (many ns k h r m) (many ms l j s n) = refl

-- what a reading does tells the rest of it
has_list : (names : List (List ℕ)) (text : List ℕ) (before after : List Node) (r : Result (Unit {0}) Fault) → Reads names text before after r → ((f : Fault) → Refused names text f → ⊥) → (ns : List Node) × Taken names text ns
has_list names text before after (Ok u) t none = (after, t)
has_list names text before after (Err f) h none = absurd (none f h.1)

pub reading : {names : List (List ℕ)} {text : List ℕ} {before after : List Node} (r : Result (Unit {0}) Fault) → Reads names text before after r → Reading names text before after r
reading {names} {text} {before} {after} r h =
    record { reads = h; total = has_list names text before after r h; one_reading = λ names ws ns ms g k. one_list (by_list names) g k; exact = exact; one_refusal = one_refusal }
