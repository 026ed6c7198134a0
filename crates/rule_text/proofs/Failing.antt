-- How a fault of a part is a fault of the whole.
use Rattle.std.proofs.Common.{◌≡◌, ℕ, suc, ◌+◌, ◌<◌, ◌≤◌, ◌⊎◌, List, [], ◌∷◌, ◌++◌, length, Some, None, sym, refl, ap, ◌∙◌, subst, inl, inr, append_assoc, append-nil, arith, Bor}
use Rattle.refusals.specs.declared.Fault.{Fault}
use Rattle.refusals.specs.declared.Refusal.{Refusal}
use Rattle.refusals.specs.declared.Refusal.TheVariants.{Misplaced, TooDeep, UnknownName}
use Rattle.rules.specs.declared.node.Join.TheVariants.{Chain, Choice}
use Rattle.rules.specs.declared.node.Node.{Node}
use Rattle.rules.specs.declared.node.Shape.TheVariants.{Nil as NilShape, Leaf, Join}
use Rattle.rules.specs.Nodes.{node}
use Rattle.rule_text.specs.declared.words.Word.{Word as Token}
use Rattle.rule_text.specs.declared.words.Word.TheVariants.{Name, Nil, Void, Open, Close, Bar, Star, Bang, End}
use Rattle.rule_text.specs.Words.{Word, name, nil, void, open', close', bar, star, bang, no_name, stray}
use Rattle.rule_text.specs.Names.{test_named}
use Rattle.rule_text.specs.Grammar.{Level, choice, chain, item, atom, Gives, Naming, named, opposite, is_nil, is_void, brackets, plain, starred, single, longer, alone, wider, under}
use Rattle.rule_text.specs.Faults.{fault, by_list, by_any_name, Begins, own_fault}
use Rattle.rule_text.specs.Lexing.{Starts, Spoilt}
use Rattle.rule_text.specs.Readers.{Mode, wants, has, turns, step, scan, Faulty, own, barred, deep, strange, FaultAt, GoesOn, IsAllowed, Fails, Follows}
use Rattle.rule_text.proofs.Scanning.{scan_append, gives_scan, un_some}

-- a naming that knows the names of the list, and lets brackets stand as deep
pub record Wide (names : List (List ℕ)) (m : Naming) : Type 0 where
  pub test : (x : List ℕ) (t : ℕ) → test_named names x ≡ Some t → (u : ℕ) × (m.test x ≡ Some u)
  pub deep : 16 ≤ m.depth

wide_list : (names : List (List ℕ)) → Wide names (by_list names)
wide_list names = record { test = λ x t e. (t, e); deep = omega arith }

pub wide_any : (names : List (List ℕ)) (depth : ℕ) → 16 ≤ depth → Wide names (by_any_name depth)
wide_any names depth h = record { test = λ x t e. (0, refl); deep = h }

-- what the list's names give, wider names give too
pub widen : {names : List (List ℕ)} {m : Naming} {l : Level} {d : ℕ} {ws : List (ℕ × Word)} {ns : List Node} → Wide names m → Gives (by_list names) l d ws ns → (ms : List Node) × Gives m l d ws ms
widen k (named {t = t} {x = x} e) = let u = k.test x t e in (node (Leaf u.0) 1 ∷ [], named u.1)
widen {m = m} k (opposite {t = t} {x = x} e) = let u = k.test x t e in (node (Leaf (m.count + u.0)) 1 ∷ [], opposite u.1)
widen k is_nil = (_, is_nil)
widen k is_void = (_, is_void)
widen k (brackets p q e g) = let a = widen k g in (a.0, brackets p q (omega (arith, k.deep)) a.1)
widen k (plain g) = let a = widen k g in (a.0, plain a.1)
widen k (starred p g) = let a = widen k g in (_, starred p a.1)
widen k (single g) = let a = widen k g in (a.0, single a.1)
widen k (longer g h) = let a = widen k g in let b = widen k h in (_, longer a.1 b.1)
widen k (alone g) = let a = widen k g in (a.0, alone a.1)
widen k (wider p g h) = let a = widen k g in let b = widen k h in (_, wider p a.1 b.1)

-- what begins a part begins the whole
abbrev Raises : List (List ℕ) → Level → ℕ → Level → ℕ → List (ℕ × Word) → Type 0
Raises names k d' l d us = (m : Naming) → Wide names m → (u : List (ℕ × Word)) → Begins m k d' u → Begins m l d (us ++ u)

begins_wider : {names : List (List ℕ)} {d : ℕ} {us : List (ℕ × Word)} {ls : List Node} (q : ℕ) → Gives (by_list names) choice d us ls → Raises names chain d choice d (us ++ (q, bar) ∷ [])
begins_wider {d = d} {us} q g m k u (more, ns, h) =
    let a = widen k g in
    (more, _, subst (λ x. Gives m choice d x (under (Join Choice) (a.0 ++ ns))) (sym (append_assoc (us ++ (q, bar) ∷ []) u more ∙ append_assoc us ((q, bar) ∷ []) (u ++ more))) (wider q a.1 h))

begins_longer : {names : List (List ℕ)} {d : ℕ} {us : List (ℕ × Word)} {ls : List Node} → Gives (by_list names) chain d us ls → Raises names item d chain d us
begins_longer {d = d} {us} g m k u (more, ns, h) =
    let a = widen k g in
    (more, _, subst (λ x. Gives m chain d x (under (Join Chain) (a.0 ++ ns))) (sym (append_assoc us u more)) (longer a.1 h))

begins_brackets : {m : Naming} {d : ℕ} (q : ℕ) → d < m.depth → (u : List (ℕ × Word)) → Begins m choice (suc d) u → Begins m atom d ((q, open') ∷ u)
begins_brackets {m} {d} q k u (more, ns, h) =
    (more ++ (0, close') ∷ [], ns, subst (λ x. Gives m atom d ((q, open') ∷ x) ns) (append_assoc u more ((0, close') ∷ [])) (brackets q 0 k h))

begins_whole : {m : Naming} {l : Level} {d : ℕ} {us : List (ℕ × Word)} {ns : List Node} → Gives m l d us ns → Begins m l d us
begins_whole {m} {l} {d} {us} {ns} g = ([], ns, subst (λ x. Gives m l d x ns) (sym (append-nil us)) g)

begins_none : (m : Naming) (d : ℕ) → Begins m atom d []
begins_none m d = ((0, nil) ∷ [], node NilShape 1 ∷ [], is_nil)

begins_any : (m : Naming) (d : ℕ) → Begins m choice d []
begins_any m d = let b = begins_none m d in (b.0, b.1, alone (single (plain b.2)))

-- a fault further on
goes_on : {k l : Level} {d d' : ℕ} {names : List (List ℕ)} (us used left : List (ℕ × Word)) → Raises names k d' l d us → GoesOn k d' used left → GoesOn l d (us ++ used) left
goes_on us used [] b z = tt
goes_on {l = l} {d = d} {names = names} us used (w ∷ ws) b (depth, h, z) =
    (depth, h, subst (Begins (by_any_name depth) l d) (sym (append_assoc us used (w ∷ []))) (b (by_any_name depth) (wide_any names depth h) (used ++ w ∷ []) z))

lift : {names : List (List ℕ)} {l k : Level} {m m' : Mode} {d d' whole : ℕ} {f : Fault} {all part : List (ℕ × Word)} (us : List (ℕ × Word)) → all ≡ us ++ part → scan (Some (m, d)) us ≡ Some (m', d') → Raises names k d' l d us → Fails names k m' d' whole part f → Fails names l m d whole all f
lift {names} {l} {m = m} {d = d} us e r b h =
    record {
      used = us ++ h.used;
      left = h.left;
      split = e ∙ ap (λ x. us ++ x) h.split ∙ sym (append_assoc us h.used h.left);
      begins = b (by_list names) (wide_list names) h.used h.begins;
      allowed = λ z. goes_on us h.used h.left b (h.allowed z);
      mode = h.mode;
      depth = h.depth;
      ran = scan_append (Some (m, d)) us h.used ∙ ap (λ s. scan s h.used) r ∙ h.ran;
      here = h.here;
    }

-- a fault that a word has of its own is none that the grammar allows
own_barred : (w : Word) (x : Refusal) → own_fault w ≡ Some x → IsAllowed x → ⊥
own_barred (name y) x e z = let k : ◌≡◌ {A = ℕ} 0 1 = cc in omega arith
own_barred nil x e z = let k : ◌≡◌ {A = ℕ} 0 1 = cc in omega arith
own_barred void x e z = let k : ◌≡◌ {A = ℕ} 0 1 = cc in omega arith
own_barred open' x e z = let k : ◌≡◌ {A = ℕ} 0 1 = cc in omega arith
own_barred close' x e z = let k : ◌≡◌ {A = ℕ} 0 1 = cc in omega arith
own_barred bar x e z = let k : ◌≡◌ {A = ℕ} 0 1 = cc in omega arith
own_barred star x e z = let k : ◌≡◌ {A = ℕ} 0 1 = cc in omega arith
own_barred bang x e z = let k : ◌≡◌ {A = ℕ} 0 1 = cc in omega arith
own_barred no_name x e (inl z) = let k : ◌≡◌ {A = ℕ} 0 1 = cc in omega arith
own_barred no_name x e (inr z) = let k : ◌≡◌ {A = ℕ} 0 1 = cc in omega arith
own_barred stray x e (inl z) = let k : ◌≡◌ {A = ℕ} 0 1 = cc in omega arith
own_barred stray x e (inr z) = let k : ◌≡◌ {A = ℕ} 0 1 = cc in omega arith

not_misplaced : IsAllowed Misplaced → ⊥
not_misplaced (inl z) = let k : ◌≡◌ {A = ℕ} 0 1 = cc in omega arith
not_misplaced (inr z) = let k : ◌≡◌ {A = ℕ} 0 1 = cc in omega arith

-- a spoilt word is faulty in every mode
spoilt_at : (names : List (List ℕ)) (whole : ℕ) (m : Mode) (d : ℕ) {ws : List (ℕ × Word)} {f : Fault} → Spoilt ws f → FaultAt names whole m d ws f
spoilt_at names whole m d {f = f} s = subst (λ x. FaultAt names whole m d x f) (sym s.first) (refl, own s.own)

module _ {names : List (List ℕ)} {d whole : ℕ} {f : Fault} where
  -- the word after what was read is faulty by itself
  pub spoilt_next : {l : Level} {all ws us : List (ℕ × Word)} {ns : List Node} → Gives (by_list names) l d us ns → all ≡ us ++ ws → Spoilt ws f → Fails names l wants d whole all f
  spoilt_next {ws = ws} {us} g e s =
      record {
        used = us;
        left = ws;
        split = e;
        begins = begins_whole g;
        allowed = λ z. absurd (own_barred s.word f.refusal s.own z);
        mode = has;
        depth = d;
        ran = gives_scan g wants tt;
        here = spoilt_at names whole has d s;
      }

  -- no atom starts here
  no_atom : {ws : List (ℕ × Word)} → FaultAt names whole wants d ws f → (IsAllowed f.refusal → GoesOn atom d [] ws) → Fails names atom wants d whole ws f
  no_atom {ws} h z = record { used = []; left = ws; split = refl; begins = begins_none (by_list names) d; allowed = z; mode = wants; depth = d; ran = refl; here = h }

  pub first_spoilt : {ws : List (ℕ × Word)} → Spoilt ws f → Fails names atom wants d whole ws f
  first_spoilt s = no_atom (spoilt_at names whole wants d s) (λ z. absurd (own_barred s.word f.refusal s.own z))

  -- a fault of a part, in each place
  pub raised : (l k : Level) {ws : List (ℕ × Word)} → ((m : Naming) (u : List (ℕ × Word)) → Begins m k d u → Begins m l d u) → Fails names k wants d whole ws f → Fails names l wants d whole ws f
  raised l k g h = lift [] refl refl (λ m j. g m) h

  pub in_choice : {all rest mid us : List (ℕ × Word)} {ns : List Node} (q : ℕ) → Gives (by_list names) choice d us ns → all ≡ us ++ rest → rest ≡ (q, bar) ∷ mid → Fails names chain wants d whole mid f → Fails names choice wants d whole all f
  in_choice {mid = mid} {us} q g e w h =
      lift (us ++ (q, bar) ∷ []) (e ∙ ap (λ x. us ++ x) w ∙ sym (append_assoc us ((q, bar) ∷ []) mid))
      (scan_append (Some (wants, d)) us ((q, bar) ∷ []) ∙ ap (λ s. scan s ((q, bar) ∷ [])) (gives_scan g wants tt))
      (begins_wider q g) h

  pub in_brackets : {all mid : List (ℕ × Word)} (q d' : ℕ) → d' ≡ suc d → d < 16 → all ≡ (q, open') ∷ mid → Fails names choice wants d' whole mid f → Fails names atom wants d whole all f
  in_brackets {mid = mid} q d' e dl w h = lift ((q, open') ∷ []) w refl (λ m j. begins_brackets q (omega (arith, j.deep))) (subst (λ k. Fails names choice wants k whole mid f) e h)

-- what is not closed, and what is not allowed
module _ {names : List (List ℕ)} {whole d : ℕ} where
  pub not_closed : {all mid us : List (ℕ × Word)} {ns : List Node} (rest : List (ℕ × Word)) (q d' : ℕ) → d' ≡ suc d → d < 16 → all ≡ (q, open') ∷ mid → Gives (by_list names) choice d' us ns → mid ≡ us ++ rest → Follows choice rest → (t : Token) (p : ℕ) (vs : List (ℕ × Word)) → (t ≡ Close → ⊥) → Starts whole t p rest vs → Fails names atom wants d whole all (fault Misplaced p)
  not_closed rest q d' de dl w g e s (Name x) p vs n h = absurd (omega (arith, subst (Follows choice) h s))
  not_closed rest q d' de dl w g e s Nil p vs n h = absurd (omega (arith, subst (Follows choice) h s))
  not_closed rest q d' de dl w g e s Void p vs n h = absurd (omega (arith, subst (Follows choice) h s))
  not_closed rest q d' de dl w g e s Open p vs n h = absurd (omega (arith, subst (Follows choice) h s))
  not_closed rest q d' de dl w g e s Close p vs n h = absurd (n refl)
  not_closed rest q d' de dl w g e s Bar p vs n h = absurd (omega (arith, subst (Follows choice) h s))
  not_closed rest q d' de dl w g e s Star p vs n h = absurd (omega (arith, subst (Follows choice) h s))
  not_closed rest q d' de dl w g e s Bang p vs n h = absurd (omega (arith, subst (Follows choice) h s))
  not_closed {us = us} {ns} rest q d' de dl w g e s End p vs n h =
      let inner = subst (λ j. Gives (by_list names) choice j us ns) de g in
      record {
        used = (q, open') ∷ us;
        left = rest;
        split = w ∙ ap (λ x. (q, open') ∷ x) e;
        begins = begins_brackets q dl us (begins_whole inner);
        allowed = λ z. absurd (not_misplaced z);
        mode = has;
        depth = suc d;
        ran = gives_scan inner wants tt;
        here = subst (λ x. FaultAt names whole has (suc d) x (fault Misplaced p)) (sym h.0) (ap (fault Misplaced) h.2, tt);
      }

  barred_here : {ws : List (ℕ × Word)} {p : ℕ} → FaultAt names whole wants d ws (fault Misplaced p) → Fails names atom wants d whole ws (fault Misplaced p)
  barred_here h = no_atom h (λ z. absurd (not_misplaced z))

  pub barred_atom : (p : ℕ) (ws vs : List (ℕ × Word)) (t : Token) → ((s : _) → t ≡ Name s → ⊥) → (t ≡ Nil → ⊥) → (t ≡ Void → ⊥) → (t ≡ Bang → ⊥) → (t ≡ Open → ⊥) → Starts whole t p ws vs → Fails names atom wants d whole ws (fault Misplaced p)
  barred_atom p ws vs (Name s) a i v b o h = absurd (a s refl)
  barred_atom p ws vs Nil a i v b o h = absurd (i refl)
  barred_atom p ws vs Void a i v b o h = absurd (v refl)
  barred_atom p ws vs Open a i v b o h = absurd (o refl)
  barred_atom p ws vs Close a i v b o h = barred_here (subst (λ x. FaultAt names whole wants d x (fault Misplaced p)) (sym h) (refl, barred refl refl))
  barred_atom p ws vs Bar a i v b o h = barred_here (subst (λ x. FaultAt names whole wants d x (fault Misplaced p)) (sym h) (refl, barred refl refl))
  barred_atom p ws vs Star a i v b o h = barred_here (subst (λ x. FaultAt names whole wants d x (fault Misplaced p)) (sym h) (refl, barred refl refl))
  barred_atom p ws vs Bang a i v b o h = absurd (b refl)
  barred_atom p ws vs End a i v b o h = barred_here (subst (λ x. FaultAt names whole wants d x (fault Misplaced p)) (sym h.0) (ap (fault Misplaced) h.2, tt))

  pub too_deep : {ws vs : List (ℕ × Word)} (p : ℕ) → ws ≡ (p, open') ∷ vs → 16 ≤ d → d ≤ 16 → Fails names atom wants d whole ws (fault TooDeep p)
  too_deep p h k j =
      no_atom (subst (λ x. FaultAt names whole wants d x (fault TooDeep p)) (sym h) (refl, deep tt k))
      (λ z. subst (GoesOn atom d []) (sym h) (17, omega arith, begins_brackets p (omega arith) [] (begins_any (by_any_name 17) (suc d))))

  pub unknown_atom : {ws vs : List (ℕ × Word)} (p : ℕ) (x : List ℕ) → ws ≡ (p, name x) ∷ vs → test_named names x ≡ None → Fails names atom wants d whole ws (fault UnknownName p)
  unknown_atom p x h e =
      no_atom (subst (λ y. FaultAt names whole wants d y (fault UnknownName p)) (sym h) (refl, strange x e))
      (λ z. subst (GoesOn atom d []) (sym h) (16, omega arith, ([], node (Leaf 0) 1 ∷ [], named refl)))

-- no known name stands after `!`
turned_on : {names : List (List ℕ)} (d q p : ℕ) {v : Word} {x : Refusal} → Faulty names turns d v x → IsAllowed x → (depth : ℕ) × (16 ≤ depth) × Begins (by_any_name depth) atom d ((q, bang) ∷ (p, v) ∷ [])
turned_on d q p {v} {x} (own e) z = absurd (own_barred v x e z)
turned_on d q p (barred e s) z = absurd (not_misplaced z)
turned_on d q p (deep r k) z = absurd r
turned_on d q p (strange y e) z = (16, omega arith, ([], node (Leaf 0) 1 ∷ [], opposite refl))

turns_on : (names : List (List ℕ)) (whole d q : ℕ) (f : Fault) (ws : List (ℕ × Word)) → FaultAt names whole turns d ws f → IsAllowed f.refusal → GoesOn atom d ((q, bang) ∷ []) ws
turns_on names whole d q f [] h z = tt
turns_on names whole d q f ((p, v) ∷ ws) h z = turned_on d q p h.1 z

pub no_name_lem : {names : List (List ℕ)} {d whole : ℕ} {f : Fault} {all : List (ℕ × Word)} (ws : List (ℕ × Word)) (q : ℕ) (x : List ℕ) (t : ℕ) → test_named names x ≡ Some t → all ≡ (q, bang) ∷ ws → FaultAt names whole turns d ws f → Fails names atom wants d whole all f
no_name_lem {names} {d} {whole} {f} ws q x t known e h =
    record {
      used = (q, bang) ∷ [];
      left = ws;
      split = e;
      begins = ((0, name x) ∷ [], node (Leaf (length names + t)) 1 ∷ [], opposite known);
      allowed = turns_on names whole d q f ws h;
      mode = turns;
      depth = d;
      ran = refl;
      here = h;
    }

-- what looking for the name after `!` meets
module _ (names : List (List ℕ)) (whole d : ℕ) where
  pub spoilt_name : {ws : List (ℕ × Word)} {f : Fault} → Spoilt ws f → FaultAt names whole turns d ws f
  spoilt_name s = spoilt_at names whole turns d s

  pub unknown_name : {ws vs : List (ℕ × Word)} (p : ℕ) (x : List ℕ) → ws ≡ (p, name x) ∷ vs → test_named names x ≡ None → FaultAt names whole turns d ws (fault UnknownName p)
  unknown_name p x h e = subst (λ y. FaultAt names whole turns d y (fault UnknownName p)) (sym h) (refl, strange x e)

  pub barred_name : (p : ℕ) (ws vs : List (ℕ × Word)) (t : Token) → ((s : _) → t ≡ Name s → ⊥) → Starts whole t p ws vs → FaultAt names whole turns d ws (fault Misplaced p)
  barred_name p ws vs (Name s) m h = absurd (m s refl)
  barred_name p ws vs Nil m h = subst (λ x. FaultAt names whole turns d x (fault Misplaced p)) (sym h) (refl, barred refl refl)
  barred_name p ws vs Void m h = subst (λ x. FaultAt names whole turns d x (fault Misplaced p)) (sym h) (refl, barred refl refl)
  barred_name p ws vs Open m h = subst (λ x. FaultAt names whole turns d x (fault Misplaced p)) (sym h) (refl, barred refl refl)
  barred_name p ws vs Close m h = subst (λ x. FaultAt names whole turns d x (fault Misplaced p)) (sym h) (refl, barred refl refl)
  barred_name p ws vs Bar m h = subst (λ x. FaultAt names whole turns d x (fault Misplaced p)) (sym h) (refl, barred refl refl)
  barred_name p ws vs Star m h = subst (λ x. FaultAt names whole turns d x (fault Misplaced p)) (sym h) (refl, barred refl refl)
  barred_name p ws vs Bang m h = subst (λ x. FaultAt names whole turns d x (fault Misplaced p)) (sym h) (refl, barred refl refl)
  barred_name p ws vs End m h = subst (λ x. FaultAt names whole turns d x (fault Misplaced p)) (sym h.0) (ap (fault Misplaced) h.2, tt)

-- an item's first word is allowed after an atom wherever it is allowed before one
abbrev pub Same : Word → Type 0
Same w = (d : ℕ) → step wants d w ≡ step has d w

shift_fault : {names : List (List ℕ)} {d : ℕ} {x : Refusal} {w : Word} → Same w → Faulty names wants d w x → Faulty names has d w x
shift_fault s (own e) = own e
shift_fault {d = d} s (barred e k) = barred e (sym (s d) ∙ k)
shift_fault s (deep r k) = deep tt k
shift_fault s (strange x e) = strange x e

abbrev head_or : List (ℕ × Word) → Word
head_or [] = stray
head_or (w ∷ ws) = w.1

shift : {names : List (List ℕ)} {l : Level} {d whole : ℕ} {f : Fault} {ws vs : List (ℕ × Word)} (q : ℕ) (w : Word) → ws ≡ (q, w) ∷ vs → Same w → Fails names l wants d whole ws f → Fails names l has d whole ws f
shift {names} {l} {d} {whole} {f} {ws} {vs} q w first same h = go h.used h.left h.split h.begins h.allowed h.mode h.depth h.ran h.here
  where
    go : (used left : List (ℕ × Word)) → ws ≡ used ++ left → Begins (by_list names) l d used → (IsAllowed f.refusal → GoesOn l d used left) → (mode : Mode) (depth : ℕ) → scan (Some (wants, d)) used ≡ Some (mode, depth) → FaultAt names whole mode depth left f → Fails names l has d whole ws f
    go [] left e b al mode depth r flt =
        let is = sym e ∙ first in
        let there = subst (λ s. FaultAt names whole s.0 s.1 left f) (sym (ap un_some r)) flt in
        let at = subst (λ x. FaultAt names whole wants d x f) is there in
        record { used = []; left = left; split = e; begins = b; allowed = al; mode = has; depth = d; ran = refl; here = subst (λ x. FaultAt names whole has d x f) (sym is) (at.0, shift_fault same at.1) }
    go (u ∷ us) left e b al mode depth r flt =
        let is : u.1 ≡ w = ap head_or (sym e ∙ first) in
        let steps = ap (step has d) is ∙ sym (same d) ∙ ap (step wants d) (sym is) in
        record { used = u ∷ us; left = left; split = e; begins = b; allowed = al; mode = mode; depth = depth; ran = ap (λ s. scan s us) steps ∙ r; here = flt }

pub in_chain : {names : List (List ℕ)} {d whole : ℕ} {f : Fault} {all rest vs us : List (ℕ × Word)} {ns : List Node} → Gives (by_list names) chain d us ns → all ≡ us ++ rest → (q : ℕ) (w : Word) → rest ≡ (q, w) ∷ vs → Same w → Fails names item wants d whole rest f → Fails names chain wants d whole all f
in_chain {us = us} g e q w first same h = lift us e (gives_scan g wants tt) (begins_longer g) (shift q w first same h)

-- the words that start an item
pub starter : (whole p : ℕ) (ws vs : List (ℕ × Word)) (t : Token) → ((x : Bor (List ℕ)) × (t ≡ Name x)) ⊎ ((t ≡ Nil) ⊎ ((t ≡ Void) ⊎ ((t ≡ Bang) ⊎ (t ≡ Open)))) → Starts whole t p ws vs → (w : Word) × (ws ≡ (p, w) ∷ vs) × Same w
starter whole p ws vs t (inl (x, e)) h = (name x.now, subst (λ u. Starts whole u p ws vs) e h, λ d. refl)
starter whole p ws vs t (inr (inl e)) h = (nil, subst (λ u. Starts whole u p ws vs) e h, λ d. refl)
starter whole p ws vs t (inr (inr (inl e))) h = (void, subst (λ u. Starts whole u p ws vs) e h, λ d. refl)
starter whole p ws vs t (inr (inr (inr (inl e)))) h = (bang, subst (λ u. Starts whole u p ws vs) e h, λ d. refl)
starter whole p ws vs t (inr (inr (inr (inr e)))) h = (open', subst (λ u. Starts whole u p ws vs) e h, λ d. refl)

-- what stands after a whole rule
pub not_ended_lem : {names : List (List ℕ)} {whole : ℕ} {all us : List (ℕ × Word)} {ns : List Node} (rest : List (ℕ × Word)) → Gives (by_list names) choice 0 us ns → all ≡ us ++ rest → Follows choice rest → (t : Token) (p : ℕ) (vs : List (ℕ × Word)) → (t ≡ End → ⊥) → Starts whole t p rest vs → Fails names choice wants 0 whole all (fault Misplaced p)
not_ended_lem rest g e s (Name x) p vs n h = absurd (omega (arith, subst (Follows choice) h s))
not_ended_lem rest g e s Nil p vs n h = absurd (omega (arith, subst (Follows choice) h s))
not_ended_lem rest g e s Void p vs n h = absurd (omega (arith, subst (Follows choice) h s))
not_ended_lem rest g e s Open p vs n h = absurd (omega (arith, subst (Follows choice) h s))
not_ended_lem {names} {whole} {us = us} rest g e s Close p vs n h =
    record {
      used = us;
      left = rest;
      split = e;
      begins = begins_whole g;
      allowed = λ z. absurd (not_misplaced z);
      mode = has;
      depth = 0;
      ran = gives_scan g wants tt;
      here = subst (λ x. FaultAt names whole has 0 x (fault Misplaced p)) (sym h) (refl, barred refl refl);
    }
not_ended_lem rest g e s Bar p vs n h = absurd (omega (arith, subst (Follows choice) h s))
not_ended_lem rest g e s Star p vs n h = absurd (omega (arith, subst (Follows choice) h s))
not_ended_lem rest g e s Bang p vs n h = absurd (omega (arith, subst (Follows choice) h s))
not_ended_lem rest g e s End p vs n h = absurd (n refl)
