-- Writing has one answer.
use Rattle.std.proofs.Common.{◌≡◌, ℕ, ◌+◌, ◌-◌, ◌*◌, ◌≤◌, false, List, [], ◌∷◌, ◌++◌, length, drop, Some, Ok, Err, sym, refl, ap, ◌∙◌, subst, ap₂, ⊎_elim, arith, length-append}
use Rattle.std.proofs.lemmas.List.{get_or_append_left, get_or-append_right}
use Rattle.std.proofs.lemmas.Bool.{both_ways, cases_lt, cases_order, lt-leb}
use Rattle.refusals.specs.declared.Fault.{Fault}
use Rattle.refusals.specs.declared.Refusal.TheVariants.{BadNames, UnknownName}
use Rattle.rules.specs.declared.node.Node.{Node}
use Rattle.rules.specs.declared.node.Shape.{Shape}
use Rattle.rules.specs.declared.node.Shape.TheVariants.{Join, Repeat}
use Rattle.rules.specs.Nodes.{FirstTest, node, no_node, shape_at, test_from}
use Rattle.rule_text.specs.Faults.{fault}
use Rattle.rule_text.proofs.Entries.{not_both, one_place}
use Rattle.rule_writing.specs.declared.place.Place.{Place}
use Rattle.rule_writing.specs.Texts.{Writes, named, opposite, is_nil, is_void, starred, joined, IsText, nesting}
use Rattle.rule_writing.specs.Parts.{AllNamed}
use Rattle.rule_writing.specs.Writing.{Writable, Unfit, deep, long, no_room, Unwritten, bad_names, unnamed, unfit, OneAnswer}
use Rattle.rule_writing.proofs.Shown.{written_once}

-- each test of two lists has a name, and of a list with a parent over it
append_named : (names : List (List ℕ)) (ls rs : List Node) → AllNamed names ls → AllNamed names rs → AllNamed names (ls ++ rs)
append_named names ls rs f g i h = ⊎_elim
    (λ k. subst (λ (n : Node). test_from (2 * length names) n.shape ≡ false) (sym (get_or_append_left ls rs no_node i k)) (f i k))
    (λ k. subst (λ (n : Node). test_from (2 * length names) n.shape ≡ false) (sym (get_or-append_right ls rs (length ls) i no_node refl k)) (g (i - length ls) (omega (arith, length-append ls rs))))
    (cases_lt i (length ls))

one_named : (names : List (List ℕ)) (x : Shape) (s : ℕ) → test_from (2 * length names) x ≡ false → AllNamed names (node x s ∷ [])
one_named names x s h i k =
    let z : i ≡ 0 = omega arith in
    subst (λ (j : ℕ). test_from (2 * length names) (shape_at (node x s ∷ []) j) ≡ false) (sym z) h

-- what is written has names for its tests
all_named : {names : List (List ℕ)} {place : Place} {ns : List Node} {text : List ℕ} → Writes names place ns text → AllNamed names ns
all_named {names} (named {t = t} h) = one_named names _ 1 (lt-leb (2 * length names) t (omega arith))
all_named {names} (opposite {t = t} h) = one_named names _ 1 (lt-leb (2 * length names) (length names + t) (omega arith))
all_named {names} is_nil = one_named names _ 1 refl
all_named {names} is_void = one_named names _ 1 refl
all_named {names} (starred {ns = ns} w) = append_named names ns _ (all_named w) (one_named names Repeat _ refl)
all_named {names} (joined {ls = ls} {rs = rs} w v) = append_named names (ls ++ rs) _ (append_named names ls rs (all_named w) (all_named v)) (one_named names (Join _) _ refl)

not_unnamed : {names : List (List ℕ)} {ns : List Node} {text : List ℕ} {i : ℕ} → IsText names ns text → FirstTest (2 * length names) ns (Some i) → ⊥
not_unnamed {names} {ns} {i = i} w u = both_ways (test_from (2 * length names) (shape_at ns i)) (all_named w i u.0) u.1

one_unnamed : (bound : ℕ) (ns : List Node) (i k : ℕ) → FirstTest bound ns (Some i) → FirstTest bound ns (Some k) → i ≡ k
one_unnamed bound ns i k u v = ⊎_elim (λ e. e) (⊎_elim (λ l. absurd (both_ways (test_from bound (shape_at ns i)) (v.2 i l) u.1)) (λ l. absurd (both_ways (test_from bound (shape_at ns k)) (u.2 k l) v.1))) (cases_order i k)

one_unfit : {bytes depth room : ℕ} {f g : Fault} → Unfit bytes depth room f → Unfit bytes depth room g → f ≡ g
one_unfit (deep h e) (deep k d) = e ∙ sym d
one_unfit (deep h e) (long k l d) = absurd (omega arith)
one_unfit (deep h e) (no_room k l m d) = absurd (omega arith)
one_unfit (long h i e) (deep k d) = absurd (omega arith)
one_unfit (long h i e) (long k l d) = e ∙ sym d
one_unfit (long h i e) (no_room k l m d) = absurd (omega arith)
one_unfit (no_room h i j e) (deep k d) = absurd (omega arith)
one_unfit (no_room h i j e) (long k l d) = absurd (omega arith)
one_unfit (no_room h i j e) (no_room k l m d) = e ∙ sym d

fits_not : {bytes depth room : ℕ} {f : Fault} → depth ≤ 16 → bytes ≤ 4096 → bytes ≤ room → Unfit bytes depth room f → ⊥
fits_not a b c (deep h e) = omega arith
fits_not a b c (long h i e) = omega arith
fits_not a b c (no_room h i j e) = omega arith

one_refusal : {names : List (List ℕ)} {ns : List Node} {room : ℕ} {f g : Fault} → Unwritten names ns room f → Unwritten names ns room g → f ≡ g
one_refusal (bad_names h) (bad_names k) = ap (fault BadNames) (one_place h k)
one_refusal (bad_names h) (unnamed k u) = absurd (not_both k h)
one_refusal (bad_names h) (unfit text k w u) = absurd (not_both k h)
one_refusal (unnamed h u) (bad_names k) = absurd (not_both h k)
one_refusal {names} {ns} (unnamed {i = i} h u) (unnamed {i = j} k v) = ap (fault UnknownName) (one_unnamed (2 * length names) ns i j u v)
one_refusal (unnamed h u) (unfit text k w v) = absurd (not_unnamed w u)
one_refusal (unfit text h w u) (bad_names k) = absurd (not_both h k)
one_refusal (unfit text h w u) (unnamed k v) = absurd (not_unnamed w v)
one_refusal {room = room} {f} {g} (unfit text h w u) (unfit text' k w' v) = one_unfit u (subst (λ (t : List ℕ). Unfit (length t) (nesting 0 t) room g) (sym (written_once w w')) v)

not_refused : {names : List (List ℕ)} {ns : List Node} {room : ℕ} {f : Fault} {text : List ℕ} → Writable names ns text → length text ≤ room → Unwritten names ns room f → ⊥
not_refused t l (bad_names h) = not_both t.good h
not_refused t l (unnamed h u) = not_unnamed t.is_text u
not_refused {room = room} {f} {text} t l (unfit text' h w u) = fits_not t.shallow t.short l (subst (λ (x : List ℕ). Unfit (length x) (nesting 0 x) room f) (written_once w t.is_text) u)

pub one_answer : OneAnswer
one_answer names ns before after after' (Ok k) (Ok k') (text, t, n, l, e) (text', t', n', l', e') =
    let same = written_once t.is_text t'.is_text in
    let len : k ≡ k' = n ∙ ap length same ∙ sym n' in
    (ap Ok len, e ∙ ap₂ (λ (x : List ℕ) (i : ℕ). x ++ drop i before) same len ∙ sym e')
one_answer names ns before after after' (Ok k) (Err f) (text, t, n, l, e) (e', u) = absurd (not_refused t l u)
one_answer names ns before after after' (Err f) (Ok k) (e', u) (text, t, n, l, e) = absurd (not_refused t l u)
one_answer names ns before after after' (Err f) (Err g) (e, u) (e', v) = (ap Err (one_refusal u v), e ∙ sym e')
