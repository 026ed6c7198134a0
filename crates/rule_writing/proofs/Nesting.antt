-- How deep the brackets of a written text stand.
use Rattle.std.proofs.Common.{◌≡◌, ℕ, suc, ◌+◌, ◌-◌, ◌≤◌, max, Bool, true, false, cond, eqb, ltb, List, [], ◌∷◌, ◌++◌, length, get_or, codes, sym, refl, ap, ◌∙◌, ⊎_elim, append_assoc, append-nil, arith}
use Rattle.std.proofs.lemmas.Bool.{cases_Bool, cond-true, cond-false}
use Rattle.std.proofs.lemmas.Bool.Decides.{nat_tests}
use Rattle.rules.specs.declared.node.Join.{Join as Joining}
use Rattle.rules.specs.declared.node.Join.TheVariants.{Chain, Choice}
use Rattle.rules.specs.declared.node.Node.{Node}
use Rattle.rule_text.specs.Words.{in_run, front}
use Rattle.rule_writing.specs.declared.place.Place.{Place}
use Rattle.rule_writing.specs.Texts.{name_at, between, needs_brackets, in_brackets, Writes, named, opposite, is_nil, is_void, starred, joined, nesting}
use Rattle.rule_writing.specs.Parts.{Deep, leaf_text, height_in}

-- one byte that is no bracket, one that opens and one that closes
past_plain : (d b : ℕ) (bs : List ℕ) → eqb b 40 ≡ false → eqb b 41 ≡ false → nesting d (b ∷ bs) ≡ nesting d bs
past_plain d b bs e f = cond-false (eqb b 40) _ _ e ∙ cond-false (eqb b 41) _ _ f

pub at_least : (d : ℕ) (bs : List ℕ) → d ≤ nesting d bs
at_least d [] = omega arith
at_least d (b ∷ bs) = go (eqb b 40) (eqb b 41) (at_least (suc d) bs) (at_least d bs)
  where
    go : (o c : Bool) → suc d ≤ nesting (suc d) bs → d ≤ nesting d bs → d ≤ cond o (nesting (suc d) bs) (cond c (max d (nesting (d - 1) bs)) (nesting d bs))
    go true c h k = omega arith
    go false true h k = omega arith
    go false false h k = k

-- a text without brackets
plain_deep : (text : List ℕ) → ((d : ℕ) (after : List ℕ) → nesting d (text ++ after) ≡ nesting d after) → Deep text 0
plain_deep text h d after = h d after ∙ (let k = at_least d after in omega arith)

run_plain : (x : List ℕ) (d : ℕ) (after : List ℕ) → nesting d (front x ++ after) ≡ nesting d after
run_plain [] d after = refl
run_plain (b ∷ bs) d after = ⊎_elim
    (λ r.
    let open40 : eqb b 40 ≡ false = grind (arith, nat_tests) in
    let close41 : eqb b 41 ≡ false = grind (arith, nat_tests) in
    ap (λ (x : List ℕ). nesting d (x ++ after)) (cond-true (in_run b) (b ∷ front bs) [] r) ∙ past_plain d b (front bs ++ after) open40 close41 ∙ run_plain bs d after)
    (λ r. ap (λ (x : List ℕ). nesting d (x ++ after)) (cond-false (in_run b) (b ∷ front bs) [] r))
    (cases_Bool (in_run b))

pub append_deep : (u v : List ℕ) (h k : ℕ) → Deep u h → Deep v k → Deep (u ++ v) (max h k)
append_deep u v h k f g d after = ap (nesting d) (append_assoc u v after) ∙ f d (v ++ after) ∙ (let e = g d after in omega arith)

pub void_deep : Deep (codes "void") 0
void_deep = plain_deep (codes "void") (λ d after. refl)

pub nil_deep : Deep (codes "nil") 0
nil_deep = plain_deep (codes "nil") (λ d after. refl)

pub name_deep : (names : List (List ℕ)) (t : ℕ) → Deep (name_at names t) 0
name_deep names t = plain_deep (name_at names t) (run_plain (get_or names t []))

bang_deep : (names : List (List ℕ)) (t : ℕ) → Deep (codes "!" ++ name_at names t) 0
bang_deep names t = plain_deep (codes "!" ++ name_at names t) (run_plain (get_or names t []))

pub leaf_deep : (names : List (List ℕ)) (t : ℕ) → Deep (leaf_text names t) 0
leaf_deep names t = go (ltb t (length names))
  where
    go : (b : Bool) → Deep (cond b (name_at names t) (codes "!" ++ name_at names (t - length names))) 0
    go true = name_deep names t
    go false = bang_deep names (t - length names)

pub star_deep : (u : List ℕ) (h : ℕ) → Deep u h → Deep (u ++ codes "*") h
star_deep u h f d after = ap (nesting d) (append_assoc u (codes "*") after) ∙ f d (codes "*" ++ after)

between_deep : (j : Joining) → Deep (between j) 0
between_deep Chain = plain_deep (between Chain) (λ d after. refl)
between_deep Choice = plain_deep (between Choice) (λ d after. refl)

brackets_deep : (b : Bool) (u : List ℕ) (h : ℕ) → Deep u h → Deep (in_brackets b u) (height_in b h)
brackets_deep true u h f d after =
    let back : suc d - 1 ≡ d = omega arith in
    ap (nesting (suc d)) (append_assoc u (codes ")") after) ∙ f (suc d) (codes ")" ++ after) ∙ ap (λ (k : ℕ). max (suc d + h) (max (suc d) (nesting k after))) back ∙ (let k = at_least d after in omega arith)
brackets_deep false u h f d after = f d after

-- a chain or a choice
pub join_deep : (b : Bool) (j : Joining) (u v : List ℕ) (h k : ℕ) → Deep u h → Deep v k → Deep (in_brackets b (u ++ (between j ++ v))) (height_in b (max h k))
join_deep b j u v h k f g =
    let e : max h (max 0 k) ≡ max h k = omega arith in
    brackets_deep b (u ++ (between j ++ v)) (max h k) (rw e at (append_deep u (between j ++ v) h (max 0 k) f (append_deep (between j) v 0 k (between_deep j) g)))

-- how deep the brackets of a text stand, where it stands in none
pub depth_is : (text : List ℕ) (h : ℕ) → Deep text h → nesting 0 text ≡ h
depth_is text h f = ap (nesting 0) (sym (append-nil text)) ∙ f 0 [] ∙ (omega arith)

abbrev pub height : {names : List (List ℕ)} {place : Place} {ns : List Node} {text : List ℕ} → Writes names place ns text → ℕ
height (named h) = 0
height (opposite h) = 0
height is_nil = 0
height is_void = 0
height (starred w) = height w
height {place = place} (joined {j = j} w v) = height_in (needs_brackets place j) (max (height w) (height v))

pub deep : {names : List (List ℕ)} {place : Place} {ns : List Node} {text : List ℕ} (w : Writes names place ns text) → Deep text (height w)
deep {names} (named {t = t} h) = name_deep names t
deep {names} (opposite {t = t} h) = bang_deep names t
deep is_nil = nil_deep
deep is_void = void_deep
deep (starred {text = text} w) = star_deep text (height w) (deep w)
deep {place = place} (joined {j = j} {left = left} {right = right} w v) = join_deep (needs_brackets place j) j left right (height w) (height v) (deep w) (deep v)
