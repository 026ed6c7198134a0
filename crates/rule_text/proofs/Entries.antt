-- Entries of a name list: what a name fills, and which entry is found.
use Rattle.std.proofs.Common.{◌≡◌, ℕ, zero, suc, ◌+◌, ◌-◌, ◌*◌, ◌<◌, ◌≤◌, Bool, true, false, cond, eqb, leb, ltb, Decides, List, [], ◌∷◌, length, get_or, take, drop, Some, None, Option, sym, refl, ap, ◌∙◌, subst, codes, inl, inr, ⊎_elim, arith, length-drop, get_or-drop, get_or-take}
use Rattle.std.proofs.lemmas.List.{ext_get_or, get_or_past, length-take-le}
use Rattle.std.proofs.lemmas.Bool.{cases_Bool, cases_lt, cases_order, and_parts, eqb-true, eq-eqb, leb-true, lt-ltb, le-ltb, cond-true, cond-false, false≢true}
use Rattle.std.proofs.lemmas.Bool.Decides.{eqb_tells}
use Rattle.std.specs.List.{position_or_len}
use Rattle.std.proofs.lemmas.List.Sums.{position_or_len_is, fails_before_first}
use Rattle.std.proofs.lemmas.List.Quantifiers.{position-Some}
use Rattle.std.proofs.Math.Logic.{∥∥₁_elim}
use Rattle.std.proofs.Props.{props}
use Rattle.std.specs.Coded.{le_prop}
use Rattle.rule_text.specs.Words.{in_run, front, is_name, letter}
use Rattle.rule_text.specs.Names.{up_to, is_entry, test_named, Fills, AllZero, GoodNames, NamesFault, bad_length, bad_entry}
use Rattle.rule_text.proofs.Lexing.{front_is, take_front}

-- every number below passes
up_to_lem : (f : ℕ → Bool) (n i : ℕ) → up_to n f ≡ true → i < n → f i ≡ true
up_to_lem f zero i e h = absurd (omega arith)
up_to_lem f (suc n) i e h =
    let a = and_parts (f n) (up_to n f) e in
    elim (eqb_tells i n) [ inl d ↦ rw d.1 a.0 | inr d ↦ up_to_lem f n i a.1 (omega arith) ]

all_pass : (f : ℕ → Bool) (n : ℕ) → ((i : ℕ) → i < n → f i ≡ true) → up_to n f ≡ true
all_pass f zero h = refl
all_pass f (suc n) h = rw (h n (omega arith), all_pass f n (λ i k. h i (omega arith)))

-- an entry that a name fills, byte by byte
pub entry_byte : (e x : List ℕ) → is_entry e x ≡ true → (k : ℕ) → k < 16 → get_or e k 0 ≡ get_or x k 0
unfolding is_entry
entry_byte e x h k l = eqb-true (get_or e k 0) (get_or x k 0) (up_to_lem (λ k. eqb (get_or e k 0) (get_or x k 0)) 16 k h l)

pub entry_from : (e x : List ℕ) → ((k : ℕ) → k < 16 → get_or e k 0 ≡ get_or x k 0) → is_entry e x ≡ true
unfolding is_entry
entry_from e x h = all_pass (λ k. eqb (get_or e k 0) (get_or x k 0)) 16 (λ k l. eq-eqb (get_or e k 0) (get_or x k 0) (h k l))

-- an entry that has each byte of the name, or has not
pub entry_decided : (e x : List ℕ) (b : Bool) → length e ≡ 16 → Decides b ((k : ℕ) → k < length e → get_or e k 0 ≡ get_or x k 0) → b ≡ is_entry e x
entry_decided e x true n d = sym (entry_from e x (λ k l. d.0 refl k (omega arith)))
entry_decided e x false n d = sym (⊎_elim (λ t. absurd (false≢true (d.1 (λ k l. entry_byte e x t k (omega arith))))) (λ h. h) (cases_Bool (is_entry e x)))

-- the first entry that is the name
pub found_first : (names : List (List ℕ)) (x : List ℕ) (t : ℕ) → t < length names → ((k : ℕ) → k < t → is_entry (get_or names k []) x ≡ false) → is_entry (get_or names t []) x ≡ true → test_named names x ≡ Some t
found_first names x t h none e =
    ap (λ k. cond (ltb k (length names)) (Some k) None) (position_or_len_is (λ n. is_entry n x) names t [] (omega arith) none (λ _. e)) ∙ cond-true _ _ _ (lt-ltb t (length names) h)

not_found : (names : List (List ℕ)) (x : List ℕ) → ((k : ℕ) → k < length names → is_entry (get_or names k []) x ≡ false) → test_named names x ≡ None
not_found names x none =
    ap (λ k. cond (ltb k (length names)) (Some k) None) (position_or_len_is (λ n. is_entry n x) names (length names) [] (omega arith) none (λ h. absurd (omega arith))) ∙ cond-false _ _ _ (le-ltb (length names) (length names) (omega arith))

none_found : (names : List (List ℕ)) (x : List ℕ) → test_named names x ≡ None → (k : ℕ) → k < length names → is_entry (get_or names k []) x ≡ false
none_found names x e k h = elim (cases_lt (position_or_len (λ n. is_entry n x) names) (length names)) [
  | inl lt ↦ absurd (false≢true (ap is_none (sym (cond-true _ _ _ (lt-ltb _ _ lt)) ∙ e)))
  | inr ge ↦ fails_before_first (λ n. is_entry n x) names k [] (omega arith)
]
  where
    is_none : Option ℕ → Bool
    is_none None = true
    is_none (Some t) = false

pub some_found : (names : List (List ℕ)) (x : List ℕ) (t : ℕ) → test_named names x ≡ Some t → t < length names
some_found names x t e = (position-Some (λ n. is_entry n x) names t [] e).0

-- a test's name has at most 16 bytes
name_short : (x : List ℕ) → is_name x ≡ true → length x ≤ 16
name_short [] e = omega arith
name_short (b ∷ bs) e = leb-true (length (b ∷ bs)) 16 (and_parts (letter b) (leb (length (b ∷ bs)) 16) e).1

-- the bytes of a run
abbrev pub tail : List ℕ → List ℕ
tail [] = []
tail (b ∷ bs) = bs

pub run_first : (b : ℕ) (bs : List ℕ) → front (b ∷ bs) ≡ b ∷ bs → in_run b ≡ true
run_first b bs e = ⊎_elim (λ h. h) (λ h. absurd (omega (arith, ap length (sym (cond-false (in_run b) (b ∷ front bs) [] h) ∙ e)))) (cases_Bool (in_run b))

run_bytes : (x : List ℕ) → front x ≡ x → (k : ℕ) → k < length x → in_run (get_or x k 0) ≡ true
run_bytes [] e k h = absurd (omega arith)
run_bytes (b ∷ bs) e zero h = run_first b bs e
run_bytes (b ∷ bs) e (suc k) h = run_bytes bs (ap tail (sym (cond-true (in_run b) (b ∷ front bs) [] (run_first b bs e)) ∙ e)) k (omega arith)

pub front_run : (x : List ℕ) → front (front x) ≡ front x
front_run [] = refl
front_run (b ∷ bs) = ⊎_elim
    (λ h. let f = cond-true (in_run b) (b ∷ front bs) [] h in ap front f ∙ cond-true (in_run b) (b ∷ front (front bs)) [] h ∙ ap (λ (l : List ℕ). b ∷ l) (front_run bs) ∙ sym f)
    (λ h. let f = cond-false (in_run b) (b ∷ front bs) [] h in ap front f ∙ sym f)
    (cases_Bool (in_run b))

-- an entry and the run that it starts with
module _ (e : List ℕ) (sixteen : length e ≡ 16) where
  pub run_fills : AllZero (drop (length (front e)) e) → is_entry e (front e) ≡ true
  run_fills zeros =
      let n = length (front e) in
      let same = take_front e in
      entry_from e (front e) (λ k l. elim (cases_lt k n) [
        | inl lt ↦ sym (ap (λ x. get_or x k 0) (sym same) ∙ get_or-take n e k 0 lt)
        | inr ge ↦
            (let d : n + (k - n) ≡ k = omega arith in
            ap (λ (j : ℕ). get_or e j 0) (sym d) ∙ sym (get_or-drop n e (k - n) 0) ∙ zeros (k - n) (omega (arith, length-drop n e))
            ∙ sym (get_or_past (front e) k 0 ge))
      ])

  module _ (x : List ℕ) (f : Fills e x) where
    short : length x ≤ 16
    short = name_short x (and_parts (is_name x) _ f.is_test).0

    pub fills_run : front e ≡ x
    fills_run =
        let few : length x ≤ length e = omega (arith, short) in
        sym (front_is e (length x) few
        (λ k l. ap in_run (entry_byte e x f.filled k (omega (arith, short))) ∙ run_bytes x f.is_run k l)
        (λ l. ap in_run (entry_byte e x f.filled (length x) (omega arith) ∙ get_or_past x (length x) 0 (omega arith))))
        ∙ ext_get_or 0 (take (length x) e) x (length-take-le (length x) e few)
        (λ k l. get_or-take (length x) e k 0 (omega (arith, length-take-le (length x) e few)) ∙ entry_byte e x f.filled k (omega (arith, short, length-take-le (length x) e few)))

    pub fills_zero : AllZero (drop (length (front e)) e)
    fills_zero k l =
        let n = length (front e) in
        let long : length x ≡ n = ap length (sym fills_run) in
        get_or-drop n e k 0 ∙ entry_byte e x f.filled (n + k) (omega (arith, length-drop n e)) ∙ get_or_past x (n + k) 0 (omega arith)

-- a name that none of the first i entries has
module _ (names : List (List ℕ)) (x : List ℕ) (i : ℕ) (within : i ≤ length names) where
  first : (j : ℕ) → j < i → get_or (take (i - 0) names) j [] ≡ get_or names j []
  first j h = get_or-take (i - 0) names j [] (omega arith)

  pub new_from : test_named (take (i - 0) names) x ≡ None → (j : ℕ) → j < i → is_entry (get_or names j []) x ≡ false
  new_from e j h = ap (λ (n : List ℕ). is_entry n x) (sym (first j h)) ∙ none_found (take (i - 0) names) x e j (omega (arith, length-take-le (i - 0) names (omega arith)))

  pub new_none : ((j : ℕ) → j < i → is_entry (get_or names j []) x ≡ false) → test_named (take (i - 0) names) x ≡ None
  new_none h = not_found (take (i - 0) names) x (λ k l.
      let j : k < i = omega (arith, length-take-le (i - 0) names (omega arith)) in
      ap (λ (n : List ℕ). is_entry n x) (first k j) ∙ h k j)

-- a good name list has at most 128 names, `any` among them
pub few_names : {names : List (List ℕ)} → ∥ GoodNames names ∥₁ → length names ≤ 128
few_names g = ∥∥₁_elim g le_prop (λ h. h.few)

pub any_known : (names : List (List ℕ)) → ∥ GoodNames names ∥₁ → test_named names (codes "any") ≡ Some 0
any_known names g = ∥∥₁_elim g (Prim.hlevel props) (λ h.
    let e = h.entries 0 h.some in
    found_first names (codes "any") 0 h.some (λ k l. absurd (omega arith)) (subst (λ x. is_entry (get_or names 0 []) x ≡ true) (e.first refl) e.fills.filled))

-- a good name list has no fault, and another has one place for it
pub not_both : {names : List (List ℕ)} {p : ℕ} → GoodNames names → NamesFault names p → ⊥
not_both g (bad_length (inl e)) = omega (arith, g.some)
not_both g (bad_length (inr h)) = omega (arith, g.few)
not_both g (bad_entry i few h before n) = n (g.entries i h)

pub one_place : {names : List (List ℕ)} {p q : ℕ} → NamesFault names p → NamesFault names q → p ≡ q
one_place (bad_length e) (bad_length h) = refl
one_place (bad_length (inl e)) (bad_entry i few h before n) = absurd (omega arith)
one_place (bad_length (inr e)) (bad_entry i few h before n) = absurd (omega arith)
one_place (bad_entry i few h before n) (bad_length (inl e)) = absurd (omega arith)
one_place (bad_entry i few h before n) (bad_length (inr e)) = absurd (omega arith)
one_place (bad_entry i few h before n) (bad_entry j few' k before' n') =
    ⊎_elim
    (λ e. ap (λ (x : ℕ). x * 16) e)
    (λ s. ⊎_elim (λ l. absurd (n (before' i l))) (λ l. absurd (n' (before j l))) s)
    (cases_order i j)
