-- What the first byte, or the first run, of a text leaves of its words.
use Rattle.std.proofs.Common.{◌≡◌, ℕ, zero, suc, ◌+◌, ◌-◌, ◌<◌, ◌≤◌, true, false, cond, List, [], ◌∷◌, length, get_or, take, drop, Some, sym, refl, ap, ◌∙◌, ⊎_elim, arith, length-drop, length-take}
use Rattle.std.proofs.lemmas.Bool.{cond-true, cond-false, cases_Bool}
use Rattle.std.proofs.lemmas.List.Folds.{length-prefix_len}
use Rattle.std.proofs.lemmas.List.Sums.{take_while-cons}
use Rattle.std.specs.List.{take_while}
use Rattle.rule_text.specs.Words.{Word, name, run_word, in_run, front, words}
use Rattle.rule_text.specs.Lexing.{words_of, Starts, Shorter, IsRunWord}
use Rattle.rule_text.specs.declared.words.Word.{Word as Token}
use Rattle.rule_text.specs.declared.words.Word.TheVariants.{Name, Nil, Void, Open, Close, Bar, Star, Bang, End}

pub front_is : (xs : List ℕ) (n : ℕ) → n ≤ length xs → ((k : ℕ) → k < n → in_run (get_or xs k 0) ≡ true) → (n < length xs → in_run (get_or xs n 0) ≡ false) → take n xs ≡ front xs
front_is [] zero h all stop = refl
front_is [] (suc n) h all stop = absurd (omega arith)
front_is (x ∷ xs) zero h all stop = sym (cond-false (in_run x) (x ∷ front xs) [] (stop (omega arith)))
front_is (x ∷ xs) (suc n) h all stop =
    ap (λ l. x ∷ l) (front_is xs n (omega arith) (λ k lt. all (suc k) (omega arith)) (λ lt. stop (omega arith)))
    ∙ sym (cond-true (in_run x) (x ∷ front xs) [] (all 0 (omega arith)))

-- the bytes from the front on that are in runs are the first run
pub take_while_front : (xs : List ℕ) → take_while in_run xs ≡ front xs
take_while_front [] = refl
take_while_front (x ∷ xs) = take_while-cons in_run x xs ∙ ap (λ l. cond (in_run x) (x ∷ l) []) (take_while_front xs)

pub take_front : (xs : List ℕ) → take (length (front xs)) xs ≡ front xs
take_front xs = ap (λ l. take (length l) xs) (sym (take_while_front xs)) ∙ ap (λ k. take k xs) (length-prefix_len in_run xs) ∙ take_while_front xs

pub front_le : (xs : List ℕ) → length (front xs) ≤ length xs
front_le xs = omega (arith, ap length (take_front xs), length-take (length (front xs)) xs)

-- the words after a run
pub inside : (p : ℕ) (bs : List ℕ) → words p true bs ≡ words (p + length (front bs)) false (drop (length (front bs)) bs)
inside p [] = refl
inside p (b ∷ bs) =
    ⊎_elim
    (λ e.
    let f = cond-true (in_run b) (b ∷ front bs) [] e in
    let here : p + 1 + length (front bs) ≡ p + length (b ∷ front bs) = omega arith in
    cond-true (in_run b) _ _ e ∙ inside (p + 1) bs ∙ ap (λ k. words k false (drop (length (front bs)) bs)) here
    ∙ ap (λ l. words (p + length l) false (drop (length l) (b ∷ bs))) (sym f))
    (λ e.
    let f = cond-false (in_run b) (b ∷ front bs) [] e in
    let here : p ≡ p + 0 = omega arith in
    cond-false (in_run b) _ _ e ∙ sym (cond-false (in_run b) _ _ e) ∙ ap (λ k. words k false (b ∷ bs)) here
    ∙ ap (λ l. words (p + length l) false (drop (length l) (b ∷ bs))) (sym f))
    (cases_Bool (in_run b))

pub run_step : (whole : ℕ) (text xs : List ℕ) → length xs ≤ whole → words_of whole xs ≡ words_of whole text → 0 < length xs → in_run (get_or xs 0 0) ≡ true → words_of whole text ≡ (whole - length xs, run_word (front xs)) ∷ words_of whole (drop (length (front xs)) xs)
run_step whole text [] h same k r = absurd (omega arith)
run_step whole text (b ∷ bs) h same k r =
    let f : front (b ∷ bs) ≡ b ∷ front bs = cond-true (in_run b) (b ∷ front bs) [] r in
    let fit = front_le bs in
    let here : whole - length (b ∷ bs) + 1 + length (front bs) ≡ whole - length (drop (length (front bs)) bs) = omega (arith, length-drop (length (front bs)) bs) in
    sym same ∙ cond-true (in_run b) _ _ r
    ∙ ap (λ l. (whole - length (b ∷ bs), run_word (front (b ∷ bs))) ∷ l) (inside _ bs ∙ ap (λ k. words k false (drop (length (front bs)) bs)) here ∙ ap (λ l. words_of whole (drop (length l) (b ∷ bs))) (sym f))

pub no_run : (xs : List ℕ) → 0 < length xs → length (front xs) ≡ 0 → in_run (get_or xs 0 0) ≡ false
no_run [] k e = absurd (omega arith)
no_run (b ∷ bs) k e =
    ⊎_elim
    (λ t. absurd (omega (arith, ap length (cond-true (in_run b) (b ∷ front bs) [] t))))
    (λ t. t)
    (cases_Bool (in_run b))

pub first_of : (xs ys : List ℕ) (n : ℕ) → ys ≡ front xs → 0 < length ys → in_run (get_or xs 0 0) ≡ true
first_of [] ys n e k = absurd (omega (arith, ap length e))
first_of (b ∷ bs) ys n e k =
    ⊎_elim
    (λ t. t)
    (λ t. absurd (omega (arith, ap length e, ap length (cond-false (in_run b) (b ∷ front bs) [] t))))
    (cases_Bool (in_run b))

-- a run that is a word is the first of the words
pub run_starts : (whole p m n : ℕ) (r : List ℕ) (ws vs : List (ℕ × Word)) (t : Token) → IsRunWord r (Some t) → ws ≡ (p, run_word r) ∷ vs → m < n → Starts whole t p ws vs × Shorter t m n
run_starts whole p m n r ws vs (Name s) h e lt = (e ∙ ap (λ (w : Word). (p, w) ∷ vs) h.0 ∙ ap (λ (x : List ℕ). (p, name x) ∷ vs) (sym h.1), lt)
run_starts whole p m n r ws vs Nil h e lt = (e ∙ ap (λ (w : Word). (p, w) ∷ vs) h, lt)
run_starts whole p m n r ws vs Void h e lt = (e ∙ ap (λ (w : Word). (p, w) ∷ vs) h, lt)
run_starts whole p m n r ws vs Open h e lt = absurd h
run_starts whole p m n r ws vs Close h e lt = absurd h
run_starts whole p m n r ws vs Bar h e lt = absurd h
run_starts whole p m n r ws vs Star h e lt = absurd h
run_starts whole p m n r ws vs Bang h e lt = absurd h
run_starts whole p m n r ws vs End h e lt = absurd h
