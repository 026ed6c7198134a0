-- Bits of words, and so of sets: what putting one in, and putting all of another set in, does to each.
use Rattle.std.proofs.Common.{◌≡◌, ℕ, ◌+◌, ◌-◌, ◌*◌, ◌/◌, ◌%◌, ◌^◌, ◌<◌, ◌≤◌, min, max, true, false, ◌||◌, ◌&&◌, ◌==◌, nat_eq, nat_lt, List, length, get_or, set, Some, None, bit_or, bit_and, sym, refl, ap, ◌∙◌, inl, inr, arith, zero, suc, add-one}
use Rattle.std.proofs.Math.Bool.{or_comm}
use Rattle.std.specs.Int.{bit_at}
use Rattle.std.proofs.lemmas.Nat.Bits.{bit_at_or, bit_at_and, bit_at_above, bit_at-zero, bit_at-lt, bit_at-pow_same, bit_at-pow_other}
use Rattle.std.proofs.lemmas.List.{get_or-set_same, get_or-set_other, get_or_past}
use Rattle.std.proofs.lemmas.Bool.{cases_lt, lt-ltb, true≢false}
use Rattle.std.proofs.lemmas.Bool.Decides.{eqb_tells, nat_tests}
use Rattle.std.proofs.Math.Nat.{div-div-eq-div-mul}
use Rattle.std.proofs.lemmas.Nat.{pow-add, one_shl}
use Rattle.lockstep.specs.Sets.{has, count_below, Meet, Apart, IsNextFrom, IsLowest}

-- bits are 0 or 1, so the larger of two is 1 where either is
either : (x y : ℕ) → x < 2 → y < 2 → (max x y == 1) ≡ (x == 1 || y == 1)
either x y a b = grind (arith, nat_tests)

pub bit_both : (v w j : ℕ) → (bit_at (bit_or v w) j == 1) ≡ (bit_at v j == 1 || bit_at w j == 1)
bit_both v w j = rw bit_at_or (either (bit_at v j) (bit_at w j) (bit_at-lt v j) (bit_at-lt w j))

bit_one : (k j : ℕ) → (bit_at (2 ^ k) j == 1) ≡ nat_eq j k
bit_one k j = elim (eqb_tells j k) [
  | inl e ↦ rw (e.0, e.1, bit_at-pow_same k) refl
  | inr e ↦ rw (e.0, bit_at-pow_other k j e.1) refl
]

module _ (ws : List ℕ) (n m : ℕ) (room : n / 64 < length ws) where
  -- once number n is put in, m is there where it is n or was there
  pub put_one : has (set ws (n / 64) (bit_or (get_or ws (n / 64) 0) (2 ^ (n % 64)))) m ≡ (nat_eq m n || has ws m)
  put_one = elim (eqb_tells (m / 64) (n / 64)) [
    | inl e ↦ (
        let same : nat_eq (m % 64) (n % 64) ≡ nat_eq m n = grind (arith, nat_tests, e.1) in
        rw (e.1, get_or-set_same ws (n / 64) (bit_or (get_or ws (n / 64) 0) (2 ^ (n % 64))) 0 room, bit_both (get_or ws (n / 64) 0) (2 ^ (n % 64)) (m % 64), bit_one (n % 64) (m % 64), same) (or_comm (bit_at (get_or ws (n / 64) 0) (m % 64) == 1) (nat_eq m n))
        )
    | inr e ↦ (
        let other : nat_eq m n ≡ false = grind (arith, nat_tests, e.1) in
        rw (other, get_or-set_other ws (n / 64) (m / 64) (bit_or (get_or ws (n / 64) 0) (2 ^ (n % 64))) 0 e.1) refl
        )
  ]

-- the same, as a word is shifted
pub put_one_shifted : (ws : List ℕ) (n m : ℕ) → length ws ≡ 9 → n < 576 → has (set ws (n / 64) (bit_or (get_or ws (n / 64) 0) (1 * 2 ^ (n % 64) % 2 ^ 64))) m ≡ ((nat_lt n 576 && nat_eq m n) || has ws m)
put_one_shifted ws n m l h = rw (one_shl (n % 64) 64 (omega arith), lt-ltb n 576 h) (put_one ws n m (omega arith))

-- once all of the words are of both sets, so are their numbers
pub put_all : (us vs ws : List ℕ) (m : ℕ) → ((k : ℕ) → k < 9 → get_or ws k 0 ≡ bit_or (get_or us k 0) (get_or vs k 0)) → length us ≡ 9 → length vs ≡ 9 → length ws ≡ 9 → has ws m ≡ (has us m || has vs m)
put_all us vs ws m each u v w = elim (cases_lt (m / 64) 9) [
  | inl l ↦ rw (each (m / 64) l) (bit_both (get_or us (m / 64) 0) (get_or vs (m / 64) 0) (m % 64))
  | inr l ↦ rw (get_or_past us (m / 64) 0 (omega arith), get_or_past vs (m / 64) 0 (omega arith), get_or_past ws (m / 64) 0 (omega arith), bit_at-zero) refl
]

-- a word that is shifted by s has its bit j where the word has bit s + j
shifted : (w s j : ℕ) → bit_at (w / 2 ^ s) j ≡ bit_at w (s + j)
shifted w s j = ap (λ x. x % 2) (div-div-eq-div-mul w (2 ^ s) (2 ^ j) ∙ ap (λ p. w / p) (sym (pow-add 2 s j)))

module _ (ws : List ℕ) (n : ℕ) where
  -- the word of number n, from n on
  abbrev pub first_word : ℕ
  first_word = get_or ws (n / 64) 0 / 2 ^ (n % 64)

  -- no word behind it has a bit, up to word i
  abbrev pub ClearTo : ℕ → Type 0
  ClearTo i = (k : ℕ) → n / 64 < k → k < i → (j : ℕ) → bit_at (get_or ws k 0) j ≡ 0

  -- a number at or above n in its word
  at_first : (m : ℕ) → n ≤ m → m / 64 ≡ n / 64 → bit_at (get_or ws (m / 64) 0) (m % 64) ≡ bit_at first_word (m - n)
  at_first m low same =
      let e : n % 64 + (m - n) ≡ m % 64 = grind (arith, same) in
      rw (same, ← e) (sym (shifted (get_or ws (n / 64) 0) (n % 64) (m - n)))

  none_to : ((j : ℕ) → bit_at first_word j ≡ 0) → (i : ℕ) → ClearTo i → (m : ℕ) → n ≤ m → m < 64 * i → has ws m ≡ false
  none_to f i c m low high = elim (eqb_tells (m / 64) (n / 64)) [
    | inl e ↦ rw (at_first m low e.1, f (m - n)) refl
    | inr e ↦ rw (c (m / 64) (omega arith) (omega arith) (m % 64)) refl
  ]

  pub found_later : ((j : ℕ) → bit_at first_word j ≡ 0) → (i : ℕ) → n / 64 < i → ClearTo i → (b : ℕ) → IsLowest (get_or ws i 0) (Some b) → IsNextFrom ws n (Some (64 * i + b))
  found_later f i later c b low =
      let q : (64 * i + b) / 64 ≡ i = omega (arith, low.0) in
      let r : (64 * i + b) % 64 ≡ b = omega (arith, low.0) in (
        omega arith,
        rw (q, r, low.1) refl,
        λ m h k. elim (cases_lt m (64 * i)) [
          | inl l ↦ none_to f i c m h l
          | inr l ↦ (
              let e : m / 64 ≡ i = omega (arith, low.0) in
              let z : bit_at (get_or ws i 0) (m % 64) ≡ 0 = low.2 (m % 64) (omega arith) in
              rw (e, z) refl
              )
        ],
      )

  pub found_first : get_or ws (n / 64) 0 < 2 ^ 64 → (b : ℕ) → IsLowest first_word (Some b) → IsNextFrom ws n (Some (n + b))
  found_first fits b low =
      let one : bit_at (get_or ws (n / 64) 0) (n % 64 + b) ≡ 1 = sym (shifted (get_or ws (n / 64) 0) (n % 64) b) ∙ low.1 in
      let short : n % 64 + b < 64 =
      elim (cases_lt (n % 64 + b) 64) [
        | inl l ↦ l
        | inr l ↦ (let z = bit_at_above (get_or ws (n / 64) 0) 64 (n % 64 + b) fits l in absurd (omega (arith, one, z)))
      ] in
      let q : (n + b) / 64 ≡ n / 64 = omega arith in
      let r : (n + b) % 64 ≡ n % 64 + b = omega arith in (
        omega arith,
        rw (q, r, one) refl,
        λ m h k. (let e : m / 64 ≡ n / 64 = omega arith in rw (at_first m h e, low.2 (m - n) (omega arith)) refl),
      )

  pub none_left : ((j : ℕ) → bit_at first_word j ≡ 0) → ClearTo 9 → length ws ≡ 9 → IsNextFrom ws n None
  none_left f c l m h = elim (cases_lt m 576) [
    | inl k ↦ none_to f 9 c m h (omega arith)
    | inr k ↦ rw (get_or_past ws (m / 64) 0 (omega arith), bit_at-zero) refl
  ]

-- numbers in both where a word of both has a bit, and else none
pub both_in : (us vs : List ℕ) (i b : ℕ) → IsLowest (bit_and (get_or us i 0) (get_or vs i 0)) (Some b) → Meet us vs
both_in us vs i b low =
    let q : (64 * i + b) / 64 ≡ i = omega (arith, low.0) in
    let r : (64 * i + b) % 64 ≡ b = omega (arith, low.0) in
    let m : min (bit_at (get_or us i 0) b) (bit_at (get_or vs i 0) b) ≡ 1 = sym (bit_at_and (get_or us i 0) (get_or vs i 0) b) ∙ low.1 in
    record {
      number = 64 * i + b;
      here = rw (q, r) (grind (arith, nat_tests, m, bit_at-lt (get_or us i 0) b, bit_at-lt (get_or vs i 0) b));
      there = rw (q, r) (grind (arith, nat_tests, m, bit_at-lt (get_or us i 0) b, bit_at-lt (get_or vs i 0) b));
    }

pub both_out : (us vs : List ℕ) → length us ≡ 9 → ((k : ℕ) → k < 9 → (j : ℕ) → bit_at (bit_and (get_or us k 0) (get_or vs k 0)) j ≡ 0) → Apart us vs
both_out us vs l clear n here = elim (cases_lt (n / 64) 9) [
  | inl k ↦ (
      let m : min (bit_at (get_or us (n / 64) 0) (n % 64)) (bit_at (get_or vs (n / 64) 0) (n % 64)) ≡ 0 = sym (bit_at_and (get_or us (n / 64) 0) (get_or vs (n / 64) 0) (n % 64)) ∙ clear (n / 64) k (n % 64) in
      grind (arith, nat_tests, m, here, bit_at-lt (get_or us (n / 64) 0) (n % 64), bit_at-lt (get_or vs (n / 64) 0) (n % 64))
      )
  | inr k ↦ (let z : has us n ≡ false = rw (get_or_past us (n / 64) 0 (omega arith), bit_at-zero) refl in absurd (true≢false (sym here ∙ z)))
]

-- a number that the words have is below 576
pub has_low : (ws : List ℕ) (m : ℕ) → length ws ≡ 9 → has ws m ≡ true → m < 576
has_low ws m l h = elim (cases_lt m 576) [
  | inl k ↦ k
  | inr k ↦ (let z : has ws m ≡ false = rw (get_or_past ws (m / 64) 0 (omega arith), bit_at-zero) refl in absurd (true≢false (sym h ∙ z)))
]

-- where no number from m up to n is there, as many are below n as below m
pub count_on : (ws : List ℕ) (m n : ℕ) → m ≤ n → ((k : ℕ) → m ≤ k → k < n → has ws k ≡ false) → count_below ws n ≡ count_below ws m
count_on ws m zero h none = ap (count_below ws) (let e : 0 ≡ m = omega arith in e)
count_on ws m (suc n) h none = elim (cases_lt n m) [
  | inl l ↦ ap (count_below ws) (let e : suc n ≡ m = omega arith in e)
  | inr l ↦ (let i = count_on ws m n l (λ k a b. none k a (omega arith)) in rw (none n l (omega arith)) (omega (arith, i)))
]

-- and one more is below the number behind the next that is there
pub count_next : (ws : List ℕ) (m n : ℕ) → IsNextFrom ws m (Some n) → count_below ws (n + 1) ≡ count_below ws m + 1
count_next ws m n x =
    let i = count_on ws m n x.0 x.2 in
    let e : count_below ws (suc n) ≡ count_below ws n + 1 = rw x.1 refl in
    ap (count_below ws) (add-one n) ∙ e ∙ ap (λ c. c + 1) i
