-- Name lists: which name stands for which test.
use Rattle.std.specs.Prelude.{◌≡◌, ℕ, zero, suc, ◌*◌, ◌<◌, ◌≤◌, Bool, true, false, ◌&&◌, ◌⊎◌, List, [], length, position, Some, None, codes, Option, nat_eq, slice_index, slice_index_or}
use Rattle.std.specs.Borrow.{Bor}
use Rattle.rule_text.specs.Words.{front, is_test_name}

-- every number below n passes
abbrev pub up_to : ℕ → (ℕ → Bool) → Bool
up_to zero f = true
up_to (suc k) f = f k && up_to k f

-- whether the 16 bytes of an entry are the name x, filled up with 0 bytes
unfoldable pub is_entry : List ℕ → List ℕ → Bool
is_entry e x = up_to 16 (λ k. nat_eq (slice_index e k) (slice_index x k))

-- the test that a name stands for: the number of the first entry that is this name
abbrev pub test_named : List (List ℕ) → List ℕ → Option ℕ
test_named names x = position (λ e. is_entry e x) names

-- x is a test's name, and the entry e is x filled up
pub record Fills (e x : List ℕ) : Type 0 where
  pub is_run : front x ≡ x
  pub is_test : is_test_name x ≡ true
  pub filled : is_entry e x ≡ true

-- entry i keeps the rules, judged with those before it: it is a test's name, filled up; the first is `any`, and each is new
pub record GoodEntry (names : List (List ℕ)) (i : ℕ) : Type 0 where
  pub own : List ℕ
  pub fills : Fills (slice_index_or names i []) own
  pub first : i ≡ 0 → own ≡ codes "any"
  pub new : (j : ℕ) → j < i → is_entry (slice_index_or names j []) own ≡ false

-- the first entry that breaks the rules, if any
abbrev pub FirstBad : List (List ℕ) → Option ℕ → Type 0
FirstBad names None = (i : ℕ) → i < length names → GoodEntry names i
FirstBad names (Some i) = (i < length names) × ((j : ℕ) → j < i → GoodEntry names j) × (GoodEntry names i → ⊥)

-- a name list: 1 to 128 entries that keep the rules
pub record GoodNames (names : List (List ℕ)) : Type 0 where
  pub some : 1 ≤ length names
  pub few : length names ≤ 128
  pub entries : (i : ℕ) → i < length names → GoodEntry names i

-- the place of a name list's fault: 0 where its length is bad, else the first byte of the first bad entry
pub data NamesFault (names : List (List ℕ)) : ℕ → Type 0 where
  bad_length : (length names ≡ 0) ⊎ (128 < length names) → NamesFault names 0
  bad_entry : (i : ℕ) → length names ≤ 128 → i < length names → ((j : ℕ) → j < i → GoodEntry names j) → (GoodEntry names i → ⊥) → NamesFault names (i * 16)

-- only 0 bytes
abbrev pub AllZero : List ℕ → Type 0
AllZero bs = (k : ℕ) → k < length bs → slice_index bs k ≡ 0

-- the name in an entry, if there is one
abbrev pub EntryName : List ℕ → Option (Bor (List ℕ)) → Type 0
EntryName e (Some s) = Fills e s.now
EntryName e None = (x : List ℕ) → Fills e x → ⊥
