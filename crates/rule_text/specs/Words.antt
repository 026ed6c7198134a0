-- The words of a text, each with its place.
use Rattle.std.specs.Prelude.{ℕ, ◌+◌, Bool, true, false, cond, not, ◌&&◌, ◌||◌, List, [], ◌∷◌, length, codes, ◌==◌, nat_le}
use Rattle.std.specs.Str.{bytes_eq}

-- a–z
abbrev pub letter : ℕ → Bool
letter b = nat_le 97 b && nat_le b 122

-- a–z, 0–9 and hyphen: the bytes of a run
abbrev pub in_run : ℕ → Bool
in_run b = letter b || ((nat_le 48 b && nat_le b 57) || b == 45)

-- spaces and newlines part words
abbrev pub blank : ℕ → Bool
blank b = b == 32 || b == 10

-- the longest run that a text starts with
abbrev pub front : List ℕ → List ℕ
front [] = []
front (b ∷ bs) = cond (in_run b) (b ∷ front bs) []

-- a run is a name when it has 1 to 16 bytes and starts with a letter
abbrev pub is_name : List ℕ → Bool
is_name [] = false
is_name (b ∷ bs) = letter b && nat_le (length (b ∷ bs)) 16

-- two names are words of the grammar, so that they name no test
abbrev pub is_test_name : List ℕ → Bool
is_test_name x = is_name x && (not (bytes_eq x (codes "nil")) && not (bytes_eq x (codes "void")))

-- a word, or what stands in the place of one
pub data Word : Type 0 where
  -- a run that is a name, and neither `nil` nor `void`
  name : List ℕ → Word
  -- the runs `nil` and `void`
  nil : Word
  void : Word
  -- the marks `(`, `)`, `|`, `*` and `!`
  open' : Word
  close' : Word
  bar : Word
  star : Word
  bang : Word
  -- a run that is no name
  no_name : Word
  -- a byte that is in no run, no mark and no blank
  stray : Word

-- the word that a run is
abbrev pub run_word : List ℕ → Word
run_word r = cond (bytes_eq r (codes "nil")) nil (cond (bytes_eq r (codes "void")) void (cond (is_name r) (name r) no_name))

-- the word that a byte is which is in no run and no blank
abbrev pub mark : ℕ → Word
mark b = cond (b == 40) open' (cond (b == 41) close' (cond (b == 124) bar (cond (b == 42) star (cond (b == 33) bang stray))))

-- the words of a text whose first byte has the place p; inside a run no word starts
abbrev pub words : ℕ → Bool → List ℕ → List (ℕ × Word)
words p inside [] = []
words p inside (b ∷ bs) =
    cond (in_run b)
    (cond inside (words (p + 1) true bs) ((p, run_word (front (b ∷ bs))) ∷ words (p + 1) true bs))
    (cond (blank b) (words (p + 1) false bs) ((p, mark b) ∷ words (p + 1) false bs))

-- the words of a text
abbrev pub words_in : List ℕ → List (ℕ × Word)
words_in text = words 0 false text
