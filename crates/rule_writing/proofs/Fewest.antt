-- No text that is read as the same list has fewer brackets than the one that is written.
use Rattle.std.proofs.Common.{◌≡◌, ℕ, suc, ◌+◌, ◌-◌, ◌≤◌, Bool, true, false, cond, eqb, ltb, List, [], ◌∷◌, ◌++◌, length, get_or, codes, sym, refl, ap, ◌∙◌, subst, ap₂, ⊎_elim, arith}
use Rattle.std.proofs.lemmas.Bool.{cases_Bool, cond-true, cond-false}
use Rattle.std.proofs.lemmas.Bool.Decides.{nat_tests}
use Rattle.std.specs.Str.{bytes_eq}
use Rattle.rules.specs.declared.node.Join.{Join as Joining}
use Rattle.rules.specs.declared.node.Join.TheVariants.{Chain, Choice}
use Rattle.rules.specs.declared.node.Node.{Node}
use Rattle.rules.specs.declared.node.Shape.TheVariants.{Void, Nil, Leaf, Join, Repeat}
use Rattle.rules.specs.Nodes.{Rooted}
use Rattle.rule_text.specs.Words.{Word, name, nil, void, open', close', bar, star, bang, no_name, stray, in_run, blank, front, is_name, run_word, mark, words}
use Rattle.rule_text.specs.Grammar.{Level, choice, chain, Naming, Gives, named, opposite, is_nil, is_void, brackets, plain, starred, single, longer, alone, wider, under}
use Rattle.rule_text.specs.Readers.{loose}
use Rattle.rule_text.proofs.Drafting.{gives_rooted}
use Rattle.rule_writing.specs.declared.place.Place.{Place}
use Rattle.rule_writing.specs.declared.place.Place.TheVariants.{Whole, Left, Right, Repeated}
use Rattle.rule_writing.specs.Texts.{name_at, between, needs_brackets, in_brackets, Writes, named as writes_name, opposite as writes_opposite, is_nil as writes_nil, is_void as writes_void, starred as writes_star, joined as writes_join, brackets_in}
use Rattle.rule_writing.specs.Parts.{leaf_text}
use Rattle.rule_writing.specs.Writing.{FewestBrackets}
use Rattle.rule_writing.proofs.Unders.{top_under, beneath, same_parts}
use Rattle.rule_writing.proofs.Shown.{writes_rooted, shown_as}
use Rattle.rule_writing.proofs.Levels.{level_of}

-- how many brackets a word opens, and how many the words of a text do
abbrev opens_one : Word → ℕ
opens_one (name x) = 0
opens_one nil = 0
opens_one void = 0
opens_one open' = 1
opens_one close' = 0
opens_one bar = 0
opens_one star = 0
opens_one bang = 0
opens_one no_name = 0
opens_one stray = 0

abbrev opens : List (ℕ × Word) → ℕ
opens [] = 0
opens (w ∷ ws) = opens_one w.1 + opens ws

opens_append : (us vs : List (ℕ × Word)) → opens (us ++ vs) ≡ opens us + opens vs
opens_append [] vs = omega arith
opens_append (u ∷ us) vs = let ih = opens_append us vs in omega arith

brackets_append : (u v : List ℕ) → brackets_in (u ++ v) ≡ brackets_in u + brackets_in v
brackets_append [] v = omega arith
brackets_append (b ∷ u) v = let ih = brackets_append u v in ⊎_elim
    (λ e. rw (cond-true (eqb b 40) (suc (brackets_in (u ++ v))) (brackets_in (u ++ v)) e, cond-true (eqb b 40) (suc (brackets_in u)) (brackets_in u) e) (omega arith))
    (λ e. rw (cond-false (eqb b 40) (suc (brackets_in (u ++ v))) (brackets_in (u ++ v)) e, cond-false (eqb b 40) (suc (brackets_in u)) (brackets_in u) e) ih)
    (cases_Bool (eqb b 40))

-- a run is no bracket
run_one : (r : List ℕ) → opens_one (run_word r) ≡ 0
run_one r = go (bytes_eq r (codes "nil")) (bytes_eq r (codes "void")) (is_name r)
  where
    go : (a b c : Bool) → opens_one (cond a nil (cond b void (cond c (name r) no_name))) ≡ 0
    go true b c = refl
    go false true c = refl
    go false false true = refl
    go false false false = refl

mark_one : (b : ℕ) → opens_one (mark b) ≡ cond (eqb b 40) 1 0
mark_one b = go (eqb b 40) (eqb b 41) (eqb b 124) (eqb b 42) (eqb b 33)
  where
    go : (o c s t u : Bool) → opens_one (cond o open' (cond c close' (cond s bar (cond t star (cond u bang stray))))) ≡ cond o 1 0
    go true c s t u = refl
    go false true s t u = refl
    go false false true t u = refl
    go false false false true u = refl
    go false false false false true = refl
    go false false false false false = refl

added : (o : Bool) (k : ℕ) → cond o 1 0 + k ≡ cond o (suc k) k
added true k = omega arith
added false k = omega arith

-- the words of a text open as many brackets as its bytes
words_open : (p : ℕ) (inside : Bool) (text : List ℕ) → opens (words p inside text) ≡ brackets_in text
words_open p inside [] = refl
words_open p inside (b ∷ bs) = ⊎_elim
    (λ r.
    let not40 : eqb b 40 ≡ false = grind (arith, nat_tests) in
    ap opens (cond-true (in_run b) _ _ r) ∙ in_run_lem (words_open (p + 1) true bs) inside ∙ sym (cond-false (eqb b 40) _ _ not40))
    (λ r. ⊎_elim
    (λ k.
    let not40 : eqb b 40 ≡ false = grind (arith, nat_tests) in
    ap opens (cond-false (in_run b) _ _ r ∙ cond-true (blank b) _ _ k) ∙ words_open (p + 1) false bs ∙ sym (cond-false (eqb b 40) _ _ not40))
    (λ k. ap opens (cond-false (in_run b) _ _ r ∙ cond-false (blank b) _ _ k) ∙ ap₂ (λ (x y : ℕ). x + y) (mark_one b) (words_open (p + 1) false bs) ∙ added (eqb b 40) (brackets_in bs))
    (cases_Bool (blank b)))
    (cases_Bool (in_run b))
  where
    in_run_lem : opens (words (p + 1) true bs) ≡ brackets_in bs → (i : Bool) → opens (cond i (words (p + 1) true bs) ((p, run_word (front (b ∷ bs))) ∷ words (p + 1) true bs)) ≡ brackets_in bs
    in_run_lem ih true = ih
    in_run_lem ih false = let z = run_one (front (b ∷ bs)) in omega arith

-- a name opens none
name_brackets : (x : List ℕ) → brackets_in (front x) ≡ 0
name_brackets [] = refl
name_brackets (b ∷ bs) = ⊎_elim
    (λ r. let not40 : eqb b 40 ≡ false = grind (arith, nat_tests) in ap brackets_in (cond-true (in_run b) (b ∷ front bs) [] r) ∙ cond-false (eqb b 40) _ _ not40 ∙ name_brackets bs)
    (λ r. ap brackets_in (cond-false (in_run b) (b ∷ front bs) [] r))
    (cases_Bool (in_run b))

between_brackets : (j : Joining) → brackets_in (between j) ≡ 0
between_brackets Chain = refl
between_brackets Choice = refl

-- a level at which a chain or a choice stands bare
abbrev join_level : Joining → Level
join_level Chain = chain
join_level Choice = choice

bare : (place : Place) (j : Joining) → loose (level_of place) ≤ loose (join_level j) → needs_brackets place j ≡ false
bare Whole j h = refl
bare (Left Chain) Chain h = refl
bare (Left Chain) Choice h = absurd (omega arith)
bare (Left Choice) j h = refl
bare (Right Chain) Chain h = absurd (omega arith)
bare (Right Chain) Choice h = absurd (omega arith)
bare (Right Choice) Chain h = refl
bare (Right Choice) Choice h = absurd (omega arith)
bare Repeated Chain h = absurd (omega arith)
bare Repeated Choice h = absurd (omega arith)

-- alone a part has at most one pair of brackets fewer
record Alone (names : List (List ℕ)) (ns : List Node) (text : List ℕ) : Type 0 where
  inner : List ℕ
  writes : Writes names Whole ns inner
  fewer : brackets_in text ≤ suc (brackets_in inner)

in_one : (b : Bool) (text : List ℕ) → brackets_in (in_brackets b text) ≤ suc (brackets_in text)
in_one true text = let a = brackets_append text (codes ")") in omega arith
in_one false text = omega arith

at_whole : {names : List (List ℕ)} {place : Place} {ns : List Node} {text : List ℕ} → Writes names place ns text → Alone names ns text
at_whole (writes_name h) = record { inner = _; writes = writes_name h; fewer = omega arith }
at_whole (writes_opposite h) = record { inner = _; writes = writes_opposite h; fewer = omega arith }
at_whole writes_nil = record { inner = _; writes = writes_nil; fewer = omega arith }
at_whole writes_void = record { inner = _; writes = writes_void; fewer = omega arith }
at_whole (writes_star w) = record { inner = _; writes = writes_star w; fewer = omega arith }
at_whole {place = place} (writes_join {j = j} w v) = record { inner = _; writes = writes_join w v; fewer = in_one (needs_brackets place j) _ }

-- what is written of a part at this place opens no more brackets than k
abbrev AtMost : Place → List Node → ℕ → Type 0
AtMost place ns k = (names : List (List ℕ)) (text : List ℕ) → Writes names place ns text → brackets_in text ≤ k

-- a chain or a choice that stands bare, of two parts
joint : (place : Place) (j : Joining) (ls rs : List Node) (m n : ℕ) → Rooted rs → loose (level_of place) ≤ loose (join_level j) → AtMost (Left j) ls m → AtMost (Right j) rs n → AtMost place (under (Join j) (ls ++ rs)) (m + n)
joint place j ls rs m n root h left right names text w =
    let s = shown_as (Join j) (top_under (Join j) (ls ++ rs)) w in
    let same = same_parts ls s.ls rs s.rs root (writes_rooted s.writes_right) (beneath (Join j) (Join j) _ _ s.list) in
    let a = left names s.left (subst (λ (ns : List Node). Writes names (Left j) ns s.left) (sym same.0) s.writes_left) in
    let b = right names s.right (subst (λ (ns : List Node). Writes names (Right j) ns s.right) (sym same.1) s.writes_right) in
    let is = s.is ∙ ap (λ (b : Bool). in_brackets b (s.left ++ (between j ++ s.right))) (bare place j h) in
    omega (arith, ap brackets_in is, brackets_append s.left (between j ++ s.right), brackets_append (between j) s.right, between_brackets j)

-- a repeat
over : (place : Place) (ns : List Node) (m : ℕ) → AtMost Repeated ns m → AtMost place (under Repeat ns) m
over place ns m inner names text w =
    let s = shown_as Repeat (top_under Repeat ns) w in
    let a = inner names s.inner (subst (λ (ms : List Node). Writes names Repeated ms s.inner) (sym (beneath Repeat Repeat _ _ s.list)) s.writes) in
    omega (arith, ap brackets_in s.is, brackets_append s.inner (codes "*"))

leaf_none : (t : ℕ) (names : List (List ℕ)) → brackets_in (leaf_text names t) ≡ 0
leaf_none t names = go (ltb t (length names))
  where
    go : (b : Bool) → brackets_in (cond b (name_at names t) (codes "!" ++ name_at names (t - length names))) ≡ 0
    go true = name_brackets (get_or names t [])
    go false = name_brackets (get_or names (t - length names) [])

-- what is read at a level as tight as a place's, or tighter, opens as many brackets as are written there
fewest : {m : Naming} {l : Level} {d : ℕ} {ws : List (ℕ × Word)} {ns : List Node} → Gives m l d ws ns → (place : Place) → loose (level_of place) ≤ loose l → AtMost place ns (opens ws)
fewest (named {t = t} e) place h names text w = omega (arith, ap brackets_in (shown_as (Leaf t) refl w), leaf_none t names)
fewest {m} (opposite {t = t} e) place h names text w = omega (arith, ap brackets_in (shown_as (Leaf (m.count + t)) refl w), leaf_none (m.count + t) names)
fewest is_nil place h names text w = omega (arith, ap brackets_in (shown_as Nil refl w))
fewest is_void place h names text w = omega (arith, ap brackets_in (shown_as Void refl w))
fewest (brackets p q {ws = ws} k g) place h names text w =
    let a = at_whole w in
    omega (arith, a.fewer, fewest g Whole (omega arith) names a.inner a.writes, opens_append ws ((q, close') ∷ []))
fewest (plain g) place h names text w = fewest g place (omega arith) names text w
fewest (starred p {ws = ws} {ns = ns} g) place h names text w = omega (arith, over place ns (opens ws) (fewest g Repeated (omega arith)) names text w, opens_append ws ((p, star) ∷ []))
fewest (single g) place h names text w = fewest g place (omega arith) names text w
fewest (longer {us = us} {vs = vs} {ls = ls} {rs = rs} g k) place h names text w =
    omega (arith, joint place Chain ls rs (opens us) (opens vs) (gives_rooted k) h (fewest g (Left Chain) (omega arith)) (fewest k (Right Chain) (omega arith)) names text w, opens_append us vs)
fewest (alone g) place h names text w = fewest g place (omega arith) names text w
fewest (wider p {us = us} {vs = vs} {ls = ls} {rs = rs} g k) place h names text w =
    omega (arith, joint place Choice ls rs (opens us) (opens vs) (gives_rooted k) h (fewest g (Left Choice) (omega arith)) (fewest k (Right Choice) (omega arith)) names text w, opens_append us ((p, bar) ∷ vs))

pub fewest_brackets : FewestBrackets
fewest_brackets names ns text other w g = omega (arith, fewest g Whole (omega arith) names text w, words_open 0 false other)
