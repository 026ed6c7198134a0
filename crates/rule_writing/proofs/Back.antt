-- What is written is read back as the same list.
use Rattle.std.proofs.Common.{◌≡◌, ℕ, suc, ◌+◌, ◌<◌, ◌≤◌, max, Bool, true, false, cond, not, ◌&&◌, List, [], ◌∷◌, ◌++◌, length, get_or, drop, Some, codes, sym, refl, ap, ◌∙◌, subst, ap₂, append_assoc, append-nil, arith, length-append}
use Rattle.std.proofs.lemmas.List.{drop_at}
use Rattle.std.proofs.lemmas.Bool.{cond-true, cond-false, and_parts}
use Rattle.std.specs.Str.{bytes_eq}
use Rattle.rules.specs.declared.node.Join.{Join as Joining}
use Rattle.rules.specs.declared.node.Join.TheVariants.{Chain, Choice}
use Rattle.rules.specs.declared.node.Node.{Node}
use Rattle.rules.specs.declared.node.Shape.TheVariants.{Join, Repeat}
use Rattle.rule_text.specs.Words.{Word, name, nil, void, open', close', bar, star, bang, no_name, in_run, front, is_name, is_test_name, run_word, words}
use Rattle.rule_text.specs.Names.{test_named, GoodNames}
use Rattle.rule_text.specs.Faults.{by_list}
use Rattle.rule_text.specs.Grammar.{Level, choice, chain, item, Naming, Gives, named, opposite, is_nil, is_void, brackets, plain, starred, single, longer, alone, wider, under}
use Rattle.rule_text.proofs.Entries.{run_first, tail, fills_run, front_run, found_first}
use Rattle.rule_text.proofs.Lexing.{inside}
use Rattle.rule_writing.specs.declared.place.Place.{Place}
use Rattle.rule_writing.specs.declared.place.Place.TheVariants.{Whole, Left, Right, Repeated}
use Rattle.rule_writing.specs.Texts.{name_at, between, needs_brackets, in_brackets, Writes, named as writes_name, opposite as writes_opposite, is_nil as writes_nil, is_void as writes_void, starred as writes_star, joined as writes_join}
use Rattle.rule_writing.specs.Parts.{height_in}
use Rattle.rule_writing.specs.Writing.{FullEntries, ReadsBack}
use Rattle.rule_writing.proofs.Levels.{level_of}
use Rattle.rule_writing.proofs.Nesting.{height, deep, depth_is}

-- no run goes on into these bytes
abbrev Apart : List ℕ → Type 0
Apart [] = Unit {0}
Apart (b ∷ bs) = in_run b ≡ false

front_apart : (rest : List ℕ) → Apart rest → front rest ≡ []
front_apart [] a = refl
front_apart (b ∷ bs) a = cond-false (in_run b) (b ∷ front bs) [] a

run_rest : (b : ℕ) (bs : List ℕ) → front (b ∷ bs) ≡ b ∷ bs → front bs ≡ bs
run_rest b bs e = ap tail (sym (cond-true (in_run b) (b ∷ front bs) [] (run_first b bs e)) ∙ e)

-- a run ends where no run goes on
front_append : (x rest : List ℕ) → front x ≡ x → Apart rest → front (x ++ rest) ≡ x
front_append [] rest e a = front_apart rest a
front_append (b ∷ bs) rest e a = cond-true (in_run b) _ _ (run_first b bs e) ∙ ap (λ (l : List ℕ). b ∷ l) (front_append bs rest (run_rest b bs e) a)

run_words : (k : ℕ) (x rest : List ℕ) → front x ≡ x → 0 < length x → Apart rest → words k false (x ++ rest) ≡ (k, run_word x) ∷ words (k + length x) false rest
run_words k [] rest e h a = absurd (omega arith)
run_words k (b ∷ bs) rest e h a =
    let all = front_append (b ∷ bs) rest e a in
    let some = front_append bs rest (run_rest b bs e) a in
    let at : k + 1 + length bs ≡ k + length (b ∷ bs) = omega arith in
    cond-true (in_run b) _ _ (run_first b bs e)
    ∙ ap₂ (λ (r : List ℕ) (ws : List (ℕ × Word)). (k, run_word r) ∷ ws) all
    (inside (k + 1) (bs ++ rest) ∙ ap (λ (r : List ℕ). words (k + 1 + length r) false (drop (length r) (bs ++ rest))) some ∙ ap₂ (λ (n : ℕ) (l : List ℕ). words n false l) at (drop_at bs rest (length bs) refl))

-- a test's name as a word
record Name (names : List (List ℕ)) (t : ℕ) (x : List ℕ) : Type 0 where
  run : front x ≡ x
  some : 0 < length x
  word : run_word x ≡ name x
  test : test_named names x ≡ Some t

some_name : (x : List ℕ) → is_name x ≡ true → 0 < length x
some_name [] e = let z : ◌≡◌ {A = ℕ} 0 1 = cc in absurd (omega arith)
some_name (b ∷ bs) e = omega arith

name_word : (x : List ℕ) → is_test_name x ≡ true → run_word x ≡ name x
name_word x e = go (bytes_eq x (codes "nil")) (bytes_eq x (codes "void")) (is_name x) e
  where
    go : (a b c : Bool) → c && (not a && not b) ≡ true → cond a nil (cond b void (cond c (name x) no_name)) ≡ name x
    go true b true e = let z : ◌≡◌ {A = ℕ} 0 1 = cc in absurd (omega arith)
    go true b false e = let z : ◌≡◌ {A = ℕ} 0 1 = cc in absurd (omega arith)
    go false true true e = let z : ◌≡◌ {A = ℕ} 0 1 = cc in absurd (omega arith)
    go false true false e = let z : ◌≡◌ {A = ℕ} 0 1 = cc in absurd (omega arith)
    go false false true e = refl
    go false false false e = let z : ◌≡◌ {A = ℕ} 0 1 = cc in absurd (omega arith)

name_of : (names : List (List ℕ)) → GoodNames names → FullEntries names → (t : ℕ) → t < length names → Name names t (name_at names t)
name_of names g full t h =
    let e = g.entries t h in
    let own = fills_run (get_or names t []) (full t h) e.own e.fills in
    record {
      run = front_run (get_or names t []);
      some = some_name (name_at names t) (ap is_name own ∙ (and_parts (is_name e.own) _ e.fills.is_test).0);
      word = name_word (name_at names t) (ap is_test_name own ∙ e.fills.is_test);
      test = ap (test_named names) own ∙ found_first names e.own t h e.new e.fills.filled;
    }

-- the level of a chain and of a choice
abbrev own_level : Joining → Level
own_level Chain = chain
own_level Choice = choice

not_false : true ≡ false → ⊥
not_false e = let z : ◌≡◌ {A = ℕ} 0 1 = cc in omega arith

-- text, from place k on and with more after it, is read as a part of this level in d brackets, with the node list ns
record Reads (m : Naming) (l : Level) (d : ℕ) (ns : List Node) (text : List ℕ) (k : ℕ) (rest : List ℕ) : Type 0 where
  used : List (ℕ × Word)
  split : words k false (text ++ rest) ≡ used ++ words (k + length text) false rest
  gives : Gives m l d used ns

-- what is read at a tighter level is read at a looser one
module _ {m : Naming} {d : ℕ} {ns : List Node} {ws : List (ℕ × Word)} where
  from_item : (place : Place) → Gives m item d ws ns → Gives m (level_of place) d ws ns
  from_item Whole g = alone (single g)
  from_item (Left Chain) g = single g
  from_item (Left Choice) g = alone (single g)
  from_item (Right Chain) g = g
  from_item (Right Choice) g = single g
  from_item Repeated g = g

  -- a chain and a choice where they stand bare
  from_own : (place : Place) (j : Joining) → needs_brackets place j ≡ false → Gives m (own_level j) d ws ns → Gives m (level_of place) d ws ns
  from_own Whole Chain e g = alone g
  from_own Whole Choice e g = g
  from_own (Left Chain) Chain e g = g
  from_own (Left Chain) Choice e g = absurd (not_false e)
  from_own (Left Choice) Chain e g = alone g
  from_own (Left Choice) Choice e g = g
  from_own (Right Chain) Chain e g = absurd (not_false e)
  from_own (Right Chain) Choice e g = absurd (not_false e)
  from_own (Right Choice) Chain e g = g
  from_own (Right Choice) Choice e g = absurd (not_false e)
  from_own Repeated Chain e g = absurd (not_false e)
  from_own Repeated Choice e g = absurd (not_false e)

  to_choice : (j : Joining) → Gives m (own_level j) d ws ns → Gives m choice d ws ns
  to_choice Chain g = alone g
  to_choice Choice g = g

module _ {m : Naming} {d k : ℕ} {text rest : List ℕ} where
  -- a repeat
  star_reads : {ns : List Node} (place : Place) → Reads m item d ns text k (42 ∷ rest) → Reads m (level_of place) d (under Repeat ns) (text ++ codes "*") k rest
  star_reads place r =
      let at : k + length text + 1 ≡ k + length (text ++ codes "*") = omega (arith, length-append text (codes "*")) in
      record {
        used = r.used ++ (k + length text, star) ∷ [];
        split =
            ap (words k false) (append_assoc text (codes "*") rest) ∙ r.split
            ∙ ap (λ (n : ℕ). r.used ++ (k + length text, star) ∷ words n false rest) at
            ∙ sym (append_assoc r.used ((k + length text, star) ∷ []) _);
        gives = from_item place (starred (k + length text) r.gives);
      }

  -- a chain or a choice, in brackets where it needs them
  join_reads : {ns : List Node} (place : Place) (j : Joining) (b : Bool) (h : ℕ) → needs_brackets place j ≡ b → Apart rest → d + height_in b h ≤ m.depth
      → ((d' k' : ℕ) (rest' : List ℕ) → Apart rest' → d' + h ≤ m.depth → Reads m (own_level j) d' ns text k' rest')
      → Reads m (level_of place) d ns (in_brackets b text) k rest
  join_reads place j true h e a low f =
      let r = f (suc d) (k + 1) (41 ∷ rest) refl (omega arith) in
      let q = k + 1 + length text in
      let at : q + 1 ≡ k + length (in_brackets true text) = omega (arith, length-append text (codes ")")) in
      record {
        used = (k, open') ∷ (r.used ++ (q, close') ∷ []);
        split =
            ap (λ (l : List ℕ). (k, open') ∷ words (k + 1) false l) (append_assoc text (codes ")") rest)
            ∙ ap (λ (ws : List (ℕ × Word)). (k, open') ∷ ws) (r.split ∙ ap (λ (n : ℕ). r.used ++ (q, close') ∷ words n false rest) at ∙ sym (append_assoc r.used ((q, close') ∷ []) _));
        gives = from_item place (plain (brackets k q (omega arith) (to_choice j r.gives)));
      }
  join_reads place j false h e a low f =
      let r = f d k rest a low in
      record { used = r.used; split = r.split; gives = from_own place j e r.gives }

-- two parts and what stands between them
pair_reads : {m : Naming} {d : ℕ} {ls rs : List Node} (j : Joining) (left right : List ℕ) (k : ℕ) (rest : List ℕ)
    → Reads m (level_of (Left j)) d ls left k (between j ++ (right ++ rest)) → Reads m (level_of (Right j)) d rs right (k + length left + length (between j)) rest
    → Reads m (own_level j) d (under (Join j) (ls ++ rs)) (left ++ (between j ++ right)) k rest
pair_reads Chain left right k rest f g =
    let at : k + length left + 1 + length right ≡ k + length (left ++ (between Chain ++ right)) = omega (arith, length-append left (between Chain ++ right)) in
    record {
      used = f.used ++ g.used;
      split =
          ap (words k false) (append_assoc left (between Chain ++ right) rest) ∙ f.split
          ∙ ap (λ (ws : List (ℕ × Word)). f.used ++ ws) (g.split ∙ ap (λ (n : ℕ). g.used ++ words n false rest) at)
          ∙ sym (append_assoc f.used g.used _);
      gives = longer f.gives g.gives;
    }
pair_reads Choice left right k rest f g =
    let p = k + length left + 1 in
    let past : p + 1 + 1 ≡ k + length left + 3 = omega arith in
    let at : k + length left + 3 + length right ≡ k + length (left ++ (between Choice ++ right)) = omega (arith, length-append left (between Choice ++ right)) in
    record {
      used = f.used ++ (p, bar) ∷ g.used;
      split =
          ap (words k false) (append_assoc left (between Choice ++ right) rest) ∙ f.split
          ∙ ap (λ (ws : List (ℕ × Word)). f.used ++ (p, bar) ∷ ws) (ap (λ (n : ℕ). words n false (right ++ rest)) past ∙ g.split ∙ ap (λ (n : ℕ). g.used ++ words n false rest) at)
          ∙ sym (append_assoc f.used ((p, bar) ∷ g.used) _);
      gives = wider p f.gives g.gives;
    }

between_apart : (j : Joining) (rest : List ℕ) → Apart (between j ++ rest)
between_apart Chain rest = refl
between_apart Choice rest = refl

-- what is written at a place is read at its level
back : {names : List (List ℕ)} {place : Place} {ns : List Node} {text : List ℕ} → GoodNames names → FullEntries names → (w : Writes names place ns text) (d k : ℕ) (rest : List ℕ) → Apart rest → d + height w ≤ 16 → Reads (by_list names) (level_of place) d ns text k rest
back {names} {place} g full (writes_name {t = t} h) d k rest a low =
    let n = name_of names g full t h in
    record {
      used = (k, name (name_at names t)) ∷ [];
      split = run_words k (name_at names t) rest n.run n.some a ∙ ap (λ (w : Word). (k, w) ∷ words (k + length (name_at names t)) false rest) n.word;
      gives = from_item place (plain (named n.test));
    }
back {names} {place} g full (writes_opposite {t = t} h) d k rest a low =
    let x = name_at names t in
    let n = name_of names g full t h in
    let at : k + 1 + length x ≡ k + suc (length x) = omega arith in
    record {
      used = (k, bang) ∷ (k + 1, name x) ∷ [];
      split = ap (λ (ws : List (ℕ × Word)). (k, bang) ∷ ws) (run_words (k + 1) x rest n.run n.some a ∙ ap₂ (λ (w : Word) (p : ℕ). (k + 1, w) ∷ words p false rest) n.word at);
      gives = from_item place (plain (opposite n.test));
    }
back {names} {place} g full writes_nil d k rest a low = record { used = (k, nil) ∷ []; split = run_words k (codes "nil") rest refl (omega arith) a; gives = from_item place (plain is_nil) }
back {names} {place} g full writes_void d k rest a low = record { used = (k, void) ∷ []; split = run_words k (codes "void") rest refl (omega arith) a; gives = from_item place (plain is_void) }
back {names} {place} g full (writes_star w) d k rest a low = star_reads place (back g full w d k (42 ∷ rest) refl low)
back {names} {place} g full (writes_join {j = j} {left = left} {right = right} w v) d k rest a low =
    join_reads place j (needs_brackets place j) (max (height w) (height v)) refl a low (λ d' k' rest' a' low'.
    pair_reads j left right k' rest' (back g full w d' k' (between j ++ (right ++ rest')) (between_apart j (right ++ rest')) (omega arith)) (back g full v d' (k' + length left + length (between j)) rest' a' (omega arith)))

pub reads_back : ReadsBack
reads_back names ns text w t =
    let r = back t.good t.full t.is_text 0 0 [] tt (omega (arith, depth_is text (height t.is_text) (deep t.is_text), t.shallow)) in
    let split = ap (words 0 false) (sym (append-nil text)) ∙ r.split ∙ append-nil r.used in
    record {
      good = t.good;
      short = t.short;
      gives = subst (λ (ws : List (ℕ × Word)). Gives (by_list names) choice 0 ws ns) (sym split) r.gives;
      few = w.2;
    }
