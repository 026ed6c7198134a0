-- What each turn of the readers adds.
use Rattle.std.proofs.Common.{◌≡◌, ℕ, suc, ◌+◌, ◌<◌, Bool, List, [], ◌∷◌, ◌++◌, length, Some, sym, refl, ap, ◌∙◌, subst, append_assoc, arith}
use Rattle.rules.specs.declared.node.Join.TheVariants.{Chain, Choice}
use Rattle.rules.specs.declared.node.Node.{Node}
use Rattle.rules.specs.declared.node.Shape.TheVariants.{Void as VoidShape, Nil as NilShape, Leaf, Join, Repeat}
use Rattle.rules.specs.Nodes.{node}
use Rattle.rule_text.specs.declared.words.Word.{Word as Token}
use Rattle.rule_text.specs.declared.words.Word.TheVariants.{Name, Nil, Void, Open, Close, Bar, Star, Bang, End}
use Rattle.rule_text.specs.Words.{Word, name, nil, void, open', close', bar, star, bang, no_name, stray}
use Rattle.rule_text.specs.Names.{test_named}
use Rattle.rule_text.specs.Grammar.{Level, choice, chain, item, atom, Gives, named, opposite, is_nil, is_void, brackets, plain, starred, single, longer, alone, wider, under}
use Rattle.rule_text.specs.Faults.{by_list}
use Rattle.rule_text.specs.Lexing.{words_of, Starts}
use Rattle.rule_text.specs.Readers.{Done, Adds, Pushed, Joined, Follows, NameRead}
use Rattle.rule_text.proofs.Drafting.{gives_rooted, adds_one, adds_repeat, adds_join}

any_follows : (ws : List (ℕ × Word)) → Follows atom ws
any_follows [] = tt
any_follows ((p, name x) ∷ ws) = omega arith
any_follows ((p, nil) ∷ ws) = omega arith
any_follows ((p, void) ∷ ws) = omega arith
any_follows ((p, open') ∷ ws) = omega arith
any_follows ((p, close') ∷ ws) = omega arith
any_follows ((p, bar) ∷ ws) = omega arith
any_follows ((p, star) ∷ ws) = omega arith
any_follows ((p, bang) ∷ ws) = omega arith
any_follows ((p, no_name) ∷ ws) = omega arith
any_follows ((p, stray) ∷ ws) = omega arith

-- where a reader stops: the next word is not its own
module _ (whole p : ℕ) (ws vs : List (ℕ × Word)) where
  pub stops_item : (t : Token) → (t ≡ Star → ⊥) → Starts whole t p ws vs → Follows item ws
  stops_item (Name s) n h = subst (Follows item) (sym h) (omega arith)
  stops_item Nil n h = subst (Follows item) (sym h) (omega arith)
  stops_item Void n h = subst (Follows item) (sym h) (omega arith)
  stops_item Open n h = subst (Follows item) (sym h) (omega arith)
  stops_item Close n h = subst (Follows item) (sym h) (omega arith)
  stops_item Bar n h = subst (Follows item) (sym h) (omega arith)
  stops_item Star n h = absurd (n refl)
  stops_item Bang n h = subst (Follows item) (sym h) (omega arith)
  stops_item End n h = subst (Follows item) (sym h.0) tt

  pub stops_chain : (t : Token) → ((s : _) → t ≡ Name s → ⊥) → (t ≡ Nil → ⊥) → (t ≡ Void → ⊥) → (t ≡ Bang → ⊥) → (t ≡ Open → ⊥) → Starts whole t p ws vs → Follows item ws → Follows chain ws
  stops_chain (Name s) a i v b o h f = absurd (a s refl)
  stops_chain Nil a i v b o h f = absurd (i refl)
  stops_chain Void a i v b o h f = absurd (v refl)
  stops_chain Open a i v b o h f = absurd (o refl)
  stops_chain Close a i v b o h f = subst (Follows chain) (sym h) (omega arith)
  stops_chain Bar a i v b o h f = subst (Follows chain) (sym h) (omega arith)
  stops_chain Star a i v b o h f = absurd (omega (arith, subst (Follows item) h f))
  stops_chain Bang a i v b o h f = absurd (b refl)
  stops_chain End a i v b o h f = subst (Follows chain) (sym h.0) tt

  pub stops_choice : (t : Token) → (t ≡ Bar → ⊥) → Starts whole t p ws vs → Follows chain ws → Follows choice ws
  stops_choice (Name s) n h f = absurd (omega (arith, subst (Follows chain) h f))
  stops_choice Nil n h f = absurd (omega (arith, subst (Follows chain) h f))
  stops_choice Void n h f = absurd (omega (arith, subst (Follows chain) h f))
  stops_choice Open n h f = absurd (omega (arith, subst (Follows chain) h f))
  stops_choice Close n h f = subst (Follows choice) (sym h) (omega arith)
  stops_choice Bar n h f = absurd (n refl)
  stops_choice Star n h f = absurd (omega (arith, subst (Follows chain) h f))
  stops_choice Bang n h f = absurd (omega (arith, subst (Follows chain) h f))
  stops_choice End n h f = subst (Follows choice) (sym h.0) tt

module _ {names : List (List ℕ)} {d whole : ℕ} {text rest : List ℕ} {i i' : List Node} {o o' : Bool} where
  -- what follows another level
  pub follows_other : {l f g : Level} → Done names l f d whole text rest i o i' o' → Follows g (words_of whole rest) → Done names l g d whole text rest i o i' o'
  follows_other k h = record { used = k.used; new = k.new; split = k.split; gives = k.gives; adds = k.adds; shorter = k.shorter; follows = h }

  -- the first part of a loop
  pub first_atom : Done names atom atom d whole text rest i o i' o' → Done names item atom d whole text rest i o i' o'
  first_atom k = record { used = k.used; new = k.new; split = k.split; gives = plain k.gives; adds = k.adds; shorter = k.shorter; follows = k.follows }

  pub first_item : Done names item item d whole text rest i o i' o' → Done names chain item d whole text rest i o i' o'
  first_item k = record { used = k.used; new = k.new; split = k.split; gives = single k.gives; adds = k.adds; shorter = k.shorter; follows = k.follows }

  pub first_chain : Done names chain chain d whole text rest i o i' o' → Done names choice chain d whole text rest i o i' o'
  first_chain k = record { used = k.used; new = k.new; split = k.split; gives = alone k.gives; adds = k.adds; shorter = k.shorter; follows = k.follows }

-- one turn of each loop
module _ {names : List (List ℕ)} {d whole : ℕ} {text rest next : List ℕ} {i i₁ i₂ : List Node} {o o₁ o₂ : Bool} where
  pub item_turn : (p : ℕ) → words_of whole rest ≡ (p, star) ∷ words_of whole next → length next < length rest → Pushed Repeat i₁ o₁ i₂ o₂ → Done names item atom d whole text rest i o i₁ o₁ → Done names item atom d whole text next i o i₂ o₂
  item_turn p w lt u k =
      record {
        used = k.used ++ (p, star) ∷ [];
        new = under Repeat k.new;
        split = k.split ∙ ap (λ x. k.used ++ x) w ∙ sym (append_assoc k.used ((p, star) ∷ []) (words_of whole next));
        gives = starred p k.gives;
        adds = adds_repeat k.adds (gives_rooted k.gives) u;
        shorter = omega (arith, k.shorter);
        follows = any_follows _;
      }

module _ {names : List (List ℕ)} {d whole : ℕ} {text rest next : List ℕ} {i i₁ i₂ : List Node} {o o₁ o₂ : Bool} where
  pub chain_turn : Joined names item Chain d whole rest next i₁ o₁ i₂ o₂ → Done names chain item d whole text rest i o i₁ o₁ → Done names chain item d whole text next i o i₂ o₂
  chain_turn j k =
      let e = j.done in
      record {
        used = k.used ++ e.used;
        new = under (Join Chain) (k.new ++ e.new);
        split = k.split ∙ ap (λ x. k.used ++ x) e.split ∙ sym (append_assoc k.used e.used (words_of whole next));
        gives = longer k.gives e.gives;
        adds = adds_join k.adds (gives_rooted k.gives) e.adds (gives_rooted e.gives) j.pushed;
        shorter = omega (arith, k.shorter, e.shorter);
        follows = e.follows;
      }

  pub choice_turn : (p : ℕ) (mid : List ℕ) → words_of whole rest ≡ (p, bar) ∷ words_of whole mid → length mid < length rest → Joined names chain Choice d whole mid next i₁ o₁ i₂ o₂ → Done names choice chain d whole text rest i o i₁ o₁ → Done names choice chain d whole text next i o i₂ o₂
  choice_turn p mid w lt j k =
      let e = j.done in
      record {
        used = k.used ++ (p, bar) ∷ e.used;
        new = under (Join Choice) (k.new ++ e.new);
        split = k.split ∙ ap (λ x. k.used ++ x) (w ∙ ap (λ x. (p, bar) ∷ x) e.split) ∙ sym (append_assoc k.used ((p, bar) ∷ e.used) (words_of whole next));
        gives = wider p k.gives e.gives;
        adds = adds_join k.adds (gives_rooted k.gives) e.adds (gives_rooted e.gives) j.pushed;
        shorter = omega (arith, k.shorter, e.shorter);
        follows = e.follows;
      }

-- the atoms
module _ {names : List (List ℕ)} {d whole : ℕ} {text rest : List ℕ} {i i' : List Node} {o o' : Bool} where
  pub name_atom : (p : ℕ) (x : List ℕ) (t : ℕ) → words_of whole text ≡ (p, name x) ∷ words_of whole rest → length rest < length text → test_named names x ≡ Some t → Pushed (Leaf t) i o i' o' → Done names atom atom d whole text rest i o i' o'
  name_atom p x t w lt e u = record { used = (p, name x) ∷ []; new = node (Leaf t) 1 ∷ []; split = w; gives = named e; adds = adds_one u (λ b. refl); shorter = lt; follows = any_follows _ }

  pub nil_atom : (p : ℕ) → words_of whole text ≡ (p, nil) ∷ words_of whole rest → length rest < length text → Pushed NilShape i o i' o' → Done names atom atom d whole text rest i o i' o'
  nil_atom p w lt u = record { used = (p, nil) ∷ []; new = node NilShape 1 ∷ []; split = w; gives = is_nil; adds = adds_one u (λ b. refl); shorter = lt; follows = any_follows _ }

  pub void_atom : (p : ℕ) → words_of whole text ≡ (p, void) ∷ words_of whole rest → length rest < length text → Pushed VoidShape i o i' o' → Done names atom atom d whole text rest i o i' o'
  void_atom p w lt u = record { used = (p, void) ∷ []; new = node VoidShape 1 ∷ []; split = w; gives = is_void; adds = adds_one u (λ b. refl); shorter = lt; follows = any_follows _ }

pub bang_atom : {names : List (List ℕ)} {d whole : ℕ} {text mid rest : List ℕ} {i i' : List Node} {o o' : Bool} (p : ℕ) → words_of whole text ≡ (p, bang) ∷ words_of whole mid → length mid < length text → (h : NameRead names whole mid rest) → Adds i o i' o' (node (Leaf (length names + h.test)) 1 ∷ []) → Done names atom atom d whole text rest i o i' o'
bang_atom p w lt h a = record { used = (p, bang) ∷ (h.place, name h.own) ∷ []; new = node (Leaf _) 1 ∷ []; split = w ∙ ap (λ l. (p, bang) ∷ l) h.first; gives = opposite h.known; adds = a; shorter = omega (arith, h.shorter); follows = any_follows _ }

pub bracket_atom : {names : List (List ℕ)} {d whole : ℕ} {text mid last rest : List ℕ} {i i' : List Node} {o o' : Bool} (d' : ℕ) → d' ≡ suc d → d < 16 → (p q : ℕ) → words_of whole text ≡ (p, open') ∷ words_of whole mid → length mid < length text → Done names choice choice d' whole mid last i o i' o' → words_of whole last ≡ (q, close') ∷ words_of whole rest → length rest < length last → Done names atom atom d whole text rest i o i' o'
bracket_atom {names} {d} {whole} {text} {mid} {last} {rest} d' de dl p q w lt k v lt' =
    record {
      used = (p, open') ∷ (k.used ++ (q, close') ∷ []);
      new = k.new;
      split = w ∙ ap (λ x. (p, open') ∷ x) (k.split ∙ ap (λ x. k.used ++ x) v ∙ sym (append_assoc k.used ((q, close') ∷ []) (words_of whole rest)));
      gives = brackets p q dl (subst (λ j. Gives (by_list names) choice j k.used k.new) de k.gives);
      adds = k.adds;
      shorter = omega (arith, k.shorter);
      follows = any_follows _;
    }
