-- What pushing a node does to the nodes that a draft holds.
use Rattle.std.proofs.Common.{◌≡◌, ℕ, ◌+◌, ◌-◌, Bool, true, false, cond, leb, List, [], ◌∷◌, ◌++◌, length, Some, refl, ap, ◌∙◌, subst, inl, inr, append_assoc, arith, length-append}
use Rattle.std.proofs.lemmas.List.{get_or_append_left, get_or-append_right, get_or_push}
use Rattle.std.proofs.lemmas.Bool.{cases_lt, lt-leb, le-leb, lt-ltb, cond-true, cond-false}
use Rattle.rules.specs.declared.node.Join.{Join as JoinKind}
use Rattle.rules.specs.declared.node.Node.{Node}
use Rattle.rules.specs.declared.node.Shape.{Shape}
use Rattle.rules.specs.declared.node.Shape.TheVariants.{Join, Repeat}
use Rattle.rules.specs.Nodes.{node, no_node, size_at, size_for, Rooted, with_node, grown}
use Rattle.rule_text.specs.Grammar.{Gives, named, opposite, is_nil, is_void, brackets, plain, starred, single, longer, alone, wider, under, Level, Naming}
use Rattle.rule_text.specs.Words.{Word}
use Rattle.rule_text.specs.Readers.{Pushed, Holds, Adds}

-- what a push tells of its draft, which counts its nodes
pub pushed : {x : Shape} {len : ℕ} {items : List Node} {over : Bool} {items' : List Node} {over' : Bool} → len ≡ length items → items' ≡ cond (leb 512 len) items (grown items x) → over' ≡ cond (leb 512 len) true over → Pushed x items over items' over'
pushed {x} {len} {items} {over} long list flag =
    record {
      list = list ∙ ap (λ (k : ℕ). cond (leb 512 k) items (grown items x)) long;
      flag = flag ∙ ap (λ (k : ℕ). cond (leb 512 k) true over) long;
    }

-- a node's part, and the last node of a list
pub under_rooted : (x : Shape) (ns : List Node) → Rooted (under x ns)
under_rooted x ns =
    let n = length ns in
    let long = length-append ns (node x (n + 1) ∷ []) in
    let last : length (under x ns) - 1 ≡ n = omega arith in
    (omega arith, ap (λ (k : ℕ). size_at (under x ns) k) last ∙ ap (λ (m : Node). m.size) (get_or_push ns (node x (n + 1)) no_node n refl) ∙ (omega arith))

pub gives_rooted : {m : Naming} {l : Level} {d : ℕ} {ws : List (ℕ × Word)} {ns : List Node} → Gives m l d ws ns → Rooted ns
gives_rooted (named e) = (omega arith, refl)
gives_rooted (opposite e) = (omega arith, refl)
gives_rooted is_nil = (omega arith, refl)
gives_rooted is_void = (omega arith, refl)
gives_rooted (brackets p q k g) = gives_rooted g
gives_rooted (plain g) = gives_rooted g
gives_rooted (starred p {ns = ns} g) = under_rooted Repeat ns
gives_rooted (single g) = gives_rooted g
gives_rooted (longer g h) = under_rooted _ _
gives_rooted (alone g) = gives_rooted g
gives_rooted (wider p g h) = under_rooted _ _

-- the last node after a rooted list is that list's root
pub last_size : (before ns : List Node) → Rooted ns → size_at (before ++ ns) (length (before ++ ns) - 1) ≡ length ns
last_size before ns r =
    let long = length-append before ns in
    let at : length (before ++ ns) - 1 - length before ≡ length ns - 1 = omega arith in
    ap (λ (m : Node). m.size) (get_or-append_right before ns (length before) (length (before ++ ns) - 1) no_node refl (omega arith)) ∙ ap (size_at ns) at ∙ r.1

repeat_size : (before ns : List Node) → Rooted ns → size_for (size_at (before ++ ns)) Repeat (length (before ++ ns)) ≡ Some (length ns + 1)
repeat_size before ns r =
    let long = length-append before ns in
    cond-true _ _ _ (lt-ltb 0 (length (before ++ ns)) (omega arith)) ∙ ap (λ (k : ℕ). Some (1 + k)) (last_size before ns r) ∙ ap (λ (k : ℕ). Some k) (omega arith)

join_size : (j : JoinKind) (before ls rs : List Node) → Rooted ls → Rooted rs → size_for (size_at ((before ++ ls) ++ rs)) (Join j) (length ((before ++ ls) ++ rs)) ≡ Some (length (ls ++ rs) + 1)
join_size j before ls rs p q =
    let all = (before ++ ls) ++ rs in
    let n = length all in
    let long = length-append (before ++ ls) rs in
    let part = length-append before ls in
    let both = length-append ls rs in
    let right = last_size (before ++ ls) rs q in
    let at : n - 1 - size_at all (n - 1) ≡ length (before ++ ls) - 1 = omega arith in
    let left : size_at all (n - 1 - size_at all (n - 1)) ≡ length ls =
    ap (size_at all) at ∙ ap (λ (m : Node). m.size) (get_or_append_left (before ++ ls) rs no_node (length (before ++ ls) - 1) (omega arith)) ∙ last_size before ls p in
    cond-true _ _ _ (lt-ltb (size_at all (n - 1)) n (omega arith)) ∙ ap (λ (k : ℕ). Some k) (omega arith)

-- one node more
push_holds : {x : Shape} {items : List Node} {over : Bool} {items' : List Node} {over' : Bool} → Pushed x items over items' over' → (b : List Node) (s : ℕ) → size_for (size_at b) x (length b) ≡ Some s → Holds items over b → Holds items' over' (b ++ node x s ∷ [])
push_holds {x} {items} {over} p b s e (inl (few, is, under')) =
    let long = length-append b (node x s ∷ []) in
    let size : length items ≡ length b = ap length is in
    elim (cases_lt (length b) 512) [
      | inl lt ↦
          (let room = lt-leb 512 (length items) (omega arith) in
          inl (
            omega arith,
            p.list ∙ cond-false _ _ _ room ∙ ap (λ (l : List Node). grown l x) is ∙ ap (with_node b x) e,
            p.flag ∙ cond-false _ _ _ room ∙ under',
          ))
      | inr ge ↦
          (let full = le-leb 512 (length items) (omega arith) in
          inr (omega arith, p.flag ∙ cond-true _ _ _ full))
    ]
push_holds {x} {items} {over = over} p b s e (inr (many, past)) =
    let long = length-append b (node x s ∷ []) in
    inr (omega arith, p.flag ∙ ap (cond (leb 512 (length items)) true) past ∙ either (leb 512 (length items)))
  where
    either : (b : Bool) → cond b true true ≡ true
    either true = refl
    either false = refl

-- a node without children
pub adds_one : {x : Shape} {i₀ i₁ : List Node} {o₀ o₁ : Bool} → Pushed x i₀ o₀ i₁ o₁ → ((b : List Node) → size_for (size_at b) x (length b) ≡ Some 1) → Adds i₀ o₀ i₁ o₁ (node x 1 ∷ [])
adds_one p e before h = push_holds p before 1 (e before) h

-- a repeat
pub adds_repeat : {ns : List Node} {i₀ i₁ i₂ : List Node} {o₀ o₁ o₂ : Bool} → Adds i₀ o₀ i₁ o₁ ns → Rooted ns → Pushed Repeat i₁ o₁ i₂ o₂ → Adds i₀ o₀ i₂ o₂ (under Repeat ns)
adds_repeat {ns} {i₂ = i₂} {o₂ = o₂} a r p before h =
    subst (Holds i₂ o₂) (append_assoc before ns (node Repeat (length ns + 1) ∷ [])) (push_holds p (before ++ ns) (length ns + 1) (repeat_size before ns r) (a before h))

-- a chain or a choice
pub adds_join : {j : JoinKind} {ls rs : List Node} {i₀ i₁ i₂ i₃ : List Node} {o₀ o₁ o₂ o₃ : Bool} → Adds i₀ o₀ i₁ o₁ ls → Rooted ls → Adds i₁ o₁ i₂ o₂ rs → Rooted rs → Pushed (Join j) i₂ o₂ i₃ o₃ → Adds i₀ o₀ i₃ o₃ (under (Join j) (ls ++ rs))
adds_join {j} {ls} {rs} {i₃ = i₃} {o₃ = o₃} a p b q u before h =
    let n = node (Join j) (length (ls ++ rs) + 1) in
    subst (Holds i₃ o₃) (ap (λ (l : List Node). l ++ n ∷ []) (append_assoc before ls rs) ∙ append_assoc before (ls ++ rs) (n ∷ []))
    (push_holds u ((before ++ ls) ++ rs) (length (ls ++ rs) + 1) (join_size j before ls rs p q) (b (before ++ ls) (a before h)))
