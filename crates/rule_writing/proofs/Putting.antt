-- One text written after another.
use Rattle.std.proofs.Common.{◌≡◌, ℕ, ◌+◌, ◌≤◌, Bool, true, false, cond, List, [], ◌++◌, length, take, drop, codes, sym, refl, ap, ◌∙◌, subst, ap₂, append_assoc, append-nil, arith, length-append, length-drop, length-take}
use Rattle.std.proofs.lemmas.List.{drop-drop}
use Rattle.std.proofs.lemmas.Slice.{take-put_mid, drop-put_mid}
use Rattle.rules.specs.declared.node.Join.{Join as Joining}
use Rattle.rules.specs.declared.node.Node.{Node}
use Rattle.rules.specs.declared.node.Form.TheVariants.{Join}
use Rattle.rules.specs.Nodes.{form_at, WellFormed}
use Rattle.rule_writing.specs.declared.place.Place.{Place}
use Rattle.rule_writing.specs.declared.place.Place.TheVariants.{Left, Right}
use Rattle.rule_writing.specs.Texts.{between, needs_brackets, in_brackets}
use Rattle.rule_writing.specs.Parts.{text_at, Puts}
use Rattle.rule_writing.proofs.Positions.{text_as}

pub put_length : {text before after : List ℕ} {at end : ℕ} → at + length text ≤ length before → Puts text before at after end → length after ≡ length before
put_length {text} {before} {after} {at} h p =
    omega (arith, ap length p.bytes, length-append (take at before) (text ++ drop (length text) (drop at before)), length-append text (drop (length text) (drop at before)), length-take at before, length-drop (length text) (drop at before), length-drop at before)

pub put_then : {u v before middle after : List ℕ} {at mid end : ℕ} → at + length (u ++ v) ≤ length before → Puts u before at middle mid → Puts v middle mid after end → Puts (u ++ v) before at after end
put_then {u} {v} {before} {middle} {after} {at} {mid} {end} h p q =
    let long = length-append u v in
    let front : take mid middle ≡ take at before ++ u = ap₂ take p.ends p.bytes ∙ take-put_mid at (length u) before u (at + length u) refl (omega arith) in
    let rest : drop mid middle ≡ drop (at + length u) before = ap₂ drop p.ends p.bytes ∙ drop-put_mid at (length u) before u (at + length u) (omega arith) (omega arith) refl in
    let past : drop (length v) (drop mid middle) ≡ drop (length (u ++ v)) (drop at before) =
    ap (drop (length v)) rest ∙ drop-drop (length v) (at + length u) before ∙ ap (λ (k : ℕ). drop k before) (omega arith) ∙ sym (drop-drop (length (u ++ v)) at before) in
    record {
      bytes =
          q.bytes ∙ ap₂ (λ (xs ys : List ℕ). xs ++ (v ++ ys)) front past
          ∙ append_assoc (take at before) u (v ++ drop (length (u ++ v)) (drop at before))
          ∙ ap (λ (xs : List ℕ). take at before ++ xs) (sym (append_assoc u v (drop (length (u ++ v)) (drop at before))));
      ends = q.ends ∙ (omega (arith, p.ends));
    }

pub put_as : {text text' before after : List ℕ} {at end : ℕ} → text ≡ text' → Puts text before at after end → Puts text' before at after end
put_as {before = before} {after} {at} {end} e p = subst (λ (t : List ℕ). Puts t before at after end) e p

-- what stands around a text is its brackets
pub around : (b : Bool) (text : List ℕ) → cond b (codes "(") [] ++ (text ++ cond b (codes ")") []) ≡ in_brackets b text
around true text = refl
around false text = append-nil text

-- the text of a chain or a choice, part after part
pub join_text : (names : List (List ℕ)) (ns : List Node) → WellFormed ns → (place : Place) (p l r : ℕ) (j : Joining) (b : Bool) (pre post mid : List ℕ) → form_at ns p ≡ Join j l r → b ≡ needs_brackets place j → pre ≡ cond b (codes "(") [] → post ≡ cond b (codes ")") [] → mid ≡ between j
    → pre ++ (text_at names ns (Left j) l ++ (mid ++ (text_at names ns (Right j) r ++ post))) ≡ text_at names ns place p
join_text names ns w place p l r j b pre post mid e c o k m =
    let u = text_at names ns (Left j) l in
    let v = text_at names ns (Right j) r in
    ap (λ (xs : List ℕ). pre ++ (u ++ xs)) (sym (append_assoc mid v post))
    ∙ ap (λ (xs : List ℕ). pre ++ xs) (sym (append_assoc u (mid ++ v) post))
    ∙ ap (λ (xs : List ℕ). pre ++ ((u ++ (xs ++ v)) ++ post)) m
    ∙ ap₂ (λ (xs ys : List ℕ). xs ++ ((u ++ (between j ++ v)) ++ ys)) o k
    ∙ around b (u ++ (between j ++ v))
    ∙ ap (λ (a : Bool). in_brackets a (u ++ (between j ++ v))) c
    ∙ sym (text_as names ns w place p (Join j l r) e)

-- as many bytes as its parts have
pub join_long : (pre u mid v post text : List ℕ) → pre ++ (u ++ (mid ++ (v ++ post))) ≡ text → length text ≡ length pre + (length u + (length mid + (length v + length post)))
join_long pre u mid v post text e =
    omega (arith, ap length e, length-append pre (u ++ (mid ++ (v ++ post))), length-append u (mid ++ (v ++ post)), length-append mid (v ++ post), length-append v post)

pub put_join : {pre u mid v post m₀ m₁ m₂ m₃ m₄ m₅ : List ℕ} {a₀ a₁ a₂ a₃ a₄ a₅ : ℕ} (text : List ℕ) → pre ++ (u ++ (mid ++ (v ++ post))) ≡ text → a₀ + length text ≤ length m₀
    → Puts pre m₀ a₀ m₁ a₁ → Puts u m₁ a₁ m₂ a₂ → Puts mid m₂ a₂ m₃ a₃ → Puts v m₃ a₃ m₄ a₄ → Puts post m₄ a₄ m₅ a₅ → Puts text m₀ a₀ m₅ a₅
put_join {pre} {u} {mid} {v} {post} {m₀} {m₁} {m₂} {m₃} {m₄} {m₅} {a₀} {a₁} {a₂} {a₃} {a₄} text e h p₁ p₂ p₃ p₄ p₅ =
    let all = join_long pre u mid v post text e in
    let k₁ = put_length (omega arith) p₁ in
    let k₂ = put_length (omega (arith, p₁.ends)) p₂ in
    let k₃ = put_length (omega (arith, p₁.ends, p₂.ends)) p₃ in
    let l₄ = length-append v post in
    let l₃ = length-append mid (v ++ post) in
    let l₂ = length-append u (mid ++ (v ++ post)) in
    put_as e (put_then (omega (arith, ap length e)) p₁ (put_then (omega (arith, p₁.ends)) p₂ (put_then (omega (arith, p₁.ends, p₂.ends)) p₃ (put_then (omega (arith, p₁.ends, p₂.ends, p₃.ends)) p₄ p₅))))
