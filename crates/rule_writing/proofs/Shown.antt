-- What is written of a part, by the shape of its last node; and that it is written in one way.
use Rattle.std.proofs.Common.{◌≡◌, ℕ, ◌+◌, ◌-◌, List, ◌++◌, length, codes, sym, refl, ap, ◌∙◌, subst, ap₂, arith}
use Rattle.std.proofs.lemmas.Bool.{cond-true, cond-false, lt-ltb, le-ltb}
use Rattle.rules.specs.declared.node.Join.{Join as Joining}
use Rattle.rules.specs.declared.node.Node.{Node}
use Rattle.rules.specs.declared.node.Shape.{Shape}
use Rattle.rules.specs.declared.node.Shape.TheVariants.{Void, Nil, Leaf, Join, Repeat}
use Rattle.rules.specs.Nodes.{Rooted}
use Rattle.rule_text.specs.Grammar.{under}
use Rattle.rule_text.proofs.Drafting.{under_rooted}
use Rattle.rule_writing.specs.declared.place.Place.{Place}
use Rattle.rule_writing.specs.declared.place.Place.TheVariants.{Left, Right, Repeated}
use Rattle.rule_writing.specs.Texts.{name_at, between, needs_brackets, in_brackets, Writes, named, opposite, is_nil, is_void, starred, joined}
use Rattle.rule_writing.specs.Writing.{OneText}
use Rattle.rule_writing.specs.Parts.{leaf_text}
use Rattle.rule_writing.proofs.Unders.{top, top_under, beneath, same_parts}

pub writes_rooted : {names : List (List ℕ)} {place : Place} {ns : List Node} {text : List ℕ} → Writes names place ns text → Rooted ns
writes_rooted (named h) = (omega arith, refl)
writes_rooted (opposite h) = (omega arith, refl)
writes_rooted is_nil = (omega arith, refl)
writes_rooted is_void = (omega arith, refl)
writes_rooted (starred w) = under_rooted Repeat _
writes_rooted (joined w v) = under_rooted _ _

pub record ShownRepeat (names : List (List ℕ)) (ns : List Node) (text : List ℕ) : Type 0 where
  pub below : List Node
  pub inner : List ℕ
  pub list : ns ≡ under Repeat below
  pub writes : Writes names Repeated below inner
  pub is : text ≡ inner ++ codes "*"

pub record ShownJoin (names : List (List ℕ)) (place : Place) (j : Joining) (ns : List Node) (text : List ℕ) : Type 0 where
  pub ls : List Node
  pub rs : List Node
  pub left : List ℕ
  pub right : List ℕ
  pub list : ns ≡ under (Join j) (ls ++ rs)
  pub writes_left : Writes names (Left j) ls left
  pub writes_right : Writes names (Right j) rs right
  pub is : text ≡ in_brackets (needs_brackets place j) (left ++ (between j ++ right))

-- what is written of a part whose last node has this shape
abbrev pub Shown : List (List ℕ) → Place → List Node → List ℕ → Shape → Type 0
Shown names place ns text Void = text ≡ codes "void"
Shown names place ns text Nil = text ≡ codes "nil"
Shown names place ns text (Leaf t) = text ≡ leaf_text names t
Shown names place ns text (Join j) = ShownJoin names place j ns text
Shown names place ns text Repeat = ShownRepeat names ns text

pub shown : {names : List (List ℕ)} {place : Place} {ns : List Node} {text : List ℕ} → Writes names place ns text → Shown names place ns text (top ns)
shown {names} (named {t = t} h) = sym (cond-true _ _ _ (lt-ltb t (length names) h))
shown {names} (opposite {t = t} h) =
    let back : length names + t - length names ≡ t = omega arith in
    sym (cond-false _ _ _ (le-ltb (length names + t) (length names) (omega arith)) ∙ ap (λ (k : ℕ). codes "!" ++ name_at names k) back)
shown is_nil = refl
shown is_void = refl
shown {names} {place} (starred {ns = ns} {text = text} w) =
    subst (Shown names place (under Repeat ns) (text ++ codes "*")) (sym (top_under Repeat ns)) (record { below = ns; inner = text; list = refl; writes = w; is = refl })
shown {names} {place} (joined {j = j} {ls = ls} {rs = rs} {left = left} {right = right} w v) =
    subst (Shown names place (under (Join j) (ls ++ rs)) (in_brackets (needs_brackets place j) (left ++ (between j ++ right)))) (sym (top_under (Join j) (ls ++ rs)))
    (record { ls = ls; rs = rs; left = left; right = right; list = refl; writes_left = w; writes_right = v; is = refl })

-- the same of a list that is known to end in such a node
pub shown_as : {names : List (List ℕ)} {place : Place} {ns : List Node} {text : List ℕ} (x : Shape) → top ns ≡ x → Writes names place ns text → Shown names place ns text x
shown_as {names} {place} {ns} {text} x e w = subst (Shown names place ns text) e (shown w)

pub written_once : {names : List (List ℕ)} {place : Place} {ns : List Node} {text text' : List ℕ} → Writes names place ns text → Writes names place ns text' → text ≡ text'
written_once {names} (named {t = t} h) v = sym (shown_as (Leaf t) refl v ∙ cond-true _ _ _ (lt-ltb t (length names) h))
written_once {names} {place} (opposite {t = t} h) v = shown {place = place} (opposite h) ∙ sym (shown_as (Leaf (length names + t)) refl v)
written_once is_nil v = sym (shown_as Nil refl v)
written_once is_void v = sym (shown_as Void refl v)
written_once {names} (starred {ns = ns} w) v =
    let s = shown_as Repeat (top_under Repeat ns) v in
    let same = beneath Repeat Repeat _ _ s.list in
    ap (λ (x : List ℕ). x ++ codes "*") (written_once w (subst (λ (ms : List Node). Writes names Repeated ms s.inner) (sym same) s.writes)) ∙ sym s.is
written_once {names} {place} (joined {j = j} {ls = ls} {rs = rs} {left = left} {right = right} w v) u =
    let s = shown_as (Join j) (top_under (Join j) (ls ++ rs)) u in
    let all = beneath (Join j) (Join j) _ _ s.list in
    let same = same_parts ls s.ls rs s.rs (writes_rooted v) (writes_rooted s.writes_right) all in
    ap₂ (λ (x y : List ℕ). in_brackets (needs_brackets place j) (x ++ (between j ++ y)))
    (written_once w (subst (λ (ms : List Node). Writes names (Left j) ms s.left) (sym same.0) s.writes_left))
    (written_once v (subst (λ (ms : List Node). Writes names (Right j) ms s.right) (sym same.1) s.writes_right))
    ∙ sym s.is

pub one_text : OneText
one_text names ns text text' w v = written_once w v
