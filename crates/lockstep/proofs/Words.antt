-- There is one word, and short of a node is the length of its word.
use Rattle.std.proofs.Common.{◌≡◌, ℕ, ◌<◌, Bool, true, false, cond, List, [], ◌∷◌, length, Some, None, Option, sym, refl, ap, ◌∙◌, ap₂, inl, inr, arith, length-append}
use Rattle.std.proofs.lemmas.Bool.Decides.{leb_tells}
use Rattle.rules.specs.declared.node.Node.{Node}
use Rattle.rules.specs.declared.node.Join.TheVariants.{Chain as chain, Choice as choice}
use Rattle.rules.specs.declared.node.Form.{Form}
use Rattle.rules.specs.declared.node.Form.TheVariants.{Void as void, Nil as nil, Leaf as leaf, Join as join, Repeat as repeat}
use Rattle.rules.specs.Nodes.{form_at, WellFormed}
use Rattle.rules.proofs.Sizes.{strong}
use Rattle.rules.proofs.Spans.{spans, join_facts}
use Rattle.lockstep.specs.Far.{sum, smaller, short_of}
use Rattle.lockstep.specs.Word.{in_turn, shorter, word_of, length_of, OneWord, ShortOfWord}

length_turn : (a b : Option (List ℕ)) → sum (length_of a) (length_of b) ≡ length_of (in_turn a b)
length_turn None b = refl
length_turn (Some x) None = refl
length_turn (Some x) (Some y) = ap Some (sym (length-append x y))

length_shorter : (a b : Option (List ℕ)) → smaller (length_of a) (length_of b) ≡ length_of (shorter a b)
length_shorter None b = refl
length_shorter (Some x) None = refl
length_shorter (Some x) (Some y) = elim (leb_tells (length x) (length y)) [ inl e ↦ rw e.0 | inr e ↦ rw e.0 ]

length_leaf : (b : Bool) (t : ℕ) → cond b (Some 1) None ≡ length_of (cond b (Some (t ∷ [])) None)
length_leaf true t = refl
length_leaf false t = refl

-- the word of a node is told by those before it
word_from : (ns : List Node) → WellFormed ns → (possible : ℕ → Bool) (p : ℕ) (at at' : ℕ → Option (List ℕ)) → ((q : ℕ) → q < p → at q ≡ at' q) → (x : Form) → form_at ns p ≡ x → word_of possible x at ≡ word_of possible x at'
word_from ns w possible p at at' same void e = refl
word_from ns w possible p at at' same nil e = refl
word_from ns w possible p at at' same (leaf t) e = refl
word_from ns w possible p at at' same (join chain l r) e = let f = join_facts (spans ns w) p l r chain e in ap₂ in_turn (same l (omega arith)) (same r (omega arith))
word_from ns w possible p at at' same (join choice l r) e = let f = join_facts (spans ns w) p l r choice e in ap₂ shorter (same l (omega arith)) (same r (omega arith))
word_from ns w possible p at at' same (repeat c) e = refl

pub one_word : OneWord
one_word ns w possible word word' W W' = strong (λ p. p < length ns → word p ≡ word' p) (λ p ih h. W p h ∙ word_from ns w possible p word word' (λ q k. ih q k (omega arith)) (form_at ns p) refl ∙ sym (W' p h))

pub short_of_word : ShortOfWord
short_of_word ns w possible short word S W = strong (λ p. p < length ns → short p ≡ length_of (word p)) (λ p ih h. S p h ∙ go p (λ q k. ih q k (omega arith)) (form_at ns p) refl ∙ ap length_of (sym (W p h)))
  where
    go : (p : ℕ) → ((q : ℕ) → q < p → short q ≡ length_of (word q)) → (x : Form) → form_at ns p ≡ x → short_of possible x short ≡ length_of (word_of possible x word)
    go p ih void e = refl
    go p ih nil e = refl
    go p ih (leaf t) e = length_leaf (possible t) t
    go p ih (join chain l r) e = let f = join_facts (spans ns w) p l r chain e in ap₂ sum (ih l (omega arith)) (ih r (omega arith)) ∙ length_turn (word l) (word r)
    go p ih (join choice l r) e = let f = join_facts (spans ns w) p l r choice e in ap₂ smaller (ih l (omega arith)) (ih r (omega arith)) ∙ length_shorter (word l) (word r)
    go p ih (repeat c) e = refl
