-- The text of each form, part after part.
use Rattle.std.proofs.Common.{◌≡◌, ℕ, ◌+◌, Bool, cond, List, [], length, vec_items, codes, sym, refl, ap, ◌∙◌, arith, length-append}
use Rattle.rules.specs.declared.node.Join.{Join as Joining}
use Rattle.rules.specs.Nodes.{form_at}
use Rattle.rule_writing.specs.declared.place.Place.{Place}
use Rattle.rule_writing.specs.Texts.{between, needs_brackets}
use Rattle.rules.specs.declared.node.Form.{Form}
use Rattle.rules.specs.declared.node.Form.TheVariants.{Void, Nil, Leaf, Join, Repeat}
use Rattle.rules.proofs.Spans.{spans, join_facts, repeat_facts}
use Rattle.rule_writing.specs.declared.place.Place.TheVariants.{Left, Right, Repeated}
use Rattle.rule_writing.specs.Parts.{text_at}
use Rattle.rule_writing.specs.declared.writer.Writer.{Writer}
use Rattle.rule_writing.specs.Parts.{text_of}
use Rattle.rule_writing.proofs.Positions.{text_as}
use Rattle.rule_writing.proofs.Putting.{put_then, put_as, put_join, join_text, join_long}
use Rattle.rule_writing.proofs.writer.Writer.+put.Goals as goal

-- what is written of a node, by the form that it has
abbrev text_of_node : Writer → Place → ℕ → List ℕ
text_of_node w place p = text_at w.names.entries.now (vec_items w.rule.now.nodes) place p

text_is : (w : Writer) (place : Place) (p : ℕ) (form : Form) → form_at (vec_items w.rule.now.nodes) p ≡ form → text_of_node w place p ≡ text_of w.names.entries.now place form (text_of_node w)
text_is w = text_as w.names.entries.now (vec_items w.rule.now.nodes) w.rule.now.formed

pub push-requires : goal.push-requires
push-requires t c = omega (arith, c.requires.room, ap length (text_is c.args.self c.args.place c.args.p Void (sym c.in-Void.ensures)))

pub push-requires-in-Nil : goal.push-requires-in-Nil
push-requires-in-Nil t c = omega (arith, c.requires.room, ap length (text_is c.args.self c.args.place c.args.p Nil (sym c.in-Nil.ensures)))

pub push-requires-in-Leaf : goal.push-requires-in-Leaf
push-requires-in-Leaf t c =
    let is = c.leaf_parts.ensures.text ∙ sym (text_is c.args.self c.args.place c.args.p (Leaf c.in-Leaf.test) (sym c.in-Leaf.ensures)) in
    omega (arith, c.requires.room, ap length is, length-append c.leaf_parts.result.0.now c.leaf_parts.result.1.now)

pub push-requires-in-Leaf-2 : goal.push-requires-in-Leaf-2
push-requires-in-Leaf-2 t c =
    let is = c.leaf_parts.ensures.text ∙ sym (text_is c.args.self c.args.place c.args.p (Leaf c.in-Leaf.test) (sym c.in-Leaf.ensures)) in
    omega (arith, c.requires.room, ap length is, length-append c.leaf_parts.result.0.now c.leaf_parts.result.1.now, c.push-in-Leaf.ensures.puts.ends, c.push-in-Leaf.ensures.room)

pub put-requires : goal.put-requires
put-requires t c =
    let f = repeat_facts (spans (vec_items c.args.self.rule.now.nodes) c.args.self.rule.now.formed) c.args.p c.in-Repeat.child (sym c.in-Repeat.ensures) in
    let is = text_is c.args.self c.args.place c.args.p (Repeat c.in-Repeat.child) (sym c.in-Repeat.ensures) in
    (omega arith, (omega arith, (omega (arith, c.requires.room, ap length is, length-append (text_of_node c.args.self Repeated c.in-Repeat.child) (codes "*")))))

pub push-requires-in-Repeat : goal.push-requires-in-Repeat
push-requires-in-Repeat t c =
    let is = text_is c.args.self c.args.place c.args.p (Repeat c.in-Repeat.child) (sym c.in-Repeat.ensures) in
    omega (arith, c.requires.room, ap length is, length-append (text_of_node c.args.self Repeated c.in-Repeat.child) (codes "*"), c.put.ensures.puts.ends, c.put.ensures.room)

pub returns-in-Void-clause-puts : goal.returns-in-Void-clause-puts
returns-in-Void-clause-puts t c = put_as (sym (text_is c.args.self c.args.place c.args.p Void (sym c.in-Void.ensures))) c.push.ensures.puts

pub returns-in-Nil-clause-puts : goal.returns-in-Nil-clause-puts
returns-in-Nil-clause-puts t c = put_as (sym (text_is c.args.self c.args.place c.args.p Nil (sym c.in-Nil.ensures))) c.push-in-Nil.ensures.puts

pub returns-in-Leaf-clause-puts : goal.returns-in-Leaf-clause-puts
returns-in-Leaf-clause-puts t c =
    let is = c.leaf_parts.ensures.text ∙ sym (text_is c.args.self c.args.place c.args.p (Leaf c.in-Leaf.test) (sym c.in-Leaf.ensures)) in
    put_as is (put_then (omega (arith, c.requires.room, ap length is)) c.push-in-Leaf.ensures.puts c.push-in-Leaf-2.ensures.puts)

pub returns-in-Repeat-clause-puts : goal.returns-in-Repeat-clause-puts
returns-in-Repeat-clause-puts t c =
    let is = sym (text_is c.args.self c.args.place c.args.p (Repeat c.in-Repeat.child) (sym c.in-Repeat.ensures)) in
    put_as is (put_then (omega (arith, c.requires.room, ap length is)) c.put.ensures.puts c.push-in-Repeat.ensures.puts)

-- how many bytes the parts of a chain or a choice have together
join_room : (w : Writer) (place : Place) (p l r : ℕ) (j : Joining) (b : Bool) (pre post : List ℕ) → form_at (vec_items w.rule.now.nodes) p ≡ Join j l r → b ≡ needs_brackets place j → pre ≡ cond b (codes "(") [] → post ≡ cond b (codes ")") []
    → length (text_of_node w place p) ≡ length pre + (length (text_of_node w (Left j) l) + (length (between j) + (length (text_of_node w (Right j) r) + length post)))
join_room w place p l r j b pre post e c o k =
    join_long pre (text_of_node w (Left j) l) (between j) (text_of_node w (Right j) r) post (text_of_node w place p) (join_text w.names.entries.now (vec_items w.rule.now.nodes) w.rule.now.formed place p l r j b pre post (between j) e c o k refl)

pub push-requires-in-Join : goal.push-requires-in-Join
push-requires-in-Join t c =
    let room = join_room c.args.self c.args.place c.args.p c.in-Join.left c.in-Join.right c.in-Join.join _ _ _ (sym c.in-Join.ensures) c.needs_brackets.ensures c.brackets.ensures.open c.brackets.ensures.close in
    omega (arith, room, c.requires.room)

pub put-requires-in-Join : goal.put-requires-in-Join
put-requires-in-Join t c =
    let f = join_facts (spans (vec_items c.args.self.rule.now.nodes) c.args.self.rule.now.formed) c.args.p c.in-Join.left c.in-Join.right c.in-Join.join (sym c.in-Join.ensures) in
    let room = join_room c.args.self c.args.place c.args.p c.in-Join.left c.in-Join.right c.in-Join.join _ _ _ (sym c.in-Join.ensures) c.needs_brackets.ensures c.brackets.ensures.open c.brackets.ensures.close in
    (omega arith, (omega arith, (omega (arith, room, c.requires.room, c.push-in-Join.ensures.puts.ends, c.push-in-Join.ensures.room))))

pub push-requires-in-Join-2 : goal.push-requires-in-Join-2
push-requires-in-Join-2 t c =
    let room = join_room c.args.self c.args.place c.args.p c.in-Join.left c.in-Join.right c.in-Join.join _ _ _ (sym c.in-Join.ensures) c.needs_brackets.ensures c.brackets.ensures.open c.brackets.ensures.close in
    omega (arith, room, c.requires.room, ap length c.between.ensures, c.push-in-Join.ensures.puts.ends, c.push-in-Join.ensures.room, c.put-in-Join.ensures.puts.ends, c.put-in-Join.ensures.room)

pub put-requires-in-Join-2 : goal.put-requires-in-Join-2
put-requires-in-Join-2 t c =
    let f = join_facts (spans (vec_items c.args.self.rule.now.nodes) c.args.self.rule.now.formed) c.args.p c.in-Join.left c.in-Join.right c.in-Join.join (sym c.in-Join.ensures) in
    let room = join_room c.args.self c.args.place c.args.p c.in-Join.left c.in-Join.right c.in-Join.join _ _ _ (sym c.in-Join.ensures) c.needs_brackets.ensures c.brackets.ensures.open c.brackets.ensures.close in
    (omega arith, (omega arith, (omega (arith, room, c.requires.room, ap length c.between.ensures, c.push-in-Join.ensures.puts.ends, c.push-in-Join.ensures.room, c.put-in-Join.ensures.puts.ends, c.put-in-Join.ensures.room, c.push-in-Join-2.ensures.puts.ends, c.push-in-Join-2.ensures.room))))

pub push-requires-in-Join-3 : goal.push-requires-in-Join-3
push-requires-in-Join-3 t c =
    let room = join_room c.args.self c.args.place c.args.p c.in-Join.left c.in-Join.right c.in-Join.join _ _ _ (sym c.in-Join.ensures) c.needs_brackets.ensures c.brackets.ensures.open c.brackets.ensures.close in
    omega (arith, room, c.requires.room, ap length c.between.ensures, c.push-in-Join.ensures.puts.ends, c.push-in-Join.ensures.room, c.put-in-Join.ensures.puts.ends, c.put-in-Join.ensures.room, c.push-in-Join-2.ensures.puts.ends, c.push-in-Join-2.ensures.room, c.put-in-Join-2.ensures.puts.ends, c.put-in-Join-2.ensures.room)

pub returns-in-Join-clause-puts : goal.returns-in-Join-clause-puts
returns-in-Join-clause-puts t c =
    put_join _ (join_text c.args.self.names.entries.now (vec_items c.args.self.rule.now.nodes) c.args.self.rule.now.formed c.args.place c.args.p c.in-Join.left c.in-Join.right c.in-Join.join _ _ _ _ (sym c.in-Join.ensures) c.needs_brackets.ensures c.brackets.ensures.open c.brackets.ensures.close c.between.ensures)
    c.requires.room c.push-in-Join.ensures.puts c.put-in-Join.ensures.puts c.push-in-Join-2.ensures.puts c.put-in-Join-2.ensures.puts c.push-in-Join-3.ensures.puts
