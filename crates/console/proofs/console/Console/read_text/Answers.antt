use Rattle.std.proofs.Common.{◌≡◌, ◌-◌, true, length, take, is_ok, vec_items, vec_len, refl, ap, ◌∙◌, arith, rules}
use Rattle.console.specs.Boxes.{box_of}
use Rattle.console.proofs.Progress.{none_yet, line_more, whole, appended, grown}
use Rattle.console.proofs.Reaching.{law_of_text}
use Rattle.console.proofs.console.Console.read_text.Goals as goal

pub loop-reply-init : goal.loop-reply-init
loop-reply-init g c =
    let a = c.in-Ok.ensures in
    let m = c.in_ok-answers.ensures in
    (a.1, refl, omega (arith, a.2), omega (arith, m.capacity), omega (arith, m.len), none_yet _ _ _ _ a.2 m.items)

pub loop-reply-preserved : goal.loop-reply-preserved
loop-reply-preserved g c =
    let i = c.loop-reply.invariant in
    let reply = c.in-Some.reply in
    let r = c.record.ensures in
    let found = c.in-Some.ensures in
    let on = rw found at r.onward in
    let step = rw found at r.step in
    let x = c.extend_from_slice.ensures in
    let ok : is_ok c.extend_from_slice.result ≡ true = ap is_ok c.unwrap-in-Some.ensures in
    let n = reply.written in
    let items = appended _ (vec_items c.loop-reply.answers) (vec_items c.extend_from_slice.new.self) (take (n - 0) c.record.new.line) ok x.items in
    let len = grown _ (vec_len c.loop-reply.answers) (vec_len c.extend_from_slice.new.self) n c.record.new.line ok x.len in
    let e = ap length i.0 in (
      ap (λ y. y.now) r.text ∙ i.0,
      search rules,
      omega (arith, on.1, e),
      omega (arith, i.3, x.capacity),
      omega (arith, i.4, len, on.0, on.2),
      line_more _ _ _ _ _ _ _ _ _ _ reply (n - 0) i.5 _ i.0 step (omega arith) items,
    )

pub returns : goal.returns
returns g c =
    let text = c.args.text.now in
    let b = box_of c.args.self.now in
    let i = c.loop-reply.invariant in
    let r = c.record.ensures in
    let none = c.in_default-unwrap.ensures in
    let step = rw none at r.step in
    let f = i.5 in
    let e = step.2 ∙ f.box in
    record {
      lines = f.lines;
      reading = whole text c.loop-reply.records.at b _ _ (omega (arith, rw none at r.onward, ap length i.0)) f;
      answers = f.answers;
      box = e;
      law = law_of_text b (box_of c.record.new.self) f.lines e c.record.new.self.site.house.lawful;
    }
