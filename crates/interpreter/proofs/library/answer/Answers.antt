use Rattle.std.proofs.Common.{rules, ◌≡◌, ◌++◌, sym, ap, ◌∙◌, w64, to_z, of_z}
use Rattle.std.proofs.lemmas.Int.{to_z-of_z}
use Rattle.jtypes.specs.Library.{library}
use Rattle.jtypes.specs.Loading.{left_by}
use Rattle.jtypes.specs.Lists.{result_list}
use Rattle.mutentry.specs.Change.{Change}
use Rattle.interpreter.specs.Replies.{replied, reply_of}
use Rattle.interpreter.proofs.Onward.{with_values}
use Rattle.interpreter.proofs.Taken.{same_self}
use Rattle.interpreter.proofs.Replying.{reply_is, never_misses, given, faulted, told_entry, keeps_entry, answerable}
use Rattle.interpreter.proofs.library.answer.Goals as goal

pub call-requires : goal.call-requires
call-requires c e =
    let (k, vs, held, r) = c.requires in
    let m = c.args.machine.now in
    let key : to_z w64 (of_z w64 m.key) ≡ m.key = to_z-of_z w64 m.key (search rules) in
    let is = reply_is k m c.args.native vs c.args.values.now (to_z w64 (of_z w64 m.key)) r.at key held in
    never_misses k c.args.native (reply_of c.args.native vs k) k.top.operands r.next r.is (sym is ∙ e)

pub push_answer-requires : goal.push_answer-requires
push_answer-requires c =
    let (k, vs, held, r) = c.requires in
    let m = c.args.machine.now in
    let key : to_z w64 (of_z w64 m.key) ≡ m.key = to_z-of_z w64 m.key (search rules) in
    let is = reply_is k m c.args.native vs c.args.values.now (to_z w64 (of_z w64 m.key)) r.at key held in
    let g = given c.args.native (library c.args.native (to_z w64 (of_z w64 m.key)) m.entry.now.entry c.args.values.now) c.call.result c.in-Ok.answer m.entry c.call.new.entry c.call.ensures c.in-Ok.is in
    (k.state.arrays, k.top.locals, k.top.operands, k.below, answerable k m c.args.native vs c.in-Ok.answer g.0 r (sym is ∙ g.1))

pub returns-in-Ok-clause-told : goal.returns-in-Ok-clause-told
returns-in-Ok-clause-told c k vs held r =
    let m = c.args.machine.now in
    let key : to_z w64 (of_z w64 m.key) ≡ m.key = to_z-of_z w64 m.key (search rules) in
    let is = reply_is k m c.args.native vs c.args.values.now (to_z w64 (of_z w64 m.key)) r.at key held in
    let g = given c.args.native (library c.args.native (to_z w64 (of_z w64 m.key)) m.entry.now.entry c.args.values.now) c.call.result c.in-Ok.answer m.entry c.call.new.entry c.call.ensures c.in-Ok.is in
    let reads = c.push_answer.ensures.pushes k.state.arrays k.top.locals k.top.operands k.below (answerable k m c.args.native vs c.in-Ok.answer g.0 r (sym is ∙ g.1)) in (
      record k.state { now = left_by c.args.native k.state.now g.0 },
      with_values k.top k.top.locals (result_list c.in-Ok.answer ++ k.top.operands),
      k.below,
      told_entry k m c.push_answer.new.slots c.call.new.entry c.args.native g.0 (result_list c.in-Ok.answer ++ k.top.operands) r.at c.push_answer.ensures.same reads g.2,
      ap (λ r. replied c.args.native r k.top.operands k) (sym is ∙ g.1),
    )

pub returns-in-Ok-clause-keeps : goal.returns-in-Ok-clause-keeps
returns-in-Ok-clause-keeps c =
    let m = c.args.machine.now in
    let g = given c.args.native (library c.args.native (to_z w64 (of_z w64 m.key)) m.entry.now.entry c.args.values.now) c.call.result c.in-Ok.answer m.entry c.call.new.entry c.call.ensures c.in-Ok.is in
    keeps_entry m c.push_answer.new.slots c.call.new.entry c.push_answer.ensures.same (ap (λ (e : Change). e.before) g.2) (ap (λ (e : Change). e.now.asked) g.2)

pub returns-in-Err-clause-told : goal.returns-in-Err-clause-told
returns-in-Err-clause-told c k vs held r =
    let m = c.args.machine.now in
    let key : to_z w64 (of_z w64 m.key) ≡ m.key = to_z-of_z w64 m.key (search rules) in
    let is = reply_is k m c.args.native vs c.args.values.now (to_z w64 (of_z w64 m.key)) r.at key held in
    let g = faulted c.args.native (library c.args.native (to_z w64 (of_z w64 m.key)) m.entry.now.entry c.args.values.now) c.call.result c.in-Err.fault m.entry c.call.new.entry c.call.ensures c.in-Err.is in (
      k.state,
      record {
        call = r.at.rest.call ∙ ap (λ (e : Change). record { key = m.key; args = m.args; before = e.before; loads = k.state.call.loads }) (sym g.1);
        now = r.at.rest.now ∙ sym (ap (λ (e : Change). e.now) g.1);
        steps = r.at.rest.steps;
        arrays = r.at.rest.arrays;
        words = r.at.rest.words;
        left = r.at.rest.left;
      },
      ap (λ r. replied c.args.native r k.top.operands k) (sym is ∙ g.0),
    )

pub returns-in-Err-clause-keeps : goal.returns-in-Err-clause-keeps
returns-in-Err-clause-keeps c =
    let m = c.args.machine.now in
    let g = faulted c.args.native (library c.args.native (to_z w64 (of_z w64 m.key)) m.entry.now.entry c.args.values.now) c.call.result c.in-Err.fault m.entry c.call.new.entry c.call.ensures c.in-Err.is in
    keeps_entry m m.slots c.call.new.entry (same_self m.slots) (ap (λ (e : Change). e.before) g.1) (ap (λ (e : Change). e.now.asked) g.1)
