use Rattle.std.proofs.Common.{rules, ◌∙◌, ◌-◌, sym, get_or}
use Rattle.jtypes.specs.declared.types.Value.TheVariants.{Ref}
use Rattle.slots.specs.declared.reference.Reference.TheVariants as kind
use Rattle.slots.proofs.Kept.{kind_at, read_at}
use Rattle.slots.proofs.Receiver.{receiver_at, receiver_inside, null_there, other_there}
use Rattle.slots.proofs.window.Window.null_below.Goals as goal

pub overflow_sub-self : goal.overflow_sub-self
overflow_sub-self c = (receiver_inside c.args.self.now c.args.params c.from.result c.from.ensures c.requires).0

pub bounds : goal.bounds
bounds c = let h = receiver_inside c.args.self.now c.args.params c.from.result c.from.ensures c.requires in search (rules, h)

pub returns-in-Null : goal.returns-in-Null
returns-in-Null c arrays callers ls taken v others rest below e few r =
    let s = c.args.self.now in
    let at = s.top - c.from.result in
    let there = receiver_at arrays s callers ls taken v others rest below c.from.result e (few ∙ sym c.from.ensures) r in
    null_there v (get_or s.kinds.now at kind.Null) (kind_at arrays s.words.now s.kinds.now at (Ref v) _ there (read_at s.kinds.now at kind.Null)) c.in-Null.is

pub returns-in_default : goal.returns-in_default
returns-in_default c arrays callers ls taken v others rest below e few r =
    let s = c.args.self.now in
    let at = s.top - c.from.result in
    let there = receiver_at arrays s callers ls taken v others rest below c.from.result e (few ∙ sym c.from.ensures) r in
    other_there v (get_or s.kinds.now at kind.Null) (kind_at arrays s.words.now s.kinds.now at (Ref v) _ there (read_at s.kinds.now at kind.Null)) c.in_default.not-Null
