use Rattle.std.proofs.Common.{refl, sym, ◌∙◌, arith}
use Rattle.std.proofs.lemmas.Option.{slice_get_within}
use Rattle.interpreter.specs.Holds.{at_regs}
use Rattle.interpreter.proofs.Stepping.{inside}
use Rattle.interpreter.proofs.Informing.{unloaded, unneeded, needed, receiver_on}
use Rattle.interpreter.proofs.ask_loader.is_asking.Goals as goal

pub index-requires : goal.index-requires
index-requires g c =
    let (steps, (d, index, s, p)) = c.requires in
    let there = inside d index s p.next c.args.class.now (at_regs c.args.machine.now c.args.place steps) p.alone c.args.place refl in
    let within = slice_get_within c.args.class.now.code.items c.args.place there.0 there.1 in
    omega (arith, within)

pub gets_value-requires : goal.gets_value-requires
gets_value-requires g c =
    let (steps, (d, index, s, p)) = c.requires in
    let t = p.alone.state in
    (s.arrays, t.top.locals, t.top.operands, t.below, t.at.reads, receiver_on g.L.Loader.ASKS d index s c.args.class.now (at_regs c.args.machine.now c.args.place steps) p c.index.result.now c.index.ensures)

pub returns-then-not-ASKS : goal.returns-then-not-ASKS
returns-then-not-ASKS g c steps d index s p =
    sym (unloaded g.L.Loader.ASKS d index s c.args.class.now (at_regs c.args.machine.now c.args.place steps) p (sym c.ASKS.ensures ∙ c.if-not-ASKS.true))

pub returns-then-not-needs_load : goal.returns-then-not-needs_load
returns-then-not-needs_load g c steps d index s p =
    sym (unneeded g.L.Loader.ASKS d index s c.args.class.now (at_regs c.args.machine.now c.args.place steps) p (sym c.ASKS.ensures ∙ c.if-not-ASKS.false) (sym c.needs_load.ensures ∙ c.if-not-needs_load.true))

pub returns : goal.returns
returns g c steps d index s p =
    let m = at_regs c.args.machine.now c.args.place steps in
    let t = p.alone.state in
    c.gets_value.ensures s.arrays t.top.locals t.top.operands t.below t.at.reads (receiver_on g.L.Loader.ASKS d index s c.args.class.now m p c.index.result.now c.index.ensures)
    ∙ sym (needed g.L.Loader.ASKS d index s c.args.class.now m p (sym c.ASKS.ensures ∙ c.if-not-ASKS.false) (sym c.needs_load.ensures ∙ c.if-not-needs_load.false) c.index.result.now c.index.ensures)
