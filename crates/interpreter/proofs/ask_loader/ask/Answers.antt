use Rattle.std.proofs.Common.{sym, ◌∙◌}
use Rattle.interpreter.specs.Holds.{at_regs}
use Rattle.interpreter.proofs.Informing.{unasked_turn, informed_turn, failed_turn}
use Rattle.interpreter.proofs.ask_loader.ask.Goals as goal

pub returns-in-Ok-clause-told : goal.returns-in-Ok-clause-told
returns-in-Ok-clause-told g c steps d index s p =
    informed_turn g.L.Loader.ASKS d index s c.args.class.now (at_regs c.args.machine.now c.args.place steps) p c.in-Ok.value c.loaded.new.self (sym (c.is_asking.ensures steps d index s p) ∙ c.if-is_asking.true) c.loaded.ensures

pub returns-in-Err-clause-told : goal.returns-in-Err-clause-told
returns-in-Err-clause-told g c steps d index s p =
    failed_turn g.L.Loader.ASKS d index s c.args.class.now (at_regs c.args.machine.now c.args.place steps) p c.load_failed.new.self (sym (c.is_asking.ensures steps d index s p) ∙ c.if-is_asking.true) c.load_failed.ensures

pub returns-clause-told : goal.returns-clause-told
returns-clause-told g c steps d index s p =
    unasked_turn g.L.Loader.ASKS d index s c.args.class.now (at_regs c.args.machine.now c.args.place steps) p (sym (c.is_asking.ensures steps d index s p) ∙ c.if-is_asking.false)
