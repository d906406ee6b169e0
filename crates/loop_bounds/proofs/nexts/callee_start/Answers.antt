use Rattle.std.proofs.Common.{◌≡◌, List, take, ap, sym, ◌∙◌}
use Rattle.std.specs.Prelude.{option_copied}
use Rattle.unrolled.specs.Graph.{taken}
use Rattle.search.specs.Seen.{operands_seen, node_seen}
use Rattle.search.specs.declared.known.Known as plain
use Rattle.loop_bounds.proofs.Starting.{start_found}
use Rattle.loop_bounds.proofs.nexts.callee_start.Goals as goal

pub returns-in-Some-clause-start : goal.returns-in-Some-clause-start
returns-in-Some-clause-start c d p are follow call =
    let operands = c.args.x.now.operands.items in
    let given : operands_seen c.top-arguments.result.now ≡ taken (option_copied c.args.callee) (operands_seen operands) =
    c.top-arguments.ensures ∙ ap (λ (l : List plain.Known). take c.argument_count.result (operands_seen l)) c.deref.ensures.value ∙ c.argument_count.ensures (operands_seen operands) in
    start_found d c.args.methods.now p (node_seen c.args.x.now) (option_copied c.args.callee) c.in-Some.k (operands_seen c.top-arguments.result.now) c.start_alone.result are call (sym c.in-Some.ensures) given
    (λ m method. c.start_alone.ensures.start d m are follow method) c.start_alone.ensures.none
