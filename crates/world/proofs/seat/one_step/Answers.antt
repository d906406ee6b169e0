use Rattle.std.proofs.Common.{arith, suc, sym, ap, subst, ◌∙◌}
use Rattle.jtypes.specs.declared.loader.LoadAnswer.{LoadAnswer}
use Rattle.bounds.specs.Rows.{bounds_in}
use Rattle.verdict.specs.Machine.{State, onward}
use Rattle.machine.specs.Running.{Follows}
use Rattle.world.proofs.Stepping.{steps_on, counted_so}
use Rattle.world.proofs.seat.one_step.Goals as goal

pub returns-clause-steps : goal.returns-clause-steps
returns-clause-steps g c s h =
    steps_on (g.L.Loader.gives c.args.loader.now) c.args.class.now s c.args.workspace.now c.step.new.self h.0 c.step.ensures.given c.step.ensures.key c.step.result c.step.ensures.told (c.step.ensures.follows s h)

pub returns-clause-counts : goal.returns-clause-counts
returns-clause-counts g c s h goes =
    let f = subst (λ r. Follows c.args.class.now s r c.step.new.self) goes (c.step.ensures.follows s h) in
    let e = c.linked-linked.ensures.process in
    let more = c.starts_and_counts.ensures.counts c.args.class.now e.number (bounds_in c.bounds-bounds.result) c.is_checked.ensures e.process (c.bounds-bounds.ensures.bounds e.number e.process).none_exceeds s.call h.0.begin s f.1 f.0 h.0.starts h.0.reached f.2 in
    sym f.4.state.at.rest.steps ∙ more.0 ∙ ap suc h.0.state.at.rest.steps

pub returns-clause-few : goal.returns-clause-few
returns-clause-few g c s h goes =
    let f = subst (λ r. Follows c.args.class.now s r c.step.new.self) goes (c.step.ensures.follows s h) in
    let most = (c.bounds-bounds.ensures.safe.stays s.call h.0.begin f.1 h.0.starts (onward f.0 h.0.reached f.2)).steps in
    let limit = c.bounds-bounds.ensures.limits.steps in
    let same = f.4.state.at.rest.steps in
    omega (arith, most, limit, same)

pub returns-clause-counted : goal.returns-clause-counted
returns-clause-counted g c s h =
    let e = c.linked-linked.ensures.process in
    counted_so c.args.class.now (bounds_in c.bounds-bounds.result) c.is_checked.ensures c.starts_and_counts.ensures.counts e.number e.process (c.bounds-bounds.ensures.bounds e.number e.process).none_exceeds c.step.new.self s h
