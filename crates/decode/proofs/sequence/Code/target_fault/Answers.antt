use Rattle.std.proofs.Common.{None, arith, subst, ap, length, ◌∙◌, List, get_or}
use Rattle.std.proofs.lemmas.List.Elements.{AllWithin-more, AllWithin-upto}
use Rattle.std.proofs.lemmas.List.{get_or_default}
use Rattle.decode.specs.declared.instruction.Placed.{Placed}
use Rattle.decode.specs.Reading.{IsTargetRefusal}
use Rattle.decode.proofs.Targets.{none_stands}
use Rattle.decode.proofs.Faults.{branch_at, not_memory, stands_at}
use Rattle.decode.proofs.sequence.Code.target_fault.Goals as goal

pub returns-in-Some-clause-some : goal.returns-in-Some-clause-some
returns-in-Some-clause-some c =
    let list = c.as_slice-p-items in
    let code = c.args.self.now in
    let p = c.p-item.result in
    let at = stands_at code list.result.now c.loop-p.p-index p list.ensures.value list.ensures.rising c.loop-p-test.true c.p-item.is in
    (not_memory code p c.in-Some.refusal c.in-Some.ensures, branch_at code p c.in-Some.refusal at c.in-Some.ensures)

pub loop-p-preserved : goal.loop-p-preserved
loop-p-preserved c =
    let items = c.as_slice-p-items.result.now in
    AllWithin-more (λ (p : Placed). IsTargetRefusal c.args.self.now p None) c.args.self.now 0 c.loop-p.p-index c.loop-p.invariant (λ d.
    let same = c.p-item.is ∙ get_or_default items c.loop-p.p-index c.p-item.result d c.loop-p-test.true ∙ ap (λ (l : List Placed). get_or l c.loop-p.p-index d) c.as_slice-p-items.ensures.value in
    subst (λ (p : Placed). IsTargetRefusal c.args.self.now p None) same c.in_default.ensures)

pub returns-clause-none : goal.returns-clause-none
returns-clause-none c =
    none_stands c.args.self.now (AllWithin-upto (λ (p : Placed). IsTargetRefusal c.args.self.now p None) c.args.self.now 0 c.loop-p.p-index _ (omega (arith, ap length c.as_slice-p-items.ensures.value)) c.loop-p.invariant)
