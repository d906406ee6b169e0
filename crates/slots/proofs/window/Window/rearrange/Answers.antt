use Rattle.std.proofs.Common.{sym, subst}
use Rattle.jtypes.specs.declared.operations.Rearrangement.{Rearrangement}
use Rattle.slots.specs.Picking.{CanPick, ArePicked}
use Rattle.slots.proofs.Rearranged.{can_pick, rearranged_reads}
use Rattle.slots.proofs.window.Window.rearrange.Goals as goal

pub pop-requires : goal.pop-requires
pop-requires c = let P : Rearrangement → Type 0 = λ r. CanPick r c.args.self.now in subst P c.in-Pop.is (can_pick c.args.r c.args.self.now c.requires)

pub returns-in-Pop-clause-reads : goal.returns-in-Pop-clause-reads
returns-in-Pop-clause-reads c arrays callers ls vs ws below k e =
    let P : Rearrangement → Type 0 = λ r. ArePicked r c.args.self.now c.pop.new.self in
    rearranged_reads c.args.r arrays callers c.args.self.now c.pop.new.self ls vs ws below (subst P (sym c.in-Pop.is) c.pop.ensures) e k

pub pop2-requires : goal.pop2-requires
pop2-requires c = let P : Rearrangement → Type 0 = λ r. CanPick r c.args.self.now in subst P c.in-Pop2.is (can_pick c.args.r c.args.self.now c.requires)

pub returns-in-Pop2-clause-reads : goal.returns-in-Pop2-clause-reads
returns-in-Pop2-clause-reads c arrays callers ls vs ws below k e =
    let P : Rearrangement → Type 0 = λ r. ArePicked r c.args.self.now c.pop2.new.self in
    rearranged_reads c.args.r arrays callers c.args.self.now c.pop2.new.self ls vs ws below (subst P (sym c.in-Pop2.is) c.pop2.ensures) e k

pub dup-requires : goal.dup-requires
dup-requires c = let P : Rearrangement → Type 0 = λ r. CanPick r c.args.self.now in subst P c.in-Dup.is (can_pick c.args.r c.args.self.now c.requires)

pub returns-in-Dup-clause-reads : goal.returns-in-Dup-clause-reads
returns-in-Dup-clause-reads c arrays callers ls vs ws below k e =
    let P : Rearrangement → Type 0 = λ r. ArePicked r c.args.self.now c.dup.new.self in
    rearranged_reads c.args.r arrays callers c.args.self.now c.dup.new.self ls vs ws below (subst P (sym c.in-Dup.is) c.dup.ensures) e k

pub dup_x1-requires : goal.dup_x1-requires
dup_x1-requires c = let P : Rearrangement → Type 0 = λ r. CanPick r c.args.self.now in subst P c.in-DupX1.is (can_pick c.args.r c.args.self.now c.requires)

pub returns-in-DupX1-clause-reads : goal.returns-in-DupX1-clause-reads
returns-in-DupX1-clause-reads c arrays callers ls vs ws below k e =
    let P : Rearrangement → Type 0 = λ r. ArePicked r c.args.self.now c.dup_x1.new.self in
    rearranged_reads c.args.r arrays callers c.args.self.now c.dup_x1.new.self ls vs ws below (subst P (sym c.in-DupX1.is) c.dup_x1.ensures) e k

pub dup_x2-requires : goal.dup_x2-requires
dup_x2-requires c = let P : Rearrangement → Type 0 = λ r. CanPick r c.args.self.now in subst P c.in-DupX2.is (can_pick c.args.r c.args.self.now c.requires)

pub returns-in-DupX2-clause-reads : goal.returns-in-DupX2-clause-reads
returns-in-DupX2-clause-reads c arrays callers ls vs ws below k e =
    let P : Rearrangement → Type 0 = λ r. ArePicked r c.args.self.now c.dup_x2.new.self in
    rearranged_reads c.args.r arrays callers c.args.self.now c.dup_x2.new.self ls vs ws below (subst P (sym c.in-DupX2.is) c.dup_x2.ensures) e k

pub dup2-requires : goal.dup2-requires
dup2-requires c = let P : Rearrangement → Type 0 = λ r. CanPick r c.args.self.now in subst P c.in-Dup2.is (can_pick c.args.r c.args.self.now c.requires)

pub returns-in-Dup2-clause-reads : goal.returns-in-Dup2-clause-reads
returns-in-Dup2-clause-reads c arrays callers ls vs ws below k e =
    let P : Rearrangement → Type 0 = λ r. ArePicked r c.args.self.now c.dup2.new.self in
    rearranged_reads c.args.r arrays callers c.args.self.now c.dup2.new.self ls vs ws below (subst P (sym c.in-Dup2.is) c.dup2.ensures) e k

pub dup2_x1-requires : goal.dup2_x1-requires
dup2_x1-requires c = let P : Rearrangement → Type 0 = λ r. CanPick r c.args.self.now in subst P c.in-Dup2X1.is (can_pick c.args.r c.args.self.now c.requires)

pub returns-in-Dup2X1-clause-reads : goal.returns-in-Dup2X1-clause-reads
returns-in-Dup2X1-clause-reads c arrays callers ls vs ws below k e =
    let P : Rearrangement → Type 0 = λ r. ArePicked r c.args.self.now c.dup2_x1.new.self in
    rearranged_reads c.args.r arrays callers c.args.self.now c.dup2_x1.new.self ls vs ws below (subst P (sym c.in-Dup2X1.is) c.dup2_x1.ensures) e k

pub dup2_x2-requires : goal.dup2_x2-requires
dup2_x2-requires c = let P : Rearrangement → Type 0 = λ r. CanPick r c.args.self.now in subst P c.in-Dup2X2.is (can_pick c.args.r c.args.self.now c.requires)

pub returns-in-Dup2X2-clause-reads : goal.returns-in-Dup2X2-clause-reads
returns-in-Dup2X2-clause-reads c arrays callers ls vs ws below k e =
    let P : Rearrangement → Type 0 = λ r. ArePicked r c.args.self.now c.dup2_x2.new.self in
    rearranged_reads c.args.r arrays callers c.args.self.now c.dup2_x2.new.self ls vs ws below (subst P (sym c.in-Dup2X2.is) c.dup2_x2.ensures) e k

pub swap-requires : goal.swap-requires
swap-requires c = let P : Rearrangement → Type 0 = λ r. CanPick r c.args.self.now in subst P c.in-Swap.is (can_pick c.args.r c.args.self.now c.requires)

pub returns-in-Swap-clause-reads : goal.returns-in-Swap-clause-reads
returns-in-Swap-clause-reads c arrays callers ls vs ws below k e =
    let P : Rearrangement → Type 0 = λ r. ArePicked r c.args.self.now c.swap.new.self in
    rearranged_reads c.args.r arrays callers c.args.self.now c.swap.new.self ls vs ws below (subst P (sym c.in-Swap.is) c.swap.ensures) e k
