use Rattle.std.proofs.Common.{refl}
use Rattle.frames.proofs.Declares.{declared_found, none_declared, in_order}
use Rattle.frames.proofs.table.read_frames.Goals as goal

pub returns-in-Some-clause-declared : goal.returns-in-Some-clause-declared
returns-in-Some-clause-declared c =
    let f = rw c.in-Some.is at c.in_ok-frames.ensures.frames in
    declared_found _ _ _ _ _ f

pub returns-in-Some-clause-order : goal.returns-in-Some-clause-order
returns-in-Some-clause-order c =
    let f = rw c.in-Some.is at c.in_ok-frames.ensures.frames in
    let read = rw c.in-Some.is at c.in_ok-frames.ensures.read in
    in_order _ _ _ _ _ read f

pub returns-in-Some-clause-first : goal.returns-in-Some-clause-first
returns-in-Some-clause-first c =
    let read = rw c.in-Some.is at c.in_ok-frames.ensures.read in
    read.first

pub returns-in-Some-clause-rows : goal.returns-in-Some-clause-rows
returns-in-Some-clause-rows c =
    let read = rw c.in-Some.is at c.in_ok-frames.ensures.read in
    read.rows

pub returns-in-None-clause-refusal : goal.returns-in-None-clause-refusal
returns-in-None-clause-refusal c =
    let f = rw c.in-None.is at c.in_ok-frames.ensures.frames in
    λ n. (refl, λ ds. none_declared _ _ _ _ ds f)
