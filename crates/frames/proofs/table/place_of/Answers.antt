use Rattle.std.proofs.Common.{rules, ◌≤◌, ◌^◌, ◌+◌, Option, ℕ, sym, ap, ◌∙◌}
use Rattle.frames.specs.StackMap.{place_after}
use Rattle.frames.specs.Reading.{standing}
use Rattle.frames.proofs.Room.{not_standing}
use Rattle.frames.proofs.table.place_of.Goals as goal

pub returns-in_err-place-in-Some-clause-place : goal.returns-in_err-place-in-Some-clause-place
returns-in_err-place-in-Some-clause-place c =
    let code = c.args.code.now in
    let place = c.in-Some.place + c.args.delta + 1 in
    let far : 2 ^ 64 ≤ place = search rules in
    c.from_residual.ensures ∙ sym (ap (λ (b : Option ℕ). standing code (place_after b c.args.delta)) c.in-Some.is ∙ not_standing code place c.as_slice.ensures.rising far)
