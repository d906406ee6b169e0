use Rattle.std.proofs.Common.{◌≡◌, drop}
use Rattle.decode.specs.Places.{cases_of}
use Rattle.frames.specs.Seen.{declared_seen, frame_seen}
use Rattle.typecheck.specs.Seen.{branched_cases, IsMet}
use Rattle.typecheck.proofs.check.meet_cases.Given as goal

abbrev pub invariant-loop-i : goal.invariant-loop-i
invariant-loop-i l =
    (l.outcome ≡ l.fn.outcome)
    × (branched_cases (declared_seen l.fn.outcome.locals.kept l.declared) l.p (frame_seen l.fn.outcome) (cases_of l.p.instruction) ≡ branched_cases (declared_seen l.fn.outcome.locals.kept l.declared) l.p (frame_seen l.fn.outcome) (drop l.i (cases_of l.p.instruction)))
    × IsMet (declared_seen l.fn.outcome.locals.kept l.declared) l.p (frame_seen l.fn.outcome) l.before
