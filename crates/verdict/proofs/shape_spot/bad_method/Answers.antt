use Rattle.std.proofs.Common.{inr}
use Rattle.verdict.proofs.Spots.{bad_at, none_bad}
use Rattle.verdict.proofs.shape_spot.bad_method.Goals as goal

pub returns-in-Some : goal.returns-in-Some
returns-in-Some c =
    let found = rw (c.as_slice.ensures, c.in-Some.is) at c.in_ok-number.ensures.some in
    let stands = bad_at c.args.class.now.pool c.args.class.now.parts c.in-Some.number c.in-Some.refusal found in
    inr (stands.0, stands.1)

pub returns-in-None : goal.returns-in-None
returns-in-None c =
    let good = rw (c.as_slice.ensures, c.in-None.is) at c.in_ok-number.ensures.none in
    absurd (none_bad c.args.class.now.pool c.args.class.now.parts c.args.refusal good c.requires)
