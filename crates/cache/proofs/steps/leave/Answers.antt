use Rattle.std.proofs.Common.{subst, ap, arith, Option, ℕ}
use Rattle.cache.specs.Plays.{Sat}
use Rattle.cache.specs.Steps.{IsKnown}
use Rattle.cache.proofs.steps.leave.Goals as goal

pub give_back-requires-clause-index : goal.give_back-requires-clause-index
give_back-requires-clause-index g c =
    let h = c.requires.known in
    let board = c.requires.board in
    let below = (subst (λ (o : Option ℕ). IsKnown c.args.board.now.table_id.slots h.0 h.1 o c.args.pass.now.me) c.in-Some.is h.2).0 in
    omega (arith, below, board.words, board.slots)

pub give_back-requires-clause-held : goal.give_back-requires-clause-held
give_back-requires-clause-held g c =
    let h = c.requires.known in
    let t = (subst (λ (o : Option ℕ). IsKnown c.args.board.now.table_id.slots h.0 h.1 o c.args.pass.now.me) c.in-Some.is h.2).1 in
    record { made = h.0; part = h.1; stripe = t.stripe; is = t.is; idle = t.free.idle }

pub returns-in-Some-clause-left : goal.returns-in-Some-clause-left
returns-in-Some-clause-left g c = λ made p known.
    let t = (subst (λ (o : Option ℕ). IsKnown c.args.board.now.table_id.slots made p o c.args.pass.now.me) c.in-Some.is known).1 in
    c.give_back.ensures.given made p t.stripe (ap (λ (m : Sat). m.0) t.is)
