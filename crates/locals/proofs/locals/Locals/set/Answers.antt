use Rattle.std.proofs.Common.{◌≡◌, [], ◌∷◌, take, ap, ◌∙◌, arith}
use Rattle.locals.specs.Written.{written}
use Rattle.locals.proofs.Writing.{written_one}
use Rattle.locals.proofs.locals.Locals.set.Goals as goal

pub returns-clause-ok : goal.returns-clause-ok
returns-clause-ok c =
    let row = c.args.self.now.row in
    let one : c.in_ok-put_front.field-0 ≡ 1 = omega (arith, c.in_ok-put_front.ensures.some.0, c.in_ok-put_front.ensures.some.1) in
    c.in_ok-put_front.ensures.ok ∙ ap (λ k. written row c.args.n (take k (c.args.t ∷ []))) one ∙ written_one row c.args.n c.args.t
