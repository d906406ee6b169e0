use Rattle.std.proofs.Common.{rules, ◌≡◌, ℤ, Some, sym, subst, ◌∙◌, FitsSigned}
use Rattle.std.specs.Int.{w128}
use Rattle.std.proofs.lemmas.Int.{to_z-of_z}
use Rattle.decode.specs.Reading.{IsRefusalAt}
use Rattle.decode.proofs.sequence.Code.refusal_of_case.Goals as goal

pub returns : goal.returns
returns c = λ target e.
    let both : Some c.case_target.result ≡ Some target = sym c.case_target.ensures ∙ e in
    let same : c.case_target.result ≡ target = cc both in
    let fits : FitsSigned w128 c.case_target.result = search (rules, c.case_target.type_inv) in
    let number = to_z-of_z w128 c.case_target.result fits in
    subst (λ (z : ℤ). IsRefusalAt c.args.self.now c.args.p.now.place z c.refusal_at.result) (number ∙ same) c.refusal_at.ensures
