use Rattle.std.proofs.Common.{rules, ◌≡◌, Some, None, Option, ℤ, subst, sym, ◌∙◌, FitsSigned}
use Rattle.std.specs.Int.{w128}
use Rattle.std.proofs.lemmas.Int.{to_z-of_z}
use Rattle.jtypes.specs.declared.refusal.Refusal.{Refusal}
use Rattle.decode.specs.Places.{target_of}
use Rattle.decode.specs.Reading.{IsRefusalAt, IsCasesRefusal, IsTargetRefusal}
use Rattle.decode.proofs.Targets.{case_refuses, no_case_refuses}
use Rattle.decode.proofs.sequence.Code.refusal_of.Goals as goal

pub returns-in-None-refusal_at : goal.returns-in-None-refusal_at
returns-in-None-refusal_at c = go c.refusal_of_cases.result c.refusal_of_cases.ensures
  where
    at : target_of c.args.p.now.instruction ≡ Some c.in-Some.target
    at = sym c.target.ensures ∙ c.in-Some.is

    fits : FitsSigned w128 c.in-Some.target
    fits = search rules

    here : IsRefusalAt c.args.self.now c.args.p.now.place c.in-Some.target None
    here = subst (λ (z : ℤ). IsRefusalAt c.args.self.now c.args.p.now.place z None) (to_z-of_z w128 c.in-Some.target fits) c.in-None-refusal_at.ensures

    go : (o : Option Refusal) → IsCasesRefusal c.args.self.now c.args.p.now o → IsTargetRefusal c.args.self.now c.args.p.now o
    go None h = no_case_refuses c.args.self.now c.args.p.now c.in-Some.target at here h
    go (Some r) h = case_refuses c.args.self.now c.args.p.now r h
