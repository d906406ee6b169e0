use Rattle.std.proofs.Common.{◌≡◌, ℕ, ℤ, ◌+◌, ◌<◌, ◌≤◌, Some, None, arith, subst, Bool, true, false, ltb, refl}
use Rattle.std.specs.Prelude.{slice_get}
use Rattle.std.proofs.lemmas.Bool.{ltb-true, ltb-false}
use Rattle.std.proofs.lemmas.Option.{slice_get_within}
use Rattle.decode.specs.Places.{cases_of}
use Rattle.decode.specs.Reading.{IsRefusalAt}
use Rattle.decode.proofs.Targets.{case_there}
use Rattle.decode.proofs.sequence.Code.refusal_of_cases.Goals as goal

pub returns-in-Some : goal.returns-in-Some
returns-in-Some c =
    let there = case_there (cases_of c.args.p.now.instruction) c.loop-i.i (omega (arith, c.loop-i-test.true, c.case_count-i-end.ensures)) in
    (c.loop-i.i, there.0, there.1, c.in-Some.ensures there.0 there.1)

pub loop-i-preserved : goal.loop-i-preserved
loop-i-preserved c = λ k z l e. go k z l e (ltb k c.loop-i.i) refl
  where
    go : (k : ℕ) (z : ℤ) → k < c.loop-i.i + 1 → slice_get (cases_of c.args.p.now.instruction) k ≡ Some z → (b : Bool) → ltb k c.loop-i.i ≡ b → IsRefusalAt c.args.self.now c.args.p.now.place z None
    go k z l e true t = c.loop-i.invariant k z (ltb-true _ _ t) e
    go k z l e false t =
        let more : c.loop-i.i ≤ k = ltb-false _ _ t in
        let same : k ≡ c.loop-i.i = omega arith in
        c.in_default.ensures z (subst (λ (n : ℕ). slice_get (cases_of c.args.p.now.instruction) n ≡ Some z) same e)

pub returns : goal.returns
returns c = λ k z e. c.loop-i.invariant k z (omega (arith, slice_get_within (cases_of c.args.p.now.instruction) k z e, c.loop-i-test.false, c.case_count-i-end.ensures)) e
