use Rattle.std.proofs.Common.{◌≡◌, ◌≤◌, ℕ, List, sym, inl, inr}
use Rattle.std.specs.Prelude.{Result, Ok, Err, IfOk, IfErr}
use Rattle.jtypes.specs.Profile.{Profile, First, Second, Third}
use Rattle.typecheck.specs.Typing.{Class, IsProcessOf}
use Rattle.bounds.specs.Paths.{Bounds, AreBounds, step_limit}
use Rattle.verdict.specs.Verdict.{IsAccepted, IsClassOf}
use Rattle.soundness.specs.Profiles.{AcceptedIsKept, ClassGoesOn, ClassIsKept, BoundsAreKept}
use Rattle.verify.specs.Earlier.{IsEarlier}
use Rattle.verify.proofs.verified.verify.Goals as goal

ok_more : {A E : Type 0} {P Q : A → Type 0} (r : Result A E) → ((x : A) → P x → Q x) → IfOk r P → IfOk r Q
ok_more (Ok x) f h = f x h
ok_more (Err e) f h = h

err_more : {A E : Type 0} {P Q : E → Type 0} (r : Result A E) → ((x : E) → P x → Q x) → IfErr r P → IfErr r Q
err_more (Ok x) f h = h
err_more (Err e) f h = f e h

-- From the profile on, step by step.
accepted_on : AcceptedIsKept → (p : Profile) → IsEarlier p → (bytes : List ℕ) → IsAccepted p bytes → IsAccepted Third bytes
accepted_on kept First is bytes ok = kept Second Third tt bytes (kept First Second tt bytes ok)
accepted_on kept Second is bytes ok = kept Second Third tt bytes ok
accepted_on kept Third is bytes ok = ok

one_class : ClassGoesOn → ClassIsKept → (p : Profile) → IsEarlier p → (bytes : List ℕ) (c d : Class) → IsClassOf p bytes c → IsClassOf Third bytes d → c ≡ d
one_class on one First is bytes c d of other = one Second Third tt bytes c d (on First Second tt bytes c of) other
one_class on one Second is bytes c d of other = one Second Third tt bytes c d of other
one_class on one Third is bytes c d of other = absurd is

few_steps : AcceptedIsKept → ClassGoesOn → BoundsAreKept → (p : Profile) → IsEarlier p → (bytes : List ℕ) (c d : Class) (j : ℕ) (b : Bounds) → IsAccepted p bytes → IsClassOf p bytes c → IsClassOf Third bytes d → IsProcessOf d j
    → AreBounds d j b → b.steps ≤ step_limit p
few_steps kept on few First is bytes c d j b ok of other process are =
    let second = on First Second tt bytes c of in
    let later = few Second Third tt bytes c d j b (kept First Second tt bytes ok) second other process are in
    (few First Second tt bytes c c j b ok of second later.0 later.1).2
few_steps kept on few Second is bytes c d j b ok of other process are = (few Second Third tt bytes c d j b ok of other process are).2
few_steps kept on few Third is bytes c d j b ok of other process are = absurd is

pub returns-clause-earlier : goal.returns-clause-earlier
returns-clause-earlier c = λ p is ok.
    let accepted = accepted_on c.profiles_are_kept.ensures.accepted p is c.args.bytes.now ok in
    err_more c.judge_and_link.result (λ r. elim [ inl e ↦ e | inr stands ↦ absurd (accepted r stands) ]) c.judge_and_link.ensures.refused

pub returns-clause-earlier_class : goal.returns-clause-earlier_class
returns-clause-earlier_class c = λ p k is of.
    ok_more c.judge_and_link.result (λ d other. sym (one_class c.profiles_are_kept.ensures.goes_on c.profiles_are_kept.ensures.class p is c.args.bytes.now k d of other)) c.judge_and_link.ensures.class

pub returns-clause-earlier_steps : goal.returns-clause-earlier_steps
returns-clause-earlier_steps c = λ p k is ok of.
    ok_more c.judge_and_link.result
    (λ d other j b process are. few_steps c.profiles_are_kept.ensures.accepted c.profiles_are_kept.ensures.goes_on c.profiles_are_kept.ensures.bounds p is c.args.bytes.now k d j b ok of other process are)
    c.judge_and_link.ensures.class
