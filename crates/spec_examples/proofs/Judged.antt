-- What `judge_by` computes on small classes is the verdict.
use Rattle.std.proofs.Common.{◌≡◌, [], ◌∷◌, refl}
use Rattle.jtypes.specs.declared.refusal.Refusal.TheVariants.{OutsideProfile, BadDescriptor, NoProcess}
use Rattle.jtypes.specs.Profile.{Profile, First, Second, Third}
use Rattle.verdict.specs.Verdict.{IsAccepted, IsClassOf}
use Rattle.soundness.specs.Accepted.{small_bytes, small_class}
use Rattle.soundness.proofs.Profiles.{accepted_is_kept, class_goes_on}
use Rattle.soundness.proofs.SmallVerdict.{class_is, process_is, are_bounds, is_accepted}
use Rattle.spec_examples.specs.BooleanBytes.{flag_bytes}
use Rattle.spec_examples.specs.Hidden.{hidden_bytes}
use Rattle.spec_examples.specs.Judge.{Refused, Accepted, judge_by}
use Rattle.spec_examples.specs.Judged.{SmallIsJudged, HiddenIsJudged, FlagIsJudged, SwitchIsJudged}
use Rattle.spec_examples.specs.Opened.{opened}
use Rattle.spec_examples.specs.SmallSwitch.{switch_bytes}
use Rattle.spec_examples.specs.Verdicts.{flag_by_second}
use Rattle.spec_examples.proofs.FirstAccepts.{accepts_small}
use Rattle.spec_examples.proofs.FirstRefuses.{refuses_switch}
use Rattle.spec_examples.proofs.FlagRefused.{refuses_flag}
use Rattle.spec_examples.proofs.HiddenRefused.{refuses_hidden, hidden_only}
use Rattle.spec_examples.proofs.SwitchOnly.{switch_only}

-- ---- the small class

small_answer : (profile : Profile) → judge_by profile small_bytes ≡ Accepted 2 0 4 1
unfolding opened
small_answer First = refl
small_answer Second = refl
small_answer Third = refl

small_accepted : (profile : Profile) → IsAccepted profile small_bytes
small_accepted First = accepts_small.0
small_accepted Second = accepted_is_kept First Second tt small_bytes accepts_small.0
small_accepted Third = is_accepted

small_is_class : (profile : Profile) → IsClassOf profile small_bytes small_class
small_is_class First = accepts_small.1
small_is_class Second = class_goes_on First Second tt small_bytes small_class accepts_small.1
small_is_class Third = class_is

pub small_is_judged : SmallIsJudged
small_is_judged profile = (small_answer profile, (small_accepted profile, (small_class, 1, small_is_class profile, process_is, are_bounds)))

-- ---- refused classes

hidden_answer : (profile : Profile) → judge_by profile hidden_bytes ≡ Refused (11 ∷ [])
unfolding opened
hidden_answer First = refl
hidden_answer Second = refl
hidden_answer Third = refl

pub hidden_is_judged : HiddenIsJudged
hidden_is_judged profile = ((hidden_answer profile, ((NoProcess, refl, refuses_hidden profile), tt)), hidden_only profile)

flag_by_first : judge_by First flag_bytes ≡ Refused (7 ∷ [])
unfolding opened flag_bytes
flag_by_first = refl

pub flag_is_judged : FlagIsJudged
flag_is_judged = ((flag_by_first, ((BadDescriptor, refl, refuses_flag First refl), tt)), (flag_by_second, ((BadDescriptor, refl, refuses_flag Second refl), tt)))

switch_by_first : judge_by First switch_bytes ≡ Refused (17 ∷ [])
unfolding opened
switch_by_first = refl

pub switch_is_judged : SwitchIsJudged
switch_is_judged = ((switch_by_first, ((OutsideProfile 0xAA, refl, refuses_switch), tt)), switch_only)
