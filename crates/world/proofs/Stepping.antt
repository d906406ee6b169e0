-- One step of an invocation in a workspace.
use Rattle.std.proofs.Common.{◌≡◌, ℕ, ℤ, Bool, true, false, Option, Some, None, option_and_then, refl, sym, ap, subst, ◌∙◌, true≢false}
use Rattle.std.specs.Prelude.{if◌then◌else◌}
use Rattle.jtypes.specs.declared.loader.LoadAnswer.{LoadAnswer}
use Rattle.jtypes.specs.Loading.{EntryNow, IsGiven}
use Rattle.jtypes.specs.Lists.{only_if}
use Rattle.typecheck.specs.Typing.{Class, IsProcessOf}
use Rattle.bounds.specs.Paths.{Bounds, Cost, Path, IsWithin}
use Rattle.verdict.specs.Checked.{IsChecked}
use Rattle.verdict.specs.Machine.{Invocation, State, Final, Goes, Ends, start, asks, step_with, is_get_next}
use Rattle.soundness.specs.Counting.{EachStepCounts}
use Rattle.soundness.proofs.Answered.{Agrees, unasked_before, counted, state_after}
use Rattle.soundness.proofs.OneMeaning.{goes_after, ends_after}
use Rattle.interpreter.specs.declared.machine.Machine.{Machine}
use Rattle.ended.specs.declared.done.Done.{Done}
use Rattle.ended.specs.declared.done.Going.{Going}
use Rattle.ended.specs.declared.done.Going.TheVariants as going
use Rattle.interpreter.specs.AskLoader.{KeepsGiven}
use Rattle.machine.specs.Running.{IsRunning, Follows}
use Rattle.world.specs.World.{MayAnswer}
use Rattle.world.specs.Going.{known, state_in}
use Rattle.world.specs.Stepping.{MayAnswerStep, StepsOn}
use Rattle.world.proofs.Calls.{start_zero}

-- ---- the loader gives its recorded answer

module _ (gives : ℤ → LoadAnswer → Type 0) (c : Class) (s : State) (old new : Machine) (h : IsRunning c s old) (kept : KeepsGiven gives old new) (key : new.key ≡ old.key) where
  -- A state that asks has no recorded answer.
  first_asked : asks c s ≡ true → old.entry.now.asked ≡ None
  first_asked is = sym (ap (λ (n : EntryNow). n.asked) h.state.at.rest.now) ∙ unasked_before s.call.loads s.call.before s.now (is_get_next c s.activations) is

  by_kept : (a : LoadAnswer) → asks c s ≡ true → new.entry.now.asked ≡ Some a → gives s.call.key a
  by_kept a is told =
      let none : IsGiven gives old.key old.entry.now.asked = subst (IsGiven gives old.key) (sym (first_asked is)) tt in
      let now : IsGiven gives new.key (Some a) = subst (IsGiven gives new.key) told (kept none) in
      subst (λ k. gives k a) (key ∙ sym (ap (λ (i : Invocation). i.key) h.state.at.rest.call)) now

  by_asking : (a : LoadAnswer) (b : Bool) → asks c s ≡ b → (b ≡ true → new.entry.now.asked ≡ Some a) → MayAnswer gives a (only_if b (Some s.call.key))
  by_asking a true is told = by_kept a is (told refl)
  by_asking a false is told = tt

  may_go : (a : LoadAnswer) (t : State) → step_with c a s ≡ Some (Goes t) → IsRunning c t new → MayAnswerStep gives a c s
  may_go a t goes running =
      by_asking a (asks c s) refl (λ is. sym (ap (λ (n : EntryNow). n.asked) running.state.at.rest.now) ∙ goes_after c s t a (asks c s) goes ∙ ap (λ b. if b then Some a else s.now.asked) is)

  may_end : (a : LoadAnswer) (f : Final) → step_with c a s ≡ Some (Ends f) → f.asked ≡ new.entry.now.asked → MayAnswerStep gives a c s
  may_end a f ends same = by_asking a (asks c s) refl (λ is. sym same ∙ ends_after c s f a (asks c s) ends ∙ ap (λ b. if b then Some a else s.now.asked) is)

  pub steps_on : (r : Going) → ((d : Done) → r ≡ going.Ended d → d.asked ≡ new.entry.now.asked) → Follows c s r new → StepsOn gives c s r new
  steps_on going.Going told (a, t, goes, call, running) = (a, t, may_go a t goes running, goes, call, running)
  steps_on (going.Ended d) told (a, f, ends, means, is) = (a, f, may_end a f ends (sym is.asked ∙ told d refl), ends, means, is)

-- ---- the machine's state is the one after the counted steps

agrees : (o : Option LoadAnswer) → Agrees (known o) o
agrees None x e = absurd (cc)
agrees (Some a) x e = let same : a ≡ x = cc e in sym same

module _ (c : Class) (b : Bounds) (ok : IsChecked c) (counts : EachStepCounts) (j : ℕ) (process : IsProcessOf c j) (within : (k : Cost) → Path c j 0 k → IsWithin k b) where
  pub counted_so : (m : Machine) (s : State) → IsRunning c s m → state_in c s.call (known m.entry.now.asked) m.steps ≡ Some s
  counted_so m s h =
      let a : LoadAnswer = known m.entry.now.asked in
      let answer : s.now.asked ≡ m.entry.now.asked = ap (λ (n : EntryNow). n.asked) h.state.at.rest.now in
      let after = counted c h.begin (start_zero c s.call h.begin h.starts) (λ t u x r e. counts c j b ok process within s.call h.begin t u x h.starts r e) s a h.reached (subst (Agrees a) (sym answer) (agrees m.entry.now.asked)) in
      ap (λ n. state_in c s.call a n) (sym h.state.at.rest.steps) ∙ ap (option_and_then (state_after s.steps c a)) h.starts ∙ after
