-- The effect of an event on a world.
use Rattle.std.proofs.Common.{arith, ◌≡◌, ℕ, ◌<◌, Bool, true, false, not, ◌&&◌, ◌==◌, length, Option, Some, None, IsSome, IsTrue, slice_get, refl, sym, ap, ◌∙◌, true≢false}
use Rattle.std.proofs.lemmas.Bool.{eqb-true}
use Rattle.stripe.specs.declared.call.Reply.{Reply}
use Rattle.stripe.specs.History.{Call, key_of}
use Rattle.stripe.specs.Kept.{may_make}
use Rattle.jtypes.specs.Entry.{Entry}
use Rattle.jtypes.specs.declared.loader.LoadAnswer.{LoadAnswer}
use Rattle.world.specs.World.{World, Running, Progress, Working, Settled, Start, Step, Finish, entries_now, stripe_in, history_of, starts_of, progress_of, running_call, with_progress, with_running, with_record, record_of_call, after_begin, after_start, stepped, after_step, finished, after_finish, apply}
use Rattle.world.specs.Refused.{is_working, is_final, is_possible, is_start_on_full, is_start_on_absent}
use Rattle.world.specs.Forward.{turns_of, turns_on}

pub no_some : {X : Type 0} {P : Type 0} {x : X} → None ≡ Some x → P
no_some e = absurd (cc)

-- ---- the bound of a call's events

pub some_turns : (q : Progress) → 0 < turns_of q
some_turns (Working c s) = omega arith
some_turns (Settled reply after asked) = omega arith

-- If the bound is 0, no call runs.
pub no_turns : (o : Option Running) → turns_on (Some o) ≡ 0 → o ≡ None
no_turns None e = refl
no_turns (Some r) e = let more = some_turns r.progress in absurd (omega (arith, more, e))

-- ---- a step

-- The effect of a step: the stripe's call progresses, or nothing changes.
pub data Steps (w : World) (i : ℕ) : World → Type 0 where
  nothing : Steps w i w
  goes : (r : Running) (q : Progress) → slice_get w.running i ≡ Some (Some r) → Steps w i (with_running w i (Some (with_progress r q)))

pub step_moves : (a : LoadAnswer) (w : World) (i : ℕ) → Steps w i (apply a w (Step i))
step_moves a w i = by (slice_get w.running i) refl
  where
    turn : (r : Running) (q : Progress) → slice_get w.running i ≡ Some (Some r) → Steps w i (stepped a w i r q)
    turn r (Working c s) e = goes r _ e
    turn r (Settled reply after asked) e = nothing

    by : (o : Option (Option Running)) → slice_get w.running i ≡ o → Steps w i (after_step a w i o)
    by None e = nothing
    by (Some None) e = nothing
    by (Some (Some r)) e = turn r r.progress e

-- ---- a finish

pub record Finishes (a : LoadAnswer) (w : World) (i : ℕ) (r : Running) : Type 0 where
  pub reply : Reply
  pub after : Entry
  pub asked : Option LoadAnswer
  pub is : apply a w (Finish i) ≡ with_record w i (record_of_call r reply after asked)

pub finish_moves : (a : LoadAnswer) (w : World) (i : ℕ) (r : Running) → slice_get w.running i ≡ Some (Some r) → is_possible w (Finish i) ≡ true → Finishes a w i r
finish_moves a w i r e t = by r.progress refl (sym (ap is_final e) ∙ t)
  where
    by : (q : Progress) → r.progress ≡ q → not (is_working r.progress) ≡ true → Finishes a w i r
    by (Working c s) is u = absurd (true≢false (sym u ∙ ap (λ q. not (is_working q)) is))
    by (Settled reply after asked) is u = record { reply = reply; after = after; asked = asked; is = ap (after_finish w i) e ∙ ap (finished w i r) is }

-- ---- a start

pub record Starts (a : LoadAnswer) (w : World) (call : Call) : Type 0 where
  pub progress : Progress
  pub is : apply a w (Start 0 call) ≡ with_running w (stripe_in w call) (Some (running_call 0 (starts_of w 0) call progress))

pub start_moves : (a : LoadAnswer) (w : World) (call : Call) → slice_get w.running (stripe_in w call) ≡ Some None → IsSome (progress_of w.loads a (entries_now w (key_of call)) call) → Starts a w call
start_moves a w call idle some = by (progress_of w.loads a (entries_now w (key_of call)) call) refl some
  where
    by : (o : Option Progress) → progress_of w.loads a (entries_now w (key_of call)) call ≡ o → IsSome o → Starts a w call
    by None e s = absurd (true≢false (sym s))
    by (Some q) e s = record { progress = q; is = ap (after_start a w 0 call) idle ∙ ap (after_begin w 0 call) e }

-- ---- the calls that may be refused

both : (a b : Bool) → (a && b) ≡ true → (a ≡ true) × (b ≡ true)
both true b e = (refl, e)
both false b e = absurd (true≢false (sym e))

pub full_of : (w : World) (caller : ℕ) (call : Call) → IsTrue (is_start_on_full w (Start caller call)) → length (history_of w (stripe_in w call)) ≡ w.journal
full_of w caller call e = eqb-true (length (history_of w (stripe_in w call))) w.journal (both (is_possible w (Start caller call)) (length (history_of w (stripe_in w call)) == w.journal) e).1

pub absent_of : (w : World) (caller : ℕ) (call : Call) → IsTrue (is_start_on_absent w (Start caller call)) → may_make w.loads call ≡ true
absent_of w caller call e = (both (may_make w.loads call) _ (both (is_possible w (Start caller call)) _ e).1).0
