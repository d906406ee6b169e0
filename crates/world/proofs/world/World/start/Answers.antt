use Rattle.std.proofs.Common.{rules, arith, ◌≡◌, ◌<◌, ◌+◌, ℕ, length, Some, None, vec_len, slice_get, slice_set, slice_index, w64, to_z, of_z, refl, sym, ap, subst, ◌∙◌}
use Rattle.std.proofs.lemmas.Option.{slice_get_read}
use Rattle.std.proofs.lemmas.Int.{to_z-of_z}
use Rattle.stripe.specs.declared.refusal.BeginRefusal.TheVariants.{JournalFull}
use Rattle.stripe.specs.History.{Begun, key_of, stripe_of}
use Rattle.stripe.specs.Seen.{call_of}
use Rattle.world.specs.declared.event.Applied.TheVariants.{Done, Ignored, Refused}
use Rattle.world.specs.World.{World, Start, Happens, AnswersAreGiven}
use Rattle.world.specs.Seated.{IsBegun, Starts}
use Rattle.world.specs.Forward.{GoesForward}
use Rattle.world.specs.Refused.{IsApplied, KeepsEntries}
use Rattle.world.specs.Inside.{parts, world_of}
use Rattle.world.proofs.Steady.{with_seat, running_set, steady_started, steady_same, world_same}
use Rattle.world.proofs.Given.{given_seat}
use Rattle.world.proofs.Applying.{applied_start, start_done, start_forward, of_stripe, idle_running}
use Rattle.world.proofs.Places.{seen, over}
use Rattle.world.proofs.world.World.start.Goals as goal

below : (n i len : ℕ) → i < len → len ≡ n → i < n
below n i len lt e = omega (arith, lt, e)

pub start-applied-requires : goal.start-applied-requires
start-applied-requires g c =
    let p = parts g.L.Loader.ASKS c.self.inside in
    let x = c.index_mut-seat.result.now in
    let there : slice_get p.seats c.stripe_of-place.result ≡ Some x = slice_get_read p.seats (vec_len c.self.inside.seats) c.stripe_of-place.result x c.self.inside.seats.ok.0 (below (vec_len c.self.inside.seats) c.stripe_of-place.result c.len.result c.stripe_of-place.ensures.within c.len.ensures) c.index_mut-seat.ensures.value in
    let key : to_z w64 (of_z w64 c.key.result) ≡ key_of (call_of c.args.call) = to_z-of_z w64 c.key.result (search rules) ∙ c.key.ensures in
    let place : c.stripe_of-place.result ≡ stripe_of (length p.opening) (key_of (call_of c.args.call)) =
    c.stripe_of-place.ensures.stripe ∙ ap (stripe_of c.len.result) key ∙ ap (λ n. stripe_of n (key_of (call_of c.args.call))) (c.len.ensures ∙ c.self.inside.seats.ok.0 ∙ c.self.invariant.steady.same) in
    of_stripe p c.self.invariant.steady c.stripe_of-place.result x there c.args.caller (call_of c.args.call) place

not_ignored : Done ≡ Ignored → ⊥
not_ignored e = absurd (cc)

not_full : Done ≡ Refused JournalFull → ⊥
not_full e = absurd (cc)

pub invariant_of-self : goal.invariant_of-self
invariant_of-self g c =
    let p = parts g.L.Loader.ASKS c.self.inside in
    let i = c.stripe_of-place.result in
    let x = c.index_mut-seat.result.now in
    let y = c.start-applied.new.self in
    let call = call_of c.args.call in
    let gives = g.L.Loader.gives c.self.inside.loader.now in
    let there : slice_get p.seats i ≡ Some x = slice_get_read p.seats (vec_len c.self.inside.seats) i x c.self.inside.seats.ok.0 (below (vec_len c.self.inside.seats) i c.len.result c.stripe_of-place.ensures.within c.len.ensures) c.index_mut-seat.ensures.value in
    let key : to_z w64 (of_z w64 c.key.result) ≡ key_of call = to_z-of_z w64 c.key.result (search rules) ∙ c.key.ensures in
    let place : i ≡ stripe_of (length p.opening) (key_of call) =
    c.stripe_of-place.ensures.stripe ∙ ap (stripe_of c.len.result) key ∙ ap (λ n. stripe_of n (key_of call)) (c.len.ensures ∙ c.self.inside.seats.ok.0 ∙ c.self.invariant.steady.same) in
    let number = slice_index c.self.inside.starts c.args.caller in
    let starts = slice_set c.self.inside.starts c.args.caller (number + 1) in
    let b : Begun = record { caller = c.args.caller; number = number; call = call; loads = g.L.Loader.ASKS } in
    let none : x.running ≡ None = idle_running x.running (λ s. not_ignored (c.in-Done.ensures.ignored.1 s)) in
    let begins : Starts gives x b y = c.in-Done.ensures.done refl in
    record {
      steady =
          steady_started p c.self.invariant.steady i x y there begins.0 b begins.2 none (λ e. not_full (c.in-Done.ensures.full.1 (none, e))) starts refl (search rules) refl
          (of_stripe p c.self.invariant.steady i x there c.args.caller call place) refl;
      given = given_seat gives p c.self.invariant.given i x there y starts begins.3;
    }

pub returns-in-Done-clause-applied : goal.returns-in-Done-clause-applied
returns-in-Done-clause-applied g c =
    let p = parts g.L.Loader.ASKS c.self.inside in
    let i = c.stripe_of-place.result in
    let x = c.index_mut-seat.result.now in
    let y = c.start-applied.new.self in
    let call = call_of c.args.call in
    let gives = g.L.Loader.gives c.self.inside.loader.now in
    let there : slice_get p.seats i ≡ Some x = slice_get_read p.seats (vec_len c.self.inside.seats) i x c.self.inside.seats.ok.0 (below (vec_len c.self.inside.seats) i c.len.result c.stripe_of-place.ensures.within c.len.ensures) c.index_mut-seat.ensures.value in
    let key : to_z w64 (of_z w64 c.key.result) ≡ key_of call = to_z-of_z w64 c.key.result (search rules) ∙ c.key.ensures in
    let place : i ≡ stripe_of (length p.opening) (key_of call) =
    c.stripe_of-place.ensures.stripe ∙ ap (stripe_of c.len.result) key ∙ ap (λ n. stripe_of n (key_of call)) (c.len.ensures ∙ c.self.inside.seats.ok.0 ∙ c.self.invariant.steady.same) in
    let number = slice_index c.self.inside.starts c.args.caller in
    let starts = slice_set c.self.inside.starts c.args.caller (number + 1) in
    let b : Begun = record { caller = c.args.caller; number = number; call = call; loads = g.L.Loader.ASKS } in
    let none : x.running ≡ None = idle_running x.running (λ s. not_ignored (c.in-Done.ensures.ignored.1 s)) in
    let begins : Starts gives x b y = c.in-Done.ensures.done refl in
    let new = world_of (with_seat p i y starts) in
    let byte : c.args.caller < 256 = search rules in
    over (λ l w. IsApplied (g.L.Loader.gives l) w (Start c.args.caller call) c.start-applied.result new) c.self.view_is
    (applied_start p c.self.invariant.steady i x there c.args.caller call place gives c.start-applied.result new
    c.start-applied.ensures.ignored c.start-applied.ensures.full c.start-applied.ensures.memory (λ n. absurd (n c.in-Done.is))
    (λ _. subst (Happens gives (world_of p) (Start c.args.caller call)) (sym (running_set p i y starts))
    (start_done p c.self.invariant.steady i x there c.args.caller call place gives number y none begins (c.self.invariant.steady.numbers c.args.caller byte))))

pub returns-in-Done-clause-forward : goal.returns-in-Done-clause-forward
returns-in-Done-clause-forward g c d =
    let p = parts g.L.Loader.ASKS c.self.inside in
    let i = c.stripe_of-place.result in
    let x = c.index_mut-seat.result.now in
    let y = c.start-applied.new.self in
    let call = call_of c.args.call in
    let gives = g.L.Loader.gives c.self.inside.loader.now in
    let there : slice_get p.seats i ≡ Some x = slice_get_read p.seats (vec_len c.self.inside.seats) i x c.self.inside.seats.ok.0 (below (vec_len c.self.inside.seats) i c.len.result c.stripe_of-place.ensures.within c.len.ensures) c.index_mut-seat.ensures.value in
    let key : to_z w64 (of_z w64 c.key.result) ≡ key_of call = to_z-of_z w64 c.key.result (search rules) ∙ c.key.ensures in
    let place : i ≡ stripe_of (length p.opening) (key_of call) =
    c.stripe_of-place.ensures.stripe ∙ ap (stripe_of c.len.result) key ∙ ap (λ n. stripe_of n (key_of call)) (c.len.ensures ∙ c.self.inside.seats.ok.0 ∙ c.self.invariant.steady.same) in
    let number = slice_index c.self.inside.starts c.args.caller in
    let starts = slice_set c.self.inside.starts c.args.caller (number + 1) in
    let b : Begun = record { caller = c.args.caller; number = number; call = call; loads = g.L.Loader.ASKS } in
    let none : x.running ≡ None = idle_running x.running (λ s. not_ignored (c.in-Done.ensures.ignored.1 s)) in
    let begins : Starts gives x b y = c.in-Done.ensures.done refl in
    let new = world_of (with_seat p i y starts) in
    subst (λ (w : World). GoesForward w (Start c.args.caller call) new) (seen c.self.view_is)
    (start_forward p c.self.invariant.steady i x there c.args.caller call place gives number y begins)

pub invariant_of-self-in_default : goal.invariant_of-self-in_default
invariant_of-self-in_default g c =
    let p = parts g.L.Loader.ASKS c.self.inside in
    let i = c.stripe_of-place.result in
    let x = c.index_mut-seat.result.now in
    let y = c.start-applied.new.self in
    let call = call_of c.args.call in
    let gives = g.L.Loader.gives c.self.inside.loader.now in
    let there : slice_get p.seats i ≡ Some x = slice_get_read p.seats (vec_len c.self.inside.seats) i x c.self.inside.seats.ok.0 (below (vec_len c.self.inside.seats) i c.len.result c.stripe_of-place.ensures.within c.len.ensures) c.index_mut-seat.ensures.value in
    let key : to_z w64 (of_z w64 c.key.result) ≡ key_of call = to_z-of_z w64 c.key.result (search rules) ∙ c.key.ensures in
    let place : i ≡ stripe_of (length p.opening) (key_of call) =
    c.stripe_of-place.ensures.stripe ∙ ap (stripe_of c.len.result) key ∙ ap (λ n. stripe_of n (key_of call)) (c.len.ensures ∙ c.self.inside.seats.ok.0 ∙ c.self.invariant.steady.same) in
    let same : y ≡ x = c.start-applied.ensures.same (λ d. c.in_default.not-Done d) in
    record {
      steady = steady_same p c.self.invariant.steady i x y there same;
      given = subst (AnswersAreGiven gives) (sym (world_same p c.self.invariant.steady i x y there same)) c.self.invariant.given;
    }

pub returns-in_default : goal.returns-in_default
returns-in_default g c =
    let p = parts g.L.Loader.ASKS c.self.inside in
    let i = c.stripe_of-place.result in
    let x = c.index_mut-seat.result.now in
    let y = c.start-applied.new.self in
    let call = call_of c.args.call in
    let gives = g.L.Loader.gives c.self.inside.loader.now in
    let there : slice_get p.seats i ≡ Some x = slice_get_read p.seats (vec_len c.self.inside.seats) i x c.self.inside.seats.ok.0 (below (vec_len c.self.inside.seats) i c.len.result c.stripe_of-place.ensures.within c.len.ensures) c.index_mut-seat.ensures.value in
    let key : to_z w64 (of_z w64 c.key.result) ≡ key_of call = to_z-of_z w64 c.key.result (search rules) ∙ c.key.ensures in
    let place : i ≡ stripe_of (length p.opening) (key_of call) =
    c.stripe_of-place.ensures.stripe ∙ ap (stripe_of c.len.result) key ∙ ap (λ n. stripe_of n (key_of call)) (c.len.ensures ∙ c.self.inside.seats.ok.0 ∙ c.self.invariant.steady.same) in
    let new = world_of (with_seat p i y p.starts) in
    record {
      applied =
          over (λ l w. IsApplied (g.L.Loader.gives l) w (Start c.args.caller call) c.start-applied.result new) c.self.view_is
          (applied_start p c.self.invariant.steady i x there c.args.caller call place gives c.start-applied.result new
          c.start-applied.ensures.ignored c.start-applied.ensures.full c.start-applied.ensures.memory
          (λ n. world_same p c.self.invariant.steady i x y there (c.start-applied.ensures.same n))
          (λ d. absurd (c.in_default.not-Done d)));
      held = subst (λ (w : World). KeepsEntries w new) (seen c.self.view_is) (λ k a b. refl);
      forward = λ d. absurd (c.in_default.not-Done d);
      loader = ap (λ w. w.loader) c.self.view_is;
    }
