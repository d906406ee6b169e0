-- Runs with one more event.
use Rattle.std.proofs.Common.{◌≡◌, ℕ, ℤ, zero, suc, Bool, true, false, IsTrue, List, [], ◌∷◌, ◌++◌, map, take, Option, Some, None, slice_get, refl, ap, ◌∙◌}
use Rattle.stripe.specs.declared.refusal.BeginRefusal.{BeginRefusal}
use Rattle.stripe.specs.declared.refusal.BeginRefusal.TheVariants.{JournalFull, NoMemory}
use Rattle.world.specs.declared.event.Applied.TheVariants.{Refused}
use Rattle.jtypes.specs.declared.loader.LoadAnswer.{LoadAnswer}
use Rattle.stripe.specs.History.{key_of}
use Rattle.world.specs.World.{World, Running, Progress, Working, Settled, Event, Start, Step, Finish, entries_now, stripe_in, progress_of, after_begin, after_start, stepped, after_step, finished, after_finish, apply, Happens, Runs, none, more}
use Rattle.world.specs.Refused.{is_start_on_full, is_start_on_absent, KeepsEntries, RunsWithRoom, IsRefusable}

pub room_more : {gives : ℤ → LoadAnswer → Type 0} {w v u : World} {es : List Event} (e : Event) → RunsWithRoom gives w es v → Happens gives v e u → is_start_on_full v e ≡ false → KeepsEntries v u → RunsWithRoom gives w (es ++ e ∷ []) u
room_more e (runs, room) happens f keeps = (more e runs happens, (room, f, keeps))

pub take_one : {X Y : Type 0} (f : X → Y) (xs : List X) (i : ℕ) (x : X) → slice_get xs i ≡ Some x → map f (take (suc i) xs) ≡ map f (take i xs) ++ f x ∷ []
take_one f [] i x e = absurd (cc)
take_one f (y ∷ xs) zero x e = let same : y ≡ x = cc in ap (λ z. f z ∷ []) same
take_one f (y ∷ xs) (suc i) x e = ap (λ zs. f y ∷ zs) (take_one f xs i x e)

pub refusable : (w : World) (e : Event) (r : BeginRefusal) → (Refused r ≡ Refused JournalFull → IsTrue (is_start_on_full w e)) → (Refused r ≡ Refused NoMemory → IsTrue (is_start_on_absent w e)) → IsRefusable w e r
refusable w e JournalFull f g = f refl
refusable w e NoMemory f g = g refl

pub not_true : (b : Bool) → (b ≡ true → ⊥) → b ≡ false
not_true true n = absurd (n refl)
not_true false n = refl

-- ---- the opening tables do not change

opening_applied : (a : LoadAnswer) (w : World) (e : Event) → (apply a w e).opening ≡ w.opening
opening_applied a w (Start caller call) = started (slice_get w.running (stripe_in w call))
  where
    begins : (o : Option Progress) → (after_begin w caller call o).opening ≡ w.opening
    begins None = refl
    begins (Some p) = refl

    started : (o : Option (Option Running)) → (after_start a w caller call o).opening ≡ w.opening
    started None = refl
    started (Some None) = begins (progress_of w.loads a (entries_now w (key_of call)) call)
    started (Some (Some r)) = refl
opening_applied a w (Step i) = turned (slice_get w.running i)
  where
    turn : (r : Running) (q : Progress) → (stepped a w i r q).opening ≡ w.opening
    turn r (Working c s) = refl
    turn r (Settled reply after asked) = refl

    turned : (o : Option (Option Running)) → (after_step a w i o).opening ≡ w.opening
    turned None = refl
    turned (Some None) = refl
    turned (Some (Some r)) = turn r r.progress
opening_applied a w (Finish i) = ended (slice_get w.running i)
  where
    end : (r : Running) (q : Progress) → (finished w i r q).opening ≡ w.opening
    end r (Working c s) = refl
    end r (Settled reply after asked) = refl

    ended : (o : Option (Option Running)) → (after_finish w i o).opening ≡ w.opening
    ended None = refl
    ended (Some None) = refl
    ended (Some (Some r)) = end r r.progress

pub opening_stays : {gives : ℤ → LoadAnswer → Type 0} {w v : World} {es : List Event} → Runs gives w es v → v.opening ≡ w.opening
opening_stays none = refl
opening_stays (more {v} e runs (a, may, is)) = ap (λ (u : World). u.opening) is ∙ opening_applied a v e ∙ opening_stays runs
