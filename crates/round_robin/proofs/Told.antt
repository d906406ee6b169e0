-- The results of the events that the scheduler applies.
use Rattle.std.proofs.Common.{arith, ◌≡◌, ◌↔◌, ℕ, ◌-◌, true, false, not, List, [], ◌∷◌, ◌++◌, length, map, Some, None, IsTrue, slice_get, refl, sym, ap, ◌∙◌, true≢false}
use Rattle.stripe.specs.declared.refusal.BeginRefusal.{BeginRefusal}
use Rattle.stripe.specs.declared.refusal.BeginRefusal.TheVariants.{JournalFull, NoMemory}
use Rattle.stripe.specs.History.{Call}
use Rattle.stripe.specs.Kept.{may_make}
use Rattle.world.specs.declared.event.Applied.{Applied}
use Rattle.world.specs.declared.event.Applied.TheVariants.{Done, Ignored, Refused}
use Rattle.world.specs.World.{World, Running, Event, Start, Step, Finish, stripe_in, history_of}
use Rattle.world.specs.Refused.{is_final, works, is_idle, is_possible, is_start_on_full, is_start_on_absent}
use Rattle.round_robin.proofs.Moves.{no_some, full_of, absent_of}
use Rattle.round_robin.proofs.Replies.{get_in}

-- The contract of the result of an event.
pub record IsTold (w : World) (e : Event) (a : Applied) : Type 0 where
  pub ignored : (a ≡ Ignored) ↔ (is_possible w e ≡ false)
  pub full : (a ≡ Refused JournalFull) ↔ IsTrue (is_start_on_full w e)
  pub memory : a ≡ Refused NoMemory → IsTrue (is_start_on_absent w e)

-- A step whose result isn't `Done` wasn't possible.
pub not_stepped : (w : World) (i : ℕ) (a : Applied) → IsTold w (Step i) a → ¬ (a ≡ Done) → is_possible w (Step i) ≡ false
not_stepped w i Done t n = absurd (n refl)
not_stepped w i Ignored t n = t.ignored.0 refl
not_stepped w i (Refused JournalFull) t n = absurd (true≢false (sym (t.full.0 refl)))
not_stepped w i (Refused NoMemory) t n = absurd (true≢false (sym (t.memory refl)))

-- If a step of a running call isn't possible, its finish is possible.
pub was_finished : (w : World) (i : ℕ) (r : Running) → slice_get w.running i ≡ Some (Some r) → is_possible w (Step i) ≡ false → is_possible w (Finish i) ≡ true
was_finished w i r e f = ap is_final e ∙ ap not (sym (ap works e) ∙ f)

pub is_finished : (w : World) (i : ℕ) (a : Applied) → IsTold w (Finish i) a → is_possible w (Finish i) ≡ true → a ≡ Done
is_finished w i Done t e = refl
is_finished w i Ignored t e = absurd (true≢false (sym e ∙ t.ignored.0 refl))
is_finished w i (Refused JournalFull) t e = absurd (true≢false (sym (t.full.0 refl)))
is_finished w i (Refused NoMemory) t e = absurd (true≢false (sym (t.memory refl)))

-- A start on a stripe on which no call runs isn't ignored.
pub not_ignored : (w : World) (call : Call) (a : Applied) → IsTold w (Start 0 call) a → slice_get w.running (stripe_in w call) ≡ Some None → a ≡ Ignored → ⊥
not_ignored w call a t idle e = true≢false (sym (ap is_idle idle) ∙ t.ignored.0 e)

-- A refused call may create an entry, if the history isn't full.
pub may_make_entry : (w : World) (call : Call) (a : Applied) (r : BeginRefusal) → IsTold w (Start 0 call) a → a ≡ Refused r → (length (history_of w (stripe_in w call)) ≡ w.journal → ⊥) → may_make w.loads call ≡ true
may_make_entry w call a JournalFull t e n = absurd (n (full_of w 0 call (t.full.0 e)))
may_make_entry w call a NoMemory t e n = absent_of w 0 call (t.memory e)

-- A list with an appended element has a last element.
pub has_last : {X Y : Type 0} (f : X → Y) (xs : List X) (ys : List Y) (y : Y) → map f xs ≡ ys ++ y ∷ [] → slice_get xs (length xs - 1) ≡ None → ⊥
has_last f [] [] y e n = absurd (cc)
has_last f [] (z ∷ ys) y e n = absurd (cc)
has_last f (x ∷ xs) ys y e n = let found = get_in (x ∷ xs) (length (x ∷ xs) - 1) (omega arith) in no_some (sym n ∙ found.1)
