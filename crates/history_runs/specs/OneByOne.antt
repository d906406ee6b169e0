-- Runs of a world in which the calls run one after the other.
use Rattle.std.specs.Prelude.{◌≡◌, ◌≤◌, ◌<◌, ◌==◌, ℕ, ℤ, Bool, List, [], ◌∷◌, ◌++◌, length, replicate, count_by}
use Rattle.jtypes.specs.declared.loader.LoadAnswer.{LoadAnswer}
use Rattle.stripe.specs.History.{Record, key_of, stripe_of}
use Rattle.stripe.specs.Stored.{Stored}
use Rattle.world.specs.World.{World, Event, Start, Step, Finish, Runs, opened, records_on}
use Rattle.world.specs.Refused.{HadRoom, NoneRuns}

-- The events of a call on stripe `i`: its start, its steps, and its finish.
abbrev pub events_of : ℕ → ℕ → Record → List Event
events_of i steps r = Start r.caller r.call ∷ replicate steps (Step i) ++ Finish i ∷ []

-- `AreOneByOne` holds if the events are those of these calls, one call after the other.
pub data AreOneByOne (stripes : ℕ) : List Record → List Event → Type 0 where
  no_calls : AreOneByOne stripes [] []
  then_call : {rs : List Record} {events : List Event} (r : Record) (steps : ℕ) → AreOneByOne stripes rs events
      → AreOneByOne stripes (rs ++ r ∷ []) (events ++ events_of (stripe_of stripes (key_of r.call)) steps r)

-- The number of the caller's records.
abbrev pub count_of : ℕ → List Record → ℕ
count_of caller records = count_by (λ (r : Record). r.caller == caller) records

-- `AreNumberedAfter` holds if each record's number is the number of its caller's records before it. `seen` precede all of them.
abbrev pub AreNumberedAfter : List Record → List Record → Type 0
AreNumberedAfter seen [] = Unit {0}
AreNumberedAfter seen (r ∷ rs) = (r.number ≡ count_of r.caller seen) × AreNumberedAfter (seen ++ r ∷ []) rs

-- `AreNumbered` holds if each caller's records have the numbers 0, 1, 2 .. in order.
abbrev pub AreNumbered : List Record → Type 0
AreNumbered records = AreNumberedAfter [] records

-- `HasRoom` holds if each stripe has at most `journal` of these records.
abbrev pub HasRoom : ℕ → ℕ → List Record → Type 0
HasRoom stripes journal records = (i : ℕ) → i < stripes → length (records_on stripes i records) ≤ journal

-- `IsRunOneByOne` holds if the events lead from a world opened on these tables to the world `final`, run these calls one after the other,
-- and finish exactly these calls. No call is left running. If the records have room, no event is a start on a full history.
pub record IsRunOneByOne (loads : Bool) (gives : ℤ → LoadAnswer → Type 0) (opening : List Stored) (journal : ℕ) (records : List Record) (events : List Event) (final : World) : Type 0 where
  pub runs : Runs gives (opened loads opening journal) events final
  pub room : HasRoom (length opening) journal records → HadRoom runs
  pub order : AreOneByOne (length opening) records events
  pub finished : final.finished ≡ records
  pub none : NoneRuns final
