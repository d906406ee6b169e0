-- The preallocated memory of a world.
use Rattle.std.specs.Prelude.{◌≡◌, ℕ, ◌≤◌, ◌*◌, List, [], Some, None, length, map, vec_capacity, slice_get}
use Rattle.stripe.specs.Stored.{Stored}
use Rattle.stripe.specs.Tables.{Back}
use Rattle.world.specs.Seated.{Seated}
use Rattle.world.specs.declared.room.WorldRoom.{WorldRoom}

pub record IsRoom (stripes journal : ℕ) (r : WorldRoom) : Type 0 where
  pub workspaces : length r.workspaces.items ≡ stripes
  pub none_seated : r.seats.items ≡ []
  pub seats : stripes ≤ vec_capacity r.seats
  pub none_finished : r.finished.items ≡ []
  pub finished : stripes * journal ≤ vec_capacity r.finished

abbrev pub stored_on : Seated → Stored
stored_on x = x.stripe.stored

-- The returned stripes of these seats, out of `stripes`.
abbrev pub back_of : ℕ → List Seated → Back
back_of stripes xs = record { stripes = stripes; tables = map stored_on xs; histories = map (λ (x : Seated). x.stripe.records) xs }

-- The seat of stripe `i` of `count`, on which no call runs.
pub record IsReturning (count i : ℕ) (x : Seated) : Type 0 where
  pub stripes : x.stripe.stripes ≡ count
  pub place : x.stripe.place ≡ i
  pub idle : x.running ≡ None

abbrev pub AreReturning : ℕ → List Seated → Type 0
AreReturning stripes xs = (i : ℕ) (x : Seated) → slice_get xs i ≡ Some x → IsReturning stripes i x
