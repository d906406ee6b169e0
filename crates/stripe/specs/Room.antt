-- The buffers of a split.
use Rattle.std.specs.Prelude.{◌≡◌, ℕ, ◌≤◌, List, [], length, vec_capacity, All}
use Rattle.std.specs.Global.{Vec}
use Rattle.stripe.specs.declared.call.Record.{Record}
use Rattle.stripe.specs.declared.tables.SplitRoom.{SplitRoom}
use Rattle.stripe.specs.Tables.{none_back}

-- `AreEmpty` holds if there are `stripes` empty histories, each with capacity for `journal` records.
pub record AreEmpty (stripes journal : ℕ) (hs : List (Vec Record)) : Type 0 where
  pub count : length hs ≡ stripes
  pub none : All (λ (h : Vec Record). h.items ≡ []) hs
  pub room : All (λ (h : Vec Record). journal ≤ vec_capacity h) hs

pub record IsRoom (stripes journal : ℕ) (r : SplitRoom) : Type 0 where
  pub histories : AreEmpty stripes journal r.histories.items
  pub empty : r.stripes.items ≡ []
  pub room : stripes ≤ vec_capacity r.stripes
  pub rest : r.rest ≡ none_back stripes
