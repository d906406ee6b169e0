-- The invariant of the collector of stripes.
use Rattle.std.specs.Prelude.{◌≡◌, ◌≤◌, length, map, vec_capacity, All}
use Rattle.stripe.specs.declared.rest.Rest.TheInside.{Inside}
use Rattle.stripe.specs.Seen.{record_of}
use Rattle.stripe.specs.Stored.{HasValues}
use Rattle.stripe.specs.Tables.{Back, IsCount}

abbrev pub back : Inside → Back
back r = record { stripes = r.stripes; tables = r.tables.items; histories = map (λ h. map record_of h.items) r.histories.items }

pub record IsReturn (r : Inside) : Type 0 where
  pub count : IsCount r.stripes
  pub same : length r.histories.items ≡ length r.tables.items
  pub fits : length r.tables.items ≤ r.stripes
  pub tables : r.stripes ≤ vec_capacity r.tables
  pub histories : r.stripes ≤ vec_capacity r.histories
  pub values : All HasValues r.tables.items
