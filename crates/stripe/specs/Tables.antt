-- The tables of a cache, its new stripes, and the state of their collector.
use Rattle.std.specs.Prelude.{◌≡◌, ℕ, suc, ◌<◌, ◌≤◌, List, [], ◌∷◌, ◌++◌, length, All}
use Rattle.stripe.specs.History.{Record}
use Rattle.stripe.specs.Stored.{Stored, HasValues}
use Rattle.stripe.specs.Kept.{Kept, fresh}

-- 1 to 64 stripes
abbrev pub IsCount : ℕ → Type 0
IsCount stripes = (0 < stripes) × (stripes ≤ 64)

-- 1 to 4,096 records
abbrev pub IsJournal : ℕ → Type 0
IsJournal journal = (0 < journal) × (journal ≤ 4096)

-- `AreTables` holds if there are 1 to 64 tables, and no key is stored without a value.
pub record AreTables (ms : List Stored) : Type 0 where
  pub count : IsCount (length ms)
  pub values : All HasValues ms

-- New stripes with these tables, the first of them with the index `place`.
abbrev pub fresh_from : ℕ → ℕ → ℕ → List Stored → List Kept
fresh_from stripes journal place [] = []
fresh_from stripes journal place (m ∷ ms) = fresh stripes journal place m ∷ fresh_from stripes journal (suc place) ms

abbrev pub fresh_stripes : ℕ → List Stored → List Kept
fresh_stripes journal ms = fresh_from (length ms) journal 0 ms

-- The state of the collector: the number of stripes, and the tables and the histories that were added, in order.
pub record Back : Type 0 where
  pub stripes : ℕ
  pub tables : List Stored
  pub histories : List (List Record)

abbrev pub none_back : ℕ → Back
none_back stripes = record { stripes = stripes; tables = []; histories = [] }

abbrev pub added : Back → Kept → Back
added b s = record { stripes = b.stripes; tables = b.tables ++ s.stored ∷ []; histories = b.histories ++ s.records ∷ [] }

-- `IsNext` holds if the stripe is the next one to add.
pub record IsNext (b : Back) (s : Kept) : Type 0 where
  pub stripes : s.stripes ≡ b.stripes
  pub place : s.place ≡ length b.tables
