-- The invariants of counters and of claimers.
use Rattle.std.specs.Prelude.{◌≡◌, ℕ, ◌<◌, List, [], ◌∷◌, ◌++◌, length}
use Rattle.atomic_table.specs.Seated.{TableId}
use Rattle.claims.specs.declared.known.Terms.{Terms}
use Rattle.claims.specs.declared.claimer.Claimer.TheInside.{Inside as InClaimer}
use Rattle.claims.specs.declared.counter.Counter.TheInside.{Inside}
use Rattle.claims.specs.Counters.{Numbering, Share, total, one_if}
use Rattle.claims.specs.Views.{View, hand}

abbrev pub numbering : TableId → Terms → Numbering
numbering t k = record { table = t; jobs = k.jobs; workers = k.workers }

abbrev pub counting : Inside → Numbering
counting s = numbering s.table.shared.table_id s.table.shared.key

-- `IsCounter` holds if the table has one word and no slot, its job count is the counter's, and there is a worker.
pub record IsCounter (s : Inside) : Type 0 where
  pub words : s.table.shared.table_id.words ≡ 1
  pub slots : s.table.shared.table_id.slots ≡ 0
  pub jobs_are : s.jobs ≡ s.table.shared.key.jobs
  pub some_worker : 0 < s.table.shared.key.workers

abbrev pub counter_in : TableId → View → Numbering
counter_in t v = record { table = t; jobs = v.jobs; workers = v.workers }

abbrev pub share : InClaimer → Share
share s = record { counter = counter_in s.place.table_id s.place.me.0; drawn = s.place.me.0.drawn; done = s.done }

-- `IsClaimer` holds if the ghost view is that of one claimer, agrees with its `done`, and holds no slot.
pub record IsClaimer (s : InClaimer) : Type 0 where
  pub alone : s.place.me.0.parts ≡ 1
  pub ended : s.place.me.0.ended ≡ one_if s.done
  pub free : s.place.me.1 ≡ []

abbrev pub all_drawn : List Share → List ℕ
all_drawn [] = []
all_drawn (s ∷ claimers) = s.drawn ++ all_drawn claimers

-- The view of joined claimers.
abbrev pub view_of : Terms → List Share → View
view_of k claimers = hand k.jobs k.workers (length claimers) (total (λ (s : Share). one_if s.done) claimers) (all_drawn claimers)
