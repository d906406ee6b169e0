-- The ghost views of claimers.
use Rattle.std.specs.Prelude.{ℕ, ◌+◌, ◌-◌, List, [], ◌++◌}

-- The view of one claimer, or of several joined claimers: the numbers of jobs and workers of the counter, the number of claimers,
-- the number of them that found no number left, and the job numbers that they claimed.
pub record View : Type 0 where
  pub jobs : ℕ
  pub workers : ℕ
  pub parts : ℕ
  pub ended : ℕ
  pub drawn : List ℕ

abbrev pub hand : ℕ → ℕ → ℕ → ℕ → List ℕ → View
hand jobs workers parts ended drawn = record { jobs = jobs; workers = workers; parts = parts; ended = ended; drawn = drawn }

-- The view after the split of one claimer. `one_alone` is the view of that claimer, which has claimed nothing.
abbrev pub without_one : View → View
without_one v = hand v.jobs v.workers (v.parts - 1) v.ended v.drawn

abbrev pub one_alone : View → View
one_alone v = hand v.jobs v.workers 1 0 []

-- The view of two joined claimers. `spent` is the view that the join leaves of the second one.
abbrev pub together : View → View → View
together v w = hand v.jobs v.workers (v.parts + w.parts) (v.ended + w.ended) (v.drawn ++ w.drawn)

abbrev pub spent : View
spent = hand 0 0 0 0 []
