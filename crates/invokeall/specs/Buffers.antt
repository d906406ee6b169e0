-- The buffers of a round, and the answers in them.
use Rattle.std.specs.Prelude.{◌≡◌, ℕ, ◌≤◌, List, [], ◌∷◌, map, flat_map, length, replicate, slice_set, vec_capacity, Option, Some, None, Err, Vec}
use Rattle.std.specs.Global.{Global}
use Rattle.std.specs.List.{All}
use Rattle.stripe.specs.Tables.{IsCount}
use Rattle.claims.specs.Counters.{Share, AreFresh}
use Rattle.cache.specs.declared.refusal.InvokeRefusal.TheVariants.{NoMemory}
use Rattle.cache.specs.Opened.{Sitting}
use Rattle.invokeall.specs.declared.worker.Worker.{Worker}
use Rattle.invokeall.specs.declared.buffers.RoundBuffers.{RoundBuffers}
use Rattle.invokeall.specs.Groups.{AreBlank}
use Rattle.invokeall.specs.Rounds.{Answer}

abbrev pub Row : Type 0
Row = Vec (ℕ × Answer) Global

-- The answer to each job, or none yet.
abbrev pub Places : Type 0
Places = List (Option Answer)

-- No answer yet to `n` jobs.
abbrev pub blanks : ℕ → Places
blanks n = replicate n None

-- The answers after each entry is written to the index of its job. A later entry replaces an earlier one.
abbrev pub placed : Places → List (ℕ × Answer) → Places
placed places [] = places
placed places (e ∷ es) = placed (slice_set places e.0 (Some e.1)) es

-- The answer at an index, or the refusal `NoMemory` if there is none yet.
abbrev pub shown_place : Option Answer → Answer
shown_place (Some a) = a
shown_place None = Err NoMemory

abbrev pub shown : Places → List Answer
shown places = map shown_place places

-- The answers after each entry is written to the index of its job.
abbrev pub put_all : List Answer → List (ℕ × Answer) → List Answer
put_all answers [] = answers
put_all answers (e ∷ es) = put_all (slice_set answers e.0 e.1) es

-- `IsThere` holds if there is an answer.
abbrev pub IsThere : Option Answer → Type 0
IsThere p = (a : Answer) × (p ≡ Some a)

abbrev pub entries_of : List Row → List (ℕ × Answer)
entries_of rows = flat_map (λ (r : Row). r.items) rows

abbrev pub seats_of : List Worker → List Sitting
seats_of ws = map (λ (w : Worker). w.seat) ws

abbrev pub claimers_of : List Worker → List Share
claimers_of ws = map (λ (w : Worker). w.claimer) ws

abbrev pub rows_of : List Worker → List Row
rows_of ws = map (λ (w : Worker). w.answers) ws

-- `HasRoom` holds if the list is empty and has capacity for `n` items.
abbrev pub HasRoom : {A : Type 0} → ℕ → Vec A Global → Type 0
HasRoom n v = (v.items ≡ []) × (n ≤ vec_capacity v)

-- `CanHold` holds if the buffers fit a round of `jobs` jobs by `count` workers. The counter counts the groups.
pub record CanHold (jobs count : ℕ) (r : RoundBuffers) : Type 0 where
  pub some_groups : IsCount r.counter.jobs
  pub workers_are : r.counter.workers ≡ count
  pub blank : AreBlank jobs r.counter.jobs r.groups
  pub claimers : AreFresh r.counter r.claimers.items
  pub lists : (length r.lists.items ≡ count) × All (HasRoom jobs) r.lists.items
  pub workers : HasRoom count r.workers
  pub rows : HasRoom count r.rows
  pub seats : HasRoom count r.seats
  pub workspaces : HasRoom count r.workspaces
  pub spent : HasRoom count r.spent
  pub answers : r.answers.items ≡ replicate jobs (Err NoMemory)
