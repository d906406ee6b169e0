-- The buffers of a round, and a property of its answers.
use Rattle.std.specs.Prelude.{◌≡◌, ◌≢◌, ℕ, length, Err}
use Rattle.cache.specs.declared.refusal.InvokeRefusal.TheVariants.{JournalFull}
use Rattle.invokeall.specs.Rounds.{Answer}
use Rattle.invokeall.specs.Buffers as rounds
use Rattle.workers.specs.declared.buffers.PoolBuffers.{PoolBuffers}

-- `CanHold` holds if the buffers fit a round of `jobs` jobs by `workers` workers, and have a workspace for each worker.
pub record CanHold (jobs workers : ℕ) (r : PoolBuffers) : Type 0 where
  pub round : rounds.CanHold jobs workers r.round
  pub workspaces : length r.workspaces.items ≡ workers

-- `HasPlace` holds if the job wasn't refused for a full history.
abbrev pub HasPlace : Answer → Type 0
HasPlace a = a ≢ Err JournalFull
