-- The settings of a server, and the numbers and names of its faults.
use Rattle.std.specs.Prelude.{ℕ, ◌≤◌, List, codes}
use Rattle.stripe.specs.Tables.{IsCount}
use Rattle.serve.specs.declared.fault.ServeFault.{ServeFault}
use Rattle.serve.specs.declared.fault.ServeFault.TheVariants as fault
use Rattle.serve.specs.declared.settings.Settings.{Settings}

-- `CanServe` holds if the settings have 0 to 16 workers and 1 to 64 stripes.
pub record CanServe (s : Settings) : Type 0 where
  pub workers : s.workers ≤ 16
  pub stripes : IsCount s.stripes

-- The number of each fault.
abbrev pub fault_number : ServeFault → ℕ
fault_number fault.TooLong = 1
fault_number fault.Truncated = 2
fault_number fault.Malformed = 3
fault_number fault.Read = 4
fault_number fault.NoMemory = 5
fault_number fault.Write = 6
fault_number fault.BadCount = 7

abbrev pub fault_name : ServeFault → List ℕ
fault_name fault.TooLong = codes "TooLong"
fault_name fault.Truncated = codes "Truncated"
fault_name fault.Malformed = codes "Malformed"
fault_name fault.Read = codes "Read"
fault_name fault.NoMemory = codes "NoMemory"
fault_name fault.Write = codes "Write"
fault_name fault.BadCount = codes "BadCount"
