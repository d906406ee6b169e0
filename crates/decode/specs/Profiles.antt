-- The order of the profiles.
use Rattle.jtypes.specs.Profile.{Profile, First, Second, Third}

-- `IsNext p q` holds if `q` is the profile after `p`
abbrev pub IsNext : Profile → Profile → Type 0
IsNext First Second = Unit {0}
IsNext Second Third = Unit {0}
IsNext _ _ = ⊥
