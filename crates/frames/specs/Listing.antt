-- The locals of a table's frames, computed entry by entry.
use Rattle.std.specs.Prelude.{◌≡◌, ◌<◌, ◌≤◌, Bool, true, List, [], ◌++◌, length, slice_index_or, Option, Some, None, if◌then◌else◌}
use Rattle.jtypes.specs.declared.types.JType.{JType}
use Rattle.jtypes.specs.Types.{is_long, slots_by}
use Rattle.frames.specs.declared.entries.Change.{Change}
use Rattle.frames.specs.declared.listing.Listing.{Listing}
use Rattle.frames.specs.Frames.{row_with}
use Rattle.frames.specs.Reading.{roomy_after}

-- `IsListing l` holds if the current locals and `slots` are those of `types`, which fit in `max_locals`
pub record IsListing (l : Listing) : Type 0 where
  pub row : l.locals.row ≡ row_with l.max_locals l.types.items
  pub slots : l.slots ≡ slots_by is_long l.types.items
  pub room : l.slots ≤ l.max_locals

-- `IsKept l` holds if the current locals are kept at index `number`
pub record IsKept (l : Listing) : Type 0 where
  pub inside : l.number < length l.locals.kept
  pub is : slice_index_or l.locals.kept l.number [] ≡ l.locals.row

-- `Grows kept next` holds if `next` extends `kept`
abbrev pub Grows : List (List JType) → List (List JType) → Type 0
Grows kept next = (more : List (List JType)) × (next ≡ kept ++ more)

-- `IsAfter l listed yes next` holds if `yes` says whether the types `listed` exist, and `next` then has them;
-- nothing is kept in addition
pub record IsAfter (l : Listing) (listed : Option (List JType)) (yes : Bool) (next : Listing) : Type 0 where
  pub types : listed ≡ (if yes then Some next.types.items else None)
  pub listing : yes ≡ true → IsListing next
  pub kept : next.locals.kept ≡ l.locals.kept
  pub max : next.max_locals ≡ l.max_locals

-- `IsChanged l c yes next` holds if `yes` says whether the change gives locals that fit, and `next` then has them and keeps them
pub record IsChanged (l : Listing) (c : Change) (yes : Bool) (next : Listing) : Type 0 where
  pub types : roomy_after l.max_locals l.types.items c ≡ (if yes then Some next.types.items else None)
  pub listing : yes ≡ true → IsListing next
  pub is_kept : yes ≡ true → IsKept next
  pub grows : Grows l.locals.kept next.locals.kept
  pub max : next.max_locals ≡ l.max_locals
