use Rattle.std.proofs.Common.{◌≡◌, ◌<◌, ◌^◌, drop, None}
use Rattle.std.specs.Prelude.{All}
use Rattle.frames.specs.Listing.{IsListing, IsKept}
use Rattle.frames.specs.Seen.{declared_seen, AreKept}
use Rattle.frames.specs.Reading.{framed}
use Rattle.frames.proofs.Framed.{with_frames}
use Rattle.frames.proofs.Listed.{BeginsWith}
use Rattle.frames.proofs.table.frames_from.Given as goal

abbrev pub invariant-loop-entry : goal.invariant-loop-entry
invariant-loop-entry l = record {
  listing : IsListing l.listing;
  is_kept : IsKept l.listing;
  max : l.listing.max_locals ≡ l.start.max_locals;
  first : BeginsWith l.start l.listing.locals.kept;
  rows : AreKept l.listing.locals.kept l.declared.items;
  fit : All (λ d. d.place < 2 ^ 64) l.declared.items;
  frames : with_frames (declared_seen l.listing.locals.kept l.declared.items) (framed l.start l.code l.before l.listing.types.items (drop l.entry-index l.entries)) ≡ framed l.start l.code None l.start.signature.params l.entries;
}
