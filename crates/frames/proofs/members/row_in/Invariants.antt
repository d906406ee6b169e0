use Rattle.std.proofs.Common.{◌≡◌, drop}
use Rattle.std.specs.Prelude.{map}
use Rattle.frames.specs.Members.{row_of}
use Rattle.frames.specs.Seen.{member_seen, row_seen}
use Rattle.frames.proofs.members.row_in.Given as goal

abbrev pub invariant-loop-row : goal.invariant-loop-row
invariant-loop-row l = row_of (map row_seen l.rows) l.kind (member_seen l.member) ≡ row_of (map row_seen (drop l.row-index l.rows)) l.kind (member_seen l.member)
