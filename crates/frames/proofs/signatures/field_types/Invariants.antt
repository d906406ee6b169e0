use Rattle.std.proofs.Common.{◌≡◌, drop}
use Rattle.frames.specs.Signatures.{field_types}
use Rattle.frames.proofs.Rows.{found_before}
use Rattle.frames.proofs.signatures.field_types.Given as goal

abbrev pub invariant-loop-one : goal.invariant-loop-one
invariant-loop-one l = found_before l.own l.types.items (drop l.one-index l.found) ≡ field_types l.own l.found
