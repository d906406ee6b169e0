use Rattle.std.proofs.Common.{◌≡◌, false}
use Rattle.std.specs.List.{AllWithin}
use Rattle.jtypes.specs.Lists.{same_bytes}
use Rattle.classfile.specs.View.{text_at}
use Rattle.verdict.proofs.shape_spot.first_named.Given as goal

abbrev pub invariant-loop-number : goal.invariant-loop-number
invariant-loop-number l = AllWithin (λ m. same_bytes (text_at l.class.pool m.name) l.name ≡ false) l.methods 0 l.number
