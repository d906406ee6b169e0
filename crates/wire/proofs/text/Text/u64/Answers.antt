use Rattle.std.proofs.Common.{refl, arith}
use Rattle.byteorder.specs.Endian.{big_bytes}
use Rattle.wire.proofs.Lists.{grown_behind, room_behind}
use Rattle.wire.proofs.text.Text.u64.Goals as goal

pub returns : goal.returns
returns c = rw c.write_u64.ensures (grown_behind 4 c.self.inside.bytes (big_bytes 8 c.args.n) _ c.args.self.now c.self.inside.end _ 8 c.self.invariant.0 (omega (arith, c.self.invariant.1, c.self.told)) refl c.self.view_is)

pub write_u64-requires : goal.write_u64-requires
write_u64-requires c = rw c.self.told at (room_behind 4 c.self.inside.end 8 c.self.inside.bytes c.args.self.now c.self.invariant.0 (omega (arith, c.self.invariant.1, c.self.told)) c.self.view_is (omega (arith, c.requires, c.self.told)))
