use Rattle.std.proofs.Common.{refl, arith}
use Rattle.byteorder.specs.Endian.{big_bytes}
use Rattle.wire.proofs.Lists.{grown_behind, room_behind}
use Rattle.wire.proofs.text.Text.u16.Goals as goal

pub returns : goal.returns
returns c = rw c.write_u16.ensures (grown_behind 4 c.self.inside.bytes (big_bytes 2 c.args.n) _ c.args.self.now c.self.inside.end _ 2 c.self.invariant.0 (omega (arith, c.self.invariant.1, c.self.told)) refl c.self.view_is)

pub write_u16-requires : goal.write_u16-requires
write_u16-requires c = rw c.self.told at (room_behind 4 c.self.inside.end 2 c.self.inside.bytes c.args.self.now c.self.invariant.0 (omega (arith, c.self.invariant.1, c.self.told)) c.self.view_is (omega (arith, c.requires, c.self.told)))
