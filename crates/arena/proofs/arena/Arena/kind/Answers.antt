use Rattle.std.proofs.Common.{◌∙◌, ap, arith}
use Rattle.arena.specs.Stored.{kind_in}
use Rattle.arena.proofs.ArrayReads.{is_read, some_read}
use Rattle.arena.proofs.arena.Arena.kind.Goals as goal

pub get-requires : goal.get-requires
get-requires c =
    let r = some_read c.self.inside c.args.self.now c.args.id c.self.invariant c.self.view_is c.requires in
    omega (arith, r.read.within)

pub returns : goal.returns
returns c = λ k a at e.
    let r = is_read c.self.inside c.args.self.now k c.args.id a c.self.invariant c.self.view_is at e in
    c.kind_in.ensures ∙ ap kind_in c.get.ensures ∙ r.kind
