use Rattle.std.proofs.Common.{ap, ◌∙◌, None, w64}
use Rattle.std.proofs.lemmas.Int.{to_z-of_z}
use Rattle.std.specs.FinMap as map
use Rattle.stripe.proofs.Stored.{inserted}
use Rattle.stripe.proofs.table.Table.hold.Goals as goal

pub returns : goal.returns
returns c =
    let updates = rw (to_z-of_z w64 c.args.key c.ranges.key) at c.in_ok-insert.ensures.updates.0 in
    record {
      ok = inserted c.self.inside.stored.entries c.insert.new.self.entries c.args.key None updates ∙ ap (λ m. map.insert m c.args.key None) c.self.view_is;
      err = tt;
      memory = tt;
    }
