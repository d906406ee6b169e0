use Rattle.std.proofs.Common.{ap, ◌∙◌, w64}
use Rattle.std.proofs.lemmas.Int.{to_z-of_z}
use Rattle.std.specs.FinMap as map
use Rattle.stripe.proofs.Stored.{removed}
use Rattle.stripe.proofs.table.Table.remove.Goals as goal

pub returns : goal.returns
returns c =
    let updates = rw (to_z-of_z w64 c.args.key c.ranges.key) at c.swap_remove.ensures.updates.0 in
    removed c.self.inside.stored.entries c.swap_remove.new.self.entries c.args.key updates ∙ ap (λ m. map.remove m c.args.key) c.self.view_is
