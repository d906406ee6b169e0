use Rattle.std.proofs.Common.{sym, ap, ◌∙◌, w64}
use Rattle.std.proofs.lemmas.Int.{to_z-of_z}
use Rattle.std.specs.FinMap as map
use Rattle.stripe.proofs.Stored.{found}
use Rattle.stripe.proofs.table.Table.get.Goals as goal

pub returns : goal.returns
returns c =
    let value = rw (to_z-of_z w64 c.args.key c.ranges.key) at c.get.ensures.value in
    c.copied.ensures ∙ value ∙ sym (found c.self.inside.stored.entries c.args.key) ∙ ap (λ m. map.get m c.args.key) c.self.view_is
