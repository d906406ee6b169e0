use Rattle.std.proofs.Common.{sym, ap, ◌∙◌, Some, is_some, w64, true≢false}
use Rattle.std.proofs.lemmas.Int.{to_z-of_z}
use Rattle.std.specs.FinMap as map
use Rattle.stripe.proofs.Stored.{found, inserted, ok_unless, on_ok}
use Rattle.stripe.proofs.table.Table.write.Goals as goal

pub unwrap-requires : goal.unwrap-requires
unwrap-requires c =
    let absent = rw (to_z-of_z w64 c.args.key c.ranges.key) at c.insert.ensures.absent in
    ok_unless c.insert.result absent (λ none.
    true≢false (sym c.requires ∙ ap (λ m. is_some (map.get m c.args.key)) (sym c.self.view_is) ∙ ap is_some (found c.self.inside.stored.entries c.args.key ∙ none)))

pub returns : goal.returns
returns c =
    let told = on_ok c.insert.result c.unwrap.result c.insert.ensures.updates c.unwrap.ensures in
    let updates = rw (to_z-of_z w64 c.args.key c.ranges.key, to_z-of_z w64 c.args.value c.ranges.value) at told.0 in
    inserted c.self.inside.stored.entries c.insert.new.self.entries c.args.key (Some c.args.value) updates ∙ ap (λ m. map.insert m c.args.key (Some c.args.value)) c.self.view_is
