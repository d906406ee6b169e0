use Rattle.std.proofs.Common.{◌∷◌, ap, sym, ◌∙◌}
use Rattle.atomic_table.specs.Table.{rest}
use Rattle.cache.proofs.steps.begin.Goals as goal

pub slot_mut-requires : goal.slot_mut-requires
slot_mut-requires g c = let h = c.requires.held in (c.requires.table, (h.stripe, h.is ∙ (λ t. (c.args.index, h.stripe) ∷ sym (ap rest h.is) t)))
