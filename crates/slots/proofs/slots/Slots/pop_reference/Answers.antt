use Rattle.std.proofs.Common.{◌-◌}
use Rattle.jtypes.specs.declared.types.Value.TheVariants.{Ref}
use Rattle.slots.proofs.Kept.{top_at, top_under, word_at, kind_at, popped}
use Rattle.slots.proofs.slots.Slots.pop_reference.Goals as goal

pub returns-clause-reads : goal.returns-clause-reads
returns-clause-reads c arrays ls v vs below r =
    let s = c.args.self.now in
    let under = top_under arrays _ _ _ _ _ ls vs below (Ref v) r in
    let there = top_at arrays _ _ _ _ _ _ ls vs below (Ref v) under r in (
      c.reference_of.ensures arrays v (kind_at arrays s.words.items s.kinds.items (s.top - 1) (Ref v) _ there c.index.ensures) (word_at arrays s.words.items s.kinds.items (s.top - 1) (Ref v) _ there c.index-2.ensures),
      popped arrays _ _ _ _ _ _ ls vs below (Ref v) under r,
    )
