use Rattle.std.proofs.Common.{◌≡◌, ap, ◌∙◌, map, List}
use Rattle.std.specs.Vec.{with_items}
use Rattle.std.proofs.lemmas.List.{with_items_is}
use Rattle.unrolled.specs.Known.{forgotten}
use Rattle.search.specs.declared.known.Known as plain
use Rattle.search.specs.Seen.{known_seen, operands_seen, node_seen, following_seen}
use Rattle.search.proofs.Entering.{operands_forgotten, arrived}
use Rattle.search.proofs.arrivals.arrive.Goals as goal

pub returns : goal.returns
returns c =
    let same : (with_items c.args.x.now.operands c.forget.new.operands).items ≡ c.forget.new.operands =
    with_items_is c.args.x.now.operands c.forget.new.operands (c.forget.auto.operands ∙ c.deref_mut.ensures.len) in
    let all : map known_seen c.forget.new.operands ≡ map forgotten (map known_seen c.args.x.now.operands.items) =
    c.forget.ensures ∙ ap (λ (l : List plain.Known). map forgotten (map known_seen l)) c.deref_mut.ensures.value in
    arrived (following_seen c.args.f.now) (node_seen c.args.x.now) (map known_seen c.clear.new.self.items) (operands_seen (with_items c.args.x.now.operands c.forget.new.operands).items) c.if-f.false
    (ap (map known_seen) c.clear.ensures.items) (ap operands_seen same ∙ operands_forgotten forgotten c.forget.new.operands c.args.x.now.operands.items all)
