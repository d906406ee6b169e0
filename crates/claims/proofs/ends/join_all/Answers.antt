use Rattle.std.proofs.Common.{◌≡◌, ◌++◌, [], ◌∷◌, List, length, sym, ap, ◌∙◌, append_assoc, arith}
use Rattle.std.specs.Vec.Iter.{into_iter_items}
use Rattle.claims.specs.Views.{View, together}
use Rattle.claims.specs.Counters.{Numbering, Share, one_if}
use Rattle.claims.proofs.Draws.{may_join}
use Rattle.claims.proofs.Shares.{Sat, at_yielded, view_more}
use Rattle.claims.proofs.ends.join_all.Goals as goal

pub join_seat-requires : goal.join_seat-requires
join_seat-requires c =
    let i = c.loop-claimer.invariant in
    let ys = c.loop-claimer.yielded in
    let x = c.in-Some.claimer in
    let k = c.args.board.now.key in
    let steps : into_iter_items c.loop-claimer.claimer-iterator ≡ x ∷ into_iter_items c.next.new.self = c.in-Some.ensures.steps.0 in
    let there = c.requires.rest (length ys) x (at_yielded ys (into_iter_items c.loop-claimer.claimer-iterator) (into_iter_items c.next.new.self) x c.args.rest.items steps (i.0 ∙ c.into_iter-claimer-iterator.ensures.into_iter_gives.0)) in
    let home : c.loop-claimer.place.table_id ≡ c.args.board.now.table_id = i.1 ∙ ap (λ (s : Share). s.counter.table) c.first.view_is ∙ ap (λ (d : Numbering). d.table) c.requires.first in
    let parts = ap (λ (m : Sat). m.0.parts) i.2 in
    (home, ap (λ (s : Share). s.counter.table) c.claimer.view_is ∙ ap (λ (d : Numbering). d.table) there, c.claimer.invariant.free, c.requires.board, may_join k c.loop-claimer.place.id c.loop-claimer.place.me.0 c.claimer.inside.place.id c.claimer.inside.place.me.0 (omega (arith, parts)))

pub loop-claimer-preserved : goal.loop-claimer-preserved
loop-claimer-preserved c =
    let i = c.loop-claimer.invariant in
    let ys = c.loop-claimer.yielded in
    let x = c.in-Some.claimer in
    let k = c.args.board.now.key in
    let steps : into_iter_items c.loop-claimer.claimer-iterator ≡ x ∷ into_iter_items c.next.new.self = c.in-Some.ensures.steps.0 in
    let w : View = c.claimer.inside.place.me.0 in
    let is = c.claimer.view_is in
    let mine = c.claimer.invariant in
    let ended : w.ended ≡ one_if x.done = mine.ended ∙ ap (λ (s : Share). one_if s.done) is in
    let drawn : w.drawn ≡ x.drawn = ap (λ (s : Share). s.drawn) is in
    let s = c.join_seat.ensures in (
      append_assoc ys (x ∷ []) (into_iter_items c.next.new.self) ∙ ap (λ (l : List Share). ys ++ l) (sym steps) ∙ i.0,
      s.0 ∙ i.1,
      s.2 ∙ ap (λ (m : Sat). (together m.0 w, m.1)) i.2 ∙ ap (λ (v : View). (v, [])) (view_more k (c.args.first ∷ ys) x w mine.alone ended drawn),
    )
