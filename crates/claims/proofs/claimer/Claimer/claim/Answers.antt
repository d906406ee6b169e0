use Rattle.std.proofs.Common.{[], ap, sym, ◌∙◌}
use Rattle.claims.specs.Views.{hand}
use Rattle.claims.specs.Counters.{Numbering, Share, one_if}
use Rattle.claims.proofs.Shares.{is_hand}
use Rattle.claims.proofs.claimer.Claimer.claim.Goals as goal

pub draw-number-requires-clause-open : goal.draw-number-requires-clause-open
draw-number-requires-clause-open c =
    let m = c.self.inside.place.me in
    let i = c.self.invariant in
    let same : Numbering = c.args.self.now.counter in
    let home = ap (λ (s : Share). s.counter) c.self.view_is ∙ c.requires ∙ sym c.counter.view_is in
    (m.0.drawn, is_hand m 0 i.alone (i.ended ∙ ap one_if c.if-self.false) i.free ∙ (λ j. (hand (home j).jobs (home j).workers 1 0 m.0.drawn, [])))
