use Rattle.std.proofs.Common.{◌≡◌, ◌++◌, [], ◌∷◌, List, length, sym, ap, ◌∙◌, append_assoc}
use Rattle.std.specs.Vec.Iter.{into_iter_items}
use Rattle.stripe.specs.Kept.{Kept}
use Rattle.cache.proofs.Puts.{at_yielded}
use Rattle.cache.proofs.Backs.{next_of, more_of}
use Rattle.cache.proofs.ends.rejoined.Goals as goal

pub add-requires-clause-next : goal.add-requires-clause-next
add-requires-clause-next c =
    let i = c.loop-stripe.invariant in
    let ys = c.loop-stripe.yielded in
    let x = c.in-Some.stripe in
    let all = c.args.stripes.items in
    let steps : into_iter_items c.loop-stripe.stripe-iterator ≡ x ∷ into_iter_items c.next.new.self = c.in-Some.ensures.steps.0 in
    let at = at_yielded ys (into_iter_items c.loop-stripe.stripe-iterator) (into_iter_items c.next.new.self) x all steps (i.0 ∙ c.into_iter-stripe-iterator.ensures.into_iter_gives.0) in
    next_of (length all) ys x c.loop-stripe.rest (c.requires.stripes (length ys) x at) i.1

pub add-requires-clause-idle : goal.add-requires-clause-idle
add-requires-clause-idle c =
    let i = c.loop-stripe.invariant in
    let ys = c.loop-stripe.yielded in
    let x = c.in-Some.stripe in
    let all = c.args.stripes.items in
    let steps : into_iter_items c.loop-stripe.stripe-iterator ≡ x ∷ into_iter_items c.next.new.self = c.in-Some.ensures.steps.0 in
    let at = at_yielded ys (into_iter_items c.loop-stripe.stripe-iterator) (into_iter_items c.next.new.self) x all steps (i.0 ∙ c.into_iter-stripe-iterator.ensures.into_iter_gives.0) in
    (c.requires.stripes (length ys) x at).idle

pub loop-stripe-preserved : goal.loop-stripe-preserved
loop-stripe-preserved c =
    let i = c.loop-stripe.invariant in
    let ys = c.loop-stripe.yielded in
    let x = c.in-Some.stripe in
    let steps : into_iter_items c.loop-stripe.stripe-iterator ≡ x ∷ into_iter_items c.next.new.self = c.in-Some.ensures.steps.0 in (
      append_assoc ys (x ∷ []) (into_iter_items c.next.new.self) ∙ ap (λ (l : List Kept). ys ++ l) (sym steps) ∙ i.0,
      c.add.ensures ∙ more_of (length c.args.stripes.items) ys x c.loop-stripe.rest i.1,
    )
