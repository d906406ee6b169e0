use Rattle.std.proofs.Common.{◌≡◌, ℕ, List, [], ◌∷◌, ◌++◌, set, refl, sym, ap, ◌∙◌}
use Rattle.std.specs.Vec.Iter.{into_iter_items}
use Rattle.invokeall.specs.Rounds.{Answer}
use Rattle.invokeall.specs.Buffers.{Row, put_all, entries_of}
use Rattle.invokeall.proofs.buffers.collect.Goals as goal

put_append : (a : List Answer) (xs ys : List (ℕ × Answer)) → put_all a (xs ++ ys) ≡ put_all (put_all a xs) ys
put_append a [] ys = refl
put_append a (x ∷ xs) ys = put_append (set a x.0 x.1) xs ys

pub loop-row-preserved : goal.loop-row-preserved
loop-row-preserved c =
    let i = c.loop-row.invariant in
    let old : List Answer = c.loop-row.answers in
    let next : List (ℕ × Answer) = entries_of (into_iter_items c.next.new.self) in
    let steps : into_iter_items c.loop-row.row-iterator ≡ c.in-Some.row ∷ into_iter_items c.next.new.self = c.in-Some.ensures.steps.0 in
    ap (λ (a : List Answer). put_all a next) (c.put.ensures ∙ ap (λ l. put_all old l) c.as_slice.ensures.value)
    ∙ sym (put_append old c.in-Some.row.items next)
    ∙ ap (λ (l : List Row). put_all old (entries_of l)) (sym steps)
    ∙ i
