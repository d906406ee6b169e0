use Rattle.std.proofs.Common.{◌≡◌, ◌++◌, ◌∷◌, ◌+◌, ◌<◌, ◌≤◌, ℕ, List, [], length, take, map, get_or, set, sym, ap, subst, ◌∙◌, arith, rules}
use Rattle.std.proofs.lemmas.List.{get_or_default, length-take-le}
use Rattle.jtypes.specs.declared.types.JType.{JType}
use Rattle.locals.specs.Held.{page, IsPlace, AreCut, row_of}
use Rattle.locals.specs.Written.{written}
use Rattle.locals.proofs.ByPages.{more_fitting, still_cut, still_kept, now_written, now_there}
use Rattle.locals.proofs.Writing.{length-written}
use Rattle.locals.proofs.locals.Locals.put_front.Goals as goal

pub returns-then-has-clause-ok : goal.returns-then-has-clause-ok
returns-then-has-clause-ok c =
    let pages = c.self.inside.pages.items in
    let row = c.self.inside.row.items in
    let i = c.in-Some.i in
    let from = c.in-Some.from in
    let old = page pages (get_or row i 0) in
    let front : List JType = take c.min-count.result c.args.types.now in
    let place : IsPlace pages row c.args.at i from = search rules in
    let number : c.index.result.now ≡ get_or row i 0 = c.index.ensures ∙ get_or_default row i _ 0 place.index in
    let inside : get_or row i 0 < length pages = c.self.invariant.0.inside i 0 place.index in
    let here : c.as_slice-page.result.now ≡ old = c.as_slice-page.ensures ∙ c.index-2.ensures ∙ ap (λ n. get_or pages n c.index-2.result.now) number ∙ get_or_default pages (get_or row i 0) _ [] inside in
    let long : length c.as_slice-page.result.now ≡ length old = ap (λ p. length p) here in
    let few : length front ≡ c.min-count.result = length-take-le c.min-count.result c.args.types.now (omega (arith, c.min-count.ensures)) in
    let room : from + length front ≤ length old = omega (arith, few, long, place.inside, c.min-count.ensures) in
    let seen : row_of pages row ≡ c.args.self.now.row = search rules in
    let there : written c.as_slice-page.result.now from front ≡ c.as_slice-page.result.now = c.if-has.ensures in
    let same : written old from front ≡ old = ap (λ p. written p from front) (sym here) ∙ there ∙ here in
    sym (ap (λ r. written r c.args.at front) (sym seen) ∙ now_there pages row c.args.at i from front place room same ∙ seen)

pub invariant_of-self-2 : goal.invariant_of-self-2
invariant_of-self-2 c =
    let pages = c.self.inside.pages.items in
    let row = c.self.inside.row.items in
    let i = c.in-Some.i in
    let from = c.in-Some.from in
    let new = c.in_ok-new.new in
    let old = page pages (get_or row i 0) in
    let front : List JType = take c.min-count.result c.args.types.now in
    let place : IsPlace pages row c.args.at i from = search rules in
    let number : c.index.result.now ≡ get_or row i 0 = c.index.ensures ∙ get_or_default row i _ 0 place.index in
    let inside : get_or row i 0 < length pages = c.self.invariant.0.inside i 0 place.index in
    let here : c.as_slice-page.result.now ≡ old = c.as_slice-page.ensures ∙ c.index-2.ensures ∙ ap (λ n. get_or pages n c.index-2.result.now) number ∙ get_or_default pages (get_or row i 0) _ [] inside in
    let more : c.push.new.self.items ≡ pages ++ new ∷ [] = c.in_ok-push.ensures.items in
    let added : c.len-number.result ≡ length pages = search rules in
    let len : length new ≡ length old = ap (λ l. length l) c.in_ok-new.ensures ∙ length-written c.as_slice-page.result.now front from ∙ ap (λ l. length l) here in
    let P : ℕ → Type 0 = λ n. AreCut c.push.new.self.items c.self.inside.kept.items (set row i n) in
    let longer : c.push-2.new.self.items ≡ c.self.inside.fitting.items ++ c.len-number.result ∷ [] = c.in_ok-push-2.ensures.items ∙ ap (λ l. l ++ c.len-number.result ∷ []) c.in_ok-reserve.ensures.items in (
      subst P (sym added) (still_cut pages c.push.new.self.items new c.self.inside.kept.items row i c.self.invariant.0 place.index len more),
      more_fitting pages c.push.new.self.items new c.self.inside.fitting.items c.push-2.new.self.items c.len-number.result c.self.invariant.1 more longer added,
    )

pub returns-clause-ok : goal.returns-clause-ok
returns-clause-ok c =
    let pages = c.self.inside.pages.items in
    let row = c.self.inside.row.items in
    let i = c.in-Some.i in
    let from = c.in-Some.from in
    let new = c.in_ok-new.new in
    let old = page pages (get_or row i 0) in
    let front : List JType = take c.min-count.result c.args.types.now in
    let place : IsPlace pages row c.args.at i from = search rules in
    let number : c.index.result.now ≡ get_or row i 0 = c.index.ensures ∙ get_or_default row i _ 0 place.index in
    let inside : get_or row i 0 < length pages = c.self.invariant.0.inside i 0 place.index in
    let here : c.as_slice-page.result.now ≡ old = c.as_slice-page.ensures ∙ c.index-2.ensures ∙ ap (λ n. get_or pages n c.index-2.result.now) number ∙ get_or_default pages (get_or row i 0) _ [] inside in
    let long : length c.as_slice-page.result.now ≡ length old = ap (λ p. length p) here in
    let few : length front ≡ c.min-count.result = length-take-le c.min-count.result c.args.types.now (omega (arith, c.min-count.ensures)) in
    let room : from + length front ≤ length old = omega (arith, few, long, place.inside, c.min-count.ensures) in
    let more : c.push.new.self.items ≡ pages ++ new ∷ [] = c.in_ok-push.ensures.items in
    let added : c.len-number.result ≡ length pages = search rules in
    let wrote : new ≡ written old from front = c.in_ok-new.ensures ∙ ap (λ p. written p from front) here in
    let seen : row_of pages row ≡ c.args.self.now.row = search rules in
    ap (λ n. row_of c.push.new.self.items (set row i n)) added ∙ now_written pages c.push.new.self.items new row c.args.at i from front c.self.invariant.0.inside place room wrote more
    ∙ ap (λ r. written r c.args.at front) seen

pub returns-clause-kept : goal.returns-clause-kept
returns-clause-kept c =
    let pages = c.self.inside.pages.items in
    let more : c.push.new.self.items ≡ pages ++ c.in_ok-new.new ∷ [] = c.in_ok-push.ensures.items in
    let seen : map (row_of pages) c.self.inside.kept.items ≡ c.args.self.now.kept = search rules in
    still_kept pages c.push.new.self.items c.in_ok-new.new c.self.inside.kept.items c.self.inside.row.items c.self.invariant.0.others more ∙ seen
