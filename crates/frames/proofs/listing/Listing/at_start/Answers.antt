use Rattle.std.proofs.Common.{rules, ◌≡◌, ◌≤◌, ◌++◌, ◌∷◌, [], List, length, replicate, ap, ◌∙◌, sym, arith, refl}
use Rattle.std.proofs.lemmas.List.{length-replicate}
use Rattle.jtypes.specs.declared.types.JType.{JType}
use Rattle.jtypes.specs.declared.types.JType.TheVariants.{Top}
use Rattle.locals.specs.Written.{written}
use Rattle.frames.specs.Frames.{row_with}
use Rattle.frames.proofs.Rows.{locals_of_types}
use Rattle.frames.proofs.Room.{slots}
use Rattle.frames.proofs.Listed.{spread_written, row_started, kept_last, is_listing}
use Rattle.frames.proofs.listing.Listing.at_start.Goals as goal

pub put-requires-clause-there : goal.put-requires-clause-there
put-requires-clause-there c =
    let e = c.args.start.now in
    let listed : c.deref-2.result.now ≡ locals_of_types e.signature.params = search rules in
    let max : c.from-max_locals.result ≡ e.max_locals = search rules in
    let row : length c.in_ok-locals.locals.row ≡ c.from-max_locals.result = ap (λ (r : List JType). length r) c.in_ok-locals.ensures.row ∙ length-replicate c.from-max_locals.result Top in
    omega (arith, row, max, c.environment-environment.ensures.room, spread_written e.signature.params _ listed)

pub returns-clause-listing : goal.returns-clause-listing
returns-clause-listing c =
    let e = c.args.start.now in
    let ts = e.signature.params in
    let max = c.from-max_locals.result in
    let types : c.in_ok-types.types.items ≡ ts = search rules in
    let listed : c.deref-2.result.now ≡ locals_of_types ts = search rules in
    let is : max ≡ e.max_locals = search rules in
    let fits : slots ts ≤ max = omega (arith, is, c.environment-environment.ensures.room) in
    let count : c.len.result ≡ slots ts = omega (arith, spread_written ts _ listed, c.deref-2.ensures.len, c.len.ensures) in
    let put : c.put.new.self.row ≡ written (replicate max Top) 0 c.deref-2.result.now = c.in_ok-put.ensures.ok ∙ ap (λ (r : List JType). written r 0 c.deref-2.result.now) c.in_ok-locals.ensures.row in
    let row : c.keep.new.self.row ≡ row_with max ts = c.in_ok-keep.ensures.row ∙ row_started max ts c.deref-2.result.now c.put.new.self.row listed fits put in
    let none : c.put.new.self.kept ≡ [] = search rules in
    let last = kept_last [] c.keep.new.self.kept c.put.new.self.row 0 (c.in_ok-keep.ensures.ok ∙ ap (λ (l : List (List JType)). l ++ c.put.new.self.row ∷ []) none) refl in
    (is_listing _ ts fits types row count, record { inside = last.0; is = last.1 ∙ sym c.in_ok-keep.ensures.row })

pub returns-clause-kept : goal.returns-clause-kept
returns-clause-kept c =
    let e = c.args.start.now in
    let ts = e.signature.params in
    let max = c.from-max_locals.result in
    let listed : c.deref-2.result.now ≡ locals_of_types ts = search rules in
    let is : max ≡ e.max_locals = search rules in
    let fits : slots ts ≤ max = omega (arith, is, c.environment-environment.ensures.room) in
    let put : c.put.new.self.row ≡ written (replicate max Top) 0 c.deref-2.result.now = c.in_ok-put.ensures.ok ∙ ap (λ (r : List JType). written r 0 c.deref-2.result.now) c.in_ok-locals.ensures.row in
    let row : c.put.new.self.row ≡ row_with max ts = row_started max ts c.deref-2.result.now c.put.new.self.row listed fits put in
    let none : c.put.new.self.kept ≡ [] = search rules in
    c.in_ok-keep.ensures.ok ∙ ap (λ (l : List (List JType)). l ++ c.put.new.self.row ∷ []) none ∙ ap (λ (r : List JType). r ∷ []) (row ∙ ap (λ (n : _). row_with n ts) is)
