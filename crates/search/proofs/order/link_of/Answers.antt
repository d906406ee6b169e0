use Rattle.std.proofs.Common.{length, ap, sym, ◌≡◌, ◌<◌, ◌∙◌, arith, vec_len, subst, List, ℕ, Some, refl}
use Rattle.std.specs.Prelude.{slice_get}
use Rattle.std.proofs.lemmas.Option.{slice_get_read}
use Rattle.search.specs.Orders.{items_of, links_at}
use Rattle.search.proofs.Steps.{row_is}
use Rattle.search.proofs.order.link_of.Goals as goal

pub index-requires : goal.index-requires
index-requires c =
    let whole : links_at (items_of c.args.links.now) c.args.number ≡ c.index-links-number.result.items = row_is _ _ c.index-links-number.result c.requires.number c.index-links-number.is in
    let within : c.args.i < length c.index-links-number.result.items = subst (λ (xs : List ℕ). c.args.i < length xs) whole c.requires.i in
    omega arith

pub returns : goal.returns
returns c =
    let whole : links_at (items_of c.args.links.now) c.args.number ≡ c.index-links-number.result.items = row_is _ _ c.index-links-number.result c.requires.number c.index-links-number.is in
    let within : c.args.i < length c.index-links-number.result.items = subst (λ (xs : List ℕ). c.args.i < length xs) whole c.requires.i in
    let found : slice_get c.index-links-number.result.items c.args.i ≡ Some c.index.result.now = slice_get_read _ _ _ c.index.result.now refl within c.index.ensures in
    ap (λ (xs : List ℕ). slice_get xs c.args.i) whole ∙ found
