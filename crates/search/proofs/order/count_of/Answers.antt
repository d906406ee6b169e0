use Rattle.std.proofs.Common.{length, ap, sym, ◌≡◌, ◌∙◌, arith, vec_len}
use Rattle.search.specs.Orders.{items_of, links_at}
use Rattle.search.proofs.Steps.{row_is}
use Rattle.search.proofs.order.count_of.Goals as goal

pub returns : goal.returns
returns c =
    let whole : links_at (items_of c.args.links.now) c.args.number ≡ c.index-links-number.result.items = row_is _ _ c.index-links-number.result c.requires c.index-links-number.is in
    let size : vec_len c.index-links-number.result ≡ length c.index-links-number.result.items = omega arith in
    c.len.ensures ∙ size ∙ ap length (sym whole)
