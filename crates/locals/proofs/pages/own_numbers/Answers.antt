use Rattle.std.proofs.Common.{◌+◌, ◌<◌, [], length, take, get_or, sym, arith}
use Rattle.std.proofs.lemmas.List.{take_more, length-take-le}
use Rattle.locals.proofs.ByPages.{more_fitting}
use Rattle.locals.proofs.pages.own_numbers.Goals as goal

pub loop-i-preserved : goal.loop-i-preserved
loop-i-preserved c =
    let pages = c.args.pages.now in
    let i = c.loop-i.i in
    let inside : i < length pages = omega arith in
    more_fitting (take i pages) (take (i + 1) pages) (get_or pages i []) c.loop-i.fitting.items c.push.new.self.items i c.loop-i.invariant (take_more pages i [] inside) c.in_ok-push.ensures.items (sym (length-take-le i pages (omega arith)))
