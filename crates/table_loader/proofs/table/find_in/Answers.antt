use Rattle.std.proofs.Common.{arith, sym, ◌∙◌, w64}
use Rattle.std.proofs.lemmas.Int.{to_z-of_z}
use Rattle.table_loader.proofs.Found.{found_upto, found_none}
use Rattle.table_loader.proofs.table.find_in.Goals as goal

pub returns-then-count-eq0 : goal.returns-then-count-eq0
returns-then-count-eq0 c =
    let point = rw (to_z-of_z w64 c.args.key c.ranges.key) at c.count_to-count.ensures.point in
    sym (found_none c.args.rows.now c.args.key (λ i d l h. point.1 i d (omega (arith, c.if-count-eq0.true)) h))

pub returns : goal.returns
returns c =
    let same = to_z-of_z w64 c.args.key c.ranges.key in
    let point = rw same at c.count_to-count.ensures.point in
    let found = rw same at c.value_of.ensures in
    found ∙ sym (found_upto c.args.rows.now c.count_to-count.result _ c.args.key c.count_to-count.ensures.bound (omega (arith, c.if-count-eq0.false)) c.requires point)
