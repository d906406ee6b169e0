use Rattle.std.proofs.Common.{◌<◌, ◌+◌, ℕ, List, false, take, set, get_or, arith, sym, ap, ◌∙◌, get_or-set_other, get_or-set_same}
use lib.ListN.{get_elem?}
use Rattle.stripe.specs.Kept.{Kept}
use Rattle.cache.specs.Ends.{back_of}
use Rattle.cache.proofs.Puts.{by_place}
use Rattle.cache.proofs.Backs.{next_back, more_back}
use Rattle.cache.proofs.ends.unpack.Goals as goal

pub add-requires-clause-next : goal.add-requires-clause-next
add-requires-clause-next g c =
    let i = c.loop-i.invariant in
    let closed = c.close_with-closed.result in
    let n : ℕ = c.loop-i.i in
    let value = c.take.ensures.value in
    let r = c.requires.ready closed.words.items closed.slots.items c.close_with-closed.ensures.values.2 n c.take.result (ap (λ (l : List Kept). get_elem? l n) (sym i.2) ∙ value) in
    next_back c.args.table.shared.table_id.slots c.loop-i.closed.slots.items n c.take.result c.loop-i.rest value r i.4

pub add-requires-clause-idle : goal.add-requires-clause-idle
add-requires-clause-idle g c =
    let i = c.loop-i.invariant in
    let closed = c.close_with-closed.result in
    let n : ℕ = c.loop-i.i in
    let value = c.take.ensures.value in
    (c.requires.ready closed.words.items closed.slots.items c.close_with-closed.ensures.values.2 n c.take.result (ap (λ (l : List Kept). get_elem? l n) (sym i.2) ∙ value)).idle

pub loop-i-preserved : goal.loop-i-preserved
loop-i-preserved g c =
    let i = c.loop-i.invariant in
    let row = c.loop-i.closed.slots in
    let o = c.take.ensures.others in
    let n : ℕ = c.loop-i.i in
    let filled = o.1 in
    let near : n < row.len = omega (arith, c.loop-i-test.true, c.slot_count-i-end.ensures, i.3) in
    let long = row.ok.1 in
    let value = c.take.ensures.value in
    let slots : ℕ = c.args.table.shared.table_id.slots in (
      λ k low high. ap (λ fs. get_or fs k false) filled ∙ get_or-set_other row.filled n k false false (λ e. omega arith) ∙ i.0 k (omega arith) (omega (arith, o.2)),
      λ k low. ap (λ fs. get_or fs k false) filled ∙ by_place n k (λ e. ap (λ (j : ℕ). get_or (set row.filled n false) j false) e ∙ get_or-set_same row.filled n false false (omega (arith, long))) (λ apart. get_or-set_other row.filled n k false false apart ∙ i.1 k (omega arith)),
      o.0 ∙ i.2,
      o.2 ∙ i.3,
      c.add.ensures ∙ more_back slots row.items n c.take.result c.loop-i.rest value i.4 ∙ ap (λ (l : List Kept). back_of slots (take (n + 1) l)) (sym o.0),
    )
