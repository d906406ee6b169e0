use Rattle.std.proofs.Common.{List, arith, ap}
use lib.ListN.{get_elem?}
use Rattle.cache.specs.Opened.{Sitting}
use Rattle.test_cache.proofs.Firsts.{after_first}
use Rattle.test_cache.proofs.seats.opened.Goals as goal

pub returns-in-Ok-clause-seat : goal.returns-in-Ok-clause-seat
returns-in-Ok-clause-seat c =
    let fresh = c.in-Ok.ensures.seats in
    let whole = after_first c.in-Ok.seats.items c.remove-seat.new.self.items c.remove-seat.result (omega (arith, fresh.count)) c.remove-seat.ensures.value c.remove-seat.ensures.items in
    let is = fresh.each 0 c.remove-seat.result (ap (λ (l : List Sitting). get_elem? l 0) whole) in
    record { table_is = ap (λ (s : Sitting). s.table) is; caller_is = ap (λ (s : Sitting). s.caller) is; made_is = ap (λ (s : Sitting). s.made) is }
