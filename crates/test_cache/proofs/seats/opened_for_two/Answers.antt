use Rattle.std.proofs.Common.{List, length, arith, ap, ◌∙◌}
use lib.ListN.{get_elem?}
use Rattle.cache.specs.Opened.{Sitting}
use Rattle.test_cache.proofs.Firsts.{after_first}
use Rattle.test_cache.proofs.seats.opened_for_two.Goals as goal

pub returns-in-Ok-clause-first : goal.returns-in-Ok-clause-first
returns-in-Ok-clause-first c =
    let fresh = c.in-Ok.ensures.seats in
    let whole = after_first c.in-Ok.seats.items c.remove-first.new.self.items c.remove-first.result (omega (arith, fresh.count)) c.remove-first.ensures.value c.remove-first.ensures.items in
    ap (λ (s : Sitting). s.table) (fresh.each 0 c.remove-first.result (ap (λ (l : List Sitting). get_elem? l 0) whole))

pub returns-in-Ok-clause-second : goal.returns-in-Ok-clause-second
returns-in-Ok-clause-second c =
    let fresh = c.in-Ok.ensures.seats in
    let whole = after_first c.in-Ok.seats.items c.remove-first.new.self.items c.remove-first.result (omega (arith, fresh.count)) c.remove-first.ensures.value c.remove-first.ensures.items in
    let long = ap (λ (l : List Sitting). length l) whole in
    let others = after_first c.remove-first.new.self.items c.remove-second.new.self.items c.remove-second.result (omega (arith, fresh.count, long)) c.remove-second.ensures.value c.remove-second.ensures.items in
    ap (λ (s : Sitting). s.table) (fresh.each 1 c.remove-second.result (ap (λ (l : List Sitting). get_elem? l 1) whole ∙ ap (λ (l : List Sitting). get_elem? l 0) others))
