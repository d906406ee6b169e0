use Rattle.std.proofs.Common.{◌≡◌, ◌<◌, List, suc, sym, ap, subst, ◌∙◌, arith}
use mathlib.Core.Option.{some}
use lib.ListN.{get_elem?}
use Rattle.claims.specs.Counters.{Numbering, Share}
use Rattle.claims.specs.Inside.{view_of}
use Rattle.claims.proofs.Shares.{Sat, after_first, claims, at_most_once, just_once}
use Rattle.claims.proofs.counter.Counter.close.Goals as goal

pub join_all-place-requires-clause-first : goal.join_all-place-requires-clause-first
join_all-place-requires-clause-first c =
    let is = c.self.view_is in
    let some_worker : 0 < c.args.self.workers = subst (λ (d : Numbering). 0 < d.workers) is c.self.invariant.some_worker in
    let whole = after_first c.args.claimers.items c.remove-first.new.self.items c.remove-first.result (omega (arith, c.requires.count)) c.remove-first.ensures.value c.remove-first.ensures.items in
    c.requires.each 0 c.remove-first.result (ap (λ (l : List Share). get_elem? l 0) whole) ∙ sym is

pub join_all-place-requires-clause-rest : goal.join_all-place-requires-clause-rest
join_all-place-requires-clause-rest c = λ n s e.
    let is = c.self.view_is in
    let some_worker : 0 < c.args.self.workers = subst (λ (d : Numbering). 0 < d.workers) is c.self.invariant.some_worker in
    let whole = after_first c.args.claimers.items c.remove-first.new.self.items c.remove-first.result (omega (arith, c.requires.count)) c.remove-first.ensures.value c.remove-first.ensures.items in
    c.requires.each (suc n) s (ap (λ (l : List Share). get_elem? l (suc n)) whole ∙ e) ∙ sym is

pub returns-clause-claimed : goal.returns-clause-claimed
returns-clause-claimed c =
    let is = c.self.view_is in
    let k = c.self.inside.table.shared.key in
    let all = c.args.claimers.items in
    let some_worker : 0 < c.args.self.workers = subst (λ (d : Numbering). 0 < d.workers) is c.self.invariant.some_worker in
    let whole = after_first all c.remove-first.new.self.items c.remove-first.result (omega (arith, c.requires.count)) c.remove-first.ensures.value c.remove-first.ensures.items in
    let last = c.close_with.ensures.values.2 in
    let me : c.join_all-place.result.me.0 ≡ view_of k all = ap (λ (m : Sat). m.0) c.join_all-place.ensures.joined ∙ ap (view_of k) (sym whole) in
    claims k c.args.self all last.0 c.join_all-place.result.id (ap (λ (d : Numbering). d.jobs) (sym is)) (c.requires.count ∙ ap (λ (d : Numbering). d.workers) (sym is)) last.1.0 (last.1.1 ∙ ap some me)

pub returns-clause-once : goal.returns-clause-once
returns-clause-once c = at_most_once c.args.self c.args.claimers.items (returns-clause-claimed c)

pub returns-clause-done : goal.returns-clause-done
returns-clause-done c = just_once c.args.self c.args.claimers.items (returns-clause-claimed c)
