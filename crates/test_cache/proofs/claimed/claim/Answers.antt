use Rattle.std.proofs.Common.{◌≡◌, ◌≢◌, length-set, sym, ap, ◌∙◌, ⊎_elim}
use mathlib.Core.Option.{some}
use lib.ListN.{get_elem?}
use Rattle.atomic_table.proofs.Lists.{at_index, at_set}
use Rattle.claims.specs.Counters.{Share}
use Rattle.test_cache.proofs.claimed.claim.Goals as goal

pub claim-requires : goal.claim-requires
claim-requires c =
    let item = c.in_ok-claimer.ensures.item in
    c.requires.each c.args.index c.in_ok-claimer.claimer.now (at_index c.args.claimers.now.items c.args.index c.in_ok-claimer.claimer.now item.3.0 item.1)

pub returns : goal.returns
returns c =
    let all = c.args.claimers.now.items in
    let new : Share = c.claim.new.self in
    let item = c.in_ok-claimer.ensures.item in
    let is = c.claim.ensures.counter ∙ c.requires.each c.args.index c.in_ok-claimer.claimer.now (at_index all c.args.index c.in_ok-claimer.claimer.now item.3.0 item.1) in
    record {
      count = length-set all c.args.index new ∙ c.requires.count;
      each = λ k s e. ⊎_elim
          (λ h. ap (λ (z : Share). z.counter) (sym h.1) ∙ is)
          (λ (h : (k ≢ c.args.index) × (get_elem? all k ≡ some s)). c.requires.each k s h.1)
          (at_set all c.args.index k new s e);
    }
