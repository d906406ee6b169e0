use Rattle.std.proofs.Common.{◌≡◌, ℕ, ◌+◌, ◌-◌, ◌<◌, ◌≤◌, List, length, map, get_or, sym, ap, ◌∙◌, subst, arith}
use Rattle.std.proofs.lemmas.List.{length-map, get_or-map}
use Rattle.stripe.specs.declared.call.Call.{Call as CallTaken}
use Rattle.stripe.specs.History.{Call}
use Rattle.stripe.specs.Seen.{call_of}
use Rattle.invokeall.specs.Jobs.{all_seen}
use Rattle.invokeall.specs.Groups.{group_of, AreLinked}
use Rattle.invokeall.proofs.Members.{linked_none, linked_more}
use Rattle.invokeall.proofs.groups.link.Goals as goal

map_at : (f : Call → ℕ) (calls : List CallTaken) (j g : ℕ) (call : CallTaken) → j < length calls → call ≡ get_or calls j call → g ≡ f (call_of call) → get_or (map f (all_seen calls)) j 0 ≡ g
map_at f calls j g call below at is =
    let long = length-map calls call_of in
    get_or-map f (all_seen calls) j (call_of call) 0 (omega arith) ∙ ap f (get_or-map call_of calls j call (call_of call) below) ∙ sym (is ∙ ap (λ (c : CallTaken). f (call_of c)) at)

pub loop-left-init : goal.loop-left-init
loop-left-init c =
    let groups : ℕ = length c.args.firsts.now in
    let taken : List CallTaken = c.args.calls.now in
    let calls : List Call = all_seen taken in
    let many = length-map taken call_of in
    let of : List ℕ = map (group_of groups) calls in
    record {
      few = omega arith;
      same = many;
      linked = subst (λ (n : ℕ). AreLinked of groups n c.args.firsts.now c.args.nexts.now) many (linked_none of groups (length calls) c.args.firsts.now c.args.nexts.now (length-map calls (group_of groups)) (omega arith) c.requires.calls c.requires.none);
    }

pub loop-left-preserved : goal.loop-left-preserved
loop-left-preserved c =
    let i = c.loop-left.invariant in
    let groups : ℕ = length c.args.firsts.now in
    let taken : List CallTaken = c.args.calls.now in
    let calls : List Call = all_seen taken in
    let many = length-map taken call_of in
    let of : List ℕ = map (group_of groups) calls in
    let firsts : List ℕ = c.loop-left.firsts in
    let nexts : List ℕ = c.loop-left.nexts in
    let j : ℕ = c.loop-left.left - 1 in
    let g : ℕ = c.group_of-group.result in
    let some_left : 0 < c.loop-left.left = c.loop-left-test.true in
    let few : c.loop-left.left ≤ length taken = i.few in
    let below : j < length taken = omega arith in
    let long : length of ≡ length calls = length-map calls (group_of groups) in
    let one : c.loop-left.left ≡ j + 1 = omega arith in
    let is : get_or of j 0 ≡ g = subst (λ (n : ℕ). get_or (map (group_of n) calls) j 0 ≡ g) c.loop-left.auto.firsts (map_at (group_of (length firsts)) taken j g c.index-calls-left.result below c.index-calls-left.is c.group_of-group.ensures.group) in
    record {
      few = omega arith;
      same = many;
      linked = linked_more of groups j g firsts nexts is (omega (arith, c.group_of-group.ensures.within, c.loop-left.auto.firsts)) (omega arith) (subst (λ (n : ℕ). AreLinked of groups n firsts nexts) one i.linked);
    }
