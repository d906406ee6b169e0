use Rattle.std.proofs.Common.{arith, ◌≡◌, ℕ, suc, ◌+◌, ◌<◌, ◌++◌, ◌∷◌, [], length, map, List, All, None, sym, ap, subst, ◌∙◌, append_assoc}
use Rattle.std.proofs.lemmas.List.{length-append, append-nil}
use Rattle.std.proofs.lemmas.List.Elements.{All-rest, All-head}
use Rattle.std.proofs.lemmas.Grind.{common_steps}
use Rattle.std.specs.Global.{Vec}
use Rattle.stripe.specs.declared.call.Record.{Record}
use Rattle.stripe.specs.Stored.{Stored, HasValues}
use Rattle.stripe.specs.Seen.{record_of}
use Rattle.stripe.specs.Kept.{Kept, fresh}
use Rattle.stripe.specs.Tables.{fresh_from}
use Rattle.stripe.specs.Room.{AreEmpty}
use Rattle.stripe.proofs.Fresh.{one_less_empty, popped_none, popped_room, fresh_more, length_fresh, sound_fresh, nothing}
use Rattle.stripe.proofs.tables.into_stripes.Goals as goal

pub loop-table-init : goal.loop-table-init
loop-table-init c =
    let is = c.into_iter-table-iterator.ensures.into_iter_gives.0 in (
      is,
      subst (All HasValues) (sym is) c.requires.tables.values,
      subst (λ ms. AreEmpty (length ms) c.args.journal c.args.histories.items) (sym is) c.requires.histories,
      c.requires.room.0,
      c.requires.room.1,
    )

left : (rest next : List Stored) (t : Stored) (j : ℕ) (hs : List (Vec Record)) → rest ≡ t ∷ next → AreEmpty (length rest) j hs → AreEmpty (suc (length next)) j hs
left rest next t j hs steps are = subst (λ ms. AreEmpty (length ms) j hs) steps are

-- There are as many stripes as tables so far.
done : (stripes : List Kept) (n j : ℕ) (ms : List Stored) → stripes ≡ fresh_from n j 0 ms → length stripes ≡ length ms
done stripes n j ms is = ap length is ∙ length_fresh n j 0 ms

-- All tables are the yielded ones, the current one and the remaining ones.
few : (yielded rest next all : List Stored) (t : Stored) → yielded ++ rest ≡ all → rest ≡ t ∷ next → length yielded + suc (length next) ≡ length all
few yielded rest next all t is steps = sym (length-append yielded (t ∷ next)) ∙ ap (λ ms. length (yielded ++ ms)) (sym steps) ∙ ap length is

pub unreachable-requires : goal.unreachable-requires
unreachable-requires c =
    let count = (left _ _ _ _ _ c.in-Some.ensures.steps.0 c.loop-table.invariant.2).count in
    let none = c.in_default.ensures.cases.0 in
    grind (arith, common_steps)

pub invariant_of-push_reserved : goal.invariant_of-push_reserved
invariant_of-push_reserved c =
    let d = done _ _ _ _ c.loop-table.invariant.3 in
    let f = few _ _ _ _ _ c.loop-table.invariant.0 c.in-Some.ensures.steps.0 in
    let place = c.len.ensures in
    let count = c.len-count.ensures in
    let below : c.len.result < c.len-count.result = grind (arith, common_steps) in
    let popped = c.in-Some-pop.ensures.items in
    sound_fresh c.len-count.result c.args.journal c.len.result c.in-Some.table c.in-Some-pop.records below
    (popped_none _ _ _ _ _ (left _ _ _ _ _ c.in-Some.ensures.steps.0 c.loop-table.invariant.2) popped) (popped_room _ _ _ _ _ (left _ _ _ _ _ c.in-Some.ensures.steps.0 c.loop-table.invariant.2) popped)
    (All-head HasValues c.in-Some.table c.next.new.self.rest.items (subst (All HasValues) c.in-Some.ensures.steps.0 c.loop-table.invariant.1))

pub push_reserved-requires : goal.push_reserved-requires
push_reserved-requires c =
    let d = done _ _ _ _ c.loop-table.invariant.3 in
    let f = few _ _ _ _ _ c.loop-table.invariant.0 c.in-Some.ensures.steps.0 in
    let room = c.loop-table.invariant.4 in
    grind (arith, common_steps)

pub loop-table-preserved : goal.loop-table-preserved
loop-table-preserved c =
    let i = c.loop-table.invariant in
    let table = c.in-Some.table in
    let rest = c.next.new.self.rest.items in
    let steps = c.in-Some.ensures.steps.0 in
    let d = done _ _ _ _ c.loop-table.invariant.3 in
    let len = c.len.ensures in
    let place : c.len.result ≡ 0 + length c.loop-table.yielded = grind (arith, common_steps) in
    let none : map record_of c.in-Some-pop.records.items ≡ [] = ap (map record_of) (popped_none _ _ _ _ _ (left _ _ _ _ _ c.in-Some.ensures.steps.0 c.loop-table.invariant.2) c.in-Some-pop.ensures.items) in
    let one : ◌≡◌ {A = Kept} (record { stripes = c.len-count.result; place = c.len.result; stored = table; records = map record_of c.in-Some-pop.records.items; journal = c.args.journal; running = None })
    (fresh c.len-count.result c.args.journal (0 + length c.loop-table.yielded) table) =
    λ k. record { stripes = c.len-count.result; place = place k; stored = table; records = none k; journal = c.args.journal; running = None } in (
      append_assoc c.loop-table.yielded (table ∷ []) rest ∙ ap (λ ms. c.loop-table.yielded ++ ms) (sym steps) ∙ i.0,
      All-rest HasValues table rest c.loop-table.table-iterator.rest.items steps i.1,
      one_less_empty (length rest) c.args.journal c.loop-table.histories.items c.pop.new.self.items c.in-Some-pop.records (left _ _ _ _ _ c.in-Some.ensures.steps.0 c.loop-table.invariant.2) c.in-Some-pop.ensures.items,
      c.push_reserved.ensures.items ∙ (λ k. i.3 k ++ one k ∷ []) ∙ sym (fresh_more c.len-count.result c.args.journal 0 c.loop-table.yielded table),
      omega (arith, i.4, c.push_reserved.ensures.capacity),
    )

pub returns : goal.returns
returns c =
    let i = c.loop-table.invariant in
    let none : c.loop-table.table-iterator.rest.items ≡ [] = nothing c.loop-table.table-iterator.rest.items (omega (arith, c.loop-table.table-iterator.rest.ok.0, c.in-None.ensures.steps.0)) in
    let all : c.loop-table.yielded ≡ c.args.tables.items = sym (append-nil c.loop-table.yielded) ∙ ap (λ ms. c.loop-table.yielded ++ ms) (sym none) ∙ i.0 in
    let len = c.len-count.ensures in
    let count : c.len-count.result ≡ length c.args.tables.items = grind (arith, common_steps) in
    i.3 ∙ (λ k. fresh_from (count k) c.args.journal 0 (all k))
