use Rattle.std.proofs.Common.{rules, ◌≡◌, ◌++◌, [], ◌∷◌, List, length, map, Vec, Global, None, arith, sym, ap, subst, ◌∙◌, append_assoc, length-append}
use Rattle.std.proofs.lemmas.List.{length-map, map-append}
use Rattle.std.specs.Vec.Iter.{into_iter_items}
use Rattle.atomic_table.specs.Seated.{TableId}
use Rattle.cache.specs.declared.receipt.Receipt.{Receipt as ReceiptKept}
use Rattle.cache.specs.Receipts.{Receipt, receipts_of}
use Rattle.cache.specs.Views.{Part, part, joined}
use Rattle.cache.specs.Opened.{Sitting, part_of, view_of}
use Rattle.cache.specs.Closing.{receipts_seen}
use Rattle.cache.specs.Plays.{Sat}
use Rattle.cache.specs.Steps.{IsKnown}
use Rattle.cache.proofs.Puts.{at_yielded}
use Rattle.cache.proofs.Cuts.{may_join}
use Rattle.cache.proofs.ends.join_all.Goals as goal

abbrev Lists : Type 0
Lists = Vec ReceiptKept Global

pub leave-requires-in-loop-seat-clause-table : goal.leave-requires-in-loop-seat-clause-table
leave-requires-in-loop-seat-clause-table g c =
    let i = c.loop-seat.invariant in
    let steps : into_iter_items c.loop-seat.seat-iterator ≡ c.in-Some.seat ∷ into_iter_items c.next.new.self = c.in-Some.ensures.steps.0 in
    let there = c.requires.rest (length c.loop-seat.yielded) c.in-Some.seat (at_yielded c.loop-seat.yielded (into_iter_items c.loop-seat.seat-iterator) (into_iter_items c.next.new.self) c.in-Some.seat c.args.rest.items steps (i.0 ∙ c.into_iter-seat-iterator.ensures.into_iter_gives.0)) in
    ap (λ (x : Sitting). x.table) c.seat.view_is ∙ there

pub leave-requires-in-loop-seat-clause-known : goal.leave-requires-in-loop-seat-clause-known
leave-requires-in-loop-seat-clause-known g c =
    let i = c.loop-seat.invariant in
    let steps : into_iter_items c.loop-seat.seat-iterator ≡ c.in-Some.seat ∷ into_iter_items c.next.new.self = c.in-Some.ensures.steps.0 in
    let there = c.requires.rest (length c.loop-seat.yielded) c.in-Some.seat (at_yielded c.loop-seat.yielded (into_iter_items c.loop-seat.seat-iterator) (into_iter_items c.next.new.self) c.in-Some.seat c.args.rest.items steps (i.0 ∙ c.into_iter-seat-iterator.ensures.into_iter_gives.0)) in
    let s = c.seat.inside in
    let p : Part = part s.caller (receipts_of s.receipts.items) s.full in
    let home = ap (λ (x : Sitting). x.table) c.seat.view_is ∙ there in
    let known = subst (λ (x : TableId). IsKnown x.slots s.made p s.held s.pass.me) home c.seat.invariant.known in
    (s.made, p, known)

pub join_seat-requires : goal.join_seat-requires
join_seat-requires g c =
    let i = c.loop-seat.invariant in
    let steps : into_iter_items c.loop-seat.seat-iterator ≡ c.in-Some.seat ∷ into_iter_items c.next.new.self = c.in-Some.ensures.steps.0 in
    let there = c.requires.rest (length c.loop-seat.yielded) c.in-Some.seat (at_yielded c.loop-seat.yielded (into_iter_items c.loop-seat.seat-iterator) (into_iter_items c.next.new.self) c.in-Some.seat c.args.rest.items steps (i.0 ∙ c.into_iter-seat-iterator.ensures.into_iter_gives.0)) in
    let s = c.seat.inside in
    let p : Part = part s.caller (receipts_of s.receipts.items) s.full in
    let home = ap (λ (x : Sitting). x.table) c.seat.view_is ∙ there in
    let known = subst (λ (x : TableId). IsKnown x.slots s.made p s.held s.pass.me) home c.seat.invariant.known in
    let left = c.leave-in-loop-seat.new.pass in
    let mine = c.leave-in-loop-seat.ensures.left s.made p known in
    (i.1 ∙ c.leave.ensures.table ∙ ap (λ (x : Sitting). x.table) c.first.view_is ∙ c.requires.board.0, c.leave-in-loop-seat.ensures.table ∙ home, ap (λ (m : Sat). m.1) mine, search rules, may_join g.L.Loader.ASKS (g.L.Loader.gives c.args.board.now.key.loader.value) c.args.board.now.key c.loop-seat.pass.id c.loop-seat.pass.me.0 left.id left.me.0 (ap (λ (m : Sat). m.0.held) i.2) (ap (λ (m : Sat). m.0.held) mine))

pub push_reserved-requires-in-loop-seat : goal.push_reserved-requires-in-loop-seat
push_reserved-requires-in-loop-seat g c =
    let i = c.loop-seat.invariant in
    let steps : into_iter_items c.loop-seat.seat-iterator ≡ c.in-Some.seat ∷ into_iter_items c.next.new.self = c.in-Some.ensures.steps.0 in
    let all = ap (λ (l : List Sitting). length l) (ap (λ (l : List Sitting). c.loop-seat.yielded ++ l) (sym steps) ∙ i.0 ∙ c.into_iter-seat-iterator.ensures.into_iter_gives.0) in
    let long = length-append c.loop-seat.yielded (c.in-Some.seat ∷ into_iter_items c.next.new.self) in
    let told = ap (λ (l : List (List Receipt)). length l) i.3 in
    omega (arith, all, long, told, length-map c.loop-seat.lists.items (λ (v : Lists). receipts_of v.items), length-map c.loop-seat.yielded (λ (x : Sitting). x.receipts), i.4, c.push_reserved.ensures.capacity, c.requires.room.1)

pub loop-seat-preserved : goal.loop-seat-preserved
loop-seat-preserved g c =
    let i = c.loop-seat.invariant in
    let ys = c.loop-seat.yielded in
    let x = c.in-Some.seat in
    let f = c.args.first in
    let steps : into_iter_items c.loop-seat.seat-iterator ≡ x ∷ into_iter_items c.next.new.self = c.in-Some.ensures.steps.0 in
    let is = c.seat.view_is in
    let inside = c.seat.inside in
    let there = c.requires.rest (length ys) x (at_yielded ys (into_iter_items c.loop-seat.seat-iterator) (into_iter_items c.next.new.self) x c.args.rest.items steps (i.0 ∙ c.into_iter-seat-iterator.ensures.into_iter_gives.0)) in
    let p : Part = part inside.caller (receipts_of inside.receipts.items) inside.full in
    let left = c.leave-in-loop-seat.new.pass in
    let mine = c.leave-in-loop-seat.ensures.left inside.made p (subst (λ (t : TableId). IsKnown t.slots inside.made p inside.held inside.pass.me) (ap (λ (s : Sitting). s.table) is ∙ there) c.seat.invariant.known) in
    let parts : map part_of ys ++ part inside.caller (receipts_of inside.receipts.items) inside.full ∷ [] ≡ map part_of (ys ++ x ∷ []) = ap (λ (s : Sitting). map part_of ys ++ part_of s ∷ []) is ∙ sym (map-append part_of ys (x ∷ [])) in
    let s = c.join_seat.ensures in
    let items : c.push_reserved-in-loop-seat.new.self.items ≡ c.loop-seat.lists.items ++ inside.receipts ∷ [] = c.push_reserved-in-loop-seat.ensures.items in (
      append_assoc ys (x ∷ []) (into_iter_items c.next.new.self) ∙ ap (λ (l : List Sitting). ys ++ l) (sym steps) ∙ i.0,
      s.0 ∙ i.1,
      s.2 ∙ ap (λ (m : Sat). (joined m.0 left.me.0, m.1)) i.2 ∙ ap (λ (m : Sat). (joined (view_of f.made (f ∷ ys)) m.0, [])) mine ∙ (λ k. (record { made = f.made; parts = part_of f ∷ parts k; held = None }, [])),
      ap receipts_seen items ∙ map-append (λ (v : Lists). receipts_of v.items) c.loop-seat.lists.items (inside.receipts ∷ []) ∙ ap (λ (l : List (List Receipt)). l ++ receipts_of inside.receipts.items ∷ []) i.3
          ∙ ap (λ (y : Sitting). f.receipts ∷ (map (λ (z : Sitting). z.receipts) ys ++ y.receipts ∷ [])) is ∙ ap (λ (l : List (List Receipt)). f.receipts ∷ l) (sym (map-append (λ (z : Sitting). z.receipts) ys (x ∷ []))),
      omega (arith, c.push_reserved-in-loop-seat.ensures.capacity, i.4),
    )
