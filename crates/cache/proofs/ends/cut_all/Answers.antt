use Rattle.std.proofs.Common.{rules, ◌≡◌, ◌++◌, ◌∷◌, [], ℕ, List, suc, length, drop, arith, sym, ap, ◌∙◌, subst, ⊎_elim, length-append}
use Rattle.std.specs.List.{All}
use Rattle.std.proofs.lemmas.List.Elements.{All-tail}
use mathlib.Core.Option.{some}
use lib.ListN.{get_elem?}
use Rattle.atomic_table.specs.Table.{Splits}
use Rattle.cache.specs.Receipts.{receipts_of}
use Rattle.cache.specs.Views.{part, none_full, cut_left, cut_right}
use Rattle.cache.specs.Guarded.{Guarded}
use Rattle.cache.specs.Ends.{IsEmptyList}
use Rattle.cache.specs.Opened.{Sitting, fresh_seat}
use Rattle.cache.specs.Plays.{Sat}
use Rattle.cache.proofs.Puts.{get_length}
use Rattle.cache.proofs.Cuts.{may_cut}
use Rattle.cache.proofs.ends.cut_all.Goals as goal

-- The facts of all elements hold of all elements but the first.
all_rest : {A : Type 0} (P : A → Type 0) (l rest : List A) → rest ≡ drop 1 l → All P l → All P rest
all_rest P [] rest e h = subst (All P) (sym e) h
all_rest P (x ∷ xs) rest e h = subst (All P) (sym e) (All-tail P x xs h)

pub split_seat-cut-requires : goal.split_seat-cut-requires
split_seat-cut-requires g c =
    let i = c.loop-number.invariant in
    (i.0 ∙ c.requires.board.0, search rules, subst (λ (m : Sat). Splits (Guarded g.L.Loader.ASKS (g.L.Loader.gives c.args.board.now.key.loader.value) c.args.board.now.key) c.loop-number.pass.id m.0 (cut_left m.0) (cut_right m.0)) (sym i.1) (may_cut g.L.Loader.ASKS (g.L.Loader.gives c.args.board.now.key.loader.value) c.args.board.now.key c.loop-number.pass.id c.loop-number.number (part 0 [] none_full) c.loop-number.auto.number))

pub loop-number-preserved : goal.loop-number-preserved
loop-number-preserved g c =
    let i = c.loop-number.invariant in
    let s = c.split_seat-cut.ensures in
    let y : Sitting = record { table = c.split_seat-cut.result.table_id; caller = c.loop-number.number; made = 0; receipts = receipts_of c.remove.result.items; full = none_full; room = c.args.calls } in
    let head : IsEmptyList c.args.calls c.remove.result = subst (IsEmptyList c.args.calls) (sym c.remove.ensures.value) (i.6 0 c.remove.result (omega (arith, i.5, c.loop-number.auto.number, c.loop-number-test.true))) in
    let items : c.push_reserved.new.self.items ≡ c.loop-number.list.items ++ y ∷ [] = c.push_reserved.ensures.items in
    let long : length c.push_reserved.new.self.items ≡ length (c.loop-number.list.items ++ y ∷ []) = ap (λ (l : List Sitting). length l) items in
    let table : y.table ≡ c.args.pass.now.table_id = s.3 ∙ i.0 in
    let caller : c.loop-number.number ≡ suc (length c.loop-number.list.items) = omega (arith, i.2) in
    let is : y ≡ fresh_seat c.args.pass.now.table_id c.args.seats c.args.calls (suc (length c.loop-number.list.items)) = λ k. record { table = table k; caller = caller k; made = 0; receipts = receipts_of (head.0 k); full = none_full; room = c.args.calls } in (
      s.0 ∙ i.0,
      s.2 ∙ ap (λ (m : Sat). (cut_left m.0, m.1)) i.1,
      omega (arith, i.2, long, length-append c.loop-number.list.items (y ∷ [])),
      omega (arith, c.push_reserved.ensures.capacity, i.3),
      λ k x e. ⊎_elim
          (λ (h : get_elem? c.loop-number.list.items k ≡ some x). i.4 k x h)
          (λ (h : (k ≡ length c.loop-number.list.items) × (y ≡ x)). sym h.1 ∙ is ∙ ap (λ (j : ℕ). fresh_seat c.args.pass.now.table_id c.args.seats c.args.calls (suc j)) (sym h.0))
          (get_length c.loop-number.list.items y x k (ap (λ (l : List Sitting). get_elem? l k) (sym items) ∙ e)),
      omega (arith, i.5, c.remove.ensures.len),
      all_rest (IsEmptyList c.args.calls) c.loop-number.lists.items c.remove.new.self.items c.remove.ensures.items i.6,
    )
