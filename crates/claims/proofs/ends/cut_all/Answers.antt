use Rattle.std.proofs.Common.{◌≡◌, ◌+◌, ◌-◌, [], ◌∷◌, ◌++◌, ℕ, List, length, false, sym, ap, subst, ◌∙◌, arith, length-append}
use Rattle.atomic_table.specs.Table.{Splits}
use Rattle.claims.specs.Views.{hand, without_one, one_alone}
use Rattle.claims.specs.Rule.{IsOnce}
use Rattle.claims.specs.Counters.{Numbering, Share, fresh}
use Rattle.claims.specs.Inside.{numbering, counter_in}
use Rattle.claims.proofs.Draws.{may_cut}
use Rattle.claims.proofs.Shares.{Sat, AllFresh, fresh_more}
use Rattle.claims.proofs.ends.cut_all.Goals as goal

pub split_seat-cut-requires : goal.split_seat-cut-requires
split_seat-cut-requires c =
    let i = c.loop.invariant in
    let k = c.args.board.now.key in
    (i.0 ∙ c.requires.board.0, c.requires.board.1, subst (λ (m : Sat). Splits (IsOnce k) c.loop.place.id m.0 (without_one m.0) (one_alone m.0)) (sym i.1) (may_cut k c.loop.place.id (c.args.workers + 1 - c.loop.counter) (omega (arith, c.loop-test.true))))

pub loop-preserved : goal.loop-preserved
loop-preserved c =
    let i = c.loop.invariant in
    let k = c.args.board.now.key in
    let d : Numbering = numbering c.args.board.now.table_id k in
    let s = c.split_seat-cut.ensures in
    let r = c.split_seat-cut.result in
    let y : Share = record { counter = counter_in r.table_id r.me.0; drawn = r.me.0.drawn; done = false } in
    let cut : r.me ≡ (hand k.jobs k.workers 1 0 [], []) = s.4 ∙ ap (λ (m : Sat). (one_alone m.0, [])) i.1 in
    let table : r.table_id ≡ c.args.board.now.table_id = s.3 ∙ i.0 ∙ c.requires.board.0 in
    let is : y ≡ fresh d = λ j. record { counter = record { table = table j; jobs = (cut j).0.jobs; workers = (cut j).0.workers }; drawn = (cut j).0.drawn; done = false } in
    let items : c.push_reserved.new.self.items ≡ c.loop.list.items ++ y ∷ [] = c.push_reserved.ensures.items in
    let long : length c.push_reserved.new.self.items ≡ length (c.loop.list.items ++ y ∷ []) = ap (λ (l : List Share). length l) items in
    let parts : c.args.workers + 1 - c.loop.counter - 1 ≡ c.args.workers + 1 - (c.loop.counter + 1) = omega arith in
    let left : c.split_seat-cut.new.seat.me ≡ (hand k.jobs k.workers (c.args.workers + 1 - c.loop.counter - 1) 0 [], []) = s.2 ∙ ap (λ (m : Sat). (without_one m.0, m.1)) i.1 in (
      s.0 ∙ i.0,
      left ∙ ap (λ (n : ℕ). (hand k.jobs k.workers n 0 [], [])) parts,
      omega (arith, i.2, long, length-append c.loop.list.items (y ∷ [])),
      omega (arith, c.push_reserved.ensures.capacity, i.3),
      subst (AllFresh d) (sym items) (fresh_more d c.loop.list.items y is i.4),
    )

pub returns : goal.returns
returns c =
    let i = c.loop.invariant in
    let k = c.args.board.now.key in
    let d : Numbering = numbering c.args.board.now.table_id k in
    let r = c.loop.place in
    let y : Share = record { counter = counter_in r.table_id r.me.0; drawn = r.me.0.drawn; done = false } in
    let table : r.table_id ≡ c.args.board.now.table_id = i.0 ∙ c.requires.board.0 in
    let is : y ≡ fresh d = λ j. record { counter = record { table = table j; jobs = (i.1 j).0.jobs; workers = (i.1 j).0.workers }; drawn = (i.1 j).0.drawn; done = false } in
    let items : c.push_reserved-2.new.self.items ≡ c.loop.list.items ++ y ∷ [] = c.push_reserved-2.ensures.items in
    let long : length c.push_reserved-2.new.self.items ≡ length (c.loop.list.items ++ y ∷ []) = ap (λ (l : List Share). length l) items in
    record {
      count = omega (arith, i.2, long, length-append c.loop.list.items (y ∷ []), c.loop-test.false, c.requires.count.0.0, c.requires.count.1);
      each = subst (AllFresh d) (sym items) (fresh_more d c.loop.list.items y is i.4);
    }
