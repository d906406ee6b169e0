use Rattle.std.proofs.Common.{◌≡◌, ◌<◌, List, suc, length, arith, sym, ap, subst, ◌∙◌}
use lib.ListN.{get_elem?}
use Rattle.atomic_table.specs.Table.{Final, Seen}
use Rattle.stripe.specs.History.{Record}
use Rattle.stripe.specs.Stored.{Stored}
use Rattle.stripe.specs.Tables.{Back}
use Rattle.cache.specs.Views.{View}
use Rattle.cache.specs.Guarded.{Guarded}
use Rattle.cache.specs.Opened.{Opened, Sitting, view_of}
use Rattle.cache.specs.Closing.{Settles}
use Rattle.cache.specs.Plays.{Sat}
use Rattle.cache.proofs.Settled.{HasEnded, after_first, ends, settles}
use Rattle.cache.proofs.cache.Cache.close.Goals as goal

pub join_all-pass-requires-clause-board : goal.join_all-pass-requires-clause-board
join_all-pass-requires-clause-board g c =
    let is = c.self.view_is in
    let some_seat : 0 < c.args.self.seats = subst (λ (d : Opened _). 0 < d.seats) is c.self.invariant.some_seat in
    let whole = after_first c.args.seats.items c.remove-first.new.self.items c.remove-first.result (omega (arith, c.requires.count)) c.remove-first.ensures.value c.remove-first.ensures.items in
    let first = c.requires.each 0 c.remove-first.result (ap (λ (l : List Sitting). get_elem? l 0) whole) in
    let board = c.self.invariant.board in
    (first.table_is ∙ ap (λ (d : Opened _). d.table) (sym is), omega (arith, board.words, board.count.0))

pub join_all-pass-requires-clause-rest : goal.join_all-pass-requires-clause-rest
join_all-pass-requires-clause-rest g c = λ k s e.
    let is = c.self.view_is in
    let some_seat : 0 < c.args.self.seats = subst (λ (d : Opened _). 0 < d.seats) is c.self.invariant.some_seat in
    let whole = after_first c.args.seats.items c.remove-first.new.self.items c.remove-first.result (omega (arith, c.requires.count)) c.remove-first.ensures.value c.remove-first.ensures.items in
    (c.requires.each (suc k) s (ap (λ (l : List Sitting). get_elem? l (suc k)) whole ∙ e)).table_is ∙ ap (λ (d : Opened _). d.table) (sym is)

pub unpack-requires-clause-ready : goal.unpack-requires-clause-ready
unpack-requires-clause-ready g c = λ words ended last.
    let is = c.self.view_is in
    let seats = c.args.seats.items in
    let some_seat : 0 < c.args.self.seats = subst (λ (d : Opened _). 0 < d.seats) is c.self.invariant.some_seat in
    let whole = after_first seats c.remove-first.new.self.items c.remove-first.result (omega (arith, c.requires.count)) c.remove-first.ensures.value c.remove-first.ensures.items in
    let first = c.requires.each 0 c.remove-first.result (ap (λ (l : List Sitting). get_elem? l 0) whole) in
    let k = c.self.inside.table.shared.key in
    let made = first.made_is ∙ sym c.requires.count in
    let view : c.join_all-pass.result.me.0 ≡ view_of (length seats) seats = ap (λ (m : Sat). m.0) c.join_all-pass.ensures.joined ∙ (λ j. view_of (made j) (sym whole j)) in
    let may = g.L.Loader.gives k.loader.value in
    let e = ends g.L.Loader.ASKS may k.tables.value k.journal c.join_all-pass.result.id words seats ended (omega (arith, c.requires.count)) (λ n s at. (c.requires.each n s at).caller_is) (subst (λ (v : View). Final (Seen (Guarded g.L.Loader.ASKS may k) c.join_all-pass.result.id v) words ended) view last) in
    λ i y at. let a = e.each i y at in record { stripes = a.stripes ∙ sym c.self.invariant.board.slots; place = a.place; idle = a.idle }

pub returns-clause-settled : goal.returns-clause-settled
returns-clause-settled g c =
    let is = c.self.view_is in
    let d = c.args.self in
    let seats = c.args.seats.items in
    let some_seat : 0 < d.seats = subst (λ (x : Opened _). 0 < x.seats) is c.self.invariant.some_seat in
    let whole = after_first seats c.remove-first.new.self.items c.remove-first.result (omega (arith, c.requires.count)) c.remove-first.ensures.value c.remove-first.ensures.items in
    let first = c.requires.each 0 c.remove-first.result (ap (λ (l : List Sitting). get_elem? l 0) whole) in
    let k = c.self.inside.table.shared.key in
    let made = first.made_is ∙ sym c.requires.count in
    let view : c.join_all-pass.result.me.0 ≡ view_of (length seats) seats = ap (λ (m : Sat). m.0) c.join_all-pass.ensures.joined ∙ (λ j. view_of (made j) (sym whole j)) in
    let u = c.unpack.ensures in
    let may = g.L.Loader.gives k.loader.value in
    let e = ends g.L.Loader.ASKS may k.tables.value k.journal c.join_all-pass.result.id u.words seats u.ended (omega (arith, c.requires.count)) (λ n s at. (c.requires.each n s at).caller_is) (subst (λ (v : View). Final (Seen (Guarded g.L.Loader.ASKS may k) c.join_all-pass.result.id v) u.words u.ended) view u.last) in
    let loader = c.self.invariant.loader in
    let told = subst (λ l. HasEnded g.L.Loader.ASKS (g.L.Loader.gives l) k.tables.value k.journal seats u.ended) loader e in
    let e' : HasEnded g.L.Loader.ASKS (g.L.Loader.gives d.loader) d.tables d.journal seats u.ended =
    subst (λ (x : Opened _). HasEnded g.L.Loader.ASKS (g.L.Loader.gives x.loader) x.tables x.journal seats u.ended) is told in
    let some_stripe : 0 < length d.tables = subst (λ (x : Opened _). 0 < length x.tables) is c.self.invariant.board.count.0 in
    let f = c.finish-tables.ensures in
    subst (λ (x : List Stored × List (List Record)). Settles g.L.Loader.ASKS (g.L.Loader.gives d.loader) d seats x.0 x.1) (λ j. (sym (f.tables ∙ ap (λ (b : Back). b.tables) u.is) j, sym (f.histories ∙ ap (λ (b : Back). b.histories) u.is) j))
    (settles g.L.Loader.ASKS (g.L.Loader.gives d.loader) d seats u.ended some_stripe c.requires.count e')
