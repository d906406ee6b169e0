use Rattle.std.proofs.Common.{ℕ, List, ap, sym, subst, ◌∙◌}
use Rattle.cache.specs.Opened.{Sitting, AreFresh, HaveRoom, fresh_seat}
use Rattle.cache.proofs.Starts.{fresh_all, room_all}
use Rattle.cache.proofs.ends.seated.Goals as goal

pub returns-clause-fresh : goal.returns-clause-fresh
returns-clause-fresh g c =
    let t = c.args.pass.table_id in
    let n : ℕ = c.args.seats in
    let r : ℕ = c.args.calls in
    subst (λ (l : List Sitting). AreFresh t n l) (sym c.first_in.ensures)
    (fresh_all t n r c.first_seat.result c.cut_all.new.list.items (c.first_seat.ensures ∙ ap (λ z. fresh_seat z n r 0) c.cut_all.ensures.table) c.cut_all.ensures.count.0 c.cut_all.ensures.seats)

pub returns-clause-room : goal.returns-clause-room
returns-clause-room g c =
    let t = c.args.pass.table_id in
    let n : ℕ = c.args.seats in
    let r : ℕ = c.args.calls in
    subst (λ (l : List Sitting). HaveRoom r l) (sym c.first_in.ensures)
    (room_all t n r c.first_seat.result c.cut_all.new.list.items (c.first_seat.ensures ∙ ap (λ z. fresh_seat z n r 0) c.cut_all.ensures.table) c.cut_all.ensures.count.0 c.cut_all.ensures.seats)
