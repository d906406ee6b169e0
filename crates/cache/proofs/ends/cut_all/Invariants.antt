use Rattle.std.proofs.Common.{◌≡◌, ◌+◌, ◌≤◌, [], ℕ, suc, length, vec_capacity}
use Rattle.std.specs.List.{All}
use mathlib.Core.Option.{some}
use lib.ListN.{get_elem?}
use Rattle.cache.specs.Views.{seat_view, part, none_full}
use Rattle.cache.specs.Ends.{IsEmptyList}
use Rattle.cache.specs.Opened.{Sitting, fresh_seat}
use Rattle.cache.proofs.ends.cut_all.Given as goal

abbrev pub invariant-loop-number : goal.invariant-loop-number
invariant-loop-number g l =
    (l.pass.table_id ≡ l.initial.pass.table_id) × (l.pass.me ≡ (seat_view l.number (part 0 [] none_full), [])) × (length l.list.items + 1 ≡ l.number) × (vec_capacity l.initial.list ≤ vec_capacity l.list)
    × ((c : ℕ) (s : Sitting) → get_elem? l.list.items c ≡ some s → s ≡ fresh_seat l.initial.pass.table_id l.seats l.calls (suc c))
    × (length l.lists.items + l.number ≡ l.seats + 1) × All (IsEmptyList l.calls) l.lists.items
