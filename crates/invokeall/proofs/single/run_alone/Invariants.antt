use Rattle.std.proofs.Common.{◌≡◌, ◌+◌, ◌≤◌, ◌++◌, length, take, map, vec_capacity}
use Rattle.round_outcome.specs.Outcome.{answered}
use Rattle.round_outcome.specs.Closed.{calls_told, AreFiled}
use Rattle.invokeall.specs.Jobs.{all_seen}
use Rattle.invokeall.specs.Rounds.{reply_of, IsLaterSeat, NeedMemory}
use Rattle.invokeall.proofs.OneSeat.{IsShown}
use Rattle.invokeall.proofs.single.run_alone.Given as goal

abbrev pub invariant-loop-number : goal.invariant-loop-number
invariant-loop-number g l = record {
  home : l.seat.table ≡ l.round.cache.now.table;
  later : IsLaterSeat l.initial.seat l.seat;
  count : length l.answers.items ≡ l.number;
  receipts : calls_told l.seat.receipts ≡ calls_told l.initial.seat.receipts ++ answered (take l.number (all_seen l.round.calls.now)) (map reply_of l.answers.items);
  filed : AreFiled (length l.round.cache.now.tables) l.initial.seat.receipts → AreFiled (length l.round.cache.now.tables) l.seat.receipts;
  full : IsShown l.round.cache.now (all_seen l.round.calls.now) l.seat l.answers.items;
  room : length l.round.calls.now ≤ vec_capacity l.answers;
  left : l.initial.seat.room ≤ l.seat.room + l.number;
  memory : length (all_seen l.round.calls.now) ≤ l.initial.seat.room → NeedMemory g.L.Loader.ASKS (all_seen l.round.calls.now) l.answers.items;
}
