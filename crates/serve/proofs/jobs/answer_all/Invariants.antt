use Rattle.std.proofs.Common.{◌≡◌, ◌≤◌, take, map, length, vec_capacity}
use Rattle.std.specs.List.{All}
use Rattle.invokeall.specs.Rounds.{reply_of}
use Rattle.workers.specs.Buffers.{HasPlace}
use Rattle.serve.proofs.jobs.answer_all.Given as goal

abbrev pub invariant-loop-reply : goal.invariant-loop-reply
invariant-loop-reply l = record {
  replies : map reply_of l.answers.items ≡ take l.reply-index l.replies;
  long : length l.answers.items ≡ l.reply-index;
  placed : All HasPlace l.answers.items;
  room : length l.replies ≤ vec_capacity l.answers;
}
