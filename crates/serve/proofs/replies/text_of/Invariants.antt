-- The replies to the works so far are written.
use Rattle.std.proofs.Common.{◌≡◌, map, take}
use Rattle.invokeall.specs.Rounds.{reply_of}
use Rattle.serve.specs.Rounds.{work_reply}
use Rattle.serve.specs.Served.{replies_text}
use Rattle.serve.specs.Kept.{work_of}
use Rattle.serve.proofs.replies.text_of.Given as goal

abbrev pub invariant-loop-work : goal.invariant-loop-work
invariant-loop-work l = l.text.items ≡ replies_text (map (work_reply (map reply_of l.answers)) (map work_of (take l.work-index l.works)))
