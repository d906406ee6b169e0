use Rattle.std.proofs.Common.{◌≡◌, ◌≤◌, length, map}
use Rattle.invokeall.specs.Jobs.{all_seen}
use Rattle.invokeall.specs.Groups.{group_of, AreLinked}
use Rattle.invokeall.proofs.groups.link.Given as goal

abbrev pub invariant-loop-left : goal.invariant-loop-left
invariant-loop-left l = record {
  few : l.left ≤ length l.calls;
  same : length (all_seen l.calls) ≡ length l.calls;
  linked : AreLinked (map (group_of (length l.initial.firsts)) (all_seen l.calls)) (length l.initial.firsts) l.left l.firsts l.nexts;
}

abbrev pub decreases-loop-left : goal.decreases-loop-left
decreases-loop-left l = l.left
