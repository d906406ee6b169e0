use Rattle.std.proofs.Common.{◌≡◌, ◌≤◌, ℕ, get_or, drop, length, false}
use Rattle.unrolled.specs.Rules.{is_test_ahead, is_tested}
use Rattle.search.proofs.rules.tested.Given as goal

abbrev pub invariant-loop-left : goal.invariant-loop-left
invariant-loop-left l = record {
  within : l.left ≤ length l.code;
  ahead : l.ahead ≡ is_test_ahead (drop l.left l.code);
  ints : (q : ℕ) → get_or l.ints.items q false ≡ is_tested q (drop l.left l.code);
}

abbrev pub decreases-loop-left : goal.decreases-loop-left
decreases-loop-left l = l.left
