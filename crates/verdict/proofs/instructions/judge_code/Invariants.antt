use Rattle.std.proofs.Common.{◌≡◌, ◌++◌, drop, true}
use Rattle.std.specs.List.{AllWithin}
use Rattle.typecheck.specs.Calls.{calls_in}
use Rattle.verdict.specs.Verdict.{is_known}
use Rattle.verdict.proofs.instructions.judge_code.Given as goal

abbrev pub invariant-loop-p : goal.invariant-loop-p
invariant-loop-p l = record {
  known : AllWithin (λ p. is_known l.view p.instruction ≡ true) l.p-items 0 l.p-index;
  calls : calls_in l.view l.p-items ≡ l.calls.items ++ calls_in l.view (drop l.p-index l.p-items);
}
