use Rattle.std.proofs.Common.{◌≡◌, ℕ, Some, length}
use Rattle.std.specs.Prelude.{slice_get}
use Rattle.typecheck.specs.declared.typed.Typed.{Typed}
use Rattle.search.specs.declared.node.Following.{Following}
use Rattle.search.specs.Followed.{IsFollowing}
use Rattle.search.proofs.rules.followings.Given as goal

abbrev pub invariant-loop-m : goal.invariant-loop-m
invariant-loop-m l = record {
  size : length l.fs.items ≡ l.m-index;
  each : (i : ℕ) (row : Typed) (f : Following) → slice_get l.methods i ≡ Some row → slice_get l.fs.items i ≡ Some f → IsFollowing l.methods row f;
}
