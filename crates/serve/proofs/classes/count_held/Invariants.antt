-- The count is that of the ids so far.
use Rattle.std.proofs.Common.{◌≡◌, ◌≤◌, take}
use Rattle.serve.specs.Classes.{held}
use Rattle.serve.specs.Kept.{classes_of}
use Rattle.serve.proofs.classes.count_held.Given as goal

abbrev pub invariant-loop-id : goal.invariant-loop-id
invariant-loop-id l = record {
  counted : l.count ≡ held (classes_of (take l.id-index l.ids));
  few : l.count ≤ l.id-index;
}
