use Rattle.std.proofs.Common.{◌≡◌, ◌+◌, ◌*◌, ◌≤◌, drop}
use Rattle.jtypes.specs.Types.{slots_by}
use Rattle.constpool.specs.Descriptor.{is_long_type}
use Rattle.constpool.proofs.parsing.param_slots.Given as goal

abbrev pub invariant-loop-param : goal.invariant-loop-param
invariant-loop-param l = record {
  counted : l.slots + slots_by is_long_type (drop l.param-index l.param-items) ≡ slots_by is_long_type l.sig.params;
  few : l.slots ≤ 2 * l.param-index;
}
