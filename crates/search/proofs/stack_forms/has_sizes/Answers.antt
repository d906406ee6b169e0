use Rattle.std.proofs.Common.{sym, ap, ◌∙◌}
use Rattle.std.specs.Prelude.{option_map}
use Rattle.unrolled.specs.Known.{is_wide}
use Rattle.search.specs.Seen.{known_seen, operands_seen}
use Rattle.search.proofs.Sizes.{sizes_end, sizes_differ, sizes_same}
use Rattle.search.proofs.stack_forms.has_sizes.Goals as goal

pub returns-in_default : goal.returns-in_default
returns-in_default c =
    sizes_end is_wide c.args.longs.now (operands_seen c.args.operands.now) c.loop-i.i _ c.loop-i-test.true
    (sym c.peek.ensures ∙ ap (option_map known_seen) c.in_default.is) c.loop-i.invariant

pub returns-then-longs-i : goal.returns-then-longs-i
returns-then-longs-i c =
    sizes_differ is_wide c.args.longs.now (operands_seen c.args.operands.now) c.loop-i.i (known_seen c.in-Some.k) c.is_wide.result _ c.loop-i-test.true
    (sym c.peek.ensures ∙ ap (option_map known_seen) c.in-Some.is) c.is_wide.ensures c.if-longs-i.true c.loop-i.invariant

pub loop-i-preserved : goal.loop-i-preserved
loop-i-preserved c =
    sizes_same is_wide c.args.longs.now (operands_seen c.args.operands.now) c.loop-i.i (known_seen c.in-Some.k) c.is_wide.result _ c.loop-i-test.true
    (sym c.peek.ensures ∙ ap (option_map known_seen) c.in-Some.is) c.is_wide.ensures c.if-longs-i.false c.loop-i.invariant
