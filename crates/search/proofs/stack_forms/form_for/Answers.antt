use Rattle.std.proofs.Common.{sym, ◌∙◌}
use Rattle.unrolled.specs.Known.{is_wide}
use Rattle.search.specs.Seen.{operands_seen}
use Rattle.search.proofs.Sizes.{form_found}
use Rattle.search.proofs.stack_forms.form_for.Goals as goal

pub returns-then-has_sizes : goal.returns-then-has_sizes
returns-then-has_sizes c =
    form_found is_wide c.args.forms.now (operands_seen c.args.operands.now) c.loop-form.form-index _ _ c.loop-form-test.true
    (sym c.has_sizes.ensures ∙ c.if-has_sizes.true) c.loop-form.invariant
