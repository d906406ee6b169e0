-- The end of an invocation.
use Rattle.std.specs.Prelude.{◌≡◌}
use Rattle.jtypes.specs.Entry.{Entry, effect}
use Rattle.typecheck.specs.Typing.{Class}
use Rattle.verdict.specs.Machine.{Invocation, Final}
use Rattle.verdict.specs.Meaning.{Means}
use Rattle.ended.specs.declared.done.Done.{Done}

-- `IsFinal d before f` holds if `d` reports the final state `f`: its outcome, steps, words and loader's answer,
-- whether the entry is untouched, and the effect that changes the entry `before` to the final one
pub record IsFinal (d : Done) (before : Entry) (f : Final) : Type 0 where
  pub outcome : d.outcome ≡ f.outcome
  pub effect : d.effect ≡ effect before f.entry
  pub untouched : d.untouched ≡ f.untouched
  pub asked : d.asked ≡ f.asked
  pub steps : d.steps ≡ f.steps
  pub words : d.words ≡ f.words

-- `IsMeant c call d` holds if `d` reports a final state that the definitions give for this call of the class
pub record IsMeant (c : Class) (call : Invocation) (d : Done) : Type 0 where
  pub final : Final
  pub means : Means c call final
  pub told : IsFinal d call.before final
