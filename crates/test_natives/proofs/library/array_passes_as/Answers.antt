use Rattle.jtypes.specs.declared.types.RefValue.TheVariants as reference
use Rattle.test_natives.proofs.library.array_passes_as.Goals as goal

pub passes-requires : goal.passes-requires
passes-requires c = (reference.Array c.requires.0, c.requires.1)
