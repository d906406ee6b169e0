use Rattle.test_natives.proofs.library.passes_as.Goals as goal

pub passes-requires : goal.passes-requires
passes-requires c = (c.args.value, c.requires)
