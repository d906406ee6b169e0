-- The arguments of an invocation.
use Rattle.std.specs.Prelude.{List}
use Rattle.jtypes.specs.declared.types.Arg.{Arg}
use Rattle.stripe.specs.declared.args.ArgSlice.{ArgSlice}

abbrev pub arguments : ArgSlice → List Arg
arguments args = args.items.now
