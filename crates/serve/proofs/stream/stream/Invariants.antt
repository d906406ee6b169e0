-- The bytes written so far are the answer to the bytes read so far, and no call failed.
use Rattle.std.proofs.Common.{ℕ, List}
use Rattle.std.specs.Io.KnownBytes.{Consumes, Appends}
use Rattle.stripe.specs.Stored.{entry_among}
use Rattle.wire.specs.Counting.{StaysCounted}
use Rattle.serve.specs.Served.{Serves, stand}
use Rattle.serve.specs.Kept.{AreOf, classes_of}
use Rattle.serve.proofs.stream.stream.Given as goal

abbrev pub invariant-loop : goal.invariant-loop
invariant-loop g l = record {
  known : AreOf l.server.registry.now l.state.ids.items;
  read : StaysCounted l.initial.reader l.reader;
  wrote : StaysCounted l.initial.writer l.writer;
  taken : List ℕ;
  given : List ℕ;
  took : Consumes (g.R.Read.remaining l.initial.reader.inner) (g.R.Read.remaining l.reader.inner) taken;
  gave : Appends (g.W.Write.contents l.initial.writer.inner) (g.W.Write.contents l.writer.inner) given;
  serves : Serves l.server.settings.protocol g.L.Loader.ASKS (g.L.Loader.gives l.server.loader.now) taken given (stand (classes_of l.state.ids.items) (entry_among l.tables));
}
