-- The requests so far were read and gathered, and no read failed.
use Rattle.std.proofs.Common.{List}
use Rattle.std.specs.Io.KnownBytes.{Consumes}
use Rattle.wire.specs.Requests.{Request}
use Rattle.wire.specs.Counting.{StaysCounted}
use Rattle.serve.specs.Rounds.{Gathers}
use Rattle.serve.specs.Served.{AreOpen, requests_text}
use Rattle.serve.specs.Kept.{AreOf, classes_of, works_of, calls_of}
use Rattle.serve.proofs.reading.read_round.Given as goal

abbrev pub invariant-loop : goal.invariant-loop
invariant-loop g l = record {
  known : AreOf l.server.registry.now l.state.ids.items;
  kept : StaysCounted l.initial.reader l.reader;
  requests : List Request;
  are : AreOpen l.server.settings.protocol requests;
  took : Consumes (g.R.Read.remaining l.initial.reader.inner) (g.R.Read.remaining l.reader.inner) (requests_text requests);
  gathered : Gathers (classes_of l.initial.state.ids.items) requests (works_of l.plan) (calls_of l.plan) (classes_of l.state.ids.items);
}
