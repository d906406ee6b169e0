use Rattle.std.proofs.Common.{◌≡◌, map, take}
use Rattle.stripe.specs.History.{AreGiven}
use Rattle.world.specs.Seen.{event_of}
use Rattle.world.specs.Refused.{RunsWithRoom}
use Rattle.world.proofs.world.World.run.Given as goal

abbrev pub invariant-loop-place : goal.invariant-loop-place
invariant-loop-place g l =
    record {
      runs : RunsWithRoom (g.L.Loader.gives l.initial.self.loader) l.initial.self.world (map event_of (take l.place l.events)) l.self.world;
      loader : l.self.loader ≡ l.initial.self.loader;
    }
