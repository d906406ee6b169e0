use Rattle.std.proofs.Common.{◌≡◌, ℕ, ℤ, Bool, List, [], ◌++◌, Option, Some, refl, sym, ap, subst}
use Rattle.std.proofs.lemmas.List.Elements.{All-nil}
use Rattle.std.proofs.KnownBytes.{Appends-nil, Appends-trans, Consumes-nil, Consumes-trans}
use Rattle.boxcar.specs.Table.{Where}
use Rattle.jtypes.specs.declared.loader.LoadAnswer.{LoadAnswer}
use Rattle.wire.specs.declared.protocol.Protocol.{Protocol}
use Rattle.typecheck.specs.Typing.{Class}
use Rattle.serve.specs.Classes.{Classes}
use Rattle.stripe.specs.Stored.{Stored, entry_among}
use Rattle.serve.specs.declared.fault.ServeFault.{ServeFault}
use Rattle.serve.specs.Served.{Fails, Stand, stand, ended, all_told, requests_text, replies_text}
use Rattle.serve.specs.Kept.{RoundServed, IsAnswered, AreOf, IsNoneOrOf, classes_of}
use Rattle.serve.proofs.Rounds.{serves_more, nothing_yet}
use Rattle.serve.proofs.Begun.{err_as}
use Rattle.serve.proofs.Devices.{stays_on}
use Rattle.serve.proofs.stream.stream.Goals as goal

one_more : (p : Protocol) (loads : Bool) (gives : ℤ → LoadAnswer → Type 0) (old new before after : Option (List ℕ)) (s : Stand) (classes : Classes) (o : Option (List Stored)) (tables : List Stored) → o ≡ Some tables → RoundServed p loads gives old new before after s classes o
    → IsAnswered p loads gives old new before after s classes tables
one_more p loads gives old new before after s classes o tables e h = subst (λ (x : Option (List Stored)). RoundServed p loads gives old new before after s classes x) e h

pub loop-init : goal.loop-init
loop-init g c = record {
  known = subst (λ (l : List (Option (Where Class))). AreOf c.args.server.now.registry.now l) (sym c.new-ids.ensures.items) (All-nil (IsNoneOrOf c.args.server.now.registry.now));
  read = (refl, refl);
  wrote = (refl, refl);
  taken = [];
  given = [];
  took = Consumes-nil _;
  gave = Appends-nil _;
  serves = nothing_yet c.args.server.now.settings.protocol g.L.Loader.ASKS (g.L.Loader.gives c.args.server.now.loader.now) (classes_of c.new-ids.result.items) (entry_among c.args.tables) (ap classes_of c.new-ids.ensures.items) c.requires.empty;
}

pub loop-preserved : goal.loop-preserved
loop-preserved g c =
    let i = c.loop.invariant in
    let s : Stand = stand (classes_of c.loop.state.ids.items) (entry_among c.loop.tables) in
    let t : Stand = stand (classes_of c.one_round.new.state.ids.items) (entry_among c.in-Some-2.left) in
    let o = one_more c.args.server.now.settings.protocol g.L.Loader.ASKS (g.L.Loader.gives c.args.server.now.loader.now) _ _ _ _ s (classes_of c.one_round.new.state.ids.items) c.in_ok-left.field-0 c.in-Some-2.left c.in-Some-2.is c.in_ok-left.ensures.ok in
    record {
      known = c.one_round.ensures.known;
      read = stays_on c.args.reader.now c.loop.reader c.one_round.new.reader i.read c.in_ok-left.ensures.reads;
      wrote = stays_on c.args.writer.now c.loop.writer c.one_round.new.writer i.wrote c.in_ok-left.ensures.writes;
      taken = i.taken ++ requests_text (ended o.requests);
      given = i.given ++ replies_text (all_told o.replies);
      took = Consumes-trans _ _ _ i.taken (requests_text (ended o.requests)) i.took o.took;
      gave = Appends-trans _ _ _ i.given (replies_text (all_told o.replies)) i.gave o.gave;
      serves = serves_more c.args.server.now.settings.protocol g.L.Loader.ASKS (g.L.Loader.gives c.args.server.now.loader.now) i.taken i.given s t o.requests o.replies i.serves o.are o.round;
    }

pub returns-in_err-left-clause-cut : goal.returns-in_err-left-clause-cut
returns-in_err-left-clause-cut g c = err_as c.from_residual.result c.from_residual.ensures.1 (λ e h.
    let i = c.loop.invariant in
    let f = c.in_err-left.ensures.err in
    let s = stand (classes_of c.loop.state.ids.items) (entry_among c.loop.tables) in (
      i.taken ++ f.taken,
      i.given ++ f.given,
      Consumes-trans _ _ _ i.taken f.taken i.took f.took,
      Appends-trans _ _ _ i.given f.given i.gave f.gave,
      record {
        front = i.taken;
        back = f.taken;
        input_is = refl;
        told = i.given;
        part = f.given;
        output_is = refl;
        left = s;
        serves = i.serves;
        fails = subst (λ (x : ServeFault). Fails c.args.server.now.settings.protocol g.L.Loader.ASKS (g.L.Loader.gives c.args.server.now.loader.now) s f.taken f.given x) (sym h) f.fails;
      },
    ))
