use Rattle.std.proofs.Common.{◌≡◌, ℕ, List, [], ◌++◌, length, map, Option, Some, sym, ◌∙◌, subst, refl, arith}
use Rattle.std.specs.Io.KnownBytes.{Appends}
use Rattle.std.proofs.KnownBytes.{Appends-nil}
use Rattle.wire.specs.declared.protocol.Protocol.{Protocol}
use Rattle.serve.specs.Classes.{Classes}
use Rattle.stripe.specs.Stored.{entry_among}
use Rattle.wire.specs.declared.reply.Reply.{Reply}
use Rattle.serve.specs.declared.fault.ServeFault.{ServeFault}
use Rattle.serve.specs.declared.batch.Batch.{Batch}
use Rattle.serve.specs.Rounds.{work_reply}
use Rattle.serve.specs.Served.{Fails, Stops, stand, ended, requests_text, unread, no_memory, writer}
use Rattle.serve.specs.Kept.{IsWhole, RoundRead, classes_of, works_of}
use Rattle.serve.proofs.Plans.{few_jobs, as_many_calls}
use Rattle.serve.proofs.Begun.{err_as}
use Rattle.serve.proofs.Rounds.{round_of}
use Rattle.serve.proofs.round.one_round.Goals as goal

whole : (p : Protocol) (old new : Option (List ℕ)) (first later : Classes) (o : Option Batch) (plan : Batch) → o ≡ Some plan → RoundRead p old new first later o → IsWhole p old new first plan later
whole p old new first later o plan e h = subst (λ (x : Option Batch). RoundRead p old new first later x) e h

pub returns-in_err-plan-clause-err : goal.returns-in_err-plan-clause-err
returns-in_err-plan-clause-err g c = err_as c.from_residual.result c.from_residual.ensures.1 (λ e h.
    let b = c.in_err-plan.ensures.err in
    record {
      taken = requests_text b.requests ++ b.extra;
      given = [];
      took = b.took;
      gave = Appends-nil _;
      fails = unread b.requests b.extra e b.are refl refl (subst (λ (f : ServeFault). Stops c.args.server.now.settings.protocol b.requests b.extra f) (sym h) b.stops);
    })

pub run_round-requires-clause-few : goal.run_round-requires-clause-few
run_round-requires-clause-few g c = λ lifetimes lives.
    let w = whole c.args.server.now.settings.protocol (g.R.Read.remaining c.args.reader.now.inner) (g.R.Read.remaining c.read_round.new.reader.inner) (classes_of c.args.state.now.ids.items) (classes_of c.read_round.new.state.ids.items) c.in_ok-plan.field-0 c.in-Some.plan c.in-Some.is c.in_ok-plan.ensures.ok in
    let few = few_jobs w.gathered in
    omega (arith, few, as_many_calls c.in-Some.plan)

pub returns-in_err-left-clause-err : goal.returns-in_err-left-clause-err
returns-in_err-left-clause-err g c = err_as c.from_residual-in_err-left.result c.from_residual-in_err-left.ensures.1 (λ e h.
    let w = whole c.args.server.now.settings.protocol (g.R.Read.remaining c.args.reader.now.inner) (g.R.Read.remaining c.read_round.new.reader.inner) (classes_of c.args.state.now.ids.items) (classes_of c.read_round.new.state.ids.items) c.in_ok-plan.field-0 c.in-Some.plan c.in-Some.is c.in_ok-plan.ensures.ok in
    let s = stand (classes_of c.args.state.now.ids.items) (entry_among c.args.tables) in
    record {
      taken = requests_text (ended w.requests);
      given = [];
      took = w.took;
      gave = Appends-nil _;
      fails = subst (λ (f : ServeFault). Fails c.args.server.now.settings.protocol g.L.Loader.ASKS (g.L.Loader.gives c.args.server.now.loader.now) s (requests_text (ended w.requests)) [] f) (sym h) (no_memory w.requests w.are refl refl);
    })

pub returns-clause-ok : goal.returns-clause-ok
returns-clause-ok g c =
    let w = whole c.args.server.now.settings.protocol (g.R.Read.remaining c.args.reader.now.inner) (g.R.Read.remaining c.read_round.new.reader.inner) (classes_of c.args.state.now.ids.items) (classes_of c.read_round.new.state.ids.items) c.in_ok-plan.field-0 c.in-Some.plan c.in-Some.is c.in_ok-plan.ensures.ok in
    let run = c.in_ok-left.ensures in
    let replies : List Reply = map (work_reply run.answers) (works_of c.in-Some.plan) in
    let text = c.as_slice.ensures.value ∙ run.text_is in
    record {
      requests = w.requests;
      replies = replies;
      are = w.are;
      took = w.took;
      gave = subst (λ l. Appends (g.W.Write.contents c.args.writer.now.inner) (g.W.Write.contents c.write_all.new.writer.inner) l) text c.in_ok-write_all.ensures.ok.appended;
      round = round_of w (entry_among c.args.tables) (entry_among c.in_ok-left.left) c.in_ok-left.text.items run;
    }

pub returns-in_err-write_all-clause-err : goal.returns-in_err-write_all-clause-err
returns-in_err-write_all-clause-err g c = err_as c.from_residual-in_err-write_all.result c.from_residual-in_err-write_all.ensures.1 (λ e h.
    let w = whole c.args.server.now.settings.protocol (g.R.Read.remaining c.args.reader.now.inner) (g.R.Read.remaining c.read_round.new.reader.inner) (classes_of c.args.state.now.ids.items) (classes_of c.read_round.new.state.ids.items) c.in_ok-plan.field-0 c.in-Some.plan c.in-Some.is c.in_ok-plan.ensures.ok in
    let s = stand (classes_of c.args.state.now.ids.items) (entry_among c.args.tables) in
    let t = stand (classes_of c.read_round.new.state.ids.items) (entry_among c.in_ok-left.left) in
    let run = c.in_ok-left.ensures in
    let replies : List Reply = map (work_reply run.answers) (works_of c.in-Some.plan) in
    let text = c.as_slice.ensures.value ∙ run.text_is in
    let (front, back, parts, appended) = c.in_err-write_all.ensures.err.part in
    record {
      taken = requests_text (ended w.requests);
      given = front;
      took = w.took;
      gave = appended;
      fails = subst (λ (f : ServeFault). Fails c.args.server.now.settings.protocol g.L.Loader.ASKS (g.L.Loader.gives c.args.server.now.loader.now) s (requests_text (ended w.requests)) front f) (sym h)
          (writer w.requests replies t back w.are refl (round_of w (entry_among c.args.tables) (entry_among c.in_ok-left.left) c.in_ok-left.text.items run) (sym text ∙ parts));
    })
