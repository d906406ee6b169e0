use Rattle.std.proofs.Common.{◌≡◌, List, Option, Some, length, map, slice_get, IsPermutation, sym, ap, subst, ◌∙◌}
use Rattle.stripe.specs.Seen.{call_of}
use Rattle.stripe.specs.declared.call.Reply.{Reply}
use Rattle.stripe.specs.History.{Call, Record, AreGiven}
use Rattle.stripe.specs.Stored.{Stored, entry_among}
use Rattle.world.specs.World.{World}
use Rattle.world.specs.Lawful.{IsLawful}
use Rattle.round_outcome.specs.Outcome.{AreRefused, answered, calls_in}
use Rattle.round_robin.specs.Scheduling.{stage}
use Rattle.round_robin.proofs.Stages.{none_runs, all_refused}
use Rattle.round_robin.proofs.run.run_in_turns.Goals as goal

pub close-tables-requires : goal.close-tables-requires
close-tables-requires g c i r =
    subst (λ (w : World). ¬ (slice_get w.running i ≡ Some (Some r))) (sym (ap (λ w. w.world) c.end-world.ensures.world)) (none_runs (stage c.run.new.self) c.run.ensures.going c.run.ensures.over.idle i r)

pub returns-in-Ok-new-clause-refused : goal.returns-in-Ok-new-clause-refused
returns-in-Ok-new-clause-refused g c =
    let s = stage c.run.new.self in
    subst (AreRefused g.L.Loader.ASKS (map call_of c.args.calls.now)) (sym c.end-world.ensures.replies)
    (subst (λ calls. AreRefused g.L.Loader.ASKS calls s.replies) (c.run.ensures.calls ∙ c.new-course.ensures.calls) (subst (λ loads. AreRefused loads s.calls s.replies) (ap (λ w. w.world.loads) (sym c.end-world.ensures.world) ∙ c.is_legal.ensures.loads) (all_refused s c.run.ensures.going c.run.ensures.over.idle c.run.ensures.over.begun)))

pub returns-in-Ok-new-clause-done : goal.returns-in-Ok-new-clause-done
returns-in-Ok-new-clause-done g c =
    let s = stage c.run.new.self in
    let loads = g.L.Loader.ASKS in
    let calls : List Call = map call_of c.args.calls.now in
    let answers : List (Option Reply) = c.end-world.result.1.items in
    let finished : List Record = s.world.finished in
    let now = entry_among c.close-tables.result.0 in
    let as_left = c.end-world.ensures.world in
    let made : s.calls ≡ calls = c.run.ensures.calls ∙ c.new-course.ensures.calls in
    let opening = ap (λ w. w.world.opening) as_left ∙ c.run.ensures.opening ∙ c.new-course.ensures.opening ∙ ap (λ (w : World). w.opening) c.in-Ok-new.ensures.opened in
    let asked = ap (λ w. w.loader) as_left ∙ c.run.ensures.loader ∙ c.new-course.ensures.loader ∙ c.in-Ok-new.ensures.loader in
    let told = c.close-tables.ensures.finished ∙ ap (λ w. w.world.finished) as_left in
    let lawful : IsLawful loads c.args.tables finished now = subst (λ (l : List Stored). IsLawful loads l finished now) opening (subst (λ (l : List Record). IsLawful loads c.end-world.result.0.world.opening l now) told c.close-tables.ensures.lawful) in
    let given : AreGiven (g.L.Loader.gives c.args.loader.now) finished = subst (λ l. AreGiven (g.L.Loader.gives l) finished) asked (subst (AreGiven (g.L.Loader.gives c.end-world.result.0.loader)) (ap (λ w. w.world.finished) as_left) c.close-tables.ensures.given) in
    let once : IsPermutation (answered calls answers) (calls_in finished) =
    subst (λ (l : List Call). IsPermutation (answered l answers) (calls_in finished)) made (subst (λ (l : List (Option Reply)). IsPermutation (answered s.calls l) (calls_in finished)) (sym c.end-world.ensures.replies) c.run.ensures.going.once) in
    c.who_answers_an_outcome_is_done.ensures (entry_among c.args.tables) (calls_in finished) now finished (c.what_a_world_hands_out_is_an_outcome.ensures c.args.tables finished now lawful given)
    calls answers (ap length c.end-world.ensures.replies ∙ c.run.ensures.going.replies ∙ ap length made) (returns-in-Ok-new-clause-refused g c) once
