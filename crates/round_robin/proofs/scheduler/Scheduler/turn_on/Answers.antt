use Rattle.std.proofs.Common.{arith, ◌≡◌, true, Some, None, slice_get, slice_set, length, vec_len, refl, sym, ap, subst, ◌∙◌}
use Rattle.std.proofs.lemmas.Option.{slice_get_within}
use Rattle.stripe.specs.declared.call.Reply.{Reply}
use Rattle.stripe.specs.declared.refusal.BeginRefusal.{BeginRefusal}
use Rattle.stripe.specs.History.{Record}
use Rattle.stripe.specs.Seen.{record_of}
use Rattle.world.specs.declared.event.Applied.TheVariants.{Done, Refused}
use Rattle.world.specs.World.{World, Step, Finish, apply, with_record, record_of_call}
use Rattle.world.specs.Refused.{is_possible}
use Rattle.world.specs.Forward.{turns_left}
use Rattle.round_robin.specs.Scheduling.{stage, IsGoing}
use Rattle.round_robin.proofs.Replies.{number_at, last_of}
use Rattle.round_robin.proofs.Moves.{Finishes, step_moves, finish_moves}
use Rattle.round_robin.proofs.Told.{IsTold, not_stepped, was_finished, is_finished}
use Rattle.round_robin.proofs.Stages.{on_world, none_of, numbered, no_turns_left, going_stepped, stepped_others, going_ended, ended_others, ended_idle}
use Rattle.round_robin.proofs.scheduler.Scheduler.turn_on.Goals as goal

pub returns-in_default-clause-nearer : goal.returns-in_default-clause-nearer
returns-in_default-clause-nearer g c =
    let s = stage c.args.self.now in
    let there : slice_get s.numbers c.args.stripe ≡ Some c.index.result.now = number_at s.numbers (vec_len c.args.self.now.numbers) (length s.world.opening) c.args.stripe c.index.result.now c.args.self.now.numbers.ok.0 c.requires.going.numbers c.requires.stripe c.index.ensures in
    let none : turns_left s.world c.args.stripe ≡ 0 = no_turns_left s c.requires.going c.args.stripe (there ∙ ap Some (none_of c.index.result.now c.in_default.not-Some)) in
    omega (arith, none)

not_refused : (r : BeginRefusal) → ¬ (Done ≡ Refused r)
not_refused r e = absurd (cc)

pub returns-in-Done-clause-going : goal.returns-in-Done-clause-going
returns-in-Done-clause-going g c =
    let s = stage c.args.self.now in
    let happens = c.in-Done.ensures.applied.world not_refused in
    subst (λ (w : World). IsGoing (on_world s w)) (sym happens.2) (going_stepped s c.requires.going c.args.stripe _ (step_moves happens.0 s.world c.args.stripe))

pub returns-in-Done-clause-others : goal.returns-in-Done-clause-others
returns-in-Done-clause-others g c i other =
    let s = stage c.args.self.now in
    let happens = c.in-Done.ensures.applied.world not_refused in
    subst (λ (w : World). turns_left w i ≡ turns_left s.world i) (sym happens.2) (stepped_others s.world c.args.stripe _ (step_moves happens.0 s.world c.args.stripe) i other)

pub unreachable-requires : goal.unreachable-requires
unreachable-requires g c =
    let s = stage c.args.self.now in
    let i = c.args.stripe in
    let there : slice_get s.numbers i ≡ Some (Some c.in-Some.number) = number_at s.numbers (vec_len c.args.self.now.numbers) (length s.world.opening) i c.index.result.now c.args.self.now.numbers.ok.0 c.requires.going.numbers c.requires.stripe c.index.ensures ∙ ap Some c.in-Some.is in
    let found = numbered s c.requires.going i c.in-Some.number there in
    let same : c.apply.new.self.world ≡ s.world = c.apply.ensures.applied.same c.in_default-apply.not-Done in
    let stepped : IsTold s.world (Step i) c.apply.result = record { ignored = c.apply.ensures.applied.ignored; full = c.apply.ensures.applied.full; memory = c.apply.ensures.applied.memory } in
    let possible : is_possible s.world (Finish i) ≡ true = was_finished s.world i found.0 found.1 (not_stepped s.world i c.apply.result stepped c.in_default-apply.not-Done) in
    let ended : IsTold c.apply.new.self.world (Finish i) c.apply-2.result = record { ignored = c.apply-2.ensures.applied.ignored; full = c.apply-2.ensures.applied.full; memory = c.apply-2.ensures.applied.memory } in
    c.in_default-apply-2.not-Done (is_finished c.apply.new.self.world i c.apply-2.result ended (subst (λ (w : World). is_possible w (Finish i) ≡ true) (sym same) possible))

pub index_mut-requires : goal.index_mut-requires
index_mut-requires g c =
    let s = stage c.args.self.now in
    let i = c.args.stripe in
    let there : slice_get s.numbers i ≡ Some (Some c.in-Some.number) = number_at s.numbers (vec_len c.args.self.now.numbers) (length s.world.opening) i c.index.result.now c.args.self.now.numbers.ok.0 c.requires.going.numbers c.requires.stripe c.index.ensures ∙ ap Some c.in-Some.is in
    let found = numbered s c.requires.going i c.in-Some.number there in
    let inside = slice_get_within s.replies c.in-Some.number None found.2.unanswered in
    omega (arith, inside, c.args.self.now.replies.ok.0)

pub returns : goal.returns
returns g c =
    let s = stage c.args.self.now in
    let i = c.args.stripe in
    let k = c.in-Some.number in
    let told = c.in-Some-last.record.now in
    let there : slice_get s.numbers i ≡ Some (Some k) = number_at s.numbers (vec_len c.args.self.now.numbers) (length s.world.opening) i c.index.result.now c.args.self.now.numbers.ok.0 c.requires.going.numbers c.requires.stripe c.index.ensures ∙ ap Some c.in-Some.is in
    let found = numbered s c.requires.going i k there in
    let same : c.apply.new.self.world ≡ s.world = c.apply.ensures.applied.same c.in_default-apply.not-Done in
    let stepped : IsTold s.world (Step i) c.apply.result = record { ignored = c.apply.ensures.applied.ignored; full = c.apply.ensures.applied.full; memory = c.apply.ensures.applied.memory } in
    let possible : is_possible s.world (Finish i) ≡ true = was_finished s.world i found.0 found.1 (not_stepped s.world i c.apply.result stepped c.in_default-apply.not-Done) in
    let happens = c.in-Done-apply.ensures.applied.world not_refused in
    let end : Finishes happens.0 s.world i found.0 = finish_moves happens.0 s.world i found.0 found.1 possible in
    let r : Record = record_of_call found.0 end.reply end.after end.asked in
    let is : c.apply-2.new.self.world ≡ with_record s.world i r = happens.2 ∙ ap (λ (w : World). apply happens.0 w (Finish i)) same ∙ end.is in
    let last : record_of told ≡ r = last_of record_of c.finished.result.now s.world.finished told r (c.finished.ensures ∙ ap (λ (w : World). w.finished) is) (sym c.in-Some-last.ensures.value) in
    let reply : told.reply ≡ end.reply = ap (λ (x : Record). x.reply) last in
    let idle : turns_left c.apply-2.new.self.world i ≡ 0 = ap (λ (w : World). turns_left w i) is ∙ ended_idle s c.requires.going i k found.0 there found.1 end.reply end.after end.asked in
    record {
      going =
          subst (λ (w : World). IsGoing (record { calls = s.calls; begun = s.begun; world = w; numbers = slice_set s.numbers i None; replies = slice_set s.replies k (Some told.reply) })) (sym is)
          (subst (λ (x : Reply). IsGoing (record { calls = s.calls; begun = s.begun; world = with_record s.world i r; numbers = slice_set s.numbers i None; replies = slice_set s.replies k (Some x) })) (sym reply)
          (going_ended s c.requires.going i k found.0 there found.1 end.reply end.after end.asked));
      same = record { calls = refl; begun = refl; opening = ap (λ (w : World). w.opening) is };
      nearer = omega (arith, idle);
      loader = c.apply-2.ensures.loader ∙ c.apply.ensures.loader;
      others = λ j other. ap (λ (w : World). turns_left w j) is ∙ ended_others s c.requires.going i k found.0 there found.1 end.reply end.after end.asked j other;
    }
