-- The contents of a seat for its call.
use Rattle.std.proofs.Common.{arith, ◌≡◌, suc, ◌+◌, ◌-◌, ◌<◌, ◌≤◌, ℤ, Bool, true, false, not, List, Option, Some, None, is_some, IsSome, IsTrue, option_map, refl, sym, ap, subst, ◌∙◌, true≢false}
use Rattle.jtypes.specs.declared.types.Arg.{Arg}
use Rattle.jtypes.specs.declared.loader.LoadAnswer.{LoadAnswer}
use Rattle.jtypes.specs.declared.loader.LoadAnswer.TheVariants as load
use Rattle.jtypes.specs.Entry.{Entry, effect, after_effect}
use Rattle.jtypes.specs.Loading.{EntryNow, IsGiven}
use Rattle.bounds.specs.Paths.{step_limit}
use Rattle.typecheck.specs.Typing.{Class}
use Rattle.verdict.specs.Machine.{Invocation, State}
use Rattle.verdict.specs.Meaning.{Means}
use Rattle.interpreter.specs.declared.machine.Machine.{Machine}
use Rattle.ended.specs.declared.done.Done.{Done}
use Rattle.ended.specs.declared.done.Going.TheVariants as going
use Rattle.interpreter.specs.AskLoader.{KeepsGiven}
use Rattle.ended.specs.Ended.{IsFinal}
use Rattle.machine.specs.Running.{IsRunningWith, IsStarted}
use Rattle.stripe.specs.declared.call.OpenCall.{OpenCall}
use Rattle.stripe.specs.History.{Call, Invoke, Begun, Record, Answers, key_of, invocation}
use Rattle.stripe.specs.Seen.{call_of, begun_of}
use Rattle.stripe.specs.Kept.{Kept, IsOf, IsRecord, CanCommit, asked_by, entry_of, begun, committed}
use Rattle.world.specs.World as world
use Rattle.world.specs.World.{Progress, Working, Settled, Running, running_call, progress_of, record_of_call, MayAnswer, asked_by_get, asked_on, answer_to}
use Rattle.world.specs.Refused.{works}
use Rattle.world.specs.Seated.{Starts, HasLoader, AnswerIsGiven, IsBegun, IsEnded, Turns, turned}
use Rattle.world.specs.Forward.{turns_on}
use Rattle.world.specs.Going.{known, state_in, progress_in, is_ended, IsUnderWay, IsGoing, ended, working, getting, putting, removing, containing}
use Rattle.world.specs.Seating.{running_in}
use Rattle.world.specs.Stepping.{IsCounted, StepsOn}
use Rattle.world.proofs.Calls.{start_zero, first_state, going_some, call_in, works_going, turned_goes, turned_ends, going_end, ended_progress}
use Rattle.jtypes.specs.Profile.{Third}

-- Each open call is in progress or has ended.
abbrev pub AreGoing : Kept → Machine → Option Done → Option LoadAnswer → Type 0
AreGoing s m done asked = (b : Begun) → s.running ≡ Some b → IsGoing b.loads (entry_of s (key_of b.call)) m b.call done asked

no_some : {X P : Type 0} {x : X} → None ≡ Some x → P
no_some e = absurd (cc)

module _ (s : Kept) (m : Machine) (done : Option Done) (asked : Option LoadAnswer) (sound : AreGoing s m done asked) where
  pub busy : (b : Begun) → s.running ≡ Some b → IsSome (running_in s m done asked s.running)
  busy b e =
      let p = going_some b.loads (entry_of s (key_of b.call)) m (sound b e) in
      ap is_some (ap (running_in s m done asked) e ∙ ap (option_map (running_call b.caller b.number b.call)) p.1)

  pub none_runs : running_in s m done asked s.running ≡ None → s.running ≡ None
  none_runs q = by s.running refl
    where
      by : (r : Option Begun) → s.running ≡ r → r ≡ None
      by None e = refl
      by (Some b) e = absurd (true≢false (sym (busy b e) ∙ ap is_some q))

  pub busy_open : (o : Option OpenCall) → is_some o ≡ true → option_map begun_of o ≡ s.running → IsSome (running_in s m done asked s.running)
  busy_open None t e = absurd (true≢false (sym t))
  busy_open (Some c) t e = busy (begun_of c) (sym e)

  pub idle_open : (t : Bool) (o : Option OpenCall) → is_some o ≡ not t → option_map begun_of o ≡ s.running
      → (IsTrue t → running_in s m done asked s.running ≡ None) × (running_in s m done asked s.running ≡ None → IsTrue t)
  idle_open t None i e = (λ _. ap (running_in s m done asked) (sym e), λ _. by t i)
    where
      by : (t : Bool) → false ≡ not t → t ≡ true
      by true q = refl
      by false q = absurd (true≢false (sym q))
  idle_open t (Some c) i e = (λ q. absurd (true≢false (i ∙ ap not q)), λ q. no_some (sym (e ∙ none_runs q)))

-- ---- the open call

-- The entry that the call found.
abbrev pub before_in : Kept → OpenCall → Entry
before_in s o = entry_of s (key_of (call_of o.call))

module _ (s : Kept) (m : Machine) (done : Option Done) (asked : Option LoadAnswer) (sound : AreGoing s m done asked) (o : OpenCall) (runs : Some (begun_of o) ≡ s.running) where
  pub open_going : IsGoing o.loads (before_in s o) m (call_of o.call) done asked
  open_going = sound (begun_of o) (sym runs)

  open_seen : running_in s m done asked s.running ≡ call_in o.caller o.number o.loads (before_in s o) m (call_of o.call) done asked
  open_seen = ap (running_in s m done asked) (sym runs)

  pub open_works : works (Some (running_in s m done asked s.running)) ≡ not (is_ended (call_of o.call) done)
  open_works = ap (λ r. works (Some r)) open_seen ∙ works_going o.caller o.number o.loads (before_in s o) m open_going

  pub can_commit : is_ended (call_of o.call) done ≡ true → CanCommit s done asked
  can_commit e = record { begun = begun_of o; running = sym runs; ends = going_end o.loads (before_in s o) m open_going e }

  -- The committed record is that of the call.
  pub open_ended : ((b now : Entry) → after_effect (effect b now) b ≡ now) → is_ended (call_of o.call) done ≡ true → (r : Record) → IsRecord (begun_of o) (before_in s o) r → r.asked ≡ asked_by done asked
      → IsOf s (key_of (call_of o.call)) → (new : Kept) (m' : Machine) → new ≡ committed s r → entry_of new (key_of r.call) ≡ r.after → ((k : ℤ) → ¬ (k ≡ key_of r.call) → entry_of new k ≡ entry_of s k)
      → IsEnded (record { stripe = s; running = running_in s m done asked s.running }) r (record { stripe = new; running = running_in new m' None None new.running })
  open_ended leads e r told answer of new m' is entry others =
      record {
        running = running_call o.caller o.number (call_of o.call) (Settled r.reply r.after r.asked);
        reply = r.reply;
        after = r.after;
        asked = r.asked;
        runs = open_seen ∙ ap (option_map (running_call o.caller o.number (call_of o.call))) (ended_progress o.loads (before_in s o) m r.reply r.after r.asked leads open_going e told.answers answer);
        settled = refl;
        told = λ i. record { caller = told.caller i; number = told.number i; call = told.call i; reply = r.reply; after = r.after; asked = r.asked };
        begun = begun_of o;
        opened = sym runs;
        answers = subst (λ (x : Call). Answers o.loads (entry_of s (key_of x)) x r.reply r.after r.asked) (sym told.call) told.answers;
        of = subst (λ (x : Call). IsOf s (key_of x)) (sym told.call) of;
        stripe = is;
        entry = entry;
        others = others;
        idle = ap (running_in new m' None None) (ap (λ (s : Kept). s.running) is);
      }

-- ---- an invocation in progress

under_way : (loads : Bool) (before : Entry) (m : Machine) {call : Call} {done : Option Done} {asked : Option LoadAnswer} → IsGoing loads before m call done asked → (c : Class) (k : ℤ) (args : List Arg) → call ≡ Invoke c k args → is_ended call done ≡ false
    → (done ≡ None) × (asked ≡ None) × IsUnderWay c (invocation loads k args before) m
under_way loads before m (ended c k args d h) c' k' args' is e = absurd (true≢false e)
under_way loads before m (working c k args h) c' k' args' is e = (refl, refl, subst (λ (x : Class × ℤ × List Arg). IsUnderWay x.0 (invocation loads x.1 x.2 before) m) (parts is) h)
  where
    parts : Invoke c k args ≡ Invoke c' k' args' → ◌≡◌ {A = Class × ℤ × List Arg} (c, k, args) (c', k', args')
    parts q = cc q
under_way loads before m (getting k asked h) c' k' args' is e = absurd (true≢false e)
under_way loads before m (putting k v) c' k' args' is e = absurd (true≢false e)
under_way loads before m (removing k) c' k' args' is e = absurd (true≢false e)
under_way loads before m (containing k) c' k' args' is e = absurd (true≢false e)

module _ (s : Kept) (m : Machine) (done : Option Done) (asked : Option LoadAnswer) (sound : AreGoing s m done asked) (o : OpenCall) (runs : Some (begun_of o) ≡ s.running) (c : Class) (k : ℤ) (args : List Arg) (is : call_of o.call ≡ Invoke c k args)
    (not : is_ended (call_of o.call) done ≡ false) (loads : Bool) (with_loader : HasLoader loads s) where
  pub way : (done ≡ None) × (asked ≡ None) × IsUnderWay c (invocation o.loads k args (before_in s o)) m
  way = under_way o.loads (before_in s o) m (open_going s m done asked sound o runs) c k args is not

  asks_or_not : IsRunningWith loads c way.2.state m
  asks_or_not = (way.2.running, ap (λ (i : Invocation). i.loads) way.2.call_is ∙ with_loader (begun_of o) (sym runs))

  pub can_step : (x : State) × IsRunningWith loads c x m
  can_step = (way.2.state, asks_or_not)

  same_begun : (b : Begun) → s.running ≡ Some b → begun_of o ≡ b
  same_begun b e = let both : Some (begun_of o) ≡ Some b = runs ∙ e in cc both

  -- The open call is this invocation.
  of_open : (now : Option Done) (new : Machine) → IsGoing o.loads (before_in s o) new (Invoke c k args) now None → AreGoing s new now None
  of_open now new h b e =
      subst (λ (x : Begun). IsGoing x.loads (entry_of s (key_of x.call)) new x.call now None) (same_begun b e) (subst (λ x. IsGoing o.loads (before_in s o) new x now None) (sym is) h)

  seen_as : (now : Option Done) (new : Machine) → running_in s new now None s.running ≡ call_in o.caller o.number o.loads (before_in s o) new (Invoke c k args) now None
  seen_as now new = ap (running_in s new now None) (sym runs) ∙ ap (λ x. call_in o.caller o.number o.loads (before_in s o) new x now None) is

  first_seen : running_in s m done asked s.running ≡ call_in o.caller o.number o.loads (before_in s o) m (Invoke c k args) None None
  first_seen = (λ i. running_in s m (way.0 i) (way.1 i) s.running) ∙ seen_as None m

  -- The running call that the seat shows.
  seen_old : running_in s m done asked s.running ≡ Some (running_call o.caller o.number (Invoke c k args) (Working c way.2.state))
  seen_old = first_seen ∙ ap (λ x. option_map (running_call o.caller o.number (Invoke c k args)) (option_map (λ s. Working c s) x)) way.2.is

  asked_seen : asked_on (Some (running_in s m done asked s.running)) ≡ world.asked_by (Working c way.2.state)
  asked_seen = ap (λ r. asked_on (Some r)) seen_old

  pub key_is : k ≡ m.key
  key_is = sym (ap (λ (i : Invocation). i.key) way.2.call_is) ∙ ap (λ (i : Invocation). i.key) way.2.running.state.at.rest.call

  -- The loader gives the answer that the machine recorded for its key.
  pub given_before : (gives : ℤ → LoadAnswer → Type 0) → AnswerIsGiven gives (running_in s m done asked s.running) → IsGiven gives m.key m.entry.now.asked
  given_before gives h =
      let state = way.2.state in
      let rest = way.2.running.state.at.rest in
      let key : k ≡ m.key = sym (ap (λ (i : Invocation). i.key) way.2.call_is) ∙ ap (λ (i : Invocation). i.key) rest.call in
      let answer : state.now.asked ≡ m.entry.now.asked = ap (λ (n : EntryNow). n.asked) rest.now in
      subst (λ (x : ℤ × Option LoadAnswer). IsGiven gives x.0 x.1) (λ i. (key i, answer i)) (subst (AnswerIsGiven gives) seen_old h)

  module _ (gives : ℤ → LoadAnswer → Type 0) (new : Machine) (steps : (x : State) → IsRunningWith loads c x m → StepsOn gives c x going.Going new) (counted : IsCounted c new) where
    pub next : StepsOn gives c way.2.state going.Going new
    next = steps way.2.state asks_or_not

    called : next.1.call ≡ invocation o.loads k args (before_in s o)
    called = next.4 ∙ way.2.call_is

    after : state_in c (invocation o.loads k args (before_in s o)) (known new.entry.now.asked) new.steps ≡ Some next.1
    after = subst (λ x. state_in c x (known new.entry.now.asked) new.steps ≡ Some next.1) called (counted next.1 next.5)

    seen_new : running_in s new done asked s.running ≡ call_in o.caller o.number o.loads (before_in s o) new (Invoke c k args) None None
    seen_new = (λ i. running_in s new (way.0 i) (way.1 i) s.running) ∙ seen_as None new

    pub goes_on : AreGoing s new done asked
    goes_on =
        subst (λ (x : Option Done × Option LoadAnswer). AreGoing s new x.0 x.1) (λ i. (sym way.0 i, sym way.1 i))
        (of_open None new (working c k args (record { state = next.1; call_is = called; is = after; running = next.5 })))

    pub goes_turned : Turns gives (running_in s m done asked s.running) (running_in s new done asked s.running)
    goes_turned = (
      next.0,
      subst (MayAnswer gives next.0) (sym asked_seen) next.2,
      seen_new ∙ sym (turned_goes o.caller o.number o.loads (before_in s o) c k args m new way.2 next.0 next.1 next.3 after) ∙ ap (turned next.0) (sym first_seen),
    )

    seen_next : running_in s new done asked s.running ≡ Some (running_call o.caller o.number (Invoke c k args) (Working c next.1))
    seen_next = seen_new ∙ ap (λ x. option_map (running_call o.caller o.number (Invoke c k args)) (option_map (λ s. Working c s) x)) after

    pub goes_nearer : new.steps ≡ suc m.steps → new.steps ≤ step_limit Third → turns_on (Some (running_in s new done asked s.running)) < turns_on (Some (running_in s m done asked s.running))
    goes_nearer counts few =
        let is : turns_on (Some (running_in s new done asked s.running)) ≡ (step_limit Third - next.1.steps) + 2 = ap (λ r. turns_on (Some r)) seen_next in
        let was : turns_on (Some (running_in s m done asked s.running)) ≡ (step_limit Third - way.2.state.steps) + 2 = ap (λ r. turns_on (Some r)) seen_old in
        let now = next.5.state.at.rest.steps in
        let before = way.2.running.state.at.rest.steps in
        omega (arith, is, was, now, before, counts, few)

    goes_given : IsGiven gives k next.1.now.asked → AnswerIsGiven gives (running_in s new done asked s.running)
    goes_given h = subst (AnswerIsGiven gives) (sym seen_next) h

    pub goes_answered : KeepsGiven gives m new → new.key ≡ m.key → AnswerIsGiven gives (running_in s m done asked s.running) → AnswerIsGiven gives (running_in s new done asked s.running)
    goes_answered kept key h =
        let answer : new.entry.now.asked ≡ next.1.now.asked = sym (ap (λ (n : EntryNow). n.asked) next.5.state.at.rest.now) in
        goes_given (subst (λ (x : ℤ × Option LoadAnswer). IsGiven gives x.0 x.1) (λ i. ((key ∙ sym key_is) i, answer i)) (kept (given_before gives h)))

  module _ (gives : ℤ → LoadAnswer → Type 0) (new : Machine) (d : Done) (steps : (x : State) → IsRunningWith loads c x m → StepsOn gives c x (going.Ended d) new) where
    last : StepsOn gives c way.2.state (going.Ended d) new
    last = steps way.2.state asks_or_not

    told : IsFinal d (before_in s o) last.1
    told = subst (λ (v : Invocation). IsFinal d v.before last.1) way.2.call_is last.5

    pub ends : AreGoing s new (Some d) asked
    ends =
        subst (λ x. AreGoing s new (Some d) x) (sym way.1)
        (of_open (Some d) new (ended c k args d (record { final = last.1; means = subst (λ v. Means c v last.1) way.2.call_is last.4; told = told })))

    seen_ended : running_in s new (Some d) asked s.running ≡ call_in o.caller o.number o.loads (before_in s o) new (Invoke c k args) (Some d) None
    seen_ended = ap (λ x. running_in s new (Some d) x s.running) way.1 ∙ seen_as (Some d) new

    pub ends_turned : ((b now : Entry) → after_effect (effect b now) b ≡ now) → Turns gives (running_in s m done asked s.running) (running_in s new (Some d) asked s.running)
    ends_turned leads = (
      last.0,
      subst (MayAnswer gives last.0) (sym asked_seen) last.2,
      seen_ended ∙ sym (turned_ends o.caller o.number o.loads (before_in s o) c k args m new way.2 d last.0 last.1 last.3 told leads) ∙ ap (turned last.0) (sym first_seen),
    )

    pub ends_nearer : turns_on (Some (running_in s new (Some d) asked s.running)) < turns_on (Some (running_in s m done asked s.running))
    ends_nearer =
        let is : turns_on (Some (running_in s new (Some d) asked s.running)) ≡ 1 = ap (λ r. turns_on (Some r)) seen_ended in
        let was : turns_on (Some (running_in s m done asked s.running)) ≡ (step_limit Third - way.2.state.steps) + 2 = ap (λ r. turns_on (Some r)) seen_old in
        omega (arith, is, was)

    ends_given : IsGiven gives k d.asked → AnswerIsGiven gives (running_in s new (Some d) asked s.running)
    ends_given h = subst (AnswerIsGiven gives) (sym seen_ended) h

    pub ends_answered : KeepsGiven gives m new → new.key ≡ m.key → d.asked ≡ new.entry.now.asked → AnswerIsGiven gives (running_in s m done asked s.running) → AnswerIsGiven gives (running_in s new (Some d) asked s.running)
    ends_answered kept key answer h = ends_given (subst (λ (x : ℤ × Option LoadAnswer). IsGiven gives x.0 x.1) (λ i. ((key ∙ sym key_is) i, sym answer i)) (kept (given_before gives h)))

-- ---- the start of an invocation

module _ (old new : Kept) (b : Begun) (is : new ≡ begun old b) (same : (k : ℤ) → entry_of new k ≡ entry_of old k) (c : Class) (k : ℤ) (args : List Arg) (call_is : b.call ≡ Invoke c k args) (m : Machine)
    (h : IsStarted c (invocation b.loads k args (entry_of old (key_of b.call))) m) where
  zero_steps : m.steps ≡ 0
  zero_steps = sym h.running.state.at.rest.steps ∙ start_zero c (invocation b.loads k args (entry_of old (key_of b.call))) h.state h.starts

  first : state_in c (invocation b.loads k args (entry_of old (key_of b.call))) (known m.entry.now.asked) m.steps ≡ Some h.state
  first =
      ap (state_in c (invocation b.loads k args (entry_of old (key_of b.call))) (known m.entry.now.asked)) zero_steps
      ∙ first_state c (invocation b.loads k args (entry_of old (key_of b.call))) (known m.entry.now.asked) h.state h.starts

  pub start_going : AreGoing new m None None
  start_going x e =
      subst (λ (y : Begun). IsGoing y.loads (entry_of new (key_of y.call)) m y.call None None) (this x (sym (ap (λ (s : Kept). s.running) is) ∙ e))
      (subst (λ v. IsGoing b.loads v m b.call None None) (sym (same (key_of b.call)))
      (subst (λ y. IsGoing b.loads (entry_of old (key_of b.call)) m y None None) (sym call_is)
      (working c k args (record { state = h.state; call_is = h.call_is; is = first; running = h.running }))))
    where
      this : (x : Begun) → Some b ≡ Some x → b ≡ x
      this x q = cc q

  start_seen : running_in new m None None new.running ≡ Some (running_call b.caller b.number b.call (Working c h.state))
  start_seen =
      ap (running_in new m None None) (ap (λ (s : Kept). s.running) is)
      ∙ ap (λ v. option_map (running_call b.caller b.number b.call) (progress_in b.loads v m b.call None None)) (same (key_of b.call))
      ∙ ap (λ y. option_map (running_call b.caller b.number b.call) (progress_in b.loads (entry_of old (key_of b.call)) m y None None)) call_is
      ∙ ap (λ o. option_map (running_call b.caller b.number b.call) (option_map (λ s. Working c s) o)) first

  pub start_begun : (a : LoadAnswer) (running : Option Running) → IsBegun a (record { stripe = old; running = running }) b (record { stripe = new; running = running_in new m None None new.running })
  start_begun a running =
      record {
        progress = Working c h.state;
        is = ap (progress_of b.loads a (entry_of old (key_of b.call))) call_is ∙ ap (world.begun c) h.starts;
        stripe = is;
        entries = same;
        running = start_seen;
      }

  -- A new invocation has no recorded answer.
  pub start_given : (gives : ℤ → LoadAnswer → Type 0) → m.entry.now.asked ≡ None → AnswerIsGiven gives (running_in new m None None new.running)
  start_given gives none =
      subst (AnswerIsGiven gives) (sym start_seen)
      (subst (λ o. IsGiven gives (key_of b.call) o) (sym (ap (λ (n : EntryNow). n.asked) h.running.state.at.rest.now ∙ none)) tt)

  pub start_starts : (gives : ℤ → LoadAnswer → Type 0) → m.entry.now.asked ≡ None → (running : Option Running)
      → Starts gives (record { stripe = old; running = running }) b (record { stripe = new; running = running_in new m None None new.running })
  start_starts gives none running = (load.None, subst (λ x. MayAnswer gives load.None (asked_by_get b.loads (entry_of old (key_of b.call)) x)) (sym call_is) tt, start_begun load.None running, start_given gives none)

-- ---- the start of another call

module _ (old new : Kept) (b : Begun) (is : new ≡ begun old b) (same : (k : ℤ) → entry_of new k ≡ entry_of old k) (m : Machine) (asked : Option LoadAnswer) where
  pub other_going : IsGoing b.loads (entry_of old (key_of b.call)) m b.call None asked → AreGoing new m None asked
  other_going h x e =
      subst (λ (y : Begun). IsGoing y.loads (entry_of new (key_of y.call)) m y.call None asked) (this x (sym (ap (λ (s : Kept). s.running) is) ∙ e))
      (subst (λ v. IsGoing b.loads v m b.call None asked) (sym (same (key_of b.call))) h)
    where
      this : (x : Begun) → Some b ≡ Some x → b ≡ x
      this x q = cc q

  pub seen_other : (q : Progress) → progress_in b.loads (entry_of old (key_of b.call)) m b.call None asked ≡ Some q → running_in new m None asked new.running ≡ Some (running_call b.caller b.number b.call q)
  seen_other q in_it =
      ap (running_in new m None asked) (ap (λ (s : Kept). s.running) is)
      ∙ ap (λ v. option_map (running_call b.caller b.number b.call) (progress_in b.loads v m b.call None asked)) (same (key_of b.call))
      ∙ ap (option_map (running_call b.caller b.number b.call)) in_it

  pub other_begun : (a : LoadAnswer) (q : Progress) (running : Option Running) → progress_in b.loads (entry_of old (key_of b.call)) m b.call None asked ≡ Some q → progress_of b.loads a (entry_of old (key_of b.call)) b.call ≡ Some q
      → IsBegun a (record { stripe = old; running = running }) b (record { stripe = new; running = running_in new m None asked new.running })
  other_begun a q running in_it of_it =
      record {
        progress = q;
        is = of_it;
        stripe = is;
        entries = same;
        running = seen_other q in_it;
      }
