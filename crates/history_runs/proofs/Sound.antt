-- The finished calls of a run are a legal history.
use Rattle.std.proofs.Common.{arith, ◌⊎◌, ◌≡◌, ℕ, zero, suc, ℤ, Bool, true, false, inl, inr, List, [], ◌∷◌, length, replicate, All, Option, Some, None, slice_get, if◌then◌else◌, refl, sym, ap, subst, ◌∙◌}
use Rattle.std.proofs.lemmas.Option.{slice_get_within}
use Rattle.std.proofs.lemmas.List.Elements.{All-append}
use Rattle.jtypes.specs.declared.types.Arg.{Arg}
use Rattle.jtypes.specs.declared.loader.LoadAnswer.{LoadAnswer}
use Rattle.jtypes.specs.Entry.{Entry}
use Rattle.jtypes.specs.Lists.{only_if}
use Rattle.jtypes.specs.Loading.{IsGiven}
use Rattle.typecheck.specs.Typing.{Class}
use Rattle.verdict.specs.Machine.{Invocation, State, Next, Goes, Ends, start, asks, step_with, Reaches, here, onward}
use Rattle.soundness.proofs.OneMeaning.{goes_after, ends_after, same_call, starts_unasked}
use Rattle.stripe.specs.declared.call.Reply.{Reply}
use Rattle.stripe.specs.declared.call.Reply.TheVariants.{Result}
use Rattle.stripe.specs.History.{Call, Invoke, Get, Put, Remove, Contains, Record, Answers, IsLegal, AreGiven, key_of, stripe_of, invocation, entries_after}
use Rattle.stripe.specs.Stored.{Stored, entry_among}
use Rattle.world.specs.World.{World, Running, Progress, Working, Settled, asked_by, Event, Start, Step, Finish, Runs, none, more, Happens, MayAnswer, opened, opening_entries, entries_now, stripe_in, starts_of, begun, progress_of, progress_after, running_call, with_progress, with_running, with_record, record_of_call, answer_to, asked_by_get, asked_at_start, asked_on, after_start, after_begin, after_step, stepped, after_finish, finished}
use Rattle.world.specs.Lawful.{IsLawful}
use Rattle.world.proofs.Places.{get_set_cases}
use Rattle.world.proofs.Histories.{entry_elsewhere, legal_more}
use Rattle.world.proofs.Lawful.{is_lawful}

-- ---- one call

-- The progress of a call on the entry `before`: a state that its invocation reaches, or an answer.
abbrev pub IsDoing : Bool → Entry → Call → Progress → Type 0
IsDoing loads before call (Working c s) =
    (k : ℤ) × (args : List Arg) × (begin : State) × (call ≡ Invoke c k args) × (start c (invocation loads k args before) ≡ Some begin) × Reaches c begin s
IsDoing loads before call (Settled reply after asked) = Answers loads before call reply after asked

module _ (gives : ℤ → LoadAnswer → Type 0) (loads : Bool) (before : Entry) where
  some_doing : (call : Call) (p q : Progress) → IsDoing loads before call p → Some p ≡ Some q → IsDoing loads before call q
  some_doing call p q h e = let same : p ≡ q = cc e in subst (IsDoing loads before call) same h

  begun_doing : (c : Class) (k : ℤ) (args : List Arg) (o : Option State) (p : Progress) → start c (invocation loads k args before) ≡ o → begun c o ≡ Some p → IsDoing loads before (Invoke c k args) p
  begun_doing c k args None p is e = absurd (cc)
  begun_doing c k args (Some s) p is e = some_doing (Invoke c k args) (Working c s) p (k, args, s, refl, is, here) e

  begun_given : (c : Class) (k : ℤ) (args : List Arg) (o : Option State) (p : Progress) → start c (invocation loads k args before) ≡ o → begun c o ≡ Some p → IsGiven gives k (answer_to p)
  begun_given c k args None p is e = absurd (cc)
  begun_given c k args (Some s) p is e =
      let same : Working c s ≡ p = cc e in
      subst (λ q. IsGiven gives k (answer_to q)) same (subst (IsGiven gives k) (sym (starts_unasked c (invocation loads k args before) s is).1) tt)

got_doing : (loads : Bool) (before : Entry) (a : LoadAnswer) (k : ℤ) (p : Progress) → progress_of loads a before (Get k) ≡ Some p → IsDoing loads before (Get k) p
got_doing true None a k p e = some_doing (λ k a. Unit {0}) true None (Get k) _ p (a, refl, refl, refl) e
got_doing true (Some v) a k p e = some_doing (λ k a. Unit {0}) true (Some v) (Get k) _ p (refl, refl, refl) e
got_doing false before a k p e = some_doing (λ k a. Unit {0}) false before (Get k) _ p (refl, refl, refl) e

some_given : (gives : ℤ → LoadAnswer → Type 0) (k : ℤ) (p q : Progress) → IsGiven gives k (answer_to p) → Some p ≡ Some q → IsGiven gives k (answer_to q)
some_given gives k p q h e = let same : p ≡ q = cc e in subst (λ x. IsGiven gives k (answer_to x)) same h

got_given : (gives : ℤ → LoadAnswer → Type 0) (loads : Bool) (before : Entry) (a : LoadAnswer) (k : ℤ) (p : Progress) → MayAnswer gives a (asked_by_get loads before (Get k)) → progress_of loads a before (Get k) ≡ Some p → IsGiven gives k (answer_to p)
got_given gives true None a k p may e = some_given gives k _ p may e
got_given gives true (Some v) a k p may e = some_given gives k _ p tt e
got_given gives false before a k p may e = some_given gives k _ p tt e

module _ (gives : ℤ → LoadAnswer → Type 0) (loads : Bool) (before : Entry) where
  starts_doing : (a : LoadAnswer) (call : Call) (p : Progress) → progress_of loads a before call ≡ Some p → IsDoing loads before call p
  starts_doing a (Invoke c k args) p e = begun_doing gives loads before c k args (start c (invocation loads k args before)) p refl e
  starts_doing a (Get k) p e = got_doing loads before a k p e
  starts_doing a (Put k v) p e = some_doing gives loads before (Put k v) _ p (refl, refl, refl) e
  starts_doing a (Remove k) p e = some_doing gives loads before (Remove k) _ p (refl, refl, refl) e
  starts_doing a (Contains k) p e = some_doing gives loads before (Contains k) _ p (refl, refl, refl) e

  starts_given : (a : LoadAnswer) (call : Call) (p : Progress) → MayAnswer gives a (asked_by_get loads before call) → progress_of loads a before call ≡ Some p → IsGiven gives (key_of call) (answer_to p)
  starts_given a (Invoke c k args) p may e = begun_given gives loads before c k args (start c (invocation loads k args before)) p refl e
  starts_given a (Get k) p may e = got_given gives loads before a k p may e
  starts_given a (Put k v) p may e = some_given gives k _ p tt e
  starts_given a (Remove k) p may e = some_given gives k _ p tt e
  starts_given a (Contains k) p may e = some_given gives k _ p tt e

  -- A reached state has the key of its call.
  pub key_kept : (c : Class) (k : ℤ) (args : List Arg) (begin s : State) → start c (invocation loads k args before) ≡ Some begin → Reaches c begin s → s.call.key ≡ k
  key_kept c k args begin s is reached = ap (λ (i : Invocation). i.key) (same_call c begin s reached ∙ (starts_unasked c (invocation loads k args before) begin is).0)

  steps_doing : (call : Call) (c : Class) (s : State) (a : LoadAnswer) → IsDoing loads before call (Working c s) → IsDoing loads before call (progress_after c s (step_with c a s))
  steps_doing call c s a h = by (step_with c a s) refl
    where
      by : (o : Option Next) → step_with c a s ≡ o → IsDoing loads before call (progress_after c s o)
      by None e = h
      by (Some (Goes t)) e = let (k, args, begin, is, starts, reached) = h in (k, args, begin, is, starts, onward a reached e)
      by (Some (Ends f)) e =
          let (k, args, begin, is, starts, reached) = h in
          subst (λ x. Answers loads before x (Result f.outcome) f.entry f.asked) (sym is)
          (f, record { begin = begin; last = s; answer = a; starts = starts; reached = reached; ends = e }, refl, refl, refl)

  answer_given : (k key : ℤ) (a : LoadAnswer) (b : Bool) (asked : Option LoadAnswer) → key ≡ k → MayAnswer gives a (only_if b (Some key)) → IsGiven gives k asked → IsGiven gives k (if b then Some a else asked)
  answer_given k key a true asked same may given = subst (λ x. gives x a) same may
  answer_given k key a false asked same may given = given

  steps_given : (call : Call) (c : Class) (s : State) (a : LoadAnswer) → IsDoing loads before call (Working c s) → MayAnswer gives a (only_if (asks c s) (Some s.call.key)) → IsGiven gives (key_of call) s.now.asked
      → IsGiven gives (key_of call) (answer_to (progress_after c s (step_with c a s)))
  steps_given call c s a (k, args, begin, is, starts, reached) may given = by (step_with c a s) refl
    where
      now : IsGiven gives (key_of call) (if asks c s then Some a else s.now.asked)
      now = answer_given (key_of call) s.call.key a (asks c s) s.now.asked (key_kept c k args begin s starts reached ∙ sym (ap key_of is)) may given

      by : (o : Option Next) → step_with c a s ≡ o → IsGiven gives (key_of call) (answer_to (progress_after c s o))
      by None e = given
      by (Some (Goes t)) e = subst (IsGiven gives (key_of call)) (sym (goes_after c s t a (asks c s) e)) now
      by (Some (Ends f)) e = subst (IsGiven gives (key_of call)) (sym (ends_after c s f a (asks c s) e)) now

-- ---- all calls

-- The running call is on its stripe, on the entry that the finished calls leave.
pub record IsFine (gives : ℤ → LoadAnswer → Type 0) (w : World) (i : ℕ) (r : Running) : Type 0 where
  pub stripe : stripe_in w r.call ≡ i
  pub doing : IsDoing w.loads (entries_now w (key_of r.call)) r.call r.progress
  pub given : IsGiven gives (key_of r.call) (answer_to r.progress)

pub record AreFine (gives : ℤ → LoadAnswer → Type 0) (loads : Bool) (opening : List Stored) (w : World) : Type 0 where
  pub loads_is : w.loads ≡ loads
  pub opening_is : w.opening ≡ opening
  pub legal : IsLegal w.loads (opening_entries w) w.finished
  pub given : AreGiven gives w.finished
  pub running : (i : ℕ) (r : Running) → slice_get w.running i ≡ Some (Some r) → IsFine gives w i r

module _ (gives : ℤ → LoadAnswer → Type 0) (loads : Bool) (opening : List Stored) (w : World) (h : AreFine gives loads opening w) where
  abbrev Fine : World → Type 0
  Fine = AreFine gives loads opening

  with_fine : (i : ℕ) (o : Option Running) (r : Running) → slice_get w.running i ≡ Some o → IsFine gives w i r → Fine (with_running w i (Some r))
  with_fine i o r there fine =
      record {
        loads_is = h.loads_is;
        opening_is = h.opening_is;
        legal = h.legal;
        given = h.given;
        running = λ j x e. let f = by j x (get_set_cases w.running i j (Some r) (Some x) (slice_get_within w.running i o there) e) in record { stripe = f.stripe; doing = f.doing; given = f.given };
      }
    where
      by : (j : ℕ) (x : Running) → ((j ≡ i) × (Some x ≡ Some r)) ⊎ ((¬ (j ≡ i)) × (slice_get w.running j ≡ Some (Some x))) → IsFine gives w j x
      by j x (inl (at, same)) = let is : r ≡ x = cc same in subst (λ n. IsFine gives w n x) (sym at) (subst (IsFine gives w i) is fine)
      by j x (inr (other, e)) = h.running j x e

  fine_start : (a : LoadAnswer) (caller : ℕ) (call : Call) (o : Option (Option Running)) → slice_get w.running (stripe_in w call) ≡ o → MayAnswer gives a (asked_at_start w call o) → Fine (after_start a w caller call o)
  fine_start a caller call None e may = h
  fine_start a caller call (Some (Some r)) e may = h
  fine_start a caller call (Some None) e may = by (progress_of w.loads a (entries_now w (key_of call)) call) refl
    where
      by : (p : Option Progress) → progress_of w.loads a (entries_now w (key_of call)) call ≡ p → Fine (after_begin w caller call p)
      by None is = h
      by (Some p) is =
          with_fine (stripe_in w call) None (running_call caller (starts_of w caller) call p) e
          (record { stripe = refl; doing = starts_doing gives w.loads (entries_now w (key_of call)) a call p is; given = starts_given gives w.loads (entries_now w (key_of call)) a call p may is })

  fine_step : (a : LoadAnswer) (i : ℕ) (o : Option (Option Running)) → slice_get w.running i ≡ o → MayAnswer gives a (asked_on o) → Fine (after_step a w i o)
  fine_step a i None e may = h
  fine_step a i (Some None) e may = h
  fine_step a i (Some (Some r)) e may = by r.progress refl may
    where
      old : IsFine gives w i r
      old = h.running i r e

      by : (p : Progress) → r.progress ≡ p → MayAnswer gives a (asked_by p) → Fine (stepped a w i r p)
      by (Settled reply after asked) is m = h
      by (Working c s) is m =
          let doing : IsDoing w.loads (entries_now w (key_of r.call)) r.call (Working c s) = subst (IsDoing w.loads (entries_now w (key_of r.call)) r.call) is old.doing in
          let given : IsGiven gives (key_of r.call) s.now.asked = subst (λ q. IsGiven gives (key_of r.call) (answer_to q)) is old.given in
          with_fine i (Some r) (with_progress r (progress_after c s (step_with c a s))) e
          (record {
            stripe = old.stripe;
            doing = steps_doing gives w.loads (entries_now w (key_of r.call)) r.call c s a doing;
            given = steps_given gives w.loads (entries_now w (key_of r.call)) r.call c s a doing m given;
          })

  module _ (i : ℕ) (r : Running) (reply : Reply) (after : Entry) (asked : Option LoadAnswer) (e : slice_get w.running i ≡ Some (Some r)) (is : r.progress ≡ Settled reply after asked) where
    abbrev made : Record
    made = record_of_call r reply after asked

    old : IsFine gives w i r
    old = h.running i r e

    one : All (λ (z : Record). IsGiven gives (key_of z.call) z.asked) (made ∷ [])
    one zero d k = subst (λ q. IsGiven gives (key_of r.call) (answer_to q)) is old.given
    one (suc n) d k = absurd (omega (arith, k))

    other : (j : ℕ) (x : Running) → ¬ (j ≡ i) → IsFine gives w j x → IsFine gives (with_record w i made) j x
    other j x apart f =
        let same : entries_now (with_record w i made) (key_of x.call) ≡ entries_now w (key_of x.call) =
        entry_elsewhere (opening_entries w (key_of x.call)) w.finished made (key_of x.call) (λ q. apart (sym f.stripe ∙ ap (stripe_of (length w.opening)) (sym q) ∙ old.stripe)) in
        record { stripe = f.stripe; doing = subst (λ b. IsDoing w.loads b x.call x.progress) (sym same) f.doing; given = f.given }

    still : (j : ℕ) (x : Running) → ((j ≡ i) × (Some x ≡ None)) ⊎ ((¬ (j ≡ i)) × (slice_get w.running j ≡ Some (Some x))) → IsFine gives (with_record w i made) j x
    still j x (inl (at, same)) = absurd (cc)
    still j x (inr (apart, there)) = other j x apart (h.running j x there)

    fine_record : Fine (with_record w i made)
    fine_record =
        record {
          loads_is = h.loads_is;
          opening_is = h.opening_is;
          legal = legal_more w.loads (opening_entries w) made w.finished h.legal (subst (IsDoing w.loads (entries_now w (key_of r.call)) r.call) is old.doing);
          given = All-append (λ (z : Record). IsGiven gives (key_of z.call) z.asked) w.finished (made ∷ []) h.given one;
          running = λ j x there. still j x (get_set_cases w.running i j None (Some x) (slice_get_within w.running i (Some r) e) there);
        }

  fine_finish : (i : ℕ) (o : Option (Option Running)) → slice_get w.running i ≡ o → Fine (after_finish w i o)
  fine_finish i None e = h
  fine_finish i (Some None) e = h
  fine_finish i (Some (Some r)) e = by r.progress refl
    where
      by : (p : Progress) → r.progress ≡ p → Fine (finished w i r p)
      by (Working c s) is = h
      by (Settled reply after asked) is = fine_record i r reply after asked e is

  fine_event : (e : Event) (u : World) → Happens gives w e u → Fine u
  fine_event (Start caller call) u (a, may, is) = subst Fine (sym is) (fine_start a caller call (slice_get w.running (stripe_in w call)) refl may)
  fine_event (Step i) u (a, may, is) = subst Fine (sym is) (fine_step a i (slice_get w.running i) refl may)
  fine_event (Finish i) u (a, may, is) = subst Fine (sym is) (fine_finish i (slice_get w.running i) refl)

pub none_there : (n i : ℕ) (r : Running) → slice_get (replicate n None) i ≡ Some (Some r) → ⊥
none_there zero i r e = absurd (cc)
none_there (suc n) zero r e = absurd (cc)
none_there (suc n) (suc i) r e = none_there n i r e

module _ (gives : ℤ → LoadAnswer → Type 0) (loads : Bool) (opening : List Stored) (journal : ℕ) where
  fine_opened : AreFine gives loads opening (opened loads opening journal)
  fine_opened = record { loads_is = refl; opening_is = refl; legal = tt; given = λ q d k. absurd (omega (arith, k)); running = λ i r e. absurd (none_there (length opening) i r e) }

  pub fine_run : (events : List Event) (v : World) → Runs gives (opened loads opening journal) events v → AreFine gives loads opening v
  fine_run events v none = fine_opened
  fine_run events v (more {events = before} {v = u} e runs happens) = fine_event gives loads opening u (fine_run before u runs) e v happens

  pub runs_are_legal : (events : List Event) (w : World) → Runs gives (opened loads opening journal) events w → IsLawful loads opening w.finished (entries_now w) × AreGiven gives w.finished
  runs_are_legal events w runs =
      let f = fine_run events w runs in
      let legal : IsLegal loads (entry_among opening) w.finished = subst (λ b. IsLegal b (entry_among opening) w.finished) f.loads_is (subst (λ o. IsLegal w.loads (entry_among o) w.finished) f.opening_is f.legal) in
      (is_lawful loads opening w.finished (entries_now w) legal (λ k. ap (λ o. entries_after (entry_among o) w.finished k) f.opening_is), f.given)
