-- The start of a `get`, or of another call that is no invocation.
use Rattle.std.proofs.Common.{◌≡◌, ℤ, Bool, true, false, List, Option, Some, None, is_some, refl, sym, ap, subst, ◌∙◌, true≢false}
use Rattle.jtypes.specs.declared.loader.LoadAnswer.{LoadAnswer}
use Rattle.jtypes.specs.declared.loader.LoadAnswer.TheVariants as load
use Rattle.jtypes.specs.Entry.{Entry}
use Rattle.jtypes.specs.Loading.{IsGiven}
use Rattle.interpreter.specs.declared.machine.Machine.{Machine}
use Rattle.stripe.specs.History.{Call, Invoke, Get, Put, Remove, Contains, Begun, key_of}
use Rattle.stripe.specs.Kept.{Kept, IsAsked, IsPlain, entry_of, begun}
use Rattle.stripe.specs.declared.call.Reply.TheVariants as reply
use Rattle.world.specs.World.{Progress, Settled, Running, running_call, progress_of, got, answer_to, MayAnswer, asked_by_get}
use Rattle.world.specs.Seated.{AnswerIsGiven, IsBegun, Starts}
use Rattle.world.specs.Going.{known, got_by, progress_in, IsGoing, getting, putting, removing, containing}
use Rattle.world.specs.Seating.{running_in}
use Rattle.world.proofs.Calls.{got_answer}
use Rattle.world.proofs.Seats.{AreGoing, other_going, other_begun, seen_other}

-- ---- a get

got_known : (loads : Bool) (before : Entry) (asked : Option LoadAnswer) → IsAsked loads before asked → got loads (known asked) before ≡ got_by before asked
got_known true None None h = absurd (true≢false (sym h))
got_known true None (Some a) h = refl
got_known true (Some v) asked h = ap (got_by (Some v)) (sym h)
got_known false before asked h = ap (got_by before) (sym h)

may_answer : (gives : ℤ → LoadAnswer → Type 0) (loads : Bool) (before : Entry) (k : ℤ) (asked : Option LoadAnswer) → IsAsked loads before asked → IsGiven gives k asked → MayAnswer gives (known asked) (asked_by_get loads before (Get k))
may_answer gives true None k None h given = absurd (true≢false (sym h))
may_answer gives true None k (Some a) h given = given
may_answer gives true (Some v) k asked h given = tt
may_answer gives false before k asked h given = tt

module _ (gives : ℤ → LoadAnswer → Type 0) (old new : Kept) (b : Begun) (is : new ≡ begun old b) (same : (k : ℤ) → entry_of new k ≡ entry_of old k) (m : Machine) (running : Option Running) where
  module _ (k : ℤ) (call_is : b.call ≡ Get k) (asked : Option LoadAnswer) (told : IsAsked b.loads (entry_of old (key_of b.call)) asked) (given : IsGiven gives k asked) where
    pub get_going : AreGoing new m None asked
    get_going = other_going old new b is same m asked (subst (λ x. IsGoing b.loads (entry_of old (key_of b.call)) m x None asked) (sym call_is) (getting k asked told))

    abbrev found : Entry
    found = entry_of old (key_of b.call)

    get_is : IsBegun (known asked) (record { stripe = old; running = running }) b (record { stripe = new; running = running_in new m None asked new.running })
    get_is =
        other_begun old new b is same m asked (known asked) (got_by found asked) running
        (ap (λ x. progress_in b.loads found m x None asked) call_is)
        (ap (λ x. progress_of b.loads (known asked) found x) call_is ∙ ap Some (got_known b.loads found asked told))

    -- The running call that the seat shows.
    get_seen : running_in new m None asked new.running ≡ Some (running_call b.caller b.number b.call (got_by found asked))
    get_seen = seen_other old new b is same m asked (got_by found asked) (ap (λ x. progress_in b.loads found m x None asked) call_is)

    pub get_starts : Starts gives (record { stripe = old; running = running }) b (record { stripe = new; running = running_in new m None asked new.running })
    get_starts = (
      known asked,
      subst (λ x. MayAnswer gives (known asked) (asked_by_get b.loads found x)) (sym call_is) (may_answer gives b.loads found k asked told given),
      get_is,
      subst (AnswerIsGiven gives) (sym get_seen)
          (subst (λ x. IsGiven gives (key_of x) (answer_to (got_by found asked))) (sym call_is) (subst (IsGiven gives k) (sym (got_answer found asked)) given)),
    )

  -- ---- another call

  plain_going : (call : Call) → IsPlain call → IsGoing b.loads (entry_of old (key_of b.call)) m call None None
  plain_going (Invoke c k args) p = absurd p
  plain_going (Get k) p = absurd p
  plain_going (Put k v) p = putting k v
  plain_going (Remove k) p = removing k
  plain_going (Contains k) p = containing k

  pub other_goes : IsPlain b.call → AreGoing new m None None
  other_goes p = other_going old new b is same m None (plain_going b.call p)

  some_progress : (before : Entry) (call : Call) → IsPlain call → (q : Progress) × (progress_in b.loads before m call None None ≡ Some q) × (progress_of b.loads load.None before call ≡ Some q)
  some_progress before (Invoke c k args) p = absurd p
  some_progress before (Get k) p = absurd p
  some_progress before (Put k v) p = (_, refl, refl)
  some_progress before (Remove k) p = (_, refl, refl)
  some_progress before (Contains k) p = (_, refl, refl)

  may_plain : (before : Entry) (call : Call) → IsPlain call → MayAnswer gives load.None (asked_by_get b.loads before call)
  may_plain before (Invoke c k args) p = absurd p
  may_plain before (Get k) p = absurd p
  may_plain before (Put k v) p = tt
  may_plain before (Remove k) p = tt
  may_plain before (Contains k) p = tt

  plain_given : (before : Entry) (call : Call) → IsPlain call → (q : Progress) → progress_of b.loads load.None before call ≡ Some q → AnswerIsGiven gives (Some (running_call b.caller b.number call q))
  plain_given before (Invoke c k args) p q e = absurd p
  plain_given before (Get k) p q e = absurd p
  plain_given before (Put k v) p q e =
      let same : Settled reply.Done (Some v) None ≡ q = cc e in subst (λ x. AnswerIsGiven gives (Some (running_call b.caller b.number (Put k v) x))) same tt
  plain_given before (Remove k) p q e =
      let same : Settled (reply.Flag (is_some before)) None None ≡ q = cc e in subst (λ x. AnswerIsGiven gives (Some (running_call b.caller b.number (Remove k) x))) same tt
  plain_given before (Contains k) p q e =
      let same : Settled (reply.Flag (is_some before)) before None ≡ q = cc e in subst (λ x. AnswerIsGiven gives (Some (running_call b.caller b.number (Contains k) x))) same tt

  pub other_starts : IsPlain b.call → Starts gives (record { stripe = old; running = running }) b (record { stripe = new; running = running_in new m None None new.running })
  other_starts p =
      let before = entry_of old (key_of b.call) in
      let q = some_progress before b.call p in (
        load.None,
        may_plain before b.call p,
        other_begun old new b is same m None load.None q.0 running q.1 q.2,
        subst (AnswerIsGiven gives) (sym (seen_other old new b is same m None q.0 q.1)) (plain_given before b.call p q.0 q.2),
      )
