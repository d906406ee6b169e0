-- Each round of calls can be answered.
use Rattle.std.proofs.Common.{◌≡◌, ◌⊎◌, ℤ, zero, suc, Bool, true, false, List, [], ◌∷◌, ◌++◌, Option, Some, None, refl, sym, ap, subst, inl, inr, ⊎_elim}
use Rattle.std.specs.Prelude.{is_some, unwrap_or}
use Rattle.std.proofs.lemmas.List.Elements.{All-nil, All-cons}
use Rattle.std.proofs.lemmas.List.Sorted.{IsPermutation-refl}
use Rattle.jtypes.specs.declared.loader.LoadAnswer.{LoadAnswer}
use Rattle.jtypes.specs.Entry.{Entry}
use Rattle.jtypes.specs.Loading.{IsGiven}
use Rattle.stripe.specs.declared.call.Reply.{Reply as Answer}
use Rattle.stripe.specs.declared.call.Reply.TheVariants.{Value, Flag}
use Rattle.stripe.specs.History.{Call, Invoke, Get, Put, Remove, Contains, Record, Entries, Answers, entries_after, key_of}
use Rattle.stripe.specs.Kept.{may_make}
use Rattle.round_outcome.specs.Outcome.{IsDone, IsHistoryOf, AreRefused, answered}
use Rattle.round_outcome.proofs.Handed.{histories_follow}

-- A `get` may create an entry, or has the entry as its reply.
got : (loads : Bool) (before : Entry) (k : ℤ) → (may_make loads (Get k) ≡ true) ⊎ Answers loads before (Get k) (Value before) before None
got true before k = inl refl
got false None k = inr (refl, refl, refl)
got false (Some n) k = inr (refl, refl, refl)

more_answered : (c : Call) (cs : List Call) (a : Option Answer) (rest : List (Option Answer)) → answered (c ∷ cs) (a ∷ rest) ≡ answered (c ∷ []) (a ∷ []) ++ answered cs rest
more_answered c cs (Some r) rest = refl
more_answered c cs None rest = refl

more_refused : (loads : Bool) (c : Call) (cs : List Call) (a : Option Answer) (rest : List (Option Answer)) → (a ≡ None → may_make loads c ≡ true) → AreRefused loads cs rest → AreRefused loads (c ∷ cs) (a ∷ rest)
more_refused loads c cs a rest may others zero call is none =
    subst (λ (x : Call). may_make loads x ≡ true) (ap (λ (o : Option Call). unwrap_or o c) is) (may (ap (λ (o : Option (Option Answer)). unwrap_or o a) none))
more_refused loads c cs a rest may others (suc k) call is none = others k call is none

module _ (loads : Bool) (gives : ℤ → LoadAnswer → Type 0) where
  -- A call that is answered, or may create an entry and is refused.
  record OneMade (before : Entries) (c : Call) : Type 0 where
    answer : Option Answer
    after : Entries
    history : List Record
    is : IsHistoryOf loads gives before (answered (c ∷ []) (answer ∷ [])) after history
    refused : answer ≡ None → may_make loads c ≡ true

  abbrev Given : Record → Type 0
  Given r = IsGiven gives (key_of r.call) r.asked

  one_refused : (before : Entries) (c : Call) → may_make loads c ≡ true → OneMade before c
  one_refused before c may = record {
    answer = None;
    after = before;
    history = [];
    is = record { legal = tt; given = All-nil Given; once = IsPermutation-refl []; left = λ k. refl };
    refused = λ _. may;
  }

  one_answered : (before : Entries) (c : Call) (reply : Answer) (after : Entry) → Answers loads (before (key_of c)) c reply after None → OneMade before c
  one_answered before c reply after ok =
      let r : Record = record { caller = 0; number = 0; call = c; reply = reply; after = after; asked = None } in record {
        answer = Some reply;
        after = entries_after before (r ∷ []);
        history = r ∷ [];
        is = record { legal = (ok, tt); given = All-cons Given r [] tt (All-nil Given); once = IsPermutation-refl ((c, reply) ∷ []); left = λ k. refl };
        refused = λ e. absurd (cc);
      }

  one_made : (before : Entries) (c : Call) → OneMade before c
  one_made before (Invoke c k args) = one_refused before (Invoke c k args) refl
  one_made before (Put k v) = one_refused before (Put k v) refl
  one_made before (Get k) = ⊎_elim
      (λ (may : may_make loads (Get k) ≡ true). one_refused before (Get k) may)
      (λ (ok : Answers loads (before k) (Get k) (Value (before k)) (before k) None). one_answered before (Get k) (Value (before k)) (before k) ok)
      (got loads (before k) k)
  one_made before (Remove k) = one_answered before (Remove k) (Flag (is_some (before k))) None (refl, refl, refl)
  one_made before (Contains k) = one_answered before (Contains k) (Flag (is_some (before k))) (before k) (refl, refl, refl)

  -- A done round of these calls.
  pub record AllMade (before : Entries) (calls : List Call) : Type 0 where
    pub answers : List (Option Answer)
    pub after : Entries
    pub done : IsDone loads gives before calls answers after

  pub all_made : (calls : List Call) (before : Entries) → AllMade before calls
  all_made [] before = record {
    answers = [];
    after = before;
    done = record {
      count = refl;
      refused = λ k c is none. absurd (cc);
      history = [];
      is = record { legal = tt; given = All-nil Given; once = IsPermutation-refl []; left = λ k. refl };
    };
  }
  all_made (c ∷ cs) before =
      let one = one_made before c in
      let rest = all_made cs one.after in
      let first = answered (c ∷ []) (one.answer ∷ []) in
      let others = answered cs rest.answers in record {
        answers = one.answer ∷ rest.answers;
        after = rest.after;
        done = record {
          count = ap suc rest.done.count;
          refused = more_refused loads c cs one.answer rest.answers one.refused rest.done.refused;
          history = one.history ++ rest.done.history;
          is = subst (λ made. IsHistoryOf loads gives before made rest.after (one.history ++ rest.done.history)) (sym (more_answered c cs one.answer rest.answers))
              (histories_follow loads gives before one.after rest.after first others one.history rest.done.history one.is rest.done.is);
        };
      }
