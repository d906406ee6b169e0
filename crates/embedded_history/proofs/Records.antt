-- The records of a conversation are a legal history.
use Rattle.std.proofs.Common.{◌≡◌, ◌≢◌, ◌⊎◌, inl, inr, ℤ, Bool, true, false, if◌then◌else◌, nat_le, List, [], ◌∷◌, ◌++◌, map, length, Some, None, refl, sym, ap, ◌∙◌, subst, le-leb}
use Rattle.std.proofs.lemmas.Option.{same_Some}
use Rattle.std.proofs.lemmas.Bool.Decides.{Decides-int_eq}
use Rattle.std.specs.Ordering.{int_eq}
use Rattle.jtypes.specs.Entry.{Entry, effect, after_effect}
use Rattle.jtypes.specs.Lists.{only_if}
use Rattle.jtypes.specs.declared.types.Arg.{Arg}
use Rattle.typecheck.specs.Typing.{Class}
use Rattle.soundness.proofs.OneMeaning.{means_unasked}
use Rattle.ended.specs.declared.done.Done.{Done}
use Rattle.ended.specs.Ended.{IsMeant}
use Rattle.stripe.specs.declared.call.Reply.TheVariants.{Result}
use Rattle.stripe.specs.History.{Call, Invoke, Record, Entries, key_of, entry_after, entries_after, Answers, IsLegalAfter}
use Rattle.embedded.specs.declared.numbers.DoneNumbers.{DoneNumbers}
use Rattle.embedded.specs.Classes.{class_at}
use Rattle.embedded.specs.Numbers.{args_in, before_in, invocation_in, done_in}
use Rattle.embedded.proofs.Ends.{is_run}
use Rattle.embedded_history.specs.Conversation.{Turn, HasAnswer, entry_by, entry_at_end, IsConversation, IsRunOf, IsNotRun, IsRecordOf, AreRecordsOf, no_calls, runs, runs_not}
use Rattle.embedded_history.specs.Statements.{ConversationsHaveRecords, ConversationsAreLegal, RecordsAreDetermined, EndsAreAnswers, said}
use Rattle.embedded_history.proofs.Exact.{outcomes_are_numbered, entry_by_done, effect_leads}
use Rattle.embedded_history.proofs.Runs.{HasEnd, end_of, ran, calls_that_are_not_run}

-- ---- one call

-- The entry that the answer leaves is that of the final state.
entry_of_end : (t : Turn) (c : Class) (args : List Arg) (h : HasEnd t c args) → entry_by t.answer (before_in t.call) ≡ h.meant.final.entry
entry_of_end t c args h =
    let before : Entry = before_in t.call in
    ap (λ (d : DoneNumbers). entry_by d before) h.is ∙ entry_by_done before before h.done
    ∙ ap (λ e. after_effect e before) h.meant.told.effect ∙ effect_leads before h.meant.final.entry

-- The record of a call that is run.
made : (t : Turn) (c : Class) (args : List Arg) → HasEnd t c args → Record
made t c args h = record { caller = 0; number = 0; call = Invoke c t.call.key args; reply = Result h.done.outcome; after = entry_by t.answer (before_in t.call); asked = None }

made_is : (t : Turn) (c : Class) (args : List Arg) (run : IsRunOf t c args) (h : HasEnd t c args) → IsRecordOf t (made t c args h)
unfolding made
made_is t c args run h = record {
  class = c;
  args = args;
  outcome = h.done.outcome;
  runs = run;
  call = refl;
  reply = refl;
  numbers = λ i. ((sym h.is i).outcome, (sym h.is i).value, (sym h.is i).text);
  after = refl;
  asked = refl;
}

-- The record of a call that is run satisfies `Answers` on the call's entry.
answers : (t : Turn) (r : Record) → HasAnswer t → IsRecordOf t r → Answers false (before_in t.call) r.call r.reply r.after r.asked
answers t r h is =
    let e = end_of t is.class is.args h is.runs in
    let outcome : is.outcome ≡ e.meant.final.outcome =
    outcomes_are_numbered is.outcome e.done.outcome (is.numbers ∙ (λ i. ((e.is i).outcome, (e.is i).value, (e.is i).text))) ∙ e.meant.told.outcome in
    let none : None ≡ e.meant.final.asked = sym (means_unasked is.class (invocation_in t.call is.args) e.meant.final refl e.meant.means) in
    subst (λ (x : Call). Answers false (before_in t.call) x r.reply r.after r.asked) (sym is.call)
    (e.meant.final, e.meant.means, is.reply ∙ ap Result outcome, is.after ∙ entry_of_end t is.class is.args e, is.asked ∙ none)

-- ---- entries

after_append : (e : Entry) (xs ys : List Record) (k : ℤ) → entry_after e (xs ++ ys) k ≡ entry_after (entry_after e xs k) ys k
after_append e [] ys k = refl
after_append e (x ∷ xs) ys k = after_append (if int_eq (key_of x.call) k then x.after else e) xs ys k

on_key : (x k : ℤ) (a b : Entry) → x ≡ k → (if int_eq x k then a else b) ≡ a
on_key x k a b h = ap (λ t. if t then a else b) ((Decides-int_eq x k).1 h)

off_key : (x k : ℤ) (a b : Entry) → x ≢ k → (if int_eq x k then a else b) ≡ b
off_key x k a b h = by (int_eq x k) refl
  where
    by : (t : Bool) → int_eq x k ≡ t → (if t then a else b) ≡ b
    by true e = absurd (h ((Decides-int_eq x k).0 e))
    by false e = refl

-- ---- the records of a conversation

pub conversations_have_records : ConversationsHaveRecords
conversations_have_records key before [] h = ([], no_calls)
conversations_have_records key before (t ∷ ts) h =
    let rest = conversations_have_records key (entry_by t.answer before) ts h.3 in
    by rest.0 rest.1 (ran t)
  where
    by : (rs : List Record) → AreRecordsOf ts rs → ((c : Class) × (args : List Arg) × IsRunOf t c args) ⊎ IsNotRun t → (records : List Record) × AreRecordsOf (t ∷ ts) records
    by rs are (inl x) = let e = end_of t x.0 x.1 h.2 x.2 in (made t x.0 x.1 e ∷ rs, runs (made_is t x.0 x.1 x.2 e) are)
    by rs are (inr none) = (rs, runs_not none are)

key_is : (key : ℤ) (t : Turn) (r : Record) → t.call.key ≡ key → IsRecordOf t r → key_of r.call ≡ key
key_is key t r h is = ap key_of is.call ∙ h

after_is : (before : Entry) (t : Turn) (r : Record) → before_in t.call ≡ before → IsRecordOf t r → r.after ≡ entry_by t.answer before
after_is before t r h is = is.after ∙ ap (entry_by t.answer) h

legal : (key : ℤ) (before : Entry) (entries : Entries) (seen : List Record) (turns : List Turn) (records : List Record) → IsConversation key before turns → AreRecordsOf turns records
    → entries_after entries seen key ≡ before → IsLegalAfter false entries seen records
legal key before entries seen [] rs h no_calls now = tt
legal key before entries seen (t ∷ ts) rest h (runs {r = r} {rs = rs} is are) now =
    let on : key_of r.call ≡ key = key_is key t r h.0 is in
    let here : before_in t.call ≡ entries_after entries seen (key_of r.call) = h.1 ∙ sym now ∙ ap (entries_after entries seen) (sym on) in
    let after : entries_after entries (seen ++ r ∷ []) key ≡ entry_by t.answer before =
    after_append (entries key) seen (r ∷ []) key ∙ on_key (key_of r.call) key r.after (entry_after (entries key) seen key) on ∙ after_is before t r h.1 is in
    (subst (λ e. Answers false e r.call r.reply r.after r.asked) here (answers t r h.2 is), legal key (entry_by t.answer before) entries (seen ++ r ∷ []) ts rs h.3 are after)
legal key before entries seen (t ∷ ts) rs h (runs_not none are) now =
    legal key (entry_by t.answer before) entries seen ts rs h.3 are (now ∙ sym ((calls_that_are_not_run t h.2 none).kept before))

left : (key : ℤ) (before e : Entry) (turns : List Turn) (records : List Record) → IsConversation key before turns → AreRecordsOf turns records
    → e ≡ before → entry_after e records key ≡ entry_at_end before turns
left key before e [] rs h no_calls now = now
left key before e (t ∷ ts) rest h (runs {r = r} {rs = rs} is are) now =
    left key (entry_by t.answer before) (if int_eq (key_of r.call) key then r.after else e) ts rs h.3 are
    (on_key (key_of r.call) key r.after e (key_is key t r h.0 is) ∙ after_is before t r h.1 is)
left key before e (t ∷ ts) rs h (runs_not none are) now =
    left key (entry_by t.answer before) e ts rs h.3 are (now ∙ sym ((calls_that_are_not_run t h.2 none).kept before))

others : (key k : ℤ) (before e : Entry) (turns : List Turn) (records : List Record) → IsConversation key before turns → AreRecordsOf turns records
    → k ≢ key → entry_after e records k ≡ e
others key k before e [] rs h no_calls other = refl
others key k before e (t ∷ ts) rest h (runs {r = r} {rs = rs} is are) other =
    let off : key_of r.call ≢ k = λ same. other (sym same ∙ key_is key t r h.0 is) in
    others key k (entry_by t.answer before) (if int_eq (key_of r.call) k then r.after else e) ts rs h.3 are other ∙ off_key (key_of r.call) k r.after e off
others key k before e (t ∷ ts) rs h (runs_not none are) other = others key k (entry_by t.answer before) e ts rs h.3 are other

pub conversations_are_legal : ConversationsAreLegal
conversations_are_legal key turns records entries h are = record {
  legal = legal key (entries key) entries [] turns records h are refl;
  left = left key (entries key) (entries key) turns records h are refl;
  others = λ k other. others key k (entries key) (entries k) turns records h are other;
}

-- ---- what records say is determined

one_record : (t : Turn) (r s : Record) → IsRecordOf t r → IsRecordOf t s → said r ≡ said s
one_record t r s x y =
    let classes : x.class ≡ y.class = same_Some x.class y.class (sym x.runs.class ∙ y.runs.class) in
    let args : x.args ≡ y.args = same_Some x.args y.args (sym x.runs.valid ∙ y.runs.valid) in
    let call : r.call ≡ s.call = x.call ∙ (λ i. Invoke (classes i) t.call.key (args i)) ∙ sym y.call in
    let reply : r.reply ≡ s.reply = x.reply ∙ ap Result (outcomes_are_numbered x.outcome y.outcome (x.numbers ∙ sym y.numbers)) ∙ sym y.reply in
    let after : r.after ≡ s.after = x.after ∙ sym y.after in
    let asked : r.asked ≡ s.asked = x.asked ∙ sym y.asked in
    λ i. (call i, reply i, after i, asked i)

pub records_are_determined : RecordsAreDetermined
records_are_determined [] rs ss no_calls no_calls = refl
records_are_determined (t ∷ ts) rest more (runs {r = r} {rs = rs} x xs) (runs {r = s} {rs = ss} y ys) =
    let first : said r ≡ said s = one_record t r s x y in
    let others : map said rs ≡ map said ss = records_are_determined ts rs ss xs ys in
    λ i. first i ∷ others i
records_are_determined (t ∷ ts) rest ss (runs x xs) (runs_not none ys) = absurd (none x.class x.args x.runs)
records_are_determined (t ∷ ts) rs rest (runs_not none xs) (runs y ys) = absurd (none y.class y.args y.runs)
records_are_determined (t ∷ ts) rs ss (runs_not none xs) (runs_not other ys) = records_are_determined ts rs ss xs ys

-- ---- each end is an answer

pub ends_are_answers : EndsAreAnswers
ends_are_answers t c args r run call end =
    let before : Entry = before_in t.call in
    let h = subst (λ (x : Call). Answers false before x r.reply r.after r.asked) call end in
    let f = h.0 in
    let d : Done = record { outcome = f.outcome; effect = effect before f.entry; untouched = f.untouched; asked = f.asked; steps = f.steps; words = f.words } in
    let meant : IsMeant c (invocation_in t.call args) d = record {
      final = f;
      means = h.1;
      told = record { outcome = refl; effect = refl; untouched = refl; asked = refl; steps = refl; words = refl };
    } in
    let few : nat_le (length t.args) 8 ≡ true = le-leb (length t.args) 8 run.few in
    let read : Some args ≡ only_if (nat_le (length t.args) 8) (args_in t.args) = sym run.valid ∙ ap (λ b. only_if b (args_in t.args)) (sym few) in (
      done_in before d,
      is_run (class_at t.classes t.call.number) (nat_le (length t.args) 8) (args_in t.args) c args t.call d (done_in before d) run.class read meant refl,
      record {
        class = c;
        args = args;
        outcome = f.outcome;
        runs = record { class = run.class; few = run.few; valid = run.valid };
        call = call;
        reply = h.2;
        numbers = refl;
        after = h.3 ∙ sym (entry_by_done before before d ∙ effect_leads before f.entry);
        asked = h.4 ∙ means_unasked c (invocation_in t.call args) f refl h.1;
      },
    )
