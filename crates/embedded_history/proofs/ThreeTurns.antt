-- The three calls of the example are a conversation.
use Rattle.std.proofs.Common.{arith, ◌≡◌, ℕ, ℤ, pos, false, unsigned_abs, List, [], ◌∷◌, Some, None, refl, ap}
use Rattle.jtypes.specs.Entry.{Entry, effect}
use Rattle.jtypes.specs.Loading.{EntryNow, entry_at_start}
use Rattle.jtypes.specs.declared.loader.LoadAnswer.TheVariants as load
use Rattle.jtypes.specs.declared.types.Arg.{Arg}
use Rattle.jtypes.specs.declared.types.Arg.TheVariants as arg
use Rattle.jtypes.specs.declared.types.Outcome.TheVariants.{Returned}
use Rattle.jtypes.specs.declared.types.RefValue.TheVariants as reference
use Rattle.jtypes.specs.declared.types.Value.{Value}
use Rattle.jtypes.specs.declared.types.Value.TheVariants.{Int, Ref}
use Rattle.constpool.specs.Lookup.{utf8_at, class_at, pair_at, member_of, interface_method_at}
use Rattle.constpool.specs.Descriptor.{sig_of, read_params, read_type}
use Rattle.frames.specs.Signatures.{class_type, field_type, field_types, result_type, signature_of, method_signature}
use Rattle.frames.specs.Members.{library_rows, callee_at}
use Rattle.verdict.specs.Machine.{Invocation, State, Final, Goes, step_with, Reaches, here, onward}
use Rattle.verdict.specs.Meaning.{Means}
use Rattle.ended.specs.declared.done.Done.{Done}
use Rattle.ended.specs.Ended.{IsMeant}
use Rattle.embedded.specs.declared.numbers.DoneNumbers.{DoneNumbers}
use Rattle.embedded.specs.Answers.{IsAnswer}
use Rattle.typecheck.specs.Typing.{Class}
use Rattle.stripe.specs.declared.call.Reply.TheVariants.{Result}
use Rattle.stripe.specs.History.{Invoke, Record}
use Rattle.embedded.specs.Numbers.{before_in, outcome_in}
use Rattle.embedded_history.specs.Conversation.{Turn, entry_by, IsRunOf, IsRecordOf, AreRecordsOf, no_calls, runs, runs_not}
use Rattle.embedded_history.specs.Example.{setter, classes, call, long, put, three_turns, two_records, ThreeTurns}
use Rattle.embedded_history.proofs.Runs.{answers_are_determined}

-- ---- a run of the processor

abbrev invocation : Entry → ℤ → Invocation
invocation before value = record { key = pos 1; args = arg.Long value ∷ []; before = before; loads = false }

-- The state at a pc, with these operands.
abbrev state : Entry → ℤ → ℕ → List Value → EntryNow → ℕ → State
state before value place operands now steps = record {
  call = invocation before value;
  activations = record { method = 0; place = place; locals = Some (Ref reference.This) ∷ Some (Ref reference.Entry) ∷ Some (Ref reference.Args) ∷ []; operands = operands } ∷ [];
  arrays = [];
  now = now;
  steps = steps;
  words = 0;
}

-- The entry after `setValue`.
abbrev set : ℤ → EntryNow
set value = record { entry = Some value; untouched = false; asked = None }

abbrev final : ℤ → Final
final value = record { outcome = Returned arg.Null; entry = Some value; untouched = false; asked = None; steps = 7; words = 0 }

module _ (before : Entry) (value : ℤ) where
  abbrev unset : ℕ → List Value → State
  unset n operands = state before value n operands (entry_at_start before) n

  abbrev fifth : State
  fifth = unset 4 (Ref (reference.Long value) ∷ Ref reference.Entry ∷ [])

  abbrev sixth : State
  sixth = state before value 9 [] (set value) 5

  sets : step_with setter load.None fifth ≡ Some (Goes sixth)
  unfolding callee_at library_rows interface_method_at member_of class_at pair_at utf8_at sig_of read_params read_type class_type field_type field_types result_type signature_of method_signature
  sets = refl

  means : Means setter (invocation before value) (final value)
  means = record {
    begin = unset 0 [];
    last = state before value 10 (Ref reference.Null ∷ []) (set value) 6;
    answer = load.None;
    starts = refl;
    reached = onward load.None (onward load.None fifth_reached sets) refl;
    ends = refl;
  }
    where
      fifth_reached : Reaches setter (unset 0 []) fifth
      fifth_reached =
          onward {t = unset 3 (Int (pos 0) ∷ Ref reference.Args ∷ Ref reference.Entry ∷ [])} load.None
          (onward {t = unset 2 (Ref reference.Args ∷ Ref reference.Entry ∷ [])} load.None (onward {t = unset 1 (Ref reference.Entry ∷ [])} load.None (onward load.None here refl) refl) refl) refl

  abbrev done : Done
  done = record { outcome = Returned arg.Null; effect = effect before (Some value); untouched = false; asked = None; steps = 7; words = 0 }

  meant : IsMeant setter (invocation before value) done
  meant = record { final = final value; means = means; told = record { outcome = refl; effect = refl; untouched = refl; asked = refl; steps = refl; words = refl } }

-- ---- the calls

first : IsAnswer classes (call 0 0 (pos 0)) (long (pos 7) ∷ []) (put (pos 7))
first = (done None (pos 7), meant None (pos 7), refl)

last : IsAnswer classes (call 0 1 (pos 7)) (long (pos 8) ∷ []) (put (pos 8))
last = (done (Some (pos 7)) (pos 8), meant (Some (pos 7)) (pos 8), refl)

-- The record of a call that is run, which returned null.
one_record : (t : Turn) (r : Record) (c : Class) (args : List Arg) → IsRunOf t c args → r.call ≡ Invoke c t.call.key args → r.reply ≡ Result (Returned arg.Null)
    → outcome_in (Returned arg.Null) ≡ (t.answer.outcome, t.answer.value, t.answer.text) → r.after ≡ entry_by t.answer (before_in t.call) → r.asked ≡ None → IsRecordOf t r
one_record t r c args run same reply numbers after asked =
    record { class = c; args = args; outcome = Returned arg.Null; runs = run; call = same; reply = reply; numbers = numbers; after = after; asked = asked }

records : AreRecordsOf three_turns two_records
records =
    runs (one_record _ _ setter (arg.Long (pos 7) ∷ []) (record { class = refl; few = omega arith; valid = refl }) refl refl refl refl refl)
    (runs_not (λ c args h. let e : None ≡ Some c = h.class in absurd cc)
    (runs (one_record _ _ setter (arg.Long (pos 8) ∷ []) (record { class = refl; few = omega arith; valid = refl }) refl refl refl refl refl) no_calls))

pub are_a_conversation : ThreeTurns
are_a_conversation = record {
  conversation = (refl, refl, first, (refl, refl, refl, (refl, refl, last, tt)));
  records = records;
  end = refl;
  stale = λ h. let e : None ≡ Some (pos 7) = h.3.1 in absurd cc;
  wrong = λ h. let e : 7 ≡ 9 = ap (λ (d : DoneNumbers). unsigned_abs d.put) (answers_are_determined classes (call 0 0 (pos 0)) (long (pos 7) ∷ []) (put (pos 7)) (put (pos 9)) first h.2) in absurd (omega (arith, e));
}
