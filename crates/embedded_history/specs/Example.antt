-- Three calls on one key: a processor sets the entry to its argument, then a call has a number without a class, then the processor sets it again.
use Rattle.std.specs.Prelude.{◌≡◌, ℕ, ℤ, pos, false, codes, List, [], ◌∷◌, Some, None}
use Rattle.jtypes.specs.declared.types.Arg.TheVariants.{Null, Long}
use Rattle.jtypes.specs.declared.types.Outcome.TheVariants.{Returned}
use Rattle.jtypes.specs.declared.types.RefType.TheVariants as ref
use Rattle.jtypes.specs.declared.types.JType.TheVariants as type
use Rattle.jtypes.specs.declared.operations.Kind.TheVariants as kind
use Rattle.jtypes.specs.declared.operations.Pushed.TheVariants as pushed
use Rattle.jtypes.specs.declared.operations.Invoke.TheVariants.{Interface}
use Rattle.constpool.specs.declared.constant.Constant.TheVariants as constant
use Rattle.constpool.specs.Lookup.{Slot}
use Rattle.constpool.specs.Names.{mutable_entry_name, process_name, process_descriptor}
use Rattle.decode.specs.declared.instruction.Instruction.{Instruction}
use Rattle.decode.specs.declared.instruction.Instruction.TheVariants as instruction
use Rattle.decode.specs.declared.instruction.Placed.{Placed}
use Rattle.typecheck.specs.Typing.{Method, Class}
use Rattle.embedded.specs.declared.numbers.ArgNumbers.{ArgNumbers}
use Rattle.embedded.specs.declared.numbers.CallNumbers.{CallNumbers}
use Rattle.embedded.specs.declared.numbers.DoneNumbers.{DoneNumbers}
use Rattle.embedded.specs.Classes.{Classes}
use Rattle.embedded.specs.Numbers.{not_run}
use Rattle.stripe.specs.declared.call.Reply.TheVariants.{Result}
use Rattle.stripe.specs.History.{Invoke, Record}
use Rattle.embedded_history.specs.Conversation.{Turn, entry_at_end, IsConversation, AreRecordsOf}

abbrev placed : ℕ → ℕ → Instruction → Placed
placed at next i = record { place = at; next = next; instruction = i }

-- The constant pool, with `MutableEntry.setValue` at index 1.
abbrev pool : List Slot
pool =
    Some (constant.InterfaceMethodref 2 3) ∷ Some (constant.Class 4) ∷ Some (constant.NameAndType 5 6)
    ∷ Some (constant.Utf8 mutable_entry_name) ∷ Some (constant.Utf8 (codes "setValue")) ∷ Some (constant.Utf8 (codes "(Ljava/lang/Object;)V")) ∷ []

-- `entry.setValue(arguments[0]); return null;`
abbrev pub setter_method : Method
setter_method = record {
  environment = record {
    signature = record {
      params = type.Ref ref.This ∷ type.Ref ref.MutableEntry ∷ type.Ref ref.ObjectArray ∷ [];
      result = Some (type.Ref ref.Object);
      is_boolean = false;
    };
    max_stack = 3;
    max_locals = 3;
  };
  code =
      placed 0 1 (instruction.Load kind.Reference 1) ∷ placed 1 2 (instruction.Load kind.Reference 2) ∷ placed 2 3 (instruction.Push (pushed.Int (pos 0)))
      ∷ placed 3 4 instruction.ReferenceLoad ∷ placed 4 9 (instruction.Invoke Interface 1) ∷ placed 9 10 (instruction.Push pushed.Null)
      ∷ placed 10 11 (instruction.Return kind.Reference) ∷ [];
  declared = [];
}

abbrev pub setter : Class
setter = record {
  view = record { pool = pool; name = codes "Setter"; methods = record { flags = 1; name = process_name; descriptor = process_descriptor } ∷ [] };
  methods = setter_method ∷ [];
}

-- The classes of the engine: the processor has the number 0.
abbrev pub classes : Classes
classes = Some setter ∷ []

abbrev pub call : (number present : ℕ) → (before : ℤ) → CallNumbers
call number present before = record { number = number; present = present; key = pos 1; before = before }

abbrev pub long : ℤ → ArgNumbers
long value = record { kind = 1; unused = 0; value = value }

-- The answer of a run that returned null, after seven instructions, and put this value.
abbrev pub put : ℤ → DoneNumbers
put value = record { outcome = 0; effect = 1; value = pos 0; put = value; steps = 7; words = 0; left = 1; text = pos 0 }

abbrev turn : CallNumbers → ℤ → DoneNumbers → Turn
turn c value d = record { classes = classes; call = c; args = long value ∷ []; answer = d }

abbrev pub three_turns : List Turn
three_turns = turn (call 0 0 (pos 0)) (pos 7) (put (pos 7)) ∷ turn (call 1 1 (pos 7)) (pos 9) (not_run 4) ∷ turn (call 0 1 (pos 7)) (pos 8) (put (pos 8)) ∷ []

-- The last call ignores the answers before it.
abbrev stale_turns : List Turn
stale_turns = turn (call 0 0 (pos 0)) (pos 7) (put (pos 7)) ∷ turn (call 0 0 (pos 0)) (pos 8) (put (pos 8)) ∷ []

-- The call has an answer that no run of the processor has.
abbrev wrong_turns : List Turn
wrong_turns = turn (call 0 0 (pos 0)) (pos 7) (put (pos 9)) ∷ []

-- The record of a run that sets the entry to this value.
abbrev setting : ℕ → ℤ → Record
setting number value = record {
  caller = 0;
  number = number;
  call = Invoke setter (pos 1) (Long value ∷ []);
  reply = Result (Returned Null);
  after = Some value;
  asked = None;
}

abbrev pub two_records : List Record
two_records = setting 0 (pos 7) ∷ setting 1 (pos 8) ∷ []

-- The three calls are a conversation on key 1, which has no entry before them and the value 8 afterwards. The two that are run have records.
-- If the last call ignores the answers before it, or an answer has another value, there is no conversation.
pub record ThreeTurns : Type 0 where
  pub conversation : IsConversation (pos 1) None three_turns
  pub records : AreRecordsOf three_turns two_records
  pub end : entry_at_end None three_turns ≡ Some (pos 8)
  pub stale : IsConversation (pos 1) None stale_turns → ⊥
  pub wrong : IsConversation (pos 1) None wrong_turns → ⊥
