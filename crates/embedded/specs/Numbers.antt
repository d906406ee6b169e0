-- The numbers of the C interface.
use Rattle.std.specs.Prelude.{◌==◌, ℕ, ◌^◌, nat_lt, ℤ, pos, negsuc, Bool, true, false, List, [], ◌∷◌, Option, Some, None, option_map, if◌then◌else◌}
use Rattle.std.specs.Ordering.{int_eq}
use Rattle.jtypes.specs.Entry.{Entry, after_effect}
use Rattle.jtypes.specs.Lists.{only_if, ◌>>=◌}
use Rattle.jtypes.specs.Refusals.{number, detail, fault_number}
use Rattle.jtypes.specs.declared.refusal.Refusal.{Refusal}
use Rattle.jtypes.specs.declared.types.Arg.{Arg}
use Rattle.jtypes.specs.declared.types.Arg.TheVariants.{Null, Long, Integer, Boolean}
use Rattle.jtypes.specs.declared.types.JavaFault.{JavaFault}
use Rattle.jtypes.specs.declared.types.JavaFault.TheVariants.{Thrown}
use Rattle.jtypes.specs.declared.types.Outcome.{Outcome}
use Rattle.jtypes.specs.declared.types.Outcome.TheVariants.{Returned, Threw}
use Rattle.jtypes.specs.declared.types.Effect.{Effect}
use Rattle.jtypes.specs.declared.types.Effect.TheVariants.{Keep, Put, Delete}
use Rattle.verdict.specs.Machine.{Invocation}
use Rattle.ended.specs.declared.done.Done.{Done}
use Rattle.embedded.specs.declared.engine.Defined.{Defined}
use Rattle.embedded.specs.declared.numbers.VerdictNumbers.{VerdictNumbers}
use Rattle.embedded.specs.declared.numbers.ArgNumbers.{ArgNumbers}
use Rattle.embedded.specs.declared.numbers.CallNumbers.{CallNumbers}
use Rattle.embedded.specs.declared.numbers.DoneNumbers.{DoneNumbers}

-- ---- a verdict, with the id of the bytes

abbrev pub accepted_in : Defined → List ℕ → VerdictNumbers
accepted_in d id = record { refusal = 0; detail = 0; number = d.number; steps = d.bounds.steps; words = d.bounds.words; slots = d.bounds.slots; depth = d.bounds.depth; id = id }

abbrev pub refused_in : Refusal → List ℕ → VerdictNumbers
refused_in r id = record { refusal = number r; detail = detail r; number = 0; steps = 0; words = 0; slots = 0; depth = 0; id = id }

-- ---- arguments

-- Whether a number fits 32 signed bits.
abbrev pub is_int : ℤ → Bool
is_int (pos n) = nat_lt n (2 ^ 31)
is_int (negsuc n) = nat_lt n (2 ^ 31)

-- A Boolean is 1 or 0.
abbrev pub boolean_in : ℤ → Option Arg
boolean_in n = if int_eq n (pos 0) then Some (Boolean false) else if int_eq n (pos 1) then Some (Boolean true) else None

-- The argument, or `None` if the kind is unknown, an Integer does not fit 32 bits or a Boolean isn't 0 or 1.
abbrev pub arg_in : ArgNumbers → Option Arg
arg_in a =
    if a.kind == 0 then Some Null else if a.kind == 1 then Some (Long a.value) else if a.kind == 2 then only_if (is_int a.value) (Some (Integer a.value))
    else if a.kind == 7 then boolean_in a.value else None

-- The arguments in order, if each is valid.
abbrev pub args_in : List ArgNumbers → Option (List Arg)
args_in [] = Some []
args_in (a ∷ rest) = arg_in a >>= (λ x. option_map (λ xs. x ∷ xs) (args_in rest))

-- ---- a call

-- The entry before the call.
abbrev pub before_in : CallNumbers → Entry
before_in c = if c.present == 1 then Some c.before else None

-- The invocation of a call, without a loader.
abbrev pub invocation_in : CallNumbers → List Arg → Invocation
invocation_in c args = record { key = c.key; args = args; before = before_in c; loads = false }

-- ---- an end

-- The text of an exception that the processor throws itself: its index in the constant pool, or -1 without one. 0 for any other exception.
abbrev pub text_in : JavaFault → ℤ
text_in (Thrown e text) = if text == 0 then negsuc 0 else pos text
text_in fault = pos 0

-- The kind of an outcome, its value, and the text of an exception.
abbrev pub outcome_in : Outcome → ℕ × ℤ × ℤ
outcome_in (Returned Null) = (0, pos 0, pos 0)
outcome_in (Returned (Long x)) = (1, x, pos 0)
outcome_in (Returned (Integer x)) = (2, x, pos 0)
outcome_in (Returned (Boolean false)) = (7, pos 0, pos 0)
outcome_in (Returned (Boolean true)) = (7, pos 1, pos 0)
outcome_in (Threw fault) = (3, pos (fault_number fault), text_in fault)

abbrev pub effect_in : Effect → ℕ × ℤ
effect_in Keep = (0, pos 0)
effect_in (Put x) = (1, x)
effect_in Delete = (2, pos 0)

-- How an entry is left, by whether it is untouched and the entry afterwards: untouched (0), set (1) or removed (2).
abbrev pub left_in : Bool → Entry → ℕ
left_in true after = 0
left_in false (Some value) = 1
left_in false None = 2

-- The end of a run on this entry.
abbrev pub done_in : Entry → Done → DoneNumbers
done_in before d = record { outcome = (outcome_in d.outcome).0; effect = (effect_in d.effect).0; value = (outcome_in d.outcome).1; put = (effect_in d.effect).1; steps = d.steps; words = d.words; left = left_in d.untouched (after_effect d.effect before); text = (outcome_in d.outcome).2 }

-- The end of a call that was not run, with the reason as its outcome.
abbrev pub not_run : ℕ → DoneNumbers
not_run reason = record { outcome = reason; effect = 0; value = pos 0; put = pos 0; steps = 0; words = 0; left = 0; text = pos 0 }
