-- Outcomes and effects are determined by their numbers.
use Rattle.std.proofs.Common.{◌≡◌, ℕ, zero, suc, ◌==◌, ℤ, pos, negsuc, Bool, true, false, if◌then◌else◌, Some, None, refl, sym, ap, ◌∙◌}
use Rattle.std.proofs.lemmas.Bool.{ne_eqb}
use Rattle.std.proofs.lemmas.Bool.Decides.{Decides-int_eq}
use Rattle.std.specs.Ordering.{int_eq}
use Rattle.jtypes.specs.Entry.{Entry, effect, after_effect}
use Rattle.jtypes.specs.Refusals.{exception_number}
use Rattle.jtypes.specs.declared.types.Arg.TheVariants.{Null, Long, Integer, Boolean}
use Rattle.jtypes.specs.declared.types.Exception.{Exception}
use Rattle.jtypes.specs.declared.types.Exception.TheVariants as exception
use Rattle.jtypes.specs.declared.types.JavaFault.{JavaFault}
use Rattle.jtypes.specs.declared.types.JavaFault.TheVariants.{Arithmetic, ArrayIndexOutOfBounds, NullPointer, ClassCast, IncompatibleClassChange, CacheLoader, Thrown}
use Rattle.jtypes.specs.declared.types.Outcome.{Outcome}
use Rattle.jtypes.specs.declared.types.Outcome.TheVariants.{Returned, Threw}
use Rattle.jtypes.specs.declared.types.Effect.{Effect}
use Rattle.jtypes.specs.declared.types.Effect.TheVariants.{Keep, Put, Delete}
use Rattle.ended.specs.declared.done.Done.{Done}
use Rattle.embedded.specs.Numbers.{text_in, outcome_in, effect_in, done_in}
use Rattle.embedded_history.specs.Conversation.{entry_by}
use Rattle.embedded_history.specs.Statements.{OutcomesAreNumbered, EffectsAreNumbered}

-- ---- outcomes

abbrev fault_of : ℤ → JavaFault
fault_of n =
    if int_eq n (pos 1) then Arithmetic else if int_eq n (pos 2) then ArrayIndexOutOfBounds else if int_eq n (pos 3) then NullPointer
    else if int_eq n (pos 4) then ClassCast else if int_eq n (pos 5) then IncompatibleClassChange else CacheLoader

abbrev exception_of : ℤ → Exception
exception_of n =
    if int_eq n (pos 1) then exception.Arithmetic else if int_eq n (pos 7) then exception.EntryProcessor else if int_eq n (pos 8) then exception.IllegalArgument
    else if int_eq n (pos 9) then exception.IllegalState else exception.UnsupportedOperation

abbrev thrown_of : (number text : ℤ) → JavaFault
thrown_of n (pos zero) = fault_of n
thrown_of n (pos (suc k)) = Thrown (exception_of n) (suc k)
thrown_of n (negsuc k) = Thrown (exception_of n) 0

abbrev outcome_of : ℕ × ℤ × ℤ → Outcome
outcome_of p =
    if p.0 == 0 then Returned Null else if p.0 == 1 then Returned (Long p.1) else if p.0 == 2 then Returned (Integer p.1)
    else if p.0 == 7 then Returned (Boolean (int_eq p.1 (pos 1))) else Threw (thrown_of p.1 p.2)

exception_back : (e : Exception) → exception_of (pos (exception_number e)) ≡ e
exception_back exception.Arithmetic = refl
exception_back exception.EntryProcessor = refl
exception_back exception.IllegalArgument = refl
exception_back exception.IllegalState = refl
exception_back exception.UnsupportedOperation = refl

thrown_back : (e : Exception) (text : ℕ) → thrown_of (pos (exception_number e)) (text_in (Thrown e text)) ≡ Thrown e text
thrown_back e zero = ap (λ x. Thrown x 0) (exception_back e)
thrown_back e (suc k) =
    let some : (suc k == 0) ≡ false = ne_eqb (suc k) 0 (λ same. cc same) in
    ap (λ b. thrown_of (pos (exception_number e)) (if b then negsuc 0 else pos (suc k))) some ∙ ap (λ x. Thrown x (suc k)) (exception_back e)

outcome_back : (o : Outcome) → outcome_of (outcome_in o) ≡ o
outcome_back (Returned Null) = refl
outcome_back (Returned (Long x)) = refl
outcome_back (Returned (Integer x)) = refl
outcome_back (Returned (Boolean true)) = refl
outcome_back (Returned (Boolean false)) = refl
outcome_back (Threw Arithmetic) = refl
outcome_back (Threw ArrayIndexOutOfBounds) = refl
outcome_back (Threw NullPointer) = refl
outcome_back (Threw ClassCast) = refl
outcome_back (Threw IncompatibleClassChange) = refl
outcome_back (Threw CacheLoader) = refl
outcome_back (Threw (Thrown e text)) = ap Threw (thrown_back e text)

pub outcomes_are_numbered : OutcomesAreNumbered
outcomes_are_numbered o p e = sym (outcome_back o) ∙ ap outcome_of e ∙ outcome_back p

-- ---- effects

abbrev effect_of : ℕ × ℤ → Effect
effect_of p = if p.0 == 1 then Put p.1 else if p.0 == 2 then Delete else Keep

effect_back : (e : Effect) → effect_of (effect_in e) ≡ e
effect_back Keep = refl
effect_back (Put x) = refl
effect_back Delete = refl

pub effects_are_numbered : EffectsAreNumbered
effects_are_numbered e f same = sym (effect_back e) ∙ ap effect_of same ∙ effect_back f

-- ---- entries

-- The entry that a caller computes from the numbers of an end is the one after its effect.
pub entry_by_done : (before other : Entry) (d : Done) → entry_by (done_in other d) before ≡ after_effect d.effect before
entry_by_done before other d = by d.effect
  where
    by : (e : Effect) → (if (effect_in e).0 == 1 then Some (effect_in e).1 else if (effect_in e).0 == 2 then None else before) ≡ after_effect e before
    by Keep = refl
    by (Put x) = refl
    by Delete = refl

-- The effect from one entry to another leads from the first to the second.
pub effect_leads : (before now : Entry) → after_effect (effect before now) before ≡ now
effect_leads None None = refl
effect_leads None (Some v) = refl
effect_leads (Some b) None = refl
effect_leads (Some b) (Some v) = by (int_eq b v) refl
  where
    by : (t : Bool) → int_eq b v ≡ t → after_effect (if t then Keep else Put v) (Some b) ≡ Some v
    by true e = ap Some ((Decides-int_eq b v).0 e)
    by false e = refl
