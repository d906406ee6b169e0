-- The methods of an accepted class are well typed.
use Rattle.std.proofs.Common.{◌≡◌, ℕ, List, [], ◌∷◌, length, Option, Some, None, refl, sym, ap, subst, inr}
use Rattle.std.specs.Prelude.{IsFalse, IsSome}
use Rattle.jtypes.specs.declared.refusal.Refusal.{Refusal}
use Rattle.jtypes.specs.declared.refusal.Refusal.TheVariants.{BadStackMap, TypeMismatch, FallsOff, BadCode}
use Rattle.jtypes.specs.Lists.{last}
use Rattle.constpool.specs.Lookup.{Slot}
use Rattle.classfile.specs.View.{ClassView, MethodView, view_of}
use Rattle.decode.specs.declared.instruction.Placed.{Placed}
use Rattle.decode.specs.Code.{IsSequence}
use Rattle.frames.specs.declared.frame.Environment.{Environment}
use Rattle.typecheck.specs.Typing.{Method, Class, IsWellTyped}
use Rattle.typecheck.specs.Mismatch.{IsMismatch}
use Rattle.typecheck.specs.Pass.{failure_of, IsReady}
use Rattle.typecheck.proofs.DeclaredPlaces.{declared_stands}
use Rattle.typecheck.proofs.Passes.{fails_at_mismatch, passes_typed}
use Rattle.verdict.specs.Shape.{is_constructor, empty}
use Rattle.verdict.specs.Verdict.{IsAccepted, IsClassOf, HasShape, HasInstructions, IsBody, BodyStands, TypesStand, by_shape, by_instructions, by_types}
use Rattle.verdict.specs.Checked.{IsMember}
use Rattle.verdict.specs.Promise.{TypeSoundness, AcceptedIsChecked}
use Rattle.soundness.proofs.SafeRuns.{type_soundness}
use Rattle.soundness.proofs.AcceptedRanks.{accepted_has_ranks}
use Rattle.verdict.proofs.Methods.{any_from}
use Rattle.decode.proofs.Consecutive.{sequence_is_consecutive}
use Rattle.verdict.proofs.ParameterRoom.{one_contains}
use Rattle.soundness.proofs.AcceptedClasses.{accepted_is_named, accepted_process_is_instance, accepted_count, accepted_signed, accepted_is_formed, InFile, in_file}
use Rattle.jtypes.specs.Profile.{Third}

-- Nonempty code has a last instruction.
last_of_some : (x : Placed) (xs : List Placed) → IsSome (last (x ∷ xs))
last_of_some x [] = refl
last_of_some x (y ∷ xs) = last_of_some y xs

has_last : (pool : List Slot) (text : List ℕ) (code : List Placed) → IsSequence Third pool 0 text code → (length text ≡ 0 → ⊥) → IsSome (last code)
has_last pool text [] h some = absurd (some (ap length h))
has_last pool text (x ∷ xs) h some = last_of_some x xs

pub accepted_is_typed : (bytes : List ℕ) (c : Class) → IsAccepted Third bytes → IsClassOf Third bytes c → (j : ℕ) (w : MethodView) (m : Method) → IsMember c j w m → IsWellTyped c.view m
accepted_is_typed bytes c ok of j w m member = subst (λ v. IsWellTyped v m) (sym of.class.view) (typed (failure_of view m) refl)
  where
    view : ClassView
    view = view_of of.pool of.parts

    file : InFile bytes c of m
    file = in_file bytes c of j w m member

    shape : HasShape of.pool of.parts
    shape = record { none_stands = λ x s. ok x (by_shape of.pool of.parts of.file s) }

    instructions : HasInstructions Third of.pool of.parts
    instructions = record { none_stands = λ x s. ok x (by_instructions of.pool of.parts of.file shape s) }

    -- No refusal of the types applies to this method.
    none_stands : (r : Refusal) → BodyStands view m.environment m.code file.is.tables r → ⊥
    none_stands r s =
        let stands : TypesStand Third of.pool of.parts r = any_from (λ y. IsFalse (is_constructor of.pool y) × ((x : Environment) × (code : List Placed) × (tables : List (List ℕ)) × IsBody Third of.pool of.parts y x code tables × BodyStands view x code tables r)) of.parts.methods file.number file.item file.there (file.other, (m.environment, m.code, file.is.tables, file.is.body, s)) in
        ok r (by_types of.pool of.parts of.file shape instructions stands)

    ready : IsReady m
    ready = record {
      consecutive = sequence_is_consecutive of.pool 0 file.is.body.parts.code m.code file.is.body.sequence;
      declared = declared_stands view m.environment m.code file.is.tables m.declared file.is.declared;
      whole = λ l. none_stands BadStackMap (inr (m.declared, file.is.declared, l));
    }

    ends : IsSome (last m.code)
    ends =
        let body = file.is.body in
        let code = body.has_code in
        has_last of.pool body.parts.code m.code body.sequence (λ n.
        ok BadCode (by_shape of.pool of.parts of.file (any_from _ of.parts.methods file.number file.item file.there (empty body.parts (code.0, one_contains _ code.0 code.1, code.2) n))))

    typed : (o : Option ℕ) → failure_of view m ≡ o → IsWellTyped view m
    typed None e = (passes_typed view m ready ends (λ f. none_stands FallsOff f)).0 e
    typed (Some q) e =
        let mismatch : IsMismatch view m q = (fails_at_mismatch view m q ready).0 e in
        absurd (none_stands (TypeMismatch q) (λ b. none_stands BadStackMap b, (m.declared, file.is.declared, mismatch)))

pub accepted_is_checked : AcceptedIsChecked
accepted_is_checked bytes c rank ok of ordered = record {
  named = accepted_is_named bytes c ok of;
  instance = accepted_process_is_instance bytes c ok of;
  count = accepted_count bytes c of;
  signed = accepted_signed bytes c of;
  typed = accepted_is_typed bytes c ok of;
  formed = accepted_is_formed bytes c ok of;
  ordered = (rank, ordered);
}

pub accepted_is_safe : TypeSoundness
accepted_is_safe bytes c j b ok of is bounds =
    let ranks = accepted_has_ranks bytes c ok of in
    type_soundness c j b (accepted_is_checked bytes c ranks.0 ok of ranks.1) is bounds.none_exceeds
