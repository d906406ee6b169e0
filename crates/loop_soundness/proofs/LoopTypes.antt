-- No refusal of the types applies to the bytes of the small class with a loop.
use Rattle.std.proofs.Common.{◌≡◌, ℕ, true, false, List, [], ◌∷◌, Some, None, refl, sym, ◌∙◌, subst, ◌⊎◌, inl, inr}
use Rattle.std.specs.Prelude.{IsSome, ℤ, pos}
use Rattle.std.proofs.lemmas.Bool.{false≢true}
use Rattle.jtypes.specs.Profile.{Third}
use Rattle.jtypes.specs.declared.refusal.Refusal.{Refusal}
use Rattle.jtypes.specs.declared.refusal.Refusal.TheVariants.{BadStackMap, TypeMismatch, FallsOff, LengthNotConstant}
use Rattle.jtypes.specs.declared.operations.Kind.TheVariants as kind
use Rattle.jtypes.specs.Layout.{number, many}
use Rattle.constpool.specs.Lookup.{utf8_at}
use Rattle.classfile.specs.Code.{is_named, contents_named}
use Rattle.decode.specs.declared.instruction.Instruction.TheVariants as instruction
use Rattle.decode.specs.declared.instruction.Placed.{Placed}
use Rattle.decode.specs.Places.{IsTarget, falls_through}
use Rattle.frames.specs.declared.frame.Environment.{Environment}
use Rattle.frames.specs.StackMap.{IsDeclared, object_type, class_item, stack_type, local_type, one_item, one_item_extended, with_delta, append, full, entry, table}
use Rattle.frames.specs.Reading.{next_listed, frames_of}
use Rattle.frames.proofs.Declares.{declared_found, declared_once}
use Rattle.typecheck.specs.Typing.{instruction_at, declared_at}
use Rattle.typecheck.specs.Mismatch.{LacksFrame, at_target, after_end, IsMismatch}
use Rattle.typecheck.specs.Pass.{failure_of, IsReady}
use Rattle.typecheck.proofs.Passes.{fails_at_mismatch}
use Rattle.verdict.specs.Verdict.{IsBody, BodyStands, TypesStand, HasTypes}
use Rattle.soundness.proofs.OneClass.{body_once}
use Rattle.soundness.proofs.StraightCode.{Each, each_at, nowhere}
use Rattle.unrolled.specs.Example.{loop_code, loop_method}
use Rattle.loop_soundness.specs.ExampleBytes.{table_content, loop_pool, loop_member, loop_parts}
use Rattle.loop_soundness.proofs.LoopChecked.{to_only, declared_is, formed}
use Rattle.loop_soundness.proofs.LoopBytes.{process_parts, process_signed, are_good}
use Rattle.loop_soundness.proofs.LoopInstructions.{view, loop_sequence, only_process}

abbrev environment : Environment
environment = loop_method.environment

pub process_body : IsBody Third loop_pool loop_parts loop_member loop_method.environment loop_code (table_content ∷ [])
unfolding contents_named is_named utf8_at
process_body = record {
  parts = process_parts;
  has_code = are_good.1.0.has_code;
  signature = process_signed;
  max_stack = refl;
  max_locals = refl;
  sequence = loop_sequence;
  tables_are = refl;
}

frames_are : Some loop_method.declared ≡ frames_of view environment loop_code (table_content ∷ [])
unfolding number many object_type class_item stack_type local_type one_item one_item_extended with_delta append full entry table next_listed
frames_are = refl

pub process_declared : IsDeclared view loop_method.environment loop_code (table_content ∷ []) loop_method.declared
process_declared = declared_found view environment loop_code (table_content ∷ []) loop_method.declared frames_are

-- ---- each target has a frame, and so has the instruction after the `goto`

abbrev HasFrames : Placed → Type 0
HasFrames p = (z : ℤ) → IsTarget p.instruction z → (r : ℕ) × (z ≡ pos r) × IsSome (declared_at loop_method r)

have_frames : Each HasFrames loop_code
have_frames = (
  (λ z h. absurd (nowhere z h)),
  (
    (λ z h. absurd (nowhere z h)),
    (
      (λ z h. absurd (nowhere z h)),
      (
        (λ z h. absurd (nowhere z h)),
        (
          (λ z h. (13, to_only (pos 13) z h, refl)),
          (
            (λ z h. absurd (nowhere z h)),
            (
              (λ z h. (2, to_only (pos 2) z h, refl)),
              (
                (λ z h. absurd (nowhere z h)),
                ((λ z h. absurd (nowhere z h)), tt),
              ),
            ),
          ),
        ),
      ),
    ),
  ),
)

abbrev GoesOnByFrame : Placed → Type 0
GoesOnByFrame p = falls_through p.instruction ≡ false → IsSome (instruction_at loop_method p.next) → IsSome (declared_at loop_method p.next)

go_on : Each GoesOnByFrame loop_code
go_on = (
  (λ h k. absurd (false≢true (sym h))),
  (
    (λ h k. absurd (false≢true (sym h))),
    (
      (λ h k. absurd (false≢true (sym h))),
      (
        (λ h k. absurd (false≢true (sym h))),
        (
          (λ h k. absurd (false≢true (sym h))),
          (
            (λ h k. absurd (false≢true (sym h))),
            (
              (λ h k. refl),
              (
                (λ h k. absurd (false≢true (sym h))),
                ((λ h k. absurd (false≢true k)), tt),
              ),
            ),
          ),
        ),
      ),
    ),
  ),
)

whole : LacksFrame loop_method → ⊥
whole (at_target q p z e to none) =
    let it = each_at HasFrames loop_code have_frames q p e z to in
    false≢true (sym (none it.0 it.1) ∙ it.2)
whole (after_end q p e over some none) = false≢true (sym none ∙ each_at GoesOnByFrame loop_code go_on q p e over some)

-- ---- the pass

ready : IsReady loop_method
ready = record { consecutive = formed.consecutive; declared = λ q d h. at_start q (declared_is q d h).1; whole = whole }
  where
    at_start : (q : ℕ) → (2 ≡ q) ⊎ (13 ≡ q) → IsSome (instruction_at loop_method q)
    at_start q (inl e) = subst (λ x. IsSome (instruction_at loop_method x)) e refl
    at_start q (inr e) = subst (λ x. IsSome (instruction_at loop_method x)) e refl

passes : failure_of view loop_method ≡ None
passes = refl

no_type : (r : Refusal) → BodyStands view environment loop_code (table_content ∷ []) r → ⊥
no_type BadStackMap (inl none) = none loop_method.declared process_declared
no_type BadStackMap (inr (ds, d, lacks)) =
    let same = declared_once view environment loop_code (table_content ∷ []) ds loop_method.declared d process_declared in
    whole (subst (λ xs. LacksFrame (record { environment = environment; code = loop_code; declared = xs })) same lacks)
no_type (TypeMismatch place) (fine, (ds, d, wrong)) =
    let same = declared_once view environment loop_code (table_content ∷ []) ds loop_method.declared d process_declared in
    let fails = (fails_at_mismatch view loop_method place ready).1 (subst (λ xs. IsMismatch view (record { environment = environment; code = loop_code; declared = xs }) place) same wrong) in
    cc (passes, fails)
no_type FallsOff (p, e, falls) =
    let give : Placed = record { place = 14; next = 15; instruction = instruction.Return kind.Reference } in
    let same : give ≡ p = cc e in
    false≢true (subst (λ (x : Placed). falls_through x.instruction ≡ true) (sym same) falls)
no_type LengthNotConstant (place, p, k, at, new, h) =
    each_at (λ x. x.instruction ≡ instruction.NewArray k → ⊥) loop_code ((λ e. cc e), ((λ e. cc e), ((λ e. cc e), ((λ e. cc e), ((λ e. cc e), ((λ e. cc e), ((λ e. cc e), ((λ e. cc e), ((λ e. cc e), tt))))))))) place p at new
no_type r h = h

pub has_types : HasTypes Third loop_pool loop_parts
has_types = record { none_stands = none }
  where
    none : (r : Refusal) → TypesStand Third loop_pool loop_parts r → ⊥
    none r h =
        let it = only_process (λ m. (e : Environment) × (code : List Placed) × (tables : List (List ℕ)) × IsBody Third loop_pool loop_parts m e code tables × BodyStands view e code tables r) h in
        let one = body_once Third loop_pool loop_parts loop_member it.0 environment it.1 loop_code it.2 (table_content ∷ []) it.3 process_body in
        no_type r
        (subst (λ ts. BodyStands view environment loop_code ts r) one.tables
        (subst (λ ps. BodyStands view environment ps it.2 r) one.code
        (subst (λ e. BodyStands view e it.1 it.2 r) one.environment it.4)))
