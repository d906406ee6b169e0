-- The small class with a loop is checked, and safe within its bounds.
use Rattle.std.proofs.Common.{◌≡◌, ℕ, ◌==◌, Bool, true, false, cond, List, [], ◌∷◌, Some, None, refl, ap, ◌∙◌, subst, arith, ◌⊎◌, inl, inr}
use Rattle.std.specs.Prelude.{ℤ, pos}
use Rattle.std.proofs.lemmas.Bool.{eqb-true}
use Rattle.jtypes.specs.declared.types.RefType.TheVariants as ref
use Rattle.jtypes.specs.declared.types.JType.{JType}
use Rattle.jtypes.specs.declared.types.JType.TheVariants as type
use Rattle.constpool.specs.Descriptor.{sig_of, read_params, read_type}
use Rattle.classfile.specs.View.{ClassView}
use Rattle.decode.specs.declared.instruction.Instruction.TheVariants as instruction
use Rattle.frames.specs.Frames.{Frame, FrameAssignable}
use Rattle.frames.specs.Signatures.{class_type, field_type, field_types, result_type, signature_of, method_signature}
use Rattle.typecheck.specs.Typing.{IsTyping, declared_at, frame_at}
use Rattle.verdict.specs.Checked.{NoTop}
use Rattle.unrolled.specs.Example.{loop_frame, loop_process, loop_method, loop_class, loop_points}
use Rattle.unrolled.proofs.Unrolled.{unrolled_has_bounds, loop_is_unrolled}
use Rattle.soundness.proofs.StraightCode.{each_at, EachOutcome, outcome_at, nowhere, typed_methods, only_member, only_instance}
use Rattle.loop_soundness.specs.Checked.{IsFormedWithLoops, IsCheckedWithLoops}
use Rattle.loop_soundness.specs.Example.{LoopIsSafe}
use Rattle.loop_soundness.proofs.Safe.{sound_unrolled}

abbrev view : ClassView
view = loop_class.view

-- ---- the types

-- before the store the local variable 3 has no value
abbrev frame_before : List JType → Frame
frame_before stack = record { locals = type.Ref ref.This ∷ type.Ref ref.MutableEntry ∷ type.Ref ref.ObjectArray ∷ type.Top ∷ []; stack = stack }

abbrev frame_with : List JType → Frame
frame_with stack = record { locals = loop_frame.locals; stack = stack }

abbrev frames : List Frame
frames =
    frame_before [] ∷ frame_before (type.Int ∷ []) ∷ frame_with [] ∷ frame_with (type.Int ∷ []) ∷ frame_with (type.Int ∷ type.Int ∷ [])
    ∷ frame_with [] ∷ frame_with [] ∷ frame_with [] ∷ frame_with (type.Null ∷ []) ∷ []

fits : FrameAssignable loop_frame loop_frame
fits = record { locals = (refl, (refl, (refl, (refl, tt)))); stack = tt }

pub to_only : (target : ℤ) (t : ℤ) → (Some target ≡ Some t) ⊎ ((k : ℕ) × (None ≡ Some t)) → t ≡ target
to_only target t (inl e) = cc e
to_only target t (inr (k, e)) = cc e

outcomes : EachOutcome view loop_method frames loop_method.code frames
outcomes = (
  (frame_before (type.Int ∷ []), refl, record { branches = λ t h. absurd (nowhere t h); falls = λ h. refl; after = λ h k. absurd cc }),
  (
    (frame_with [], refl, record { branches = λ t h. absurd (nowhere t h); falls = λ h. fits; after = λ h k. absurd cc }),
    (
      (frame_with (type.Int ∷ []), refl, record { branches = λ t h. absurd (nowhere t h); falls = λ h. refl; after = λ h k. absurd cc }),
      (
        (frame_with (type.Int ∷ type.Int ∷ []), refl, record { branches = λ t h. absurd (nowhere t h); falls = λ h. refl; after = λ h k. absurd cc }),
        (
          (frame_with [], refl, record { branches = λ t h. (13, loop_frame, to_only (pos 13) t h, refl, fits); falls = λ h. refl; after = λ h k. absurd cc }),
          (
            (frame_with [], refl, record { branches = λ t h. absurd (nowhere t h); falls = λ h. refl; after = λ h k. absurd cc }),
            (
              (frame_with [], refl, record { branches = λ t h. (2, loop_frame, to_only (pos 2) t h, refl, fits); falls = λ h. absurd cc; after = λ h k. refl }),
              (
                (frame_with (type.Null ∷ []), refl, record { branches = λ t h. absurd (nowhere t h); falls = λ h. refl; after = λ h k. absurd cc }),
                ((frame_with (type.Null ∷ []), refl, record { branches = λ t h. absurd (nowhere t h); falls = λ h. absurd cc; after = λ h k. absurd cc }), tt),
              ),
            ),
          ),
        ),
      ),
    ),
  ),
)

-- A frame is declared at 2 and at 13.
pub declared_is : (p : ℕ) (d : Frame) → declared_at loop_method p ≡ Some d → (loop_frame ≡ d) × ((2 ≡ p) ⊎ (13 ≡ p))
declared_is p d h = go (2 == p) refl (13 == p) refl h
  where
    go : (a : Bool) → (2 == p) ≡ a → (b : Bool) → (13 == p) ≡ b → cond a (Some loop_frame) (cond b (Some loop_frame) None) ≡ Some d → (loop_frame ≡ d) × ((2 ≡ p) ⊎ (13 ≡ p))
    go true e b f h = (cc h, inl (eqb-true 2 p e))
    go false e true f h = (cc h, inr (eqb-true 13 p f))
    go false e false f h = absurd cc

stands : (p : ℕ) (d : Frame) → declared_at loop_method p ≡ Some d → frame_at loop_method frames p ≡ Some d
stands p d h = let q = declared_is p d h in go q.1 ∙ ap (λ (x : Frame). Some x) q.0
  where
    go : (2 ≡ p) ⊎ (13 ≡ p) → frame_at loop_method frames p ≡ Some loop_frame
    go (inl e) = subst (λ q. frame_at loop_method frames q ≡ Some loop_frame) e refl
    go (inr e) = subst (λ q. frame_at loop_method frames q ≡ Some loop_frame) e refl

typing : IsTyping view loop_method frames
typing = record {
  each_has_one = refl;
  first = refl;
  stands = stands;
  outcome = λ q p f h k. outcome_at view loop_method frames loop_method.code frames outcomes q p f h k;
  last = (_, refl, refl);
}

-- ---- the other premises

pub formed : IsFormedWithLoops loop_method
formed = record {
  params = ((λ h. cc h), ((λ h. cc h), ((λ h. cc h), tt)));
  result = ((λ h. cc h), tt);
  declared = λ p d h. let q = declared_is p d h in subst (λ (x : Frame). NoTop x.stack) q.0 tt;
  consecutive = (refl, omega arith, (refl, omega arith, (refl, omega arith, (refl, omega arith, (refl, omega arith, (refl, omega arith, (refl, omega arith, (refl, omega arith, (refl, omega arith, tt)))))))));
  lengths = λ q p k h e. absurd (each_at (λ p. p.instruction ≡ instruction.NewArray k → ⊥) loop_method.code ((λ e. cc e), ((λ e. cc e), ((λ e. cc e), ((λ e. cc e), ((λ e. cc e), ((λ e. cc e), ((λ e. cc e), ((λ e. cc e), ((λ e. cc e), tt))))))))) q p h e);
}

signed : method_signature view loop_process ≡ Some loop_method.environment.signature
unfolding sig_of read_params read_type class_type field_type field_types result_type signature_of method_signature
signed = refl

checked : IsCheckedWithLoops loop_class
checked =
    let methods = typed_methods view loop_process loop_method refl signed frames typing (refl, (refl, (refl, (refl, (refl, (refl, (refl, (refl, (refl, tt))))))))) in
    record {
      named = refl;
      instance = λ j v is. only_instance view loop_process refl refl j v;
      count = methods.count;
      signed = methods.signed;
      typed = methods.typed;
      formed = only_member IsFormedWithLoops view loop_method formed;
      ordered = methods.ordered;
    }

pub loop_is_safe : LoopIsSafe
loop_is_safe =
    let u = loop_is_unrolled.unrolled in
    let b = unrolled_has_bounds loop_class 0 loop_method loop_points u in
    record { checked = checked; process = refl; bounds = b.0; are = b.1; safe = sound_unrolled loop_class 0 loop_method loop_points b.0 checked u refl refl b.1 }
