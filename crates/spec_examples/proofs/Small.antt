-- A method of two instructions is well typed with one stack slot, and has a mismatch without one.
use Rattle.std.proofs.Common.{◌≡◌, ◌==◌, Bool, true, false, cond, List, [], ◌∷◌, Some, None, refl, subst, arith, inl}
use Rattle.classfile.specs.View.{ClassView}
use Rattle.decode.specs.declared.instruction.Placed.{Placed}
use Rattle.jtypes.specs.declared.types.RefType.TheVariants as ref
use Rattle.jtypes.specs.declared.types.JType.TheVariants as type
use Rattle.frames.specs.Frames.{Frame}
use Rattle.typecheck.specs.Typing.{HasOutcome, IsTyping}
use Rattle.typecheck.specs.Mismatch.{IsTypedBefore, at_place_of}
use Rattle.bounds.specs.Paths.{Path, ends, falls}
use Rattle.spec_examples.specs.Small.{load_entry, give, method, frame, class, cost, GivesEntry}
use Rattle.soundness.proofs.StraightCode.{nowhere}

abbrev second : Frame
second = frame (type.Ref ref.MutableEntry ∷ [])

abbrev both : List Frame
both = frame [] ∷ second ∷ []

at_first : (v : ClassView) → HasOutcome v (method 1) both load_entry (frame [])
at_first v = (second, refl, record { branches = λ t h. absurd (nowhere t h); falls = λ h. refl; after = λ h k. absurd cc })

at_second : (v : ClassView) → HasOutcome v (method 1) both give second
at_second v = (second, refl, record { branches = λ t h. absurd (nowhere t h); falls = λ h. absurd cc; after = λ h k. absurd cc })

outcomes : (v : ClassView) (b d : Bool) (p : Placed) (f : Frame) → cond b (Some load_entry) (cond d (Some give) None) ≡ Some p → cond b (Some (frame [])) (cond d (Some second) None) ≡ Some f → HasOutcome v (method 1) both p f
outcomes v true d p f h k =
    let e : load_entry ≡ p = cc in
    let g : frame [] ≡ f = cc in
    subst (λ x. HasOutcome v (method 1) both x f) e (subst (λ y. HasOutcome v (method 1) both load_entry y) g (at_first v))
outcomes v false true p f h k =
    let e : give ≡ p = cc in
    let g : second ≡ f = cc in
    subst (λ x. HasOutcome v (method 1) both x f) e (subst (λ y. HasOutcome v (method 1) both give y) g (at_second v))
outcomes v false false p f h k = absurd cc

typing : (v : ClassView) → IsTyping v (method 1) both
typing v = record {
  each_has_one = refl;
  first = refl;
  stands = λ p d h. absurd cc;
  outcome = λ q p f h k. outcomes v (0 == q) (1 == q) p f h k;
  last = (give, refl, refl);
}

path : (v : ClassView) → Path (class v) 0 0 cost
path v = falls (method 1) load_entry (record { method = refl; instruction = refl }) refl refl (ends (method 1) give (record { method = refl; instruction = refl }) refl)

before : (v : ClassView) → IsTypedBefore v (method 0) both 0
before v = record { each_has_one = refl; first = refl; stands = λ p d h. absurd cc; outcome = λ q p f low h k. absurd (omega arith) }

pub gives_entry : GivesEntry
gives_entry v = ((both, typing v), path v, at_place_of both 0 load_entry (frame []) (before v) refl refl (inl refl))
