-- The small class is checked, and its bounds are the cost of its only path.
use Rattle.std.proofs.Common.{◌≡◌, List, [], ◌∷◌, Some, refl, sym, subst, arith}
use Rattle.std.specs.Prelude.{pos}
use Rattle.jtypes.specs.declared.types.RefType.TheVariants as ref
use Rattle.jtypes.specs.declared.types.JType.{JType}
use Rattle.jtypes.specs.declared.types.JType.TheVariants as type
use Rattle.constpool.specs.Descriptor.{sig_of, read_params, read_type}
use Rattle.decode.specs.declared.instruction.Instruction.TheVariants.{NewArray}
use Rattle.decode.proofs.Targets.{no_target}
use Rattle.frames.specs.Frames.{Frame}
use Rattle.frames.specs.Signatures.{class_type, field_type, field_types, result_type, signature_of, method_signature}
use Rattle.typecheck.specs.Typing.{IsTyping, IsProcessOf}
use Rattle.bounds.specs.Paths.{Cost, Path, falls, ends, IsWithin, AreBounds, last_cost, after_one}
use Rattle.verdict.specs.Checked.{IsFormed, IsChecked}
use Rattle.verdict.specs.Sound.{IsSafe}
use Rattle.soundness.specs.Example.{load_entry, give, process, signature, method, example, limits}
use Rattle.soundness.proofs.SafeRuns.{type_soundness}
use Rattle.soundness.proofs.StraightCode.{each_at, EachOutcome, outcome_at, from_last, from_before, typed_methods, only_member, only_instance, IsStraight, nowhere}

-- ---- the types

abbrev frame : List JType → Frame
frame stack = record { locals = type.Ref ref.This ∷ type.Ref ref.MutableEntry ∷ type.Ref ref.ObjectArray ∷ []; stack = stack }

abbrev loaded : Frame
loaded = frame (type.Ref ref.MutableEntry ∷ [])

abbrev frames : List Frame
frames = frame [] ∷ loaded ∷ []

outcomes : EachOutcome example.view method frames method.code frames
outcomes = (
  (loaded, refl, record { branches = λ t h. absurd (nowhere t h); falls = λ h. refl; after = λ h k. absurd cc }),
  ((loaded, refl, record { branches = λ t h. absurd (nowhere t h); falls = λ h. absurd cc; after = λ h k. absurd cc }), tt),
)

typing : IsTyping example.view method frames
typing = record {
  each_has_one = refl;
  first = refl;
  stands = λ p d h. absurd cc;
  outcome = λ q p f h k. outcome_at example.view method frames method.code frames outcomes q p f h k;
  last = (give, refl, refl);
}

-- ---- the other premises

formed : IsFormed method
formed = record {
  params = ((λ h. cc h), ((λ h. cc h), ((λ h. cc h), tt)));
  result = ((λ h. cc h), tt);
  room = omega arith;
  declared = λ p d h. absurd cc;
  forward = λ q r p h k. absurd (no_target p.instruction (pos r) (each_at IsStraight method.code (refl, (refl, tt)) q p h) k);
  consecutive = (refl, omega arith, (refl, omega arith, tt));
  lengths = λ q p k h e. absurd (each_at (λ p. p.instruction ≡ NewArray k → ⊥) method.code ((λ e. cc e), ((λ e. cc e), tt)) q p h e);
}

signed : method_signature example.view process ≡ Some signature
unfolding sig_of read_params read_type class_type field_type field_types result_type signature_of method_signature
signed = refl

is_process : IsProcessOf example 0
is_process = refl

pub is_checked : IsChecked example
is_checked =
    let methods = typed_methods example.view process method refl signed frames typing (refl, (refl, tt)) in
    record {
      named = refl;
      instance = λ j v is. only_instance example.view process refl refl j v;
      count = methods.count;
      signed = methods.signed;
      typed = methods.typed;
      formed = only_member IsFormed example.view method formed;
      ordered = methods.ordered;
    }

-- ---- the paths

abbrev cost : Cost
cost = after_one 0 (last_cost method)

path : Path example 0 0 cost
path = falls method load_entry (record { method = refl; instruction = refl }) refl refl (ends method give (record { method = refl; instruction = refl }) refl)

paths : (k : Cost) → Path example 0 0 k → k ≡ cost
paths k p =
    from_before example.view method 0 load_entry refl (record { stays = refl; straight = refl; lone = refl }) (last_cost method)
    (from_last example.view method 1 give refl (record { over = refl; straight = refl; lone = refl }))
    0 0 k refl p

within : (k : Cost) → k ≡ cost → IsWithin k limits
within k e = subst (λ x. IsWithin x limits) (sym e) (record { steps = omega arith; words = omega arith; slots = omega arith; depth = omega arith })

pub are_bounds : AreBounds example 0 limits
are_bounds = record {
  none_exceeds = λ k p. within k (paths k p);
  steps = (cost, path, refl);
  words = (cost, path, refl);
  slots = (cost, path, refl);
  depth = (cost, path, refl);
}

pub is_safe : IsSafe example limits
is_safe = type_soundness example 0 limits is_checked is_process are_bounds.none_exceeds
