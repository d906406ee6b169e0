-- A class that is accepted with loops is checked but for the direction of branches, and checked if no branch leads back.
use Rattle.std.proofs.Common.{◌≡◌, ℕ, false, List, subst}
use Rattle.jtypes.specs.Profile.{Third}
use Rattle.jtypes.specs.declared.refusal.Refusal.TheVariants.{Recursive}
use Rattle.typecheck.specs.Typing.{Class}
use Rattle.bounds.specs.Recursion.{IsOrdered, IsRecursive}
use Rattle.bounds.proofs.Ranks.{not_recursive_has_ranks}
use Rattle.verdict.specs.Shape.{ShapeStands}
use Rattle.verdict.specs.Verdict.{by_shape, by_instructions, HasShape, HasTypes, IsClassOf}
use Rattle.verdict.specs.Checked.{IsChecked}
use Rattle.soundness.proofs.Callees.{HasSignatures}
use Rattle.unrolled.specs.Rules.{has_loops}
use Rattle.loop_soundness.specs.Checked.{IsCheckedWithLoops}
use Rattle.loop_soundness.specs.Accepted.{HasInstructionsWithLoops, IsAcceptedWithLoops, as_before, by_types, by_class}
use Rattle.loop_soundness.specs.Promise.{AcceptedIsChecked}
use Rattle.loop_soundness.proofs.ShapedClasses.{shaped_signatures}
use Rattle.loop_soundness.proofs.TypedClasses.{shaped_room, typed, formed}
use Rattle.loop_soundness.proofs.BackwardBranches.{leads_forward}

module _ (bytes : List ℕ) (ok : IsAcceptedWithLoops bytes) (c : Class) (of : IsClassOf Third bytes c) where
  pub shape : HasShape of.pool of.parts
  shape = record { none_stands = λ r s. ok.none_stands r (as_before (by_shape of.pool of.parts of.file s) (λ e. subst (ShapeStands of.pool of.parts) e s)) }

  pub instructions : HasInstructionsWithLoops of.pool of.parts
  instructions = record { none_else = λ r other s. ok.none_stands r (as_before (by_instructions of.pool of.parts of.file shape s) other) }

  pub types : HasTypes Third of.pool of.parts
  types = record { none_stands = λ r s. ok.none_stands r (by_types of.pool of.parts of.file shape instructions s) }

  pub not_recursive : IsRecursive c → ⊥
  not_recursive h = ok.none_stands Recursive (by_class of.pool of.parts c of.file shape instructions types of.class h)

  ordered : (rank : ℕ → ℕ) × IsOrdered c rank
  ordered = not_recursive_has_ranks c not_recursive

  pub signatures : HasSignatures c
  signatures = shaped_signatures bytes c of shape

  pub checked_with_loops : IsCheckedWithLoops c
  checked_with_loops = record {
    named = signatures.named;
    instance = signatures.instance;
    count = signatures.count;
    signed = signatures.signed;
    typed = typed bytes c of shape types;
    formed = formed bytes c of shape types;
    ordered = ordered;
  }

  pub checked_forward : has_loops c.methods ≡ false → IsChecked c
  checked_forward none = record {
    named = signatures.named;
    instance = signatures.instance;
    count = signatures.count;
    signed = signatures.signed;
    typed = typed bytes c of shape types;
    formed = λ j w m member. let it = formed bytes c of shape types j w m member in record {
      params = it.params;
      result = it.result;
      room = shaped_room bytes c of shape j w m member;
      declared = it.declared;
      forward = leads_forward c.methods j m none member.method;
      consecutive = it.consecutive;
      lengths = it.lengths;
    };
    ordered = ordered;
  }

pub accepted_is_checked : AcceptedIsChecked
accepted_is_checked bytes c ok of = checked_with_loops bytes ok c of
