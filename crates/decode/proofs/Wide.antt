-- Opcodes that must not follow `wide`.
use Rattle.std.proofs.Common.{◌≡◌, ℕ, List, Some, refl, Err}
use Rattle.jtypes.specs.Layout.{first}
use Rattle.decode.specs.declared.instruction.Form.{Form}
use Rattle.decode.specs.declared.instruction.Form.TheVariants as form
use Rattle.jtypes.specs.declared.operations.Kind.{Kind}
use Rattle.decode.specs.Code.{widened, refused_wide}

pub other_form : (opcode : ℕ) (f : Form) (bytes : List ℕ) → ((k : Kind) → f ≡ form.Load k → ⊥) → ((k : Kind) → f ≡ form.Store k → ⊥) → (f ≡ form.Increment → ⊥) → first (widened opcode (Some f)) bytes ≡ Err (refused_wide opcode)
unfolding widened
other_form opcode (form.Load k) bytes a b c = absurd (a k refl)
other_form opcode (form.Store k) bytes a b c = absurd (b k refl)
other_form opcode form.Increment bytes a b c = absurd (c refl)
other_form opcode f bytes a b c = refl
