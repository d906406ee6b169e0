-- A method of two instructions, `aload_1` and `areturn`.
use Rattle.std.specs.Prelude.{ℕ, List, [], ◌∷◌, Some, false}
use Rattle.jtypes.specs.declared.types.RefType.TheVariants as ref
use Rattle.jtypes.specs.declared.types.JType.{JType}
use Rattle.jtypes.specs.declared.types.JType.TheVariants as type
use Rattle.jtypes.specs.declared.operations.Kind.TheVariants as kind
use Rattle.classfile.specs.View.{ClassView}
use Rattle.decode.specs.declared.instruction.Instruction.TheVariants as instruction
use Rattle.decode.specs.declared.instruction.Placed.{Placed}
use Rattle.frames.specs.Frames.{Frame}
use Rattle.frames.specs.declared.frame.Environment.{Environment}
use Rattle.typecheck.specs.Typing.{Method, Class, IsWellTyped}
use Rattle.typecheck.specs.Mismatch.{IsMismatch}
use Rattle.bounds.specs.Paths.{Path, Cost}
use Rattle.spec_examples.specs.Plain.{placed}

abbrev pub load_entry : Placed
load_entry = placed 0 1 (instruction.Load kind.Reference 1)

abbrev pub give : Placed
give = placed 1 2 (instruction.Return kind.Reference)

abbrev pub environment : ℕ → Environment
environment stack = record {
  signature = record {
    params = type.Ref ref.This ∷ type.Ref ref.MutableEntry ∷ type.Ref ref.ObjectArray ∷ [];
    result = Some (type.Ref ref.Object);
    is_boolean = false;
  };
  max_stack = stack;
  max_locals = 3;
}

-- The method with `stack` slots of operand stack.
abbrev pub method : ℕ → Method
method stack = record { environment = environment stack; code = load_entry ∷ give ∷ []; declared = [] }

abbrev pub frame : List JType → Frame
frame stack = record { locals = type.Ref ref.This ∷ type.Ref ref.MutableEntry ∷ type.Ref ref.ObjectArray ∷ []; stack = stack }

abbrev pub class : ClassView → Class
class v = record { view = v; methods = method 1 ∷ [] }

abbrev pub cost : Cost
cost = record { steps = 2; words = 0; slots = 4; depth = 1 }

-- With one slot the method is well typed and has a path of two steps; without a slot it has a mismatch at pc 0.
abbrev pub GivesEntry : Type 0
GivesEntry = (v : ClassView) → IsWellTyped v (method 1) × Path (class v) 0 0 cost × IsMismatch v (method 0) 0
