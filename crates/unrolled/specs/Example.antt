-- A worked example: `for (int i = 0; i < 2; i++) {}`, then `process` returns null.
use Rattle.std.specs.Prelude.{◌≡◌, ℕ, suc, true, false, List, [], ◌∷◌, ◌++◌, Some, pos, codes}
use Rattle.jtypes.specs.declared.types.JType.TheVariants as type
use Rattle.jtypes.specs.declared.types.RefType.TheVariants as ref
use Rattle.jtypes.specs.declared.operations.Kind.TheVariants as kind
use Rattle.jtypes.specs.declared.operations.Pushed.TheVariants as pushed
use Rattle.jtypes.specs.declared.operations.Comparison.TheVariants.{GreaterOrEqual}
use Rattle.jtypes.specs.declared.operations.Test.TheVariants.{OfInts}
use Rattle.constpool.specs.Names.{process_name, process_descriptor}
use Rattle.classfile.specs.View.{MethodView}
use Rattle.decode.specs.declared.instruction.Instruction.TheVariants as instruction
use Rattle.decode.specs.declared.instruction.Placed.{Placed}
use Rattle.frames.specs.Frames.{Frame}
use Rattle.typecheck.specs.Typing.{Method, Class}
use Rattle.unrolled.specs.Known.{Known, Narrow, Number, Arguments}
use Rattle.unrolled.specs.Rules.{has_loops}
use Rattle.unrolled.specs.Certificates.{Point}
use Rattle.unrolled.specs.Limits.{IsUnrolled}

abbrev pub loop_code : List Placed
loop_code =
    record { place = 0; next = 1; instruction = instruction.Push (pushed.Int (pos 0)) }
    ∷ record { place = 1; next = 2; instruction = instruction.Store kind.Int 3 }
    ∷ record { place = 2; next = 3; instruction = instruction.Load kind.Int 3 }
    ∷ record { place = 3; next = 4; instruction = instruction.Push (pushed.Int (pos 2)) }
    ∷ record { place = 4; next = 7; instruction = instruction.Branch (OfInts GreaterOrEqual) (pos 13) }
    ∷ record { place = 7; next = 10; instruction = instruction.Increment 3 (pos 1) }
    ∷ record { place = 10; next = 13; instruction = instruction.Goto (pos 2) }
    ∷ record { place = 13; next = 14; instruction = instruction.Push pushed.Null }
    ∷ record { place = 14; next = 15; instruction = instruction.Return kind.Reference }
    ∷ []

-- the frame that is declared at both targets
abbrev pub loop_frame : Frame
loop_frame = record { locals = type.Ref ref.This ∷ type.Ref ref.MutableEntry ∷ type.Ref ref.ObjectArray ∷ type.Int ∷ []; stack = [] }

abbrev pub loop_method : Method
loop_method = record {
  environment = record {
    signature = record { params = type.Ref ref.This ∷ type.Ref ref.MutableEntry ∷ type.Ref ref.ObjectArray ∷ []; result = Some (type.Ref ref.Object); is_boolean = false };
    max_stack = 2;
    max_locals = 4;
  };
  code = loop_code;
  declared = (2, loop_frame) ∷ (13, loop_frame) ∷ [];
}

-- `public Object process(MutableEntry, Object[])`
abbrev pub loop_process : MethodView
loop_process = record { flags = 1; name = process_name; descriptor = process_descriptor }

abbrev pub loop_class : Class
loop_class = record { view = record { pool = []; name = codes "Loop"; methods = loop_process ∷ [] }; methods = loop_method ∷ [] }

-- ---- its nodes: the local variable 3 is 0, 1 and 2

abbrev pub loop_point : ℕ → Known → List Known → Point
loop_point place i operands = record { method = 0; node = record { place = place; locals = Narrow ∷ Narrow ∷ Arguments ∷ i ∷ []; operands = operands } }

-- the test of the loop
abbrev pub loop_head : ℕ → List Point
loop_head n =
    loop_point 2 (Number (pos n)) []
    ∷ loop_point 3 (Number (pos n)) (Number (pos n) ∷ [])
    ∷ loop_point 4 (Number (pos n)) (Number (pos 2) ∷ Number (pos n) ∷ [])
    ∷ []

abbrev pub loop_body : ℕ → List Point
loop_body n = loop_point 7 (Number (pos n)) [] ∷ loop_point 10 (Number (pos (suc n))) [] ∷ []

abbrev pub loop_points : List Point
loop_points =
    (loop_point 0 Narrow [] ∷ loop_point 1 Narrow (Number (pos 0) ∷ []) ∷ [])
    ++ loop_head 0 ++ loop_body 0
    ++ loop_head 1 ++ loop_body 1
    ++ loop_head 2
    ++ (loop_point 13 (Number (pos 2)) [] ∷ loop_point 14 (Number (pos 2)) (Narrow ∷ []) ∷ [])

-- It has a branch that leads back, and its nodes are listed.
pub record LoopIsUnrolled : Type 0 where
  pub loops : has_loops loop_class.methods ≡ true
  pub unrolled : IsUnrolled loop_class 0 loop_method loop_points
