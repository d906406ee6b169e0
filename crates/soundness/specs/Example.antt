-- A small class whose `process` loads the entry and returns it.
use Rattle.std.specs.Prelude.{[], ◌∷◌, Some, false, codes}
use Rattle.jtypes.specs.declared.types.RefType.TheVariants as ref
use Rattle.jtypes.specs.declared.types.JType.TheVariants as type
use Rattle.jtypes.specs.declared.operations.Kind.TheVariants as kind
use Rattle.constpool.specs.Names.{process_name, process_descriptor}
use Rattle.classfile.specs.View.{MethodView}
use Rattle.decode.specs.declared.instruction.Instruction.TheVariants as instruction
use Rattle.decode.specs.declared.instruction.Placed.{Placed}
use Rattle.frames.specs.declared.signatures.Signature.{Signature}
use Rattle.typecheck.specs.Typing.{Method, Class}
use Rattle.bounds.specs.Paths.{Bounds}

-- `aload_1` and `areturn`
abbrev pub load_entry : Placed
load_entry = record { place = 0; next = 1; instruction = instruction.Load kind.Reference 1 }

abbrev pub give : Placed
give = record { place = 1; next = 2; instruction = instruction.Return kind.Reference }

-- `public Object process(MutableEntry, Object[])`
abbrev pub process : MethodView
process = record { flags = 1; name = process_name; descriptor = process_descriptor }

abbrev pub signature : Signature
signature = record {
  params = type.Ref ref.This ∷ type.Ref ref.MutableEntry ∷ type.Ref ref.ObjectArray ∷ [];
  result = Some (type.Ref ref.Object);
  is_boolean = false;
}

abbrev pub method : Method
method = record {
  environment = record { signature = signature; max_stack = 1; max_locals = 3 };
  code = load_entry ∷ give ∷ [];
  declared = [];
}

-- The instructions use no constant, so the constant pool is empty.
abbrev pub example : Class
example = record {
  view = record { pool = []; name = codes "Example"; methods = process ∷ [] };
  methods = method ∷ [];
}

-- Two steps, no array words, three local variables and one operand, one activation.
abbrev pub limits : Bounds
limits = record { steps = 2; words = 0; slots = 4; depth = 1 }
