-- The bytes of a small class whose `process` loads the entry and returns it.
use Rattle.std.specs.Prelude.{ℕ, List, [], ◌∷◌, ◌++◌, length, Some, None, false, codes}
use Rattle.constpool.specs.declared.constant.Constant.TheVariants.{Utf8, Class, NameAndType, Methodref}
use Rattle.constpool.specs.Lookup.{Slot}
use Rattle.constpool.specs.Names.{object_name, entry_processor_name, init_name, process_name, process_descriptor, code_name}
use Rattle.classfile.specs.declared.class_file.Attribute.{Attribute}
use Rattle.classfile.specs.declared.class_file.Member.{Member}
use Rattle.classfile.specs.declared.class_file.Parts.{Parts}
use Rattle.classfile.specs.View.{view_of}
use Rattle.jtypes.specs.declared.types.RefType.TheVariants as ref
use Rattle.jtypes.specs.declared.types.JType.TheVariants as type
use Rattle.jtypes.specs.declared.operations.Kind.TheVariants as kind
use Rattle.jtypes.specs.declared.operations.Invoke.TheVariants as invoke
use Rattle.decode.specs.declared.instruction.Instruction.TheVariants as instruction
use Rattle.decode.specs.declared.instruction.Placed.{Placed}
use Rattle.frames.specs.declared.signatures.Signature.{Signature}
use Rattle.typecheck.specs.Typing as typing
use Rattle.soundness.specs.Example as example

-- ---- the bytes; all indices and lengths are below 256

-- The bytes of a Utf8, a Class, a NameAndType and a Methodref constant (JVMS §4.4).
abbrev text : List ℕ → List ℕ
text s = 1 ∷ 0 ∷ length s ∷ s

abbrev named : ℕ → List ℕ
named i = 7 ∷ 0 ∷ i ∷ []

abbrev pair : ℕ → ℕ → List ℕ
pair i j = 12 ∷ 0 ∷ i ∷ 0 ∷ j ∷ []

abbrev reference : ℕ → ℕ → List ℕ
reference i j = 10 ∷ 0 ∷ i ∷ 0 ∷ j ∷ []

abbrev constants : List ℕ
constants =
    text (codes "Small") ++ named 1 ++ text object_name ++ named 3 ++ text entry_processor_name ++ named 5
    ++ text init_name ++ text (codes "()V") ++ pair 7 8 ++ reference 4 9 ++ text code_name ++ text process_name ++ text process_descriptor

-- The content of a `Code` attribute without exception handlers and attributes (JVMS §4.7.3).
abbrev code_content : ℕ → ℕ → List ℕ → List ℕ
code_content stack locals code = 0 ∷ stack ∷ 0 ∷ locals ∷ 0 ∷ 0 ∷ 0 ∷ length code ∷ (code ++ 0 ∷ 0 ∷ 0 ∷ 0 ∷ [])

-- A public method with a `Code` attribute.
abbrev method_bytes : ℕ → ℕ → List ℕ → List ℕ
method_bytes name descriptor content = 0 ∷ 1 ∷ 0 ∷ name ∷ 0 ∷ descriptor ∷ 0 ∷ 1 ∷ 0 ∷ 11 ∷ 0 ∷ 0 ∷ 0 ∷ length content ∷ content

-- `aload_0`, `invokespecial java/lang/Object.<init>()V`, `return`
abbrev pub constructor_content : List ℕ
constructor_content = code_content 1 1 (0x2A ∷ 0xB7 ∷ 0 ∷ 10 ∷ 0xB1 ∷ [])

-- `aload_1`, `areturn`
abbrev pub process_content : List ℕ
process_content = code_content 1 3 (0x2B ∷ 0xB0 ∷ [])

-- `public class Small implements EntryProcessor`, class file version 52.0
abbrev pub small_bytes : List ℕ
small_bytes =
    0xCA ∷ 0xFE ∷ 0xBA ∷ 0xBE ∷ 0 ∷ 0 ∷ 0 ∷ 52 ∷ 0 ∷ 14
    ∷ (constants ++ 0 ∷ 0x21 ∷ 0 ∷ 2 ∷ 0 ∷ 4 ∷ 0 ∷ 1 ∷ 0 ∷ 6 ∷ 0 ∷ 0 ∷ 0 ∷ 2
    ∷ (method_bytes 7 8 constructor_content ++ method_bytes 12 13 process_content ++ 0 ∷ 0 ∷ []))

-- ---- the class of the bytes

abbrev pub small_pool : List Slot
small_pool =
    Some (Utf8 (codes "Small")) ∷ Some (Class 1) ∷ Some (Utf8 object_name) ∷ Some (Class 3) ∷ Some (Utf8 entry_processor_name) ∷ Some (Class 5)
    ∷ Some (Utf8 init_name) ∷ Some (Utf8 (codes "()V")) ∷ Some (NameAndType 7 8) ∷ Some (Methodref 4 9) ∷ Some (Utf8 code_name) ∷ Some (Utf8 process_name) ∷ Some (Utf8 process_descriptor) ∷ []

abbrev pub code_of : List ℕ → Attribute
code_of content = record { name = 11; content = content }

abbrev pub constructor_member : Member
constructor_member = record { flags = 1; name = 7; descriptor = 8; attributes = code_of constructor_content ∷ [] }

abbrev pub process_member : Member
process_member = record { flags = 1; name = 12; descriptor = 13; attributes = code_of process_content ∷ [] }

abbrev pub small_parts : Parts
small_parts = record {
  flags = 0x21;
  this_class = 2;
  super_class = 4;
  interfaces = 6 ∷ [];
  fields = [];
  methods = constructor_member ∷ process_member ∷ [];
  attributes = [];
}

abbrev pub constructor_signature : Signature
constructor_signature = record { params = type.Ref ref.This ∷ []; result = None; is_boolean = false }

abbrev pub constructor_code : List Placed
constructor_code =
    record { place = 0; next = 1; instruction = instruction.Load kind.Reference 0 }
    ∷ record { place = 1; next = 4; instruction = instruction.Invoke invoke.Special 10 }
    ∷ record { place = 4; next = 5; instruction = instruction.ReturnVoid } ∷ []

abbrev pub constructor_method : typing.Method
constructor_method = record {
  environment = record { signature = constructor_signature; max_stack = 1; max_locals = 1 };
  code = constructor_code;
  declared = [];
}

-- The small class has the `process` method of `Example`.
abbrev pub small_class : typing.Class
small_class = record { view = view_of small_pool small_parts; methods = constructor_method ∷ example.method ∷ [] }
