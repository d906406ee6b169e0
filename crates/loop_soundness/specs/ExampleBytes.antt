-- The bytes of a small class with a loop: `for (int i = 0; i < 2; i++) {}`, then `process` returns null.
use Rattle.std.specs.Prelude.{◌≡◌, ℕ, true, List, [], ◌∷◌, ◌++◌, length, map, Some, slice_get, codes}
use Rattle.constpool.specs.declared.constant.Constant.TheVariants.{Utf8, Class, NameAndType, Methodref}
use Rattle.constpool.specs.Lookup.{Slot}
use Rattle.constpool.specs.Names.{object_name, entry_processor_name, init_name, process_name, process_descriptor, code_name}
use Rattle.jtypes.specs.Profile.{Third}
use Rattle.jtypes.specs.declared.refusal.Refusal.TheVariants.{BackwardBranch}
use Rattle.classfile.specs.declared.class_file.Member.{Member}
use Rattle.classfile.specs.declared.class_file.Parts.{Parts}
use Rattle.classfile.specs.View.{view_of}
use Rattle.typecheck.specs.Typing as typing
use Rattle.typecheck.specs.Typing.{IsProcessOf}
use Rattle.verdict.specs.Verdict.{IsClassOf, IsRefused}
use Rattle.soundness.specs.Accepted.{constructor_content, constructor_member, constructor_method, code_of}
use Rattle.unrolled.specs.Rules.{has_loops}
use Rattle.unrolled.specs.Certificates.{Point}
use Rattle.unrolled.specs.Example.{loop_method, loop_points}
use Rattle.loop_soundness.specs.Accepted.{IsAcceptedWithLoops}

-- ---- the bytes; all indices and lengths are below 256

-- the bytes of a Utf8, a Class, a NameAndType and a Methodref constant (JVMS §4.4)
abbrev text : List ℕ → List ℕ
text s = 1 ∷ 0 ∷ length s ∷ s

abbrev named : ℕ → List ℕ
named i = 7 ∷ 0 ∷ i ∷ []

abbrev pair : ℕ → ℕ → List ℕ
pair i j = 12 ∷ 0 ∷ i ∷ 0 ∷ j ∷ []

abbrev reference : ℕ → ℕ → List ℕ
reference i j = 10 ∷ 0 ∷ i ∷ 0 ∷ j ∷ []

abbrev pub table_name : List ℕ
table_name = codes "StackMapTable"

abbrev constants : List ℕ
constants =
    text (codes "Loop") ++ named 1 ++ text object_name ++ named 3 ++ text entry_processor_name ++ named 5
    ++ text init_name ++ text (codes "()V") ++ pair 7 8 ++ reference 4 9 ++ text code_name ++ text process_name ++ text process_descriptor ++ text table_name

-- a public method with a `Code` attribute
abbrev method_bytes : ℕ → ℕ → List ℕ → List ℕ
method_bytes name descriptor content = 0 ∷ 1 ∷ 0 ∷ name ∷ 0 ∷ descriptor ∷ 0 ∷ 1 ∷ 0 ∷ 11 ∷ 0 ∷ 0 ∷ 0 ∷ length content ∷ content

-- `iconst_0`, `istore_3`, `iload_3`, `iconst_2`, `if_icmpge` 13, `iinc` 3 1, `goto` 2, `aconst_null`, `areturn`
abbrev pub loop_text : List ℕ
loop_text = 0x03 ∷ 0x3E ∷ 0x1D ∷ 0x05 ∷ 0xA2 ∷ 0 ∷ 9 ∷ 0x84 ∷ 3 ∷ 1 ∷ 0xA7 ∷ 0xFF ∷ 0xF8 ∷ 0x01 ∷ 0xB0 ∷ []

-- two frames: at 2 with an int as the fourth local variable, and the same at 13 (JVMS §4.7.4)
abbrev pub table_content : List ℕ
table_content = 0 ∷ 2 ∷ 252 ∷ 0 ∷ 2 ∷ 1 ∷ 10 ∷ []

-- two operands, four local variables, no exception handlers and the stack map table (JVMS §4.7.3)
abbrev pub loop_content : List ℕ
loop_content =
    0 ∷ 2 ∷ 0 ∷ 4 ∷ 0 ∷ 0 ∷ 0 ∷ length loop_text
    ∷ (loop_text ++ 0 ∷ 0 ∷ 0 ∷ 1 ∷ 0 ∷ 14 ∷ 0 ∷ 0 ∷ 0 ∷ length table_content ∷ table_content)

-- `public class Loop implements EntryProcessor`, class file version 52.0
abbrev pub loop_bytes : List ℕ
loop_bytes =
    0xCA ∷ 0xFE ∷ 0xBA ∷ 0xBE ∷ 0 ∷ 0 ∷ 0 ∷ 52 ∷ 0 ∷ 15
    ∷ (constants ++ 0 ∷ 0x21 ∷ 0 ∷ 2 ∷ 0 ∷ 4 ∷ 0 ∷ 1 ∷ 0 ∷ 6 ∷ 0 ∷ 0 ∷ 0 ∷ 2
    ∷ (method_bytes 7 8 constructor_content ++ method_bytes 12 13 loop_content ++ 0 ∷ 0 ∷ []))

-- ---- the class of the bytes

abbrev pub loop_pool : List Slot
loop_pool =
    Some (Utf8 (codes "Loop")) ∷ Some (Class 1) ∷ Some (Utf8 object_name) ∷ Some (Class 3) ∷ Some (Utf8 entry_processor_name) ∷ Some (Class 5)
    ∷ Some (Utf8 init_name) ∷ Some (Utf8 (codes "()V")) ∷ Some (NameAndType 7 8) ∷ Some (Methodref 4 9) ∷ Some (Utf8 code_name) ∷ Some (Utf8 process_name) ∷ Some (Utf8 process_descriptor)
    ∷ Some (Utf8 table_name) ∷ []

abbrev pub loop_member : Member
loop_member = record { flags = 1; name = 12; descriptor = 13; attributes = code_of loop_content ∷ [] }

abbrev pub loop_parts : Parts
loop_parts = record {
  flags = 0x21;
  this_class = 2;
  super_class = 4;
  interfaces = 6 ∷ [];
  fields = [];
  methods = constructor_member ∷ loop_member ∷ [];
  attributes = [];
}

-- The class has the `process` method of the worked example.
abbrev pub loop_file_class : typing.Class
loop_file_class = record { view = view_of loop_pool loop_parts; methods = constructor_method ∷ loop_method ∷ [] }

-- its nodes, since `process` is method 1
abbrev pub loop_file_points : List Point
loop_file_points = map (λ k. let x : Point = record { method = 1; node = k.node } in x) loop_points

-- The bytes are accepted with loops, and the third profile refuses them by the branch that leads back.
pub record LoopIsAccepted : Type 0 where
  pub accepted : IsAcceptedWithLoops loop_bytes
  pub class : IsClassOf Third loop_bytes loop_file_class
  pub process : IsProcessOf loop_file_class 1
  pub method : slice_get loop_file_class.methods 1 ≡ Some loop_method
  pub loops : has_loops loop_file_class.methods ≡ true
  pub refused_before : IsRefused Third loop_bytes BackwardBranch
