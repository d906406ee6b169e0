-- The small class with a switch in `process`, which continues after the switch for each int.
use Rattle.std.specs.Prelude.{ℕ, ◌-◌, List, [], ◌∷◌, ◌++◌, length, take}
use Rattle.classfile.specs.declared.class_file.Member.{Member}
use Rattle.classfile.specs.declared.class_file.Parts.{Parts}
use Rattle.soundness.specs.Accepted.{small_bytes, code_of, constructor_member}

-- `iconst_0`; `tableswitch` with the single key 0, whose target and default are the next instruction; `aconst_null`; `areturn`.
abbrev pub switch_code : List ℕ
switch_code = 0x03 ∷ 0xAA ∷ 0 ∷ 0 ∷ 0 ∷ 0 ∷ 0 ∷ 19 ∷ 0 ∷ 0 ∷ 0 ∷ 0 ∷ 0 ∷ 0 ∷ 0 ∷ 0 ∷ 0 ∷ 0 ∷ 0 ∷ 19 ∷ 0x01 ∷ 0xB0 ∷ []

-- The contents of its Code attribute.
abbrev pub switch_content : List ℕ
switch_content = 0 ∷ 1 ∷ 0 ∷ 3 ∷ 0 ∷ 0 ∷ 0 ∷ 22 ∷ (switch_code ++ 0 ∷ 0 ∷ 0 ∷ 0 ∷ [])

-- The bytes of the small class, with this `process` instead of its last method.
abbrev pub switch_bytes : List ℕ
switch_bytes = take (length small_bytes - 30) small_bytes ++ (0 ∷ 1 ∷ 0 ∷ 12 ∷ 0 ∷ 13 ∷ 0 ∷ 1 ∷ 0 ∷ 11 ∷ 0 ∷ 0 ∷ 0 ∷ 34 ∷ (switch_content ++ 0 ∷ 0 ∷ []))

-- Its `process`, and then its parts. The constant pool is that of the small class.
abbrev pub switch_member : Member
switch_member = record { flags = 1; name = 12; descriptor = 13; attributes = code_of switch_content ∷ [] }

abbrev pub switch_parts : Parts
switch_parts = record {
  flags = 0x21;
  this_class = 2;
  super_class = 4;
  interfaces = 6 ∷ [];
  fields = [];
  methods = constructor_member ∷ switch_member ∷ [];
  attributes = [];
}
