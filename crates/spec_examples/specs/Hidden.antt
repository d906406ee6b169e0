-- The small class with a `process` that isn't public, which no caller reaches.
use Rattle.std.specs.Prelude.{ℕ, List, [], ◌∷◌, ◌-◌, ◌++◌, length, take, drop}
use Rattle.classfile.specs.declared.class_file.Member.{Member}
use Rattle.classfile.specs.declared.class_file.Parts.{Parts}
use Rattle.soundness.specs.Accepted.{small_bytes, code_of, process_content, constructor_member}

-- The bytes of the small class, with no access flag of `process` set. The method begins 30 bytes before the end.
abbrev pub hidden_bytes : List ℕ
hidden_bytes = take (length small_bytes - 30) small_bytes ++ 0 ∷ 0 ∷ drop (length small_bytes - 28) small_bytes

abbrev pub hidden_member : Member
hidden_member = record { flags = 0; name = 12; descriptor = 13; attributes = code_of process_content ∷ [] }

-- Its parts. The constant pool is that of the small class.
abbrev pub hidden_parts : Parts
hidden_parts = record {
  flags = 0x21;
  this_class = 2;
  super_class = 4;
  interfaces = 6 ∷ [];
  fields = [];
  methods = constructor_member ∷ hidden_member ∷ [];
  attributes = [];
}
