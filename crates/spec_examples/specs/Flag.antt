-- The class Flag as it is read from its bytes: its constant pool and its parts.
use Rattle.std.specs.Prelude.{List, [], ◌∷◌, Some, codes}
use Rattle.constpool.specs.declared.constant.Constant.TheVariants.{Utf8, Class, NameAndType, Methodref}
use Rattle.constpool.specs.Lookup.{Slot}
use Rattle.constpool.specs.Names.{object_name, entry_processor_name, init_name, code_name, process_name, process_descriptor}
use Rattle.classfile.specs.declared.class_file.Member.{Member}
use Rattle.classfile.specs.declared.class_file.Parts.{Parts}

abbrev pub flag_pool : List Slot
flag_pool =
    Some (Methodref 2 3) ∷ Some (Class 4) ∷ Some (NameAndType 5 6) ∷ Some (Utf8 object_name) ∷ Some (Utf8 init_name) ∷ Some (Utf8 (codes "()V"))
    ∷ Some (Methodref 8 9) ∷ Some (Class 10) ∷ Some (NameAndType 11 12) ∷ Some (Utf8 (codes "Flag")) ∷ Some (Utf8 (codes "of")) ∷ Some (Utf8 (codes "(I)Ljava/lang/Boolean;"))
    ∷ Some (Class 14) ∷ Some (Utf8 entry_processor_name) ∷ Some (Utf8 code_name) ∷ Some (Utf8 process_name) ∷ Some (Utf8 process_descriptor) ∷ []

abbrev pub flag_constructor : Member
flag_constructor = record {
  flags = 1;
  name = 5;
  descriptor = 6;
  attributes = record { name = 15; content = 0 ∷ 1 ∷ 0 ∷ 1 ∷ 0 ∷ 0 ∷ 0 ∷ 5 ∷ 0x2A ∷ 0xB7 ∷ 0 ∷ 1 ∷ 0xB1 ∷ 0 ∷ 0 ∷ 0 ∷ 0 ∷ [] } ∷ [];
}

abbrev pub flag_process : Member
flag_process = record {
  flags = 0x81;
  name = 16;
  descriptor = 17;
  attributes = record { name = 15; content = 0 ∷ 1 ∷ 0 ∷ 3 ∷ 0 ∷ 0 ∷ 0 ∷ 5 ∷ 0x04 ∷ 0xB8 ∷ 0 ∷ 7 ∷ 0xB0 ∷ 0 ∷ 0 ∷ 0 ∷ 0 ∷ [] } ∷ [];
}

-- The static method `of`, whose result has the type Boolean.
abbrev pub flag_of : Member
flag_of = record {
  flags = 8;
  name = 11;
  descriptor = 12;
  attributes = record { name = 15; content = 0 ∷ 1 ∷ 0 ∷ 1 ∷ 0 ∷ 0 ∷ 0 ∷ 2 ∷ 0x01 ∷ 0xB0 ∷ 0 ∷ 0 ∷ 0 ∷ 0 ∷ [] } ∷ [];
}

abbrev pub flag_parts : Parts
flag_parts = record {
  flags = 0x21;
  this_class = 8;
  super_class = 2;
  interfaces = 13 ∷ [];
  fields = [];
  methods = flag_constructor ∷ flag_process ∷ flag_of ∷ [];
  attributes = [];
}
