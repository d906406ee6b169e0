-- A class with a chain of methods, of which each but the last calls the next one twice, so that each doubles the steps.
use Rattle.std.specs.Prelude.{ℕ, zero, suc, ◌+◌, ◌*◌, nat_lt, List, [], ◌∷◌, ◌++◌, length, Some, None, false, negsuc, pos, codes, if◌then◌else◌}
use Rattle.jtypes.specs.declared.refusal.Refusal.TheVariants.{StepLimit}
use Rattle.jtypes.specs.declared.operations.Kind.TheVariants as kind
use Rattle.jtypes.specs.declared.operations.Invoke.TheVariants as invoke
use Rattle.jtypes.specs.declared.operations.Pushed.TheVariants as pushed
use Rattle.jtypes.specs.Profile.{Profile, First, Third}
use Rattle.constpool.specs.declared.constant.Constant.TheVariants.{Utf8, Integer, Long, Class, NameAndType, Methodref, InterfaceMethodref}
use Rattle.constpool.specs.Lookup.{Slot}
use Rattle.constpool.specs.Names.{object_name, entry_processor_name, mutable_entry_name, long_name, init_name, code_name, stack_map_name, process_name, process_descriptor}
use Rattle.classfile.specs.declared.class_file.Member.{Member}
use Rattle.classfile.specs.declared.class_file.Parts.{Parts}
use Rattle.classfile.specs.View.{view_of}
use Rattle.decode.specs.declared.instruction.Instruction.TheVariants as instruction
use Rattle.frames.specs.declared.signatures.Signature.{Signature}
use Rattle.typecheck.specs.Typing as typing
use Rattle.typecheck.specs.Typing.{IsProcessOf}
use Rattle.bounds.specs.Paths.{Bounds, AreBounds}
use Rattle.verdict.specs.Verdict.{IsAccepted, IsClassOf, IsRefused}
use Rattle.soundness.specs.Accepted.{code_of, constructor_member, constructor_method}
use Rattle.soundness.specs.Example as example
use Rattle.spec_examples.specs.Plain.{placed}
use Rattle.spec_examples.specs.ChainBytes.{chain_bytes}

-- ---- its constants

-- The constants of each example class. The Long takes two indexes.
abbrev common : List Slot
common =
    Some (Utf8 (codes "Row")) ∷ Some (Class 1) ∷ Some (Utf8 object_name) ∷ Some (Class 3) ∷ Some (Utf8 entry_processor_name) ∷ Some (Class 5)
    ∷ Some (Utf8 init_name) ∷ Some (Utf8 (codes "()V")) ∷ Some (NameAndType 7 8) ∷ Some (Methodref 4 9)
    ∷ Some (Utf8 code_name) ∷ Some (Utf8 process_name) ∷ Some (Utf8 process_descriptor) ∷ Some (Utf8 stack_map_name)
    ∷ Some (Utf8 mutable_entry_name) ∷ Some (Class 15) ∷ Some (Utf8 long_name) ∷ Some (Class 17)
    ∷ Some (Utf8 (codes "exists")) ∷ Some (Utf8 (codes "()Z")) ∷ Some (NameAndType 19 20) ∷ Some (InterfaceMethodref 16 21)
    ∷ Some (Utf8 (codes "getValue")) ∷ Some (Utf8 (codes "()Ljava/lang/Object;")) ∷ Some (NameAndType 23 24) ∷ Some (InterfaceMethodref 16 25)
    ∷ Some (Utf8 (codes "setValue")) ∷ Some (Utf8 (codes "(Ljava/lang/Object;)V")) ∷ Some (NameAndType 27 28) ∷ Some (InterfaceMethodref 16 29)
    ∷ Some (Utf8 (codes "remove")) ∷ Some (NameAndType 31 8) ∷ Some (InterfaceMethodref 16 32)
    ∷ Some (Utf8 (codes "longValue")) ∷ Some (Utf8 (codes "()J")) ∷ Some (NameAndType 34 35) ∷ Some (Methodref 18 36)
    ∷ Some (Utf8 (codes "valueOf")) ∷ Some (Utf8 (codes "(J)Ljava/lang/Long;")) ∷ Some (NameAndType 38 39) ∷ Some (Methodref 18 40)
    ∷ Some (Utf8 (codes "help")) ∷ Some (Utf8 (codes "(J)J")) ∷ Some (NameAndType 42 43) ∷ Some (Methodref 2 44)
    ∷ Some (Utf8 (codes "other")) ∷ Some (NameAndType 46 43) ∷ Some (Methodref 2 47)
    ∷ Some (Long (negsuc 9223372036854775807)) ∷ None ∷ Some (Integer (pos 65535))
    ∷ Some (Utf8 (codes "(Ljavax/cache/processor/MutableEntry;[Ljava/lang/Object;)Ljava/lang/Long;")) ∷ Some (NameAndType 12 52) ∷ Some (Methodref 2 53) ∷ []

-- The name of method `k` below 20: `m` and then `k` in decimal.
abbrev name_of : ℕ → List ℕ
name_of k = 109 ∷ (if nat_lt k 10 then (48 + k) ∷ [] else 49 ∷ (38 + k) ∷ [])

-- The constant pool index of the Methodref of method `k`. Its name and its NameAndType are the two constants before.
abbrev pub reference_of : ℕ → ℕ
reference_of k = 57 + 3 * k

-- The constants of `n` methods of the chain, from method `k` on.
abbrev names_from : ℕ → ℕ → List Slot
names_from k zero = []
names_from k (suc n) = Some (Utf8 (name_of k)) ∷ Some (NameAndType (55 + 3 * k) 8) ∷ Some (Methodref 2 (56 + 3 * k)) ∷ names_from (suc k) n

-- ---- its methods

abbrev pub nothing : Signature
nothing = record { params = []; result = None; is_boolean = false }

-- Method `k` of the chain, which calls the next one twice.
abbrev pub link : ℕ → typing.Method
link k = record {
  environment = record { signature = nothing; max_stack = 0; max_locals = 0 };
  code =
      placed 0 3 (instruction.Invoke invoke.Static (reference_of (suc k)))
      ∷ placed 3 6 (instruction.Invoke invoke.Static (reference_of (suc k)))
      ∷ placed 6 7 instruction.ReturnVoid ∷ [];
  declared = [];
}

-- The last method, which calls none.
abbrev pub end : typing.Method
end = record {
  environment = record { signature = nothing; max_stack = 0; max_locals = 0 };
  code = placed 0 1 instruction.ReturnVoid ∷ [];
  declared = [];
}

-- `n` methods of the chain from method `k` on, and the last one.
abbrev pub links_from : ℕ → ℕ → List typing.Method
links_from k zero = end ∷ []
links_from k (suc n) = link k ∷ links_from (suc k) n

-- It calls method 0 of the chain and returns null.
abbrev pub process : typing.Method
process = record {
  environment = record { signature = example.signature; max_stack = 1; max_locals = 3 };
  code =
      placed 0 3 (instruction.Invoke invoke.Static (reference_of 0))
      ∷ placed 3 4 (instruction.Push pushed.Null)
      ∷ placed 4 5 (instruction.Return kind.Reference) ∷ [];
  declared = [];
}

-- ---- its class file

abbrev pub chain_pool : List Slot
chain_pool = common ++ names_from 0 19

-- The contents of a Code attribute without exception handlers and attributes (JVMS §4.7.3).
abbrev pub content_of : ℕ → ℕ → List ℕ → List ℕ
content_of stack locals code = 0 ∷ stack ∷ 0 ∷ locals ∷ 0 ∷ 0 ∷ 0 ∷ length code ∷ (code ++ 0 ∷ 0 ∷ 0 ∷ 0 ∷ [])

abbrev pub process_code : List ℕ
process_code = 0xB8 ∷ 0 ∷ reference_of 0 ∷ 0x01 ∷ 0xB0 ∷ []

abbrev pub link_code : ℕ → List ℕ
link_code k = 0xB8 ∷ 0 ∷ reference_of (suc k) ∷ 0xB8 ∷ 0 ∷ reference_of (suc k) ∷ 0xB1 ∷ []

abbrev pub process_member : Member
process_member = record { flags = 0x81; name = 12; descriptor = 13; attributes = code_of (content_of 1 3 process_code) ∷ [] }

-- Method `k` of the chain, static and with the descriptor `()V`.
abbrev pub member_of : ℕ → List ℕ → Member
member_of k code = record { flags = 8; name = 55 + 3 * k; descriptor = 8; attributes = code_of (content_of 0 0 code) ∷ [] }

abbrev pub members_from : ℕ → ℕ → List Member
members_from k zero = member_of k (0xB1 ∷ []) ∷ []
members_from k (suc n) = member_of k (link_code k) ∷ members_from (suc k) n

abbrev pub chain_parts : Parts
chain_parts = record {
  flags = 0x21;
  this_class = 2;
  super_class = 4;
  interfaces = 6 ∷ [];
  fields = [];
  methods = constructor_member ∷ process_member ∷ members_from 0 18;
  attributes = [];
}

-- A constructor, `process`, and the 19 methods of the chain.
abbrev pub chain : typing.Class
chain = record { view = view_of chain_pool chain_parts; methods = constructor_method ∷ process ∷ links_from 0 18 }

-- It is the class of its bytes in each profile.
abbrev pub IsChain : Type 0
IsChain = (profile : Profile) → IsClassOf profile chain_bytes chain

-- ---- its verdicts

-- 2^20 steps, no words of arrays, 4 slots (three locals and an operand of `process`), and 20 frames.
abbrev pub chain_bounds : Bounds
chain_bounds = record { steps = 1_048_576; words = 0; slots = 4; depth = 20 }

abbrev pub HasChainBounds : Type 0
HasChainBounds = IsProcessOf chain 1 × AreBounds chain 1 chain_bounds

-- The first profile refuses it for its steps.
abbrev pub RefusesChain : Type 0
RefusesChain = IsRefused First chain_bytes StepLimit

-- The second profile, whose limit is higher, accepts it.
abbrev pub AcceptsChain : Type 0
AcceptsChain = IsAccepted Third chain_bytes
