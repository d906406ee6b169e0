-- The chain class is the class of its bytes.
use Rattle.std.proofs.Common.{◌≡◌, ℕ, zero, suc, ◌+◌, ◌<◌, List, [], ◌∷◌, length, Ok, refl, arith}
use Rattle.std.specs.List.{AllZip}
use Rattle.jtypes.specs.Profile.{Profile, First, Second, Third}
use Rattle.jtypes.specs.Layout.{first, number, many, operand}
use Rattle.jtypes.specs.declared.operations.Invoke.TheVariants as invoke
use Rattle.jtypes.specs.declared.operations.Kind.TheVariants as kind
use Rattle.jtypes.specs.declared.operations.Pushed.TheVariants as pushed
use Rattle.jtypes.proofs.Laws.{whole_found, first_stands}
use Rattle.constpool.specs.Lookup.{utf8_at, class_at, constant_refers, refers, pair_at, member_of, method_at}
use Rattle.constpool.specs.Pool.{utf8, integer, long, index_of, indexes_of, method_handle, body, constant, slot, slots, pool}
use Rattle.classfile.specs.Class.{utf8_index, class_index, attribute, attributes, method_attribute, method_attributes, member, interfaces, fields, methods, superclass, header, parts, class_file}
use Rattle.classfile.specs.Code.{plain_attribute, code_parts, parts_of_code, is_named, contents_named}
use Rattle.decode.specs.declared.instruction.Instruction.{Instruction}
use Rattle.decode.specs.declared.instruction.Instruction.TheVariants as instruction
use Rattle.decode.specs.Code.{IsSequence, one, by_form, operands}
use Rattle.decode.specs.Table.{form_at}
use Rattle.frames.specs.StackMap.{without}
use Rattle.verdict.specs.Verdict.{IsClassFile, IsBody, IsMethodOf, IsClassOfFile}
use Rattle.soundness.specs.Accepted.{constructor_code, constructor_member, constructor_method}
use Rattle.spec_examples.specs.Chain as chains
use Rattle.spec_examples.specs.Chain.{chain, chain_pool, chain_parts, content_of, process, process_code, process_member, link, link_code, end, nothing, links_from, members_from, reference_of, IsChain}
use Rattle.spec_examples.specs.ChainBytes.{chain_bytes}
use Rattle.spec_examples.proofs.Chain.{Below, below_at}
use Rattle.spec_examples.proofs.SwitchShape.{constructor_parts}
use Rattle.spec_examples.proofs.ChainShape.{parts_with, constructor_signed, process_signed, member_signed, good_constructor, good_process, good_link, good_end}

-- ---- the layout

read : first (class_file (length chain_bytes)) chain_bytes ≡ Ok ((chain_pool, chain_parts), [])
unfolding chain_bytes number many utf8_at class_at constant_refers refers pair_at member_of method_at utf8 integer long index_of indexes_of method_handle body constant slot slots pool utf8_index class_index attribute attributes method_attribute method_attributes member interfaces fields methods superclass header parts class_file plain_attribute code_parts parts_of_code is_named contents_named
read = refl

pub is_file : IsClassFile chain_bytes chain_pool chain_parts
is_file = record {
  laid_out = whole_found (class_file (length chain_bytes)) chain_bytes (chain_pool, chain_parts) read;
  none_stands = λ r s. first_stands (class_file (length chain_bytes)) chain_bytes (chain_pool, chain_parts) [] r read s;
}

-- ---- the instructions

-- The bytes are decoded as this instruction at each pc.
abbrev Reads : Profile → List ℕ → Instruction → Type 0
Reads profile bytes i = (at : ℕ) → first (one profile chain_pool at) bytes ≡ Ok (i, [])

aload_0 : (profile : Profile) → Reads profile (0x2A ∷ []) (instruction.Load kind.Reference 0)
unfolding one by_form operands form_at operand
aload_0 First at = refl
aload_0 Second at = refl
aload_0 Third at = refl

invokespecial : (profile : Profile) → Reads profile (0xB7 ∷ 0 ∷ 10 ∷ []) (instruction.Invoke invoke.Special 10)
unfolding one by_form operands form_at operand method_at class_at pair_at member_of utf8_at
invokespecial First at = refl
invokespecial Second at = refl
invokespecial Third at = refl

pub returns : (profile : Profile) → Reads profile (0xB1 ∷ []) instruction.ReturnVoid
unfolding one by_form operands form_at operand
returns First at = refl
returns Second at = refl
returns Third at = refl

pub aconst_null : (profile : Profile) → Reads profile (0x01 ∷ []) (instruction.Push pushed.Null)
unfolding one by_form operands form_at operand
aconst_null First at = refl
aconst_null Second at = refl
aconst_null Third at = refl

pub areturn : (profile : Profile) → Reads profile (0xB0 ∷ []) (instruction.Return kind.Reference)
unfolding one by_form operands form_at operand
areturn First at = refl
areturn Second at = refl
areturn Third at = refl

-- The bytes of a call are decoded as the call of method `k` of the chain.
abbrev ReadsCall : Profile → ℕ → Type 0
ReadsCall profile k = Reads profile (0xB8 ∷ 0 ∷ reference_of k ∷ []) (instruction.Invoke invoke.Static (reference_of k))

first_calls : Below (ReadsCall First) 19
unfolding one by_form operands form_at operand method_at class_at pair_at member_of utf8_at
first_calls = (((((((((((((((((((tt, λ at. refl), λ at. refl), λ at. refl), λ at. refl), λ at. refl), λ at. refl), λ at. refl), λ at. refl), λ at. refl), λ at. refl), λ at. refl), λ at. refl), λ at. refl), λ at. refl), λ at. refl), λ at. refl), λ at. refl), λ at. refl), λ at. refl)

second_calls : Below (ReadsCall Second) 19
unfolding one by_form operands form_at operand method_at class_at pair_at member_of utf8_at
second_calls = (((((((((((((((((((tt, λ at. refl), λ at. refl), λ at. refl), λ at. refl), λ at. refl), λ at. refl), λ at. refl), λ at. refl), λ at. refl), λ at. refl), λ at. refl), λ at. refl), λ at. refl), λ at. refl), λ at. refl), λ at. refl), λ at. refl), λ at. refl), λ at. refl)

third_calls : Below (ReadsCall Third) 19
unfolding one by_form operands form_at operand method_at class_at pair_at member_of utf8_at
third_calls = (((((((((((((((((((tt, λ at. refl), λ at. refl), λ at. refl), λ at. refl), λ at. refl), λ at. refl), λ at. refl), λ at. refl), λ at. refl), λ at. refl), λ at. refl), λ at. refl), λ at. refl), λ at. refl), λ at. refl), λ at. refl), λ at. refl), λ at. refl), λ at. refl)

invokestatic : (profile : Profile) (k : ℕ) → k < 19 → ReadsCall profile k
invokestatic First k l = below_at (ReadsCall First) 19 k first_calls l
invokestatic Second k l = below_at (ReadsCall Second) 19 k second_calls l
invokestatic Third k l = below_at (ReadsCall Third) 19 k third_calls l

constructor_sequence : (profile : Profile) → IsSequence profile chain_pool 0 (0x2A ∷ 0xB7 ∷ 0 ∷ 10 ∷ 0xB1 ∷ []) constructor_code
constructor_sequence profile = (
  refl,
  0x2A ∷ [],
  0xB7 ∷ 0 ∷ 10 ∷ 0xB1 ∷ [],
  refl,
  refl,
  whole_found (one profile chain_pool 0) (0x2A ∷ []) (instruction.Load kind.Reference 0) (aload_0 profile 0),
  (
    refl,
    0xB7 ∷ 0 ∷ 10 ∷ [],
    0xB1 ∷ [],
    refl,
    refl,
    whole_found (one profile chain_pool 1) (0xB7 ∷ 0 ∷ 10 ∷ []) (instruction.Invoke invoke.Special 10) (invokespecial profile 1),
    (refl, 0xB1 ∷ [], [], refl, refl, whole_found (one profile chain_pool 4) (0xB1 ∷ []) instruction.ReturnVoid (returns profile 4), refl),
  ),
)

process_sequence : (profile : Profile) → IsSequence profile chain_pool 0 process_code process.code
process_sequence profile = (
  refl,
  0xB8 ∷ 0 ∷ reference_of 0 ∷ [],
  0x01 ∷ 0xB0 ∷ [],
  refl,
  refl,
  whole_found (one profile chain_pool 0) (0xB8 ∷ 0 ∷ reference_of 0 ∷ []) (instruction.Invoke invoke.Static (reference_of 0)) (invokestatic profile 0 (omega arith) 0),
  (
    refl,
    0x01 ∷ [],
    0xB0 ∷ [],
    refl,
    refl,
    whole_found (one profile chain_pool 3) (0x01 ∷ []) (instruction.Push pushed.Null) (aconst_null profile 3),
    (refl, 0xB0 ∷ [], [], refl, refl, whole_found (one profile chain_pool 4) (0xB0 ∷ []) (instruction.Return kind.Reference) (areturn profile 4), refl),
  ),
)

module _ (profile : Profile) (k : ℕ) (l : k < 18) where
  abbrev called : ℕ
  called = reference_of (suc k)

  call_at : (at : ℕ) → first (one profile chain_pool at) (0xB8 ∷ 0 ∷ called ∷ []) ≡ Ok (instruction.Invoke invoke.Static called, [])
  call_at at = invokestatic profile (suc k) (omega (arith, l)) at

  link_sequence : IsSequence profile chain_pool 0 (link_code k) (link k).code
  link_sequence = (
    refl,
    0xB8 ∷ 0 ∷ called ∷ [],
    0xB8 ∷ 0 ∷ called ∷ 0xB1 ∷ [],
    refl,
    refl,
    whole_found (one profile chain_pool 0) (0xB8 ∷ 0 ∷ called ∷ []) (instruction.Invoke invoke.Static called) (call_at 0),
    (
      refl,
      0xB8 ∷ 0 ∷ called ∷ [],
      0xB1 ∷ [],
      refl,
      refl,
      whole_found (one profile chain_pool 3) (0xB8 ∷ 0 ∷ called ∷ []) (instruction.Invoke invoke.Static called) (call_at 3),
      (refl, 0xB1 ∷ [], [], refl, refl, whole_found (one profile chain_pool 6) (0xB1 ∷ []) instruction.ReturnVoid (returns profile 6), refl),
    ),
  )

end_sequence : (profile : Profile) → IsSequence profile chain_pool 0 (0xB1 ∷ []) end.code
end_sequence profile = (refl, 0xB1 ∷ [], [], refl, refl, whole_found (one profile chain_pool 0) (0xB1 ∷ []) instruction.ReturnVoid (returns profile 0), refl)

-- ---- the methods

module _ (profile : Profile) where
  constructor_body : IsBody profile chain_pool chain_parts constructor_member constructor_method.environment constructor_code []
  unfolding contents_named
  constructor_body = record { parts = constructor_parts; has_code = good_constructor.has_code; signature = constructor_signed; max_stack = refl; max_locals = refl; sequence = constructor_sequence profile; tables_are = refl }

  pub process_body : IsBody profile chain_pool chain_parts process_member process.environment process.code []
  unfolding contents_named
  process_body = record { parts = parts_with 1 3 process_code; has_code = good_process.has_code; signature = process_signed; max_stack = refl; max_locals = refl; sequence = process_sequence profile; tables_are = refl }

  pub link_body : (k : ℕ) → k < 18 → IsBody profile chain_pool chain_parts (chains.member_of k (link_code k)) (link k).environment (link k).code []
  unfolding contents_named
  link_body k l = record { parts = parts_with 0 0 (link_code k); has_code = (good_link k).has_code; signature = member_signed k (link_code k); max_stack = refl; max_locals = refl; sequence = link_sequence profile k l; tables_are = refl }

  pub end_body : (k : ℕ) → IsBody profile chain_pool chain_parts (chains.member_of k (0xB1 ∷ [])) end.environment end.code []
  unfolding contents_named
  end_body k = record { parts = parts_with 0 0 (0xB1 ∷ []); has_code = (good_end k).has_code; signature = member_signed k (0xB1 ∷ []); max_stack = refl; max_locals = refl; sequence = end_sequence profile; tables_are = refl }

  links_are : (k n : ℕ) → k + n ≡ 18 → AllZip (IsMethodOf profile chain_pool chain_parts) (members_from k n) (links_from k n)
  links_are k zero s = (record { tables = []; body = end_body k; declared = without }, tt)
  links_are k (suc n) s = (record { tables = []; body = link_body k (omega (arith, s)); declared = without }, links_are (suc k) n (omega (arith, s)))

pub is_class : (profile : Profile) → IsClassOfFile profile chain_pool chain_parts chain
is_class profile = record {
  view = refl;
  methods = (record { tables = []; body = constructor_body profile; declared = without }, (record { tables = []; body = process_body profile; declared = without }, links_are profile 0 18 refl));
}

pub is_chain : IsChain
is_chain profile = record { pool = chain_pool; parts = chain_parts; file = is_file; class = is_class profile }
