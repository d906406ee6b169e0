-- The bytes of the small class with a loop have its constant pool and its parts, and no refusal of the layout or the shape applies.
use Rattle.std.proofs.Common.{◌≡◌, ℕ, ◌<◌, ◌||◌, true, false, List, [], ◌∷◌, length, Some, None, Ok, refl, sym, ap, arith, inl, inr}
use Rattle.std.specs.List.{AllZip}
use Rattle.jtypes.specs.Layout.{first, number, many}
use Rattle.jtypes.proofs.Laws.{whole_found, first_stands}
use Rattle.constpool.specs.declared.descriptor.Sig.{Sig}
use Rattle.constpool.specs.declared.descriptor.FieldType.TheVariants as field
use Rattle.constpool.specs.Names.{object_name, mutable_entry_name}
use Rattle.constpool.specs.Lookup.{utf8_at, class_at, constant_refers, refers, pair_at, member_of, method_at}
use Rattle.constpool.specs.Descriptor.{sig_of, read_params, read_type}
use Rattle.constpool.specs.Pool.{utf8, integer, long, index_of, indexes_of, method_handle, body, constant, slot, slots, pool}
use Rattle.classfile.specs.declared.class_file.Member.{Member}
use Rattle.classfile.specs.declared.class_file.CodeParts.{CodeParts}
use Rattle.classfile.specs.Class.{utf8_index, class_index, attribute, attributes, method_attribute, method_attributes, member, interfaces, fields, methods, superclass, header, parts, class_file}
use Rattle.classfile.specs.Code.{plain_attribute, code_parts, parts_of_code, is_named, contents_named}
use Rattle.classfile.specs.View.{view_of, method_view, codes_of}
use Rattle.frames.specs.Signatures.{class_type, field_type, field_types, result_type, signature_of, method_signature, is_abstract, is_native}
use Rattle.frames.specs.declared.signatures.Signature.{Signature}
use Rattle.verdict.specs.Shape.{HasBadDescriptor, is_constructor, slots_taken}
use Rattle.verdict.specs.Shaping.{HasSlots, HasGoodMethod, ArePartsGood, AreNamesGood, HasGoodShape, IsOnlyAt, has_header, has_constructor_type, has_constructor_code}
use Rattle.verdict.specs.Verdict.{IsClassFile, HasShape}
use Rattle.verdict.proofs.Codes.{good_code}
use Rattle.verdict.proofs.Methods.{method_judged, codes_of_good}
use Rattle.verdict.proofs.Header.{good_header}
use Rattle.verdict.proofs.Constructor.{the_constructor}
use Rattle.verdict.proofs.Shapes.{good_shape}
use Rattle.soundness.specs.Accepted.{constructor_member, constructor_content, constructor_signature}
use Rattle.soundness.proofs.SmallBytes.{constructor_parts}
use Rattle.unrolled.specs.Example.{loop_method}
use Rattle.loop_soundness.specs.ExampleBytes.{loop_text, table_content, loop_content, loop_bytes, loop_pool, loop_member, loop_parts}

-- ---- the layout

read : first (class_file (length loop_bytes)) loop_bytes ≡ Ok ((loop_pool, loop_parts), [])
unfolding number many utf8_at class_at constant_refers refers pair_at member_of method_at utf8 integer long index_of indexes_of method_handle body constant slot slots pool utf8_index class_index attribute attributes method_attribute method_attributes member interfaces fields methods superclass header parts class_file plain_attribute code_parts parts_of_code is_named contents_named
read = refl

pub is_file : IsClassFile loop_bytes loop_pool loop_parts
is_file = record {
  laid_out = whole_found (class_file (length loop_bytes)) loop_bytes (loop_pool, loop_parts) read;
  none_stands = λ r s. first_stands (class_file (length loop_bytes)) loop_bytes (loop_pool, loop_parts) [] r read s;
}

-- ---- the methods

-- `HasSlots` holds of a descriptor that parses, has a signature, and needs fewer than 256 slots.
few_slots : (m : Member) (sig : Sig) (s : Signature) (n : ℕ) → sig_of (method_view loop_pool m).descriptor ≡ Some sig → method_signature (view_of loop_pool loop_parts) (method_view loop_pool m) ≡ Some s → n ≡ slots_taken m.flags sig → n < 256
    → HasSlots (view_of loop_pool loop_parts) (method_view loop_pool m) n
few_slots m sig s n is signed taken few = record { sig = sig; is = is; slots_are = taken; good = good }
  where
    good : HasBadDescriptor (view_of loop_pool loop_parts) (method_view loop_pool m) → ⊥
    good (inl none) = cc (none, signed)
    good (inr (x, k, many)) =
        let same : x ≡ sig = cc (k, is) in
        omega (arith, many, ap (slots_taken m.flags) same, taken, few)

-- `HasGoodMethod` holds of a method whose only `Code` attribute parses and has enough local variables for the parameters.
one_code : (m : Member) (content : List ℕ) (c : CodeParts) (sig : Sig) (s : Signature) (n : ℕ) → codes_of loop_pool m ≡ content ∷ [] → parts_of_code content ≡ Some c → sig_of (method_view loop_pool m).descriptor ≡ Some sig
    → method_signature (view_of loop_pool loop_parts) (method_view loop_pool m) ≡ Some s → n ≡ slots_taken m.flags sig → n < 256 → (is_abstract m.flags || is_native m.flags || false) ≡ false → ArePartsGood n c → HasGoodMethod loop_pool loop_parts m c
one_code m content c sig s n codes parts is signed taken few plain good =
    method_judged loop_pool loop_parts m n (Ok c) (few_slots m sig s n is signed taken few)
    (good_code loop_pool m (content ∷ []) 1 c n sig (sym codes) refl plain parts is taken good)

abbrev no_params : Sig
no_params = record { params = []; result = None }

constructor_parts_are : parts_of_code constructor_content ≡ Some constructor_parts
unfolding parts_of_code code_parts number many plain_attribute
constructor_parts_are = refl

constructor_codes : codes_of loop_pool constructor_member ≡ constructor_content ∷ []
unfolding contents_named is_named utf8_at
constructor_codes = refl

constructor_sig : sig_of (method_view loop_pool constructor_member).descriptor ≡ Some no_params
unfolding sig_of read_params read_type utf8_at
constructor_sig = refl

pub constructor_signed : method_signature (view_of loop_pool loop_parts) (method_view loop_pool constructor_member) ≡ Some constructor_signature
unfolding sig_of read_params read_type utf8_at class_at class_type field_type field_types result_type signature_of method_signature
constructor_signed = refl

good_constructor : HasGoodMethod loop_pool loop_parts constructor_member constructor_parts
good_constructor = one_code constructor_member constructor_content constructor_parts no_params constructor_signature 1 constructor_codes constructor_parts_are constructor_sig constructor_signed refl (omega arith) refl
    (record { some = omega arith; within = omega arith; room = omega arith; no_table = refl })

abbrev pub process_parts : CodeParts
process_parts = record { max_stack = 2; max_locals = 4; code = loop_text; exceptions = 0; attributes = record { name = 14; content = table_content } ∷ [] }

abbrev process_sig : Sig
process_sig = record { params = field.Class mutable_entry_name ∷ field.ObjectArray ∷ []; result = Some (field.Class object_name) }

process_parts_are : parts_of_code loop_content ≡ Some process_parts
unfolding parts_of_code code_parts number many plain_attribute
process_parts_are = refl

process_codes : codes_of loop_pool loop_member ≡ loop_content ∷ []
unfolding contents_named is_named utf8_at
process_codes = refl

process_sig_is : sig_of (method_view loop_pool loop_member).descriptor ≡ Some process_sig
unfolding sig_of read_params read_type utf8_at
process_sig_is = refl

pub process_signed : method_signature (view_of loop_pool loop_parts) (method_view loop_pool loop_member) ≡ Some loop_method.environment.signature
unfolding sig_of read_params read_type utf8_at class_at class_type field_type field_types result_type signature_of method_signature
process_signed = refl

good_process : HasGoodMethod loop_pool loop_parts loop_member process_parts
good_process = one_code loop_member loop_content process_parts process_sig loop_method.environment.signature 3 process_codes process_parts_are process_sig_is process_signed refl (omega arith) refl
    (record { some = omega arith; within = omega arith; room = omega arith; no_table = refl })

-- ---- the shape

pub are_good : AllZip (HasGoodMethod loop_pool loop_parts) loop_parts.methods (constructor_parts ∷ process_parts ∷ [])
are_good = (good_constructor, (good_process, tt))

good_names : AreNamesGood loop_pool loop_parts.methods
unfolding utf8_at
good_names = record { no_initialiser = refl; process = refl; no_doubles = refl }

has_it : has_header loop_pool loop_parts ≡ true
unfolding class_at utf8_at
has_it = refl

first_is_constructor : IsOnlyAt (is_constructor loop_pool) loop_parts.methods 0
unfolding utf8_at
first_is_constructor = record { found = constructor_member; is = refl; only_is = refl }

constructor_type : has_constructor_type loop_pool constructor_member ≡ true
unfolding utf8_at
constructor_type = refl

constructor_code : has_constructor_code loop_pool constructor_parts ≡ true
unfolding utf8_at class_at pair_at member_of method_at contents_named
constructor_code = refl

the_shape : HasGoodShape loop_pool loop_parts (constructor_parts ∷ process_parts ∷ []) 0
the_shape = good_shape loop_pool loop_parts (constructor_parts ∷ process_parts ∷ []) 0 (good_header loop_pool loop_parts has_it) are_good
    (the_constructor loop_pool loop_parts (constructor_parts ∷ process_parts ∷ []) 0 constructor_member constructor_parts first_is_constructor refl (codes_of_good loop_pool loop_parts loop_parts.methods (constructor_parts ∷ process_parts ∷ []) are_good) refl constructor_type constructor_code)
    good_names

pub has_shape : HasShape loop_pool loop_parts
has_shape = record { none_stands = the_shape.none_stands }
