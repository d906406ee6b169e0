-- The bytes of the small class with a switch are its constant pool and its parts, and its layout and shape have no refusals.
use Rattle.std.proofs.Common.{◌≡◌, ℕ, ◌<◌, ◌||◌, true, false, List, [], ◌∷◌, length, Some, None, Ok, refl, sym, ap, arith, inl, inr}
use Rattle.std.specs.List.{AllZip}
use Rattle.jtypes.specs.Layout.{first, number, many}
use Rattle.jtypes.proofs.Laws.{whole_found, first_stands}
use Rattle.constpool.specs.declared.descriptor.Sig.{Sig}
use Rattle.constpool.specs.declared.descriptor.FieldType.TheVariants as field
use Rattle.constpool.specs.Names.{object_name, mutable_entry_name}
use Rattle.constpool.specs.Lookup.{Slot, utf8_at, class_at, constant_refers, refers, pair_at, member_of, method_at}
use Rattle.constpool.specs.Descriptor.{sig_of, read_params, read_type}
use Rattle.constpool.specs.Pool.{utf8, integer, long, index_of, indexes_of, method_handle, body, constant, slot, slots, pool}
use Rattle.classfile.specs.declared.class_file.Member.{Member}
use Rattle.classfile.specs.declared.class_file.Parts.{Parts}
use Rattle.classfile.specs.declared.class_file.CodeParts.{CodeParts}
use Rattle.classfile.specs.Class.{utf8_index, class_index, attribute, attributes, method_attribute, method_attributes, member, interfaces, fields, methods, superclass, header, parts, class_file}
use Rattle.classfile.specs.Code.{plain_attribute, code_parts, parts_of_code, is_named, contents_named}
use Rattle.classfile.specs.View.{view_of, method_view, codes_of}
use Rattle.frames.specs.Signatures.{class_type, field_type, field_types, result_type, signature_of, method_signature, is_abstract, is_native}
use Rattle.frames.specs.declared.signatures.Signature.{Signature}
use Rattle.verdict.specs.Shape.{HasBadDescriptor, is_constructor, slots_taken}
use Rattle.verdict.specs.Shaping.{HasSlots, HasGoodMethod, ArePartsGood, AreNamesGood, HasGoodShape, IsOnlyAt, has_header, has_constructor_type, has_constructor_code}
use Rattle.verdict.specs.Verdict.{IsClassFile, HasShape}
use Rattle.verdict.proofs.Codes.{good_code}
use Rattle.verdict.proofs.Methods.{method_judged, codes_of_good}
use Rattle.verdict.proofs.Header.{good_header}
use Rattle.verdict.proofs.Constructor.{the_constructor}
use Rattle.verdict.proofs.Shapes.{good_shape}
use Rattle.soundness.specs.Example as example
use Rattle.soundness.specs.Accepted.{small_pool, constructor_member, constructor_content, constructor_signature}
use Rattle.spec_examples.specs.SmallSwitch.{switch_bytes, switch_code, switch_content, switch_member, switch_parts}

-- ---- the layout

read : first (class_file (length switch_bytes)) switch_bytes ≡ Ok ((small_pool, switch_parts), [])
unfolding number many utf8_at class_at constant_refers refers pair_at member_of method_at utf8 integer long index_of indexes_of method_handle body constant slot slots pool utf8_index class_index attribute attributes method_attribute method_attributes member interfaces fields methods superclass header parts class_file plain_attribute code_parts parts_of_code is_named contents_named
read = refl

pub is_file : IsClassFile switch_bytes small_pool switch_parts
is_file = record {
  laid_out = whole_found (class_file (length switch_bytes)) switch_bytes (small_pool, switch_parts) read;
  none_stands = λ r s. first_stands (class_file (length switch_bytes)) switch_bytes (small_pool, switch_parts) [] r read s;
}

-- ---- the constructor

abbrev pub constructor_parts : CodeParts
constructor_parts = record { max_stack = 1; max_locals = 1; code = 0x2A ∷ 0xB7 ∷ 0 ∷ 10 ∷ 0xB1 ∷ []; exceptions = 0; attributes = [] }

abbrev pub no_params : Sig
no_params = record { params = []; result = None }

constructor_parts_are : parts_of_code constructor_content ≡ Some constructor_parts
unfolding parts_of_code code_parts number many plain_attribute
constructor_parts_are = refl

constructor_codes : codes_of small_pool constructor_member ≡ constructor_content ∷ []
unfolding contents_named is_named utf8_at
constructor_codes = refl

constructor_sig : sig_of (method_view small_pool constructor_member).descriptor ≡ Some no_params
unfolding sig_of read_params read_type utf8_at
constructor_sig = refl

pub constructor_signed : method_signature (view_of small_pool switch_parts) (method_view small_pool constructor_member) ≡ Some constructor_signature
unfolding sig_of read_params read_type utf8_at class_at class_type field_type field_types result_type signature_of method_signature
constructor_signed = refl

-- A valid descriptor whose parameters have fewer than 256 slots.
few_slots : (pool : List Slot) (p : Parts) (m : Member) (sig : Sig) (s : Signature) (n : ℕ) → sig_of (method_view pool m).descriptor ≡ Some sig → method_signature (view_of pool p) (method_view pool m) ≡ Some s → n ≡ slots_taken m.flags sig → n < 256
    → HasSlots (view_of pool p) (method_view pool m) n
few_slots pool p m sig s n is signed taken few = record { sig = sig; is = is; slots_are = taken; good = good }
  where
    good : HasBadDescriptor (view_of pool p) (method_view pool m) → ⊥
    good (inl none) = cc (none, signed)
    good (inr (x, k, many)) =
        let same : x ≡ sig = cc (k, is) in
        omega (arith, many, ap (slots_taken m.flags) same, taken, few)

-- A method with one Code attribute, whose parts are good for `n` parameter slots.
pub one_code : (pool : List Slot) (p : Parts) (m : Member) (content : List ℕ) (c : CodeParts) (sig : Sig) (s : Signature) (n : ℕ) → codes_of pool m ≡ content ∷ [] → parts_of_code content ≡ Some c → sig_of (method_view pool m).descriptor ≡ Some sig
    → method_signature (view_of pool p) (method_view pool m) ≡ Some s → n ≡ slots_taken m.flags sig → n < 256 → (is_abstract m.flags || is_native m.flags || false) ≡ false → ArePartsGood n c → HasGoodMethod pool p m c
one_code pool p m content c sig s n codes parts is signed taken few plain good =
    method_judged pool p m n (Ok c) (few_slots pool p m sig s n is signed taken few)
    (good_code pool m (content ∷ []) 1 c n sig (sym codes) refl plain parts is taken good)

good_constructor : HasGoodMethod small_pool switch_parts constructor_member constructor_parts
good_constructor = one_code small_pool switch_parts constructor_member constructor_content constructor_parts no_params constructor_signature 1 constructor_codes constructor_parts_are constructor_sig constructor_signed refl (omega arith) refl
    (record { some = omega arith; within = omega arith; room = omega arith; no_table = refl })

-- ---- `process`

abbrev pub process_parts : CodeParts
process_parts = record { max_stack = 1; max_locals = 3; code = switch_code; exceptions = 0; attributes = [] }

abbrev pub process_sig : Sig
process_sig = record { params = field.Class mutable_entry_name ∷ field.ObjectArray ∷ []; result = Some (field.Class object_name) }

process_parts_are : parts_of_code switch_content ≡ Some process_parts
unfolding parts_of_code code_parts number many plain_attribute
process_parts_are = refl

process_codes : codes_of small_pool switch_member ≡ switch_content ∷ []
unfolding contents_named is_named utf8_at
process_codes = refl

process_sig_is : sig_of (method_view small_pool switch_member).descriptor ≡ Some process_sig
unfolding sig_of read_params read_type utf8_at
process_sig_is = refl

pub process_signed : method_signature (view_of small_pool switch_parts) (method_view small_pool switch_member) ≡ Some example.signature
unfolding sig_of read_params read_type utf8_at class_at class_type field_type field_types result_type signature_of method_signature
process_signed = refl

good_process : HasGoodMethod small_pool switch_parts switch_member process_parts
good_process = one_code small_pool switch_parts switch_member switch_content process_parts process_sig example.signature 3 process_codes process_parts_are process_sig_is process_signed refl (omega arith) refl
    (record { some = omega arith; within = omega arith; room = omega arith; no_table = refl })

-- ---- the shape

pub are_good : AllZip (HasGoodMethod small_pool switch_parts) switch_parts.methods (constructor_parts ∷ process_parts ∷ [])
are_good = (good_constructor, (good_process, tt))

good_names : AreNamesGood small_pool switch_parts.methods
unfolding utf8_at
good_names = record { no_initialiser = refl; process = refl; no_doubles = refl }

has_it : has_header small_pool switch_parts ≡ true
unfolding class_at utf8_at
has_it = refl

first_is_constructor : IsOnlyAt (is_constructor small_pool) switch_parts.methods 0
unfolding utf8_at
first_is_constructor = record { found = constructor_member; is = refl; only_is = refl }

constructor_type : has_constructor_type small_pool constructor_member ≡ true
unfolding utf8_at
constructor_type = refl

constructor_code : has_constructor_code small_pool constructor_parts ≡ true
unfolding utf8_at class_at pair_at member_of method_at contents_named
constructor_code = refl

the_shape : HasGoodShape small_pool switch_parts (constructor_parts ∷ process_parts ∷ []) 0
the_shape = good_shape small_pool switch_parts (constructor_parts ∷ process_parts ∷ []) 0 (good_header small_pool switch_parts has_it) are_good
    (the_constructor small_pool switch_parts (constructor_parts ∷ process_parts ∷ []) 0 constructor_member constructor_parts first_is_constructor refl (codes_of_good small_pool switch_parts switch_parts.methods (constructor_parts ∷ process_parts ∷ []) are_good) refl constructor_type constructor_code)
    good_names

pub has_shape : HasShape small_pool switch_parts
has_shape = record { none_stands = the_shape.none_stands }
