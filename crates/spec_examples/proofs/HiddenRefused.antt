-- Each profile refuses the small class without a public `process` by `NoProcess`, and by nothing else.
use Rattle.std.proofs.Common.{◌≡◌, ℕ, zero, suc, false, true, List, [], ◌∷◌, length, Some, Ok, refl, sym, ap, subst, arith, ◌∙◌}
use Rattle.std.proofs.lemmas.Bool.{false≢true}
use Rattle.std.specs.Prelude.{slice_get, IsFalse}
use Rattle.std.specs.List.{AllZip, list_any}
use Rattle.jtypes.specs.declared.refusal.Refusal.TheVariants.{BadDescriptor, NoProcess, BadHeader, ConstructorForm, ClassInitialiser, DuplicateMethod, NoBody, BadCode, ExceptionTable, UnknownMember, BadStackMap}
use Rattle.jtypes.specs.Profile.{Profile, First, Second, Third}
use Rattle.jtypes.specs.Layout.{first, number, many}
use Rattle.jtypes.proofs.Laws.{whole_found, first_stands, laid_out_once}
use Rattle.jtypes.specs.declared.refusal.Refusal.{Refusal}
use Rattle.constpool.specs.Descriptor.{sig_of, read_params, read_type}
use Rattle.constpool.specs.Lookup.{utf8_at, class_at, constant_refers, refers, pair_at, member_of, method_at, Slot}
use Rattle.constpool.specs.Pool.{utf8, integer, long, index_of, indexes_of, method_handle, body, constant, slot, slots, pool}
use Rattle.classfile.specs.Class.{utf8_index, class_index, attribute, attributes, method_attribute, method_attributes, member, interfaces, fields, methods, superclass, header, parts, class_file}
use Rattle.classfile.specs.Code.{plain_attribute, code_parts, parts_of_code, is_named, contents_named}
use Rattle.classfile.specs.View.{view_of, method_view, codes_of}
use Rattle.classfile.specs.declared.class_file.Member.{Member}
use Rattle.classfile.specs.declared.class_file.Parts.{Parts}
use Rattle.classfile.specs.declared.class_file.CodeParts.{CodeParts}
use Rattle.frames.specs.declared.signatures.Signature.{Signature}
use Rattle.frames.specs.Signatures.{class_type, field_type, field_types, result_type, signature_of, method_signature}
use Rattle.verdict.specs.Known.{knows_signature}
use Rattle.verdict.specs.Shape.{ShapeStands, is_constructor}
use Rattle.verdict.specs.Verdict.{IsClassFile, IsRefused, by_shape, by_names, HasShape, NamesBeyond, HasLevelsBefore, by_layout, by_instructions, by_types, by_class}
use Rattle.verdict.proofs.Methods.{any_at, codes_of_good, good_methods}
use Rattle.verdict.specs.Shaping.{HasGoodMethod, IsOnlyAt, IsTheConstructor, has_header, has_doubles, is_initialiser, has_constructor_type, has_constructor_code}
use Rattle.verdict.proofs.Header.{good_header}
use Rattle.verdict.proofs.Constructor.{the_constructor}
use Rattle.verdict.proofs.Names.{no_initialiser, no_process, no_doubles}
use Rattle.soundness.specs.Accepted.{small_pool, constructor_member, constructor_content, constructor_signature, process_content}
use Rattle.soundness.specs.Example as example
use Rattle.spec_examples.specs.Hidden.{hidden_bytes, hidden_member, hidden_parts}
use Rattle.spec_examples.proofs.SwitchShape.{constructor_parts, no_params, process_sig, one_code}

-- ---- the layout

read : first (class_file (length hidden_bytes)) hidden_bytes ≡ Ok ((small_pool, hidden_parts), [])
unfolding number many utf8_at class_at constant_refers refers pair_at member_of method_at utf8 integer long index_of indexes_of method_handle body constant slot slots pool utf8_index class_index attribute attributes method_attribute method_attributes member interfaces fields methods superclass header parts class_file plain_attribute code_parts parts_of_code is_named contents_named
read = refl

is_file : IsClassFile hidden_bytes small_pool hidden_parts
is_file = record {
  laid_out = whole_found (class_file (length hidden_bytes)) hidden_bytes (small_pool, hidden_parts) read;
  none_stands = λ r s. first_stands (class_file (length hidden_bytes)) hidden_bytes (small_pool, hidden_parts) [] r read s;
}

same_file : (pool : List Slot) (p : Parts) → IsClassFile hidden_bytes pool p → (let x : List Slot × Parts = (pool, p) in x ≡ (small_pool, hidden_parts))
same_file pool p file = (laid_out_once (class_file (length hidden_bytes)) hidden_bytes [] hidden_bytes [] (pool, p) (small_pool, hidden_parts) file.laid_out is_file.laid_out refl).2

-- ---- the refusal that applies

lacks_process : ShapeStands small_pool hidden_parts NoProcess
unfolding utf8_at
lacks_process = no_process small_pool hidden_parts.methods refl

pub refuses_hidden : (profile : Profile) → IsRefused profile hidden_bytes NoProcess
refuses_hidden profile = by_shape small_pool hidden_parts is_file lacks_process

-- ---- its methods

constructor_parts_are : parts_of_code constructor_content ≡ Some constructor_parts
unfolding parts_of_code code_parts number many plain_attribute
constructor_parts_are = refl

constructor_codes : codes_of small_pool constructor_member ≡ constructor_content ∷ []
unfolding contents_named is_named utf8_at
constructor_codes = refl

constructor_sig : sig_of (method_view small_pool constructor_member).descriptor ≡ Some no_params
unfolding sig_of read_params read_type utf8_at
constructor_sig = refl

constructor_signed : method_signature (view_of small_pool hidden_parts) (method_view small_pool constructor_member) ≡ Some constructor_signature
unfolding sig_of read_params read_type utf8_at class_at class_type field_type field_types result_type signature_of method_signature
constructor_signed = refl

good_constructor : HasGoodMethod small_pool hidden_parts constructor_member constructor_parts
good_constructor = one_code small_pool hidden_parts constructor_member constructor_content constructor_parts no_params constructor_signature 1 constructor_codes constructor_parts_are constructor_sig constructor_signed refl (omega arith) refl
    (record { some = omega arith; within = omega arith; room = omega arith; no_table = refl })

abbrev hidden_code : CodeParts
hidden_code = record { max_stack = 1; max_locals = 3; code = 0x2B ∷ 0xB0 ∷ []; exceptions = 0; attributes = [] }

hidden_code_is : parts_of_code process_content ≡ Some hidden_code
unfolding parts_of_code code_parts number many plain_attribute
hidden_code_is = refl

hidden_codes : codes_of small_pool hidden_member ≡ process_content ∷ []
unfolding contents_named is_named utf8_at
hidden_codes = refl

hidden_sig : sig_of (method_view small_pool hidden_member).descriptor ≡ Some process_sig
unfolding sig_of read_params read_type utf8_at
hidden_sig = refl

hidden_signed : method_signature (view_of small_pool hidden_parts) (method_view small_pool hidden_member) ≡ Some example.signature
unfolding sig_of read_params read_type utf8_at class_at class_type field_type field_types result_type signature_of method_signature
hidden_signed = refl

good_hidden : HasGoodMethod small_pool hidden_parts hidden_member hidden_code
good_hidden = one_code small_pool hidden_parts hidden_member process_content hidden_code process_sig example.signature 3 hidden_codes hidden_code_is hidden_sig hidden_signed refl (omega arith) refl
    (record { some = omega arith; within = omega arith; room = omega arith; no_table = refl })

-- ---- no other refusal of the shape applies

abbrev codes : List CodeParts
codes = constructor_parts ∷ hidden_code ∷ []

are_good : AllZip (HasGoodMethod small_pool hidden_parts) hidden_parts.methods codes
are_good = (good_constructor, (good_hidden, tt))

has_it : has_header small_pool hidden_parts ≡ true
unfolding class_at utf8_at
has_it = refl

no_clinit : list_any (is_initialiser small_pool) hidden_parts.methods ≡ false
unfolding utf8_at
no_clinit = refl

all_differ : has_doubles small_pool hidden_parts.methods ≡ false
unfolding utf8_at
all_differ = refl

first_is_constructor : IsOnlyAt (is_constructor small_pool) hidden_parts.methods 0
unfolding utf8_at
first_is_constructor = record { found = constructor_member; is = refl; only_is = refl }

constructor_type : has_constructor_type small_pool constructor_member ≡ true
unfolding utf8_at
constructor_type = refl

constructor_code : has_constructor_code small_pool constructor_parts ≡ true
unfolding utf8_at class_at pair_at member_of method_at contents_named
constructor_code = refl

constructor_is : IsTheConstructor small_pool hidden_parts 0
constructor_is = the_constructor small_pool hidden_parts codes 0 constructor_member constructor_parts first_is_constructor refl (codes_of_good small_pool hidden_parts hidden_parts.methods codes are_good) refl constructor_type constructor_code

only_stands : (r : Refusal) → ShapeStands small_pool hidden_parts r → r ≡ NoProcess
only_stands NoProcess h = refl
only_stands BadHeader h = absurd (good_header small_pool hidden_parts has_it h)
only_stands ConstructorForm h = absurd (h constructor_is.has)
only_stands ClassInitialiser h = absurd (no_initialiser small_pool hidden_parts.methods no_clinit h)
only_stands DuplicateMethod h = absurd (no_doubles small_pool hidden_parts h.0 h.1 h.2 h.3 all_differ h.4)
only_stands BadDescriptor h = absurd (good_methods small_pool hidden_parts hidden_parts.methods codes BadDescriptor are_good h)
only_stands NoBody h = absurd (good_methods small_pool hidden_parts hidden_parts.methods codes NoBody are_good h)
only_stands BadCode h = absurd (good_methods small_pool hidden_parts hidden_parts.methods codes BadCode are_good h)
only_stands ExceptionTable h = absurd (good_methods small_pool hidden_parts hidden_parts.methods codes ExceptionTable are_good h)
only_stands r h = absurd h

-- ---- no other refusal applies

no_shape : (pool : List Slot) (p : Parts) → IsClassFile hidden_bytes pool p → HasShape pool p → ⊥
no_shape pool p file shape = shape.none_stands NoProcess (subst (λ (x : List Slot × Parts). ShapeStands x.0 x.1 NoProcess) (sym (same_file pool p file)) lacks_process)

-- Each profile knows the types of both descriptors.
constructor_known : (profile : Profile) → knows_signature profile constructor_signature ≡ true
constructor_known First = refl
constructor_known Second = refl
constructor_known Third = refl

hidden_known : (profile : Profile) → knows_signature profile example.signature ≡ true
hidden_known First = refl
hidden_known Second = refl
hidden_known Third = refl

-- The method has a signature that the profile doesn't know.
abbrev pub Unsigned : Profile → List Slot → Parts → Member → Type 0
Unsigned profile pool p m = (s : Signature) × (method_signature (view_of pool p) (method_view pool m) ≡ Some s) × IsFalse (knows_signature profile s)

pub signed_known : (profile : Profile) (pool : List Slot) (p : Parts) (m : Member) (s : Signature) → method_signature (view_of pool p) (method_view pool m) ≡ Some s → knows_signature profile s ≡ true → Unsigned profile pool p m → ⊥
signed_known profile pool p m s is known (t, also, unknown) =
    let both : Some s ≡ Some t = sym is ∙ also in
    let same : s ≡ t = cc both in
    false≢true (sym unknown ∙ ap (knows_signature profile) (sym same) ∙ known)

descriptors_known : (profile : Profile) → NamesBeyond profile small_pool hidden_parts BadDescriptor → ⊥
descriptors_known profile any =
    let it = any_at (Unsigned profile small_pool hidden_parts) hidden_parts.methods any in
    go it.0 it.1 it.2 it.3
  where
    go : (n : ℕ) (m : Member) → slice_get hidden_parts.methods n ≡ Some m → Unsigned profile small_pool hidden_parts m → ⊥
    go zero m e h = let same : constructor_member ≡ m = cc e in signed_known profile small_pool hidden_parts constructor_member _ constructor_signed (constructor_known profile) (subst (Unsigned profile small_pool hidden_parts) (sym same) h)
    go (suc zero) m e h = let same : hidden_member ≡ m = cc e in signed_known profile small_pool hidden_parts hidden_member _ hidden_signed (hidden_known profile) (subst (Unsigned profile small_pool hidden_parts) (sym same) h)
    go (suc (suc n)) m e h = cc e

none_beyond : (profile : Profile) (pool : List Slot) (p : Parts) → IsClassFile hidden_bytes pool p → (r : Refusal) → HasLevelsBefore profile pool p r → NamesBeyond profile pool p r → ⊥
none_beyond profile pool p file BadDescriptor before s = descriptors_known profile (subst (λ (x : List Slot × Parts). NamesBeyond profile x.0 x.1 BadDescriptor) (same_file pool p file) s)
none_beyond profile pool p file UnknownMember before s = no_shape pool p file before
none_beyond profile pool p file BadStackMap before s = no_shape pool p file before.0
none_beyond profile _ _ file r before s = s

pub hidden_only : (profile : Profile) (r : Refusal) → IsRefused profile hidden_bytes r → r ≡ NoProcess
hidden_only profile r (by_layout s) = absurd (is_file.none_stands r s)
hidden_only profile r (by_shape pool p file s) = only_stands r (subst (λ (x : List Slot × Parts). ShapeStands x.0 x.1 r) (same_file pool p file) s)
hidden_only profile r (by_instructions pool p file a s) = absurd (no_shape pool p file a)
hidden_only profile r (by_types pool p file a b s) = absurd (no_shape pool p file a)
hidden_only profile r (by_class pool p c file a b d of s) = absurd (no_shape pool p file a)
hidden_only profile r (by_names pool p file before s) = absurd (none_beyond profile pool p file r before s)
