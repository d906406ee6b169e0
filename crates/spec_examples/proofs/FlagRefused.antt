-- The profiles before the third refuse Flag by the descriptor of its method `of`.
use Rattle.std.proofs.Common.{◌≡◌, false, [], ◌∷◌, length, Some, Ok, refl}
use Rattle.std.specs.Prelude.{IsFalse}
use Rattle.jtypes.specs.declared.types.RefType.TheVariants as ref
use Rattle.jtypes.specs.declared.types.JType.TheVariants as type
use Rattle.jtypes.specs.declared.refusal.Refusal.TheVariants.{BadDescriptor}
use Rattle.jtypes.specs.Profile.{Profile}
use Rattle.jtypes.specs.Layout.{first, number, many}
use Rattle.jtypes.proofs.Laws.{whole_found, first_stands}
use Rattle.constpool.specs.Descriptor.{sig_of, read_params, read_type}
use Rattle.constpool.specs.Lookup.{utf8_at, class_at, constant_refers, refers, pair_at, member_of, method_at}
use Rattle.constpool.specs.Pool.{utf8, integer, long, index_of, indexes_of, method_handle, body, constant, slot, slots, pool}
use Rattle.classfile.specs.Class.{utf8_index, class_index, attribute, attributes, method_attribute, method_attributes, member, interfaces, fields, methods, superclass, header, parts, class_file}
use Rattle.classfile.specs.Code.{plain_attribute, code_parts, parts_of_code, is_named, contents_named}
use Rattle.classfile.specs.View.{view_of, method_view}
use Rattle.frames.specs.declared.signatures.Signature.{Signature}
use Rattle.frames.specs.Signatures.{class_type, field_type, field_types, result_type, signature_of, method_signature}
use Rattle.verdict.specs.Known.{knows_signature}
use Rattle.verdict.specs.Verdict.{IsClassFile, IsRefused, by_names}
use Rattle.verdict.proofs.Methods.{any_from}
use Rattle.spec_examples.specs.BooleanBytes.{flag_bytes}
use Rattle.spec_examples.specs.Flag.{flag_pool, flag_parts, flag_of}

flag_read : first (class_file (length flag_bytes)) flag_bytes ≡ Ok ((flag_pool, flag_parts), [])
unfolding flag_bytes number many utf8_at class_at constant_refers refers pair_at member_of method_at utf8 integer long index_of indexes_of method_handle body constant slot slots pool utf8_index class_index attribute attributes method_attribute method_attributes member interfaces fields methods superclass header parts class_file plain_attribute code_parts parts_of_code is_named contents_named
flag_read = refl

flag_is_file : IsClassFile flag_bytes flag_pool flag_parts
flag_is_file = record {
  laid_out = whole_found (class_file (length flag_bytes)) flag_bytes (flag_pool, flag_parts) flag_read;
  none_stands = λ r s. first_stands (class_file (length flag_bytes)) flag_bytes (flag_pool, flag_parts) [] r flag_read s;
}

abbrev pub of_signature : Signature
of_signature = record { params = type.Int ∷ []; result = Some (type.Ref ref.Boolean); is_boolean = false }

of_signed : method_signature (view_of flag_pool flag_parts) (method_view flag_pool flag_of) ≡ Some of_signature
unfolding sig_of read_params read_type utf8_at class_at class_type field_type field_types result_type signature_of method_signature
of_signed = refl

pub refuses_flag : (profile : Profile) → IsFalse (knows_signature profile of_signature) → IsRefused profile flag_bytes BadDescriptor
refuses_flag profile unknown = by_names flag_pool flag_parts flag_is_file tt (any_from _ flag_parts.methods 2 flag_of refl (of_signature, of_signed, unknown))
