-- The definitions that the examples unfold to compute, under one name.
use Rattle.jtypes.specs.Layout.{number, operand, many}
use Rattle.constpool.specs.Descriptor.{read_type, read_params, sig_of}
use Rattle.constpool.specs.Lookup.{utf8_at, integer_at, long_at, class_at, pair_at, member_of, field_at, method_at, interface_method_at, constant_refers, refers}
use Rattle.constpool.specs.Pool.{utf8, integer, long, index_of, indexes_of, method_handle, body, constant, slot, slots, pool}
use Rattle.classfile.specs.Class.{utf8_index, class_index, attribute, attributes, method_attribute, method_attributes, member, interfaces, fields, methods, superclass, header, parts, class_file}
use Rattle.classfile.specs.Code.{plain_attribute, code_parts, parts_of_code, is_named, contents_named}
use Rattle.decode.specs.Code.{signed_byte, signed_short, signed_word, int_constant, long_constant, static_constant, array_of_code, far_target, switch_case, widened, thrown_if, made_and_thrown, thrown_with, thrown_by, operands, by_form, one}
use Rattle.decode.specs.Table.{form_at}
use Rattle.frames.specs.Members.{library_rows, callee_at}
use Rattle.frames.specs.Signatures.{class_type, constant_type, field_type, field_types, result_type, signature_of, method_signature}
use Rattle.frames.specs.StackMap.{object_type, class_item, stack_type, local_type, one_item, one_item_extended, with_delta, append, full, entry, table}
use Rattle.verdict.specs.Meaning.{run}
use Rattle.spec_examples.specs.Plain.{decode_all, item_of, method_of, methods_of, class_in, class_of, ends_with, outcome_by}
use Rattle.spec_examples.specs.Judge.{found, standing, shape_refusals, decoded, instruction_refusals, mismatch, type_refusals, cost, judge_by}

unfoldable pub opened : Unit {0}
unfolding number operand many read_type read_params sig_of utf8_at integer_at long_at class_at pair_at member_of field_at method_at interface_method_at constant_refers refers utf8 integer long index_of indexes_of method_handle body constant slot slots pool utf8_index class_index attribute attributes method_attribute method_attributes member interfaces fields methods superclass header parts class_file plain_attribute code_parts parts_of_code is_named contents_named signed_byte signed_short signed_word int_constant long_constant static_constant array_of_code far_target switch_case widened thrown_if made_and_thrown thrown_with thrown_by operands by_form one form_at library_rows callee_at class_type constant_type field_type field_types result_type signature_of method_signature object_type class_item stack_type local_type one_item one_item_extended with_delta append full entry table run found standing shape_refusals decoded instruction_refusals mismatch type_refusals cost judge_by decode_all item_of method_of methods_of class_in class_of ends_with outcome_by
opened = tt
