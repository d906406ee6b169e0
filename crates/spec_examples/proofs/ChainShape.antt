-- The shape of the chain class has no refusals.
use Rattle.std.proofs.Common.{◌≡◌, ℕ, zero, suc, true, List, [], ◌∷◌, Some, refl, arith}
use Rattle.std.specs.List.{AllZip}
use Rattle.jtypes.specs.Layout.{number, many}
use Rattle.constpool.specs.Lookup.{utf8_at, class_at, pair_at, member_of, method_at}
use Rattle.constpool.specs.Descriptor.{sig_of, read_params, read_type}
use Rattle.classfile.specs.declared.class_file.CodeParts.{CodeParts}
use Rattle.classfile.specs.Code.{plain_attribute, code_parts, parts_of_code, is_named, contents_named}
use Rattle.classfile.specs.View.{method_view, codes_of}
use Rattle.verdict.specs.Shape.{is_constructor}
use Rattle.verdict.specs.Shaping.{HasGoodMethod, AreNamesGood, HasGoodShape, IsOnlyAt, has_header, has_constructor_type, has_constructor_code}
use Rattle.verdict.specs.Verdict.{HasShape}
use Rattle.verdict.proofs.Methods.{codes_of_good}
use Rattle.verdict.proofs.Header.{good_header}
use Rattle.verdict.proofs.Constructor.{the_constructor}
use Rattle.verdict.proofs.Shapes.{good_shape}
use Rattle.soundness.specs.Accepted.{constructor_content, constructor_member, constructor_signature}
use Rattle.soundness.specs.Example as example
use Rattle.spec_examples.specs.Chain as chains
use Rattle.spec_examples.specs.Chain.{chain, chain_pool, chain_parts, content_of, process_code, process_member, link_code, members_from, nothing}
use Rattle.frames.specs.Signatures.{class_type, field_type, field_types, result_type, signature_of, method_signature}
use Rattle.spec_examples.proofs.SwitchShape.{one_code, no_params, process_sig, constructor_parts}

-- ---- the methods

abbrev pub parts_with : ℕ → ℕ → List ℕ → CodeParts
parts_with stack locals code = record { max_stack = stack; max_locals = locals; code = code; exceptions = 0; attributes = [] }

pub constructor_signed : method_signature chain.view (method_view chain_pool constructor_member) ≡ Some constructor_signature
unfolding sig_of read_params read_type utf8_at class_at class_type field_type field_types result_type signature_of method_signature
constructor_signed = refl

pub process_signed : method_signature chain.view (method_view chain_pool process_member) ≡ Some example.signature
unfolding sig_of read_params read_type utf8_at class_at class_type field_type field_types result_type signature_of method_signature
process_signed = refl

pub member_signed : (k : ℕ) (code : List ℕ) → method_signature chain.view (method_view chain_pool (chains.member_of k code)) ≡ Some nothing
unfolding sig_of read_params read_type utf8_at class_at class_type field_type field_types result_type signature_of method_signature
member_signed k code = refl

constructor_codes : codes_of chain_pool constructor_member ≡ constructor_content ∷ []
unfolding contents_named is_named utf8_at
constructor_codes = refl

constructor_parts_are : parts_of_code constructor_content ≡ Some constructor_parts
unfolding parts_of_code code_parts number many plain_attribute
constructor_parts_are = refl

constructor_sig : sig_of (method_view chain_pool constructor_member).descriptor ≡ Some no_params
unfolding sig_of read_params read_type utf8_at
constructor_sig = refl

pub good_constructor : HasGoodMethod chain_pool chain_parts constructor_member constructor_parts
good_constructor = one_code chain_pool chain_parts constructor_member constructor_content constructor_parts no_params constructor_signature 1 constructor_codes constructor_parts_are constructor_sig constructor_signed refl (omega arith) refl
    (record { some = omega arith; within = omega arith; room = omega arith; no_table = refl })

process_codes : codes_of chain_pool process_member ≡ content_of 1 3 process_code ∷ []
unfolding contents_named is_named utf8_at
process_codes = refl

process_parts_are : parts_of_code (content_of 1 3 process_code) ≡ Some (parts_with 1 3 process_code)
unfolding parts_of_code code_parts number many plain_attribute
process_parts_are = refl

process_sig_is : sig_of (method_view chain_pool process_member).descriptor ≡ Some process_sig
unfolding sig_of read_params read_type utf8_at
process_sig_is = refl

pub good_process : HasGoodMethod chain_pool chain_parts process_member (parts_with 1 3 process_code)
good_process = one_code chain_pool chain_parts process_member (content_of 1 3 process_code) (parts_with 1 3 process_code) process_sig example.signature 3 process_codes process_parts_are process_sig_is process_signed refl (omega arith) refl
    (record { some = omega arith; within = omega arith; room = omega arith; no_table = refl })

member_codes : (k : ℕ) (code : List ℕ) → codes_of chain_pool (chains.member_of k code) ≡ content_of 0 0 code ∷ []
unfolding contents_named is_named utf8_at
member_codes k code = refl

member_sig : (k : ℕ) (code : List ℕ) → sig_of (method_view chain_pool (chains.member_of k code)).descriptor ≡ Some no_params
unfolding sig_of read_params read_type utf8_at
member_sig k code = refl

link_parts_are : (k : ℕ) → parts_of_code (content_of 0 0 (link_code k)) ≡ Some (parts_with 0 0 (link_code k))
unfolding parts_of_code code_parts number many plain_attribute
link_parts_are k = refl

end_parts_are : parts_of_code (content_of 0 0 (0xB1 ∷ [])) ≡ Some (parts_with 0 0 (0xB1 ∷ []))
unfolding parts_of_code code_parts number many plain_attribute
end_parts_are = refl

pub good_link : (k : ℕ) → HasGoodMethod chain_pool chain_parts (chains.member_of k (link_code k)) (parts_with 0 0 (link_code k))
good_link k = one_code chain_pool chain_parts (chains.member_of k (link_code k)) (content_of 0 0 (link_code k)) (parts_with 0 0 (link_code k)) no_params nothing 0 (member_codes k (link_code k)) (link_parts_are k) (member_sig k (link_code k)) (member_signed k (link_code k)) refl (omega arith) refl
    (record { some = omega arith; within = omega arith; room = omega arith; no_table = refl })

pub good_end : (k : ℕ) → HasGoodMethod chain_pool chain_parts (chains.member_of k (0xB1 ∷ [])) (parts_with 0 0 (0xB1 ∷ []))
good_end k = one_code chain_pool chain_parts (chains.member_of k (0xB1 ∷ [])) (content_of 0 0 (0xB1 ∷ [])) (parts_with 0 0 (0xB1 ∷ [])) no_params nothing 0 (member_codes k (0xB1 ∷ [])) end_parts_are (member_sig k (0xB1 ∷ [])) (member_signed k (0xB1 ∷ [])) refl (omega arith) refl
    (record { some = omega arith; within = omega arith; room = omega arith; no_table = refl })

-- ---- the shape

abbrev codes_from : ℕ → ℕ → List CodeParts
codes_from k zero = parts_with 0 0 (0xB1 ∷ []) ∷ []
codes_from k (suc n) = parts_with 0 0 (link_code k) ∷ codes_from (suc k) n

links_are_good : (k n : ℕ) → AllZip (HasGoodMethod chain_pool chain_parts) (members_from k n) (codes_from k n)
links_are_good k zero = (good_end k, tt)
links_are_good k (suc n) = (good_link k, links_are_good (suc k) n)

abbrev codes : List CodeParts
codes = constructor_parts ∷ parts_with 1 3 process_code ∷ codes_from 0 18

are_good : AllZip (HasGoodMethod chain_pool chain_parts) chain_parts.methods codes
are_good = (good_constructor, (good_process, links_are_good 0 18))

good_names : AreNamesGood chain_pool chain_parts.methods
unfolding utf8_at
good_names = record { no_initialiser = refl; process = refl; no_doubles = refl }

has_it : has_header chain_pool chain_parts ≡ true
unfolding class_at utf8_at
has_it = refl

first_is_constructor : IsOnlyAt (is_constructor chain_pool) chain_parts.methods 0
unfolding utf8_at
first_is_constructor = record { found = constructor_member; is = refl; only_is = refl }

constructor_type : has_constructor_type chain_pool constructor_member ≡ true
unfolding utf8_at
constructor_type = refl

constructor_code : has_constructor_code chain_pool constructor_parts ≡ true
unfolding utf8_at class_at pair_at member_of method_at contents_named
constructor_code = refl

the_shape : HasGoodShape chain_pool chain_parts codes 0
the_shape = good_shape chain_pool chain_parts codes 0 (good_header chain_pool chain_parts has_it) are_good
    (the_constructor chain_pool chain_parts codes 0 constructor_member constructor_parts first_is_constructor refl (codes_of_good chain_pool chain_parts chain_parts.methods codes are_good) refl constructor_type constructor_code)
    good_names

pub has_shape : HasShape chain_pool chain_parts
has_shape = record { none_stands = the_shape.none_stands }
