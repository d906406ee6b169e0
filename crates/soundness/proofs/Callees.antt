-- The callees of calls, and the signature of `process`.
use Rattle.std.proofs.Common.{◌≡◌, ℕ, zero, suc, Bool, true, false, not, List, [], ◌∷◌, length, Option, Some, None, refl, sym, ap, ◌∙◌, subst, arith}
use Rattle.std.specs.Prelude.{slice_get, option_map, cond, codes, ◌&&◌}
use Rattle.std.proofs.lemmas.Bool.{and_parts, false_from_ne_true, false≢true}
use Rattle.jtypes.specs.declared.types.RefType.{RefType}
use Rattle.jtypes.specs.declared.types.RefType.TheVariants as ref
use Rattle.jtypes.specs.declared.types.JType.{JType}
use Rattle.jtypes.specs.declared.types.JType.TheVariants.{Int, Long, Ref}
use Rattle.jtypes.specs.declared.operations.Invoke.{Invoke}
use Rattle.jtypes.specs.declared.operations.Invoke.TheVariants.{Virtual, Static, Interface}
use Rattle.jtypes.specs.declared.operations.Native.TheVariants as native
use Rattle.jtypes.specs.Lists.{same_bytes, is_one_of, only_if, result_list, ◌>>=◌}
use Rattle.jtypes.proofs.Fit.{NoneTop, only_if_some, then_some_parts}
use Rattle.jtypes.proofs.LibraryCalls as lemma
use Rattle.jtypes.proofs.LibraryCalls.{LibraryFits}
use Rattle.constpool.specs.declared.descriptor.FieldType.{FieldType}
use Rattle.constpool.specs.declared.descriptor.FieldType.TheVariants as field
use Rattle.constpool.specs.declared.descriptor.Sig.{Sig}
use Rattle.constpool.specs.Lookup.{MemberRef}
use Rattle.constpool.specs.Descriptor.{sig_of, read_params, read_type}
use Rattle.constpool.specs.Names.{object_name, number_name, long_name, integer_name, boolean_name, math_name, mutable_entry_name, cache_entry_name, init_name, process_name, process_descriptor}
use Rattle.classfile.specs.View.{MethodView}
use Rattle.frames.specs.declared.signatures.Signature.{Signature}
use Rattle.frames.specs.Signatures.{known_classes, by_text, class_type, field_type, field_types, result_type, is_boolean, signature_of, as_method, method_signature, is_static}
use Rattle.frames.specs.declared.members.Reached.{Reached}
use Rattle.frames.specs.declared.members.Reached.TheVariants.{Library, Own}
use Rattle.frames.specs.declared.members.Callee.{Callee}
use Rattle.frames.specs.Members.{LibraryRow, library_rows, same_invoke, is_row_of, row_of, means_itself, library_row, library_params, library_callee, numbered, pairs_with, callee_of, own_callee, member_at, found_callee, callee_at}
use Rattle.typecheck.specs.Typing.{Method, Class, IsProcessOf}
use Rattle.verdict.specs.Shape.{reserved_names}
use Rattle.verdict.specs.Checked.{IsMember}
use Rattle.soundness.specs.Room.{IsCheckedButForRoom}
use Rattle.verdict.proofs.Texts.{same_is, same_refl}
use Rattle.verdict.proofs.OwnCalls.{not_init, number_found, process_found}

-- ---- names and descriptors

not_same : (xs ys : List ℕ) → same_bytes xs ys ≡ false → same_bytes ys xs ≡ false
not_same xs ys h = false_from_ne_true (same_bytes ys xs) (λ e. let is = same_is ys xs e in false≢true (sym h ∙ ap (same_bytes xs) is ∙ same_refl xs))

none_of : (x t : List ℕ) (ts : List (List ℕ)) → is_one_of x (t ∷ ts) ≡ false → (same_bytes t x ≡ false) × (is_one_of x ts ≡ false)
none_of x t ts h = go (same_bytes x t) refl h
  where
    go : (b : Bool) → same_bytes x t ≡ b → cond b true (is_one_of x ts) ≡ false → (same_bytes t x ≡ false) × (is_one_of x ts ≡ false)
    go true e f = cc
    go false e f = (not_same x t e, f)

abbrev EachOther : List ℕ → List (List ℕ) → Type 0
EachOther x [] = Unit {0}
EachOther x (t ∷ ts) = (same_bytes t x ≡ false) × EachOther x ts

each_other : (x : List ℕ) (ts : List (List ℕ)) → is_one_of x ts ≡ false → EachOther x ts
each_other x [] h = tt
each_other x (t ∷ ts) h = let p = none_of x t ts h in (p.0, each_other x ts p.1)

-- `IsForeign` holds if the class has none of the names of the library.
record IsForeign (own : List ℕ) : Type 0 where
  object : same_bytes object_name own ≡ false
  number : same_bytes number_name own ≡ false
  long : same_bytes long_name own ≡ false
  integer : same_bytes integer_name own ≡ false
  mutable : same_bytes mutable_entry_name own ≡ false
  entry : same_bytes cache_entry_name own ≡ false

foreign : (own : List ℕ) → is_one_of own reserved_names ≡ false → IsForeign own
foreign own h =
    let e : EachOther own reserved_names = each_other own reserved_names h in
    record { object = e.0; number = e.1.0; long = e.1.1.0; integer = e.1.1.1.0; mutable = e.1.1.1.1.0; entry = e.1.1.1.1.1.1.0 }

class_is : (own name : List ℕ) (r : RefType) → same_bytes name own ≡ false → by_text known_classes name ≡ Some r → class_type own name ≡ Some r
unfolding class_type
class_is own name r e k = ap (λ b. cond b (Some ref.This) (by_text known_classes name)) e ∙ k

-- ---- signatures

signature_is : (own d : List ℕ) (s : Sig) (params : List JType) (result : Option JType) → sig_of d ≡ Some s → field_types own s.params ≡ Some params → result_type own s.result ≡ Some result → signature_of own d ≡ Some (record { params = params; result = result; is_boolean = is_boolean s.result })
unfolding signature_of
signature_is own d s params result e f g =
    ap (λ o. o >>= λ s. field_types own s.params >>= λ ps. result_type own s.result >>= λ r. Some (record { params = ps; result = r; is_boolean = is_boolean s.result })) e
    ∙ ap (λ o. o >>= λ ps. result_type own s.result >>= λ r. Some (record { params = ps; result = r; is_boolean = is_boolean s.result })) f
    ∙ ap (λ o. o >>= λ r. Some (record { params = params; result = r; is_boolean = is_boolean s.result })) g

-- `RowFits` holds if the callee for `r` is its library method, with parameters and a result that fit it and aren't `Top`.
RowFits : List ℕ → LibraryRow → Type 0
RowFits own r = means_itself own r.class ≡ false → (callee : Callee) → library_callee own r ≡ Some callee → (callee.reached ≡ Library r.native) × NoneTop callee.params × NoneTop (result_list callee.result) × LibraryFits r.native callee.params callee.result

row_fits : (own : List ℕ) (r : LibraryRow) (sig : Signature) (params : List JType) → signature_of own r.descriptor ≡ Some sig → library_params r.kind (class_type own r.class) sig.params ≡ Some params → NoneTop params → NoneTop (result_list sig.result) → LibraryFits r.native params sig.result → RowFits own r
unfolding RowFits
row_fits own r sig params e f n o fits other callee h =
    let new : Callee = record { reached = Library r.native; params = params; result = sig.result } in
    let is : library_callee own r ≡ Some new =
    ap (λ o. o >>= λ s. library_params r.kind (class_type own r.class) s.params >>= λ ps. Some (record { reached = Library r.native; params = ps; result = s.result })) e
    ∙ ap (λ o. o >>= λ ps. Some (record { reached = Library r.native; params = ps; result = sig.result })) f
    in
    let both : Some new ≡ Some callee = sym is ∙ h in
    let same : new ≡ callee = cc both in
    subst (λ (x : Callee). (x.reached ≡ Library r.native) × NoneTop x.params × NoneTop (result_list x.result) × LibraryFits r.native x.params x.result) same (refl, n, o, fits)

abbrev pub EachRow : (LibraryRow → Type 0) → List LibraryRow → Type 0
EachRow P [] = Unit {0}
EachRow P (r ∷ rows) = P r × EachRow P rows

pub found_row : (P : LibraryRow → Type 0) (rows : List LibraryRow) (kind : Invoke) (m : MemberRef) (r : LibraryRow) → EachRow P rows → row_of rows kind m ≡ Some r → P r
found_row P [] kind m r h e = cc
found_row P (x ∷ rows) kind m r h e = go (found_row P rows kind m r h.1) (is_row_of kind m x) e
  where
    go : (row_of rows kind m ≡ Some r → P r) → (b : Bool) → cond b (Some x) (row_of rows kind m) ≡ Some r → P r
    go later true f = let same : x ≡ r = cc in subst P same h.0
    go later false f = later f

object_is : (own : List ℕ) → IsForeign own → class_type own object_name ≡ Some ref.Object
object_is own f = class_is own object_name ref.Object f.object refl

number_is : (own : List ℕ) → IsForeign own → class_type own number_name ≡ Some ref.Number
number_is own f = class_is own number_name ref.Number f.number refl

long_is : (own : List ℕ) → IsForeign own → class_type own long_name ≡ Some ref.Long
long_is own f = class_is own long_name ref.Long f.long refl

integer_is : (own : List ℕ) → IsForeign own → class_type own integer_name ≡ Some ref.Integer
integer_is own f = class_is own integer_name ref.Integer f.integer refl

mutable_is : (own : List ℕ) → IsForeign own → class_type own mutable_entry_name ≡ Some ref.MutableEntry
mutable_is own f = class_is own mutable_entry_name ref.MutableEntry f.mutable refl

boolean_is : (own : List ℕ) → same_bytes boolean_name own ≡ false → class_type own boolean_name ≡ Some ref.Boolean
boolean_is own f = class_is own boolean_name ref.Boolean f refl

only_false : (b : Bool) → (b && b) ≡ false → b ≡ false
only_false false h = refl
only_false true h = h

-- A class that doesn't mean itself by the name of `Boolean` has another name.
is_other : (own : List ℕ) → means_itself own boolean_name ≡ false → same_bytes boolean_name own ≡ false
is_other own f = only_false (same_bytes boolean_name own) f

entry_is : (own : List ℕ) → IsForeign own → class_type own cache_entry_name ≡ Some ref.CacheEntry
entry_is own f = class_is own cache_entry_name ref.CacheEntry f.entry refl

-- The type of a class as a field type and as a result type.
class_field : (own name : List ℕ) (r : RefType) → class_type own name ≡ Some r → field_type own (field.Class name) ≡ Some (Ref r)
unfolding field_type
class_field own name r e = ap (option_map (λ x. Ref x)) e

class_result : (own name : List ℕ) (r : RefType) → class_type own name ≡ Some r → result_type own (Some (field.Class name)) ≡ Some (Some (Ref r))
unfolding result_type
class_result own name r e = ap (option_map (λ u. Some u)) (class_field own name r e)

one_field : (own : List ℕ) (t : FieldType) (u : JType) → field_type own t ≡ Some u → field_types own (t ∷ []) ≡ Some (u ∷ [])
unfolding field_types
one_field own t u e = ap (λ o. o >>= λ v. option_map (λ us. v ∷ us) (field_types own [])) e

signature_0 : (own : List ℕ) → IsForeign own → signature_of own (codes "(J)Ljava/lang/Long;") ≡ Some (record { params = Long ∷ []; result = Some (Ref ref.Long); is_boolean = false })
unfolding sig_of read_params read_type field_type field_types result_type
signature_0 own f =
    signature_is own (codes "(J)Ljava/lang/Long;") (record { params = field.Long ∷ []; result = Some (field.Class long_name) }) (Long ∷ []) (Some (Ref ref.Long)) refl (refl) (class_result own long_name ref.Long (long_is own f))

signature_1 : (own : List ℕ) → IsForeign own → signature_of own (codes "(I)Ljava/lang/Integer;") ≡ Some (record { params = Int ∷ []; result = Some (Ref ref.Integer); is_boolean = false })
unfolding sig_of read_params read_type field_type field_types result_type
signature_1 own f =
    signature_is own (codes "(I)Ljava/lang/Integer;") (record { params = field.Int ∷ []; result = Some (field.Class integer_name) }) (Int ∷ []) (Some (Ref ref.Integer)) refl (refl) (class_result own integer_name ref.Integer (integer_is own f))

signature_2 : (own : List ℕ) → IsForeign own → signature_of own (codes "(II)I") ≡ Some (record { params = Int ∷ Int ∷ []; result = Some Int; is_boolean = false })
unfolding sig_of read_params read_type field_type field_types result_type
signature_2 own f =
    signature_is own (codes "(II)I") (record { params = field.Int ∷ field.Int ∷ []; result = Some field.Int }) (Int ∷ Int ∷ []) (Some Int) refl (refl) (refl)

signature_3 : (own : List ℕ) → IsForeign own → signature_of own (codes "(JJ)J") ≡ Some (record { params = Long ∷ Long ∷ []; result = Some Long; is_boolean = false })
unfolding sig_of read_params read_type field_type field_types result_type
signature_3 own f =
    signature_is own (codes "(JJ)J") (record { params = field.Long ∷ field.Long ∷ []; result = Some field.Long }) (Long ∷ Long ∷ []) (Some Long) refl (refl) (refl)

signature_4 : (own : List ℕ) → IsForeign own → signature_of own (codes "()I") ≡ Some (record { params = []; result = Some Int; is_boolean = false })
unfolding sig_of read_params read_type field_type field_types result_type
signature_4 own f =
    signature_is own (codes "()I") (record { params = []; result = Some field.Int }) ([]) (Some Int) refl (refl) (refl)

signature_5 : (own : List ℕ) → IsForeign own → signature_of own (codes "()J") ≡ Some (record { params = []; result = Some Long; is_boolean = false })
unfolding sig_of read_params read_type field_type field_types result_type
signature_5 own f =
    signature_is own (codes "()J") (record { params = []; result = Some field.Long }) ([]) (Some Long) refl (refl) (refl)

signature_6 : (own : List ℕ) → IsForeign own → signature_of own (codes "()Ljava/lang/Object;") ≡ Some (record { params = []; result = Some (Ref ref.Object); is_boolean = false })
unfolding sig_of read_params read_type field_type field_types result_type
signature_6 own f =
    signature_is own (codes "()Ljava/lang/Object;") (record { params = []; result = Some (field.Class object_name) }) ([]) (Some (Ref ref.Object)) refl (refl) (class_result own object_name ref.Object (object_is own f))

signature_7 : (own : List ℕ) → IsForeign own → signature_of own (codes "(Ljava/lang/Object;)V") ≡ Some (record { params = Ref ref.Object ∷ []; result = None; is_boolean = false })
unfolding sig_of read_params read_type field_type field_types result_type
signature_7 own f =
    signature_is own (codes "(Ljava/lang/Object;)V") (record { params = field.Class object_name ∷ []; result = None }) (Ref ref.Object ∷ []) (None) refl (one_field own (field.Class object_name) (Ref ref.Object) (class_field own object_name ref.Object (object_is own f))) (refl)

signature_8 : (own : List ℕ) → IsForeign own → signature_of own (codes "()Z") ≡ Some (record { params = []; result = Some Int; is_boolean = true })
unfolding sig_of read_params read_type field_type field_types result_type
signature_8 own f =
    signature_is own (codes "()Z") (record { params = []; result = Some field.Boolean }) ([]) (Some Int) refl (refl) (refl)

signature_9 : (own : List ℕ) → IsForeign own → signature_of own (codes "()V") ≡ Some (record { params = []; result = None; is_boolean = false })
unfolding sig_of read_params read_type field_type field_types result_type
signature_9 own f =
    signature_is own (codes "()V") (record { params = []; result = None }) ([]) (None) refl (refl) (refl)

signature_10 : (own : List ℕ) → same_bytes boolean_name own ≡ false → signature_of own (codes "(Z)Ljava/lang/Boolean;") ≡ Some (record { params = Int ∷ []; result = Some (Ref ref.Boolean); is_boolean = false })
unfolding sig_of read_params read_type field_type field_types result_type
signature_10 own f =
    signature_is own (codes "(Z)Ljava/lang/Boolean;") (record { params = field.Boolean ∷ []; result = Some (field.Class boolean_name) }) (Int ∷ []) (Some (Ref ref.Boolean)) refl (refl) (class_result own boolean_name ref.Boolean (boolean_is own f))

library_fits : (own : List ℕ) → IsForeign own → EachRow (RowFits own) library_rows
unfolding library_rows RowFits
library_fits own f =
    let r0 = row_fits own (record { kind = Static; class = long_name; name = codes "valueOf"; descriptor = codes "(J)Ljava/lang/Long;"; native = native.LongValueOf }) (record { params = Long ∷ []; result = Some (Ref ref.Long); is_boolean = false }) (Long ∷ []) (signature_0 own f) (refl) (refl, tt) (refl, tt) lemma.long_value_of in
    let r1 = row_fits own (record { kind = Static; class = integer_name; name = codes "valueOf"; descriptor = codes "(I)Ljava/lang/Integer;"; native = native.IntegerValueOf }) (record { params = Int ∷ []; result = Some (Ref ref.Integer); is_boolean = false }) (Int ∷ []) (signature_1 own f) (refl) (refl, tt) (refl, tt) lemma.integer_value_of in
    let b0 : RowFits own (record { kind = Static; class = boolean_name; name = codes "valueOf"; descriptor = codes "(Z)Ljava/lang/Boolean;"; native = native.BooleanValueOf }) =
    λ other. row_fits own (record { kind = Static; class = boolean_name; name = codes "valueOf"; descriptor = codes "(Z)Ljava/lang/Boolean;"; native = native.BooleanValueOf }) (record { params = Int ∷ []; result = Some (Ref ref.Boolean); is_boolean = false }) (Int ∷ []) (signature_10 own (is_other own other)) (refl) (refl, tt) (refl, tt) lemma.boolean_value_of other
    in
    let r2 = row_fits own (record { kind = Static; class = math_name; name = codes "max"; descriptor = codes "(II)I"; native = native.MaxOfInts }) (record { params = Int ∷ Int ∷ []; result = Some Int; is_boolean = false }) (Int ∷ Int ∷ []) (signature_2 own f) (refl) (refl, (refl, tt)) (refl, tt) lemma.max_of_ints in
    let r3 = row_fits own (record { kind = Static; class = math_name; name = codes "min"; descriptor = codes "(II)I"; native = native.MinOfInts }) (record { params = Int ∷ Int ∷ []; result = Some Int; is_boolean = false }) (Int ∷ Int ∷ []) (signature_2 own f) (refl) (refl, (refl, tt)) (refl, tt) lemma.min_of_ints in
    let r4 = row_fits own (record { kind = Static; class = math_name; name = codes "max"; descriptor = codes "(JJ)J"; native = native.MaxOfLongs }) (record { params = Long ∷ Long ∷ []; result = Some Long; is_boolean = false }) (Long ∷ Long ∷ []) (signature_3 own f) (refl) (refl, (refl, tt)) (refl, tt) lemma.max_of_longs in
    let r5 = row_fits own (record { kind = Static; class = math_name; name = codes "min"; descriptor = codes "(JJ)J"; native = native.MinOfLongs }) (record { params = Long ∷ Long ∷ []; result = Some Long; is_boolean = false }) (Long ∷ Long ∷ []) (signature_3 own f) (refl) (refl, (refl, tt)) (refl, tt) lemma.min_of_longs in
    let r6 = row_fits own (record { kind = Virtual; class = long_name; name = codes "intValue"; descriptor = codes "()I"; native = native.IntValue }) (record { params = []; result = Some Int; is_boolean = false }) (Ref ref.Long ∷ []) (signature_4 own f) (ap (λ o. library_params Virtual o ([])) (long_is own f)) (refl, tt) (refl, tt) (lemma.int_value ref.Long refl) in
    let r7 = row_fits own (record { kind = Virtual; class = integer_name; name = codes "intValue"; descriptor = codes "()I"; native = native.IntValue }) (record { params = []; result = Some Int; is_boolean = false }) (Ref ref.Integer ∷ []) (signature_4 own f) (ap (λ o. library_params Virtual o ([])) (integer_is own f)) (refl, tt) (refl, tt) (lemma.int_value ref.Integer refl) in
    let r8 = row_fits own (record { kind = Virtual; class = number_name; name = codes "intValue"; descriptor = codes "()I"; native = native.IntValue }) (record { params = []; result = Some Int; is_boolean = false }) (Ref ref.Number ∷ []) (signature_4 own f) (ap (λ o. library_params Virtual o ([])) (number_is own f)) (refl, tt) (refl, tt) (lemma.int_value ref.Number refl) in
    let r9 = row_fits own (record { kind = Virtual; class = long_name; name = codes "longValue"; descriptor = codes "()J"; native = native.LongValue }) (record { params = []; result = Some Long; is_boolean = false }) (Ref ref.Long ∷ []) (signature_5 own f) (ap (λ o. library_params Virtual o ([])) (long_is own f)) (refl, tt) (refl, tt) (lemma.long_value ref.Long refl) in
    let r10 = row_fits own (record { kind = Virtual; class = integer_name; name = codes "longValue"; descriptor = codes "()J"; native = native.LongValue }) (record { params = []; result = Some Long; is_boolean = false }) (Ref ref.Integer ∷ []) (signature_5 own f) (ap (λ o. library_params Virtual o ([])) (integer_is own f)) (refl, tt) (refl, tt) (lemma.long_value ref.Integer refl) in
    let r11 = row_fits own (record { kind = Virtual; class = number_name; name = codes "longValue"; descriptor = codes "()J"; native = native.LongValue }) (record { params = []; result = Some Long; is_boolean = false }) (Ref ref.Number ∷ []) (signature_5 own f) (ap (λ o. library_params Virtual o ([])) (number_is own f)) (refl, tt) (refl, tt) (lemma.long_value ref.Number refl) in
    let b1 : RowFits own (record { kind = Virtual; class = boolean_name; name = codes "booleanValue"; descriptor = codes "()Z"; native = native.BooleanValue }) =
    λ other. row_fits own (record { kind = Virtual; class = boolean_name; name = codes "booleanValue"; descriptor = codes "()Z"; native = native.BooleanValue }) (record { params = []; result = Some Int; is_boolean = true }) (Ref ref.Boolean ∷ []) (signature_8 own f) (ap (λ o. library_params Virtual o ([])) (boolean_is own (is_other own other))) (refl, tt) (refl, tt) lemma.boolean_value other
    in
    let r12 = row_fits own (record { kind = Interface; class = mutable_entry_name; name = codes "getKey"; descriptor = codes "()Ljava/lang/Object;"; native = native.GetKey }) (record { params = []; result = Some (Ref ref.Object); is_boolean = false }) (Ref ref.MutableEntry ∷ []) (signature_6 own f) (ap (λ o. library_params Interface o ([])) (mutable_is own f)) (refl, tt) (refl, tt) (lemma.get_key ref.MutableEntry) in
    let r13 = row_fits own (record { kind = Interface; class = cache_entry_name; name = codes "getKey"; descriptor = codes "()Ljava/lang/Object;"; native = native.GetKey }) (record { params = []; result = Some (Ref ref.Object); is_boolean = false }) (Ref ref.CacheEntry ∷ []) (signature_6 own f) (ap (λ o. library_params Interface o ([])) (entry_is own f)) (refl, tt) (refl, tt) (lemma.get_key ref.CacheEntry) in
    let r14 = row_fits own (record { kind = Interface; class = mutable_entry_name; name = codes "getValue"; descriptor = codes "()Ljava/lang/Object;"; native = native.GetValue }) (record { params = []; result = Some (Ref ref.Object); is_boolean = false }) (Ref ref.MutableEntry ∷ []) (signature_6 own f) (ap (λ o. library_params Interface o ([])) (mutable_is own f)) (refl, tt) (refl, tt) (lemma.get_value ref.MutableEntry) in
    let r15 = row_fits own (record { kind = Interface; class = cache_entry_name; name = codes "getValue"; descriptor = codes "()Ljava/lang/Object;"; native = native.GetValue }) (record { params = []; result = Some (Ref ref.Object); is_boolean = false }) (Ref ref.CacheEntry ∷ []) (signature_6 own f) (ap (λ o. library_params Interface o ([])) (entry_is own f)) (refl, tt) (refl, tt) (lemma.get_value ref.CacheEntry) in
    let r16 = row_fits own (record { kind = Interface; class = mutable_entry_name; name = codes "setValue"; descriptor = codes "(Ljava/lang/Object;)V"; native = native.SetValue }) (record { params = Ref ref.Object ∷ []; result = None; is_boolean = false }) (Ref ref.MutableEntry ∷ Ref ref.Object ∷ []) (signature_7 own f) (ap (λ o. library_params Interface o (Ref ref.Object ∷ [])) (mutable_is own f)) (refl, (refl, tt)) tt (lemma.set_value ref.MutableEntry) in
    let r17 = row_fits own (record { kind = Interface; class = mutable_entry_name; name = codes "exists"; descriptor = codes "()Z"; native = native.Exists }) (record { params = []; result = Some Int; is_boolean = true }) (Ref ref.MutableEntry ∷ []) (signature_8 own f) (ap (λ o. library_params Interface o ([])) (mutable_is own f)) (refl, tt) (refl, tt) (lemma.exists ref.MutableEntry) in
    let r18 = row_fits own (record { kind = Interface; class = mutable_entry_name; name = codes "remove"; descriptor = codes "()V"; native = native.Remove }) (record { params = []; result = None; is_boolean = false }) (Ref ref.MutableEntry ∷ []) (signature_9 own f) (ap (λ o. library_params Interface o ([])) (mutable_is own f)) (refl, tt) tt (lemma.remove ref.MutableEntry) in
    (r0, (r1, (b0, (r2, (r3, (r4, (r5, (r6, (r7, (r8, (r9, (r10, (r11, (b1, (r12, (r13, (r14, (r15, (r16, (r17, (r18, tt)))))))))))))))))))))

-- ---- the class's own methods

pub method_at_number : {A B : Type 0} (xs : List A) (ys : List B) (j : ℕ) (x : A) → length ys ≡ length xs → slice_get xs j ≡ Some x → (y : B) × (slice_get ys j ≡ Some y)
method_at_number [] ys j x e h = cc
method_at_number (a ∷ xs) [] j x e h = absurd (omega (arith, e))
method_at_number (a ∷ xs) (b ∷ ys) zero x e h = (b, refl)
method_at_number (a ∷ xs) (b ∷ ys) (suc j) x e h = method_at_number xs ys j x (omega (arith, e)) h

-- Method `k` of the class is the callee.
pub record IsOwn (c : Class) (callee : Callee) (k : ℕ) : Type 0 where
  pub view : MethodView
  pub method : Method
  pub member : IsMember c k view method
  pub params : callee.params ≡ method.environment.signature.params
  pub result : callee.result ≡ method.environment.signature.result

-- The properties of a callee.
abbrev pub CalleeFits : Class → Callee → Reached → Type 0
CalleeFits c callee (Library n) = NoneTop callee.params × NoneTop (result_list callee.result) × LibraryFits n callee.params callee.result
CalleeFits c callee (Own k) = IsOwn c callee k

-- The premises on the class's name and signatures.
pub record HasSignatures (c : Class) : Type 0 where
  pub named : is_one_of c.view.name reserved_names ≡ false
  pub instance : (j : ℕ) (v : MethodView) → IsProcessOf c j → slice_get c.view.methods j ≡ Some v → is_static v.flags ≡ false
  pub count : length c.methods ≡ length c.view.methods
  pub signed : (j : ℕ) (v : MethodView) (m : Method) → slice_get c.view.methods j ≡ Some v → slice_get c.methods j ≡ Some m → method_signature c.view v ≡ Some m.environment.signature

signatures_of : (c : Class) → IsCheckedButForRoom c → HasSignatures c
signatures_of c ok = record { named = ok.named; instance = ok.instance; count = ok.count; signed = ok.signed }

own_fits : (c : Class) → HasSignatures c → (kind : Invoke) (m : MemberRef) (callee : Callee) → own_callee c.view kind m ≡ Some callee → CalleeFits c callee callee.reached
own_fits c ok kind m callee e =
    let p = only_if_some _ _ callee e in
    let tests = and_parts (same_bytes m.class c.view.name) (not (same_bytes m.name init_name)) p.0 in
    let found = then_some_parts (λ (found : ℕ × MethodView). only_if (pairs_with kind found.1.flags) (option_map (callee_of found.0) (method_signature c.view found.1))) (numbered 0 c.view.methods m) callee p.1 in
    let k = found.0.0 in
    let w = found.0.1 in
    let n = number_found 0 c.view.methods m k w found.1 in
    let view : slice_get c.view.methods k ≡ Some w = subst (λ x. slice_get c.view.methods x ≡ Some w) (let h = n.1 in omega (arith, h)) n.2 in
    let method = method_at_number c.view.methods c.methods k w ok.count view in
    let named = and_parts (same_bytes m.name w.name) _ n.3 in
    let signed = ok.signed k w method.0 view method.1 in
    let made = only_if_some (pairs_with kind w.flags) (option_map (callee_of k) (method_signature c.view w)) callee found.2 in
    let both : option_map (callee_of k) (Some method.0.environment.signature) ≡ Some callee = sym (ap (option_map (callee_of k)) signed) ∙ made.1 in
    let same : callee_of k method.0.environment.signature ≡ callee = cc both in
    subst (λ (x : Callee). CalleeFits c x x.reached) same (record { view = w; method = method.0; member = record { view = view; method = method.1; other = not_init m w tests.1 named.0 }; params = refl; result = refl })

-- A row that is found for a member has the member's class.
row_class : (rows : List LibraryRow) (kind : Invoke) (m : MemberRef) (r : LibraryRow) → row_of rows kind m ≡ Some r → m.class ≡ r.class
row_class [] kind m r e = cc
row_class (x ∷ rows) kind m r e = go (row_class rows kind m r) (is_row_of kind m x) refl e
  where
    go : (row_of rows kind m ≡ Some r → m.class ≡ r.class) → (b : Bool) → is_row_of kind m x ≡ b → cond b (Some x) (row_of rows kind m) ≡ Some r → m.class ≡ r.class
    go later true is f =
        let same : x ≡ r = cc f in
        let three = and_parts (same_invoke kind x.kind && same_bytes m.class x.class && same_bytes m.name x.name) (same_bytes m.descriptor x.descriptor) is in
        let two = and_parts (same_invoke kind x.kind && same_bytes m.class x.class) (same_bytes m.name x.name) three.0 in
        let class = and_parts (same_invoke kind x.kind) (same_bytes m.class x.class) two.0 in
        same_is m.class x.class class.1 ∙ ap (λ (y : LibraryRow). y.class) same
    go later false is f = later f

-- A library method is found only for a member of a class by whose name the class doesn't mean itself.
pub row_found : (own : List ℕ) (kind : Invoke) (m : MemberRef) (r : LibraryRow) → library_row own kind m ≡ Some r → (row_of library_rows kind m ≡ Some r) × (means_itself own r.class ≡ false)
row_found own kind m r e = go (means_itself own m.class) refl e
  where
    go : (b : Bool) → means_itself own m.class ≡ b → cond b None (row_of library_rows kind m) ≡ Some r → (row_of library_rows kind m ≡ Some r) × (means_itself own r.class ≡ false)
    go true is f = cc f
    go false is f = (f, sym (ap (means_itself own) (row_class library_rows kind m r f)) ∙ is)

pub callee_fits_by : (c : Class) → HasSignatures c → (kind : Invoke) (i : ℕ) (callee : Callee) → callee_at c.view kind i ≡ Some callee → CalleeFits c callee callee.reached
unfolding callee_at RowFits
callee_fits_by c ok kind i callee e =
    let p = then_some_parts (λ m. found_callee c.view kind m (library_row c.view.name kind m)) (member_at c.view.pool kind i) callee e in
    go p.0 (library_row c.view.name kind p.0) refl p.2
  where
    go : (m : MemberRef) (o : Option LibraryRow) → library_row c.view.name kind m ≡ o → found_callee c.view kind m o ≡ Some callee → CalleeFits c callee callee.reached
    go m None h f = own_fits c ok kind m callee f
    go m (Some r) h f =
        let row = row_found c.view.name kind m r h in
        let known = found_row (RowFits c.view.name) library_rows kind m r (library_fits c.view.name (foreign c.view.name ok.named)) row.0 row.1 callee f in
        subst (CalleeFits c callee) (sym known.0) (known.1, known.2, known.3)

pub callee_fits : (c : Class) → IsCheckedButForRoom c → (kind : Invoke) (i : ℕ) (callee : Callee) → callee_at c.view kind i ≡ Some callee → CalleeFits c callee callee.reached
callee_fits c ok = callee_fits_by c (signatures_of c ok)

-- ---- `process`

object_array_field : (own : List ℕ) → field_type own field.ObjectArray ≡ Some (Ref ref.ObjectArray)
unfolding field_type
object_array_field own = refl

two_fields : (own : List ℕ) (s t : FieldType) (u v : JType) → field_type own s ≡ Some u → field_type own t ≡ Some v → field_types own (s ∷ t ∷ []) ≡ Some (u ∷ v ∷ [])
unfolding field_types
two_fields own s t u v e f =
    ap (λ o. o >>= λ x. option_map (λ us. x ∷ us) (field_types own (t ∷ []))) e ∙ ap (option_map (λ us. u ∷ us)) (one_field own t v f)

signature_of_process : (own : List ℕ) → IsForeign own → signature_of own process_descriptor ≡ Some (record { params = Ref ref.MutableEntry ∷ Ref ref.ObjectArray ∷ []; result = Some (Ref ref.Object); is_boolean = false })
unfolding sig_of read_params read_type
signature_of_process own f =
    signature_is own process_descriptor (record { params = field.Class mutable_entry_name ∷ field.ObjectArray ∷ []; result = Some (field.Class object_name) }) (Ref ref.MutableEntry ∷ Ref ref.ObjectArray ∷ []) (Some (Ref ref.Object)) refl (two_fields own (field.Class mutable_entry_name) field.ObjectArray (Ref ref.MutableEntry) (Ref ref.ObjectArray) (class_field own mutable_entry_name ref.MutableEntry (mutable_is own f)) (object_array_field own)) (class_result own object_name ref.Object (object_is own f))

-- Method `j` is `process` of a checked class.
pub record IsEntry (c : Class) (j : ℕ) (m : Method) : Type 0 where
  pub view : MethodView
  pub member : IsMember c j view m
  pub params : m.environment.signature.params ≡ Ref ref.This ∷ Ref ref.MutableEntry ∷ Ref ref.ObjectArray ∷ []
  pub result : m.environment.signature.result ≡ Some (Ref ref.Object)

pub entry_by : (c : Class) → HasSignatures c → (j : ℕ) (m : Method) → IsProcessOf c j → slice_get c.methods j ≡ Some m → IsEntry c j m
unfolding method_signature
entry_by c ok j m is known =
    let p = process_found 0 c.view.methods j is in
    let w = p.0 in
    let view : slice_get c.view.methods j ≡ Some w = subst (λ x. slice_get c.view.methods x ≡ Some w) (let h = p.2 in omega (arith, h)) p.3 in
    let parts = and_parts (same_bytes w.name process_name) (same_bytes w.descriptor process_descriptor) p.4 in
    let name : w.name ≡ process_name = same_is w.name process_name parts.0 in
    let descriptor : w.descriptor ≡ process_descriptor = same_is w.descriptor process_descriptor parts.1 in
    let sig : Signature = record { params = Ref ref.MutableEntry ∷ Ref ref.ObjectArray ∷ []; result = Some (Ref ref.Object); is_boolean = false } in
    let new : Signature = record { params = Ref ref.This ∷ Ref ref.MutableEntry ∷ Ref ref.ObjectArray ∷ []; result = Some (Ref ref.Object); is_boolean = false } in
    let made : as_method w.flags sig ≡ new = ap (λ b. record { params = cond b (Ref ref.MutableEntry ∷ Ref ref.ObjectArray ∷ []) (Ref ref.This ∷ Ref ref.MutableEntry ∷ Ref ref.ObjectArray ∷ []); result = Some (Ref ref.Object); is_boolean = false }) (ok.instance j w is view) in
    let signed : method_signature c.view w ≡ Some new = ap (option_map (as_method w.flags)) (ap (signature_of c.view.name) descriptor ∙ signature_of_process c.view.name (foreign c.view.name ok.named)) ∙ ap (λ x. Some x) made in
    let both : Some new ≡ Some m.environment.signature = sym signed ∙ ok.signed j w m view known in
    let same : new ≡ m.environment.signature = cc both in
    record {
      view = w;
      member = record { view = view; method = known; other = λ init. false≢true (ap (λ x. same_bytes x init_name) (sym name ∙ init) ∙ same_refl init_name) };
      params = sym (ap (λ (x : Signature). x.params) same);
      result = sym (ap (λ (x : Signature). x.result) same);
    }

pub entry_of : (c : Class) → IsCheckedButForRoom c → (j : ℕ) (m : Method) → IsProcessOf c j → slice_get c.methods j ≡ Some m → IsEntry c j m
entry_of c ok = entry_by c (signatures_of c ok)
