-- What instructions do to operands, and what is known of them then.
use Rattle.std.proofs.Common.{◌≡◌, ℕ, zero, suc, ◌≤◌, Bool, true, false, List, [], ◌∷◌, ◌++◌, length, take, drop, Option, Some, None, refl, sym, ap, ◌∙◌, subst, ◌⊎◌, inl, inr, get_or}
use Rattle.std.specs.Prelude.{slice_get, map, option_map, ℤ, pos, negsuc}
use Rattle.std.specs.Int.{w32, w64, int_wrapping_add}
use Rattle.std.proofs.lemmas.Bool.{and_parts}
use Rattle.std.proofs.lemmas.List.{length-replicate}
use Rattle.std.proofs.lemmas.Option.{some_pair_parts}
use Rattle.jtypes.specs.declared.types.RefValue.TheVariants as reference
use Rattle.jtypes.specs.declared.types.JType.{JType}
use Rattle.jtypes.specs.declared.types.JType.TheVariants as type
use Rattle.jtypes.specs.declared.types.Value.{Value}
use Rattle.jtypes.specs.declared.types.Value.TheVariants.{Int, Long, Ref}
use Rattle.jtypes.specs.declared.types.Arg.{Arg}
use Rattle.jtypes.specs.declared.types.Arg.TheVariants as arg
use Rattle.jtypes.specs.declared.operations.ArrayKind.{ArrayKind}
use Rattle.jtypes.specs.declared.operations.ArrayKind.TheVariants as array
use Rattle.jtypes.specs.declared.operations.Pushed.{Pushed}
use Rattle.jtypes.specs.declared.operations.Pushed.TheVariants as pushed
use Rattle.jtypes.specs.declared.operations.Division.{Division}
use Rattle.jtypes.specs.declared.operations.Comparison.{Comparison}
use Rattle.jtypes.specs.declared.operations.Conversion.TheVariants.{IntToLong, LongToInt, IntToByte, IntToChar, IntToShort}
use Rattle.jtypes.specs.declared.operations.Operation.{Operation}
use Rattle.jtypes.specs.declared.operations.Operation.TheVariants.{OnInts, OnLongs, DivideInts, DivideLongs, NegateInt, NegateLong, ShiftInt, ShiftLong, Convert, CompareLongs}
use Rattle.jtypes.specs.declared.operations.Test.{Test}
use Rattle.jtypes.specs.declared.operations.Test.TheVariants.{WithZero, OfInts, IsNull, IsNonNull}
use Rattle.jtypes.specs.Lists.{result_list}
use Rattle.jtypes.specs.Types.{is_long, element_type}
use Rattle.jtypes.specs.Values.{Array, Arrays, is_long_value, new_array, fits, all_fit, value_of_arg}
use Rattle.jtypes.specs.Arithmetic.{Answer, Leaves, divide, divided, operate, takes_of, puts_of, compare, tested}
use Rattle.jtypes.specs.Library.{flag}
use Rattle.verdict.specs.Machine.{value_of_pushed, element_value}
use Rattle.unrolled.specs.Known.{Known, Wide, Narrow, Number, Count, Sized, Arguments, unknown_of}
use Rattle.unrolled.specs.Graph.{known_pushed, incremented, all_numbers, int_result, by_numbers, result_known, operated, with_array, length_known, on_top, decided, tested_rest}
use Rattle.loop_soundness.proofs.Agreement.{Agrees, AllAgree, LocalAgrees, KeepsLengths, all_drop, all_later, compared_is, last_array}

-- ---- operations

-- An operation leaves one result of its type on the operands below.
record Left (o : Operation) (vs us : List Value) : Type 0 where
  value : Value
  is : us ≡ value ∷ drop (length (takes_of o)) vs
  long : is_long_value value ≡ is_long (puts_of o)
  alone : operate o (take (length (takes_of o)) vs) ≡ Leaves (value ∷ [])

one : (o : Operation) (vs us : List Value) (v : Value) → Leaves (v ∷ drop (length (takes_of o)) vs) ≡ Leaves us → is_long_value v ≡ is_long (puts_of o) → operate o (take (length (takes_of o)) vs) ≡ Leaves (v ∷ []) → Left o vs us
one o vs us v e l a = let same : v ∷ drop (length (takes_of o)) vs ≡ us = cc e in record { value = v; is = sym same; long = l; alone = a }

divided_int : (d : Division) (a b : ℤ) (vs us : List Value) → divided w32 (λ n. Int n) d a b vs ≡ Leaves us → Left (DivideInts d) (Int b ∷ Int a ∷ vs) us
divided_int d a (pos zero) vs us e = cc
divided_int d a (pos (suc n)) vs us e = one (DivideInts d) (Int (pos (suc n)) ∷ Int a ∷ vs) us (Int (divide w32 d a (pos (suc n)))) e refl refl
divided_int d a (negsuc n) vs us e = one (DivideInts d) (Int (negsuc n) ∷ Int a ∷ vs) us (Int (divide w32 d a (negsuc n))) e refl refl

divided_long : (d : Division) (a b : ℤ) (vs us : List Value) → divided w64 (λ n. Long n) d a b vs ≡ Leaves us → Left (DivideLongs d) (Long b ∷ Long a ∷ vs) us
divided_long d a (pos zero) vs us e = cc
divided_long d a (pos (suc n)) vs us e = one (DivideLongs d) (Long (pos (suc n)) ∷ Long a ∷ vs) us (Long (divide w64 d a (pos (suc n)))) e refl refl
divided_long d a (negsuc n) vs us e = one (DivideLongs d) (Long (negsuc n) ∷ Long a ∷ vs) us (Long (divide w64 d a (negsuc n))) e refl refl

leaves : (o : Operation) (vs us : List Value) → operate o vs ≡ Leaves us → Left o vs us
leaves (OnInts o) [] us e = cc
leaves (OnInts o) ((Int b) ∷ []) us e = cc
leaves (OnInts o) ((Int b) ∷ (Int a) ∷ vs) us e = one (OnInts o) (Int b ∷ Int a ∷ vs) us _ e refl refl
leaves (OnInts o) ((Int b) ∷ (Long a) ∷ vs) us e = cc
leaves (OnInts o) ((Int b) ∷ (Ref a) ∷ vs) us e = cc
leaves (OnInts o) ((Long b) ∷ vs) us e = cc
leaves (OnInts o) ((Ref b) ∷ vs) us e = cc
leaves (OnLongs o) [] us e = cc
leaves (OnLongs o) ((Int b) ∷ vs) us e = cc
leaves (OnLongs o) ((Long b) ∷ []) us e = cc
leaves (OnLongs o) ((Long b) ∷ (Int a) ∷ vs) us e = cc
leaves (OnLongs o) ((Long b) ∷ (Long a) ∷ vs) us e = one (OnLongs o) (Long b ∷ Long a ∷ vs) us _ e refl refl
leaves (OnLongs o) ((Long b) ∷ (Ref a) ∷ vs) us e = cc
leaves (OnLongs o) ((Ref b) ∷ vs) us e = cc
leaves (DivideInts d) [] us e = cc
leaves (DivideInts d) ((Int b) ∷ []) us e = cc
leaves (DivideInts d) ((Int b) ∷ (Int a) ∷ vs) us e = divided_int d a b vs us e
leaves (DivideInts d) ((Int b) ∷ (Long a) ∷ vs) us e = cc
leaves (DivideInts d) ((Int b) ∷ (Ref a) ∷ vs) us e = cc
leaves (DivideInts d) ((Long b) ∷ vs) us e = cc
leaves (DivideInts d) ((Ref b) ∷ vs) us e = cc
leaves (DivideLongs d) [] us e = cc
leaves (DivideLongs d) ((Int b) ∷ vs) us e = cc
leaves (DivideLongs d) ((Long b) ∷ []) us e = cc
leaves (DivideLongs d) ((Long b) ∷ (Int a) ∷ vs) us e = cc
leaves (DivideLongs d) ((Long b) ∷ (Long a) ∷ vs) us e = divided_long d a b vs us e
leaves (DivideLongs d) ((Long b) ∷ (Ref a) ∷ vs) us e = cc
leaves (DivideLongs d) ((Ref b) ∷ vs) us e = cc
leaves NegateInt [] us e = cc
leaves NegateInt ((Int a) ∷ vs) us e = one NegateInt (Int a ∷ vs) us _ e refl refl
leaves NegateInt ((Long a) ∷ vs) us e = cc
leaves NegateInt ((Ref a) ∷ vs) us e = cc
leaves NegateLong [] us e = cc
leaves NegateLong ((Int a) ∷ vs) us e = cc
leaves NegateLong ((Long a) ∷ vs) us e = one NegateLong (Long a ∷ vs) us _ e refl refl
leaves NegateLong ((Ref a) ∷ vs) us e = cc
leaves (ShiftInt s) [] us e = cc
leaves (ShiftInt s) ((Int b) ∷ []) us e = cc
leaves (ShiftInt s) ((Int b) ∷ (Int a) ∷ vs) us e = one (ShiftInt s) (Int b ∷ Int a ∷ vs) us _ e refl refl
leaves (ShiftInt s) ((Int b) ∷ (Long a) ∷ vs) us e = cc
leaves (ShiftInt s) ((Int b) ∷ (Ref a) ∷ vs) us e = cc
leaves (ShiftInt s) ((Long b) ∷ vs) us e = cc
leaves (ShiftInt s) ((Ref b) ∷ vs) us e = cc
leaves (ShiftLong s) [] us e = cc
leaves (ShiftLong s) ((Int b) ∷ []) us e = cc
leaves (ShiftLong s) ((Int b) ∷ (Int a) ∷ vs) us e = cc
leaves (ShiftLong s) ((Int b) ∷ (Long a) ∷ vs) us e = one (ShiftLong s) (Int b ∷ Long a ∷ vs) us _ e refl refl
leaves (ShiftLong s) ((Int b) ∷ (Ref a) ∷ vs) us e = cc
leaves (ShiftLong s) ((Long b) ∷ vs) us e = cc
leaves (ShiftLong s) ((Ref b) ∷ vs) us e = cc
leaves (Convert IntToLong) [] us e = cc
leaves (Convert IntToLong) ((Int a) ∷ vs) us e = one (Convert IntToLong) ((Int a) ∷ vs) us _ e refl refl
leaves (Convert IntToLong) ((Long a) ∷ vs) us e = cc
leaves (Convert IntToLong) ((Ref a) ∷ vs) us e = cc
leaves (Convert LongToInt) [] us e = cc
leaves (Convert LongToInt) ((Int a) ∷ vs) us e = cc
leaves (Convert LongToInt) ((Long a) ∷ vs) us e = one (Convert LongToInt) ((Long a) ∷ vs) us _ e refl refl
leaves (Convert LongToInt) ((Ref a) ∷ vs) us e = cc
leaves (Convert IntToByte) [] us e = cc
leaves (Convert IntToByte) ((Int a) ∷ vs) us e = one (Convert IntToByte) ((Int a) ∷ vs) us _ e refl refl
leaves (Convert IntToByte) ((Long a) ∷ vs) us e = cc
leaves (Convert IntToByte) ((Ref a) ∷ vs) us e = cc
leaves (Convert IntToChar) [] us e = cc
leaves (Convert IntToChar) ((Int a) ∷ vs) us e = one (Convert IntToChar) ((Int a) ∷ vs) us _ e refl refl
leaves (Convert IntToChar) ((Long a) ∷ vs) us e = cc
leaves (Convert IntToChar) ((Ref a) ∷ vs) us e = cc
leaves (Convert IntToShort) [] us e = cc
leaves (Convert IntToShort) ((Int a) ∷ vs) us e = one (Convert IntToShort) ((Int a) ∷ vs) us _ e refl refl
leaves (Convert IntToShort) ((Long a) ∷ vs) us e = cc
leaves (Convert IntToShort) ((Ref a) ∷ vs) us e = cc
leaves CompareLongs [] us e = cc
leaves CompareLongs ((Int b) ∷ vs) us e = cc
leaves CompareLongs ((Long b) ∷ []) us e = cc
leaves CompareLongs ((Long b) ∷ (Int a) ∷ vs) us e = cc
leaves CompareLongs ((Long b) ∷ (Long a) ∷ vs) us e = one CompareLongs (Long b ∷ Long a ∷ vs) us _ e refl refl
leaves CompareLongs ((Long b) ∷ (Ref a) ∷ vs) us e = cc
leaves CompareLongs ((Ref b) ∷ vs) us e = cc

pub unknown_agrees : (args : ℕ) (arrays : Arrays) (t : JType) (v : Value) → is_long_value v ≡ is_long t → Agrees arrays args (unknown_of t) v
unknown_agrees args arrays type.Long v h = h
unknown_agrees args arrays type.Int v h = h
unknown_agrees args arrays type.Top v h = h
unknown_agrees args arrays type.Null v h = h
unknown_agrees args arrays (type.Ref r) v h = h

module _ (args : ℕ) (arrays : Arrays) where
  abbrev Like : List Known → List Value → Type 0
  Like ks vs = AllAgree arrays args ks vs

  numbers_are : (n : ℕ) (ks : List Known) (vs ws : List Value) → Like ks vs → all_numbers (take n ks) ≡ Some ws → take n vs ≡ ws
  numbers_are zero ks vs ws h e = cc e
  numbers_are (suc n) [] [] ws h e = cc e
  numbers_are (suc n) [] (v ∷ vs) ws h e = absurd h
  numbers_are (suc n) (k ∷ ks) [] ws h e = absurd h
  numbers_are (suc n) (Wide ∷ ks) (v ∷ vs) ws h e = cc
  numbers_are (suc n) (Narrow ∷ ks) (v ∷ vs) ws h e = cc
  numbers_are (suc n) (Count ∷ ks) (v ∷ vs) ws h e = cc
  numbers_are (suc n) (Sized y ∷ ks) (v ∷ vs) ws h e = cc
  numbers_are (suc n) (Arguments ∷ ks) (v ∷ vs) ws h e = cc
  numbers_are (suc n) (Number y ∷ ks) (v ∷ vs) ws h e = go (λ us f. numbers_are n ks vs us h.1 f) (all_numbers (take n ks)) refl e
    where
      go : ((us : List Value) → all_numbers (take n ks) ≡ Some us → take n vs ≡ us) → (o : Option (List Value)) → all_numbers (take n ks) ≡ o → option_map (λ us. Int y ∷ us) o ≡ Some ws → v ∷ take n vs ≡ ws
      go later None f g = cc
      go later (Some us) f g = let is : Int y ∷ us ≡ ws = cc g in ap (λ z. z ∷ take n vs) h.0 ∙ ap (λ z. Int y ∷ z) (later us f) ∙ is

  int_agrees : (t : JType) (v : Value) (a : Answer) → is_long_value v ≡ is_long t → a ≡ Leaves (v ∷ []) → Agrees arrays args (int_result t a) v
  int_agrees t (Int n) a l e = subst (λ y. Agrees arrays args (int_result t y) (Int n)) (sym e) refl
  int_agrees t (Long n) a l e = subst (λ y. Agrees arrays args (int_result t y) (Long n)) (sym e) (unknown_agrees args arrays t (Long n) l)
  int_agrees t (Ref n) a l e = subst (λ y. Agrees arrays args (int_result t y) (Ref n)) (sym e) (unknown_agrees args arrays t (Ref n) l)

  result_agrees : (o : Operation) (ks : List Known) (vs us : List Value) → Like ks vs → (l : Left o vs us) → Agrees arrays args (result_known o ks) l.value
  result_agrees o ks vs us h l = go (all_numbers (take (length (takes_of o)) ks)) refl
    where
      go : (n : Option (List Value)) → all_numbers (take (length (takes_of o)) ks) ≡ n → Agrees arrays args (by_numbers o n) l.value
      go None e = unknown_agrees args arrays (puts_of o) l.value l.long
      go (Some ws) e = int_agrees (puts_of o) l.value (operate o ws) l.long (ap (operate o) (sym (numbers_are (length (takes_of o)) ks vs ws h e)) ∙ l.alone)

  pub operated_agree : (o : Operation) (ks : List Known) (vs us : List Value) → AllAgree arrays args ks vs → operate o vs ≡ Leaves us → AllAgree arrays args (operated o ks) us
  operated_agree o ks vs us h e =
      let l = leaves o vs us e in
      subst (Like (operated o ks)) (sym l.is) (result_agrees o ks vs us h l, all_drop args arrays (length (takes_of o)) ks vs h)

  -- ---- one operand

  pub top_agrees : (ks : List Known) (v : Value) (vs : List Value) → AllAgree arrays args ks (v ∷ vs) → Agrees arrays args (get_or ks 0 Narrow) v
  top_agrees [] v vs h = absurd h
  top_agrees (k ∷ ks) v vs h = h.0

  pub pushed_agrees : (p : Pushed) → Agrees arrays args (known_pushed p) (value_of_pushed p)
  pushed_agrees (pushed.Int n) = refl
  pushed_agrees (pushed.Long n) = refl
  pushed_agrees pushed.Null = refl
  pushed_agrees (pushed.Boolean b) = refl

  pub incremented_agrees : (k : Known) (v by : ℤ) → LocalAgrees arrays args k (Int v) → LocalAgrees arrays args (incremented by k) (Int (int_wrapping_add w32 v by))
  incremented_agrees Wide v by h = tt
  incremented_agrees Narrow v by h = tt
  incremented_agrees (Number n) v by h = let same : v ≡ n = cc h in ap (λ x. Int (int_wrapping_add w32 x by)) same
  incremented_agrees Count v by h = tt
  incremented_agrees (Sized n) v by h = tt
  incremented_agrees Arguments v by h = tt

  pub array_agrees : (k : ArrayKind) (n : ℕ) (ks : List Known) (vs : List Value) → AllAgree arrays args ks (Int (pos n) ∷ vs) → KeepsLengths arrays (arrays ++ new_array k n ∷ []) → AllAgree (arrays ++ new_array k n ∷ []) args (with_array ks) (Ref (reference.Array (length arrays)) ∷ vs)
  array_agrees k n [] vs h l = absurd h
  array_agrees k n (Wide ∷ ks) vs h l = (refl, all_later args arrays (arrays ++ new_array k n ∷ []) l ks vs h.1)
  array_agrees k n (Narrow ∷ ks) vs h l = (refl, all_later args arrays (arrays ++ new_array k n ∷ []) l ks vs h.1)
  array_agrees k n (Number (pos m) ∷ ks) vs h l =
      let same : n ≡ m = cc h.0 in
      ((length arrays, new_array k n, refl, last_array arrays (new_array k n), length-replicate n (pos 0) ∙ same), all_later args arrays (arrays ++ new_array k n ∷ []) l ks vs h.1)
  array_agrees k n (Number (negsuc m) ∷ ks) vs h l = (refl, all_later args arrays (arrays ++ new_array k n ∷ []) l ks vs h.1)
  array_agrees k n (Count ∷ ks) vs h l = (refl, all_later args arrays (arrays ++ new_array k n ∷ []) l ks vs h.1)
  array_agrees k n (Sized m ∷ ks) vs h l = (refl, all_later args arrays (arrays ++ new_array k n ∷ []) l ks vs h.1)
  array_agrees k n (Arguments ∷ ks) vs h l = (refl, all_later args arrays (arrays ++ new_array k n ∷ []) l ks vs h.1)

  pub element_agrees : (k : ArrayKind) (n : ℤ) → Agrees arrays args (unknown_of (element_type k)) (element_value k n)
  element_agrees array.Int n = refl
  element_agrees array.Long n = refl

  pub arg_agrees : (x : Arg) → Agrees arrays args Narrow (value_of_arg x)
  arg_agrees arg.Null = refl
  arg_agrees (arg.Long n) = refl
  arg_agrees (arg.Integer n) = refl
  arg_agrees (arg.Boolean b) = refl

  pub flag_agrees : (b : Bool) → Agrees arrays args Narrow (flag b)
  flag_agrees true = refl
  flag_agrees false = refl

  args_length : (k : Known) → Agrees arrays args k (Ref reference.Args) → Agrees arrays args (length_known k) (Int (pos args))
  args_length Wide h = refl
  args_length Narrow h = refl
  args_length (Number n) h = refl
  args_length Count h = refl
  args_length (Sized n) (id, x, is, there, same) = cc
  args_length Arguments h = refl

  pub args_measured : (ks : List Known) (vs : List Value) → AllAgree arrays args ks (Ref reference.Args ∷ vs) → AllAgree arrays args (on_top length_known ks) (Int (pos args) ∷ vs)
  args_measured [] vs h = absurd h
  args_measured (k ∷ ks) vs h = (args_length k h.0, h.1)

  array_length : (k : Known) (id : ℕ) (y : Array) → slice_get arrays id ≡ Some y → Agrees arrays args k (Ref (reference.Array id)) → Agrees arrays args (length_known k) (Int (pos (length y.items)))
  array_length Wide id y e h = refl
  array_length Narrow id y e h = refl
  array_length (Number n) id y e h = refl
  array_length Count id y e h = refl
  array_length (Sized n) id y e (other, x, is, there, same) =
      let one : id ≡ other = cc is in
      let found : Some y ≡ Some x = sym e ∙ ap (slice_get arrays) one ∙ there in
      let it : y ≡ x = cc found in
      ap (λ (z : Array). Int (pos (length z.items))) it ∙ ap (λ z. Int (pos z)) same
  array_length Arguments id y e h = cc

  pub array_measured : (ks : List Known) (id : ℕ) (y : Array) (vs : List Value) → slice_get arrays id ≡ Some y → AllAgree arrays args ks (Ref (reference.Array id) ∷ vs) → AllAgree arrays args (on_top length_known ks) (Int (pos (length y.items)) ∷ vs)
  array_measured [] id y vs e h = absurd h
  array_measured (k ∷ ks) id y vs e h = (array_length k id y e h.0, h.1)

  pub narrow_top : (ks : List Known) (v w : Value) (vs : List Value) → Agrees arrays args Narrow w → AllAgree arrays args ks (v ∷ vs) → AllAgree arrays args (on_top (λ k. Narrow) ks) (w ∷ vs)
  narrow_top [] v w vs n h = absurd h
  narrow_top (k ∷ ks) v w vs n h = (n, h.1)

  -- ---- results of library calls

  pub long_as_type : (v : Value) (t : JType) → fits arrays v t ≡ true → (t ≡ type.Top → ⊥) → is_long_value v ≡ is_long t
  long_as_type v type.Top f n = absurd (n refl)
  long_as_type (Int z) type.Int f n = refl
  long_as_type (Int z) type.Long f n = cc
  long_as_type (Int z) type.Null f n = refl
  long_as_type (Int z) (type.Ref r) f n = refl
  long_as_type (Long z) type.Int f n = cc
  long_as_type (Long z) type.Long f n = refl
  long_as_type (Long z) type.Null f n = cc
  long_as_type (Long z) (type.Ref r) f n = cc
  long_as_type (Ref z) type.Int f n = refl
  long_as_type (Ref reference.Null) type.Long f n = cc
  long_as_type (Ref (reference.Long z)) type.Long f n = cc
  long_as_type (Ref (reference.Integer z)) type.Long f n = cc
  long_as_type (Ref (reference.Boolean z)) type.Long f n = cc
  long_as_type (Ref (reference.Array id)) type.Long f n = cc
  long_as_type (Ref reference.Entry) type.Long f n = cc
  long_as_type (Ref reference.This) type.Long f n = cc
  long_as_type (Ref reference.Args) type.Long f n = cc
  long_as_type (Ref z) type.Null f n = refl
  long_as_type (Ref z) (type.Ref r) f n = refl

  pub results_agree : (t : Option JType) (v : Option Value) → (t ≡ Some type.Top → ⊥) → all_fit arrays (result_list v) (result_list t) ≡ true → AllAgree arrays args (map unknown_of (result_list t)) (result_list v)
  results_agree None None n f = tt
  results_agree None (Some v) n f = cc
  results_agree (Some t) None n f = cc
  results_agree (Some t) (Some v) n f =
      let parts = and_parts (fits arrays v t) true f in
      (unknown_agrees args arrays t v (long_as_type v t parts.0 (λ e. n (ap (λ x. Some x) e))), tt)

-- ---- tests

pub record Tested (args : ℕ) (arrays : Arrays) (t : Test) (ks : List Known) (b : Bool) (rest : List Value) : Type 0 where
  pub agree : AllAgree arrays args (tested_rest t ks) rest
  pub answer : (d : Bool) → decided t ks ≡ Some d → d ≡ b

module _ (args : ℕ) (few : args ≤ 8) (arrays : Arrays) where
  abbrev said : Bool → List Value → Option (Bool × List Value)
  said b xs = Some (b, xs)

  parts : {b c : Bool} {xs ys : List Value} → said b xs ≡ said c ys → (b ≡ c) × (xs ≡ ys)
  parts {b} {c} {xs} {ys} e = some_pair_parts b c xs ys e

  zero_tested : (c : Comparison) (ks : List Known) (a : ℤ) (vs rest : List Value) (b : Bool) → AllAgree arrays args ks (Int a ∷ vs) → said (compare c a (pos 0)) vs ≡ said b rest → Tested args arrays (WithZero c) ks b rest
  zero_tested c [] a vs rest b h e = absurd h
  zero_tested c (k ∷ ks) a vs rest b h e =
      let p = parts e in
      record { agree = subst (AllAgree arrays args ks) p.1 h.1; answer = λ d f. compared_is args few arrays c k (Number (pos 0)) a (pos 0) d h.0 refl f ∙ p.0 }

  ints_tested : (c : Comparison) (ks : List Known) (a z : ℤ) (vs rest : List Value) (b : Bool) → AllAgree arrays args ks (Int z ∷ Int a ∷ vs) → said (compare c a z) vs ≡ said b rest → Tested args arrays (OfInts c) ks b rest
  ints_tested c [] a z vs rest b h e = absurd h
  ints_tested c (l ∷ []) a z vs rest b h e = absurd h.1
  ints_tested c (l ∷ k ∷ ks) a z vs rest b h e =
      let p = parts e in
      record { agree = subst (AllAgree arrays args ks) p.1 h.1.1; answer = λ d f. compared_is args few arrays c k l a z d h.1.0 h.0 f ∙ p.0 }

  null_tested : (ks : List Known) (v : Value) (vs rest : List Value) (b : Bool) → AllAgree arrays args ks (v ∷ vs) → vs ≡ rest → (b ≡ false) ⊎ (v ≡ Ref reference.Null) → Tested args arrays IsNull ks b rest
  null_tested [] v vs rest b h e n = absurd h
  null_tested (Wide ∷ ks) v vs rest b h e n = record { agree = subst (AllAgree arrays args ks) e h.1; answer = λ d f. cc }
  null_tested (Narrow ∷ ks) v vs rest b h e n = record { agree = subst (AllAgree arrays args ks) e h.1; answer = λ d f. cc }
  null_tested ((Number y) ∷ ks) v vs rest b h e n = record { agree = subst (AllAgree arrays args ks) e h.1; answer = λ d f. cc }
  null_tested (Count ∷ ks) v vs rest b h e n = record { agree = subst (AllAgree arrays args ks) e h.1; answer = λ d f. cc }
  null_tested (Sized y ∷ ks) v vs rest b h e (inl n) = record { agree = subst (AllAgree arrays args ks) e h.1; answer = λ d f. let is : d ≡ false = cc f in is ∙ sym n }
  null_tested (Sized y ∷ ks) v vs rest b h e (inr n) = let bad : Ref reference.Null ≡ Ref (reference.Array h.0.0) = sym n ∙ h.0.2 in cc
  null_tested (Arguments ∷ ks) v vs rest b h e (inl n) = record { agree = subst (AllAgree arrays args ks) e h.1; answer = λ d f. let is : d ≡ false = cc f in is ∙ sym n }
  null_tested (Arguments ∷ ks) v vs rest b h e (inr n) = let bad : Ref reference.Null ≡ Ref reference.Args = sym n ∙ h.0 in cc

  there_tested : (ks : List Known) (v : Value) (vs rest : List Value) (b : Bool) → AllAgree arrays args ks (v ∷ vs) → vs ≡ rest → (b ≡ true) ⊎ (v ≡ Ref reference.Null) → Tested args arrays IsNonNull ks b rest
  there_tested [] v vs rest b h e n = absurd h
  there_tested (Wide ∷ ks) v vs rest b h e n = record { agree = subst (AllAgree arrays args ks) e h.1; answer = λ d f. cc }
  there_tested (Narrow ∷ ks) v vs rest b h e n = record { agree = subst (AllAgree arrays args ks) e h.1; answer = λ d f. cc }
  there_tested ((Number y) ∷ ks) v vs rest b h e n = record { agree = subst (AllAgree arrays args ks) e h.1; answer = λ d f. cc }
  there_tested (Count ∷ ks) v vs rest b h e n = record { agree = subst (AllAgree arrays args ks) e h.1; answer = λ d f. cc }
  there_tested (Sized y ∷ ks) v vs rest b h e (inl n) = record { agree = subst (AllAgree arrays args ks) e h.1; answer = λ d f. let is : d ≡ true = cc f in is ∙ sym n }
  there_tested (Sized y ∷ ks) v vs rest b h e (inr n) = let bad : Ref reference.Null ≡ Ref (reference.Array h.0.0) = sym n ∙ h.0.2 in cc
  there_tested (Arguments ∷ ks) v vs rest b h e (inl n) = record { agree = subst (AllAgree arrays args ks) e h.1; answer = λ d f. let is : d ≡ true = cc f in is ∙ sym n }
  there_tested (Arguments ∷ ks) v vs rest b h e (inr n) = let bad : Ref reference.Null ≡ Ref reference.Args = sym n ∙ h.0 in cc

  pub test_agrees : (t : Test) (ks : List Known) (vs rest : List Value) (b : Bool) → AllAgree arrays args ks vs → tested t vs ≡ said b rest → Tested args arrays t ks b rest
  test_agrees (WithZero c) ks [] rest b h e = cc
  test_agrees (WithZero c) ks (Int a ∷ vs) rest b h e = zero_tested c ks a vs rest b h e
  test_agrees (WithZero c) ks (Long a ∷ vs) rest b h e = cc
  test_agrees (WithZero c) ks (Ref a ∷ vs) rest b h e = cc
  test_agrees (OfInts c) ks [] rest b h e = cc
  test_agrees (OfInts c) ks (Int z ∷ []) rest b h e = cc
  test_agrees (OfInts c) ks (Int z ∷ Int a ∷ vs) rest b h e = ints_tested c ks a z vs rest b h e
  test_agrees (OfInts c) ks (Int z ∷ Long a ∷ vs) rest b h e = cc
  test_agrees (OfInts c) ks (Int z ∷ Ref a ∷ vs) rest b h e = cc
  test_agrees (OfInts c) ks (Long a ∷ vs) rest b h e = cc
  test_agrees (OfInts c) ks (Ref a ∷ vs) rest b h e = cc
  test_agrees IsNull ks [] rest b h e = cc
  test_agrees IsNull ks (Int a ∷ vs) rest b h e = cc
  test_agrees IsNull ks (Long a ∷ vs) rest b h e = cc
  test_agrees IsNull ks (Ref reference.Null ∷ vs) rest b h e = let p = parts e in null_tested ks (Ref reference.Null) vs rest b h p.1 (inr refl)
  test_agrees IsNull ks (Ref (reference.Long z) ∷ vs) rest b h e = let p = parts e in null_tested ks (Ref (reference.Long z)) vs rest b h p.1 (inl (sym p.0))
  test_agrees IsNull ks (Ref (reference.Integer z) ∷ vs) rest b h e = let p = parts e in null_tested ks (Ref (reference.Integer z)) vs rest b h p.1 (inl (sym p.0))
  test_agrees IsNull ks (Ref (reference.Boolean z) ∷ vs) rest b h e = let p = parts e in null_tested ks (Ref (reference.Boolean z)) vs rest b h p.1 (inl (sym p.0))
  test_agrees IsNull ks (Ref (reference.Array id) ∷ vs) rest b h e = let p = parts e in null_tested ks (Ref (reference.Array id)) vs rest b h p.1 (inl (sym p.0))
  test_agrees IsNull ks (Ref reference.Entry ∷ vs) rest b h e = let p = parts e in null_tested ks (Ref reference.Entry) vs rest b h p.1 (inl (sym p.0))
  test_agrees IsNull ks (Ref reference.This ∷ vs) rest b h e = let p = parts e in null_tested ks (Ref reference.This) vs rest b h p.1 (inl (sym p.0))
  test_agrees IsNull ks (Ref reference.Args ∷ vs) rest b h e = let p = parts e in null_tested ks (Ref reference.Args) vs rest b h p.1 (inl (sym p.0))
  test_agrees IsNonNull ks [] rest b h e = cc
  test_agrees IsNonNull ks (Int a ∷ vs) rest b h e = cc
  test_agrees IsNonNull ks (Long a ∷ vs) rest b h e = cc
  test_agrees IsNonNull ks (Ref reference.Null ∷ vs) rest b h e = let p = parts e in there_tested ks (Ref reference.Null) vs rest b h p.1 (inr refl)
  test_agrees IsNonNull ks (Ref (reference.Long z) ∷ vs) rest b h e = let p = parts e in there_tested ks (Ref (reference.Long z)) vs rest b h p.1 (inl (sym p.0))
  test_agrees IsNonNull ks (Ref (reference.Integer z) ∷ vs) rest b h e = let p = parts e in there_tested ks (Ref (reference.Integer z)) vs rest b h p.1 (inl (sym p.0))
  test_agrees IsNonNull ks (Ref (reference.Boolean z) ∷ vs) rest b h e = let p = parts e in there_tested ks (Ref (reference.Boolean z)) vs rest b h p.1 (inl (sym p.0))
  test_agrees IsNonNull ks (Ref (reference.Array id) ∷ vs) rest b h e = let p = parts e in there_tested ks (Ref (reference.Array id)) vs rest b h p.1 (inl (sym p.0))
  test_agrees IsNonNull ks (Ref reference.Entry ∷ vs) rest b h e = let p = parts e in there_tested ks (Ref reference.Entry) vs rest b h p.1 (inl (sym p.0))
  test_agrees IsNonNull ks (Ref reference.This ∷ vs) rest b h e = let p = parts e in there_tested ks (Ref reference.This) vs rest b h p.1 (inl (sym p.0))
  test_agrees IsNonNull ks (Ref reference.Args ∷ vs) rest b h e = let p = parts e in there_tested ks (Ref reference.Args) vs rest b h p.1 (inl (sym p.0))
