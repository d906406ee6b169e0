-- What is known stays right.
use Rattle.std.proofs.Common.{◌≡◌, ℕ, zero, suc, ◌≤◌, Bool, true, false, List, [], ◌∷◌, ◌++◌, length, take, drop, reverse, Option, Some, None, refl, sym, ap, ◌∙◌, subst, arith, ◌⊎◌, inl, inr}
use mathlib.Core.List.{reverse_aux}
use Rattle.std.specs.Prelude.{slice_get, slice_set, map, ℤ, pos, if◌then◌else◌}
use Rattle.std.specs.Bool.{beq}
use Rattle.jtypes.specs.declared.types.RefValue.TheVariants as reference
use Rattle.jtypes.specs.declared.types.Value.{Value}
use Rattle.jtypes.specs.declared.types.Value.TheVariants.{Int, Long, Ref}
use Rattle.jtypes.specs.declared.operations.Kind.{Kind}
use Rattle.jtypes.specs.declared.operations.Kind.TheVariants as kind
use Rattle.jtypes.specs.declared.operations.Comparison.{Comparison}
use Rattle.jtypes.specs.Lists.{change, change_before}
use Rattle.jtypes.specs.Types.{type_of_kind}
use Rattle.jtypes.specs.Values.{Array, Arrays, is_long_value, fits}
use Rattle.jtypes.specs.Arithmetic.{compare}
use Rattle.verdict.specs.Machine.{without_long_value, store_value}
use Rattle.unrolled.specs.Known.{Known, Wide, Narrow, Number, Count, Sized, Arguments, is_wide, forgotten, known_local, counts, ints_of, answers, all_are, unanimous, compared}
use Rattle.unrolled.specs.Graph.{kept, loaded, stored}
use Rattle.unrolled.proofs.Lists.{map_one, first_one, later_one}

-- ---- the values that agree with what is known of them, by the arrays so far and the number of arguments

abbrev pub Agrees : Arrays → ℕ → Known → Value → Type 0
Agrees arrays args Wide v = is_long_value v ≡ true
Agrees arrays args Narrow v = is_long_value v ≡ false
Agrees arrays args (Number n) v = v ≡ Int n
Agrees arrays args Count v = v ≡ Int (pos args)
Agrees arrays args (Sized n) v = (id : ℕ) × (x : Array) × (v ≡ Ref (reference.Array id)) × (slice_get arrays id ≡ Some x) × (length x.items ≡ n)
Agrees arrays args Arguments v = v ≡ Ref reference.Args

abbrev pub AllAgree : Arrays → ℕ → List Known → List Value → Type 0
AllAgree arrays args [] [] = Unit {0}
AllAgree arrays args (k ∷ ks) (v ∷ vs) = Agrees arrays args k v × AllAgree arrays args ks vs
AllAgree arrays args _ _ = ⊥

-- a local variable; of `Wide` and `Narrow` nothing is asked
abbrev pub LocalAgrees : Arrays → ℕ → Known → Value → Type 0
LocalAgrees arrays args Wide v = Unit {0}
LocalAgrees arrays args Narrow v = Unit {0}
LocalAgrees arrays args k v = Agrees arrays args k v

abbrev pub LocalsAgree : Arrays → ℕ → List Known → List (Option Value) → Type 0
LocalsAgree arrays args ks locals = (n : ℕ) (v : Value) → slice_get locals n ≡ Some (Some v) → LocalAgrees arrays args (known_local ks n) v

-- ---- arrays keep their lengths

pub record KeepsLengths (old new : Arrays) : Type 0 where
  pub each : (id : ℕ) (x : Array) → slice_get old id ≡ Some x → (y : Array) × (slice_get new id ≡ Some y) × (length y.items ≡ length x.items)

pub same_lengths : (arrays : Arrays) → KeepsLengths arrays arrays
same_lengths arrays = record { each = λ id x e. (x, e, refl) }

pub lengths_trans : (x y z : Arrays) → KeepsLengths x y → KeepsLengths y z → KeepsLengths x z
lengths_trans x y z h k = record { each = λ id a e. let r = h.each id a e in let q = k.each id r.0 r.1 in (q.0, q.1, q.2 ∙ r.2) }

appended : (arrays : Arrays) (new : Array) (id : ℕ) (x : Array) → slice_get arrays id ≡ Some x → slice_get (arrays ++ new ∷ []) id ≡ Some x
appended [] new id x e = cc
appended (a ∷ arrays) new zero x e = e
appended (a ∷ arrays) new (suc id) x e = appended arrays new id x e

pub one_more_array : (arrays : Arrays) (new : Array) → KeepsLengths arrays (arrays ++ new ∷ [])
one_more_array arrays new = record { each = λ id x e. (x, appended arrays new id x e, refl) }

pub last_array : (arrays : Arrays) (new : Array) → slice_get (arrays ++ new ∷ []) (length arrays) ≡ Some new
last_array [] new = refl
last_array (a ∷ arrays) new = last_array arrays new

changed : (f : Array → Array) → ((x : Array) → length (f x).items ≡ length x.items) → (arrays : Arrays) (n id : ℕ) (x : Array) → slice_get arrays id ≡ Some x → (y : Array) × (slice_get (change f arrays n) id ≡ Some y) × (length y.items ≡ length x.items)
changed f same [] n id x e = cc
changed f same (a ∷ arrays) zero zero x e = let is : a ≡ x = cc e in (f a, refl, same a ∙ ap (λ (y : Array). length y.items) is)
changed f same (a ∷ arrays) zero (suc id) x e = (x, e, refl)
changed f same (a ∷ arrays) (suc n) zero x e = (x, e, refl)
changed f same (a ∷ arrays) (suc n) (suc id) x e = changed f same arrays n id x e

pub change_array : (f : Array → Array) → ((x : Array) → length (f x).items ≡ length x.items) → (arrays : Arrays) (n : ℕ) → KeepsLengths arrays (change f arrays n)
change_array f same arrays n = record { each = λ id x e. changed f same arrays n id x e }

-- ---- one value

module _ (args : ℕ) where
  pub wide_agrees : (arrays : Arrays) (k : Known) (v : Value) → Agrees arrays args k v → is_wide k ≡ is_long_value v
  wide_agrees arrays Wide v h = sym h
  wide_agrees arrays Narrow v h = sym h
  wide_agrees arrays (Number n) v h = ap (λ x. is_long_value x) (sym h)
  wide_agrees arrays Count v h = ap (λ x. is_long_value x) (sym h)
  wide_agrees arrays (Sized n) v (id, x, is, there, same) = ap (λ y. is_long_value y) (sym is)
  wide_agrees arrays Arguments v h = ap (λ x. is_long_value x) (sym h)

  pub forget_agrees : (arrays : Arrays) (k : Known) (v : Value) → Agrees arrays args k v → Agrees arrays args (forgotten k) v
  forget_agrees arrays Wide v h = h
  forget_agrees arrays Narrow v h = h
  forget_agrees arrays (Number n) v h = sym (wide_agrees arrays (Number n) v h)
  forget_agrees arrays Count v h = sym (wide_agrees arrays Count v h)
  forget_agrees arrays (Sized n) v h = sym (wide_agrees arrays (Sized n) v h)
  forget_agrees arrays Arguments v h = sym (wide_agrees arrays Arguments v h)

  pub agrees_later : (old new : Arrays) → KeepsLengths old new → (k : Known) (v : Value) → Agrees old args k v → Agrees new args k v
  agrees_later old new l Wide v h = h
  agrees_later old new l Narrow v h = h
  agrees_later old new l (Number n) v h = h
  agrees_later old new l Count v h = h
  agrees_later old new l (Sized n) v (id, x, is, there, same) = let y = l.each id x there in (id, y.0, is, y.1, y.2 ∙ same)
  agrees_later old new l Arguments v h = h

  pub local_agrees : (arrays : Arrays) (k : Known) (v : Value) → Agrees arrays args k v → LocalAgrees arrays args k v
  local_agrees arrays Wide v h = tt
  local_agrees arrays Narrow v h = tt
  local_agrees arrays (Number n) v h = h
  local_agrees arrays Count v h = h
  local_agrees arrays (Sized n) v h = h
  local_agrees arrays Arguments v h = h

  pub local_later : (old new : Arrays) → KeepsLengths old new → (k : Known) (v : Value) → LocalAgrees old args k v → LocalAgrees new args k v
  local_later old new l Wide v h = tt
  local_later old new l Narrow v h = tt
  local_later old new l (Number n) v h = h
  local_later old new l Count v h = h
  local_later old new l (Sized n) v h = agrees_later old new l (Sized n) v h
  local_later old new l Arguments v h = h

  pub kept_agrees : (arrays : Arrays) (b : Bool) (k : Known) (v : Value) → LocalAgrees arrays args k v → LocalAgrees arrays args (kept b k) v
  kept_agrees arrays true Wide v h = tt
  kept_agrees arrays false Wide v h = tt
  kept_agrees arrays true Narrow v h = tt
  kept_agrees arrays false Narrow v h = tt
  kept_agrees arrays true (Number n) v h = h
  kept_agrees arrays false (Number n) v h = tt
  kept_agrees arrays true Count v h = h
  kept_agrees arrays false Count v h = tt
  kept_agrees arrays true (Sized n) v h = h
  kept_agrees arrays false (Sized n) v h = h
  kept_agrees arrays true Arguments v h = h
  kept_agrees arrays false Arguments v h = h

  -- ---- lists of operands

  pub all_later : (old new : Arrays) → KeepsLengths old new → (ks : List Known) (vs : List Value) → AllAgree old args ks vs → AllAgree new args ks vs
  all_later old new l [] [] h = tt
  all_later old new l [] (v ∷ vs) h = absurd h
  all_later old new l (k ∷ ks) [] h = absurd h
  all_later old new l (k ∷ ks) (v ∷ vs) h = (agrees_later old new l k v h.0, all_later old new l ks vs h.1)

  pub all_forget : (arrays : Arrays) (ks : List Known) (vs : List Value) → AllAgree arrays args ks vs → AllAgree arrays args (map forgotten ks) vs
  all_forget arrays [] [] h = tt
  all_forget arrays [] (v ∷ vs) h = absurd h
  all_forget arrays (k ∷ ks) [] h = absurd h
  all_forget arrays (k ∷ ks) (v ∷ vs) h = (forget_agrees arrays k v h.0, all_forget arrays ks vs h.1)

  pub all_drop : (arrays : Arrays) (n : ℕ) (ks : List Known) (vs : List Value) → AllAgree arrays args ks vs → AllAgree arrays args (drop n ks) (drop n vs)
  all_drop arrays zero ks vs h = h
  all_drop arrays (suc n) [] [] h = tt
  all_drop arrays (suc n) [] (v ∷ vs) h = absurd h
  all_drop arrays (suc n) (k ∷ ks) [] h = absurd h
  all_drop arrays (suc n) (k ∷ ks) (v ∷ vs) h = all_drop arrays n ks vs h.1

  pub all_take : (arrays : Arrays) (n : ℕ) (ks : List Known) (vs : List Value) → AllAgree arrays args ks vs → AllAgree arrays args (take n ks) (take n vs)
  all_take arrays zero ks vs h = tt
  all_take arrays (suc n) [] [] h = tt
  all_take arrays (suc n) [] (v ∷ vs) h = absurd h
  all_take arrays (suc n) (k ∷ ks) [] h = absurd h
  all_take arrays (suc n) (k ∷ ks) (v ∷ vs) h = (h.0, all_take arrays n ks vs h.1)

  pub all_append : (arrays : Arrays) (ks js : List Known) (vs ws : List Value) → AllAgree arrays args ks vs → AllAgree arrays args js ws → AllAgree arrays args (ks ++ js) (vs ++ ws)
  all_append arrays [] js [] ws h g = g
  all_append arrays [] js (v ∷ vs) ws h g = absurd h
  all_append arrays (k ∷ ks) js [] ws h g = absurd h
  all_append arrays (k ∷ ks) js (v ∷ vs) ws h g = (h.0, all_append arrays ks js vs ws h.1 g)

  all_reverse_aux : (arrays : Arrays) (ks js : List Known) (vs ws : List Value) → AllAgree arrays args ks vs → AllAgree arrays args js ws → AllAgree arrays args (reverse_aux ks js) (reverse_aux vs ws)
  all_reverse_aux arrays [] js [] ws h g = g
  all_reverse_aux arrays [] js (v ∷ vs) ws h g = absurd h
  all_reverse_aux arrays (k ∷ ks) js [] ws h g = absurd h
  all_reverse_aux arrays (k ∷ ks) js (v ∷ vs) ws h g = all_reverse_aux arrays ks (k ∷ js) vs (v ∷ ws) h.1 (h.0, g)

  pub all_reverse : (arrays : Arrays) (ks : List Known) (vs : List Value) → AllAgree arrays args ks vs → AllAgree arrays args (reverse ks) (reverse vs)
  all_reverse arrays ks vs h = all_reverse_aux arrays ks [] vs [] h tt

  -- ---- local variables

  pub locals_later : (old new : Arrays) → KeepsLengths old new → (ks : List Known) (os : List (Option Value)) → LocalsAgree old args ks os → LocalsAgree new args ks os
  locals_later old new l ks os h n v e = local_later old new l (known_local ks n) v (h n v e)

  set_known : (P : Known → Type 0) (ks : List Known) (n : ℕ) (k : Known) → P k → P Narrow → P (known_local (slice_set ks n k) n)
  set_known P [] n k h g = g
  set_known P (x ∷ ks) zero k h g = h
  set_known P (x ∷ ks) (suc n) k h g = set_known P ks n k h g

  other_known : (ks : List Known) (n i : ℕ) (k : Known) → (i ≡ n → ⊥) → known_local (slice_set ks n k) i ≡ known_local ks i
  other_known [] n i k ne = refl
  other_known (x ∷ ks) zero zero k ne = absurd (ne refl)
  other_known (x ∷ ks) zero (suc i) k ne = refl
  other_known (x ∷ ks) (suc n) zero k ne = refl
  other_known (x ∷ ks) (suc n) (suc i) k ne = other_known ks n i k (λ e. ne (ap suc e))

  set_same : {A : Type 0} (xs : List A) (n : ℕ) (x y : A) → slice_get (slice_set xs n x) n ≡ Some y → x ≡ y
  set_same [] n x y e = cc
  set_same (z ∷ xs) zero x y e = cc e
  set_same (z ∷ xs) (suc n) x y e = set_same xs n x y e

  set_other : {A : Type 0} (xs : List A) (n i : ℕ) (x : A) → (i ≡ n → ⊥) → slice_get (slice_set xs n x) i ≡ slice_get xs i
  set_other [] n i x ne = refl
  set_other (z ∷ xs) zero zero x ne = absurd (ne refl)
  set_other (z ∷ xs) zero (suc i) x ne = refl
  set_other (z ∷ xs) (suc n) zero x ne = refl
  set_other (z ∷ xs) (suc n) (suc i) x ne = set_other xs n i x (λ e. ne (ap suc e))

  same_or_other : (i n : ℕ) → (i ≡ n) ⊎ (i ≡ n → ⊥)
  same_or_other zero zero = inl refl
  same_or_other zero (suc n) = inr (λ e. omega (arith, e))
  same_or_other (suc i) zero = inr (λ e. omega (arith, e))
  same_or_other (suc i) (suc n) = go (same_or_other i n)
    where
      go : (i ≡ n) ⊎ (i ≡ n → ⊥) → (suc i ≡ suc n) ⊎ (suc i ≡ suc n → ⊥)
      go (inl e) = inl (ap suc e)
      go (inr ne) = inr (λ e. ne (omega (arith, e)))

  -- One local variable is written.
  pub locals_set : (arrays : Arrays) (ks : List Known) (os : List (Option Value)) (n : ℕ) (k : Known) (w : Value) → LocalsAgree arrays args ks os → LocalAgrees arrays args k w → LocalsAgree arrays args (slice_set ks n k) (slice_set os n (Some w))
  locals_set arrays ks os n k w h g i v e = go (same_or_other i n)
    where
      go : (i ≡ n) ⊎ (i ≡ n → ⊥) → LocalAgrees arrays args (known_local (slice_set ks n k) i) v
      go (inl same) =
          let e' : slice_get (slice_set os n (Some w)) n ≡ Some (Some v) = ap (slice_get (slice_set os n (Some w))) (sym same) ∙ e in
          let is : w ≡ v = cc (set_same os n (Some w) (Some v) e') in
          subst (λ y. LocalAgrees arrays args (known_local (slice_set ks n k) y) v) (sym same) (set_known (λ y. LocalAgrees arrays args y v) ks n k (subst (LocalAgrees arrays args k) is g) tt)
      go (inr ne) = subst (λ y. LocalAgrees arrays args y v) (sym (other_known ks n i k ne)) (h i v (sym (set_other os n i (Some w) ne) ∙ e))

  -- One local variable is emptied.
  locals_empty : (arrays : Arrays) (ks : List Known) (os : List (Option Value)) (n : ℕ) → LocalsAgree arrays args ks os → LocalsAgree arrays args ks (slice_set os n None)
  locals_empty arrays ks os n h i v e = go (same_or_other i n)
    where
      go : (i ≡ n) ⊎ (i ≡ n → ⊥) → LocalAgrees arrays args (known_local ks i) v
      go (inl same) =
          let e' : slice_get (slice_set os n None) n ≡ Some (Some v) = ap (slice_get (slice_set os n None)) (sym same) ∙ e in
          let is : None ≡ Some v = set_same os n None (Some v) e' in cc
      go (inr ne) = h i v (sym (set_other os n i None ne) ∙ e)

  half_gone : (o : Option Value) (v : Value) → without_long_value o ≡ Some v → o ≡ Some v
  half_gone None v e = cc
  half_gone (Some (Long n)) v e = cc
  half_gone (Some (Int n)) v e = e
  half_gone (Some (Ref r)) v e = e

  change_less : (os : List (Option Value)) (n i : ℕ) (v : Value) → slice_get (change without_long_value os n) i ≡ Some (Some v) → slice_get os i ≡ Some (Some v)
  change_less [] n i v e = cc
  change_less (o ∷ os) zero zero v e = let is : without_long_value o ≡ Some v = cc e in ap (λ x. Some x) (half_gone o v is)
  change_less (o ∷ os) zero (suc i) v e = e
  change_less (o ∷ os) (suc n) zero v e = e
  change_less (o ∷ os) (suc n) (suc i) v e = change_less os n i v e

  locals_half : (arrays : Arrays) (ks : List Known) (os : List (Option Value)) (n : ℕ) → LocalsAgree arrays args ks os → LocalsAgree arrays args ks (change_before without_long_value os n)
  locals_half arrays ks os zero h = h
  locals_half arrays ks os (suc n) h = λ i v e. h i v (change_less os n i v e)

  locals_store : (arrays : Arrays) (ks : List Known) (os : List (Option Value)) (n : ℕ) (b : Bool) (k : Known) (w : Value) → LocalsAgree arrays args ks os → Agrees arrays args k w → LocalsAgree arrays args (slice_set ks n (kept b k)) (store_value os n w)
  locals_store arrays ks os n b k (Int x) h g = locals_set arrays ks (change_before without_long_value os n) n (kept b k) (Int x) (locals_half arrays ks os n h) (kept_agrees arrays b k (Int x) (local_agrees arrays k (Int x) g))
  locals_store arrays ks os n b k (Ref x) h g = locals_set arrays ks (change_before without_long_value os n) n (kept b k) (Ref x) (locals_half arrays ks os n h) (kept_agrees arrays b k (Ref x) (local_agrees arrays k (Ref x) g))
  locals_store arrays ks os n b k (Long x) h g = locals_empty arrays (slice_set ks n (kept b k)) (slice_set (change_before without_long_value os n) n (Some (Long x))) (suc n) (locals_set arrays ks (change_before without_long_value os n) n (kept b k) (Long x) (locals_half arrays ks os n h) (kept_agrees arrays b k (Long x) (local_agrees arrays k (Long x) g)))

  -- Nothing is known of a local variable.
  locals_clear : (arrays : Arrays) (ks : List Known) (os : List (Option Value)) (n : ℕ) → LocalsAgree arrays args ks os → LocalsAgree arrays args (slice_set ks n Narrow) os
  locals_clear arrays ks os n h i v e = go (same_or_other i n)
    where
      go : (i ≡ n) ⊎ (i ≡ n → ⊥) → LocalAgrees arrays args (known_local (slice_set ks n Narrow) i) v
      go (inl same) = subst (λ y. LocalAgrees arrays args (known_local (slice_set ks n Narrow) y) v) (sym same) (set_known (λ y. LocalAgrees arrays args y v) ks n Narrow tt tt)
      go (inr ne) = subst (λ y. LocalAgrees arrays args y v) (sym (other_known ks n i Narrow ne)) (h i v e)

  pub locals_stored : (arrays : Arrays) (ks : List Known) (os : List (Option Value)) (j : Kind) (n : ℕ) (b : Bool) (k : Known) (w : Value) → LocalsAgree arrays args ks os → Agrees arrays args k w → LocalsAgree arrays args (stored j n (kept b k) ks) (store_value os n w)
  locals_stored arrays ks os kind.Int n b k w h g = locals_store arrays ks os n b k w h g
  locals_stored arrays ks os kind.Reference n b k w h g = locals_store arrays ks os n b k w h g
  locals_stored arrays ks os kind.Long n b k w h g = locals_clear arrays (slice_set ks n (kept b k)) (store_value os n w) (suc n) (locals_store arrays ks os n b k w h g)

  -- A loaded value agrees.
  pub load_agrees : (arrays : Arrays) (j : Kind) (k : Known) (v : Value) → fits arrays v (type_of_kind j) ≡ true → LocalAgrees arrays args k v → Agrees arrays args (loaded j k) v
  load_agrees arrays kind.Long k (Int n) f h = cc
  load_agrees arrays kind.Long k (Long n) f h = refl
  load_agrees arrays kind.Long k (Ref reference.Null) f h = cc
  load_agrees arrays kind.Long k (Ref r) f h = cc
  load_agrees arrays kind.Int k (Long n) f h = cc
  load_agrees arrays kind.Int k (Ref reference.Null) f h = cc
  load_agrees arrays kind.Int k (Ref r) f h = cc
  load_agrees arrays kind.Int Wide (Int n) f h = refl
  load_agrees arrays kind.Int Narrow (Int n) f h = refl
  load_agrees arrays kind.Int (Number m) (Int n) f h = h
  load_agrees arrays kind.Int Count (Int n) f h = h
  load_agrees arrays kind.Int (Sized m) (Int n) f h = h
  load_agrees arrays kind.Int Arguments (Int n) f h = h
  load_agrees arrays kind.Reference k (Int n) f h = cc
  load_agrees arrays kind.Reference k (Long n) f h = cc
  load_agrees arrays kind.Reference Wide (Ref r) f h = refl
  load_agrees arrays kind.Reference Narrow (Ref r) f h = refl
  load_agrees arrays kind.Reference (Number m) (Ref r) f h = h
  load_agrees arrays kind.Reference Count (Ref r) f h = h
  load_agrees arrays kind.Reference (Sized m) (Ref r) f h = h
  load_agrees arrays kind.Reference Arguments (Ref r) f h = h

-- ---- comparisons

-- The answer on which all agree is each one's.
same_bits : (b x : Bool) → beq b x ≡ true → b ≡ x
same_bits true true e = refl
same_bits true false e = cc
same_bits false true e = cc
same_bits false false e = refl

each_is : (b : Bool) (xs : List Bool) (i : ℕ) (y : Bool) → all_are b xs ≡ true → slice_get xs i ≡ Some y → b ≡ y
each_is b [] i y e f = cc
each_is b (x ∷ xs) i y e f = go (λ n h g. each_is b xs n y h g) (beq b x) refl e i f
  where
    go : ((n : ℕ) → all_are b xs ≡ true → slice_get xs n ≡ Some y → b ≡ y) → (t : Bool) → beq b x ≡ t → (if t then all_are b xs else false) ≡ true → (i : ℕ) → slice_get (x ∷ xs) i ≡ Some y → b ≡ y
    go later true is e zero f = let same : x ≡ y = cc f in same_bits b x is ∙ same
    go later true is e (suc i) f = later i e f
    go later false is e i f = cc

pub unanimous_is : (xs : List Bool) (i : ℕ) (y b : Bool) → unanimous xs ≡ Some b → slice_get xs i ≡ Some y → b ≡ y
unanimous_is [] i y b e f = cc
unanimous_is (x ∷ xs) i y b e f = go (all_are x xs) refl e i f
  where
    go : (t : Bool) → all_are x xs ≡ t → (if t then Some x else None) ≡ Some b → (i : ℕ) → slice_get (x ∷ xs) i ≡ Some y → b ≡ y
    go true is e zero f = cc (e, f)
    go true is e (suc i) f = let same : x ≡ b = cc e in sym same ∙ each_is x xs i y is f
    go false is e i f = cc

-- ---- what is compared

answer_among : (c : Comparison) (xs bs : List ℤ) (i j : ℕ) (a b : ℤ) → slice_get xs i ≡ Some a → slice_get bs j ≡ Some b → (n : ℕ) × (slice_get (answers c xs bs) n ≡ Some (compare c a b))
answer_among c [] bs i j a b e f = cc
answer_among c (x ∷ others) bs zero j a b e f = let same : x ≡ a = cc e in (j, first_one (map (compare c x) bs) (answers c others bs) j (compare c a b) (subst (λ y. slice_get (map (compare c y) bs) j ≡ Some (compare c a b)) (sym same) (map_one (compare c a) bs j b f)))
answer_among c (x ∷ others) bs (suc i) j a b e f = let r = answer_among c others bs i j a b e f in later_one (map (compare c x) bs) (answers c others bs) r.0 (compare c a b) r.1

count_among : (n : ℕ) → n ≤ 8 → (i : ℕ) × (slice_get counts i ≡ Some (pos n))
count_among zero h = (0, refl)
count_among (suc zero) h = (1, refl)
count_among (suc (suc zero)) h = (2, refl)
count_among (suc (suc (suc zero))) h = (3, refl)
count_among (suc (suc (suc (suc zero)))) h = (4, refl)
count_among (suc (suc (suc (suc (suc zero))))) h = (5, refl)
count_among (suc (suc (suc (suc (suc (suc zero)))))) h = (6, refl)
count_among (suc (suc (suc (suc (suc (suc (suc zero))))))) h = (7, refl)
count_among (suc (suc (suc (suc (suc (suc (suc (suc zero)))))))) h = (8, refl)
count_among (suc (suc (suc (suc (suc (suc (suc (suc (suc n))))))))) h = absurd (omega (arith, h))

nothing_decides : (c : Comparison) (xs : List ℤ) (b : Bool) → unanimous (answers c xs []) ≡ Some b → ⊥
nothing_decides c [] b e = cc
nothing_decides c (a ∷ others) b e = nothing_decides c others b e

int_among : (args : ℕ) → args ≤ 8 → (arrays : Arrays) (k : Known) (a : ℤ) → Agrees arrays args k (Int a) → (ints_of k ≡ []) ⊎ ((i : ℕ) × (slice_get (ints_of k) i ≡ Some a))
int_among args few arrays Wide a h = inl refl
int_among args few arrays Narrow a h = inl refl
int_among args few arrays (Number n) a h = let same : a ≡ n = cc h in inr (0, ap (λ x. Some x) (sym same))
int_among args few arrays Count a h = let same : a ≡ pos args = cc h in let r = count_among args few in inr (r.0, r.1 ∙ ap (λ x. Some x) (sym same))
int_among args few arrays (Sized n) a h = inl refl
int_among args few arrays Arguments a h = inl refl

-- A comparison that is decided has that answer.
pub compared_is : (args : ℕ) → args ≤ 8 → (arrays : Arrays) (c : Comparison) (k l : Known) (a b : ℤ) (t : Bool) → Agrees arrays args k (Int a) → Agrees arrays args l (Int b) → compared c k l ≡ Some t → t ≡ compare c a b
compared_is args few arrays c k l a b t h g e = go (int_among args few arrays k a h) (int_among args few arrays l b g)
  where
    go : (ints_of k ≡ []) ⊎ ((i : ℕ) × (slice_get (ints_of k) i ≡ Some a)) → (ints_of l ≡ []) ⊎ ((i : ℕ) × (slice_get (ints_of l) i ≡ Some b)) → t ≡ compare c a b
    go (inl none) other = let e' : unanimous (answers c [] (ints_of l)) ≡ Some t = ap (λ x. unanimous (answers c x (ints_of l))) (sym none) ∙ e in cc
    go (inr x) (inl none) = absurd (nothing_decides c (ints_of k) t (ap (λ y. unanimous (answers c (ints_of k) y)) (sym none) ∙ e))
    go (inr x) (inr y) = let n = answer_among c (ints_of k) (ints_of l) x.0 y.0 a b x.1 y.1 in unanimous_is (answers c (ints_of k) (ints_of l)) n.0 (compare c a b) t e n.1
