-- Lemmas about a method's only `Code` attribute.
use Rattle.std.proofs.Common.{◌≡◌, ℕ, zero, suc, true, false, ◌||◌, List, [], ◌∷◌, length, Some, None, Result, Ok, Err, refl, sym, ap, ◌∙◌, subst, arith, ◌⊎◌, inl, inr}
use Rattle.std.specs.Prelude.{Contains, option_and_then, nat_eq}
use Rattle.std.proofs.lemmas.Bool.{eqb-true, eq-eqb, cases_Bool, false≢true}
use Rattle.jtypes.specs.declared.refusal.Refusal.{Refusal}
use Rattle.jtypes.specs.declared.refusal.Refusal.TheVariants.{NoMemory, NoBody, BadCode, ExceptionTable}
use Rattle.jtypes.specs.Layout.{first, IsLaidOut}
use Rattle.jtypes.specs.Lists.{only}
use Rattle.jtypes.proofs.Laws.{laid_out_once, whole_found}
use Rattle.constpool.specs.declared.descriptor.Sig.{Sig}
use Rattle.constpool.specs.Descriptor.{sig_of}
use Rattle.constpool.specs.Lookup.{Slot}
use Rattle.classfile.specs.declared.class_file.Member.{Member}
use Rattle.classfile.specs.declared.class_file.CodeParts.{CodeParts}
use Rattle.classfile.specs.Code.{code_parts, parts_of_code, found_parts}
use Rattle.classfile.specs.View.{codes_of, text_at}
use Rattle.frames.specs.Signatures.{is_abstract, is_native}
use Rattle.verdict.specs.Shape.{HasCode, HasSomeCode, HasNoBody, HasBadCode, more_than_one, not_filled, empty, long, crowded, slots_taken}
use Rattle.verdict.specs.Shaping.{ArePartsGood, PartsStand, MethodCodeStands, HasGoodCode}
use Rattle.verdict.proofs.Readable.{code_is_read}

-- ---- contents that parse as a `Code` attribute, and contents that don't

parts_are : (content : List ℕ) (c : CodeParts) → parts_of_code content ≡ Some c → IsLaidOut code_parts content c
unfolding parts_of_code
parts_are content c h = go (first code_parts content) refl h
  where
    go : (read : Result (CodeParts × List ℕ) Refusal) → first code_parts content ≡ read → found_parts read ≡ Some c → IsLaidOut code_parts content c
    go (Ok (d, [])) e f = let same : d ≡ c = cc f in subst (IsLaidOut code_parts content) same (whole_found code_parts content d e)
    go (Ok (d, x ∷ xs)) e f = absurd cc
    go (Err r) e f = absurd cc

none_are : (content : List ℕ) → parts_of_code content ≡ None → (c : CodeParts) → IsLaidOut code_parts content c → ⊥
unfolding parts_of_code
none_are content h c laid =
    let none : None ≡ Some c = sym h ∙ ap found_parts (code_is_read content c laid) in
    cc none

first_of : {A : Type 0} (x : A) (xs : List A) → Contains (x ∷ xs) x
first_of x xs = (0, omega arith, refl)

only_one : {A : Type 0} (x y : A) → Contains (x ∷ []) y → y ≡ x
only_one x y (zero, lt, is) = sym is
only_one x y (suc k, lt, is) = absurd (omega arith)

pub some_is_only : (pool : List Slot) (m : Member) (c d : CodeParts) → HasCode pool m c → HasSomeCode pool m d → d ≡ c
some_is_only pool m c d h k =
    let same : k.0 ≡ h.0 = only_one h.0 k.0 (subst (λ (cs : List (List ℕ)). Contains cs k.0) h.1 k.1) in
    let one = laid_out_once code_parts h.0 [] h.0 [] d c (subst (λ (t : List ℕ). IsLaidOut code_parts t d) same k.2) h.2 refl in
    one.2

pub has_some : (pool : List Slot) (m : Member) (c : CodeParts) → HasCode pool m c → HasSomeCode pool m c
has_some pool m c h = (h.0, subst (λ (cs : List (List ℕ)). Contains cs h.0) (sym h.1) (first_of h.0 []), h.2)

-- ---- methods with and without a body

lacks_body : (pool : List Slot) (m : Member) (n : ℕ) → n ≡ length (codes_of pool m) → (is_abstract m.flags || is_native m.flags || nat_eq n 0) ≡ true → HasNoBody pool m
lacks_body pool m n same h = go (codes_of pool m) refl (cases_Bool (is_abstract m.flags)) (cases_Bool (is_native m.flags))
  where
    go : (cs : List (List ℕ)) → codes_of pool m ≡ cs → (is_abstract m.flags ≡ true) ⊎ (is_abstract m.flags ≡ false) → (is_native m.flags ≡ true) ⊎ (is_native m.flags ≡ false) → HasNoBody pool m
    go cs e (inl a) b = inl a
    go cs e (inr a) (inl b) = inr (inl b)
    go [] e (inr a) (inr b) = inr (inr e)
    go (x ∷ xs) e (inr a) (inr b) =
        let zero_is : nat_eq n 0 ≡ true = rw (a, b) at h in
        let none : n ≡ 0 = eqb-true n 0 zero_is in
        absurd (omega (arith, same, ap length e, none))

has_body : (pool : List Slot) (m : Member) (n : ℕ) → n ≡ length (codes_of pool m) → (is_abstract m.flags || is_native m.flags || nat_eq n 0) ≡ false → HasNoBody pool m → ⊥
has_body pool m n same h (inl a) = false≢true (sym (rw a at h))
has_body pool m n same h (inr (inl b)) = go (cases_Bool (is_abstract m.flags))
  where
    go : (is_abstract m.flags ≡ true) ⊎ (is_abstract m.flags ≡ false) → ⊥
    go (inl a) = false≢true (sym (rw a at h))
    go (inr a) = false≢true (sym (rw (a, b) at h))
has_body pool m n same h (inr (inr e)) = go (cases_Bool (is_abstract m.flags)) (cases_Bool (is_native m.flags))
  where
    z : nat_eq n 0 ≡ true
    z = eq-eqb n 0 (same ∙ ap length e)

    go : (is_abstract m.flags ≡ true) ⊎ (is_abstract m.flags ≡ false) → (is_native m.flags ≡ true) ⊎ (is_native m.flags ≡ false) → ⊥
    go (inl a) b = false≢true (sym (rw a at h))
    go (inr a) (inl b) = false≢true (sym (rw (a, b) at h))
    go (inr a) (inr b) = false≢true (sym (rw (a, b, z) at h))

-- ---- the only `Code` attribute and its parts

pub bad_only : (pool : List Slot) (m : Member) (cs : List (List ℕ)) (n : ℕ) → cs ≡ codes_of pool m → n ≡ length cs → (is_abstract m.flags || is_native m.flags || nat_eq n 0) ≡ false
    → option_and_then parts_of_code (only cs) ≡ None → HasBadCode pool m
bad_only pool m [] n same count body none = absurd (has_body pool m n (count ∙ ap length same) body (inr (inr (sym same))))
bad_only pool m (x ∷ []) n same count body none = not_filled x (subst (λ (cs : List (List ℕ)). Contains cs x) same (first_of x [])) (none_are x none)
bad_only pool m (x ∷ y ∷ others) n same count body none = more_than_one (omega (arith, ap length same))

only_has : (pool : List Slot) (m : Member) (cs : List (List ℕ)) (c : CodeParts) → cs ≡ codes_of pool m → option_and_then parts_of_code (only cs) ≡ Some c → HasCode pool m c
only_has pool m [] c same some = absurd cc
only_has pool m (x ∷ []) c same some = (x, sym same, parts_are x c some)
only_has pool m (x ∷ y ∷ others) c same some = absurd cc

pub parts_refused : (pool : List Slot) (m : Member) (cs : List (List ℕ)) (c : CodeParts) (slots : ℕ) (s : Sig) (r : Refusal) → cs ≡ codes_of pool m → option_and_then parts_of_code (only cs) ≡ Some c
    → sig_of (text_at pool m.descriptor) ≡ Some s → slots ≡ slots_taken m.flags s → (r ≡ NoMemory) ⊎ PartsStand slots c r → (r ≡ NoMemory) ⊎ MethodCodeStands pool m r
parts_refused pool m cs c slots s r same some sig room (inl e) = inl e
parts_refused pool m cs c slots s BadCode same some sig room (inr (inl h)) = inr (empty c (has_some pool m c (only_has pool m cs c same some)) h)
parts_refused pool m cs c slots s BadCode same some sig room (inr (inr (inl h))) = inr (long c (has_some pool m c (only_has pool m cs c same some)) h)
parts_refused pool m cs c slots s BadCode same some sig room (inr (inr (inr h))) = inr (crowded c s (has_some pool m c (only_has pool m cs c same some)) sig (omega (arith, room, h)))
parts_refused pool m cs c slots s ExceptionTable same some sig room (inr h) = inr (c, has_some pool m c (only_has pool m cs c same some), h)
parts_refused pool m cs c slots s r same some sig room (inr h) = absurd h

pub good_code : (pool : List Slot) (m : Member) (cs : List (List ℕ)) (n : ℕ) (c : CodeParts) (slots : ℕ) (s : Sig) → cs ≡ codes_of pool m → n ≡ length cs → (is_abstract m.flags || is_native m.flags || nat_eq n 0) ≡ false
    → option_and_then parts_of_code (only cs) ≡ Some c → sig_of (text_at pool m.descriptor) ≡ Some s → slots ≡ slots_taken m.flags s → ArePartsGood slots c → HasGoodCode pool m c
good_code pool m cs n c slots s same count body some sig room good = record { has_code = has; none_stands = none }
  where
    has : HasCode pool m c
    has = only_has pool m cs c same some

    one : (d : CodeParts) → HasSomeCode pool m d → d ≡ c
    one d h = some_is_only pool m c d has h

    bad : HasBadCode pool m → ⊥
    bad (more_than_one h) = omega (arith, ap length has.1)
    bad (not_filled x h k) = k c (subst (λ (t : List ℕ). IsLaidOut code_parts t c) (sym (only_one has.0 x (subst (λ (cs : List (List ℕ)). Contains cs x) has.1 h))) has.2)
    bad (empty d h z) = omega (arith, good.some, ap (λ (p : CodeParts). length p.code) (one d h), z)
    bad (long d h z) = omega (arith, good.within, ap (λ (p : CodeParts). length p.code) (one d h), z)
    bad (crowded d t h k z) =
        let twice : Some t ≡ Some s = sym k ∙ sig in
        let sigs : t ≡ s = cc twice in
        omega (arith, good.room, ap (λ (p : CodeParts). p.max_locals) (one d h), z, room, ap (slots_taken m.flags) sigs)

    none : (r : Refusal) → MethodCodeStands pool m r → ⊥
    none NoBody h = has_body pool m n (count ∙ ap length same) body h
    none BadCode h = bad h
    none ExceptionTable h = omega (arith, good.no_table, ap (λ (p : CodeParts). p.exceptions) (one h.0 h.1), h.2)
    none r h = h
