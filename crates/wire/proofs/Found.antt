-- Bytes laid out as the body of a request are the text of that request.
use Rattle.std.proofs.Common.{◌≡◌, ◌⊎◌, ℕ, zero, suc, ◌%◌, ◌^◌, ◌<◌, ℤ, FitsSigned, Bool, true, false, nat_lt, ◌==◌, List, [], ◌∷◌, ◌++◌, length, refl, sym, ap, ◌∙◌, arith, append-nil, subst, inl, inr}
use Rattle.std.proofs.lemmas.Bool.{eqb-true, ltb-true}
use Rattle.std.proofs.Math.Facts.{sfits_to_z, of_z-to_z}
use Rattle.std.specs.List.{AllByRecursion}
use Rattle.std.specs.Int.{w32, w64, cast_signed, cast_unsigned}
use Rattle.byteorder.specs.Endian.{big_bytes}
use Rattle.jtypes.specs.declared.types.Arg.{Arg}
use Rattle.jtypes.specs.declared.types.Arg.TheVariants as arg
use Rattle.jtypes.specs.declared.refusal.Refusal.TheVariants.{BadOperand}
use Rattle.jtypes.specs.Layout.{Layout, known, stopped, chosen, number, many, IsLaidOut, ◌>>=◌}
use Rattle.wire.specs.Requests.{Request, Put, Get, Remove, Contains, Invoke, InvokeAll, RoundEnd, Version, Forget}
use Rattle.wire.specs.Frames.{AreBytes, long_text, int_text, arg_text, texts, args_text, request_text, IsArg, AreArgs, IsInRange}
use Rattle.wire.specs.Bodies.{long, int, arg_of, argument, arguments, put, invoke, forget, small, keys_and_arguments, alone}
use Rattle.wire.proofs.Numbers.{bytes_front, bytes_back, bytes_of_number, number_small}

-- `Finds` holds if bytes laid out as a value are the text of the value, and `P` holds of it.
abbrev pub Finds : {A : Type 0} → Layout A → (A → List ℕ) → (A → Type 0) → Type 0
Finds {A = A} l f P = (text : List ℕ) (x : A) → AreBytes text → IsLaidOut l text x → (text ≡ f x) × P x

chosen_cases : {A : Type 0} (b : Bool) (l m : Layout A) (text : List ℕ) (v : A) → IsLaidOut (chosen b l m) text v → ((b ≡ true) × IsLaidOut l text v) ⊎ ((b ≡ false) × IsLaidOut m text v)
chosen_cases true l m text v h = inl (refl, h)
chosen_cases false l m text v h = inr (refl, h)

-- A layout that applies `g` to the value of `l` reads the bytes of `l` and no more.
one_found : {A B : Type 0} (l : Layout A) (g : A → B) (text : List ℕ) (v : B) → IsLaidOut (l >>= λ x. known (g x)) text v → (x : A) × IsLaidOut l text x × (v ≡ g x)
one_found l g text v (x, front, back, parts, laid, (none, is)) =
    (x, subst (λ t. IsLaidOut l t x) (sym (parts ∙ ap (λ t. front ++ t) none ∙ append-nil front)) laid, is)

found_number : (n : ℕ) → Finds (number n) (λ k. big_bytes n k) (λ k. k < 256 ^ n)
unfolding number
found_number n text k h (x, front, back, parts, (long_enough, is), (none, num)) =
    let whole : text ≡ x = parts ∙ ap (λ t. front ++ t) none ∙ append-nil front ∙ sym is in
    let bytes : AreBytes x = subst AreBytes whole h in
    let size : length x ≡ n = ap (λ (t : List ℕ). length t) is ∙ long_enough in
    (whole ∙ bytes_of_number n x size bytes ∙ ap (big_bytes n) (sym num), subst (λ m. m < 256 ^ n) (sym num) (number_small n x bytes))

found_long : Finds long long_text (FitsSigned w64)
unfolding long
found_long text z h laid =
    let (bits, inside, is) = one_found (number 8) (cast_signed w64) text z laid in
    let n = found_number 8 text bits h inside in
    let fits : bits < 2 ^ 64 = omega (arith, n.1) in
    let back : cast_unsigned w64 (cast_signed w64 bits) ≡ bits = of_z-to_z {w = w64} (record { fits = fits }) in
    (n.0 ∙ ap (big_bytes 8) (sym back ∙ ap (cast_unsigned w64) (sym is)), subst (FitsSigned w64) (sym is) (sfits_to_z {w = w64} (record { fits = fits })))

found_int : Finds int int_text (FitsSigned w32)
unfolding int
found_int text z h laid =
    let (bits, inside, is) = one_found (number 4) (cast_signed w32) text z laid in
    let n = found_number 4 text bits h inside in
    let fits : bits < 2 ^ 32 = omega (arith, n.1) in
    let back : cast_unsigned w32 (cast_signed w32 bits) ≡ bits = of_z-to_z {w = w32} (record { fits = fits }) in
    (n.0 ∙ ap (big_bytes 4) (sym back ∙ ap (cast_unsigned w32) (sym is)), subst (FitsSigned w32) (sym is) (sfits_to_z {w = w32} (record { fits = fits })))

found_arg_of : (kind : ℕ) (text : List ℕ) (a : Arg) → AreBytes text → IsLaidOut (arg_of kind) text a → (kind ∷ text ≡ arg_text a) × IsArg a
unfolding arg_of
found_arg_of kind text a h laid =
    let four = chosen (kind == 4) (known (arg.Boolean true)) (stopped BadOperand) in
    let three = chosen (kind == 3) (known (arg.Boolean false)) four in
    let two = chosen (kind == 2) (int >>= λ n. known (arg.Integer n)) three in
    let one = chosen (kind == 1) (long >>= λ n. known (arg.Long n)) two in
    elim (chosen_cases (kind == 0) (known arg.Null) one text a laid) [
      | inl (is, (none, null)) ↦ subst (λ (v : Arg). (kind ∷ text ≡ arg_text v) × IsArg v) (sym null) (same kind 0 text [] (eqb-true kind 0 is) none, tt)
      | inr (_, rest) ↦ elim (chosen_cases (kind == 1) (long >>= λ n. known (arg.Long n)) two text a rest) [
        | inl (is, laid_long) ↦
            let (n, inside, v) = one_found long (λ n. arg.Long n) text a laid_long in
            let f = found_long text n h inside in
            subst (λ (v : Arg). (kind ∷ text ≡ arg_text v) × IsArg v) (sym v) (same kind 1 text (long_text n) (eqb-true kind 1 is) f.0, f.1)
        | inr (_, rest') ↦ elim (chosen_cases (kind == 2) (int >>= λ n. known (arg.Integer n)) three text a rest') [
          | inl (is, laid_int) ↦
              let (n, inside, v) = one_found int (λ n. arg.Integer n) text a laid_int in
              let f = found_int text n h inside in
              subst (λ (v : Arg). (kind ∷ text ≡ arg_text v) × IsArg v) (sym v) (same kind 2 text (int_text n) (eqb-true kind 2 is) f.0, f.1)
          | inr (_, more) ↦ elim (chosen_cases (kind == 3) (known (arg.Boolean false)) four text a more) [
            | inl (is, (none, was_false)) ↦ subst (λ (v : Arg). (kind ∷ text ≡ arg_text v) × IsArg v) (sym was_false) (same kind 3 text [] (eqb-true kind 3 is) none, tt)
            | inr (_, last) ↦ elim (chosen_cases (kind == 4) (known (arg.Boolean true)) (stopped BadOperand) text a last) [
              | inl (is, (none, was_true)) ↦ subst (λ (v : Arg). (kind ∷ text ≡ arg_text v) × IsArg v) (sym was_true) (same kind 4 text [] (eqb-true kind 4 is) none, tt)
              | inr (_, nothing) ↦ absurd nothing
            ]
          ]
        ]
      ]
    ]
  where
    same : (a b : ℕ) (xs ys : List ℕ) → a ≡ b → xs ≡ ys → a ∷ xs ≡ b ∷ ys
    same a b xs ys p q = cc

-- A number of one byte is that byte.
found_byte : (text : List ℕ) (k : ℕ) → AreBytes text → IsLaidOut (number 1) text k → (text ≡ k ∷ []) × (k < 256)
found_byte text k h laid =
    let n = found_number 1 text k h laid in
    let small : k < 256 = omega (arith, n.1) in
    let low : k % 256 ≡ k = omega arith in
    (n.0 ∙ ap (λ m. m ∷ []) low, small)

-- A text of two parts, where the first part equals `all`.
behind : (text front back all : List ℕ) → text ≡ front ++ back → front ≡ all → text ≡ all ++ back
behind text front back all p q = p ∙ ap (λ t. t ++ back) q

found_argument : Finds argument arg_text IsArg
unfolding argument
found_argument text a h (kind, front, back, parts, laid_kind, laid) =
    let bytes = subst AreBytes parts h in
    let k = found_byte front kind (bytes_front front back bytes) laid_kind in
    let f = found_arg_of kind back a (bytes_back front back bytes) laid in
    (behind text front back (kind ∷ []) parts k.0 ∙ f.0, f.1)

found_many : {A : Type 0} (l : Layout A) (f : A → List ℕ) (P : A → Type 0) → Finds l f P → (n : ℕ) (text : List ℕ) (xs : List A) → AreBytes text → IsLaidOut (many n l) text xs
    → (text ≡ texts f xs) × (length xs ≡ n) × AllByRecursion P xs
unfolding many
found_many {A = A} l f P finds zero text xs h (none, is) = subst (λ (ys : List A). (text ≡ texts f ys) × (length ys ≡ 0) × AllByRecursion P ys) (sym is) (none, refl, tt)
found_many {A = A} l f P finds (suc n) text xs h (x, front, back, parts, one, (ys, middle, last, parts', more, (none, is))) =
    let bytes = subst AreBytes parts h in
    let back_is : back ≡ middle = parts' ∙ ap (λ t. middle ++ t) none ∙ append-nil middle in
    let a = finds front x (bytes_front front back bytes) one in
    let b = found_many l f P finds n middle ys (subst AreBytes back_is (bytes_back front back bytes)) more in
    subst (λ (zs : List A). (text ≡ texts f zs) × (length zs ≡ suc n) × AllByRecursion P zs) (sym is)
    (behind text front back (f x) parts a.0 ∙ ap (λ t. f x ++ t) (back_is ∙ b.0), ap suc b.1, (a.1, b.2))

found_arguments : Finds arguments args_text AreArgs
unfolding arguments
found_arguments text args h (count, front, back, parts, laid_count, (u, none, rest, parts', few, laid)) =
    let bytes = subst AreBytes parts h in
    let c = found_byte front count (bytes_front front back bytes) laid_count in
    let (is_few, is_none, _) : (nat_lt count 9 ≡ true) × (none ≡ []) × (u ≡ tt) = elim (chosen_cases (nat_lt count 9) (known tt) (stopped BadOperand) none u few) [ inl (b, (n, v)) ↦ (b, n, v) | inr (_, nothing) ↦ absurd nothing ] in
    let back_is : back ≡ rest = parts' ∙ ap (λ t. t ++ rest) is_none in
    let m = found_many argument arg_text IsArg found_argument count rest args (subst AreBytes back_is (bytes_back front back bytes)) laid in
    let less = ltb-true count 9 is_few in
    (behind text front back (count ∷ []) parts c.0 ∙ ap (λ t. count ∷ t) (back_is ∙ m.0) ∙ ap (λ n. n ∷ texts arg_text args) (sym m.1), record { few = omega (arith, m.1); each = m.2 })

-- `IsTold` holds if the kind and `text` are the text of the request, which is in range.
abbrev IsTold : ℕ → List ℕ → Request → Type 0
IsTold kind text r = (kind ∷ text ≡ request_text r) × IsInRange r

found_put : (text : List ℕ) (r : Request) → AreBytes text → IsLaidOut put text r → IsTold 2 text r
unfolding put
found_put text r h (key, front, back, parts, laid_key, laid) =
    let bytes = subst AreBytes parts h in
    let (value, laid_value, is) = one_found long (λ value. Put key value) back r laid in
    let k = found_long front key (bytes_front front back bytes) laid_key in
    let v = found_long back value (bytes_back front back bytes) laid_value in
    subst (λ (q : Request). IsTold 2 text q) (sym is) (ap (λ t. 2 ∷ t) (behind text front back (long_text key) parts k.0 ∙ ap (λ t. long_text key ++ t) v.0), (k.1, v.1))

found_invoke : (text : List ℕ) (r : Request) → AreBytes text → IsLaidOut invoke text r → IsTold 6 text r
unfolding invoke
found_invoke text r h (class, a, b, parts, laid_class, (key, c, d, parts', laid_key, laid)) =
    let bytes = subst AreBytes parts h in
    let bytes' = subst AreBytes parts' (bytes_back a b bytes) in
    let (args, laid_args, is) = one_found arguments (λ args. Invoke class key args) d r laid in
    let n = found_number 4 a class (bytes_front a b bytes) laid_class in
    let k = found_long c key (bytes_front c d bytes') laid_key in
    let f = found_arguments d args (bytes_back c d bytes') laid_args in
    let whole : text ≡ big_bytes 4 class ++ long_text key ++ args_text args = behind text a b (big_bytes 4 class) parts n.0 ∙ ap (λ t. big_bytes 4 class ++ t) (behind b c d (long_text key) parts' k.0 ∙ ap (λ t. long_text key ++ t) f.0) in
    subst (λ (q : Request). IsTold 6 text q) (sym is) (ap (λ t. 6 ∷ t) whole, (omega (arith, n.1), k.1, f.1))

found_forget : (text : List ℕ) (r : Request) → AreBytes text → IsLaidOut forget text r → IsTold 10 text r
unfolding forget
found_forget text r h laid =
    let (class, inside, is) = one_found (number 4) (λ class. Forget class) text r laid in
    let n = found_number 4 text class h inside in
    subst (λ (q : Request). IsTold 10 text q) (sym is) (ap (λ t. 10 ∷ t) n.0, omega (arith, n.1))

pub found_keys : (class count : ℕ) (text : List ℕ) (r : Request) → class < 2 ^ 32 → count < 2 ^ 16 → AreBytes text → IsLaidOut (keys_and_arguments class count) text r
    → (7 ∷ big_bytes 4 class ++ big_bytes 2 count ++ text ≡ request_text r) × IsInRange r
unfolding keys_and_arguments
found_keys class count text r small few h (keys, front, back, parts, laid_keys, laid) =
    let bytes = subst AreBytes parts h in
    let (args, laid_args, is) = one_found arguments (λ args. InvokeAll class keys args) back r laid in
    let k = found_many long long_text (FitsSigned w64) found_long count front keys (bytes_front front back bytes) laid_keys in
    let f = found_arguments back args (bytes_back front back bytes) laid_args in
    let rest : text ≡ texts long_text keys ++ args_text args = behind text front back (texts long_text keys) parts k.0 ∙ ap (λ t. texts long_text keys ++ t) f.0 in
    let whole : 7 ∷ big_bytes 4 class ++ big_bytes 2 count ++ text ≡ request_text (InvokeAll class keys args) = ap (λ n. 7 ∷ big_bytes 4 class ++ big_bytes 2 n ++ text) (sym k.1) ∙ ap (λ t. 7 ∷ big_bytes 4 class ++ big_bytes 2 (length keys) ++ t) rest in
    subst (λ (q : Request). (7 ∷ big_bytes 4 class ++ big_bytes 2 count ++ text ≡ request_text q) × IsInRange q) (sym is) (whole, (small, omega (arith, k.1), k.2, f.1))

-- A body that consists of one key is the body of the request `g` of that key.
found_key : (kind : ℕ) (g : ℤ → Request) (text : List ℕ) (r : Request) → ((z : ℤ) → FitsSigned w64 z → IsTold kind (long_text z) (g z)) → AreBytes text → IsLaidOut (long >>= λ z. known (g z)) text r → IsTold kind text r
found_key kind g text r told h laid =
    let (z, inside, is) = one_found long g text r laid in
    let f = found_long text z h inside in
    subst (λ (q : Request). IsTold kind text q) (sym is) (subst (λ (t : List ℕ). IsTold kind t (g z)) (sym f.0) (told z f.1))

pub found_small : (kind : ℕ) (text : List ℕ) (r : Request) → AreBytes text → IsLaidOut (small kind) text r → IsTold kind text r
unfolding small
found_small kind text r h laid =
    let ten = chosen (kind == 10) forget (stopped BadOperand) in
    let nine = chosen (kind == 9) (known Version) ten in
    let eight = chosen (kind == 8) (known RoundEnd) nine in
    let six = chosen (kind == 6) invoke eight in
    let five = chosen (kind == 5) (long >>= λ key. known (Contains key)) six in
    let four = chosen (kind == 4) (long >>= λ key. known (Remove key)) five in
    let three = chosen (kind == 3) (long >>= λ key. known (Get key)) four in
    elim (chosen_cases (kind == 2) put three text r laid) [
      | inl (is, found) ↦ at 2 is (found_put text r h found)
      | inr (_, h3) ↦ elim (chosen_cases (kind == 3) (long >>= λ key. known (Get key)) four text r h3) [
        | inl (is, found) ↦ at 3 is (found_key 3 (λ z. Get z) text r (λ z f. (refl, f)) h found)
        | inr (_, h4) ↦ elim (chosen_cases (kind == 4) (long >>= λ key. known (Remove key)) five text r h4) [
          | inl (is, found) ↦ at 4 is (found_key 4 (λ z. Remove z) text r (λ z f. (refl, f)) h found)
          | inr (_, h5) ↦ elim (chosen_cases (kind == 5) (long >>= λ key. known (Contains key)) six text r h5) [
            | inl (is, found) ↦ at 5 is (found_key 5 (λ z. Contains z) text r (λ z f. (refl, f)) h found)
            | inr (_, h6) ↦ elim (chosen_cases (kind == 6) invoke eight text r h6) [
              | inl (is, found) ↦ at 6 is (found_invoke text r h found)
              | inr (_, h8) ↦ elim (chosen_cases (kind == 8) (known RoundEnd) nine text r h8) [
                | inl (is, (none, end)) ↦ at 8 is (subst (λ (q : Request). IsTold 8 text q) (sym end) (ap (λ t. 8 ∷ t) none, tt))
                | inr (_, h9) ↦ elim (chosen_cases (kind == 9) (known Version) ten text r h9) [
                  | inl (is, (none, version)) ↦ at 9 is (subst (λ (q : Request). IsTold 9 text q) (sym version) (ap (λ t. 9 ∷ t) none, tt))
                  | inr (_, h10) ↦ elim (chosen_cases (kind == 10) forget (stopped BadOperand) text r h10) [
                    | inl (is, found) ↦ at 10 is (found_forget text r h found)
                    | inr (_, nothing) ↦ absurd nothing
                  ]
                ]
              ]
            ]
          ]
        ]
      ]
    ]
  where
    at : (n : ℕ) → (kind == n) ≡ true → IsTold n text r → IsTold kind text r
    at n is told = subst (λ k. IsTold k text r) (sym (eqb-true kind n is)) told

pub alone_found : (l : Layout Request) (text : List ℕ) (r : Request) → IsLaidOut (alone l) text r → IsLaidOut l text r
unfolding alone
alone_found l text r (q, front, back, parts, laid, (u, a, b, parts', is_end, (none, is))) =
    let rest : back ≡ [] = parts' ∙ ap (λ t. t ++ b) is_end ∙ none in
    let whole : text ≡ front = parts ∙ ap (λ t. front ++ t) rest ∙ append-nil front in
    subst (λ (p : Request). IsLaidOut l text p) (sym is) (subst (λ t. IsLaidOut l t q) (sym whole) laid)
