-- The text of a request parses as that request.
use Rattle.std.proofs.Common.{◌≡◌, ◌≢◌, ℕ, ◌%◌, ◌^◌, ◌<◌, ℤ, FitsSigned, true, false, nat_lt, List, [], ◌∷◌, ◌++◌, length, take, drop, Ok, refl, sym, ap, ◌∙◌, arith, append-nil, append_assoc}
use Rattle.std.proofs.lemmas.List.{length-append, drop_at}
use Rattle.std.proofs.Math.Seq.{take-append_seam}
use Rattle.std.proofs.Math.Facts.{to_z-of_z, Fits-of_z}
use Rattle.std.specs.List.{AllByRecursion}
use Rattle.std.specs.Int.{w32, w64, cast_unsigned}
use Rattle.byteorder.specs.Endian.{big_bytes, big_number}
use Rattle.byteorder.specs.Numbers.{length-bytes_high_first, big_number-reads_back}
use Rattle.jtypes.specs.declared.types.Arg.{Arg}
use Rattle.jtypes.specs.declared.types.Arg.TheVariants as arg
use Rattle.jtypes.specs.declared.refusal.Refusal.{Refusal}
use Rattle.jtypes.specs.Layout.{Layout, known, number, many, first, part_or, ◌>>=◌}
use Rattle.wire.specs.Requests.{Request, Define, Put, Get, Remove, Contains, Invoke, InvokeAll, RoundEnd, Version, Forget}
use Rattle.wire.specs.Frames.{long_text, int_text, arg_text, texts, args_text, request_text, IsArg, AreArgs, IsInRange}
use Rattle.wire.specs.Bodies.{long, int, arg_of, argument, arguments, put, invoke, forget, small, keys_and_arguments, alone}

-- `Reads` holds if the layout reads each value with `P` from its text, whatever bytes follow.
abbrev pub Reads : {A : Type 0} → Layout A → (A → List ℕ) → (A → Type 0) → Type 0
Reads {A = A} l f P = (x : A) (rest : List ℕ) → P x → first l (f x ++ rest) ≡ Ok (x, rest)

at_end : {A : Type 0} (l : Layout A) (f : A → List ℕ) (P : A → Type 0) → Reads l f P → (x : A) → P x → first l (f x) ≡ Ok (x, [])
at_end l f P reads x h = ap (λ t. first l t) (sym (append-nil (f x))) ∙ reads x [] h

long_enough : (n : ℕ) (text rest : List ℕ) → length text ≡ n → nat_lt (length (text ++ rest)) n ≡ false
long_enough n text rest e = grind (arith, length-append)

read_part : (q : Refusal) (n : ℕ) (text rest : List ℕ) → length text ≡ n → first (part_or q n) (text ++ rest) ≡ Ok (text, rest)
read_part q n text rest e =
    let a : take n (text ++ rest) ≡ text = ap (λ m. take m (text ++ rest)) (sym e) ∙ take-append_seam text rest in
    let b : drop n (text ++ rest) ≡ rest = drop_at text rest n e in
    rw (long_enough n text rest e, a, b) refl

pub read_number : (n : ℕ) → Reads (number n) (λ k. big_bytes n k) (λ k. k < 256 ^ n)
unfolding number
read_number n k rest h =
    let back : big_number n (big_bytes n k) ≡ k = ap (big_number n) (sym (append-nil (big_bytes n k))) ∙ big_number-reads_back n k [] h in
    rw (read_part _ n (big_bytes n k) rest (length-bytes_high_first n k), back) refl

read_byte : (k : ℕ) (rest : List ℕ) → k < 256 → first (number 1) (k ∷ rest) ≡ Ok (k, rest)
read_byte k rest h =
    let low : k % 256 ≡ k = omega arith in
    let r : first (number 1) (k % 256 ∷ rest) ≡ Ok (k, rest) = read_number 1 k rest (omega (arith, h)) in
    rw low at r

read_long : Reads long long_text (FitsSigned w64)
unfolding long
read_long z rest h =
    let bits = Fits-of_z {w = w64} {z = z} h in
    rw (read_number 8 (cast_unsigned w64 z) rest (omega (arith, bits.fits)), to_z-of_z {w = w64} {z = z} h) refl

read_int : Reads int int_text (FitsSigned w32)
unfolding int
read_int z rest h =
    let bits = Fits-of_z {w = w32} {z = z} h in
    rw (read_number 4 (cast_unsigned w32 z) rest (omega (arith, bits.fits)), to_z-of_z {w = w32} {z = z} h) refl

read_argument : Reads argument arg_text IsArg
unfolding argument arg_of
read_argument arg.Null rest h = rw (read_byte 0 rest (omega arith)) refl
read_argument (arg.Long n) rest h = rw (read_byte 1 (long_text n ++ rest) (omega arith), read_long n rest h) refl
read_argument (arg.Integer n) rest h = rw (read_byte 2 (int_text n ++ rest) (omega arith), read_int n rest h) refl
read_argument (arg.Boolean false) rest h = rw (read_byte 3 rest (omega arith)) refl
read_argument (arg.Boolean true) rest h = rw (read_byte 4 rest (omega arith)) refl

read_many : {A : Type 0} (l : Layout A) (f : A → List ℕ) (P : A → Type 0) → Reads l f P → (xs : List A) (rest : List ℕ) → AllByRecursion P xs → first (many (length xs) l) (texts f xs ++ rest) ≡ Ok (xs, rest)
unfolding many
read_many l f P reads [] rest h = refl
read_many l f P reads (x ∷ xs) rest h =
    rw (append_assoc (f x) (texts f xs) rest, reads x (texts f xs ++ rest) h.0, read_many l f P reads xs rest h.1) refl

read_arguments : Reads arguments args_text AreArgs
unfolding arguments
read_arguments args rest h =
    let few : nat_lt (length args) 9 ≡ true = grind (arith, h.few) in
    rw (read_byte (length args) (texts arg_text args ++ rest) (omega (arith, h.few)), few, read_many argument arg_text IsArg read_argument args rest h.each) refl

read_put : (key value : ℤ) → FitsSigned w64 key → FitsSigned w64 value → first put (long_text key ++ long_text value) ≡ Ok (Put key value, [])
unfolding put
read_put key value h k =
    let end : first long (long_text value) ≡ Ok (value, []) = at_end long long_text (FitsSigned w64) read_long value k in
    rw (read_long key (long_text value) h, end) refl

read_invoke : (class : ℕ) (key : ℤ) (args : List Arg) → IsInRange (Invoke class key args) → first invoke (big_bytes 4 class ++ long_text key ++ args_text args) ≡ Ok (Invoke class key args, [])
unfolding invoke
read_invoke class key args h =
    let end : first arguments (args_text args) ≡ Ok (args, []) = at_end arguments args_text AreArgs read_arguments args h.2 in
    rw (read_number 4 class (long_text key ++ args_text args) (omega (arith, h.0)), read_long key (args_text args) h.1, end) refl

read_forget : (class : ℕ) → class < 2 ^ 32 → first forget (big_bytes 4 class) ≡ Ok (Forget class, [])
unfolding forget
read_forget class h =
    let end : first (number 4) (big_bytes 4 class) ≡ Ok (class, []) = at_end (number 4) (λ k. big_bytes 4 k) (λ k. k < 256 ^ 4) (read_number 4) class (omega (arith, h)) in
    rw end refl

pub read_keys : (class : ℕ) (keys : List ℤ) (args : List Arg) → IsInRange (InvokeAll class keys args) → first (keys_and_arguments class (length keys)) (texts long_text keys ++ args_text args) ≡ Ok (InvokeAll class keys args, [])
unfolding keys_and_arguments
read_keys class keys args h =
    let end : first arguments (args_text args) ≡ Ok (args, []) = at_end arguments args_text AreArgs read_arguments args h.3 in
    rw (read_many long long_text (FitsSigned w64) read_long keys (args_text args) h.2, end) refl

pub read_alone : (l : Layout Request) (text : List ℕ) (r : Request) → first l text ≡ Ok (r, []) → first (alone l) text ≡ Ok (r, [])
unfolding alone
read_alone l text r e = rw e refl

read_key : (g : ℤ → Request) (key : ℤ) → FitsSigned w64 key → first (long >>= λ z. known (g z)) (long_text key) ≡ Ok (g key, [])
read_key g key h =
    let end : first long (long_text key) ≡ Ok (key, []) = at_end long long_text (FitsSigned w64) read_long key h in
    rw end refl

parts : (a b : ℕ) (xs ys : List ℕ) → a ∷ xs ≡ b ∷ ys → (a ≡ b) × (xs ≡ ys)
parts a b xs ys e = (cc, cc)

-- The body of a request other than `Define` and `InvokeAll` parses as that request.
pub read_small : (r : Request) (kind : ℕ) (text : List ℕ) → IsInRange r → kind ∷ text ≡ request_text r → kind ≢ 1 → kind ≢ 7 → first (small kind) text ≡ Ok (r, [])
unfolding small
read_small (Define bytes) kind text h e one seven = absurd (one cc)
read_small (Put key value) kind text h e one seven = let (k, t) = parts kind 2 text _ e in rw (k, t) (read_put key value h.0 h.1)
read_small (Get key) kind text h e one seven = let (k, t) = parts kind 3 text _ e in rw (k, t) (read_key (λ z. Get z) key h)
read_small (Remove key) kind text h e one seven = let (k, t) = parts kind 4 text _ e in rw (k, t) (read_key (λ z. Remove z) key h)
read_small (Contains key) kind text h e one seven = let (k, t) = parts kind 5 text _ e in rw (k, t) (read_key (λ z. Contains z) key h)
read_small (Invoke class key args) kind text h e one seven = let (k, t) = parts kind 6 text _ e in rw (k, t) (read_invoke class key args h)
read_small (InvokeAll class keys args) kind text h e one seven = absurd (seven cc)
read_small RoundEnd kind text h e one seven = let (k, t) = parts kind 8 text _ e in rw (k, t) refl
read_small Version kind text h e one seven = let (k, t) = parts kind 9 text _ e in rw (k, t) refl
read_small (Forget class) kind text h e one seven = let (k, t) = parts kind 10 text _ e in rw (k, t) (read_forget class h)
