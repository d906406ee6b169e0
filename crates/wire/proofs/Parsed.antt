-- What the result of parsing a body says about the text.
use Rattle.std.proofs.Common.{◌≡◌, ◌≢◌, ◌⊎◌, ℕ, suc, ◌+◌, ◌*◌, ◌^◌, ◌<◌, ◌≤◌, ℤ, true, false, List, [], ◌∷◌, ◌++◌, length, take, drop, append_assoc, Result, Ok, Err, refl, sym, ap, ◌∙◌, subst, arith, inl, inr}
use Rattle.std.proofs.lemmas.List.{length-append, take-append-drop}
use lib.Seq.{take-append_seam}
use Rattle.byteorder.specs.Endian.{big_bytes}
use Rattle.jtypes.specs.declared.types.Arg.{Arg}
use Rattle.jtypes.specs.declared.types.Arg.TheVariants as arg
use Rattle.jtypes.specs.declared.refusal.Refusal.{Refusal}
use Rattle.jtypes.specs.declared.refusal.Refusal.TheVariants as refusal
use Rattle.jtypes.specs.Layout.{Layout, first, Gives, number}
use Rattle.jtypes.proofs.Laws.{whole_found, stands_from_fails, first_stands}
use Rattle.wire.specs.Requests.{Request, Define, Put, Get, Remove, Contains, Invoke, InvokeAll, RoundEnd, Version, Forget}
use Rattle.wire.specs.declared.fault.WireFault.{WireFault}
use Rattle.wire.specs.declared.protocol.Protocol.{Protocol}
use Rattle.wire.specs.Frames.{AreBytes, long_text, arg_text, texts, args_text, request_text, IsText, IsNoRequest, IsRead, AreArgs}
use Rattle.wire.specs.Bodies.{small, keys_and_arguments, alone}
use Rattle.wire.specs.Reading.{Parses, IsFaultOf, BeginsNoInvocation}
use Rattle.wire.proofs.Found.{found_small, found_keys, alone_found}
use Rattle.wire.proofs.Read.{read_small, read_keys, read_alone, read_number}

-- The fault of a refused parse is correct, if the text encodes no request whenever the refusal isn't `NoMemory`.
parse_fails : (text : List ℕ) (e : Refusal) (f : WireFault) → IsFaultOf e f → (e ≢ refusal.NoMemory → IsNoRequest text) → Parses text (Err f)
parse_fails text e f (inl (_, lacks)) none = subst (λ (x : WireFault). Parses text (Err x)) (sym lacks) tt
parse_fails text e f (inr (is, malformed)) none = subst (λ (x : WireFault). Parses text (Err x)) (sym malformed) (none is)

-- If parsing all the bytes is refused, and not for memory, the layout reads no request from them.
refused : (l : Layout Request) (bytes : List ℕ) (e : Refusal) (r : Request) → Gives {X = Request} (λ r. (r, [])) (Err e) (first l bytes) → e ≢ refusal.NoMemory → first l bytes ≡ Ok (r, []) → ⊥
refused l bytes e r h n found = first_stands l bytes r [] e found (stands_from_fails l bytes e n h)

pub small_ok : (kind : ℕ) (body : List ℕ) (r : Request) → AreBytes body → Gives {X = Request} (λ r. (r, [])) (Ok r) (first (alone (small kind)) body) → IsText (kind ∷ body) r
small_ok kind body r h given =
    let laid = alone_found (small kind) body r (whole_found (alone (small kind)) body r given) in
    let told = found_small kind body r h laid in
    record { is = told.0; in_range = told.1 }

pub small_fails : (kind : ℕ) (body : List ℕ) (e : Refusal) (f : WireFault) → kind ≢ 1 → kind ≢ 7 → IsFaultOf e f → Gives {X = Request} (λ r. (r, [])) (Err e) (first (alone (small kind)) body) → Parses (kind ∷ body) (Err f)
small_fails kind body e f one seven why given =
    parse_fails (kind ∷ body) e f why (λ n r t. refused (alone (small kind)) body e r given n (read_alone (small kind) body r (read_small r kind body t.in_range t.is one seven)))

-- Two equal byte lists that begin with numbers of equal width have equal numbers and equal rests.
pub same_numbers : (n a b : ℕ) (xs ys : List ℕ) → a < 256 ^ n → b < 256 ^ n → big_bytes n a ++ xs ≡ big_bytes n b ++ ys → (a ≡ b) × (xs ≡ ys)
same_numbers n a b xs ys h k e =
    ok_pair a b xs ys (sym (read_number n a xs h) ∙ ap (λ t. first (number n) t) e ∙ read_number n b ys k)
  where
    ok_pair : (a b : ℕ) (xs ys : List ℕ) → (let r : Result (ℕ × List ℕ) Refusal = Ok (a, xs) in r ≡ Ok (b, ys)) → (a ≡ b) × (xs ≡ ys)
    ok_pair a b xs ys e = let p : (let q : ℕ × List ℕ = (a, xs) in q ≡ (b, ys)) = cc in (ap (λ (q : ℕ × List ℕ). q.0) p, ap (λ (q : ℕ × List ℕ). q.1) p)

-- The text of an `InvokeAll`: kind, class, key count and rest.
abbrev pub keys_text : (class count : ℕ) → List ℕ → List ℕ
keys_text class count rest = 7 ∷ big_bytes 4 class ++ big_bytes 2 count ++ rest

-- `IsInvokeAll` holds if `r` is an `InvokeAll` with `count` keys, and `rest` is the text of its keys and arguments.
pub record IsInvokeAll (class count : ℕ) (rest : List ℕ) (r : Request) : Type 0 where
  pub keys : List ℤ
  pub args : List Arg
  pub is : r ≡ InvokeAll class keys args
  pub many : length keys ≡ count
  pub few : AreArgs args
  pub text : rest ≡ texts long_text keys ++ args_text args

same_tail : (a b : ℕ) (xs ys : List ℕ) → a ∷ xs ≡ b ∷ ys → (a ≡ b) × (xs ≡ ys)
same_tail a b xs ys e = (cc, cc)

seven_is_not : (n : ℕ) (xs ys : List ℕ) → 7 ∷ xs ≡ n ∷ ys → n ≢ 7 → ⊥
seven_is_not n xs ys e h = h (sym (same_tail 7 n xs ys e).0)

pub is_invoke_all : (class count : ℕ) (rest : List ℕ) (r : Request) → class < 2 ^ 32 → count < 2 ^ 16 → IsText (keys_text class count rest) r → IsInvokeAll class count rest r
is_invoke_all class count rest (Define bytes) h k t = absurd (seven_is_not 1 _ _ t.is (omega arith))
is_invoke_all class count rest (Put key value) h k t = absurd (seven_is_not 2 _ _ t.is (omega arith))
is_invoke_all class count rest (Get key) h k t = absurd (seven_is_not 3 _ _ t.is (omega arith))
is_invoke_all class count rest (Remove key) h k t = absurd (seven_is_not 4 _ _ t.is (omega arith))
is_invoke_all class count rest (Contains key) h k t = absurd (seven_is_not 5 _ _ t.is (omega arith))
is_invoke_all class count rest (Invoke c key args) h k t = absurd (seven_is_not 6 _ _ t.is (omega arith))
is_invoke_all class count rest (InvokeAll c keys args) h k t =
    let body = (same_tail 7 7 _ _ t.is).1 in
    let one = same_numbers 4 class c (big_bytes 2 count ++ rest) (big_bytes 2 (length keys) ++ texts long_text keys ++ args_text args) (omega (arith, h)) (omega (arith, t.in_range.0)) body in
    let two = same_numbers 2 count (length keys) rest (texts long_text keys ++ args_text args) (omega (arith, k)) (omega (arith, t.in_range.1)) one.1 in
    record { keys = keys; args = args; is = ap (λ n. InvokeAll n keys args) (sym one.0); many = sym two.0; few = t.in_range.3; text = two.1 }
is_invoke_all class count rest RoundEnd h k t = absurd (seven_is_not 8 _ _ t.is (omega arith))
is_invoke_all class count rest Version h k t = absurd (seven_is_not 9 _ _ t.is (omega arith))
is_invoke_all class count rest (Forget c) h k t = absurd (seven_is_not 10 _ _ t.is (omega arith))

pub keys_ok : (class count : ℕ) (rest : List ℕ) (r : Request) → class < 2 ^ 32 → count < 2 ^ 16 → AreBytes rest → Gives {X = Request} (λ r. (r, [])) (Ok r) (first (alone (keys_and_arguments class count)) rest) → IsText (keys_text class count rest) r
keys_ok class count rest r h k bytes given =
    let l = keys_and_arguments class count in
    let told = found_keys class count rest r h k bytes (alone_found l rest r (whole_found (alone l) rest r given)) in
    record { is = told.0; in_range = told.1 }

pub keys_fail : (class count : ℕ) (rest : List ℕ) (e : Refusal) (f : WireFault) → class < 2 ^ 32 → count < 2 ^ 16 → IsFaultOf e f → Gives {X = Request} (λ r. (r, [])) (Err e) (first (alone (keys_and_arguments class count)) rest) → Parses (keys_text class count rest) (Err f)
keys_fail class count rest e f h k why given =
    let l = keys_and_arguments class count in
    parse_fails (keys_text class count rest) e f why (λ n r t.
    let i = is_invoke_all class count rest r h k t in
    let range = subst (λ (q : Request). IsText (keys_text class count rest) q) i.is t in
    let found = read_keys class i.keys i.args range.in_range in
    let found' : first l rest ≡ Ok (InvokeAll class i.keys i.args, []) = ap (λ n. first (keys_and_arguments class n) rest) (sym i.many) ∙ ap (λ t. first (keys_and_arguments class (length i.keys)) t) i.text ∙ found in
    refused (alone l) rest e (InvokeAll class i.keys i.args) given n (read_alone l rest (InvokeAll class i.keys i.args) found'))

-- ---- lengths

args_length : (args : List Arg) → length (texts arg_text args) ≤ 9 * length args
args_length [] = omega arith
args_length (a ∷ args) =
    let one = arg_length a in
    let rest = args_length args in
    omega (arith, one, rest, length-append (arg_text a) (texts arg_text args))
  where
    arg_length : (a : Arg) → length (arg_text a) ≤ 9
    arg_length arg.Null = omega arith
    arg_length (arg.Long n) = omega arith
    arg_length (arg.Integer n) = omega arith
    arg_length (arg.Boolean true) = omega arith
    arg_length (arg.Boolean false) = omega arith

keys_length : (keys : List ℤ) → length (texts long_text keys) ≡ 8 * length keys
keys_length [] = refl
keys_length (k ∷ keys) = let rest = keys_length keys in omega (arith, rest, length-append (long_text k) (texts long_text keys))

-- Only a `Define` or an `InvokeAll` has a body longer than 85 bytes.
pub long_body : (kind : ℕ) (body : List ℕ) → kind ≢ 1 → kind ≢ 7 → 85 < length body → IsNoRequest (kind ∷ body)
long_body kind body one seven h r t = go r t.is t
  where
    go : (r : Request) → kind ∷ body ≡ request_text r → IsText (kind ∷ body) r → ⊥
    go (Define bytes) e t = one (same_tail kind 1 body _ e).0
    go (Put key value) e t = let n = ap length (same_tail kind 2 body _ e).1 in omega (arith, n, h)
    go (Get key) e t = let n = ap length (same_tail kind 3 body _ e).1 in omega (arith, n, h)
    go (Remove key) e t = let n = ap length (same_tail kind 4 body _ e).1 in omega (arith, n, h)
    go (Contains key) e t = let n = ap length (same_tail kind 5 body _ e).1 in omega (arith, n, h)
    go (Invoke class key args) e t = let n = ap length (same_tail kind 6 body _ e).1 in omega (arith, n, h, args_length args, t.in_range.2.few)
    go (InvokeAll class keys args) e t = seven (same_tail kind 7 body _ e).0
    go RoundEnd e t = let n = ap length (same_tail kind 8 body _ e).1 in omega (arith, n, h)
    go Version e t = let n = ap length (same_tail kind 9 body _ e).1 in omega (arith, n, h)
    go (Forget class) e t = let n = ap length (same_tail kind 10 body _ e).1 in omega (arith, n, h)

-- The rest of an `InvokeAll` on `count` keys has 8 * `count` + 1 to 8 * `count` + 73 bytes.
pub other_length : (class count : ℕ) (rest : List ℕ) → class < 2 ^ 32 → count < 2 ^ 16 → (length rest < 8 * count + 1) ⊎ (8 * count + 73 < length rest) → IsNoRequest (keys_text class count rest)
other_length class count rest h k other r t =
    let i = is_invoke_all class count rest r h k t in
    let all : length rest ≡ length (texts long_text i.keys) + (1 + length (texts arg_text i.args)) = ap length i.text ∙ length-append (texts long_text i.keys) (args_text i.args) ∙ ap (λ n. length (texts long_text i.keys) + n) (suc_is (length (texts arg_text i.args))) in
    let keys : length (texts long_text i.keys) ≡ 8 * count = keys_length i.keys ∙ ap (λ n. 8 * n) i.many in
    let args = args_length i.args in
    elim other [ inl short ↦ omega (arith, all, keys, short) | inr long ↦ omega (arith, all, keys, args, i.few.few, long) ]
  where
    suc_is : (n : ℕ) → suc n ≡ 1 + n
    suc_is n = omega arith

-- The body of an `InvokeAll` has at least 7 bytes.
pub short_body : (body : List ℕ) → length body < 7 → IsNoRequest (7 ∷ body)
short_body body h r t = go r t.is
  where
    go : (r : Request) → 7 ∷ body ≡ request_text r → ⊥
    go (Define bytes) e = seven_is_not 1 _ _ e (omega arith)
    go (Put key value) e = seven_is_not 2 _ _ e (omega arith)
    go (Get key) e = seven_is_not 3 _ _ e (omega arith)
    go (Remove key) e = seven_is_not 4 _ _ e (omega arith)
    go (Contains key) e = seven_is_not 5 _ _ e (omega arith)
    go (Invoke class key args) e = seven_is_not 6 _ _ e (omega arith)
    go (InvokeAll class keys args) e = let n = ap length (same_tail 7 7 body _ e).1 in omega (arith, n, h, length-append (texts long_text keys) (args_text args))
    go RoundEnd e = seven_is_not 8 _ _ e (omega arith)
    go Version e = seven_is_not 9 _ _ e (omega arith)
    go (Forget class) e = seven_is_not 10 _ _ e (omega arith)

-- ---- no invocation

-- Bytes begin with no `Invoke` if their length field is 0 or above 86, or if they end before the text does.
pub other_frame : (bytes : List ℕ) (n : ℕ) → take 4 bytes ≡ big_bytes 4 n → n < 2 ^ 32 → (n ≡ 0) ⊎ ((86 < n) ⊎ (length bytes < 4 + n)) → BeginsNoInvocation bytes
other_frame bytes n head fits other p class key args rest h =
    let r : Request = Invoke class key args in
    let text : List ℕ = request_text r in
    let body : List ℕ = big_bytes 4 class ++ long_text key ++ args_text args in
    let whole : big_bytes 4 n ++ drop 4 bytes ≡ big_bytes 4 (length text) ++ (text ++ rest) =
    ap (λ l. l ++ drop 4 bytes) (sym head) ∙ take-append-drop 4 bytes ∙ h.parts ∙ append_assoc (big_bytes 4 (length text)) text rest in
    let short = h.request.short in
    let same = same_numbers 4 n (length text) (drop 4 bytes) (text ++ rest) (omega (arith, fits)) (omega (arith, short)) whole in
    let count : length bytes ≡ 4 + (length text + length rest) = ap length (h.parts ∙ append_assoc (big_bytes 4 (length text)) text rest) ∙ length-append (big_bytes 4 (length text)) (text ++ rest) ∙ ap (λ m. 4 + m) (length-append text rest) in
    let is : n ≡ length text = same.0 in
    elim other [
      | inl none ↦ omega (arith, none, is)
      | inr more ↦ elim more [
        | inl long ↦ long_body 6 body (omega arith) (omega arith) (omega (arith, long, is)) r (record { is = refl; in_range = h.request.in_range })
        | inr cut ↦ omega (arith, cut, is, count)
      ]
    ]

-- The text of a whole frame of length `n` is the `n` bytes after the length field.
pub text_of_frame : {p : Protocol} (bytes : List ℕ) (n : ℕ) (r : Request) (rest : List ℕ) → take 4 bytes ≡ big_bytes 4 n → n < 2 ^ 32 → IsRead p bytes r rest → IsText (take n (drop 4 bytes)) r
text_of_frame bytes n r rest head fits h =
    let text : List ℕ = request_text r in
    let whole : big_bytes 4 n ++ drop 4 bytes ≡ big_bytes 4 (length text) ++ (text ++ rest) =
    ap (λ l. l ++ drop 4 bytes) (sym head) ∙ take-append-drop 4 bytes ∙ h.parts ∙ append_assoc (big_bytes 4 (length text)) text rest in
    let short = h.request.short in
    let same = same_numbers 4 n (length text) (drop 4 bytes) (text ++ rest) (omega (arith, fits)) (omega (arith, short)) whole in
    record { is = ap (λ m. take m (drop 4 bytes)) same.0 ∙ ap (take (length text)) same.1 ∙ take-append_seam text rest; in_range = h.request.in_range }
