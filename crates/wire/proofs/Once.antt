-- A byte sequence has at most one front.
use Rattle.std.proofs.Common.{◌≡◌, ◌≢◌, ◌⊎◌, ℕ, ◌+◌, ◌^◌, ◌<◌, ◌≤◌, nat_lt, ◌==◌, if◌then◌else◌, List, [], ◌∷◌, ◌++◌, length, Result, Ok, refl, sym, ap, ◌∙◌, subst, arith, append_assoc, inl, inr}
use Rattle.std.proofs.lemmas.List.{length-append}
use Rattle.byteorder.specs.Endian.{big_bytes, big_number}
use Rattle.byteorder.specs.Numbers.{big_number-reads_back}
use Rattle.jtypes.specs.declared.refusal.Refusal.{Refusal}
use Rattle.jtypes.specs.Layout.{first, number, and_then}
use Rattle.wire.specs.Requests.{Request, Define, Put, Get, Remove, Contains, Invoke, InvokeAll, RoundEnd, Version, Forget}
use Rattle.wire.specs.declared.protocol.Protocol.{Protocol}
use Rattle.wire.specs.Frames.{Knows, longest, long_text, args_text, texts, request_text, IsText, IsNoneOf, cut_length, too_long, empty, cut_body, no_request, Front, AtEnd, Whole, Faulty, TooLong, Truncated, Malformed, IsFront}
use Rattle.wire.specs.Bodies.{small, keys_and_arguments, alone}
use Rattle.wire.proofs.Read.{read_small, read_keys, read_alone, read_number}
use Rattle.wire.proofs.Parsed.{same_numbers}

-- The request that the layouts read from a text.
many_told : List ℕ → Result (Request × List ℕ) Refusal
many_told body = and_then (first (number 4) body) (λ c. and_then (first (number 2) c.1) (λ n. first (alone (keys_and_arguments c.0 n.0)) n.1))

told : List ℕ → Result (Request × List ℕ) Refusal
told [] = Ok (RoundEnd, [])
told (kind ∷ body) = if kind == 1 then Ok (Define body, []) else if kind == 7 then many_told body else first (alone (small kind)) body

small_told : (r : Request) (kind : ℕ) (body : List ℕ) → IsText (kind ∷ body) r → kind ≢ 1 → kind ≢ 7 → first (alone (small kind)) body ≡ Ok (r, [])
small_told r kind body t one seven = read_alone (small kind) body r (read_small r kind body t.in_range t.is one seven)

text_told : (text : List ℕ) (r : Request) → IsText text r → told text ≡ Ok (r, [])
unfolding told many_told
text_told text r t = ap told t.is ∙ go r (subst (λ x. IsText x r) t.is t)
  where
    go : (r : Request) → IsText (request_text r) r → told (request_text r) ≡ Ok (r, [])
    go (Define bytes) t = refl
    go (Put key value) t = small_told (Put key value) 2 _ t (omega arith) (omega arith)
    go (Get key) t = small_told (Get key) 3 _ t (omega arith) (omega arith)
    go (Remove key) t = small_told (Remove key) 4 _ t (omega arith) (omega arith)
    go (Contains key) t = small_told (Contains key) 5 _ t (omega arith) (omega arith)
    go (Invoke class key args) t = small_told (Invoke class key args) 6 _ t (omega arith) (omega arith)
    go (InvokeAll class keys args) t =
        let rest = texts long_text keys ++ args_text args in
        let one = read_number 4 class (big_bytes 2 (length keys) ++ rest) (omega (arith, t.in_range.0)) in
        let two = read_number 2 (length keys) rest (omega (arith, t.in_range.1)) in
        let three = read_alone (keys_and_arguments class (length keys)) rest (InvokeAll class keys args) (read_keys class keys args t.in_range) in
        rw (one, two, three) refl
    go RoundEnd t = small_told RoundEnd 8 _ t (omega arith) (omega arith)
    go Version t = small_told Version 9 _ t (omega arith) (omega arith)
    go (Forget class) t = small_told (Forget class) 10 _ t (omega arith) (omega arith)

pub text_once : (text : List ℕ) (r s : Request) → IsText text r → IsText text s → r ≡ s
text_once text r s t u = same r s (sym (text_told text r t) ∙ text_told text s u)
  where
    same : (r s : Request) → (let x : Result (Request × List ℕ) Refusal = Ok (r, []) in x ≡ Ok (s, [])) → r ≡ s
    same r s e = let p : (let q : Request × List ℕ = (r, []) in q ≡ (s, [])) = cc in ap (λ (q : Request × List ℕ). q.0) p

-- The front of bytes that don't begin with a whole frame, by their count and their length field; `inside` for other bytes.
by_length : ℕ → ℕ → Front → Front
by_length count n inside =
    if count == 0 then AtEnd else if nat_lt count 4 then Faulty Truncated else if n == 0 then Faulty Malformed else if nat_lt longest n then Faulty TooLong else if nat_lt count (4 + n) then Faulty Truncated else inside

-- `IsInside` holds if the bytes begin with a whole frame, whose front is `f`.
record IsInside (p : Protocol) (bytes : List ℕ) (f : Front) : Type 0 where
  text : List ℕ
  rest : List ℕ
  whole : bytes ≡ big_bytes 4 (length text) ++ (text ++ rest)
  some : 1 ≤ length text
  short : length text ≤ longest
  either : ((r : Request) × IsText text r × Knows p r × (f ≡ Whole r rest)) ⊎ (IsNoneOf p text × (f ≡ Faulty Malformed))

abbrev IsOutside : List ℕ → Front → Type 0
IsOutside bytes f = (x : Front) → by_length (length bytes) (big_number 4 bytes) x ≡ f

pub text_some : (r : Request) → 1 ≤ length (request_text r)
text_some (Define bytes) = omega arith
text_some (Put key value) = omega arith
text_some (Get key) = omega arith
text_some (Remove key) = omega arith
text_some (Contains key) = omega arith
text_some (Invoke class key args) = omega arith
text_some (InvokeAll class keys args) = omega arith
text_some RoundEnd = omega arith
text_some Version = omega arith
text_some (Forget class) = omega arith

count_and_length : (n : ℕ) (bytes rest : List ℕ) → bytes ≡ big_bytes 4 n ++ rest → n < 2 ^ 32 → (length bytes ≡ 4 + length rest) × (big_number 4 bytes ≡ n)
count_and_length n bytes rest e h =
    (ap length e ∙ length-append (big_bytes 4 n) rest, ap (big_number 4) e ∙ big_number-reads_back 4 n rest (omega (arith, h)))

seen : (p : Protocol) (bytes : List ℕ) (f : Front) → IsFront p bytes f → IsOutside bytes f ⊎ IsInside p bytes f
unfolding by_length
seen p bytes AtEnd none = inl (λ x. let n : length bytes ≡ 0 = ap length none in rw n refl)
seen p bytes (Whole r rest) h = inr (record {
  text = request_text r;
  rest = rest;
  whole = h.parts ∙ append_assoc (big_bytes 4 (length (request_text r))) (request_text r) rest;
  some = text_some r;
  short = h.request.short;
  either = inl (r, record { is = refl; in_range = h.request.in_range }, h.request.known, refl);
})
seen p bytes (Faulty Truncated) (cut_length some few) = inl (λ x. grind (arith, some, few))
seen p bytes (Faulty TooLong) (too_long n rest e fits long) = inl (λ x. let c = count_and_length n bytes rest e fits in grind (arith, c.0, c.1, long))
seen p bytes (Faulty Malformed) (empty rest e) = inl (λ x. let c = count_and_length 0 bytes rest e (omega arith) in grind (arith, c.0, c.1))
seen p bytes (Faulty Truncated) (cut_body n rest e some short cut) = inl (λ x. let c = count_and_length n bytes rest e (omega (arith, short)) in grind (arith, c.0, c.1, some, short, cut))
seen p bytes (Faulty Malformed) (no_request text rest e some short none) = inr (record {
  text = text;
  rest = rest;
  whole = e ∙ append_assoc (big_bytes 4 (length text)) text rest;
  some = some;
  short = short;
  either = inr (none, refl);
})

-- If the bytes begin with a whole frame, `by_length` is its third argument.
inside_tells : {p : Protocol} (bytes : List ℕ) (f x : Front) → IsInside p bytes f → by_length (length bytes) (big_number 4 bytes) x ≡ x
unfolding by_length
inside_tells bytes f x i =
    let c = count_and_length (length i.text) bytes (i.text ++ i.rest) i.whole (omega (arith, i.short)) in
    let n = length-append i.text i.rest in
    let (some, short) : (1 ≤ length i.text) × (length i.text ≤ longest) = (i.some, i.short) in
    grind (arith, c.0, c.1, n, some, short)

not_both : {p : Protocol} (bytes : List ℕ) (f g : Front) → IsOutside bytes f → IsInside p bytes g → ⊥
not_both bytes f g out i =
    let one : AtEnd ≡ f = sym (inside_tells bytes g AtEnd i) ∙ out AtEnd in
    let two : Faulty TooLong ≡ f = sym (inside_tells bytes g (Faulty TooLong) i) ∙ out (Faulty TooLong) in
    different (one ∙ sym two)
  where
    different : AtEnd ≡ Faulty TooLong → ⊥
    different e = cc

same_front : (a b c d : List ℕ) → length a ≡ length c → a ++ b ≡ c ++ d → (a ≡ c) × (b ≡ d)
same_front [] b [] d n e = (refl, e)
same_front [] b (y ∷ c) d n e = absurd (omega (arith, n))
same_front (x ∷ a) b [] d n e = absurd (omega (arith, n))
same_front (x ∷ a) b (y ∷ c) d n e =
    let h : x ≡ y = cc in
    let t : a ++ b ≡ c ++ d = cc in
    let r = same_front a b c d (omega (arith, n)) t in
    let s : a ≡ c = r.0 in
    (cc, r.1)

both_inside : {p : Protocol} (bytes : List ℕ) (f g : Front) → IsInside p bytes f → IsInside p bytes g → f ≡ g
both_inside bytes f g i j =
    let n = same_numbers 4 (length i.text) (length j.text) (i.text ++ i.rest) (j.text ++ j.rest) (omega (arith, i.short)) (omega (arith, j.short)) (sym i.whole ∙ j.whole) in
    let s = same_front i.text i.rest j.text j.rest n.0 n.1 in
    elim i.either [
      | inl (r, t, known, is) ↦ elim j.either [
        | inl (q, u, known', is') ↦ is ∙ ap (λ k. Whole k i.rest) (text_once i.text r q t (subst (λ x. IsText x q) (sym s.0) u)) ∙ ap (λ k. Whole q k) s.1 ∙ sym is'
        | inr (none, is') ↦ absurd (none r (subst (λ x. IsText x r) s.0 t) known)
      ]
      | inr (none, is) ↦ elim j.either [
        | inl (q, u, known, is') ↦ absurd (none q (subst (λ x. IsText x q) (sym s.0) u) known)
        | inr (none', is') ↦ is ∙ sym is'
      ]
    ]

pub one_front : (p : Protocol) (bytes : List ℕ) (f g : Front) → IsFront p bytes f → IsFront p bytes g → f ≡ g
one_front p bytes f g h k =
    elim (seen p bytes f h) [
      | inl out ↦ elim (seen p bytes g k) [
        | inl out' ↦ sym (out AtEnd) ∙ out' AtEnd
        | inr i ↦ absurd (not_both bytes f g out i)
      ]
      | inr i ↦ elim (seen p bytes g k) [
        | inl out ↦ absurd (not_both bytes g f out i)
        | inr j ↦ both_inside bytes f g i j
      ]
    ]
