-- Numbers of `n` bytes, and the bytes that encode them.
use Rattle.std.proofs.Common.{◌≡◌, ℕ, zero, suc, ◌+◌, ◌*◌, ◌/◌, ◌^◌, ◌<◌, List, [], ◌∷◌, ◌++◌, length, slice_index, refl, sym, ap, ◌∙◌, arith, append-nil}
use Rattle.std.proofs.Math.Nat.{mod-lt}
use Rattle.std.proofs.lemmas.Nat.{div-mul-add}
use Rattle.std.specs.Int.{byte_at}
use Rattle.byteorder.specs.Endian.{big_from, big_number, big_bytes}
use Rattle.byteorder.specs.Numbers.{big_from-cons, big_from-lt, length-bytes_high_first, big_number-reads_back}
use Rattle.wire.specs.Frames.{AreBytes}

pub bytes_at : (xs : List ℕ) → AreBytes xs → (k : ℕ) → slice_index xs k < 256
bytes_at [] h k = omega arith
bytes_at (x ∷ xs) h zero = h.0
bytes_at (x ∷ xs) h (suc k) = bytes_at xs h.1 k

pub bytes_from : (xs : List ℕ) → ((k : ℕ) → slice_index xs k < 256) → AreBytes xs
bytes_from [] h = tt
bytes_from (x ∷ xs) h = (h 0, bytes_from xs (λ k. h (suc k)))

pub bytes_append : (xs ys : List ℕ) → AreBytes xs → AreBytes ys → AreBytes (xs ++ ys)
bytes_append [] ys h k = k
bytes_append (x ∷ xs) ys h k = (h.0, bytes_append xs ys h.1 k)

pub bytes_front : (xs ys : List ℕ) → AreBytes (xs ++ ys) → AreBytes xs
bytes_front [] ys h = tt
bytes_front (x ∷ xs) ys h = (h.0, bytes_front xs ys h.1)

pub bytes_back : (xs ys : List ℕ) → AreBytes (xs ++ ys) → AreBytes ys
bytes_back [] ys h = h
bytes_back (x ∷ xs) ys h = bytes_back xs ys h.1

byte_small : (k x : ℕ) → byte_at k x < 256
byte_small zero x = mod-lt x (omega arith)
byte_small (suc k) x = mod-lt (x / 256 ^ suc k) (omega arith)

pub big_bytes_are_bytes : (n x : ℕ) → AreBytes (big_bytes n x)
big_bytes_are_bytes zero x = tt
big_bytes_are_bytes (suc n) x =
    (byte_small n x, big_bytes_are_bytes n x)

-- Two lists of `n` bytes that encode equal numbers are equal.
same_number : (n : ℕ) (xs ys : List ℕ) → length xs ≡ n → length ys ≡ n → AreBytes xs → AreBytes ys → big_number n xs ≡ big_number n ys → xs ≡ ys
same_number zero [] [] a b h k e = refl
same_number zero (x ∷ xs) ys a b h k e = absurd (omega (arith, a))
same_number zero [] (y ∷ ys) a b h k e = absurd (omega (arith, b))
same_number (suc n) [] ys a b h k e = absurd (omega (arith, a))
same_number (suc n) (x ∷ xs) [] a b h k e = absurd (omega (arith, b))
same_number (suc n) (x ∷ xs) (y ∷ ys) a b h k e =
    let f : big_from 1 n (x ∷ xs) ≡ big_from 0 n xs = big_from-cons 0 n x xs in
    let g : big_from 1 n (y ∷ ys) ≡ big_from 0 n ys = big_from-cons 0 n y ys in
    let sums : x * 256 ^ n + big_from 0 n xs ≡ y * 256 ^ n + big_from 0 n ys = ap (λ m. x * 256 ^ n + m) (sym f) ∙ e ∙ ap (λ m. y * 256 ^ n + m) g in
    let low = big_from-lt 0 n xs (bytes_at xs h.1) in
    let low' = big_from-lt 0 n ys (bytes_at ys k.1) in
    let head : x ≡ y = sym (div-mul-add x (256 ^ n) (big_from 0 n xs) low) ∙ ap (λ m. m / 256 ^ n) sums ∙ div-mul-add y (256 ^ n) (big_from 0 n ys) low' in
    let same : x * 256 ^ n ≡ y * 256 ^ n = ap (λ m. m * 256 ^ n) head in
    let rest : big_from 0 n xs ≡ big_from 0 n ys = omega (arith, sums, same) in
    let tail : xs ≡ ys = same_number n xs ys (omega (arith, a)) (omega (arith, b)) h.1 k.1 rest in
    cc

-- A list of `n` bytes is the encoding of its number.
pub bytes_of_number : (n : ℕ) (xs : List ℕ) → length xs ≡ n → AreBytes xs → xs ≡ big_bytes n (big_number n xs)
bytes_of_number n xs a h =
    let small = big_from-lt 0 n xs (bytes_at xs h) in
    let back : big_number n (big_bytes n (big_number n xs)) ≡ big_number n xs = ap (big_number n) (sym (append-nil (big_bytes n (big_number n xs)))) ∙ big_number-reads_back n (big_number n xs) [] small in
    same_number n xs (big_bytes n (big_number n xs)) a (length-bytes_high_first n (big_number n xs)) h (big_bytes_are_bytes n (big_number n xs)) (sym back)

pub number_small : (n : ℕ) (xs : List ℕ) → AreBytes xs → big_number n xs < 256 ^ n
number_small n xs h = big_from-lt 0 n xs (bytes_at xs h)
