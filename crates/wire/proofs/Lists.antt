-- Writes of a list into a longer one.
use Rattle.std.proofs.Common.{◌≡◌, ℕ, ◌+◌, ◌-◌, ◌≤◌, List, ◌++◌, length, take, drop, refl, sym, ap, ◌∙◌, arith, append_assoc, length-take-le}
use Rattle.std.proofs.lemmas.List.{drop-take, drop-append-le, length-drop}
use Rattle.std.proofs.Math.Seq.{take-append-add, take-append_seam}
use borrow.Rule.Slice.PartMut.{put_mid, post_of, mid_of, mid_len}

-- After `text` is written at index `len`, the first `len` + `n` elements are the previous first `len` elements and `text`.
pub grown : (row text rest front : List ℕ) (len k n : ℕ) → len ≤ length row → length text ≡ n → take len row ≡ front → take (len + n) (put_mid len k row (text ++ rest)) ≡ front ++ text
grown row text rest front len k n within long is =
    let post = post_of len k row in
    let long_front : len + n ≡ length (take len row) + n = ap (λ m. m + n) (sym (length-take-le len row within)) in
    let all : take n ((text ++ rest) ++ post) ≡ text = ap (take n) (append_assoc text rest post) ∙ ap (λ m. take m (text ++ (rest ++ post))) (sym long) ∙ take-append_seam text (rest ++ post) in
    ap (λ m. take m (put_mid len k row (text ++ rest))) long_front ∙ take-append-add (take len row) ((text ++ rest) ++ post) n ∙ ap (λ l. take len row ++ l) all ∙ ap (λ l. l ++ text) is

-- `grown`, for a list from which the first `before` elements are dropped.
pub grown_behind : (before : ℕ) (row text rest front : List ℕ) (end k n : ℕ) → before ≤ end → end ≤ length row → length text ≡ n → drop before (take end row) ≡ front → drop before (take (end + n) (put_mid end k row (text ++ rest))) ≡ front ++ text
grown_behind before row text rest front end k n behind within long is =
    let long_front : before ≤ length (take end row) = omega (arith, behind, length-take-le end row within) in
    ap (drop before) (grown row text rest (take end row) end k n within long refl) ∙ drop-append-le before (take end row) text long_front ∙ ap (λ l. l ++ text) is

-- The elements from index `before` up to index `end`.
pub between : (before end : ℕ) (row : List ℕ) → before ≤ end → take (end - before) (drop before row) ≡ drop before (take end row)
between before end row h =
    let same : before + (end - before) ≡ end = omega arith in
    sym (drop-take before (end - before) row) ∙ ap (λ n. drop before (take n row)) same

pub length_between : (before end : ℕ) (row : List ℕ) → before ≤ end → end ≤ length row → length (drop before (take end row)) ≡ end - before
length_between before end row h within = omega (arith, length-drop before (take end row), length-take-le end row within)

-- At least `n` elements follow index `end` if the whole list is long enough.
pub room_behind : (before end n : ℕ) (row front : List ℕ) → before ≤ end → end ≤ length row → drop before (take end row) ≡ front → (length front + before) + n ≤ length row → n ≤ length (mid_of end (length row - end) row)
room_behind before end n row front h within is room =
    let long = length_between before end row h within in
    omega (arith, mid_len end (length row) row (omega arith), long, ap length is, h, within, room)

-- After `head` is written at the start, the elements after it are unchanged.
pub headed : (head row : List ℕ) (end : ℕ) → length head ≤ end → take end (head ++ drop (length head) row) ≡ head ++ drop (length head) (take end row)
headed head row end h =
    let before = length head in
    let same : before + (end - before) ≡ end = omega arith in
    ap (λ n. take n (head ++ drop before row)) (sym same) ∙ take-append-add head (drop before row) (end - before) ∙ ap (λ l. head ++ l) (between before end row h)
