-- A non-empty list of seats is its first seat, followed by the rest.
use Rattle.std.proofs.Common.{◌≡◌, ◌<◌, List, [], ◌∷◌, length, drop, get_or, sym, arith}
use Rattle.cache.specs.Opened.{Sitting}

pub after_first : (l rest : List Sitting) (x : Sitting) → 0 < length l → x ≡ get_or l 0 x → rest ≡ drop 1 l → l ≡ x ∷ rest
after_first [] rest x h e f = absurd (omega arith)
after_first (y ∷ ys) rest x h e f = λ k. sym e k ∷ sym f k
