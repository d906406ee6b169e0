-- Types written over others.
use Rattle.std.proofs.Common.{◌≡◌, ℕ, zero, suc, ◌+◌, ◌-◌, ◌≤◌, List, [], ◌∷◌, ◌++◌, length, take, drop, set, replicate, refl, sym, ap, ◌∙◌, append_assoc, arith}
use Rattle.std.proofs.lemmas.List.{length-append, length-replicate, length-take-le}
use lib.Seq.{take-add}
use Rattle.jtypes.specs.declared.types.JType.{JType}
use Rattle.jtypes.specs.declared.types.JType.TheVariants.{Top}
use Rattle.jtypes.specs.Lists.{padded}
use Rattle.locals.specs.Written.{written}

pub written_none : (row : List JType) → written row zero [] ≡ row
written_none [] = refl
written_none (x ∷ row) = refl

pub written_empty : (row : List JType) (at : ℕ) → written row at [] ≡ row
written_empty [] at = refl
written_empty (x ∷ row) (suc at) = ap (λ r. x ∷ r) (written_empty row at)
written_empty (x ∷ row) zero = refl

pub length-written : (row types : List JType) (at : ℕ) → length (written row at types) ≡ length row
length-written [] types at = refl
length-written (x ∷ row) types (suc at) = ap suc (length-written row types at)
length-written (x ∷ row) [] zero = refl
length-written (x ∷ row) (t ∷ types) zero = ap suc (length-written row types zero)

-- ---- types written part by part

-- two consecutive writes are one write
pub written_split : (row front more : List JType) (at : ℕ) → written (written row at front) (at + length front) more ≡ written row at (front ++ more)
written_split [] front more at = refl
written_split (x ∷ row) front more (suc at) =
    let e : suc at + length front ≡ suc (at + length front) = omega arith in
    ap (λ n. written (x ∷ written row at front) n more) e ∙ ap (λ r. x ∷ r) (written_split row front more at)
written_split (x ∷ row) [] more zero = refl
written_split (x ∷ row) (t ∷ front) more zero =
    let e : zero + suc (length front) ≡ suc (zero + length front) = omega arith in
    ap (λ n. written (t ∷ written row zero front) n more) e ∙ ap (λ r. t ∷ r) (written_split row front more zero)

-- a write of the first `done` types and of the next `n` types is a write of the first `done + n` types
pub written_on : (row types : List JType) (at done n : ℕ) → done ≤ length types → written (written row at (take done types)) (at + done) (take n (drop done types)) ≡ written row at (take (done + n) types)
written_on row types at done n l =
    let front : length (take done types) ≡ done = length-take-le done types l in
    ap (λ m. written (written row at (take done types)) m (take n (drop done types))) (ap (λ m. at + m) (sym front))
    ∙ written_split row (take done types) (take n (drop done types)) at
    ∙ ap (λ ts. written row at ts) (sym (take-add done n types))

-- a write of one type is `set`
pub written_one : (row : List JType) (at : ℕ) (t : JType) → written row at (t ∷ []) ≡ set row at t
written_one [] at t = refl
written_one (x ∷ row) zero t = ap (λ r. t ∷ r) (written_none row)
written_one (x ∷ row) (suc at) t = ap (λ r. x ∷ r) (written_one row at t)

-- ---- types written in a part of a list

pub written_left : (front rest types : List JType) (at : ℕ) → at + length types ≤ length front → written (front ++ rest) at types ≡ written front at types ++ rest
written_left [] rest [] zero l = written_none rest
written_left [] rest (t ∷ types) zero l = absurd (omega (arith, l))
written_left [] rest types (suc at) l = absurd (omega (arith, l))
written_left (x ∷ front) rest types (suc at) l = ap (λ r. x ∷ r) (written_left front rest types at (omega (arith, l)))
written_left (x ∷ front) rest [] zero l = refl
written_left (x ∷ front) rest (t ∷ types) zero l = ap (λ r. t ∷ r) (written_left front rest types zero (omega (arith, l)))

pub written_right : (front rest types : List JType) (at : ℕ) → written (front ++ rest) (length front + at) types ≡ front ++ written rest at types
written_right [] rest types at = ap (λ n. written rest n types) (omega arith)
written_right (x ∷ front) rest types at =
    let e : suc (length front) + at ≡ suc (length front + at) = omega arith in
    ap (λ n. written (x ∷ (front ++ rest)) n types) e ∙ ap (λ r. x ∷ r) (written_right front rest types at)

-- a write of types that the list has there changes nothing
pub has_written : (row types : List JType) (at : ℕ) → take (length types) (drop at row) ≡ types → written row at types ≡ row
has_written [] types at e = refl
has_written (x ∷ row) types (suc at) e = ap (λ r. x ∷ r) (has_written row types at e)
has_written (x ∷ row) [] zero e = refl
has_written (x ∷ row) (t ∷ types) zero e =
    let here : x ≡ t = cc in
    let rest : take (length types) row ≡ types = cc in
    ap (λ y. y ∷ written row zero types) (sym here) ∙ ap (λ r. x ∷ r) (has_written row types zero rest)

pub written_there : (row types : List JType) (at : ℕ) → at + length types ≤ length row → take (length types) (drop at (written row at types)) ≡ types
written_there [] [] zero l = refl
written_there [] (t ∷ types) zero l = absurd (omega (arith, l))
written_there [] types (suc at) l = absurd (omega (arith, l))
written_there (x ∷ row) types (suc at) l = written_there row types at (omega (arith, l))
written_there (x ∷ row) [] zero l = refl
written_there (x ∷ row) (t ∷ types) zero l = ap (λ r. t ∷ r) (written_there row types zero (omega (arith, l)))

-- a write gives the types before the index, the written types, and the types after them
pub written_parts : (row types : List JType) (at : ℕ) → at + length types ≤ length row → written row at types ≡ take at row ++ types ++ drop (at + length types) row
written_parts row types zero l =
    let e : length types ≡ zero + length types = omega arith in
    front row types (omega (arith, l)) ∙ ap (λ n. types ++ drop n row) e
  where
    front : (row types : List JType) → length types ≤ length row → written row zero types ≡ types ++ drop (length types) row
    front [] [] l = refl
    front [] (t ∷ types) l = absurd (omega (arith, l))
    front (x ∷ row) [] l = refl
    front (x ∷ row) (t ∷ types) l = ap (λ r. t ∷ r) (front row types (omega (arith, l)))
written_parts [] types (suc at) l = absurd (omega (arith, l))
written_parts (x ∷ row) types (suc at) l =
    let e : suc (at + length types) ≡ suc at + length types = omega arith in
    ap (λ r. x ∷ r) (written_parts row types at (omega (arith, l))) ∙ ap (λ n. x ∷ (take at row ++ types ++ drop n (x ∷ row))) e

-- ---- writes of stack map frames to padded lists

written_behind : (front rest types : List JType) → written (front ++ rest) (length front) types ≡ front ++ written rest zero types
written_behind [] rest types = refl
written_behind (x ∷ front) rest types = ap (λ r. x ∷ r) (written_behind front rest types)

written_over : (old rest types : List JType) → length types ≡ length old → written (old ++ rest) zero types ≡ types ++ rest
written_over [] rest [] e = written_none rest
written_over [] rest (t ∷ types) e = absurd (omega (arith, e))
written_over (x ∷ old) rest [] e = absurd (omega (arith, e))
written_over (x ∷ old) rest (t ∷ types) e = ap (λ r. t ∷ r) (written_over old rest types (omega (arith, e)))

blanks : (a b : ℕ) → replicate a Top ++ replicate b Top ≡ replicate (a + b) Top
blanks zero b = ap (λ n. replicate n Top) (let e : b ≡ zero + b = omega arith in e)
blanks (suc a) b = ap (λ r. Top ∷ r) (blanks a b) ∙ ap (λ n. replicate n Top) (let e : suc (a + b) ≡ suc a + b = omega arith in e)

-- a write after the listed types appends to them
pub append_written : (front more : List JType) (count : ℕ) → length front + length more ≤ count → written (padded Top count front) (length front) more ≡ padded Top count (front ++ more)
append_written front more count h =
    let k : count - length front ≡ length more + (count - length (front ++ more)) = omega (arith, h, length-append front more) in
    ap (λ n. written (front ++ replicate n Top) (length front) more) k
    ∙ ap (λ r. written (front ++ r) (length front) more) (sym (blanks (length more) (count - length (front ++ more))))
    ∙ written_behind front (replicate (length more) Top ++ replicate (count - length (front ++ more)) Top) more
    ∙ ap (λ r. front ++ r) (written_over (replicate (length more) Top) (replicate (count - length (front ++ more)) Top) more (sym (length-replicate (length more) Top)))
    ∙ sym (append_assoc front more (replicate (count - length (front ++ more)) Top))

-- a write of Top over the last listed types removes them
pub chop_written : (front gone : List JType) (count : ℕ) → length front + length gone ≤ count → written (padded Top count (front ++ gone)) (length front) (replicate (length gone) Top) ≡ padded Top count front
chop_written front gone count h =
    let left = count - length (front ++ gone) in
    let k : length gone + (count - length (front ++ gone)) ≡ count - length front = omega (arith, h, length-append front gone) in
    ap (λ r. written r (length front) (replicate (length gone) Top)) (append_assoc front gone (replicate left Top))
    ∙ written_behind front (gone ++ replicate left Top) (replicate (length gone) Top)
    ∙ ap (λ r. front ++ r) (written_over gone (replicate left Top) (replicate (length gone) Top) (length-replicate (length gone) Top) ∙ blanks (length gone) left ∙ ap (λ n. replicate n Top) k)
