-- A number that occurs in a list once.
use Rattle.std.proofs.Common.{◌≡◌, ◌⊎◌, ℕ, zero, suc, ◌≤◌, ◌==◌, List, [], ◌∷◌, refl, sym, ap, ⊎_elim, arith}
use Rattle.std.proofs.lemmas.Bool.Decides.{nat_tests}
use mathlib.Core.Option.{some, some-injective, some-ne-none}
use lib.ListN.{get_elem?}
use Rattle.claims.specs.Counters.{one_if, times}

one_here : (x y : ℕ) → x ≡ y → one_if (x == y) ≡ 1
one_here x y e = grind (arith, nat_tests)

one_or_none : (x y : ℕ) → (x ≡ y) ⊎ (one_if (x == y) ≡ 0)
one_or_none x y = grind (arith, nat_tests)

-- A number in a list has an occurrence.
pub times_there : (xs : List ℕ) (x i : ℕ) → get_elem? xs i ≡ some x → 1 ≤ times x xs
times_there [] x i e = absurd (some-ne-none x (sym e))
times_there (y ∷ ys) x zero e = let h = one_here x y (sym (some-injective y x e)) in omega arith
times_there (y ∷ ys) x (suc i) e = let h = times_there ys x i e in omega arith

-- A number that has an occurrence is in the list.
pub there_times : (xs : List ℕ) (x : ℕ) → 1 ≤ times x xs → (i : ℕ) × (get_elem? xs i ≡ some x)
there_times [] x h = absurd (omega arith)
there_times (y ∷ ys) x h = ⊎_elim
    (λ (e : x ≡ y). (0, ap some (sym e)))
    (λ (n : one_if (x == y) ≡ 0). let t = there_times ys x (omega arith) in (suc t.0, t.1))
    (one_or_none x y)

-- A number that has at most one occurrence has at most one index.
pub once_alone : (xs : List ℕ) (x i j : ℕ) → times x xs ≤ 1 → get_elem? xs i ≡ some x → get_elem? xs j ≡ some x → i ≡ j
once_alone [] x i j one a b = absurd (some-ne-none x (sym a))
once_alone (y ∷ ys) x zero zero one a b = refl
once_alone (y ∷ ys) x zero (suc j) one a b = let h = one_here x y (sym (some-injective y x a)) in let t = times_there ys x j b in absurd (omega arith)
once_alone (y ∷ ys) x (suc i) zero one a b = let h = one_here x y (sym (some-injective y x b)) in let t = times_there ys x i a in absurd (omega arith)
once_alone (y ∷ ys) x (suc i) (suc j) one a b = ap suc (once_alone ys x i j (omega arith) a b)
