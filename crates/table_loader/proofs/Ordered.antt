-- Sorted keys.
use Rattle.std.proofs.Common.{◌≡◌, ◌<◌, ◌≤◌, true, false, refl, List, length, ℕ, arith, get_or, ℤ, ◌≤ℤ◌, ◌<ℤ◌, int_le, sym}
use Rattle.std.proofs.lemmas.Bool.{false≢true}
use Rattle.std.proofs.lemmas.Int.{ints}
use Rattle.std.proofs.lemmas.Cmp.{int_cmp_total, int_ranked}
use Rattle.std.proofs.lemmas.List.Sorted.{ranks_by, sorted_far}
use Rattle.std.specs.List.Sorted.{IsSortedByKey, IsPartitionedBy}
use Rattle.std.specs.Ordering.{int_cmp, is_lt, is_eq, int_eq, MatchOrdering}
use Rattle.std.specs.declared.cmp.Ordering.{Ordering}
use Rattle.std.specs.declared.cmp.Ordering.TheVariants.{Less, Equal, Greater}
use Rattle.table_loader.specs.declared.table.Pair.{Pair}

not_below : (x y : ℤ) (r : Ordering) → MatchOrdering r (x <ℤ y) (x ≡ y) (y <ℤ x) → is_lt r ≡ false → y ≤ℤ x
not_below x y Less h e = absurd (false≢true (sym e))
not_below x y Equal h e = grind (arith, ints, h)
not_below x y Greater h e = grind (arith, ints, h)

le_below : (x y key : ℤ) → x ≤ℤ y → int_le y key ≡ true → int_le x key ≡ true
le_below x y key le h = grind (arith, ints, le, h)

-- Keys do not decrease with the index.
pub rising : (rows : List Pair) → IsSortedByKey (λ (p : Pair). p.key) int_cmp rows → (i j : ℕ) (d : Pair) → i ≤ j → j < length rows → (get_or rows i d).key ≤ℤ (get_or rows j d).key
rising rows up i j d le below =
    not_below (get_or rows j d).key (get_or rows i d).key (int_cmp (get_or rows j d).key (get_or rows i d).key) (int_ranked (get_or rows j d).key (get_or rows i d).key _ refl)
    (sorted_far (λ (a b : Pair). is_lt (int_cmp a.key b.key)) (ranks_by int_cmp_total (λ (p : Pair). p.key)) rows up i j d le below)

-- Sorted pairs are partitioned by whether their key is at most `key`.
pub partitioned : (rows : List Pair) → IsSortedByKey (λ (p : Pair). p.key) int_cmp rows → (key : ℤ) → IsPartitionedBy (λ (p : Pair). int_le p.key key) rows
partitioned rows up key i j d le below h = le_below _ _ key (rising rows up i j d le below) h

above_differs : (x key : ℤ) (r : Ordering) → MatchOrdering r (x <ℤ key) (x ≡ key) (key <ℤ x) → int_le x key ≡ false → is_eq r ≡ false
above_differs x key Less h e = refl
above_differs x key Equal h e = grind (arith, ints, h, e)
above_differs x key Greater h e = refl

-- A key greater than `key` differs from it.
pub above_is_other : (x key : ℤ) → int_le x key ≡ false → int_eq x key ≡ false
above_is_other x key e = above_differs x key (int_cmp x key) (int_ranked x key _ refl) e

below_differs : (x y key : ℤ) (r q : Ordering) → MatchOrdering r (x <ℤ key) (x ≡ key) (key <ℤ x) → MatchOrdering q (y <ℤ key) (y ≡ key) (key <ℤ y) → x ≤ℤ y → int_le y key ≡ true → is_eq q ≡ false → is_eq r ≡ false
below_differs x y key Less q h k le e n = refl
below_differs x y key Greater q h k le e n = refl
below_differs x y key Equal Less h k le e n = grind (arith, ints, h, k, le)
below_differs x y key Equal Greater h k le e n = grind (arith, ints, k, e)
below_differs x y key Equal Equal h k le e n = absurd (false≢true (sym n))

-- A key at most `y` differs from `key`, if `y` is less than `key`.
pub below_is_other : (x y key : ℤ) → x ≤ℤ y → int_le y key ≡ true → int_eq y key ≡ false → int_eq x key ≡ false
below_is_other x y key le e n = below_differs x y key (int_cmp x key) (int_cmp y key) (int_ranked x key _ refl) (int_ranked y key _ refl) le e n
