-- The value of the last pair with a key.
use Rattle.std.proofs.Common.{◌≡◌, ◌<◌, ◌≤◌, ◌+◌, ◌-◌, ◌++◌, ◌∷◌, Bool, true, false, Some, None, Option, refl, sym, ap, ◌∙◌, List, [], length, ℕ, suc, arith, get_or, take, drop, ℤ, int_le}
use Rattle.std.specs.Prelude.{if◌then◌else◌}
use Rattle.std.specs.Ordering.{int_eq, int_cmp}
use Rattle.std.specs.List.{AllWithin}
use Rattle.std.specs.List.Sorted.{IsSortedByKey, IsPartitionPoint}
use Rattle.std.proofs.lemmas.List.{get_or_default, get_or-take, length-take, get_or-drop, length-drop, take_more, take-append-drop, append_assoc}
use Rattle.table_loader.proofs.Ordered.{above_is_other, below_is_other, rising}
use Rattle.table_loader.specs.declared.table.Pair.{Pair}
use Rattle.table_loader.specs.Rows.{found_in, value_in, value_of}

-- A list is the part before an element, the element, and the part after it.
rest_after : {X : Type 0} (xs : List X) (i : ℕ) (d : X) → i < length xs → xs ≡ take i xs ++ get_or xs i d ∷ drop (i + 1) xs
rest_after xs i d h = sym (sym (append_assoc (take i xs) (get_or xs i d ∷ []) (drop (i + 1) xs)) ∙ ap (λ ys. ys ++ drop (i + 1) xs) (sym (take_more xs i d h)) ∙ take-append-drop (i + 1) xs)

-- Pairs with other keys do not change the value that is found.
pub found_over : (found : Option ℤ) (rows : List Pair) (key : ℤ) → ((i : ℕ) (d : Pair) → i < length rows → int_eq (get_or rows i d).key key ≡ false) → found_in found rows key ≡ found
found_over found [] key none = refl
found_over found (row ∷ rows) key none =
    let other : int_eq row.key key ≡ false = none 0 row (omega arith) in
    rw other (found_over found rows key (λ i d h. none (suc i) d (omega (arith, h))))

pub found_append : (xs : List Pair) (found : Option ℤ) (ys : List Pair) (key : ℤ) → found_in found (xs ++ ys) key ≡ found_in (found_in found xs key) ys key
found_append [] found ys key = refl
found_append (x ∷ xs) found ys key = found_append xs (if int_eq x.key key then Some x.value else found) ys key

-- If a value was found before only if the pair has the key, the value that is found is the pair's.
last_found : (row : Pair) (key : ℤ) (before : Option ℤ) → (int_eq row.key key ≡ false → before ≡ None) → (if int_eq row.key key then Some row.value else before) ≡ value_of row key
last_found row key before none = go (int_eq row.key key) none
  where
    go : (b : Bool) → (b ≡ false → before ≡ None) → (if b then Some row.value else before) ≡ (if b then Some row.value else None)
    go true n = refl
    go false n = n refl

below_none : (rows : List Pair) (n : ℕ) (d : Pair) (key : ℤ) → n < length rows → IsSortedByKey (λ (p : Pair). p.key) int_cmp rows → int_le (get_or rows n d).key key ≡ true
    → int_eq (get_or rows n d).key key ≡ false → found_in None (take n rows) key ≡ None
below_none rows n d key h up at other =
    found_over None (take n rows) key (λ i e k.
    let low : i < n = omega (arith, length-take n rows, k) in
    let same : get_or (take n rows) i e ≡ get_or rows i e = get_or-take n rows i e low in
    let there : get_or rows i e ≡ get_or rows i d = get_or_default rows i e d (omega (arith, low, h)) in
    rw (same, there) (below_is_other (get_or rows i d).key (get_or rows n d).key key (rising rows up i n d (omega (arith, low)) h) at other))

above_none : (rows : List Pair) (n : ℕ) (found : Option ℤ) (key : ℤ) → AllWithin (λ (p : Pair). int_le p.key key ≡ false) rows n (length rows) → found_in found (drop n rows) key ≡ found
above_none rows n found key above =
    found_over found (drop n rows) key (λ i d k. rw (get_or-drop n rows i d) (above_is_other (get_or rows (n + i) d).key key (above (n + i) d (omega arith) (omega (arith, length-drop n rows, k)))))

-- If the keys up to index `n` are at most `key` and the later ones are greater, the value is that of pair `n`.
pub found_at : (rows : List Pair) (n : ℕ) (d : Pair) (key : ℤ) → n < length rows → IsSortedByKey (λ (p : Pair). p.key) int_cmp rows
    → int_le (get_or rows n d).key key ≡ true → AllWithin (λ (p : Pair). int_le p.key key ≡ false) rows (n + 1) (length rows)
    → value_in rows key ≡ value_of (get_or rows n d) key
found_at rows n d key h up at above =
    ap (λ (xs : List Pair). value_in xs key) (rest_after rows n d h)
    ∙ found_append (take n rows) None (get_or rows n d ∷ drop (n + 1) rows) key
    ∙ above_none rows (n + 1) _ key above
    ∙ last_found (get_or rows n d) key (found_in None (take n rows) key) (below_none rows n d key h up at)

-- If all keys are greater, there is no value.
pub found_none : (rows : List Pair) (key : ℤ) → AllWithin (λ (p : Pair). int_le p.key key ≡ false) rows 0 (length rows) → value_in rows key ≡ None
found_none rows key above = found_over None rows key (λ i d h. above_is_other (get_or rows i d).key key (above i d (omega arith) h))

-- If exactly the first `n` keys are at most `key`, the value is that of pair `n - 1`.
pub found_upto : (rows : List Pair) (n : ℕ) (d : Pair) (key : ℤ) → n ≤ length rows → 0 < n → IsSortedByKey (λ (p : Pair). p.key) int_cmp rows
    → IsPartitionPoint (λ (p : Pair). int_le p.key key ≡ true) (λ (p : Pair). int_le p.key key ≡ false) rows n → value_in rows key ≡ value_of (get_or rows (n - 1) d) key
found_upto rows n d key h some up point =
    found_at rows (n - 1) d key (omega arith) up (point.0 (n - 1) d (omega arith) (omega arith)) (λ i e l k. point.1 i e (omega arith) k)
