-- A stable sort keeps the last pair of each key.
use Rattle.std.proofs.Common.{◌≡◌, true, false, Bool, Option, refl, sym, ap, ◌∙◌, List, [], ◌∷◌, ℤ, pos, arith, ◌<ℤ◌, Some, cond}
use Rattle.std.specs.Prelude.{if◌then◌else◌}
use Rattle.std.proofs.lemmas.Bool.{false≢true}
use Rattle.std.proofs.lemmas.Int.{ints}
use Rattle.std.proofs.lemmas.Cmp.{int_ranked}
use Rattle.std.specs.List.{filter}
use Rattle.std.specs.List.Sorted.{IsStableByKey, ties}
use Rattle.std.specs.Ordering.{int_cmp, is_lt, is_eq, int_eq, MatchOrdering}
use Rattle.std.specs.declared.cmp.Ordering.{Ordering}
use Rattle.std.specs.declared.cmp.Ordering.TheVariants.{Less, Equal, Greater}
use Rattle.table_loader.specs.declared.table.Pair.{Pair}
use Rattle.table_loader.specs.Rows.{found_in, value_in}

-- Removing pairs with other keys does not change the value that is found.
found_filter : (p : Pair → Bool) (key : ℤ) → ((row : Pair) → int_eq row.key key ≡ true → p row ≡ true) → (rows : List Pair) (found : Option ℤ) → found_in found (filter p rows) key ≡ found_in found rows key
found_filter p key keeps [] found = refl
found_filter p key keeps (row ∷ rows) found = go (p row) (int_eq row.key key) refl refl (λ f. found_filter p key keeps rows f)
  where
    go : (b k : Bool) → p row ≡ b → int_eq row.key key ≡ k → ((f : Option ℤ) → found_in f (filter p rows) key ≡ found_in f rows key)
        → found_in found (cond b (row ∷ filter p rows) (filter p rows)) key ≡ found_in (if k then Some row.value else found) rows key
    go true k h e rest = ap (λ (b : Bool). found_in (if b then Some row.value else found) (filter p rows) key) e ∙ rest (if k then Some row.value else found)
    go false false h e rest = rest found
    go false true h e rest = absurd (false≢true (sym h ∙ keeps row e))

equal_from : (r : Ordering) → is_eq r ≡ true → r ≡ Equal
equal_from Equal h = refl
equal_from Less h = absurd (false≢true h)
equal_from Greater h = absurd (false≢true h)

not_lower : (x y : ℤ) (r q : Ordering) → MatchOrdering r (x <ℤ y) (x ≡ y) (y <ℤ x) → MatchOrdering q (y <ℤ x) (y ≡ x) (x <ℤ y) → is_eq r ≡ true → is_lt q ≡ false
not_lower x y r Equal h k e = refl
not_lower x y r Greater h k e = refl
not_lower x y Less Less h k e = absurd (false≢true e)
not_lower x y Greater Less h k e = absurd (false≢true e)
not_lower x y Equal Less h k e = grind (arith, ints, h, k)

-- Pairs with the same key tie.
same_ties : (key : ℤ) (row : Pair) → int_eq row.key key ≡ true → ties (λ (a b : Pair). is_lt (int_cmp a.key b.key)) (record { key = key; value = pos 0 }) row ≡ true
same_ties key row e =
    let one : is_lt (int_cmp key row.key) ≡ false = not_lower row.key key (int_cmp row.key key) (int_cmp key row.key) (int_ranked row.key key _ refl) (int_ranked key row.key _ refl) e in
    let other : int_cmp row.key key ≡ Equal = equal_from (int_cmp row.key key) e in
    rw (one, other) refl

pub kept : (old new : List Pair) → IsStableByKey (λ (p : Pair). p.key) int_cmp old new → (key : ℤ) → value_in new key ≡ value_in old key
kept old new stable key =
    let same = stable (record { key = key; value = pos 0 }) in
    sym (found_filter _ key (same_ties key) new _) ∙ ap (λ (rows : List Pair). value_in rows key) same ∙ found_filter _ key (same_ties key) old _
