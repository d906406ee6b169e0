-- The first state satisfies the invariant.
use Rattle.std.proofs.Common.{ℤ, Bool, ◌≡◌, ℕ, zero, suc, ◌+◌, ◌<◌, ◌≤◌, List, [], ◌∷◌, length, map, get_or, replicate, take, Some, true, false, true≢false, sym, refl, ap, ◌∙◌, subst, inl, arith}
use Rattle.std.specs.Prelude.{slice_get, option_and_then}
use mathlib.Core.Option.{some, some-injective, some-ne-none}
use lib.ListN.{get_elem?}
use Rattle.atomic_table.specs.Table.{opening}
use Rattle.atomic_table.proofs.Lists.{at_map}
use Rattle.jtypes.specs.declared.loader.LoadAnswer.{LoadAnswer}
use Rattle.stripe.specs.History.{Record}
use Rattle.stripe.specs.Stored.{Stored, entry_in, entry_among}
use Rattle.stripe.specs.Kept.{Kept, IsKept, fresh}
use Rattle.stripe.specs.Tables.{Back, none_back, fresh_from, fresh_stripes}
use Rattle.cache.specs.Receipts.{Receipt}
use Rattle.cache.specs.Views.{Part, View, part, none_full, first_view}
use Rattle.cache.specs.Guarded.{IsAt, IsPart, Fits, Guarded}
use Rattle.atomic_table.specs.Seated.{TableId}
use Rattle.cache.specs.Ends.{tables_of, IsReady, AreReady}
use Rattle.cache.specs.Opened.{Sitting, AreFresh, HaveRoom, fresh_seat}
use Rattle.cache.specs.declared.known.Terms.{Terms}
use Rattle.cache.proofs.Keeps.{S, nothing_held, at_one}

pub there : {A : Type 0} (l : List A) (i : ℕ) → i < length l → (a : A) × (get_elem? l i ≡ some a)
there [] i h = absurd (omega arith)
there (x ∷ xs) zero h = (x, refl)
there (x ∷ xs) (suc i) h = there xs i (omega arith)

none_there : (n i : ℕ) → get_or (replicate n false) i false ≡ true → ⊥
none_there zero i e = true≢false (sym e)
none_there (suc n) zero e = true≢false (sym e)
none_there (suc n) (suc i) e = none_there n i e

length-map_some : (l : List Kept) → length (map some l) ≡ length l
length-map_some [] = refl
length-map_some (x ∷ xs) = ap suc (length-map_some xs)

pub length-fresh_from : (n journal place : ℕ) (ms : List Stored) → length (fresh_from n journal place ms) ≡ length ms
length-fresh_from n journal place [] = refl
length-fresh_from n journal place (m ∷ ms) = ap suc (length-fresh_from n journal (suc place) ms)

-- The new stripe at an index.
pub fresh_at : (n journal place : ℕ) (ms : List Stored) (i : ℕ) (y : Kept) → get_elem? (fresh_from n journal place ms) i ≡ some y → (m : Stored) × (slice_get ms i ≡ Some m) × (y ≡ fresh n journal (place + i) m)
fresh_at n journal place [] i y e = absurd (some-ne-none y (sym e))
fresh_at n journal place (m ∷ ms) zero y e = (m, refl, sym (some-injective (fresh n journal place m) y e) ∙ ap (λ (q : ℕ). fresh n journal q m) (let h : place ≡ place + 0 = omega arith in h))
fresh_at n journal place (m ∷ ms) (suc i) y e =
    let h = fresh_at n journal (suc place) ms i y e in
    (h.0, h.1, h.2 ∙ ap (λ (q : ℕ). fresh n journal q h.0) (let s : suc place + i ≡ place + suc i = omega arith in s))

-- A new stripe has the entries of its table.
starts_kept : (loads : Bool) (ms : List Stored) (journal i : ℕ) (m : Stored) → slice_get ms i ≡ Some m → IsKept loads (entry_among ms) (fresh (length ms) journal i m)
starts_kept loads ms journal i m is = record { legal = tt; left = λ k of. sym (ap (option_and_then (λ t. entry_in t k)) (ap (slice_get ms) of ∙ is)) }

starts_at : (loads : Bool) (may : ℤ → LoadAnswer → Type 0) (ms : List Stored) (journal i : ℕ) (y : Kept) → i < length ms → get_elem? (fresh_stripes journal ms) i ≡ some y → IsAt loads may ms journal (λ _. []) i y
starts_at loads may ms journal i y below e =
    let h = fresh_at (length ms) journal 0 ms i y e in
    let is : fresh (length ms) journal i h.0 ≡ y = ap (λ (q : ℕ). fresh (length ms) journal q h.0) (let s : i ≡ 0 + i = omega arith in s) ∙ sym h.2 in
    subst (λ (z : Kept). IsAt loads may ms journal (λ _. []) i z) is record {
      inside = below;
      stripes = refl;
      place = refl;
      journal_is = refl;
      idle = refl;
      kept = starts_kept loads ms journal i h.0 h.1;
      given = λ q d e. absurd (omega (arith, e));
      records = refl;
      few = omega arith;
    }

begins : {L : Type 0} (loads : Bool) (may : ℤ → LoadAnswer → Type 0) (k : Terms L) (ws : List ℕ) → length ws ≡ length k.tables.value → ((i : ℕ) → get_or ws i 0 ≡ 0) → Guarded loads may k (opening ws (fresh_stripes k.journal k.tables.value) first_view)
begins loads may k ws long zeros =
    let tables : List Stored = k.tables.value in
    let stripes : List Kept = fresh_stripes k.journal tables in
    let s : S = opening ws stripes first_view in
    let count : length stripes ≡ length tables = length-fresh_from (length tables) k.journal 0 tables in
    let none_of : (X : Type 0) (q : ℕ) (x : X) → get_elem? [] q ≡ some x → ⊥ = λ X q x e. some-ne-none x (sym e) in
    let only : (j : ℕ) (v : View) → get_elem? (first_view ∷ []) j ≡ some v → (j ≡ 0) × (first_view ≡ v) = λ j v e. one j first_view v e in
    record {
      seats = 1;
      history = λ _. [];
      receipts = λ _. [];
      full = λ _. none_full;
      words = long;
      homes = length-map_some stripes ∙ count;
      accounts = record {
        recorded = λ i q r e. absurd (none_of Record q r e);
        received = λ c n t e. absurd (none_of Receipt n t e);
        rising = λ c n m t u _ e _ _. absurd (none_of Receipt n t e);
        filled = λ c i e. absurd (none_there 64 i e);
      };
      counted = λ c. omega arith;
      no_history = λ _ _. refl;
      no_receipts = λ _ _. (refl, refl);
      each_stripe = λ i below. let y = there stripes i (omega (arith, count)) in inl record {
        free = zeros i;
        stripe = y.0;
        there = at_map some stripes i y.0 y.1;
        at = starts_at loads may tables k.journal i y.0 below y.1;
      };
      each_view = λ j v e. let o = only j v e in subst (λ (x : View). Fits loads may tables k.journal 1 (λ _. []) (λ _. []) (λ _. none_full) s j x) o.1 (record {
        parts = λ n p e'. subst (λ (q : Part). IsPart loads may tables k.journal 1 (λ _. []) (λ _. []) (λ _. none_full) s q) (at_one (part 0 [] none_full) p n e') record { caller = omega arith; receipts_are = refl; full_is = refl };
        holds = λ i y e'. absurd (nothing_held i y e');
        maker = λ _. (o.0, refl);
      });
      one_holder = λ i j m v w ev ew hv hw. (only j v ev).0 ∙ sym (only m w ew).0;
      one_place = λ c j m v w ev ew hv hw. (only j v ev).0 ∙ sym (only m w ew).0;
    }
  where
    one : (j : ℕ) (first v : View) → get_elem? (first ∷ []) j ≡ some v → (j ≡ 0) × (first ≡ v)
    one zero first v e = (refl, some-injective first v e)
    one (suc j) first v e = absurd (some-ne-none v (sym e))

abbrev pub zeros : ℕ → List ℕ
zeros m = replicate m 0

pub zeros_long : (n m : ℕ) → n ≤ m → length (take n (zeros m)) ≡ n
zeros_long zero m h = refl
zeros_long (suc n) zero h = absurd (omega arith)
zeros_long (suc n) (suc m) h = ap suc (zeros_long n m (omega arith))

zeros_are : (n m i : ℕ) → get_or (take n (zeros m)) i 0 ≡ zero
zeros_are zero m i = refl
zeros_are (suc n) zero i = refl
zeros_are (suc n) (suc m) zero = refl
zeros_are (suc n) (suc m) (suc i) = zeros_are n m i

pub begins_at : {L : Type 0} (loads : Bool) (may : ℤ → LoadAnswer → Type 0) (k : Terms L) (n : ℕ) (slots : List Kept) → fresh_stripes k.journal k.tables.value ≡ slots → n ≡ length k.tables.value → n ≤ 64 → Guarded loads may k (opening (take n (zeros 64)) slots first_view)
begins_at loads may k n slots same count few =
    subst (λ (l : List Kept). Guarded loads may k (opening (take n (zeros 64)) l first_view)) same
    (begins loads may k (take n (zeros 64)) (zeros_long n 64 few ∙ count) (λ i. zeros_are n 64 i))

-- New stripes are ready.
ready_from : (n journal place : ℕ) (ms : List Stored) (i : ℕ) (y : Kept) → get_elem? (fresh_from n journal place ms) i ≡ some y → IsReady n (place + i) y
ready_from n journal place ms i y e =
    let h = fresh_at n journal place ms i y e in
    record { stripes = ap (λ (z : Kept). z.stripes) h.2; place = ap (λ (z : Kept). z.place) h.2; idle = ap (λ (z : Kept). z.running) h.2 }

ready_fresh : (journal : ℕ) (ms : List Stored) → AreReady (length ms) (fresh_stripes journal ms)
ready_fresh journal ms i y e = subst (λ (j : ℕ). IsReady (length ms) j y) (let h : 0 + i ≡ i = omega arith in h) (ready_from (length ms) journal 0 ms i y e)

-- New stripes have the tables that they were made from.
tables-fresh_from : (n journal place : ℕ) (ms : List Stored) → tables_of (fresh_from n journal place ms) ≡ ms
tables-fresh_from n journal place [] = refl
tables-fresh_from n journal place (m ∷ ms) = ap (λ (l : List Stored). m ∷ l) (tables-fresh_from n journal (suc place) ms)

-- The same for a list that is equal to the new stripes.
module _ (journal : ℕ) (ms : List Stored) (ys : List Kept) (are : ys ≡ fresh_stripes journal ms) where
  pub long : length ys ≡ length ms
  long = ap (λ (l : List Kept). length l) are ∙ length-fresh_from (length ms) journal 0 ms

  pub are_ready : AreReady (length ys) ys
  are_ready = subst (λ (x : ℕ × List Kept). AreReady x.0 x.1) (λ k. (sym long k, sym are k)) (ready_fresh journal ms)

  pub come_back : (b : Back) → b ≡ none_back (length ms) → b ≡ none_back (length ys)
  come_back b is = is ∙ ap none_back (sym long)

  pub tables_are : tables_of ys ≡ ms
  tables_are = ap tables_of are ∙ tables-fresh_from (length ms) journal 0 ms

-- The first seat and the other seats are all seats.
module _ (t : TableId) (n room : ℕ) (first : Sitting) (others : List Sitting) (is : first ≡ fresh_seat t n room 0) (count : length others + 1 ≡ n) (each : (c : ℕ) (s : Sitting) → get_elem? others c ≡ some s → s ≡ fresh_seat t n room (suc c)) where
  seat_at : (c : ℕ) (s : Sitting) → get_elem? (first ∷ others) c ≡ some s → s ≡ fresh_seat t n room c
  seat_at zero s e = sym (some-injective first s e) ∙ is
  seat_at (suc c) s e = each c s e

  room_at : (c : ℕ) (s : Sitting) → get_elem? (first ∷ others) c ≡ some s → s.room ≡ room
  room_at c s e = ap (λ (x : Sitting). x.room) (seat_at c s e)

  pub fresh_all : AreFresh t n (first ∷ others)
  fresh_all = record { count = omega (arith, count); each = λ c s e. seat_at c s e ∙ ap (λ (r : ℕ). fresh_seat t n r c) (sym (room_at c s e)) }

  pub room_all : HaveRoom room (first ∷ others)
  room_all c s e = let same = room_at c s e in omega (arith, same)
