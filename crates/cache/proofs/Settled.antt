-- The final state of the table settles the accounts.
use Rattle.std.proofs.Common.{ℤ, Bool, ◌≡◌, ℕ, zero, suc, ◌<◌, ◌≤◌, List, [], ◌∷◌, length, map, get_or, drop, Some, sym, refl, ap, ◌∙◌, subst, ⊎_elim, arith}
use Rattle.std.specs.Prelude.{slice_get, option_and_then, pos, negsuc}
use Rattle.std.proofs.Math.Nat.{mod-lt}
use mathlib.Core.Option.{some, some-injective, some-ne-none}
use mathlib.Core.Logic.{dite}
use native.Mathlib.Decide.{dec_le}
use lib.ListN.{get_elem?}
use Rattle.atomic_table.specs.Table.{Final, Seen}
use Rattle.atomic_table.proofs.Lists.{at_map}
use Rattle.jtypes.specs.declared.loader.LoadAnswer.{LoadAnswer}
use Rattle.stripe.specs.History.{Record, IsLegal, AreGiven, entries_after, stripe_of}
use Rattle.stripe.specs.Stored.{Stored, entry_in, entry_among}
use Rattle.stripe.specs.Kept.{Kept, entry_of}
use Rattle.cache.specs.Receipts.{Receipt}
use Rattle.cache.specs.Views.{Part, View, none_full}
use Rattle.cache.specs.Accounts.{Accounts}
use Rattle.cache.specs.Guarded.{IsAt, IsHome, IsOut, Has, IsGuarded}
use Rattle.cache.specs.Opened.{Opened, Sitting, part_of, view_of}
use Rattle.cache.specs.Ends.{tables_of, histories_of}
use Rattle.cache.specs.Closing.{history_at, receipts_at, full_at, Settles}
use Rattle.cache.proofs.Puts.{within}
use Rattle.cache.proofs.Keeps.{nothing_held}
use Rattle.cache.proofs.Starts.{there}

-- The returned stripes, each as its history leaves it, and their accounts.
pub record HasEnded (loads : Bool) (may : ℤ → LoadAnswer → Type 0) (tables : List Stored) (journal : ℕ) (seats : List Sitting) (ended : List Kept) : Type 0 where
  pub count : length ended ≡ length tables
  pub each : (i : ℕ) (y : Kept) → get_elem? ended i ≡ some y → IsAt loads may tables journal (history_at (histories_of ended)) i y
  pub accounts : Accounts journal (length seats) (history_at (histories_of ended)) (receipts_at seats) (full_at seats)

records_there : (ys : List Kept) (i : ℕ) (y : Kept) → get_elem? ys i ≡ some y → history_at (histories_of ys) i ≡ y.records
records_there [] i y e = absurd (some-ne-none y (sym e))
records_there (x ∷ xs) zero y e = ap (λ (z : Kept). z.records) (some-injective x y e)
records_there (x ∷ xs) (suc i) y e = records_there xs i y e

no_records : (ys : List Kept) (i : ℕ) → length ys ≤ i → history_at (histories_of ys) i ≡ []
no_records [] i h = refl
no_records (x ∷ xs) zero h = absurd (omega arith)
no_records (x ∷ xs) (suc i) h = no_records xs i (omega arith)

receipts_there : (ss : List Sitting) (c : ℕ) (s : Sitting) → get_elem? ss c ≡ some s → (receipts_at ss c ≡ s.receipts) × (full_at ss c ≡ s.full)
receipts_there [] c s e = absurd (some-ne-none s (sym e))
receipts_there (x ∷ xs) zero s e = (ap (λ (z : Sitting). z.receipts) (some-injective x s e), ap (λ (z : Sitting). z.full) (some-injective x s e))
receipts_there (x ∷ xs) (suc c) s e = receipts_there xs c s e

no_seat : (ss : List Sitting) (c : ℕ) → length ss ≤ c → (receipts_at ss c ≡ []) × (full_at ss c ≡ none_full)
no_seat [] c h = (refl, refl)
no_seat (x ∷ xs) zero h = absurd (omega arith)
no_seat (x ∷ xs) (suc c) h = no_seat xs c (omega arith)

-- In a final state in which one view has all seats, each word is 0 and the table has each stripe.
pub ends : (loads : Bool) (may : ℤ → LoadAnswer → Type 0) (tables : List Stored) (journal id : ℕ) (words : List ℕ) (seats : List Sitting) (ended : List Kept) → 0 < length seats → ((c : ℕ) (s : Sitting) → get_elem? seats c ≡ some s → s.caller ≡ c)
    → Final (Seen (IsGuarded loads may tables journal) id (view_of (length seats) seats)) words ended → HasEnded loads may tables journal seats ended
ends loads may tables journal id words seats ended some_seat numbered last =
    let s = last.0 in
    let g = last.1.0 in
    let v : View = view_of (length seats) seats in
    let at = last.1.1 in
    let mine = g.each_view id v at in
    let all : length seats ≡ g.seats = (mine.maker some_seat).1 in
    let seat : (c : ℕ) → c < g.seats → (x : Sitting) × (get_elem? seats c ≡ some x) = λ c h. there seats c (omega (arith, all)) in
    let has : (c : ℕ) → c < g.seats → Has v c = λ c h. let x = seat c h in (c, part_of x.0, at_map part_of seats c x.0 x.1, numbered c x.0 x.1) in
    let home : (i : ℕ) → i < length tables → IsHome loads may tables journal g.seats g.history g.receipts g.full s i = λ i h. ⊎_elim
    (λ (x : IsHome loads may tables journal g.seats g.history g.receipts g.full s i). x)
    (λ (x : IsOut loads may tables journal g.seats g.history g.receipts g.full s i).
    let f = g.each_view x.seat x.view x.there in
    let p = (f.holds i x.before x.holds).only in
    let in_it : get_elem? x.view.parts 0 ≡ some p.0 = ap (λ (l : List Part). get_elem? l 0) p.1 in
    let here : x.seat ≡ id = g.one_place p.0.caller x.seat id x.view v x.there at (0, p.0, in_it, refl) (has p.0.caller (f.parts 0 p.0 in_it).caller) in
    absurd (nothing_held i x.before (ap (λ (y : View). y.held) (some-injective v x.view (sym at ∙ subst (λ (j : ℕ). get_elem? s.views j ≡ some x.view) here x.there)) ∙ x.holds)))
    (g.each_stripe i h) in
    let count : length ended ≡ length tables = sym last.3 ∙ g.homes in
    let histories : (i : ℕ) → g.history i ≡ history_at (histories_of ended) i = λ i. dite (dec_le (length tables) i)
    (λ h. g.no_history i h ∙ sym (no_records ended i (omega (arith, count))))
    (λ h. let x = home i (omega arith) in sym (records_there ended i x.stripe (last.4 i x.stripe x.there) ∙ x.at.records)) in
    let lists : (c : ℕ) → (g.receipts c ≡ receipts_at seats c) × (g.full c ≡ full_at seats c) = λ c. dite (dec_le g.seats c)
    (λ h. let a = g.no_receipts c h in let b = no_seat seats c (omega (arith, all)) in (a.0 ∙ sym b.0, a.1 ∙ sym b.1))
    (λ h. let below : c < g.seats = omega arith in
    let x = seat c below in
    let p = mine.parts c (part_of x.0) (at_map part_of seats c x.0 x.1) in
    let is = numbered c x.0 x.1 in
    let r = receipts_there seats c x.0 x.1 in
    (ap g.receipts (sym is) ∙ sym p.receipts_are ∙ sym r.0, ap g.full (sym is) ∙ sym p.full_is ∙ sym r.1)) in
    record {
      count = count;
      each = λ i y e.
          let x = home i (omega (arith, within ended i y e, count)) in
          let same : x.stripe ≡ y = some-injective x.stripe y (sym (last.4 i x.stripe x.there) ∙ e) in
          subst (λ (z : (ℕ → List Record) × Kept). IsAt loads may tables journal z.0 i z.1) (λ j. ((λ q. histories q j), same j)) x.at;
      accounts = subst (λ (x : ℕ × (ℕ → List Record) × (ℕ → List Receipt) × (ℕ → List Bool)). Accounts journal x.0 x.1 x.2 x.3)
          (λ j. (sym all j, (λ i. histories i j), (λ c. (lists c).0 j), (λ c. (lists c).1 j))) g.accounts;
    }

pub stripe_below : (n : ℕ) (k : ℤ) → 0 < n → stripe_of n k < n
stripe_below n (pos a) some_stripe = mod-lt a some_stripe
stripe_below n (negsuc a) some_stripe = let h = mod-lt a some_stripe in omega arith

length-map_of : {A B : Type 0} (f : A → B) (l : List A) → length (map f l) ≡ length l
length-map_of f [] = refl
length-map_of f (x ∷ xs) = ap suc (length-map_of f xs)

stored_there : (ys : List Kept) (i : ℕ) (y : Kept) → get_elem? ys i ≡ some y → slice_get (tables_of ys) i ≡ Some y.stored
stored_there [] i y e = absurd (some-ne-none y (sym e))
stored_there (x ∷ xs) zero y e = ap (λ (z : Kept). Some z.stored) (some-injective x y e)
stored_there (x ∷ xs) (suc i) y e = stored_there xs i y e

pub settles : {L : Type 0} (loads : Bool) (may : ℤ → LoadAnswer → Type 0) (d : Opened L) (seats : List Sitting) (ended : List Kept) → 0 < length d.tables → length seats ≡ d.seats → HasEnded loads may d.tables d.journal seats ended → Settles loads may d seats (tables_of ended) (histories_of ended)
settles loads may d seats ended some_stripe all e =
    let n : ℕ = length d.tables in
    let stripe : (i : ℕ) → i < n → (y : Kept) × (get_elem? ended i ≡ some y) = λ i h. there ended i (omega (arith, e.count)) in
    record {
      tables_count = length-map_of (λ (y : Kept). y.stored) ended ∙ e.count;
      histories_count = length-map_of (λ (y : Kept). y.records) ended ∙ e.count;
      legal = λ i h. let y = stripe i h in let at = e.each i y.0 y.1 in subst (λ (l : List Record). IsLegal loads (entry_among d.tables) l) at.records at.kept.legal;
      given = λ i h. let y = stripe i h in let at = e.each i y.0 y.1 in subst (λ (l : List Record). AreGiven may l) at.records at.given;
      left = λ k.
          let i : ℕ = stripe_of n k in
          let y = stripe i (stripe_below n k some_stripe) in
          let at = e.each i y.0 y.1 in
          let here : stripe_of (length (tables_of ended)) k ≡ i = ap (λ (m : ℕ). stripe_of m k) (length-map_of (λ (z : Kept). z.stored) ended ∙ e.count) in
          let entry : entry_among (tables_of ended) k ≡ entry_of y.0 k = ap (option_and_then (λ t. entry_in t k)) (ap (slice_get (tables_of ended)) here ∙ stored_there ended i y.0 y.1) in
          let of : stripe_of y.0.stripes k ≡ y.0.place = ap (λ (m : ℕ). stripe_of m k) at.stripes ∙ sym at.place in
          entry ∙ at.kept.left k of ∙ ap (λ (l : List Record). entries_after (entry_among d.tables) l k) at.records;
      accounts = subst (λ (m : ℕ). Accounts d.journal m (history_at (histories_of ended)) (receipts_at seats) (full_at seats)) all e.accounts;
    }

pub after_first : (l rest : List Sitting) (x : Sitting) → 0 < length l → x ≡ get_or l 0 x → rest ≡ drop 1 l → l ≡ x ∷ rest
after_first [] rest x h e f = absurd (omega arith)
after_first (y ∷ ys) rest x h e f = λ k. sym e k ∷ sym f k
