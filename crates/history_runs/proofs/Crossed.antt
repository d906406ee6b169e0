-- The histories of the example are settled, and no run has them.
use Rattle.std.proofs.Common.{Option, Some, arith, ◌≡◌, ◌<◌, ℕ, zero, suc, ℤ, pos, Bool, true, false, cond, if◌then◌else◌, List, [], ◌∷◌, length, replicate, slice_get, slice_index_or, option_and_then, is_some, None, refl, sym, ap, subst, ◌∙◌, true≢false}
use Rattle.std.specs.FinMap as map
use Rattle.std.specs.Option.{option_flatten}
use Rattle.std.specs.Ordering.{int_cmp, int_eq}
use Rattle.std.proofs.lemmas.Bool.{eq-eqb}
use mathlib.Core.Option.{some, some-injective, some-ne-none}
use lib.ListN.{get_elem?, get_or}
use Rattle.atomic_table.specs.Seated.{TableId}
use Rattle.jtypes.specs.declared.loader.LoadAnswer.{LoadAnswer}
use Rattle.jtypes.specs.Entry.{Entry}
use Rattle.jtypes.specs.Loading.{IsGiven}
use Rattle.stripe.specs.declared.call.Reply.TheVariants.{Flag}
use Rattle.stripe.specs.History.{Record, AreGiven, IsLegal, entry_after, entries_after, key_of, stripe_of}
use Rattle.stripe.specs.Stored.{entry_in, entry_among}
use Rattle.cache.specs.Receipts.{Receipt}
use Rattle.cache.specs.Opened.{Sitting, IsSeat}
use Rattle.round_outcome.specs.Closed.{AreFiled, AllAreFiled}
use Rattle.cache.specs.Accounts.{HasReceipt, HasRecord}
use Rattle.cache.specs.Closing.{history_at, receipts_at, full_at}
use Rattle.world.specs.World.{World, Event, Running, Runs, opened, history_of, records_on}
use Rattle.world.proofs.Histories.{stripe_below}
use Rattle.history_runs.specs.OneByOne.{AreNumbered}
use Rattle.history_runs.specs.Settled.{IsInterleaving}
use Rattle.history_runs.proofs.First.{first_at, first_is_zero}
use Rattle.history_runs.specs.Example.{sitting, removed, crossed, filed, two_seats, no_tables, CrossedHistories}

-- ---- no order

-- The number of the first record, or 1 if there is none.
abbrev first_number : List Record → ℕ
first_number [] = 1
first_number (r ∷ rs) = r.number

second_first : (i : ℕ) → i < 2 → first_number (history_at crossed i) ≡ 1
second_first zero lt = refl
second_first (suc zero) lt = refl
second_first (suc (suc i)) lt = refl

no_order : (records : List Record) → IsInterleaving 2 crossed records → AreNumbered records → ⊥
no_order [] is are = let e : 0 ≡ 2 = ap length (is 0 (omega arith)) in absurd (omega (arith, e))
no_order (r ∷ rs) is are =
    let i : ℕ = stripe_of 2 (key_of r.call) in
    let low : i < 2 = stripe_below 2 (key_of r.call) (omega arith) in
    let own : records_on 2 i (r ∷ rs) ≡ r ∷ records_on 2 i rs = ap (λ b. cond b (r ∷ records_on 2 i rs) (records_on 2 i rs)) (eq-eqb i i refl) in
    let one : r.number ≡ 1 = ap first_number (sym own ∙ is i low) ∙ second_first i low in
    let none : r.number ≡ 0 = are.0 in
    absurd (omega (arith, one, none))

-- ---- no run

crossed_first : (i : ℕ) (o : Option (Option Running)) → i < 2 → first_at (history_at crossed i) o ≡ Some 1
crossed_first zero o lt = refl
crossed_first (suc zero) o lt = refl
crossed_first (suc (suc i)) o lt = absurd (omega (arith, lt))

crossed_some : (i : ℕ) → i < 2 → 0 < length (history_at crossed i)
crossed_some zero lt = omega arith
crossed_some (suc zero) lt = omega arith
crossed_some (suc (suc i)) lt = absurd (omega (arith, lt))

same_number : (m n : ℕ) → Some m ≡ Some n → m ≡ n
same_number m n e = cc e

no_run : (gives : ℤ → LoadAnswer → Type 0) (loads : Bool) (events : List Event) (w : World) → Runs gives (opened loads no_tables 2) events w → ((i : ℕ) → i < 2 → history_of w i ≡ history_at crossed i) → ⊥
no_run gives loads events w runs are =
    let f = first_is_zero gives loads no_tables 2 (omega arith) events w runs (λ i lt. subst (λ (rs : List Record). 0 < length rs) (sym (are i lt)) (crossed_some i lt)) in
    absurd (omega (arith, same_number 1 0 (sym (crossed_first f.0 None f.1) ∙ ap (λ rs. first_at rs None) (sym (are f.0 f.1)) ∙ f.2 None)))

-- ---- settled

no_entry : (k : ℤ) → entry_among no_tables k ≡ None
no_entry k = by (stripe_of 2 k)
  where
    by : (i : ℕ) → option_and_then (λ m. entry_in m k) (slice_get no_tables i) ≡ None
    by zero = ap option_flatten (map.get-empty int_cmp k)
    by (suc zero) = ap option_flatten (map.get-empty int_cmp k)
    by (suc (suc i)) = refl

-- Each record leaves no entry.
abbrev AllGone : List Record → Type 0
AllGone [] = Unit {0}
AllGone (r ∷ rs) = (r.after ≡ None) × AllGone rs

entries_stay : (k : ℤ) (rs : List Record) (e : Entry) → e ≡ None → AllGone rs → entry_after e rs k ≡ None
entries_stay k [] e none gone = none
entries_stay k (r ∷ rs) e none gone = entries_stay k rs (if int_eq (key_of r.call) k then r.after else e) (by (int_eq (key_of r.call) k)) gone.1
  where
    by : (b : Bool) → (if b then r.after else e) ≡ None
    by true = gone.0
    by false = none

gone_at : (i : ℕ) → AllGone (history_at crossed i)
gone_at zero = (refl, (refl, tt))
gone_at (suc zero) = (refl, (refl, tt))
gone_at (suc (suc i)) = tt

-- A legal removal of an absent key.
legal_at : (loads : Bool) (i : ℕ) → IsLegal loads (entry_among no_tables) (history_at crossed i)
legal_at loads i = by i
  where
    flag : (k : ℤ) (seen : List Record) → AllGone seen → Flag false ≡ Flag (is_some (entries_after (entry_among no_tables) seen k))
    flag k seen gone = ap (λ e. Flag (is_some e)) (sym (entries_stay k seen (entry_among no_tables k) (no_entry k) gone))

    by : (i : ℕ) → IsLegal loads (entry_among no_tables) (history_at crossed i)
    by zero = ((flag (pos 0) [] tt, refl, refl), ((flag (pos 0) (removed 1 1 (pos 0) ∷ []) (refl, tt), refl, refl), tt))
    by (suc zero) = ((flag (pos 1) [] tt, refl, refl), ((flag (pos 1) (removed 0 1 (pos 1) ∷ []) (refl, tt), refl, refl), tt))
    by (suc (suc i)) = tt

given_at : (gives : ℤ → LoadAnswer → Type 0) (i : ℕ) → AreGiven gives (history_at crossed i)
given_at gives zero = λ q d k. by q d k
  where
    by : (q : ℕ) (d : Record) → q < 2 → IsGiven gives (key_of (get_or (history_at crossed 0) q d).call) (get_or (history_at crossed 0) q d).asked
    by zero d k = tt
    by (suc zero) d k = tt
    by (suc (suc q)) d k = absurd (omega (arith, k))
given_at gives (suc zero) = λ q d k. by q d k
  where
    by : (q : ℕ) (d : Record) → q < 2 → IsGiven gives (key_of (get_or (history_at crossed 1) q d).call) (get_or (history_at crossed 1) q d).asked
    by zero d k = tt
    by (suc zero) d k = tt
    by (suc (suc q)) d k = absurd (omega (arith, k))
given_at gives (suc (suc i)) = λ q d k. absurd (omega (arith, k))

-- ---- receipts

module _ (table : TableId) where
  abbrev receipts : ℕ → List Receipt
  receipts = receipts_at (two_seats table)

  abbrev Recorded : ℕ → ℕ → Record → Type 0
  Recorded i q r = (r.caller < 2) × HasReceipt receipts i q r

  its : (i q : ℕ) (x r : Record) → Recorded i q x → some x ≡ some r → Recorded i q r
  its i q x r h e = subst (Recorded i q) (some-injective x r e) h

  recorded : (i q : ℕ) (r : Record) → get_elem? (history_at crossed i) q ≡ some r → Recorded i q r
  recorded zero zero r e = its 0 0 (removed 1 1 (pos 0)) r (omega arith, record { receipt = filed 0 0 (pos 0); there = refl; stripe_is = refl; place_is = refl }) e
  recorded zero (suc zero) r e = its 0 1 (removed 0 0 (pos 0)) r (omega arith, record { receipt = filed 0 1 (pos 0); there = refl; stripe_is = refl; place_is = refl }) e
  recorded zero (suc (suc q)) r e = absurd (some-ne-none r (sym e))
  recorded (suc zero) zero r e = its 1 0 (removed 0 1 (pos 1)) r (omega arith, record { receipt = filed 1 0 (pos 1); there = refl; stripe_is = refl; place_is = refl }) e
  recorded (suc zero) (suc zero) r e = its 1 1 (removed 1 0 (pos 1)) r (omega arith, record { receipt = filed 1 1 (pos 1); there = refl; stripe_is = refl; place_is = refl }) e
  recorded (suc zero) (suc (suc q)) r e = absurd (some-ne-none r (sym e))
  recorded (suc (suc i)) q r e = absurd (some-ne-none r (sym e))

  abbrev Received : ℕ → ℕ → Receipt → Type 0
  Received c n t = HasRecord (history_at crossed) c n t

  has : (c n : ℕ) (x t : Receipt) → Received c n x → some x ≡ some t → Received c n t
  has c n x t h e = subst (Received c n) (some-injective x t e) h

  received : (c n : ℕ) (t : Receipt) → get_elem? (receipts c) n ≡ some t → Received c n t
  received zero zero t e = has 0 0 (filed 0 1 (pos 0)) t (record { made = removed 0 0 (pos 0); there = refl; caller_is = refl; number_is = refl; same = record { call = refl; reply = refl } }) e
  received zero (suc zero) t e = has 0 1 (filed 1 0 (pos 1)) t (record { made = removed 0 1 (pos 1); there = refl; caller_is = refl; number_is = refl; same = record { call = refl; reply = refl } }) e
  received zero (suc (suc n)) t e = absurd (some-ne-none t (sym e))
  received (suc zero) zero t e = has 1 0 (filed 1 1 (pos 1)) t (record { made = removed 1 0 (pos 1); there = refl; caller_is = refl; number_is = refl; same = record { call = refl; reply = refl } }) e
  received (suc zero) (suc zero) t e = has 1 1 (filed 0 0 (pos 0)) t (record { made = removed 1 1 (pos 0); there = refl; caller_is = refl; number_is = refl; same = record { call = refl; reply = refl } }) e
  received (suc zero) (suc (suc n)) t e = absurd (some-ne-none t (sym e))
  received (suc (suc c)) n t e = absurd (some-ne-none t (sym e))

  -- Two receipts of a seat are of two stripes.
  apart : (c n m : ℕ) (t u : Receipt) → n < m → get_elem? (receipts c) n ≡ some t → get_elem? (receipts c) m ≡ some u → t.stripe ≡ u.stripe → t.place < u.place
  apart c n zero t u lt e f same = absurd (omega (arith, lt))
  apart zero zero (suc zero) t u lt e f same = absurd (omega (arith, ap (λ (x : Receipt). x.stripe) (some-injective (filed 0 1 (pos 0)) t e), ap (λ (x : Receipt). x.stripe) (some-injective (filed 1 0 (pos 1)) u f), same))
  apart zero (suc n) (suc zero) t u lt e f same = absurd (omega (arith, lt))
  apart zero n (suc (suc m)) t u lt e f same = absurd (some-ne-none u (sym f))
  apart (suc zero) zero (suc zero) t u lt e f same = absurd (omega (arith, ap (λ (x : Receipt). x.stripe) (some-injective (filed 1 1 (pos 1)) t e), ap (λ (x : Receipt). x.stripe) (some-injective (filed 0 0 (pos 0)) u f), same))
  apart (suc zero) (suc n) (suc zero) t u lt e f same = absurd (omega (arith, lt))
  apart (suc zero) n (suc (suc m)) t u lt e f same = absurd (some-ne-none u (sym f))
  apart (suc (suc c)) n (suc m) t u lt e f same = absurd (some-ne-none u (sym f))

  no_flag : (n i : ℕ) → slice_index_or (replicate n false) i false ≡ false
  no_flag zero i = refl
  no_flag (suc n) zero = refl
  no_flag (suc n) (suc i) = no_flag n i

  none_filled : (c i : ℕ) → slice_index_or (full_at (two_seats table) c) i false ≡ true → length (history_at crossed i) ≡ 2
  none_filled zero i e = absurd (true≢false (sym e ∙ no_flag 64 i))
  none_filled (suc zero) i e = absurd (true≢false (sym e ∙ no_flag 64 i))
  none_filled (suc (suc c)) i e = absurd (true≢false (sym e ∙ no_flag 64 i))

  -- ---- seats

  seat_is : (c : ℕ) (s : Sitting) → get_elem? (two_seats table) c ≡ some s → IsSeat table 2 c s
  seat_is zero s e = subst (IsSeat table 2 0) (some-injective (sitting table 0 _) s e) (record { table_is = refl; caller_is = refl; made_is = refl })
  seat_is (suc zero) s e = subst (IsSeat table 2 1) (some-injective (sitting table 1 _) s e) (record { table_is = refl; caller_is = refl; made_is = refl })
  seat_is (suc (suc c)) s e = absurd (some-ne-none s (sym e))

  abbrev IsFiled : Receipt → Type 0
  IsFiled t = t.stripe ≡ stripe_of 2 (key_of t.call)

  two_filed : (x y : Receipt) → IsFiled x → IsFiled y → AreFiled 2 (x ∷ y ∷ [])
  two_filed x y f g zero t e = subst IsFiled (some-injective x t e) f
  two_filed x y f g (suc zero) t e = subst IsFiled (some-injective y t e) g
  two_filed x y f g (suc (suc n)) t e = absurd (some-ne-none t (sym e))

  all_filed : AllAreFiled 2 (two_seats table)
  all_filed zero s e = subst (λ (x : Sitting). AreFiled 2 x.receipts) (some-injective (sitting table 0 _) s e) (two_filed (filed 0 1 (pos 0)) (filed 1 0 (pos 1)) refl refl)
  all_filed (suc zero) s e = subst (λ (x : Sitting). AreFiled 2 x.receipts) (some-injective (sitting table 1 _) s e) (two_filed (filed 1 1 (pos 1)) (filed 0 0 (pos 0)) refl refl)
  all_filed (suc (suc c)) s e = absurd (some-ne-none s (sym e))

pub crossed_histories : (L : Type 0) (loads : Bool) (gives : ℤ → LoadAnswer → Type 0) → CrossedHistories L loads gives
crossed_histories L loads gives table registry loader =
    record {
      settles = record {
        tables_count = refl;
        histories_count = refl;
        legal = λ i lt. legal_at loads i;
        given = λ i lt. given_at gives i;
        left = λ k. no_entry k ∙ sym (entries_stay k (history_at crossed (stripe_of 2 k)) (entry_among no_tables k) (no_entry k) (gone_at (stripe_of 2 k)));
        accounts = record { recorded = recorded table; received = received table; rising = apart table; filled = none_filled table };
      };
      seats_are = record { count = refl; each = seat_is table };
      filed_are = all_filed table;
      no_run = no_run gives loads;
      no_order = no_order;
    }
