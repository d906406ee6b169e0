-- The effect of each lock operation on the ghost state of the seat.
use Rattle.std.specs.Prelude.{◌≡◌, ◌≢◌, ℕ, suc, ◌≤◌, List, [], ◌∷◌, Some, None, length, map}
use Rattle.atomic_table.specs.Table.{Me, Step, rest}
use Rattle.stripe.specs.History.{Record}
use Rattle.stripe.specs.Kept.{Kept}
use Rattle.cache.specs.Receipts.{Receipt}
use Rattle.cache.specs.Views.{Part, View, taken, told_part, filled_part}

-- The ghost state of a seat: its view, and the stripes that it holds, each with its index.
abbrev pub Sat : Type 0
Sat = Me Kept View

abbrev pub with_held : View → ℕ → Kept → View
with_held v i y = record { made = v.made; parts = v.parts; held = Some (taken i y) }

-- `HaveFew` holds if a view of a single seat has at most 262,144 receipts, the most records of 64 stripes.
abbrev pub HaveFew : List Part → Type 0
HaveFew parts = (p : Part) → parts ≡ p ∷ [] → length p.receipts ≤ 262144

-- `IsFree` holds if `y` is stripe `i` of `slots` without an open call, and its records and the seat's receipts are within their limits.
pub record IsFree (slots i : ℕ) (parts : List Part) (y : Kept) : Type 0 where
  pub stripes : y.stripes ≡ slots
  pub place : y.place ≡ i
  pub idle : y.running ≡ None
  pub few : length y.records ≤ y.journal
  pub receipts : HaveFew parts

-- The view with `f` applied to each part, and without a held stripe.
abbrev pub released : (Part → Part) → View → View
released f v = record { made = v.made; parts = map f v.parts; held = None }

-- The receipt of the last of these records. The first one, `r`, has index `place` in the history of stripe `i`.
abbrev pub last_receipt : ℕ → ℕ → Record → List Record → Receipt
last_receipt i place r [] = record { stripe = i; place = place; call = r.call; reply = r.reply }
last_receipt i place r (x ∷ xs) = last_receipt i (suc place) x xs

abbrev pub told_last : ℕ → List Record → Part → Part
told_last i [] p = p
told_last i (x ∷ xs) p = told_part p (last_receipt i 0 x xs)

-- `HasTaken` holds if the seat has locked the stripe, which was between two calls.
abbrev pub HasTaken : Step Kept → Sat → Sat → Type 0
HasTaken st m m' = (y : Kept) × (m' ≡ (with_held m.0 st.word y, (st.word, y) ∷ m.1)) × IsFree st.slots st.word m.0.parts y

-- The effect of a lock: the seat holds the stripe if the word was 0, and is unchanged otherwise.
abbrev pub on_take : Step Kept → Sat → ℕ → Sat → Type 0
on_take st m found m' = (found ≡ 0 → HasTaken st m m') × (found ≢ 0 → m' ≡ m)

-- The effect of an unlock.
abbrev pub on_return : Step Kept → Sat → ℕ → Sat → Type 0
on_return st m found m' = m' ≡ (released (λ p. p) m.0, rest m.1)

-- The effect of the unlock of a full stripe, whose flag is set.
abbrev pub on_fill : Step Kept → Sat → ℕ → Sat → Type 0
on_fill st m found m' = m' ≡ (released (λ p. filled_part p st.word) m.0, rest m.1)

-- The ghost state after a note: the view has the receipt of the stripe's last record, and the seat still holds the stripe.
abbrev pub noted : ℕ → View → List (ℕ × Kept) → Sat
noted i v [] = (v, [])
noted i v (x ∷ xs) = (with_held (released (told_last i x.1.records) v) i x.1, x ∷ xs)

-- The effect of a note, which bounds the receipts of the seat.
abbrev pub on_note : Step Kept → Sat → ℕ → Sat → Type 0
on_note st m found m' = (m' ≡ noted st.word m.0 m.1) × HaveFew m'.0.parts
