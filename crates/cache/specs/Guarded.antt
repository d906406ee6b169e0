-- The invariant of the lock table.
use Rattle.std.specs.Prelude.{◌≡◌, ◌⊎◌, ℕ, ℤ, zero, suc, ◌+◌, ◌<◌, ◌≤◌, List, [], ◌∷◌, Some, None, Bool, length, slice_index}
use mathlib.Core.Option.{some, none}
use lib.ListN.{get_elem?}
use Rattle.atomic_table.specs.Table.{State}
use Rattle.jtypes.specs.declared.loader.LoadAnswer.{LoadAnswer}
use Rattle.stripe.specs.History.{Record, Entries, AreGiven}
use Rattle.stripe.specs.Stored.{Stored, entry_among}
use Rattle.stripe.specs.Kept.{Kept, IsKept}
use Rattle.cache.specs.Receipts.{Receipt}
use Rattle.cache.specs.Views.{Part, View, taken, none_full}
use Rattle.cache.specs.Accounts.{Accounts}
use Rattle.cache.specs.declared.known.Terms.{Terms}

-- `IsLater` holds if `z` is stripe `y` after further calls, none of them open. It stays legal, with answers that the loader may give.
pub record IsLater (loads : Bool) (gives : ℤ → LoadAnswer → Type 0) (y z : Kept) : Type 0 where
  pub stripes : z.stripes ≡ y.stripes
  pub place : z.place ≡ y.place
  pub journal : z.journal ≡ y.journal
  pub idle : z.running ≡ None
  pub kept : (opening : Entries) → IsKept loads opening y → IsKept loads opening z
  pub given : AreGiven gives y.records → AreGiven gives z.records

-- `IsAt` holds if `y` is stripe `i` between two calls: its history is legal from the entries of `tables`, its entries are those that
-- the history leaves, and the loader may give each recorded answer.
pub record IsAt (loads : Bool) (gives : ℤ → LoadAnswer → Type 0) (tables : List Stored) (journal : ℕ) (history : ℕ → List Record) (i : ℕ) (y : Kept) : Type 0 where
  pub inside : i < length tables
  pub stripes : y.stripes ≡ length tables
  pub place : y.place ≡ i
  pub journal_is : y.journal ≡ journal
  pub idle : y.running ≡ None
  pub kept : IsKept loads (entry_among tables) y
  pub given : AreGiven gives y.records
  pub records : y.records ≡ history i
  pub few : length y.records ≤ journal

-- The number of records of the first `n` stripes.
abbrev pub count_records : (ℕ → List Record) → ℕ → ℕ
count_records history zero = 0
count_records history (suc n) = count_records history n + length (history n)

module _ (loads : Bool) (gives : ℤ → LoadAnswer → Type 0) (tables : List Stored) (journal seats : ℕ) (history : ℕ → List Record) (receipts : ℕ → List Receipt) (full : ℕ → List Bool) (s : State Kept View) where
  -- `IsHome` holds if stripe `i` is unlocked: its word is 0 and the table has it.
  pub record IsHome (i : ℕ) : Type 0 where
    pub free : slice_index s.words i ≡ 0
    pub stripe : Kept
    pub there : get_elem? s.homes i ≡ some (some stripe)
    pub at : IsAt loads gives tables journal history i stripe

  -- `IsOut` holds if a seat holds stripe `i`: its word is nonzero, the table doesn't have it, and the seat's view does.
  pub record IsOut (i : ℕ) : Type 0 where
    pub held : 0 < slice_index s.words i
    pub away : get_elem? s.homes i ≡ some none
    pub seat : ℕ
    pub view : View
    pub before : Kept
    pub there : get_elem? s.views seat ≡ some view
    pub holds : view.held ≡ Some (taken i before)

  -- `IsPart` holds if the part has the receipts and the full flags of its seat in the accounts.
  pub record IsPart (p : Part) : Type 0 where
    pub caller : p.caller < seats
    pub receipts_are : p.receipts ≡ receipts p.caller
    pub full_is : p.full ≡ full p.caller

  -- `IsHolder` holds if stripe `i` is locked, `y` is its state between two calls, and `v` is the view of a single seat.
  pub record IsHolder (v : View) (i : ℕ) (y : Kept) : Type 0 where
    pub held : 0 < slice_index s.words i
    pub at : IsAt loads gives tables journal history i y
    pub only : (p : Part) × (v.parts ≡ p ∷ [])

  -- `Fits` holds if view `v` of table seat `j` agrees with the accounts and the locks.
  pub record Fits (j : ℕ) (v : View) : Type 0 where
    pub parts : (n : ℕ) (p : Part) → get_elem? v.parts n ≡ some p → IsPart p
    pub holds : (i : ℕ) (y : Kept) → v.held ≡ Some (taken i y) → IsHolder v i y
    pub maker : 0 < v.made → (j ≡ 0) × (v.made ≡ seats)

-- `Has` holds if the view has a part of seat `c`.
abbrev pub Has : View → ℕ → Type 0
Has v c = (n : ℕ) × (p : Part) × (get_elem? v.parts n ≡ some p) × (p.caller ≡ c)

-- `AreOne` holds if at most one of the views satisfies `has`.
abbrev pub AreOne : List View → (View → Type 0) → Type 0
AreOne views has = (j k : ℕ) (v w : View) → get_elem? views j ≡ some v → get_elem? views k ≡ some w → has v → has w → j ≡ k

-- `HoldsStripe` holds if the view holds stripe `i`.
abbrev pub HoldsStripe : ℕ → View → Type 0
HoldsStripe i v = (y : Kept) × (v.held ≡ Some (taken i y))

pub record IsGuarded (loads : Bool) (gives : ℤ → LoadAnswer → Type 0) (tables : List Stored) (journal : ℕ) (s : State Kept View) : Type 0 where
  pub seats : ℕ
  pub history : ℕ → List Record
  pub receipts : ℕ → List Receipt
  pub full : ℕ → List Bool
  pub words : length s.words ≡ length tables
  pub homes : length s.homes ≡ length tables
  pub accounts : Accounts journal seats history receipts full
  pub counted : (c : ℕ) → length (receipts c) ≤ count_records history (length tables)
  pub no_history : (i : ℕ) → length tables ≤ i → history i ≡ []
  pub no_receipts : (c : ℕ) → seats ≤ c → (receipts c ≡ []) × (full c ≡ none_full)
  pub each_stripe : (i : ℕ) → i < length tables → IsHome loads gives tables journal seats history receipts full s i ⊎ IsOut loads gives tables journal seats history receipts full s i
  pub each_view : (j : ℕ) (v : View) → get_elem? s.views j ≡ some v → Fits loads gives tables journal seats history receipts full s j v
  pub one_holder : (i : ℕ) → AreOne s.views (HoldsStripe i)
  pub one_place : (c : ℕ) → AreOne s.views (λ v. Has v c)

-- `Guarded` is the invariant of the lock table. Each stripe is unlocked or held by one seat, and between two calls its entries are those
-- that its history leaves. `Accounts` relates the receipts to the records.
abbrev pub Guarded : {L : Type 0} → Bool → (ℤ → LoadAnswer → Type 0) → Terms L → State Kept View → Type 0
Guarded loads gives k s = IsGuarded loads gives k.tables.value k.journal s
