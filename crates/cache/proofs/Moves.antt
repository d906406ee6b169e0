-- The lock table allows each lock operation on a stripe.
use Rattle.std.proofs.Common.{zero, All, ℤ, Bool, ◌≡◌, ℕ, suc, ◌+◌, ◌*◌, ◌<◌, ◌≤◌, List, [], ◌∷◌, ◌++◌, length, get_or, set, None, true, sym, refl, ap, ◌∙◌, subst, ⊎_elim, arith, length-append}
use mathlib.Core.Option.{none, some, some-injective}
use lib.ListN.{get_elem?}
use Rattle.atomic_table.specs.Table.{Allows, step, keeps, takes, gives, chain}
use Rattle.atomic_table.proofs.Lists.{set_again, set_here}
use Rattle.jtypes.specs.declared.loader.LoadAnswer.{LoadAnswer}
use Rattle.jtypes.specs.Entry.{Entry}
use Rattle.stripe.specs.History.{Call, Invoke, Get, Put, Remove, Contains, Record}
use Rattle.stripe.specs.Stored.{Stored}
use Rattle.stripe.specs.Kept.{Kept, IsPlain}
use Rattle.stripe.specs.Tables.{IsCount, IsJournal}
use Rattle.cache.specs.Receipts.{Receipt, receipt_behind}
use Rattle.cache.specs.Views.{Part, View, seat_view, holding, told_part, filled_part}
use Rattle.cache.specs.Guarded.{IsLater, IsHome, IsOut, IsGuarded, Guarded, count_records}
use Rattle.cache.specs.Plays.{Sat, on_take, on_return, on_fill, on_note, last_receipt, told_last}
use Rattle.cache.specs.Steps.{EndsSo, CanReturn, CanFill, CanTell}
use Rattle.cache.specs.declared.known.Terms.{Terms}
use Rattle.cache.proofs.Puts.{put, within}
use Rattle.cache.proofs.Counts.{count_few}
use Rattle.cache.proofs.Books.{Books, put_is, same_books, more_full, more_books}
use Rattle.cache.proofs.Keeps.{S, gives_back, takes_one, taken_again, stays_out}

last_after : (i place : ℕ) (x : Record) (xs : List Record) (r : Record) → last_receipt i place x (xs ++ r ∷ []) ≡ record { stripe = i; place = place + length xs + 1; call = r.call; reply = r.reply }
last_after i place x [] r = ap (λ (n : ℕ). record { stripe = i; place = n; call = r.call; reply = r.reply }) (omega arith)
last_after i place x (y ∷ ys) r = last_after i (suc place) y ys r ∙ ap (λ (n : ℕ). record { stripe = i; place = n; call = r.call; reply = r.reply }) (omega arith)

pub told_snoc : (i : ℕ) (xs : List Record) (r : Record) (p : Part) → told_last i (xs ++ r ∷ []) p ≡ told_part p (receipt_behind i xs r)
told_snoc i [] r p = refl
told_snoc i (x ∷ xs) r p = ap (told_part p) (last_after i 0 x xs r ∙ ap (λ (n : ℕ). record { stripe = i; place = n; call = r.call; reply = r.reply }) (omega arith))

-- Each history has at most `journal` records.
few_records : (loads : Bool) (may : ℤ → LoadAnswer → Type 0) (tables : List Stored) (journal : ℕ) (s : S) (g : IsGuarded loads may tables journal s) (i : ℕ) → i < length tables → length (g.history i) ≤ journal
few_records loads may tables journal s g i below =
    ⊎_elim
    (λ (h : IsHome loads may tables journal g.seats g.history g.receipts g.full s i). subst (λ (l : List Record). length l ≤ journal) h.at.records h.at.few)
    (λ (h : IsOut loads may tables journal g.seats g.history g.receipts g.full s i).
    let at = ((g.each_view h.seat h.view h.there).holds i h.before h.holds).at in
    subst (λ (l : List Record). length l ≤ journal) at.records at.few)
    (g.each_stripe i below)

-- So each seat has at most 262,144 receipts.
few_receipts : (loads : Bool) (may : ℤ → LoadAnswer → Type 0) (tables : List Stored) (journal : ℕ) (s : S) (g : IsGuarded loads may tables journal s) (c : ℕ) → IsCount (length tables) → IsJournal journal → length (g.receipts c) ≤ 262144
few_receipts loads may tables journal s g c count size =
    let few : count_records g.history (length tables) ≤ length tables * 4096 = count_few g.history (length tables) (λ i h. let one = few_records loads may tables journal s g i h in omega (arith, size.1)) in
    omega (arith, few, g.counted c, count.1)

module _ {L : Type 0} (loads : Bool) (may : ℤ → LoadAnswer → Type 0) (k : Terms L) (n id i : ℕ) where
  abbrev tables : List Stored
  tables = k.tables.value

  module _ (made : ℕ) (p : Part) where
    -- A lock is allowed, for every operation on the word that makes it nonzero.
    may_take : (f : ℕ → ℕ) (a b : ℕ) → ((found : ℕ) → 0 < f found) → n ≡ length tables → IsCount (length tables) → IsJournal k.journal → i < length tables → Allows (Guarded loads may k) n id (seat_view made p, []) i f (on_take (step n i a b none) (seat_view made p, []))
    may_take f a b positive slots count size below s g long at fits =
        let word : ℕ = f (get_or s.words i 0) in
        let above : 0 < word = positive (get_or s.words i 0) in
        let of = (g.each_view id (seat_view made p) at).parts 0 p refl in
        let few : length p.receipts ≤ 262144 = subst (λ (l : List Receipt). length l ≤ 262144) (sym of.receipts_are) (few_receipts loads may tables k.journal s g p.caller count size) in
        ⊎_elim
        (λ (h : IsHome loads may tables k.journal g.seats g.history g.receipts g.full s i). (
          holding made p i h.stripe,
          takes i h.stripe,
          h.there,
          takes_one loads may tables k.journal s g id i made p h at word above,
          (
            (λ _. (
              h.stripe,
              refl,
              record {
                stripes = h.at.stripes ∙ sym slots;
                place = h.at.place;
                idle = h.at.idle;
                few = omega (arith, h.at.few, h.at.journal_is);
                receipts = λ q e. subst (λ (x : Part). length x.receipts ≤ 262144) (some-injective p q (ap (λ (l : List Part). get_elem? l 0) e)) few;
              },
            )),
            (λ apart. absurd (apart h.free)),
          ),
        ))
        (λ (h : IsOut loads may tables k.journal g.seats g.history g.receipts g.full s i). (
          seat_view made p,
          keeps,
          tt,
          subst (λ (x : List View). IsGuarded loads may tables k.journal record { words = set s.words i word; homes = s.homes; views = x }) (sym (set_again s.views id (seat_view made p) at)) (stays_out loads may tables k.journal s g id i made p word above h),
          ((λ none_there. let one = h.held in absurd (omega (arith, one, none_there))), (λ _. refl)),
        ))
        (g.each_stripe i below)

    -- The same for a state that is equal to that of an idle seat.
    pub may_take_as : (f : ℕ → ℕ) (a b : ℕ) → ((found : ℕ) → 0 < f found) → (m : Sat) → m ≡ (seat_view made p, []) → n ≡ length tables → IsCount (length tables) → IsJournal k.journal → i < length tables → Allows (Guarded loads may k) n id m i f (on_take (step n i a b none) m)
    may_take_as f a b positive m is slots count size below = subst (λ (x : Sat). Allows (Guarded loads may k) n id x i f (on_take (step n i a b none) x)) (sym is) (may_take f a b positive slots count size below)

    module _ (y z : Kept) (later : IsLater loads may y z) where
      may_return : z.records ≡ y.records → Allows (Guarded loads may k) n id (holding made p i y, (i, z) ∷ []) i (λ _. 0) (on_return (step n i 0 0 none) (holding made p i y, (i, z) ∷ []))
      may_return same s g long at fits =
          let was = g.each_view id (holding made p i y) at in
          let here = (was.holds i y refl).at in
          let of = was.parts 0 p refl in
          let few : length z.records ≤ k.journal = subst (λ (l : List Record). length l ≤ k.journal) (sym same) here.few in (
            seat_view made p,
            gives,
            tt,
            gives_back loads may tables k.journal s g id i made p y at z p.receipts p.full later few
                (same_books (length tables) k.journal g.seats g.history g.receipts g.full record { accounts = g.accounts; counted = g.counted } i p.caller z.records p.receipts p.full (same ∙ here.records) of.receipts_are of.full_is),
            refl,
          )

      may_fill : z.records ≡ y.records → length z.records ≡ z.journal → Allows (Guarded loads may k) n id (holding made p i y, (i, z) ∷ []) i (λ _. 0) (on_fill (step n i 0 0 none) (holding made p i y, (i, z) ∷ []))
      may_fill same whole s g long at fits =
          let was = g.each_view id (holding made p i y) at in
          let here = (was.holds i y refl).at in
          let of = was.parts 0 p refl in
          let e = same ∙ here.records in
          let few : length z.records ≤ k.journal = subst (λ (l : List Record). length l ≤ k.journal) (sym same) here.few in
          let much : length (g.history i) ≡ k.journal = ap (λ (l : List Record). length l) (sym e) ∙ whole ∙ later.journal ∙ here.journal_is in (
            seat_view made (filled_part p i),
            gives,
            tt,
            gives_back loads may tables k.journal s g id i made p y at z p.receipts (set p.full i true) later few
                (subst (λ (x : (ℕ → List Record) × (ℕ → List Receipt) × List Bool). Books (length tables) k.journal g.seats x.0 x.1 (put g.full p.caller (set x.2 i true))) (λ t. (sym (put_is g.history i z.records e) t, sym (put_is g.receipts p.caller p.receipts of.receipts_are) t, sym of.full_is t))
                (more_full (length tables) k.journal g.seats g.history g.receipts g.full record { accounts = g.accounts; counted = g.counted } i p.caller much)),
            refl,
          )

      may_note : (r : Record) → z.records ≡ y.records ++ r ∷ [] → length z.records ≤ z.journal → r.caller ≡ p.caller → r.number ≡ length p.receipts → IsCount (length tables) → IsJournal k.journal
          → Allows (Guarded loads may k) n id (holding made p i y, (i, z) ∷ []) i (λ word. word) (on_note (step n i 0 0 none) (holding made p i y, (i, z) ∷ []))
      may_note r more room by number count small s g long at fits =
          let was = g.each_view id (holding made p i y) at in
          let holder = was.holds i y refl in
          let here = holder.at in
          let of = was.parts 0 p refl in
          let q : Part = told_part p (receipt_behind i y.records r) in
          let e : z.records ≡ g.history i ++ r ∷ [] = more ∙ ap (λ (l : List Record). l ++ r ∷ []) here.records in
          let size : z.journal ≡ k.journal = later.journal ∙ here.journal_is in
          let much : length (g.history i) < k.journal = omega (arith, ap (λ (l : List Record). length l) e, length-append (g.history i) (r ∷ []), size, room) in
          let word : ℕ = get_or s.words i 0 in
          let back : S = record { words = set s.words i 0; homes = set s.homes i (some z); views = set s.views id (seat_view made q) } in
          let given : IsGuarded loads may tables k.journal back = gives_back loads may tables k.journal s g id i made p y at z q.receipts q.full later (omega (arith, room, size))
          (subst (λ (x : List Record × List Receipt × (ℕ → List Bool)). Books (length tables) k.journal g.seats (put g.history i x.0) (put g.receipts p.caller x.1) x.2)
          (λ t. (sym e t, sym of.receipts_are t ++ receipt_behind i (sym here.records t) r ∷ [], sym (put_is g.full p.caller p.full of.full_is) t))
          (more_books (length tables) k.journal g.seats g.history g.receipts g.full record { accounts = g.accounts; counted = g.counted } i p.caller r here.inside much of.caller by (number ∙ ap (λ (l : List Receipt). length l) of.receipts_are))) in
          let there : get_elem? back.views id ≡ some (seat_view made q) = set_here s.views id (seat_view made q) (within s.views id (holding made p i y) at) in
          let again = taken_again loads may tables k.journal s id i made q z given holder.held there (omega (arith, here.inside, g.homes)) (omega (arith, here.inside, g.words)) here.inside in
          let few : length q.receipts ≤ 262144 = subst (λ (l : List Receipt). length l ≤ 262144) (sym ((given.each_view id (seat_view made q) there).parts 0 q refl).receipts_are) (few_receipts loads may tables k.journal back given q.caller count small) in (
            holding made q i z,
            chain gives (takes i z),
            (tt, set_here s.homes i (some z) (omega (arith, here.inside, g.homes))),
            again,
            (
              (λ t. (holding made (sym (ap (λ (l : List Record). told_last i l p) more ∙ told_snoc i y.records r p) t) i z, (i, z) ∷ [])),
              (λ x only. subst (λ (x : Part). length x.receipts ≤ 262144) (some-injective q x (ap (λ (l : List Part). get_elem? l 0) only)) few),
            ),
          )

  same_later : (y : Kept) → y.running ≡ None → IsLater loads may y y
  same_later y idle = record { stripes = refl; place = refl; journal = refl; idle = idle; kept = λ opening h. h; given = λ h. h }

  pub may_return_as : (m : Sat) → CanReturn i m → Allows (Guarded loads may k) n id m i (λ _. 0) (on_return (step n i 0 0 none) m)
  may_return_as m h = subst (λ (x : Sat). Allows (Guarded loads may k) n id x i (λ _. 0) (on_return (step n i 0 0 none) x)) (sym h.is) (may_return h.made h.part h.stripe h.stripe (same_later h.stripe h.idle) refl)

  pub may_fill_as : (m : Sat) → CanFill i m → Allows (Guarded loads may k) n id m i (λ _. 0) (on_fill (step n i 0 0 none) m)
  may_fill_as m f = let h = f.held in subst (λ (x : Sat). Allows (Guarded loads may k) n id x i (λ _. 0) (on_fill (step n i 0 0 none) x)) (sym h.is) (may_fill h.made h.part h.stripe h.stripe (same_later h.stripe h.idle) refl f.whole)

  pub may_note_as : (m : Sat) → CanTell loads may i m → IsCount (length tables) → IsJournal k.journal → Allows (Guarded loads may k) n id m i (λ word. word) (on_note (step n i 0 0 none) m)
  may_note_as m h count small = subst (λ (x : Sat). Allows (Guarded loads may k) n id x i (λ word. word) (on_note (step n i 0 0 none) x)) (sym h.is) (may_note h.made h.part h.before h.stripe h.later h.one h.more h.few h.caller h.number count small)

-- A property of one record, as a property of a list of one record.
pub one_of : (P : Record → Type 0) (r : Record) → P r → All P (r ∷ [])
one_of P r h zero d k = h
one_of P r h (suc n) d k = absurd (omega (arith, k))

-- A call that is neither an invocation nor a `get` ends without a run, and without an answer of the loader.
pub plain_ends : (loads : Bool) (may : ℤ → LoadAnswer → Type 0) (before : Entry) (call : Call) → IsPlain call → EndsSo loads may before call (None, None)
plain_ends loads may before (Invoke c k args) p = absurd p
plain_ends loads may before (Get k) p = absurd p
plain_ends loads may before (Put k v) p = (tt, tt)
plain_ends loads may before (Remove k) p = (tt, tt)
plain_ends loads may before (Contains k) p = (tt, tt)
