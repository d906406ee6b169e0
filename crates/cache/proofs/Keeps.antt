-- The lock operations on a stripe preserve the invariant.
use Rattle.std.proofs.Common.{ℤ, Bool, ◌≡◌, ◌≢◌, ◌⊎◌, ℕ, zero, suc, ◌<◌, ◌≤◌, List, [], ◌∷◌, length, get_or, set, Option, Some, None, sym, refl, ap, ◌∙◌, subst, inl, inr, ⊎_elim, arith, length-set, get_or-set_other, get_or-set_same}
use mathlib.Core.Option.{some, none, some-injective, some-ne-none}
use lib.ListN.{get_elem?}
use lib.Seq.{set-set}
use Rattle.atomic_table.specs.Table.{State}
use Rattle.atomic_table.proofs.Lists.{at_set, set_here, set_else}
use Rattle.jtypes.specs.declared.loader.LoadAnswer.{LoadAnswer}
use Rattle.stripe.specs.History.{Record}
use Rattle.stripe.specs.Stored.{Stored, entry_among}
use Rattle.stripe.specs.Kept.{Kept}
use Rattle.cache.specs.Receipts.{Receipt}
use Rattle.cache.specs.Views.{Part, Taken, View, part, taken, seat_view, holding}
use Rattle.cache.specs.Guarded.{IsLater, IsAt, IsHome, IsOut, IsPart, IsHolder, Fits, Has, AreOne, HoldsStripe, IsGuarded}
use Rattle.cache.proofs.Puts.{put, put_here, put_else, by_place, within}
use Rattle.cache.proofs.Books.{Books}

abbrev of_taken : Option Taken → ℕ
of_taken None = 0
of_taken (Some h) = h.stripe

pub same_stripe : (i j : ℕ) (y z : Kept) → Some (taken i y) ≡ Some (taken j z) → i ≡ j
same_stripe i j y z e = ap of_taken e

abbrev before_of : Kept → Option Taken → Kept
before_of y None = y
before_of y (Some h) = h.before

pub same_before : (i j : ℕ) (y z : Kept) → Some (taken i y) ≡ Some (taken j z) → y ≡ z
same_before i j y z e = ap (before_of y) e

pub nothing_held : (i : ℕ) (y : Kept) → None ≡ Some (taken i y) → ⊥
nothing_held i y e = cc

pub at_one : (p q : Part) (n : ℕ) → get_elem? (p ∷ []) n ≡ some q → p ≡ q
at_one p q zero e = some-injective p q e
at_one p q (suc n) e = absurd (some-ne-none q (sym e))

-- `AreOne` is preserved if the changed view shares nothing with another view.
pub one_set : (has : View → Type 0) (views : List View) (id : ℕ) (w : View) → (has w → (k : ℕ) (u : View) → k ≢ id → get_elem? views k ≡ some u → has u → ⊥) → AreOne views has → AreOne (set views id w) has
one_set has views id w mine old j k v u ej ek hv hu = go (at_set views id j w v ej) (at_set views id k w u ek)
  where
    go : ((j ≡ id) × (w ≡ v)) ⊎ ((j ≢ id) × (get_elem? views j ≡ some v)) → ((k ≡ id) × (w ≡ u)) ⊎ ((k ≢ id) × (get_elem? views k ≡ some u)) → j ≡ k
    go (inl a) (inl b) = a.0 ∙ sym b.0
    go (inl a) (inr b) = absurd (mine (subst has (sym a.1) hv) k u b.0 b.1 hu)
    go (inr a) (inl b) = absurd (mine (subst has (sym b.1) hu) j v a.0 a.1 hv)
    go (inr a) (inr b) = old j k v u a.1 b.1 hv hu

-- `AreOne` is preserved if the changed view has nothing new.
pub one_less : (has : View → Type 0) (views : List View) (id : ℕ) (v w : View) → get_elem? views id ≡ some v → (has w → has v) → AreOne views has → AreOne (set views id w) has
one_less has views id v w at back old = one_set has views id w (λ h k u apart e hu. apart (old k id u v e at hu (back h))) old

pub at_more : (loads : Bool) (may : ℤ → LoadAnswer → Type 0) (tables : List Stored) (journal : ℕ) (h h' : ℕ → List Record) (i : ℕ) (y : Kept) → h' i ≡ h i → IsAt loads may tables journal h i y → IsAt loads may tables journal h' i y
at_more loads may tables journal h h' i y same a = record { inside = a.inside; stripes = a.stripes; place = a.place; journal_is = a.journal_is; idle = a.idle; kept = a.kept; given = a.given; records = a.records ∙ sym same; few = a.few }

-- The word of a held stripe is nonzero after a change of another word, and after its own change to a nonzero one.
still_held : (words : List ℕ) (i j word : ℕ) → j ≢ i → 0 < get_or words j 0 → 0 < get_or (set words i word) j 0
still_held words i j word other h = subst (λ (n : ℕ). 0 < n) (sym (get_or-set_other words i j word 0 other)) h

now_held : (words : List ℕ) (i word : ℕ) → i < length words → 0 < word → 0 < get_or (set words i word) i 0
now_held words i word below above = subst (λ (n : ℕ). 0 < n) (sym (get_or-set_same words i word 0 below)) above

abbrev pub S : Type 0
S = State Kept View

abbrev pub Placed : Bool → (ℤ → LoadAnswer → Type 0) → List Stored → ℕ → ℕ → (ℕ → List Record) → (ℕ → List Receipt) → (ℕ → List Bool) → S → ℕ → Type 0
Placed loads may tables journal seats history receipts full s i = IsHome loads may tables journal seats history receipts full s i ⊎ IsOut loads may tables journal seats history receipts full s i

module _ (loads : Bool) (may : ℤ → LoadAnswer → Type 0) (tables : List Stored) (journal : ℕ) (s : S) (g : IsGuarded loads may tables journal s) (id i made : ℕ) (p : Part) where
  module _ (y : Kept) (at : get_elem? s.views id ≡ some (holding made p i y)) where
    -- The unlock of a held stripe.
    pub gives_back : (z : Kept) (l : List Receipt) (f : List Bool) → IsLater loads may y z → length z.records ≤ journal → Books (length tables) journal g.seats (put g.history i z.records) (put g.receipts p.caller l) (put g.full p.caller f)
        → IsGuarded loads may tables journal record { words = set s.words i 0; homes = set s.homes i (some z); views = set s.views id (seat_view made (part p.caller l f)) }
    gives_back z l f later few books =
        let was = g.each_view id (holding made p i y) at in
        let here = (was.holds i y refl).at in
        let below : i < length tables = here.inside in
        let of = was.parts 0 p refl in
        let q : Part = part p.caller l f in
        let w : View = seat_view made q in
        let h' : ℕ → List Record = put g.history i z.records in
        let r' : ℕ → List Receipt = put g.receipts p.caller l in
        let f' : ℕ → List Bool = put g.full p.caller f in
        let s' : S = record { words = set s.words i 0; homes = set s.homes i (some z); views = set s.views id w } in
        record {
          seats = g.seats;
          history = h';
          receipts = r';
          full = f';
          words = length-set s.words i 0 ∙ g.words;
          homes = length-set s.homes i (some z) ∙ g.homes;
          accounts = books.accounts;
          counted = books.counted;
          no_history = λ j far. put_else g.history i j z.records (λ e. omega arith) ∙ g.no_history j far;
          no_receipts = λ c far. (put_else g.receipts p.caller c l (λ e. omega (arith, of.caller)) ∙ (g.no_receipts c far).0, put_else g.full p.caller c f (λ e. omega (arith, of.caller)) ∙ (g.no_receipts c far).1);
          each_stripe = λ j l'. by_place i j
              (λ e. subst (λ (k : ℕ). Placed loads may tables journal g.seats h' r' f' s' k) (sym e)
              (inl record {
                free = get_or-set_same s.words i 0 0 (omega (arith, g.words));
                stripe = z;
                there = set_here s.homes i (some z) (omega (arith, g.homes));
                at = record {
                  inside = below;
                  stripes = later.stripes ∙ here.stripes;
                  place = later.place ∙ here.place;
                  journal_is = later.journal ∙ here.journal_is;
                  idle = later.idle;
                  kept = later.kept (entry_among tables) here.kept;
                  given = later.given here.given;
                  records = sym (put_here g.history i z.records);
                  few = few;
                };
              }))
              (λ n. ⊎_elim
              (λ (h : IsHome loads may tables journal g.seats g.history g.receipts g.full s j). inl record {
                free = get_or-set_other s.words i j 0 0 n ∙ h.free;
                stripe = h.stripe;
                there = set_else s.homes i j (some z) n ∙ h.there;
                at = at_more loads may tables journal g.history h' j h.stripe (put_else g.history i j z.records n) h.at;
              })
              (λ (h : IsOut loads may tables journal g.seats g.history g.receipts g.full s j).
              let apart : h.seat ≢ id = λ e. n (sym (same_stripe i j y h.before (ap (λ (x : View). x.held) (some-injective (holding made p i y) h.view (sym at ∙ subst (λ (k : ℕ). get_elem? s.views k ≡ some h.view) e h.there)) ∙ h.holds))) in
              inr record {
                held = still_held s.words i j 0 n h.held;
                away = set_else s.homes i j (some z) n ∙ h.away;
                seat = h.seat;
                view = h.view;
                before = h.before;
                there = set_else s.views id h.seat w apart ∙ h.there;
                holds = h.holds;
              })
              (g.each_stripe j l'));
          each_view = λ j v e. ⊎_elim
              (λ (a : (j ≡ id) × (w ≡ v)). subst (λ (x : ℕ × View). Fits loads may tables journal g.seats h' r' f' s' x.0 x.1) (λ k. (sym a.0 k, a.1 k)) (record {
                parts = λ n x e'. subst (λ (x : Part). IsPart loads may tables journal g.seats h' r' f' s' x) (at_one q x n e') record { caller = of.caller; receipts_are = sym (put_here g.receipts p.caller l); full_is = sym (put_here g.full p.caller f) };
                holds = λ k u none. absurd (nothing_held k u none);
                maker = was.maker;
              }))
              (λ (a : (j ≢ id) × (get_elem? s.views j ≡ some v)).
              let old = g.each_view j v a.1 in record {
                parts = λ n x e'.
                    let o = old.parts n x e' in
                    let apart : x.caller ≢ p.caller = λ same. a.0 (g.one_place p.caller j id v (holding made p i y) a.1 at (n, x, e', same) (0, p, refl, refl)) in
                    record { caller = o.caller; receipts_are = o.receipts_are ∙ sym (put_else g.receipts p.caller x.caller l apart); full_is = o.full_is ∙ sym (put_else g.full p.caller x.caller f apart) };
                holds = λ k u e'.
                    let o = old.holds k u e' in
                    let apart : k ≢ i = λ same. a.0 (g.one_holder i j id v (holding made p i y) a.1 at (u, e' ∙ ap (λ (q : ℕ). Some (taken q u)) same) (y, refl)) in
                    record { held = still_held s.words i k 0 apart o.held; at = at_more loads may tables journal g.history h' k u (put_else g.history i k z.records apart) o.at; only = o.only };
                maker = old.maker;
              })
              (at_set s.views id j w v e);
          one_holder = λ k. one_set (HoldsStripe k) s.views id w (λ h _ _ _ _ _. nothing_held k h.0 h.1) (g.one_holder k);
          one_place = λ c. one_less (λ (v : View). Has v c) s.views id (holding made p i y) w at (λ h. (0, p, refl, ap (λ (x : Part). x.caller) (at_one q h.1 h.0 h.2) ∙ h.3)) (g.one_place c);
        }

  -- The lock of an unlocked stripe.
  module _ (home : IsHome loads may tables journal g.seats g.history g.receipts g.full s i) (at : get_elem? s.views id ≡ some (seat_view made p)) where
    pub takes_one : (word : ℕ) → 0 < word → IsGuarded loads may tables journal record { words = set s.words i word; homes = set s.homes i none; views = set s.views id (holding made p i home.stripe) }
    takes_one word above =
        let y : Kept = home.stripe in
        let here = home.at in
        let was = g.each_view id (seat_view made p) at in
        let below : i < length tables = here.inside in
        let w : View = holding made p i y in
        let s' : S = record { words = set s.words i word; homes = set s.homes i none; views = set s.views id w } in
        let no_holder : (k : ℕ) (u : View) (a : Kept) → get_elem? s.views k ≡ some u → u.held ≡ Some (taken i a) → ⊥ = λ k u a e h. let one = ((g.each_view k u e).holds i a h).held in let free = home.free in absurd (omega (arith, one, free)) in
        record {
          seats = g.seats;
          history = g.history;
          receipts = g.receipts;
          full = g.full;
          words = length-set s.words i word ∙ g.words;
          homes = length-set s.homes i none ∙ g.homes;
          accounts = g.accounts;
          counted = g.counted;
          no_history = g.no_history;
          no_receipts = g.no_receipts;
          each_stripe = λ j l'. by_place i j
              (λ e. subst (λ (k : ℕ). Placed loads may tables journal g.seats g.history g.receipts g.full s' k) (sym e)
              (inr record {
                held = now_held s.words i word (omega (arith, g.words)) above;
                away = set_here s.homes i none (omega (arith, g.homes));
                seat = id;
                view = w;
                before = y;
                there = set_here s.views id w (within s.views id (seat_view made p) at);
                holds = refl;
              }))
              (λ n. ⊎_elim
              (λ (h : IsHome loads may tables journal g.seats g.history g.receipts g.full s j). inl record { free = get_or-set_other s.words i j word 0 n ∙ h.free; stripe = h.stripe; there = set_else s.homes i j none n ∙ h.there; at = h.at })
              (λ (h : IsOut loads may tables journal g.seats g.history g.receipts g.full s j).
              let apart : h.seat ≢ id = λ e. nothing_held j h.before (ap (λ (x : View). x.held) (some-injective (seat_view made p) h.view (sym at ∙ subst (λ (k : ℕ). get_elem? s.views k ≡ some h.view) e h.there)) ∙ h.holds) in
              inr record {
                held = still_held s.words i j word n h.held;
                away = set_else s.homes i j none n ∙ h.away;
                seat = h.seat;
                view = h.view;
                before = h.before;
                there = set_else s.views id h.seat w apart ∙ h.there;
                holds = h.holds;
              })
              (g.each_stripe j l'));
          each_view = λ j v e. ⊎_elim
              (λ (a : (j ≡ id) × (w ≡ v)). subst (λ (x : ℕ × View). Fits loads may tables journal g.seats g.history g.receipts g.full s' x.0 x.1) (λ k. (sym a.0 k, a.1 k)) (record {
                parts = λ n x e'. let o = was.parts n x e' in record { caller = o.caller; receipts_are = o.receipts_are; full_is = o.full_is };
                holds = λ k u e'. subst (λ (x : ℕ × Kept). IsHolder loads may tables journal g.seats g.history g.receipts g.full s' w x.0 x.1) (λ t. (same_stripe i k y u e' t, same_before i k y u e' t)) record { held = now_held s.words i word (omega (arith, g.words)) above; at = here; only = (p, refl) };
                maker = was.maker;
              }))
              (λ (a : (j ≢ id) × (get_elem? s.views j ≡ some v)).
              let old = g.each_view j v a.1 in record {
                parts = λ n x e'. let o = old.parts n x e' in record { caller = o.caller; receipts_are = o.receipts_are; full_is = o.full_is };
                holds = λ k u e'.
                    let o = old.holds k u e' in
                    let apart : k ≢ i = λ same. no_holder j v u a.1 (e' ∙ ap (λ (q : ℕ). Some (taken q u)) same) in
                    record { held = still_held s.words i k word apart o.held; at = o.at; only = o.only };
                maker = old.maker;
              })
              (at_set s.views id j w v e);
          one_holder = λ k. one_set (HoldsStripe k) s.views id w (λ h j u n e h'. no_holder j u h'.0 e (h'.1 ∙ ap (λ (q : ℕ). Some (taken q h'.0)) (sym (same_stripe i k y h.0 h.1)))) (g.one_holder k);
          one_place = λ c. one_less (λ (v : View). Has v c) s.views id (seat_view made p) w at (λ h. h) (g.one_place c);
        }

  -- A mark on the word of a stripe that another seat holds.
  pub stays_out : (word : ℕ) → 0 < word → IsOut loads may tables journal g.seats g.history g.receipts g.full s i → IsGuarded loads may tables journal record { words = set s.words i word; homes = s.homes; views = s.views }
  stays_out word above out =
      let s' : S = record { words = set s.words i word; homes = s.homes; views = s.views } in
      let held : (j : ℕ) → j < length tables → 0 < get_or s.words j 0 → 0 < get_or (set s.words i word) j 0 = λ j below h.
      by_place i j (λ e. subst (λ (k : ℕ). 0 < get_or (set s.words i word) k 0) (sym e) (now_held s.words i word (omega (arith, g.words, e, below)) above)) (λ other. still_held s.words i j word other h) in
      record {
        seats = g.seats;
        history = g.history;
        receipts = g.receipts;
        full = g.full;
        words = length-set s.words i word ∙ g.words;
        homes = g.homes;
        accounts = g.accounts;
        counted = g.counted;
        no_history = g.no_history;
        no_receipts = g.no_receipts;
        each_stripe = λ j below. by_place i j
            (λ e. subst (λ (k : ℕ). Placed loads may tables journal g.seats g.history g.receipts g.full s' k) (sym e)
            (inr record { held = now_held s.words i word (omega (arith, g.words, e, below)) above; away = out.away; seat = out.seat; view = out.view; before = out.before; there = out.there; holds = out.holds }))
            (λ other. ⊎_elim
            (λ (h : IsHome loads may tables journal g.seats g.history g.receipts g.full s j). inl record { free = get_or-set_other s.words i j word 0 other ∙ h.free; stripe = h.stripe; there = h.there; at = h.at })
            (λ (h : IsOut loads may tables journal g.seats g.history g.receipts g.full s j). inr record { held = still_held s.words i j word other h.held; away = h.away; seat = h.seat; view = h.view; before = h.before; there = h.there; holds = h.holds })
            (g.each_stripe j below));
        each_view = λ j v e. let old = g.each_view j v e in record {
          parts = λ n x e'. let o = old.parts n x e' in record { caller = o.caller; receipts_are = o.receipts_are; full_is = o.full_is };
          holds = λ k u e'. let o = old.holds k u e' in record { held = held k o.at.inside o.held; at = o.at; only = o.only };
          maker = old.maker;
        };
        one_holder = g.one_holder;
        one_place = g.one_place;
      }

-- An unlock and a lock of the same stripe in one step.
pub taken_again : (loads : Bool) (may : ℤ → LoadAnswer → Type 0) (tables : List Stored) (journal : ℕ) (s : S) (id i made : ℕ) (q : Part) (z : Kept)
    (g : IsGuarded loads may tables journal record { words = set s.words i 0; homes = set s.homes i (some z); views = set s.views id (seat_view made q) })
    → 0 < get_or s.words i 0 → get_elem? (set s.views id (seat_view made q)) id ≡ some (seat_view made q) → i < length s.homes → i < length s.words → i < length tables
    → IsGuarded loads may tables journal record { words = set s.words i (get_or s.words i 0); homes = set (set s.homes i (some z)) i none; views = set s.views id (holding made q i z) }
taken_again loads may tables journal s id i made q z g held there home word below =
    let back : S = record { words = set s.words i 0; homes = set s.homes i (some z); views = set s.views id (seat_view made q) } in
    let free : get_or back.words i 0 ≡ 0 = get_or-set_same s.words i 0 0 word in
    let at : IsHome loads may tables journal g.seats g.history g.receipts g.full back i = ⊎_elim
    (λ (h : IsHome loads may tables journal g.seats g.history g.receipts g.full back i). h)
    (λ (h : IsOut loads may tables journal g.seats g.history g.receipts g.full back i). let one = h.held in absurd (omega (arith, one, free)))
    (g.each_stripe i below) in
    let same : z ≡ at.stripe = some-injective z at.stripe (some-injective (some z) (some at.stripe) (sym (set_here s.homes i (some z) home) ∙ at.there)) in
    subst (λ (x : List ℕ × List View). IsGuarded loads may tables journal record { words = x.0; homes = set (set s.homes i (some z)) i none; views = x.1 })
    (λ t. (set-set s.words i 0 (get_or s.words i 0) t, (set-set s.views id (seat_view made q) (holding made q i at.stripe) ∙ ap (λ (y : Kept). set s.views id (holding made q i y)) (sym same)) t))
    (takes_one loads may tables journal back g id i made q at there (get_or s.words i 0) held)
