-- The split and the join of seats preserve the invariant.
use Rattle.std.proofs.Common.{ℤ, Bool, ◌≡◌, ◌≢◌, ◌⊎◌, ℕ, ◌+◌, ◌<◌, ◌≤◌, List, [], ◌∷◌, ◌++◌, length, set, Some, None, sym, refl, ap, ◌∙◌, subst, inl, inr, ⊎_elim, arith}
use mathlib.Core.Option.{some, some-injective, some-ne-none}
use lib.ListN.{get_elem?}
use Rattle.atomic_table.specs.Table.{Splits, Joins}
use Rattle.atomic_table.proofs.Lists.{at_set, set_else, at_longer}
use Rattle.jtypes.specs.declared.loader.LoadAnswer.{LoadAnswer}
use Rattle.stripe.specs.Stored.{Stored}
use Rattle.stripe.specs.Kept.{Kept}
use Rattle.cache.specs.Views.{Part, View, part, none_full, taken, seat_view, cut_left, cut_right, joined, spent}
use Rattle.cache.specs.Guarded.{IsHome, IsOut, IsPart, Fits, Has, AreOne, HoldsStripe, IsGuarded, Guarded}
use Rattle.cache.specs.declared.known.Terms.{Terms}
use Rattle.cache.proofs.Puts.{by_place, append_cases, get_length}
use Rattle.cache.proofs.Keeps.{S, nothing_held, at_one, Placed, one_set, one_less}

-- A change of views preserves the state of each stripe, if it keeps all views that hold one.
stays_placed : (loads : Bool) (may : ℤ → LoadAnswer → Type 0) (tables : List Stored) (journal : ℕ) (s : S) (g : IsGuarded loads may tables journal s) (views : List View)
    → ((j : ℕ) (v : View) (i : ℕ) (y : Kept) → get_elem? s.views j ≡ some v → v.held ≡ Some (taken i y) → get_elem? views j ≡ some v)
    → (seats : ℕ) (i : ℕ) → i < length tables → Placed loads may tables journal seats g.history g.receipts g.full record { words = s.words; homes = s.homes; views = views } i
stays_placed loads may tables journal s g views keep seats i below = ⊎_elim
    (λ (h : IsHome loads may tables journal g.seats g.history g.receipts g.full s i). inl record { free = h.free; stripe = h.stripe; there = h.there; at = h.at })
    (λ (h : IsOut loads may tables journal g.seats g.history g.receipts g.full s i). inr record { held = h.held; away = h.away; seat = h.seat; view = h.view; before = h.before; there = keep h.seat h.view i h.before h.there h.holds; holds = h.holds })
    (g.each_stripe i below)

lt-suc : (a b : ℕ) → a < b → a < b + 1
lt-suc a b h = omega arith

-- An unchanged view still fits, also if there are more seats.
still_fits : (loads : Bool) (may : ℤ → LoadAnswer → Type 0) (tables : List Stored) (journal : ℕ) (s : S) (g : IsGuarded loads may tables journal s) (views : List View) (seats : ℕ) → g.seats ≤ seats → (j k : ℕ) (v : View) → (0 < v.made → (k ≡ 0) × (v.made ≡ seats))
    → Fits loads may tables journal g.seats g.history g.receipts g.full s j v → Fits loads may tables journal seats g.history g.receipts g.full record { words = s.words; homes = s.homes; views = views } k v
still_fits loads may tables journal s g views seats more j k v maker f = record {
  parts = λ n x e. let o = f.parts n x e in record { caller = omega (arith, o.caller, more); receipts_are = o.receipts_are; full_is = o.full_is };
  holds = λ i y e. let o = f.holds i y e in record { held = o.held; at = o.at; only = o.only };
  maker = maker;
}

-- `AreOne` is preserved if a view is appended that shares nothing with an earlier view.
one_behind : (has : View → Type 0) (views : List View) (b : View) → (has b → (j : ℕ) (u : View) → get_elem? views j ≡ some u → has u → ⊥) → AreOne views has → AreOne (views ++ b ∷ []) has
one_behind has views b only_b old j m u w eu ew hu hw = go (get_length views b u j eu) (get_length views b w m ew)
  where
    go : (get_elem? views j ≡ some u) ⊎ ((j ≡ length views) × (b ≡ u)) → (get_elem? views m ≡ some w) ⊎ ((m ≡ length views) × (b ≡ w)) → j ≡ m
    go (inl x) (inl y) = old j m u w x y hu hw
    go (inl x) (inr y) = absurd (only_b (subst has (sym y.1) hw) j u x hu)
    go (inr x) (inl y) = absurd (only_b (subst has (sym x.1) hu) m w y hw)
    go (inr x) (inr y) = x.0 ∙ sym y.0

module _ {L : Type 0} (loads : Bool) (may : ℤ → LoadAnswer → Type 0) (k : Terms L) (id : ℕ) where
  abbrev tables : List Stored
  tables = k.tables.value

  pub may_cut : (made : ℕ) (p : Part) → 0 < made → Splits (Guarded loads may k) id (seat_view made p) (cut_left (seat_view made p)) (cut_right (seat_view made p))
  may_cut made p some_made s g at =
      let v : View = seat_view made p in
      let a : View = seat_view (made + 1) p in
      let b : View = seat_view 0 (part made [] none_full) in
      let was = g.each_view id v at in
      let first = was.maker some_made in
      let all : made ≡ g.seats = first.1 in
      let one : List View = set s.views id a in
      let views : List View = one ++ b ∷ [] in
      let s' : S = record { words = s.words; homes = s.homes; views = views } in
      let seats' : ℕ = g.seats + 1 in
      let left_fits : Fits loads may tables k.journal seats' g.history g.receipts g.full s' id a
      = record {
        parts = λ n x e. let o = was.parts n x e in record { caller = lt-suc _ _ o.caller; receipts_are = o.receipts_are; full_is = o.full_is };
        holds = λ i y e. absurd (nothing_held i y e);
        maker = λ _. (first.0, ap (λ (n : ℕ). n + 1) all);
      } in
      let none_yet = g.no_receipts made (omega arith) in
      let right_fits : (j : ℕ) → Fits loads may tables k.journal seats' g.history g.receipts g.full s' j b
      = λ j. record {
        parts = λ n x e. subst (λ (q : Part). IsPart loads may tables k.journal seats' g.history g.receipts g.full s' q) (at_one (part made [] none_full) x n e) record { caller = omega arith; receipts_are = sym none_yet.0; full_is = sym none_yet.1 };
        holds = λ i y e. absurd (nothing_held i y e);
        maker = λ h. absurd (omega arith);
      } in
      let fresh : (j : ℕ) (u : View) → get_elem? one j ≡ some u → Has u made → ⊥
      = λ j u e h. ⊎_elim
      (λ (t : (j ≡ id) × (a ≡ u)).
      let o = was.parts 0 p refl in
      let h' : Has a made = subst (λ (q : View). Has q made) (sym t.1) h in
      let c : p.caller ≡ made = ap (λ (x : Part). x.caller) (at_one p h'.1 h'.0 h'.2) ∙ h'.3 in
      absurd (omega (arith, o.caller)))
      (λ (t : (j ≢ id) × (get_elem? s.views j ≡ some u)).
      let o = (g.each_view j u t.1).parts h.0 h.1 h.2 in
      let c : h.1.caller ≡ made = h.3 in
      absurd (omega (arith, o.caller)))
      (at_set s.views id j a u e) in
      let only : (c : ℕ) → Has b c → c ≡ made = λ c h. sym h.3 ∙ sym (ap (λ (x : Part). x.caller) (at_one (part made [] none_full) h.1 h.0 h.2)) in
      record {
        seats = seats';
        history = g.history;
        receipts = g.receipts;
        full = g.full;
        words = g.words;
        homes = g.homes;
        accounts = record {
          recorded = λ i q r e. let o = g.accounts.recorded i q r e in (lt-suc _ _ o.0, o.1);
          received = g.accounts.received;
          rising = g.accounts.rising;
          filled = g.accounts.filled;
        };
        counted = g.counted;
        no_history = g.no_history;
        no_receipts = λ c far. g.no_receipts c (omega arith);
        each_stripe = stays_placed loads may tables k.journal s g views (λ j u i y e h. at_longer one (b ∷ []) j u (set_else s.views id j a (λ same. nothing_held i y (ap (λ (x : View). x.held) (some-injective v u (sym at ∙ subst (λ (x : ℕ). get_elem? s.views x ≡ some u) same e)) ∙ h)) ∙ e)) seats';
        each_view = λ j u e. ⊎_elim
            (λ (h : get_elem? one j ≡ some u). ⊎_elim
            (λ (t : (j ≡ id) × (a ≡ u)). subst (λ (x : ℕ × View). Fits loads may tables k.journal seats' g.history g.receipts g.full s' x.0 x.1) (λ q. (sym t.0 q, t.1 q)) left_fits)
            (λ (t : (j ≢ id) × (get_elem? s.views j ≡ some u)). let f = g.each_view j u t.1 in still_fits loads may tables k.journal s g views seats' (omega arith) j j u (λ h'. absurd (t.0 ((f.maker h').0 ∙ sym first.0))) f)
            (at_set s.views id j a u h))
            (λ (h : (j ≡ length one) × (b ≡ u)). subst (λ (x : View). Fits loads may tables k.journal seats' g.history g.receipts g.full s' j x) h.1 (right_fits j))
            (get_length one b u j e);
        one_holder = λ i. one_behind (HoldsStripe i) one b (λ h _ _ _ _. nothing_held i h.0 h.1) (one_less (HoldsStripe i) s.views id v a at (λ h. absurd (nothing_held i h.0 h.1)) (g.one_holder i));
        one_place = λ c. one_behind (λ (x : View). Has x c) one b (λ h j u e hu. fresh j u e (subst (λ (x : ℕ). Has u x) (only c h) hu)) (one_less (λ (x : View). Has x c) s.views id v a at (λ h. h) (g.one_place c));
      }

  pub may_join : (v : View) (other : ℕ) (w : View) → v.held ≡ None → w.held ≡ None → Joins (Guarded loads may k) id v other w (joined v w) spent
  may_join v other w free free' s g at apart there =
      let a : View = joined v w in
      let one : List View = set s.views id a in
      let views : List View = set one other spent in
      let s' : S = record { words = s.words; homes = s.homes; views = views } in
      let at' : get_elem? s.views other ≡ some w = sym (set_else s.views id other a apart) ∙ there in
      let was = g.each_view id v at in
      let theirs = g.each_view other w at' in
      let a_fits : Fits loads may tables k.journal g.seats g.history g.receipts g.full s' id a
      = record {
        parts = λ n x e. ⊎_elim
            (λ (h : get_elem? v.parts n ≡ some x). let o = was.parts n x h in record { caller = o.caller; receipts_are = o.receipts_are; full_is = o.full_is })
            (λ (h : (m : ℕ) × (get_elem? w.parts m ≡ some x)). let o = theirs.parts h.0 x h.1 in record { caller = o.caller; receipts_are = o.receipts_are; full_is = o.full_is })
            (append_cases v.parts w.parts n x e);
        holds = λ i y e. absurd (nothing_held i y (sym free ∙ e));
        maker = was.maker;
      } in
      let spent_fits : Fits loads may tables k.journal g.seats g.history g.receipts g.full s' other spent
      = record { parts = λ n x e. absurd (some-ne-none x (sym e)); holds = λ i y e. absurd (nothing_held i y e); maker = λ h. absurd (omega arith) } in
      -- The index of a view before the join.
      let before : (c j : ℕ) (x : View) → get_elem? views j ≡ some x → Has x c → (i : ℕ) × (u : View) × (get_elem? s.views i ≡ some u) × Has u c × ((i ≡ id) ⊎ (i ≡ other) → j ≡ id) × ((i ≢ id) → (i ≢ other) → j ≡ i)
      = λ c j x e h. ⊎_elim
      (λ (t : (j ≡ other) × (spent ≡ x)). absurd (let h' : Has spent c = subst (λ (q : View). Has q c) (sym t.1) h in some-ne-none h'.1 (sym h'.2)))
      (λ (t : (j ≢ other) × (get_elem? one j ≡ some x)). ⊎_elim
      (λ (r : (j ≡ id) × (a ≡ x)). let h' : Has a c = subst (λ (q : View). Has q c) (sym r.1) h in ⊎_elim
      (λ (q : get_elem? v.parts h'.0 ≡ some h'.1). (id, v, at, (h'.0, h'.1, q, h'.3), (λ _. r.0), (λ n _. absurd (n refl))))
      (λ (q : (m : ℕ) × (get_elem? w.parts m ≡ some h'.1)). (other, w, at', (q.0, h'.1, q.1, h'.3), (λ _. r.0), (λ _ n. absurd (n refl))))
      (append_cases v.parts w.parts h'.0 h'.1 h'.2))
      (λ (r : (j ≢ id) × (get_elem? s.views j ≡ some x)). (j, x, r.1, h, (λ q. absurd (⊎_elim (λ (y : j ≡ id). r.0 y) (λ (y : j ≡ other). t.0 y) q)), (λ _ _. refl)))
      (at_set s.views id j a x t.1))
      (at_set one other j spent x e) in
      record {
        seats = g.seats;
        history = g.history;
        receipts = g.receipts;
        full = g.full;
        words = g.words;
        homes = g.homes;
        accounts = g.accounts;
        counted = g.counted;
        no_history = g.no_history;
        no_receipts = g.no_receipts;
        each_stripe = stays_placed loads may tables k.journal s g views
            (λ j u i y e h.
            let not_id : j ≢ id = λ same. nothing_held i y (sym free ∙ ap (λ (x : View). x.held) (some-injective v u (sym at ∙ subst (λ (x : ℕ). get_elem? s.views x ≡ some u) same e)) ∙ h) in
            let not_other : j ≢ other = λ same. nothing_held i y (sym free' ∙ ap (λ (x : View). x.held) (some-injective w u (sym at' ∙ subst (λ (x : ℕ). get_elem? s.views x ≡ some u) same e)) ∙ h) in
            set_else one other j spent not_other ∙ (set_else s.views id j a not_id ∙ e)) g.seats;
        each_view = λ j u e. ⊎_elim
            (λ (t : (j ≡ other) × (spent ≡ u)). subst (λ (x : ℕ × View). Fits loads may tables k.journal g.seats g.history g.receipts g.full s' x.0 x.1) (λ q. (sym t.0 q, t.1 q)) spent_fits)
            (λ (t : (j ≢ other) × (get_elem? one j ≡ some u)). ⊎_elim
            (λ (r : (j ≡ id) × (a ≡ u)). subst (λ (x : ℕ × View). Fits loads may tables k.journal g.seats g.history g.receipts g.full s' x.0 x.1) (λ q. (sym r.0 q, r.1 q)) a_fits)
            (λ (r : (j ≢ id) × (get_elem? s.views j ≡ some u)). let f = g.each_view j u r.1 in still_fits loads may tables k.journal s g views g.seats (omega arith) j j u f.maker f)
            (at_set s.views id j a u t.1))
            (at_set one other j spent u e);
        one_holder = λ i. one_set (HoldsStripe i) one other spent (λ h _ _ _ _ _. nothing_held i h.0 h.1) (one_set (HoldsStripe i) s.views id a (λ h _ _ _ _ _. nothing_held i h.0 (sym free ∙ h.1)) (g.one_holder i));
        one_place = λ c j m u x eu ex hu hx.
            let b = before c j u eu hu in
            let d = before c m x ex hx in
            let same : b.0 ≡ d.0 = g.one_place c b.0 d.0 b.1 d.1 b.2 d.2 b.3 d.3 in
            by_place id b.0
            (λ here. b.4 (inl here) ∙ sym (d.4 (inl (sym same ∙ here))))
            (λ far. by_place other b.0
            (λ here. b.4 (inr here) ∙ sym (d.4 (inr (sym same ∙ here))))
            (λ further. b.5 far further ∙ same ∙ sym (d.5 (λ h. far (same ∙ h)) (λ h. further (same ∙ h)))));
      }
