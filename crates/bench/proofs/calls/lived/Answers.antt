use Rattle.std.proofs.Common.{◌≡◌, ℕ, zero, suc, ◌<◌, List, [], ◌∷◌, length, slice_index_or, sym, subst, ap, refl, ◌∙◌, arith}
use Rattle.std.specs.List.{All}
use mathlib.Core.Option.{some, some-injective, some-ne-none}
use lib.ListN.{get_elem?}
use Rattle.atomic_table.specs.Seated.{TableId}
use Rattle.boxcar.specs.Table.{Shelves}
use Rattle.registry.specs.Ids.{IsOf}
use Rattle.cache.specs.Opened.{Opened, Sitting, fresh_seat, AreFresh, AreSeats}
use Rattle.bench.proofs.calls.lived.Goals as goal

within : {A : Type 0} (l : List A) (i : ℕ) (a : A) → get_elem? l i ≡ some a → i < length l
within [] i a e = absurd (some-ne-none a (sym e))
within (x ∷ xs) zero a e = omega arith
within (x ∷ xs) (suc i) a e = let h = within xs i a e in omega arith

there : {A : Type 0} (l : List A) (i : ℕ) → i < length l → (a : A) × (get_elem? l i ≡ some a)
there [] i h = absurd (omega arith)
there (x ∷ xs) zero h = (x, refl)
there (x ∷ xs) (suc i) h = there xs i (omega arith)

found : {A : Type 0} (xs : List A) (i : ℕ) (a d : A) → get_elem? xs i ≡ some a → slice_index_or xs i d ≡ a
found [] i a d e = absurd (some-ne-none a (sym e))
found (x ∷ xs) zero a d e = some-injective x a e
found (x ∷ xs) (suc i) a d e = found xs i a d e

-- The seats of a cache can make calls on it.
ready : (t : TableId) (n : ℕ) (seats : List Sitting) → AreFresh t n seats → All (λ (s : Sitting). s.table ≡ t) seats
ready t n seats fresh k d h =
    let x = there seats k h in
    ap (λ (s : Sitting). s.table) (found seats k x.0 d x.1 ∙ fresh.each k x.0 x.1)

-- The seats after the calls are the seats of the cache, in the same order.
served : {L : Type 0} (d : Opened L) (old new : List Sitting) → AreFresh d.table d.seats old → length new ≡ length old
    → ((i : ℕ) (s : Sitting) → i < length old → ((slice_index_or new i s).table ≡ (slice_index_or old i s).table) × ((slice_index_or new i s).caller ≡ (slice_index_or old i s).caller) × ((slice_index_or new i s).made ≡ (slice_index_or old i s).made))
    → AreSeats d new
served d old new fresh same kept = record {
  count = same ∙ fresh.count;
  each = λ c s e.
      let below : c < length old = let w = within new c s e in omega (arith, same) in
      let x = there old c below in
      let was : slice_index_or old c s ≡ fresh_seat d.table d.seats x.0.room c = found old c x.0 s x.1 ∙ fresh.each c x.0 x.1 in
      let is : s ≡ slice_index_or new c s = sym (found new c s s e) in
      let k = kept c s below in
      record {
        table_is = ap (λ (y : Sitting). y.table) is ∙ k.0 ∙ ap (λ (y : Sitting). y.table) was;
        caller_is = ap (λ (y : Sitting). y.caller) is ∙ k.1 ∙ ap (λ (y : Sitting). y.caller) was;
        made_is = ap (λ (y : Sitting). y.made) is ∙ k.2 ∙ ap (λ (y : Sitting). y.made) was;
      };
}

pub serve_all-requires-clause-ready : goal.serve_all-requires-clause-ready
serve_all-requires-clause-ready g c κs inside k d below = (
  ready c.in_ok-cache.cache.table c.in_ok-cache.cache.seats c.in_ok-cache.seats.items c.in_ok-cache.ensures.seats k d below,
  subst (λ (r : Shelves). IsOf r c.args.class.now) (sym c.in_ok-cache.ensures.registry) c.requires,
)

pub close-closed-requires : goal.close-closed-requires
close-closed-requires g c = served c.in_ok-cache.cache c.in_ok-cache.seats.items c.serve_all.new.crew.items c.in_ok-cache.ensures.seats c.serve_all.ensures.count c.serve_all.ensures.left
