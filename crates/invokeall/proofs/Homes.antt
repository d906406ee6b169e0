-- The seats of a cache remain its seats.
use Rattle.std.proofs.Common.{◌≡◌, ℕ, zero, suc, ◌<◌, List, [], ◌∷◌, length, get_or, refl, sym, ap, ◌∙◌, arith}
use Rattle.std.specs.List.{All}
use mathlib.Core.Option.{some, some-ne-none}
use lib.ListN.{get_elem?}
use Rattle.stripe.specs.History.{Call}
use Rattle.cache.specs.Opened.{Opened, Sitting, AreFresh, AreSeats, made_of}
use Rattle.invokeall.specs.Rounds.{Answer, IsRound, IsAtHome}

at_or : {A : Type 0} (l : List A) (i : ℕ) (d : A) → i < length l → get_elem? l i ≡ some (get_or l i d)
at_or [] i d h = absurd (omega arith)
at_or (x ∷ xs) zero d h = refl
at_or (x ∷ xs) (suc i) d h = at_or xs i d (omega arith)

below_at : {A : Type 0} (l : List A) (i : ℕ) (x : A) → get_elem? l i ≡ some x → i < length l
below_at [] i x e = absurd (some-ne-none x (sym e))
below_at (y ∷ ys) zero x e = omega arith
below_at (y ∷ ys) (suc i) x e = let h = below_at ys i x e in omega arith

-- The fresh seats of a cache are all its seats.
pub fresh_seats : {L : Type 0} (d : Opened L) (n : ℕ) (seats : List Sitting) → d.seats ≡ n → AreFresh d.table n seats → AreSeats d seats
fresh_seats d n seats same f = record {
  count = f.count ∙ sym same;
  each = λ c s at.
      let e = f.each c s at in record {
        table_is = ap (λ (x : Sitting). x.table) e;
        caller_is = ap (λ (x : Sitting). x.caller) e;
        made_is = ap (λ (x : Sitting). x.made) e ∙ ap (λ m. made_of m c) (sym same);
      };
}

pub seats_home : {L : Type 0} (d : Opened L) (seats : List Sitting) → AreSeats d seats → All (IsAtHome d) seats
seats_home d seats a = λ i e below. (a.each i (get_or seats i e) (at_or seats i e below)).table_is

-- After a round they are still all its seats.
pub still_seats : {L : Type 0} (d : Opened L) (calls : List Call) (old new : List Sitting) (answers : List Answer) → AreSeats d old → IsRound d calls old new answers → AreSeats d new
still_seats d calls old new answers a r = record {
  count = r.seats ∙ a.count;
  each = λ c s at.
      let below = below_at new c s at in
      let same = r.seats in
      let before : Sitting = get_or old c s in
      let there = at_or old c s (omega arith) in
      let was = a.each c before there in
      let later = r.later c before s there at in record {
        table_is = later.table ∙ was.table_is;
        caller_is = later.caller ∙ was.caller_is;
        made_is = later.made ∙ was.made_is;
      };
}
