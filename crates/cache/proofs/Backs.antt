-- The collector gets the stripes one after the other.
use Rattle.std.proofs.Common.{◌≡◌, ℕ, zero, suc, ◌+◌, List, [], ◌∷◌, ◌++◌, length, take, sym, refl, ap, ◌∙◌, subst}
use Rattle.std.proofs.lemmas.List.{length-map, map-append}
use mathlib.Core.Option.{some, some-ne-none}
use lib.ListN.{get_elem?}
use Rattle.stripe.specs.Kept.{Kept}
use Rattle.stripe.specs.Tables.{Back, added, IsNext}
use Rattle.cache.specs.Ends.{back_of, IsReady}
use Rattle.cache.proofs.Puts.{take_at}

pub next_of : (n : ℕ) (ys : List Kept) (y : Kept) (b : Back) → IsReady n (length ys) y → b ≡ back_of n ys → IsNext b y
next_of n ys y b r is = record {
  stripes = r.stripes ∙ sym (ap (λ (x : Back). x.stripes) is);
  place = r.place ∙ sym (length-map ys (λ (z : Kept). z.stored)) ∙ sym (ap (λ (x : Back). length x.tables) is);
}

pub more_of : (n : ℕ) (ys : List Kept) (y : Kept) (b : Back) → b ≡ back_of n ys → added b y ≡ back_of n (ys ++ y ∷ [])
more_of n ys y b is =
    ap (λ (x : Back). added x y) is
    ∙ (λ k. record { stripes = n; tables = sym (map-append (λ (z : Kept). z.stored) ys (y ∷ [])) k; histories = sym (map-append (λ (z : Kept). z.records) ys (y ∷ [])) k })

taken_long : (ys : List Kept) (i : ℕ) (y : Kept) → get_elem? ys i ≡ some y → length (take i ys) ≡ i
taken_long [] i y e = absurd (some-ne-none y (sym e))
taken_long (x ∷ xs) zero y e = refl
taken_long (x ∷ xs) (suc i) y e = ap suc (taken_long xs i y e)

pub next_back : (n : ℕ) (ys : List Kept) (i : ℕ) (y : Kept) (b : Back) → get_elem? ys i ≡ some y → IsReady n i y → b ≡ back_of n (take i ys) → IsNext b y
next_back n ys i y b at r is = next_of n (take i ys) y b (subst (λ (j : ℕ). IsReady n j y) (sym (taken_long ys i y at)) r) is

pub more_back : (n : ℕ) (ys : List Kept) (i : ℕ) (y : Kept) (b : Back) → get_elem? ys i ≡ some y → b ≡ back_of n (take i ys) → added b y ≡ back_of n (take (i + 1) ys)
more_back n ys i y b at is = more_of n (take i ys) y b is ∙ ap (back_of n) (sym (take_at ys i y at))
