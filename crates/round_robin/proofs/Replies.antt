-- Lists of replies, and other lists.
use Rattle.std.proofs.Common.{arith, ◌≡◌, ℕ, zero, suc, ◌-◌, ◌<◌, ◌≤◌, Bool, true, false, cond, ◌⊎◌, inl, inr, List, [], ◌∷◌, ◌++◌, length, map, filter, replicate, Option, Some, None, slice_get, slice_set, get_or, IsPermutation, refl, sym, ap, subst, ◌∙◌}
use Rattle.std.proofs.lemmas.List.Sorted.{IsPermutation-refl, IsPermutation-cons, IsPermutation-trans, IsPermutation-sym, IsPermutation-middle, IsPermutation-to_front}
use Rattle.std.proofs.lemmas.List.{map-append}
use Rattle.std.proofs.lemmas.Option.{slice_get_read}
use Rattle.stripe.specs.declared.call.Reply.{Reply}
use Rattle.stripe.specs.History.{Call, Record}
use Rattle.round_outcome.specs.Outcome.{answered, calls_in}

none_less : (n : ℕ) → n < 0 → ⊥
none_less n h = omega arith

same_suc : (n m : ℕ) → suc n ≡ suc m → n ≡ m
same_suc n m e = omega arith

-- ---- elements

pub get_set : {X : Type 0} → (xs : List X) (n : ℕ) (x : X) → n < length xs → slice_get (slice_set xs n x) n ≡ Some x
get_set [] n x h = absurd (none_less n h)
get_set (y ∷ xs) zero x h = refl
get_set (y ∷ xs) (suc n) x h = get_set xs n x (omega arith)

pub get_other : {X : Type 0} → (xs : List X) (n p : ℕ) (x : X) → ¬ (p ≡ n) → slice_get (slice_set xs n x) p ≡ slice_get xs p
get_other [] n p x h = refl
get_other (y ∷ xs) zero zero x h = absurd (h refl)
get_other (y ∷ xs) zero (suc p) x h = refl
get_other (y ∷ xs) (suc n) zero x h = refl
get_other (y ∷ xs) (suc n) (suc p) x h = get_other xs n p x (λ e. h (ap suc e))

-- The element at an index after a write: the written one, or the earlier one.
pub get_cases : {X : Type 0} → (xs : List X) (n p : ℕ) (x y : X) → n < length xs → slice_get (slice_set xs n x) p ≡ Some y → ((p ≡ n) × (y ≡ x)) ⊎ ((¬ (p ≡ n)) × (slice_get xs p ≡ Some y))
get_cases [] n p x y h e = absurd (none_less n h)
get_cases (z ∷ xs) zero zero x y h e = inl (refl, cc)
get_cases (z ∷ xs) zero (suc p) x y h e = inr (λ q. absurd (omega (arith, q)), e)
get_cases (z ∷ xs) (suc n) zero x y h e = inr (λ q. absurd (omega (arith, q)), e)
get_cases (z ∷ xs) (suc n) (suc p) x y h e =
    elim (get_cases xs n p x y (omega arith) e) [ inl a ↦ inl (ap suc a.0, a.1) | inr b ↦ inr (λ q. b.0 (same_suc p n q), b.1) ]

pub get_in : {X : Type 0} (xs : List X) (i : ℕ) → i < length xs → (x : X) × (slice_get xs i ≡ Some x)
get_in [] i h = absurd (none_less i h)
get_in (x ∷ xs) zero h = (x, refl)
get_in (x ∷ xs) (suc i) h = get_in xs i (omega arith)

pub get_replicate : {X : Type 0} (n i : ℕ) (x y : X) → slice_get (replicate n x) i ≡ Some y → y ≡ x
get_replicate zero i x y e = absurd (cc)
get_replicate (suc n) zero x y e = cc
get_replicate (suc n) (suc i) x y e = get_replicate n i x y e

pub replicate_get : {X : Type 0} (n i : ℕ) (x : X) → i < n → slice_get (replicate n x) i ≡ Some x
replicate_get zero i x h = absurd (none_less i h)
replicate_get (suc n) zero x h = refl
replicate_get (suc n) (suc i) x h = replicate_get n i x (omega arith)

pub map_get : {X Y : Type 0} (f : X → Y) (xs : List X) (i : ℕ) (x : X) → slice_get xs i ≡ Some x → slice_get (map f xs) i ≡ Some (f x)
map_get f [] i x e = absurd (cc)
map_get f (z ∷ xs) zero x e = let same : z ≡ x = cc in ap (λ v. Some (f v)) same
map_get f (z ∷ xs) (suc i) x e = map_get f xs i x e

-- The element that was read at an index.
pub number_at : {X : Type 0} (xs : List X) (n len i : ℕ) (x : X) → n ≡ length xs → length xs ≡ len → i < len → x ≡ get_or xs i x → slice_get xs i ≡ Some x
number_at xs n len i x many same lt is = slice_get_read xs n i x many (omega (arith, lt, same, many)) is

-- The last element of a list with an appended element.
pub last_of : {X Y : Type 0} (f : X → Y) (xs : List X) (ys : List Y) (x : X) (y : Y) → map f xs ≡ ys ++ y ∷ [] → slice_get xs (length xs - 1) ≡ Some x → f x ≡ y
last_of f [] ys x y e at = absurd (cc)
last_of f (z ∷ []) [] x y e at = let same : z ≡ x = cc in let is : f z ∷ [] ≡ y ∷ [] = e in ap f (sym same) ∙ cc is
last_of f (z ∷ w ∷ xs) [] x y e at = absurd (cc)
last_of f (z ∷ []) (v ∷ ys) x y e at = absurd (more ys (cc e))
  where
    more : (ys : List _) → [] ≡ ys ++ y ∷ [] → ⊥
    more [] q = absurd (cc)
    more (u ∷ ys) q = absurd (cc)
last_of f (z ∷ w ∷ xs) (v ∷ ys) x y e at =
    let place : length (z ∷ w ∷ xs) - 1 ≡ suc (length (w ∷ xs) - 1) = omega arith in
    last_of f (w ∷ xs) ys x y (cc e) (subst (λ n. slice_get (z ∷ w ∷ xs) n ≡ Some x) place at)

pub few_filtered : {X : Type 0} (p : X → Bool) (xs : List X) → length (filter p xs) ≤ length xs
few_filtered p [] = omega arith
few_filtered p (x ∷ xs) = by (p x) (few_filtered p xs)
  where
    by : (b : Bool) → length (filter p xs) ≤ length xs → length (cond b (x ∷ filter p xs) (filter p xs)) ≤ suc (length xs)
    by true h = omega (arith, h)
    by false h = omega (arith, h)

-- ---- replies

no_reply : {P : Type 0} {r : Reply} → Some (Some r) ≡ Some None → P
no_reply e = absurd (cc)

pub none_answered : (calls : List Call) (n : ℕ) → answered calls (replicate n None) ≡ []
none_answered [] n = refl
none_answered (c ∷ calls) zero = refl
none_answered (c ∷ calls) (suc n) = none_answered calls n

-- A further reply adds one answered call.
pub answered_set : (calls : List Call) (replies : List (Option Reply)) (k : ℕ) (call : Call) (reply : Reply) → slice_get calls k ≡ Some call → slice_get replies k ≡ Some None
    → IsPermutation ((call, reply) ∷ answered calls replies) (answered calls (slice_set replies k (Some reply)))
answered_set [] replies k call reply e none = absurd (cc)
answered_set (c ∷ calls) [] k call reply e none = absurd (cc)
answered_set (c ∷ calls) (None ∷ replies) zero call reply e none =
    let same : c ≡ call = cc in
    subst (λ x. IsPermutation ((x, reply) ∷ answered calls replies) ((c, reply) ∷ answered calls replies)) same (IsPermutation-refl ((c, reply) ∷ answered calls replies))
answered_set (c ∷ calls) (Some x ∷ replies) zero call reply e none = no_reply none
answered_set (c ∷ calls) (None ∷ replies) (suc k) call reply e none = answered_set calls replies k call reply e none
answered_set (c ∷ calls) (Some x ∷ replies) (suc k) call reply e none =
    IsPermutation-trans ((call, reply) ∷ (c, x) ∷ answered calls replies) ((c, x) ∷ (call, reply) ∷ answered calls replies) ((c, x) ∷ answered calls (slice_set replies k (Some reply)))
    (IsPermutation-middle ((call, reply) ∷ []) (c, x) (answered calls replies))
    (IsPermutation-cons (c, x) ((call, reply) ∷ answered calls replies) (answered calls (slice_set replies k (Some reply))) (answered_set calls replies k call reply e none))

-- The answered calls are still those of the records after a further record, whose call now has its reply.
pub answered_more : (calls : List Call) (replies : List (Option Reply)) (finished : List Record) (k : ℕ) (r : Record) → slice_get calls k ≡ Some r.call → slice_get replies k ≡ Some None
    → IsPermutation (answered calls replies) (calls_in finished) → IsPermutation (answered calls (slice_set replies k (Some r.reply))) (calls_in (finished ++ r ∷ []))
answered_more calls replies finished k r e none p =
    let new = answered calls (slice_set replies k (Some r.reply)) in
    let one : Call × Reply = (r.call, r.reply) in
    let a : IsPermutation new (one ∷ answered calls replies) = IsPermutation-sym (one ∷ answered calls replies) new (answered_set calls replies k r.call r.reply e none) in
    let b : IsPermutation (one ∷ answered calls replies) (one ∷ calls_in finished) = IsPermutation-cons one (answered calls replies) (calls_in finished) p in
    let d : IsPermutation (one ∷ calls_in finished) (calls_in finished ++ one ∷ []) = IsPermutation-sym (calls_in finished ++ one ∷ []) (one ∷ calls_in finished) (IsPermutation-to_front (calls_in finished) one) in
    subst (λ l. IsPermutation new l) (sym (map-append (λ (x : Record). (x.call, x.reply)) finished (r ∷ [])))
    (IsPermutation-trans new (one ∷ calls_in finished) (calls_in finished ++ one ∷ []) (IsPermutation-trans new (one ∷ answered calls replies) (one ∷ calls_in finished) a b) d)

few_answered : (calls : List Call) (replies : List (Option Reply)) → length (answered calls replies) ≤ length replies
few_answered [] replies = omega arith
few_answered (c ∷ calls) [] = omega arith
few_answered (c ∷ calls) (Some x ∷ replies) = omega (arith, few_answered calls replies)
few_answered (c ∷ calls) (None ∷ replies) = omega (arith, few_answered calls replies)

-- If a call has no reply, fewer calls are answered than there are.
pub fewer_answered : (calls : List Call) (replies : List (Option Reply)) (k : ℕ) → slice_get replies k ≡ Some None → length (answered calls replies) < length replies
fewer_answered calls [] k e = absurd (cc)
fewer_answered [] (x ∷ replies) k e = omega arith
fewer_answered (c ∷ calls) (None ∷ replies) zero e = omega (arith, few_answered calls replies)
fewer_answered (c ∷ calls) (Some x ∷ replies) zero e = no_reply e
fewer_answered (c ∷ calls) (None ∷ replies) (suc k) e = omega (arith, fewer_answered calls replies k e)
fewer_answered (c ∷ calls) (Some x ∷ replies) (suc k) e = omega (arith, fewer_answered calls replies k e)
