-- The works and the calls that a round of one request gathers.
use Rattle.std.proofs.Common.{◌≡◌, ◌≢◌, ℕ, ℤ, List, [], ◌∷◌, ◌++◌, length, refl, sym, ap, ◌∙◌, subst}
use Rattle.std.specs.List.{AllByRecursion}
use Rattle.serve.specs.Classes.{Classes}
use Rattle.stripe.specs.History.{Call}
use Rattle.stripe.specs.History as call
use Rattle.wire.specs.Requests.{Request, Put, Get, RoundEnd}
use Rattle.serve.specs.Rounds.{Work, Job, Part, Adds, Gathers, one}
use Rattle.serve.specs.Rounds as rounds

pub not_nil : {A : Type 0} (xs : List A) (x : A) → xs ++ x ∷ [] ≡ [] → ⊥
not_nil [] x e = cc
not_nil (y ∷ xs) x e = cc

-- lists that are equal have equal last elements, and are equal before them
pub same_front : {A : Type 0} (xs ys : List A) (x y : A) → xs ++ x ∷ [] ≡ ys ++ y ∷ [] → (xs ≡ ys) × (x ≡ y)
same_front [] [] x y e = let h : x ≡ y = cc in (refl, h)
same_front [] (b ∷ ys) x y e = let t : [] ≡ ys ++ y ∷ [] = cc in absurd (not_nil ys y (sym t))
same_front (a ∷ xs) [] x y e = let t : xs ++ x ∷ [] ≡ [] = cc in absurd (not_nil xs x t)
same_front (a ∷ xs) (b ∷ ys) x y e =
    let h : a ≡ b = cc in
    let t : xs ++ x ∷ [] ≡ ys ++ y ∷ [] = cc in
    let r = same_front xs ys x y t in
    (ap (λ z. z ∷ xs) h ∙ ap (λ l. b ∷ l) r.0, r.1)

-- ---- no request that a round gathers is a round end

is_open : {classes later : Classes} {at : ℕ} {r : Request} {p : Part} → Adds classes at r p later → r ≢ RoundEnd
is_open (rounds.defines bytes c r few d) = λ e. cc
is_open (rounds.refuses bytes r few d) = λ e. cc
is_open (rounds.lacks_memory bytes few) = λ e. cc
is_open (rounds.too_many bytes many) = λ e. cc
is_open (rounds.puts key value) = λ e. cc
is_open (rounds.gets key) = λ e. cc
is_open (rounds.removes key) = λ e. cc
is_open (rounds.looks key) = λ e. cc
is_open (rounds.invokes n key args) = λ e. cc
is_open (rounds.invokes_all n keys args) = λ e. cc
is_open rounds.tells_version = λ e. cc
is_open (rounds.forgets n c is) = λ e. cc
is_open (rounds.forgets_none n is) = λ e. cc

one_more : {A : Type 0} (P : A → Type 0) (xs : List A) (x : A) → AllByRecursion P xs → P x → AllByRecursion P (xs ++ x ∷ [])
one_more P [] x h p = (p, tt)
one_more P (y ∷ ys) x h p = (h.0, one_more P ys x h.1 p)

pub are_open : {first later : Classes} {requests : List Request} {works : List Work} {calls : List Call} → Gathers first requests works calls later → AllByRecursion (λ r. r ≢ RoundEnd) requests
are_open rounds.none = tt
are_open (rounds.more requests works calls now later r p g a) = one_more (λ q. q ≢ RoundEnd) requests r (are_open g) (is_open a)

-- ---- one request

nothing : {first later : Classes} {requests : List Request} {works : List Work} {calls : List Call} → Gathers first requests works calls later → requests ≡ [] → (works ≡ []) × (calls ≡ []) × (later ≡ first)
nothing rounds.none e = (refl, refl, refl)
nothing (rounds.more requests works calls now later r p g a) e = absurd (not_nil requests r e)

pub record Single (first : Classes) (q : Request) (works : List Work) (calls : List Call) (later : Classes) : Type 0 where
  pub part : Part
  pub adds : Adds first 0 q part later
  pub works_are : works ≡ part.work ∷ []
  pub calls_are : calls ≡ part.calls

pub single : {first later : Classes} {requests : List Request} {works : List Work} {calls : List Call} → Gathers first requests works calls later → (q : Request) → requests ≡ q ∷ [] → Single first q works calls later
single rounds.none q e = absurd (cc)
single {first = first} (rounds.more requests works calls now later r p g a) q e =
    let both = same_front requests [] r q e in
    let n = nothing g both.0 in record {
      part = p;
      adds = subst (λ (c : Classes). Adds c 0 q p later) n.2 (subst (λ (x : Request). Adds now 0 x p later) both.1 (subst (λ (k : ℕ). Adds now k r p later) (ap (λ (l : List Call). length l) n.1) a));
      works_are = ap (λ l. l ++ p.work ∷ []) n.0;
      calls_are = ap (λ l. l ++ p.calls) n.1;
    }

put_is : {classes later : Classes} {at : ℕ} {k v : ℤ} {p : Part} → Adds classes at (Put k v) p later → p ≡ one at (call.Put k v)
put_is (rounds.puts key value) = refl

get_is : {classes later : Classes} {at : ℕ} {k : ℤ} {p : Part} → Adds classes at (Get k) p later → p ≡ one at (call.Get k)
get_is (rounds.gets key) = refl

pub put_gathered : {first later : Classes} {k v : ℤ} {works : List Work} {calls : List Call} → Gathers first (Put k v ∷ []) works calls later → (works ≡ Job 0 ∷ []) × (calls ≡ call.Put k v ∷ [])
put_gathered {k = k} {v = v} g =
    let s = single g (Put k v) refl in
    let is = put_is s.adds in
    (s.works_are ∙ ap (λ (p : Part). p.work ∷ []) is, s.calls_are ∙ ap (λ (p : Part). p.calls) is)

pub get_gathered : {first later : Classes} {k : ℤ} {works : List Work} {calls : List Call} → Gathers first (Get k ∷ []) works calls later → (works ≡ Job 0 ∷ []) × (calls ≡ call.Get k ∷ [])
get_gathered {k = k} g =
    let s = single g (Get k) refl in
    let is = get_is s.adds in
    (s.works_are ∙ ap (λ (p : Part). p.work ∷ []) is, s.calls_are ∙ ap (λ (p : Part). p.calls) is)
