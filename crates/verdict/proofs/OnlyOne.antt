-- The only element that passes a test.
use Rattle.std.proofs.Common.{◌≡◌, ℕ, zero, suc, ◌+◌, ◌<◌, Bool, true, false, List, [], ◌∷◌, ◌++◌, length, take, drop, get_or, Option, Some, None, refl, sym, ap, ◌∙◌}
use Rattle.std.specs.Prelude.{filter, slice_get, cond, is_some}
use Rattle.std.proofs.lemmas.Bool.{false≢true}
use Rattle.std.proofs.lemmas.List.{append-nil, take-append-drop}
use Rattle.std.proofs.lemmas.List.Elements.{filter-append, filter_more}
use Rattle.std.proofs.lemmas.Option.{slice_get-get_or}
use Rattle.jtypes.specs.Lists.{only}
use Rattle.verdict.specs.Shaping.{IsOnlyAt}

-- The result of a search after the elements `front`: none passes, or only the one at index `n`.
abbrev pub FoundSoFar : {X : Type 0} → (X → Bool) → List X → List X → Option ℕ → Type 0
FoundSoFar test front xs None = filter test front ≡ []
FoundSoFar {X} test front xs (Some n) = (x : X) × (slice_get xs n ≡ Some x) × (filter test front ≡ x ∷ [])

first_two : {X : Type 0} (test : X → Bool) (front back : List X) (x y : X) → filter test front ≡ x ∷ y ∷ [] → only (filter test (front ++ back)) ≡ None
first_two test front back x y h =
    let whole : filter test (front ++ back) ≡ x ∷ y ∷ filter test back = filter-append test front back ∙ ap (λ zs. zs ++ filter test back) h in
    ap only whole

pub two_found : {X : Type 0} (test : X → Bool) (xs : List X) (i : ℕ) (x : X) (found : Option ℕ) → i < length xs → x ≡ get_or xs i x → test x ≡ true → is_some found ≡ true → FoundSoFar test (take i xs) xs found → only (filter test xs) ≡ None
two_found test xs i x None lt is h some so_far = absurd cc
two_found {X = X} test xs i x (Some n) lt is h some so_far =
    let more : filter test (take (i + 1) xs) ≡ filter test (take i xs) ++ cond (test x) (x ∷ []) [] = filter_more test xs i x lt ∙ ap (λ (z : X). filter test (take i xs) ++ cond (test z) (z ∷ []) []) (sym is) in
    let passes : filter test (take i xs) ++ cond (test x) (x ∷ []) [] ≡ so_far.0 ∷ x ∷ [] = rw (so_far.2, h) refl in
    let two = first_two test (take (i + 1) xs) (drop (i + 1) xs) so_far.0 x (more ∙ passes) in
    ap (λ (zs : List X). only (filter test zs)) (sym (take-append-drop (i + 1) xs)) ∙ two

pub one_found : {X : Type 0} (test : X → Bool) (xs : List X) (i : ℕ) (x : X) (found : Option ℕ) → i < length xs → x ≡ get_or xs i x → test x ≡ true → is_some found ≡ false → FoundSoFar test (take i xs) xs found → FoundSoFar test (take (i + 1) xs) xs (Some i)
one_found test xs i x (Some n) lt is h some so_far = absurd cc
one_found {X = X} test xs i x None lt is h some so_far =
    let more : filter test (take (i + 1) xs) ≡ filter test (take i xs) ++ cond (test x) (x ∷ []) [] = filter_more test xs i x lt ∙ ap (λ (z : X). filter test (take i xs) ++ cond (test z) (z ∷ []) []) (sym is) in
    let passes : filter test (take i xs) ++ cond (test x) (x ∷ []) [] ≡ x ∷ [] = rw (so_far, h) refl in
    (x, slice_get-get_or xs i x lt ∙ ap (λ (z : X). Some z) (sym is), more ∙ passes)

pub none_found : {X : Type 0} (test : X → Bool) (xs : List X) (i : ℕ) (x : X) (found : Option ℕ) → i < length xs → x ≡ get_or xs i x → test x ≡ false → FoundSoFar test (take i xs) xs found → FoundSoFar test (take (i + 1) xs) xs found
none_found {X = X} test xs i x found lt is h so_far = go found so_far
  where
    same : filter test (take (i + 1) xs) ≡ filter test (take i xs)
    same =
        let more : filter test (take (i + 1) xs) ≡ filter test (take i xs) ++ cond (test x) (x ∷ []) [] = filter_more test xs i x lt ∙ ap (λ (z : X). filter test (take i xs) ++ cond (test z) (z ∷ []) []) (sym is) in
        let passes : filter test (take i xs) ++ cond (test x) (x ∷ []) [] ≡ filter test (take i xs) = rw h (append-nil (filter test (take i xs))) in
        more ∙ passes

    go : (o : Option ℕ) → FoundSoFar test (take i xs) xs o → FoundSoFar test (take (i + 1) xs) xs o
    go None f = same ∙ f
    go (Some n) f = (f.0, f.1, same ∙ f.2)

-- ---- no other element passes

passes : {X : Type 0} (test : X → Bool) (xs : List X) (a : X) (rest : List X) → filter test xs ≡ a ∷ rest → test a ≡ true
passes test [] a rest h = absurd cc
passes {X = X} test (x ∷ xs) a rest h = go (test x) refl h (passes test xs a rest)
  where
    go : (b : Bool) → test x ≡ b → cond b (x ∷ filter test xs) (filter test xs) ≡ a ∷ rest → (filter test xs ≡ a ∷ rest → test a ≡ true) → test a ≡ true
    go true e f others = let same : x ≡ a = cc f in ap test (sym same) ∙ e
    go false e f others = others f

none_passes : {X : Type 0} (test : X → Bool) (xs : List X) (k : ℕ) (b : X) → filter test xs ≡ [] → slice_get xs k ≡ Some b → test b ≡ true → ⊥
none_passes test [] k b h at t = cc at
none_passes {X = X} test (x ∷ xs) k b h at t = go (test x) refl h k at (λ k f i. none_passes test xs k b f i t)
  where
    go : (c : Bool) → test x ≡ c → cond c (x ∷ filter test xs) (filter test xs) ≡ [] → (k : ℕ) → slice_get (x ∷ xs) k ≡ Some b → ((k : ℕ) → filter test xs ≡ [] → slice_get xs k ≡ Some b → ⊥) → ⊥
    go true e f k i others = cc f
    go false e f zero i others = let same : x ≡ b = cc i in false≢true (sym e ∙ ap test same ∙ t)
    go false e f (suc k) i others = others k f i

one_place : {X : Type 0} (test : X → Bool) (xs : List X) (n k : ℕ) (a b : X) → filter test xs ≡ a ∷ [] → slice_get xs n ≡ Some a → test a ≡ true → slice_get xs k ≡ Some b → test b ≡ true → k ≡ n
one_place test [] n k a b h i s j t = absurd cc
one_place {X = X} test (x ∷ xs) n k a b h i s j t = go (test x) refl h n k i j (λ n k f i j. one_place test xs n k a b f i s j t)
  where
    go : (c : Bool) → test x ≡ c → cond c (x ∷ filter test xs) (filter test xs) ≡ a ∷ [] → (n k : ℕ) → slice_get (x ∷ xs) n ≡ Some a → slice_get (x ∷ xs) k ≡ Some b
        → ((n k : ℕ) → filter test xs ≡ a ∷ [] → slice_get xs n ≡ Some a → slice_get xs k ≡ Some b → k ≡ n) → k ≡ n
    go c e f zero zero i j others = refl
    go true e f zero (suc k) i j others = let none : filter test xs ≡ [] = cc f in absurd (none_passes test xs k b none j t)
    go false e f zero (suc k) i j others = let same : x ≡ a = cc i in absurd (false≢true (sym e ∙ ap test same ∙ s))
    go true e f (suc n) k i j others = let none : filter test xs ≡ [] = cc f in absurd (none_passes test xs n a none i s)
    go false e f (suc n) zero i j others = let same : x ≡ b = cc j in absurd (false≢true (sym e ∙ ap test same ∙ t))
    go false e f (suc n) (suc k) i j others = ap suc (others n k f i j)

only_is_one : {X : Type 0} (xs : List X) (a : X) → only xs ≡ Some a → xs ≡ a ∷ []
only_is_one [] a h = absurd cc
only_is_one {X = X} (x ∷ []) a h = let same : x ≡ a = cc h in ap (λ (z : X). z ∷ []) same
only_is_one (x ∷ y ∷ xs) a h = absurd cc

pub only_passes : {X : Type 0} (test : X → Bool) (xs : List X) (n : ℕ) (one : IsOnlyAt test xs n) → test one.found ≡ true
only_passes test xs n one = passes test xs one.found [] (only_is_one (filter test xs) one.found one.only_is)

pub no_other_place : {X : Type 0} (test : X → Bool) (xs : List X) (n : ℕ) → IsOnlyAt test xs n → (k : ℕ) (b : X) → slice_get xs k ≡ Some b → test b ≡ true → k ≡ n
no_other_place test xs n one k b at t =
    one_place test xs n k one.found b (only_is_one (filter test xs) one.found one.only_is) one.is (only_passes test xs n one) at t

alone : {X : Type 0} (test : X → Bool) (xs : List X) (k : ℕ) (a b : X) → filter test xs ≡ a ∷ [] → slice_get xs k ≡ Some b → test b ≡ true → b ≡ a
alone test [] k a b h at t = absurd cc
alone {X = X} test (x ∷ xs) k a b h at t = go (test x) refl h k at (λ k f i. alone test xs k a b f i t)
  where
    go : (c : Bool) → test x ≡ c → cond c (x ∷ filter test xs) (filter test xs) ≡ a ∷ [] → (k : ℕ) → slice_get (x ∷ xs) k ≡ Some b → ((k : ℕ) → filter test xs ≡ a ∷ [] → slice_get xs k ≡ Some b → b ≡ a) → b ≡ a
    go true e f zero i others = let same : x ≡ b = cc i in let first : x ≡ a = cc f in sym same ∙ first
    go true e f (suc k) i others = let none : filter test xs ≡ [] = cc f in absurd (none_passes test xs k b none i t)
    go false e f zero i others = let same : x ≡ b = cc i in absurd (false≢true (sym e ∙ ap test same ∙ t))
    go false e f (suc k) i others = others k f i

-- If only one element passes, an element that passes is that one.
pub the_only : {X : Type 0} (test : X → Bool) (xs : List X) (a : X) → only (filter test xs) ≡ Some a → (k : ℕ) (b : X) → slice_get xs k ≡ Some b → test b ≡ true → b ≡ a
the_only test xs a h k b at t = alone test xs k a b (only_is_one (filter test xs) a h) at t
