-- A table of costs, filled in rounds: if ranks fall at calls and pcs increase within methods, enough rounds fill it.
use Rattle.std.proofs.Common.{◌≡◌, ℕ, zero, suc, ◌+◌, ◌-◌, ◌*◌, ◌<◌, ◌≤◌, max, Bool, true, List, [], ◌∷◌, length, Option, Some, None, refl, sym, ap, ◌∙◌, subst, arith, ◌⊎◌, inl, inr}
use Rattle.std.specs.Prelude.{slice_get, ℤ}
use Rattle.std.proofs.lemmas.Bool.{cases_lt}
use Rattle.std.proofs.lemmas.Option.{slice_get_within}
use Rattle.decode.specs.declared.instruction.Placed.{Placed}
use Rattle.decode.specs.Places.{cases_of, IsTarget, falls_through}
use Rattle.typecheck.specs.Typing.{Method, Class, instruction_at, call_of}
use Rattle.bounds.specs.Paths.{Cost, StandsAt, words_at, after_one, after_call}
use Rattle.bounds.specs.Table.{Costs, greater, place_of, cost_among, cost_through, cost_by, IsTable, LeadsOn, EachHasTable}
use Rattle.bounds.proofs.Greatest.{through, Leads, returns, goes, branches, follows, leads, top_of, below_top, some_is}

-- ---- equations by the costs of successors

abbrev nothing : Cost
nothing = record { steps = 0; words = 0; slots = 0; depth = 0 }

abbrev row_in : Class → Costs → Method → (j q : ℕ) → Option Placed → Cost
row_in c t m j q None = nothing
row_in c t m j q (Some p) = cost_by c t m j q p p.instruction

abbrev row_of : Class → Costs → (j q : ℕ) → Option Method → Cost
row_of c t j q None = nothing
row_of c t j q (Some m) = row_in c t m j q (instruction_at m q)

abbrev filled : Class → ℕ → Costs
filled c zero j q = nothing
filled c (suc n) j q = row_of c (filled c n) j q (slice_get c.methods j)

row_is : (c : Class) (t : Costs) (j q : ℕ) (m : Method) (p : Placed) → StandsAt c j q m p → row_of c t j q (slice_get c.methods j) ≡ cost_by c t m j q p p.instruction
row_is c t j q m p s = ap (row_of c t j q) s.method ∙ ap (row_in c t m j q) s.instruction

same_among : (t u : Costs) (j : ℕ) (zs : List ℤ) (a b : Cost) → ((n : ℕ) (z : ℤ) → slice_get zs n ≡ Some z → t j (place_of z) ≡ u j (place_of z)) → a ≡ b → cost_among t j zs a ≡ cost_among u j zs b
same_among t u j [] a b each e = e
same_among t u j (z ∷ zs) a b each e = ap (λ x. greater x (cost_among t j zs a)) (each 0 z refl) ∙ ap (greater (u j (place_of z))) (same_among t u j zs a b (λ n y f. each (suc n) y f) e)

-- the equation of an instruction gives the same cost if its successors have the same costs
same_row : (c : Class) (t u : Costs) (j q : ℕ) (m : Method) (p : Placed) → (falls_through p.instruction ≡ true → t j p.next ≡ u j p.next) → ((z : ℤ) → IsTarget p.instruction z → t j (place_of z) ≡ u j (place_of z)) → ((k : ℕ) → call_of c.view p.instruction ≡ Some k → t k 0 ≡ u k 0) → cost_by c t m j q p p.instruction ≡ cost_by c u m j q p p.instruction
same_row c t u j q m p next target call = go (leads c m j q p p.instruction)
  where
    by_call : falls_through p.instruction ≡ true → (o : Option ℕ) → call_of c.view p.instruction ≡ o → cost_through t m j q p o ≡ cost_through u m j q p o
    by_call e None f = ap (after_one (words_at m q p.instruction)) (next e)
    by_call e (Some k) f = ap (λ x. after_call m x (t j p.next)) (call k f) ∙ ap (after_call m (u k 0)) (next e)

    go : Leads c m j q p p.instruction → cost_by c t m j q p p.instruction ≡ cost_by c u m j q p p.instruction
    go (returns a b d f g) = g t ∙ sym (g u)
    go (goes z a b d f g) = g t ∙ ap (after_one 0) (same_among t u j (cases_of p.instruction) (t j (place_of z)) (u j (place_of z)) (λ n y f. target y (inr (n, f))) (target z (inl d))) ∙ sym (g u)
    go (branches z a b d n f w g) = g t ∙ ap (λ x. greater (after_one 0 x) (after_one 0 (t j (place_of z)))) (next b) ∙ ap (λ x. greater (after_one 0 (u j p.next)) (after_one 0 x)) (target z (inl d)) ∙ sym (g u)
    go (follows a b d) = through c t m j q p p.instruction b d ∙ by_call b (call_of c.view p.instruction) refl ∙ sym (through c u m j q p p.instruction b d)

-- ---- numbers

-- the maximum of the first `n` values
abbrev most : (ℕ → ℕ) → ℕ → ℕ
most f zero = 0
most f (suc n) = max (f n) (most f n)

most_is : (f : ℕ → ℕ) (n i : ℕ) → i < n → f i ≤ most f n
most_is f zero i l = absurd (omega (arith, l))
most_is f (suc n) i l = go (most_is f n i) (cases_lt i n)
  where
    go : (i < n → f i ≤ most f n) → (i < n) ⊎ (n ≤ i) → f i ≤ max (f n) (most f n)
    go later (inl h) = let k = later h in omega (arith, k)
    go later (inr h) = let same : i ≡ n = omega (arith, l, h) in let k : f i ≡ f n = ap f same in omega (arith, k)

abbrev tops : List Method → ℕ
tops [] = 0
tops (m ∷ methods) = max (top_of m.code) (tops methods)

tops_is : (methods : List Method) (j : ℕ) (m : Method) → slice_get methods j ≡ Some m → top_of m.code ≤ tops methods
tops_is [] j m e = cc
tops_is (x ∷ methods) zero m e = let same : x ≡ m = cc e in subst (λ (y : Method). top_of y.code ≤ max (top_of x.code) (tops methods)) same (omega arith)
tops_is (x ∷ methods) (suc j) m e = let k = tops_is methods j m e in omega (arith, k)

product_rises : (a b n : ℕ) → a < b → a * n + n ≤ b * n
product_rises a zero n l = absurd (omega (arith, l))
product_rises zero (suc b) n l = omega arith
product_rises (suc a) (suc b) n l = let k = product_rises a b n (omega (arith, l)) in omega (arith, k)

on_in_method : (a top q r n : ℕ) → a + (top - q) < suc n → q < r → r < top → a + (top - r) < n
on_in_method a top q r n l low high = omega (arith, l, low, high)

on_to_callee : (a b top q n : ℕ) → a + top ≤ b → q < top → b + (top - q) < suc n → a + (top - 0) < n
on_to_callee a b top q n l low high = omega (arith, l, low, high)

within_rounds : (a b top q : ℕ) → a ≤ b → a + (top - q) < suc (b + top)
within_rounds a b top q l = omega (arith, l)

-- ---- the rounds

module _ (c : Class) (set : ℕ → Bool) (on : LeadsOn c set) where
  abbrev top : ℕ
  top = tops c.methods

  abbrev weight : ℕ → ℕ
  weight j = on.ranks.0 j * top

  inside : (j q : ℕ) (m : Method) (p : Placed) → StandsAt c j q m p → q < top
  inside j q m p s = let low = below_top m.code q p s.instruction in let high = tops_is c.methods j m s.method in omega (arith, low, high)

  -- a round after enough rounds changes nothing
  stable : (n j q : ℕ) (m : Method) (p : Placed) → set j ≡ true → StandsAt c j q m p → weight j + (top - q) < n → filled c n j q ≡ filled c (suc n) j q
  stable zero j q m p member s low = absurd (omega (arith, low))
  stable (suc n) j q m p member s low =
      row_is c (filled c n) j q m p s
      ∙ same_row c (filled c n) (filled c (suc n)) j q m p
      (λ e.
      let to = on.next j q m p member s e in
      let x = some_is (instruction_at m p.next) to.1 in
      let there : StandsAt c j p.next m x.0 = record { method = s.method; instruction = x.1 } in
      stable n j p.next m x.0 member there (on_in_method (weight j) top q p.next n low to.0 (inside j p.next m x.0 there)))
      (λ z e.
      let to = on.target j q m p z member s e in
      let x = some_is (instruction_at m to.0) to.3 in
      let there : StandsAt c j to.0 m x.0 = record { method = s.method; instruction = x.1 } in
      let goes : filled c n j to.0 ≡ filled c (suc n) j to.0 = stable n j to.0 m x.0 member there (on_in_method (weight j) top q to.0 n low to.2 (inside j to.0 m x.0 there)) in
      subst (λ y. filled c n j (place_of y) ≡ filled c (suc n) j (place_of y)) (sym to.1) goes)
      (λ k e.
      let to = on.callee j q k m p member s e in
      let x = some_is (instruction_at to.1.0 0) to.1.2 in
      let lower : on.ranks.0 k < on.ranks.0 j = on.ranks.1 j k (m, q, p, s.method, s.instruction, e) in
      stable n k 0 to.1.0 x.0 to.0 (record { method = to.1.1; instruction = x.1 }) (on_to_callee (weight k) (weight j) top q n (product_rises (on.ranks.0 k) (on.ranks.0 j) top lower) (inside j q m p s) low))
      ∙ sym (row_is c (filled c (suc n)) j q m p s)

  abbrev rounds : ℕ
  rounds = suc (most weight (length c.methods) + top)

  table : IsTable c set (filled c rounds)
  table j q m p member s =
      let few = within_rounds (weight j) (most weight (length c.methods)) top q (most_is weight (length c.methods) j (slice_get_within c.methods j m s.method)) in
      stable rounds j q m p member s few ∙ row_is c (filled c rounds) j q m p s

pub each_has_table : EachHasTable
each_has_table c set on = (filled c (rounds c set on), table c set on)
