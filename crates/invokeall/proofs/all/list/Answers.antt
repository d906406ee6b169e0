use Rattle.std.proofs.Common.{◌≡◌, ◌+◌, ◌<◌, ◌++◌, ◌∷◌, [], ℕ, ℤ, zero, suc, List, true, false, if◌then◌else◌, length, drop, get_or, refl, sym, ap, ◌∙◌, arith, append_assoc, length-append, vec_capacity}
use Rattle.invokeall.specs.Rounds.{Answer}
use Rattle.invokeall.specs.Collected.{is_null, listed}
use Rattle.invokeall.proofs.all.list.Goals.{then-not-is_null, else-not-is_null}
use Rattle.invokeall.proofs.all.list.Goals as goal

-- The listed results from an index on, by those from the next index on.
listed_drop : (keys : List ℤ) (answers : List Answer) (i : ℕ) (k : ℤ) (a : Answer) → i < length keys → i < length answers
    → listed (drop i keys) (drop i answers) ≡ (if is_null (get_or answers i a) then listed (drop (suc i) keys) (drop (suc i) answers) else (get_or keys i k, get_or answers i a) ∷ listed (drop (suc i) keys) (drop (suc i) answers))
listed_drop [] answers i k a h g = absurd (omega arith)
listed_drop (x ∷ keys) [] i k a h g = absurd (omega arith)
listed_drop (x ∷ keys) (y ∷ answers) zero k a h g = refl
listed_drop (x ∷ keys) (y ∷ answers) (suc i) k a h g = listed_drop keys answers i k a (omega arith) (omega arith)

keeps : (keys : List ℤ) (answers : List Answer) (i : ℕ) (k : ℤ) (a : Answer) → i < length keys → i < length answers → is_null (get_or answers i a) ≡ false
    → (get_or keys i k, get_or answers i a) ∷ listed (drop (i + 1) keys) (drop (i + 1) answers) ≡ listed (drop i keys) (drop i answers)
keeps keys answers i k a h g e =
    let one : i + 1 ≡ suc i = omega arith in
    ap (λ n. (get_or keys i k, get_or answers i a) ∷ listed (drop n keys) (drop n answers)) one
    ∙ ap (λ b. if b then listed (drop (suc i) keys) (drop (suc i) answers) else (get_or keys i k, get_or answers i a) ∷ listed (drop (suc i) keys) (drop (suc i) answers)) (sym e)
    ∙ sym (listed_drop keys answers i k a h g)

skips : (keys : List ℤ) (answers : List Answer) (i : ℕ) (k : ℤ) (a : Answer) → i < length keys → i < length answers → is_null (get_or answers i a) ≡ true
    → listed (drop (i + 1) keys) (drop (i + 1) answers) ≡ listed (drop i keys) (drop i answers)
skips keys answers i k a h g e =
    let one : i + 1 ≡ suc i = omega arith in
    ap (λ n. listed (drop n keys) (drop n answers)) one
    ∙ ap (λ b. if b then listed (drop (suc i) keys) (drop (suc i) answers) else (get_or keys i k, get_or answers i a) ∷ listed (drop (suc i) keys) (drop (suc i) answers)) (sym e)
    ∙ sym (listed_drop keys answers i k a h g)

pub loop-i-preserved : goal.loop-i-preserved
loop-i-preserved c =
    let i = c.loop-i.invariant in
    let xs : List (ℤ × Answer) = c.loop-i.results.items in
    let n : ℕ = c.loop-i.i in
    let keys : List ℤ = c.args.keys.now in
    let answers : List Answer = c.args.answers.now in
    let rest : List (ℤ × Answer) = listed (drop (n + 1) keys) (drop (n + 1) answers) in
    let here : n < length keys = c.loop-i-test.true in
    let there : n < length answers = omega (arith, here, c.requires.count) in
    let room = i.room in
    let most = i.capacity in
    elim c.if-not-is_null.branch [
      | then-not-is_null w ↦
          let e : ℤ × Answer = w.entry.result in
          let items : c.if-not-is_null.results.items ≡ xs ++ e ∷ [] = ap (λ v. v.items) w.results-is ∙ w.push_reserved.ensures.items in
          let long : length c.if-not-is_null.results.items ≡ length xs + 1 = ap (λ (l : List (ℤ × Answer)). length l) items ∙ length-append xs (e ∷ []) in
          let same : vec_capacity c.if-not-is_null.results ≡ vec_capacity w.push_reserved.new.self = ap vec_capacity w.results-is in
          let grown = w.push_reserved.ensures.capacity in
          record {
            told = ap (λ (l : List (ℤ × Answer)). l ++ rest) items ∙ append_assoc xs (e ∷ []) rest ∙ ap (λ (p : ℤ × Answer). xs ++ p ∷ rest) w.entry.ensures
                ∙ ap (λ (l : List (ℤ × Answer)). xs ++ l) (keeps keys answers n _ _ here there (sym c.is_null.ensures ∙ w.if-not-is_null.true)) ∙ i.told;
            room = omega arith;
            capacity = omega arith;
          }
      | else-not-is_null w ↦
          let items : c.if-not-is_null.results.items ≡ xs = ap (λ v. v.items) w.results-is in
          let long : length c.if-not-is_null.results.items ≡ length xs = ap (λ (l : List (ℤ × Answer)). length l) items in
          let same : vec_capacity c.if-not-is_null.results ≡ vec_capacity c.loop-i.results = ap vec_capacity w.results-is in
          record {
            told = ap (λ (l : List (ℤ × Answer)). l ++ rest) items ∙ ap (λ (l : List (ℤ × Answer)). xs ++ l) (skips keys answers n (lib.IntN.pos 0) _ here there (sym c.is_null.ensures ∙ w.if-not-is_null.false)) ∙ i.told;
            room = omega arith;
            capacity = omega arith;
          }
    ]
