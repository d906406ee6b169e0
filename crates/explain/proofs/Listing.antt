-- Lists of the costs of methods, and calls that were looked up.
use Rattle.std.proofs.Common.{◌≡◌, ℕ, zero, suc, ◌+◌, ◌<◌, ◌≤◌, Bool, true, false, not, List, [], ◌∷◌, ◌++◌, length, get_or, Option, Some, None, sym, ap, ◌∙◌, subst, arith, ◌⊎◌, inl, inr}
use Rattle.std.specs.Prelude.{IfSome, ◌==◌}
use Rattle.std.proofs.lemmas.Bool.{cases_lt, eqb-true}
use Rattle.std.proofs.lemmas.List.{get_or_default, get_or_append_left, length-append}
use Rattle.std.proofs.Math.Seq.{get_or-append_seam}
use Rattle.frames.specs.declared.members.Callee.{Callee}
use Rattle.typecheck.specs.Typing.{Class, own_of, own_number}
use Rattle.typecheck.specs.Calls.{AreRising, callee_in}
use Rattle.typecheck.specs.declared.typed.Typed.{Typed}
use Rattle.bounds.specs.Cells.{Cell, capped, known_at}
use Rattle.bounds.specs.Rows.{AreRowsOf}
use Rattle.bounds.specs.Table.{LeadsOn}
use Rattle.bounds.specs.Told.{AreCostsOf}
use Rattle.explain.specs.declared.circle.OwnCall.{OwnCall}
use Rattle.explain.specs.declared.costs.MethodCost.{MethodCost}
use Rattle.explain.specs.Circles.{IsCallAmong, IsRowAmong, next_of}
use Rattle.explain.specs.Listed.{AreListed, AreCostsListed}

-- ---- costs

-- One more method is listed.
pub listed_more : (rows : List Typed) (known : List (Option Cell)) (n : ℕ) (costs : List MethodCost) (row : Typed) (m : MethodCost) → row ≡ get_or rows n row → n < length rows → m.number ≡ row.number → known_at known row.number ≡ Some m.cost → AreListed rows known n costs → AreListed rows known (n + 1) (costs ++ m ∷ [])
listed_more rows known n costs row m is l number found so_far = record { count = count; each = each }
  where
    count : length (costs ++ m ∷ []) ≡ n + 1
    count = let before = so_far.count in let whole = length-append costs (m ∷ []) in omega (arith, before, whole)

    each : (i : ℕ) (d : MethodCost) (t : Typed) → i < n + 1 → ((get_or (costs ++ m ∷ []) i d).number ≡ (get_or rows i t).number) × (known_at known (get_or rows i t).number ≡ Some (get_or (costs ++ m ∷ []) i d).cost)
    each i d t lt = go (cases_lt i n)
      where
        go : (i < n) ⊎ (n ≤ i) → ((get_or (costs ++ m ∷ []) i d).number ≡ (get_or rows i t).number) × (known_at known (get_or rows i t).number ≡ Some (get_or (costs ++ m ∷ []) i d).cost)
        go (inl less) =
            let before = so_far.count in
            let within : i < length costs = omega (arith, before, less) in
            subst (λ (x : MethodCost). (x.number ≡ (get_or rows i t).number) × (known_at known (get_or rows i t).number ≡ Some x.cost)) (sym (get_or_append_left costs (m ∷ []) d i within)) (so_far.each i d t less)
        go (inr more) =
            let before = so_far.count in
            let at : i ≡ n = omega (arith, lt, more) in
            let last : length costs ≡ i = omega (arith, before, at) in
            let item : get_or (costs ++ m ∷ []) i d ≡ m = subst (λ (k : ℕ). get_or (costs ++ m ∷ []) k d ≡ m) last (get_or-append_seam costs m [] d) in
            let here : row ≡ get_or rows i t = is ∙ get_or_default rows n row t l ∙ ap (λ (k : ℕ). get_or rows k t) (sym at) in
            subst (λ (x : MethodCost). (x.number ≡ (get_or rows i t).number) × (known_at known (get_or rows i t).number ≡ Some x.cost)) (sym item)
            (subst (λ (r : Typed). (m.number ≡ r.number) × (known_at known r.number ≡ Some m.cost)) here (number, found))

pub costs_listed : (rows : List Typed) (known : List (Option Cell)) (costs : List MethodCost) → ((c : Class) (set : ℕ → Bool) → LeadsOn c set → AreRowsOf c set rows → AreCostsOf c rows known) → AreListed rows known (length rows) costs
    → (c : Class) (set : ℕ → Bool) → LeadsOn c set → AreRowsOf c set rows → AreCostsListed c rows costs
costs_listed rows known costs of listed c set on are = record {
  count = listed.count;
  each = λ i d t l.
      let it = listed.each i d t l in
      let k = of c set on are i t l in
      let both : Some (get_or costs i d).cost ≡ Some (capped k.0) = sym it.1 ∙ k.2 in
      (it.0, (k.0, k.1, cc both));
}

-- ---- calls

pub call_among : (rows : List Typed) (row : Typed) (j place : ℕ) (callee : Callee) (o : Option ℕ) → IsRowAmong rows row j → (AreRising row.calls.items → Some callee ≡ callee_in row.calls.items place) → o ≡ own_number callee.reached → IfSome o (IsCallAmong rows j place)
call_among rows row j place callee None among found e = tt
call_among rows row j place callee (Some k) among found e = (row, among, λ rise. sym (ap own_of (found rise)) ∙ sym e)

pub same_call : (rows : List Typed) (j place k number : ℕ) → IsCallAmong rows j place k → (k == number) ≡ true → IsCallAmong rows j place number
same_call rows j place k number call e = subst (IsCallAmong rows j place) (eqb-true k number e) call

-- `AreCallsUpTo` holds if each of the first `n` calls reaches the method of the next call in the cycle.
abbrev pub AreCallsUpTo : List Typed → List OwnCall → ℕ → Type 0
AreCallsUpTo rows calls n = (i : ℕ) (d : OwnCall) → i < n → IsCallAmong rows (get_or calls i d).method (get_or calls i d).place (get_or calls (next_of (length calls) i) d).method

pub calls_more : (rows : List Typed) (calls : List OwnCall) (n next : ℕ) (e : OwnCall) → n < length calls → next ≡ next_of (length calls) n → next < length calls → IsCallAmong rows (get_or calls n e).method (get_or calls n e).place (get_or calls next e).method → AreCallsUpTo rows calls n → AreCallsUpTo rows calls (n + 1)
calls_more rows calls n next e l is below call so_far i d lt = go (cases_lt i n)
  where
    go : (i < n) ⊎ (n ≤ i) → IsCallAmong rows (get_or calls i d).method (get_or calls i d).place (get_or calls (next_of (length calls) i) d).method
    go (inl less) = so_far i d less
    go (inr more) =
        let at : n ≡ i = omega (arith, lt, more) in
        let here : get_or calls n e ≡ get_or calls i d = get_or_default calls n e d l ∙ ap (λ (k : ℕ). get_or calls k d) at in
        let there : get_or calls next e ≡ get_or calls (next_of (length calls) i) d = get_or_default calls next e d below ∙ ap (λ (k : ℕ). get_or calls k d) (is ∙ ap (next_of (length calls)) at) in
        subst (λ (x : OwnCall). IsCallAmong rows (get_or calls i d).method (get_or calls i d).place x.method) there (subst (λ (x : OwnCall). IsCallAmong rows x.method x.place (get_or calls next e).method) here call)

pub some_left : (n : ℕ) (b : Bool) → b ≡ (n == 0) → not b ≡ true → 0 < n
some_left zero b e h = let never : false ≡ true = sym (ap not e) ∙ h in cc never
some_left (suc n) b e h = omega arith
