-- No method with a known cost is in a closed set.
use Rattle.std.proofs.Common.{◌≡◌, ℕ, zero, suc, Bool, true, false, eqb, List, [], ◌∷◌, get_or, Option, Some, None, refl, sym, ap, ◌∙◌, subst}
use Rattle.std.specs.Prelude.{Result, Ok, Err, IfOk, IfErr, replicate, cond, ◌==◌, slice_get, slice_set, IsSome, ◌&&◌}
use Rattle.std.proofs.lemmas.Bool.{eqb-true, eqb-false}
use Rattle.std.proofs.lemmas.List.{get_or-set_other}
use Rattle.decode.specs.declared.instruction.Placed.{Placed}
use Rattle.decode.specs.Places.{at_place}
use Rattle.typecheck.specs.Typing.{Class, Method, own_of, own_number}
use Rattle.typecheck.specs.Calls.{callee_in}
use Rattle.typecheck.specs.declared.typed.Called.{Called}
use Rattle.typecheck.specs.declared.typed.Typed.{Typed}
use Rattle.bounds.specs.Cells.{Cell, known_at}
use Rattle.bounds.specs.Rows.{AreRowsOf, AreGrounded, StaysGrounded, AreAllKnown, AreNotRecursive, is_known, are_known}

-- if the callees' costs are known, so is that of an own callee
callee_known : (known : List (Option Cell)) (calls : List Called) (q k : ℕ) → are_known known calls ≡ true → own_of (callee_in calls q) ≡ Some k → IsSome (known_at known k)
callee_known known [] q k e o = cc
callee_known known (x ∷ calls) q k e o = go (is_known known (own_number x.callee.reached)) refl (x.place == q) (callee_known known calls q k) e o
  where
    here : (n : Option ℕ) → is_known known n ≡ true → n ≡ Some k → IsSome (known_at known k)
    here None a b = cc
    here (Some j) a b = let same : j ≡ k = cc b in subst (λ (n : ℕ). IsSome (known_at known n)) same a

    go : (b : Bool) → is_known known (own_number x.callee.reached) ≡ b → (at : Bool) → (are_known known calls ≡ true → own_of (callee_in calls q) ≡ Some k → IsSome (known_at known k)) → b && are_known known calls ≡ true → own_of (cond at (Some x.callee) (callee_in calls q)) ≡ Some k → IsSome (known_at known k)
    go false is at later f g = cc
    go true is true later f g = here (own_number x.callee.reached) is g
    go true is false later f g = later f g

not_none : {A : Type 0} (o : Option A) → IsSome o → o ≡ None → ⊥
not_none None s e = cc
not_none (Some x) s e = cc

pub stays_grounded : (row : Typed) (known new : List (Option Cell)) (x : Cell) → are_known known row.calls.items ≡ true → new ≡ slice_set known row.number (Some x) → StaysGrounded row known new
stays_grounded row known new x ready same c is old set closed j member = go (eqb j row.number) refl
  where
    go : (b : Bool) → eqb j row.number ≡ b → known_at new j ≡ None
    go true at =
        let here : j ≡ row.number = eqb-true j row.number at in
        let next = closed j member in
        let call = next.1 in
        let both : Some call.0 ≡ Some is.method.0 = sym call.3 ∙ ap (slice_get c.methods) here ∙ is.method.1 in
        let one : call.0 ≡ is.method.0 = cc both in
        let stands : at_place row.code call.1 ≡ Some call.2 = ap (λ (code : List Placed). at_place code call.1) (sym (ap (λ (m : Method). m.code) one ∙ is.method.3)) ∙ call.4 in
        let owned : own_of (callee_in row.calls.items call.1) ≡ Some next.0 = sym (is.calls call.1 call.2 stands) ∙ call.5 in
        absurd (not_none (known_at known next.0) (callee_known known row.calls.items call.1 next.0 ready owned) (old set closed next.0 next.2))
    go false at = ap (λ (l : List (Option Cell)). known_at l j) same ∙ get_or-set_other known row.number j (Some x) None (eqb-false j row.number at) ∙ old set closed j member

pub nothing_grounded : (c : Class) (known : List (Option Cell)) (n : ℕ) → known ≡ replicate n None → AreGrounded c known
nothing_grounded c known n same set closed j member = ap (λ (l : List (Option Cell)). known_at l j) same ∙ none n j
  where
    none : (n k : ℕ) → known_at (replicate n None) k ≡ None
    none zero zero = refl
    none zero (suc k) = refl
    none (suc n) zero = refl
    none (suc n) (suc k) = none n k

pub not_recursive : (rows : List Typed) (known : List (Option Cell)) → ((c : Class) (set : ℕ → Bool) → AreRowsOf c set rows → AreGrounded c known) → AreAllKnown rows known → AreNotRecursive rows
not_recursive rows known grounded all c set closed are is i d l member = not_none (known_at known (get_or rows i d).number) (all i d l) (grounded c set are closed is (get_or rows i d).number member)

pub ok_whatever : {A B : Type 0} (P : Type 0) (r : Result A B) → P → IfOk r (λ _. P)
ok_whatever P (Ok x) p = p
ok_whatever P (Err e) p = tt

pub err_whatever : {A B : Type 0} (Q : B → Type 0) (P : Type 0) (r : Result A B) → P → IfErr r (λ e. Q e → P)
err_whatever Q P (Ok x) p = tt
err_whatever Q P (Err e) p = λ q. p
