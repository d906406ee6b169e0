use Rattle.std.proofs.Common.{◌≡◌, ℤ, ◌+◌, ◌≤◌, ◌++◌, ◌∷◌, [], List, Bool, true, false, if◌then◌else◌, length, fold, arith, refl, sym, ap, ◌∙◌, suc, length-append}
use Rattle.std.specs.List.{list_any}
use Rattle.std.specs.Ordering.{int_eq}
use Rattle.jtypes.specs.declared.types.Arg.{Arg}
use Rattle.typecheck.specs.Typing.{Class}
use Rattle.stripe.specs.History.{Call}
use Rattle.invokeall.specs.Collected.{with_key, different, invocations}
use Rattle.invokeall.proofs.Worked.{length_calls}
use Rattle.invokeall.proofs.all.invoke_all.Goals as goal

one_key : (keys : List ℤ) (k : ℤ) → length (with_key keys k) ≤ length keys + 1
one_key keys k = go (list_any (int_eq k) keys)
  where
    go : (b : Bool) → length (if b then keys else keys ++ k ∷ []) ≤ length keys + 1
    go true = omega arith
    go false = omega (arith, length-append keys (k ∷ []))

-- There are at most as many distinct keys as keys.
few_keys : (first keys : List ℤ) → length (fold with_key first keys) ≤ length first + length keys
few_keys first [] = omega arith
few_keys first (k ∷ keys) = let a = few_keys (with_key first k) keys in let b = one_key first k in omega arith

as_many : (c : Class) (args : List Arg) (keys : List ℤ) → length (invocations c args keys) ≡ length keys
as_many c args [] = refl
as_many c args (k ∷ keys) = ap suc (as_many c args keys)

pub run_round-requires-clause-jobs : goal.run_round-requires-clause-jobs
run_round-requires-clause-jobs g c = λ lifetimes lives.
    let few = few_keys [] c.args.keys.now in
    let keys : length c.as_slice-keys.result.now ≡ length (different c.args.keys.now) = ap (λ (l : List ℤ). length l) (c.as_slice-keys.ensures.keys ∙ c.in_ok-set.ensures) in
    let calls = ap (λ (l : List Call). length l) c.in_ok-jobs.ensures.calls in
    let jobs = length_calls c.in_ok-jobs.jobs.items in
    let many = as_many _ _ c.as_slice-keys.result.now in
    let slice = c.as_slice.ensures.len in
    let most = c.requires.keys in
    omega (arith, sym jobs ∙ calls ∙ many)
