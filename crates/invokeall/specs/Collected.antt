-- The results of `invokeAll` (JSR 107, `Cache`).
use Rattle.std.specs.Prelude.{◌≡◌, ℤ, List, [], ◌∷◌, ◌++◌, map, fold, Bool, true, false, if◌then◌else◌, Ok}
use Rattle.std.specs.List.{list_any}
use Rattle.std.specs.Ordering.{int_eq}
use Rattle.jtypes.specs.declared.types.Arg.{Arg}
use Rattle.jtypes.specs.declared.types.Arg.TheVariants.{Null}
use Rattle.jtypes.specs.declared.types.Outcome.TheVariants.{Returned}
use Rattle.typecheck.specs.Typing.{Class}
use Rattle.stripe.specs.declared.call.Reply.TheVariants as reply
use Rattle.stripe.specs.History.{Call, Invoke}
use Rattle.cache.specs.Opened.{Opened, Sitting}
use Rattle.invokeall.specs.Rounds.{Answer, IsRound}

-- The keys with `k` appended, unless they have it.
abbrev pub with_key : List ℤ → ℤ → List ℤ
with_key keys k = if list_any (int_eq k) keys then keys else keys ++ k ∷ []

-- The distinct keys, in the order of their first occurrences.
abbrev pub different : List ℤ → List ℤ
different keys = fold with_key [] keys

-- Whether the entry processor returned null.
abbrev pub is_null : Answer → Bool
is_null (Ok (reply.Result (Returned Null))) = true
is_null _ = false

-- The keys with their answers, except the keys whose entry processor returned null.
abbrev pub listed : List ℤ → List Answer → List (ℤ × Answer)
listed (k ∷ keys) (a ∷ answers) = if is_null a then listed keys answers else (k, a) ∷ listed keys answers
listed _ _ = []

-- The invocations of one class on each of these keys.
abbrev pub invocations : Class → List Arg → List ℤ → List Call
invocations c args keys = map (λ k. Invoke c k args) keys

-- `IsInvokedAll` holds if `results` are the listed answers of a round of one invocation for each distinct key.
pub record IsInvokedAll {L : Type 0} (d : Opened L) (c : Class) (keys : List ℤ) (args : List Arg) (old new : List Sitting) (results : List (ℤ × Answer)) : Type 0 where
  pub answers : List Answer
  pub round : IsRound d (invocations c args (different keys)) old new answers
  pub results_are : results ≡ listed (different keys) answers
