-- The outcome of a finished round of calls (JSR 107, `Cache`).
use Rattle.std.specs.Prelude.{◌≡◌, ℕ, Bool, true, ℤ, List, [], ◌∷◌, Option, Some, None, length, map, slice_get, IsPermutation}
use Rattle.stripe.specs.declared.call.Reply.{Reply}
use Rattle.jtypes.specs.declared.loader.LoadAnswer.{LoadAnswer}
use Rattle.stripe.specs.History.{Call, Record, Entries, IsLegal, AreGiven, entries_after}
use Rattle.stripe.specs.Kept.{may_make}

-- The calls of a history, each with its reply.
abbrev pub calls_in : List Record → List (Call × Reply)
calls_in history = map (λ (r : Record). (r.call, r.reply)) history

-- `IsHistoryOf` holds if `history` is legal from the entries `before`, has each of the calls `made` once with its reply, in some order,
-- and leaves the entries `after`. The loader may give each recorded answer.
pub record IsHistoryOf (loads : Bool) (gives : ℤ → LoadAnswer → Type 0) (before : Entries) (made : List (Call × Reply)) (after : Entries) (history : List Record) : Type 0 where
  pub legal : IsLegal loads before history
  pub given : AreGiven gives history
  pub once : IsPermutation made (calls_in history)
  pub left : (k : ℤ) → after k ≡ entries_after before history k

-- The answered calls, each with its reply. A call without a reply was refused.
abbrev pub answered : List Call → List (Option Reply) → List (Call × Reply)
answered (c ∷ calls) (Some reply ∷ answers) = (c, reply) ∷ answered calls answers
answered (c ∷ calls) (None ∷ answers) = answered calls answers
answered _ _ = []

-- `AreRefused` holds if each call without a reply may create an entry, so its refusal may be out of memory.
abbrev pub AreRefused : Bool → List Call → List (Option Reply) → Type 0
AreRefused loads calls answers = (k : ℕ) (call : Call) → slice_get calls k ≡ Some call → slice_get answers k ≡ Some None → may_make loads call ≡ true

-- `IsDone` holds if each call has a reply, or may create an entry and was refused,
-- and the answered calls have a history from the entries `before` to `after`.
pub record IsDone (loads : Bool) (gives : ℤ → LoadAnswer → Type 0) (before : Entries) (calls : List Call) (answers : List (Option Reply)) (after : Entries) : Type 0 where
  pub count : length answers ≡ length calls
  pub refused : AreRefused loads calls answers
  pub history : List Record
  pub is : IsHistoryOf loads gives before (answered calls answers) after history
