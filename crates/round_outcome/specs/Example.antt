-- A round of four calls on an empty cache: a `get` and a `containsKey` read the entry of the first `put`, and the second `put` is refused.
use Rattle.std.specs.Prelude.{ℕ, ℤ, false, pos, List, [], ◌∷◌, Option, Some, None, true, if◌then◌else◌}
use Rattle.std.specs.Ordering.{int_eq}
use Rattle.jtypes.specs.declared.loader.LoadAnswer.{LoadAnswer}
use Rattle.stripe.specs.declared.call.Reply.{Reply}
use Rattle.stripe.specs.declared.call.Reply.TheVariants.{Done, Value, Flag}
use Rattle.stripe.specs.History.{Call, Get, Put, Contains, Record, Entries}
use Rattle.round_outcome.specs.Outcome.{IsDone}

abbrev pub no_entries : Entries
no_entries k = None

abbrev pub round : List Call
round = Get (pos 1) ∷ Put (pos 1) (pos 7) ∷ Put (pos 2) (pos 5) ∷ Contains (pos 1) ∷ []

abbrev pub replies : List (Option Reply)
replies = Some (Value (Some (pos 7))) ∷ Some Done ∷ None ∷ Some (Flag true) ∷ []

abbrev made : ℕ → Call → Reply → Record
made number call reply = record { caller = 0; number = number; call = call; reply = reply; after = Some (pos 7); asked = None }

-- A history of the round. The `put` precedes the `get`.
abbrev pub round_history : List Record
round_history = made 0 (Put (pos 1) (pos 7)) Done ∷ made 1 (Get (pos 1)) (Value (Some (pos 7))) ∷ made 2 (Contains (pos 1)) (Flag true) ∷ []

abbrev pub left_by_round : Entries
left_by_round k = if int_eq (pos 1) k then Some (pos 7) else None

-- The answers that a loader may give, if there is no loader: none.
abbrev pub no_answers : ℤ → LoadAnswer → Type 0
no_answers k a = ⊥

-- `NoValueFromNowhere` holds if a round is not done whose only call, a `get`, returns a value from an empty cache.
abbrev pub NoValueFromNowhere : Type 0
NoValueFromNowhere = (after : Entries) → IsDone false no_answers no_entries (Get (pos 1) ∷ []) (Some (Value (Some (pos 7))) ∷ []) after → ⊥
