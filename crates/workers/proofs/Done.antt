-- A round on a new cache is done.
use Rattle.std.proofs.Common.{◌≡◌, ℕ, ℤ, Bool, suc, List, [], ◌∷◌, ◌++◌, length, map, refl, sym, ap, ◌∙◌, subst, IsPermutation}
use mathlib.Core.Option.{some}
use lib.ListN.{get_elem?}
use Rattle.jtypes.specs.declared.loader.LoadAnswer.{LoadAnswer}
use Rattle.stripe.specs.History.{Call, Record}
use Rattle.stripe.specs.Stored.{Stored, entry_among}
use Rattle.cache.specs.Receipts.{Receipt}
use Rattle.cache.specs.Opened.{Opened, Sitting, AreFresh}
use Rattle.cache.specs.Closing.{Settles}
use Rattle.round_outcome.specs.Outcome.{IsDone, IsHistoryOf, AreRefused, answered}
use Rattle.round_outcome.specs.Closed.{all_records, all_receipts, calls_told, calls_at, AreFiled, AllAreFiled}
use Rattle.round_outcome.proofs.Handed.{caches_hand_out_histories, none_is_filed, rounds_are_done}
use Rattle.invokeall.specs.Rounds.{Answer, reply_of, IsRound}

-- Seats without receipts have no receipt in all.
no_receipts : (seats : List Sitting) → ((c : ℕ) (s : Sitting) → get_elem? seats c ≡ some s → s.receipts ≡ []) → all_receipts seats ≡ []
no_receipts [] none = refl
no_receipts (s ∷ ss) none = ap (λ (l : List Receipt). l ++ all_receipts ss) (none 0 s refl) ∙ no_receipts ss (λ c x e. none (suc c) x e)

as_many : (answers : List Answer) → length (map reply_of answers) ≡ length answers
as_many [] = refl
as_many (a ∷ rest) = ap suc (as_many rest)

module _ {L : Type 0} (loads : Bool) (gives : ℤ → LoadAnswer → Type 0) (d : Opened L) (n : ℕ) (old new : List Sitting) (calls : List Call) (answers : List Answer) (fresh : AreFresh d.table n old) (round : IsRound d calls old new answers) where
  none_yet : (c : ℕ) (s : Sitting) → get_elem? old c ≡ some s → s.receipts ≡ []
  none_yet c s e = ap (λ (x : Sitting). x.receipts) (fresh.each c s e)

  -- The seats have, in some order, the receipts of the answered calls.
  pub once_told : IsPermutation (answered calls (map reply_of answers)) (calls_at new)
  once_told =
      let told : calls_at old ≡ [] = ap calls_told (no_receipts old none_yet) in
      subst (λ l. IsPermutation (l ++ answered calls (map reply_of answers)) (calls_at new)) told round.receipts

  module _ (tables : List Stored) (histories : List (List Record)) (settled : Settles loads gives d new tables histories) where
    -- The records of these calls are a history.
    pub history_left : IsHistoryOf loads gives (entry_among d.tables) (calls_at new) (entry_among tables) (all_records histories)
    history_left =
        let filed : AllAreFiled (length d.tables) old = λ c s e. subst (AreFiled (length d.tables)) (sym (none_yet c s e)) (none_is_filed (length d.tables)) in
        caches_hand_out_histories L loads gives d new tables histories settled (round.filed filed)

    -- So the round is done.
    pub round_done : AreRefused loads calls (map reply_of answers) → IsDone loads gives (entry_among d.tables) calls (map reply_of answers) (entry_among tables)
    round_done refused =
        rounds_are_done loads gives (entry_among d.tables) (calls_at new) (entry_among tables) (all_records histories) history_left calls (map reply_of answers) (as_many answers ∙ round.count) refused once_told
