-- Strictly increasing keys.
use Rattle.std.proofs.Common.{◌≡◌, ℕ, zero, suc, ◌<◌, ◌≤◌, true, ◌&&◌, List, [], ◌∷◌, length, get_or, drop, int_lt, refl, arith}
use Rattle.decode.specs.declared.instruction.Case.{Case}
use Rattle.decode.specs.Code.{keys_rise}

pub rise_from : (cases : List Case) (i : ℕ) (d : Case) → suc i < length cases → keys_rise (drop i cases) ≡ (int_lt (get_or cases i d).key (get_or cases (suc i) d).key && keys_rise (drop (suc i) cases))
rise_from [] i d l = absurd (omega arith)
rise_from (x ∷ []) i d l = absurd (omega arith)
rise_from (x ∷ y ∷ cases) zero d l = refl
rise_from (x ∷ y ∷ cases) (suc i) d l = rise_from (y ∷ cases) i d (omega arith)

pub rise_at_end : (cases : List Case) (i : ℕ) → length cases ≤ suc i → keys_rise (drop i cases) ≡ true
rise_at_end [] zero l = refl
rise_at_end [] (suc i) l = refl
rise_at_end (x ∷ []) zero l = refl
rise_at_end (x ∷ []) (suc i) l = rise_at_end [] i (omega arith)
rise_at_end (x ∷ y ∷ cases) zero l = absurd (omega arith)
rise_at_end (x ∷ y ∷ cases) (suc i) l = rise_at_end (y ∷ cases) i (omega arith)
