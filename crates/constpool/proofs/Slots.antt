-- Lemmas for the loop that reads the slots.
use Rattle.std.proofs.Common.{◌≡◌, ℕ, suc, ◌-◌, ◌+◌, ◌≤◌, ◌<◌, Bool, true, false, cond, List, [], ◌∷◌, ◌++◌, Result, Ok, Err, refl, sym, ap, ◌∙◌, arith}
use Rattle.std.proofs.lemmas.List.{append-nil}
use Rattle.jtypes.specs.declared.refusal.Refusal.{Refusal}
use Rattle.jtypes.specs.declared.refusal.Refusal.TheVariants.{BadPool}
use Rattle.jtypes.specs.Layout.{first, Fails}
use Rattle.jtypes.proofs.Many.{with_front, regroup, fails_along}
use Rattle.constpool.specs.Lookup.{Slot}
use Rattle.constpool.specs.Pool.{slot, slots, takes_two}

pub goes_on : (front : List Slot) (count i : ℕ) (second : Bool) (bytes : List ℕ) (x : Slot) (after : List ℕ) (total : Result (List Slot × List ℕ) Refusal) → i < count → first (slot second) bytes ≡ Ok (x, after)
    → with_front front (first (slots (count - i) second) bytes) ≡ total → with_front (front ++ x ∷ []) (first (slots (count - (i + 1)) (takes_two x)) after) ≡ total
unfolding slots
goes_on front count i second bytes x after total lt h so_far =
    let k : count - i ≡ suc (count - (i + 1)) = omega arith in
    let one : with_front front (first (slots (count - i) second) bytes) ≡ with_front (front ++ x ∷ []) (first (slots (count - (i + 1)) (takes_two x)) after) = rw (k, h) (regroup front x (first (slots (count - (i + 1)) (takes_two x)) after)) in
    sym one ∙ so_far

pub ends : (e : Refusal) (front : List Slot) (count i : ℕ) (second : Bool) (bytes : List ℕ) (total : Result (List Slot × List ℕ) Refusal) → i < count → Fails e (first (slot second) bytes)
    → with_front front (first (slots (count - i) second) bytes) ≡ total → Fails e total
unfolding slots
ends e front count i second bytes total lt h so_far =
    let k : count - i ≡ suc (count - (i + 1)) = omega arith in
    let one : Fails e (with_front front (first (slots (count - i) second) bytes)) = rw k (fails_along e _ _ (fails_along e _ _ h)) in
    rw so_far at one

pub is_done : (front : List Slot) (count i : ℕ) (second : Bool) (bytes : List ℕ) (total : Result (List Slot × List ℕ) Refusal) → count ≤ i → with_front front (first (slots (count - i) second) bytes) ≡ total
    → total ≡ cond second (Err BadPool) (Ok (front, bytes))
unfolding slots
is_done front count i true bytes total le so_far =
    let k : count - i ≡ 0 = omega arith in
    let one : with_front front (first (slots (count - i) true) bytes) ≡ Err BadPool = rw k refl in
    sym so_far ∙ one
is_done front count i false bytes total le so_far =
    let k : count - i ≡ 0 = omega arith in
    let one : with_front front (first (slots (count - i) false) bytes) ≡ Ok (front, bytes) = rw k (ap (λ (ns : List Slot). Ok (ns, bytes)) (append-nil front)) in
    sym so_far ∙ one
