-- Lemmas on the written prefix of a block.
use Rattle.std.proofs.Common.{◌≡◌, ℕ, zero, suc, ◌+◌, ◌<◌, ◌≤◌, List, [], ◌∷◌, ◌++◌, length, take, drop, set, get_or, replicate, map, Some, None, refl, sym, ap, ◌∙◌, arith}
use Rattle.std.specs.Prelude.{Option}
use Rattle.std.proofs.lemmas.List.{length-map, length-take-le, length-append, length-replicate, length-drop, get_or-map, get_or-take, map-append, map-set, append_assoc, take_at, drop_more, set_at, replicate_more}
use Rattle.rawwords.specs.Kept.{words_in, IsWritten}

-- ---- zeros

pub zeros_more : (places : List (Option ℕ)) (from m place : ℕ) → place ≡ from + m → place < length places
    → set (take from places ++ replicate m (Some 0) ++ drop place places) place (Some 0) ≡ take from places ++ replicate (m + 1) (Some 0) ++ drop (place + 1) places
zeros_more places from m place e l =
    let front : List (Option ℕ) = take from places ++ replicate m (Some 0) in
    let long : length front ≡ place = omega (arith, length-append (take from places) (replicate m (Some 0)), length-take-le from places (omega arith), length-replicate {A = Option ℕ} m (Some 0)) in
    let back : drop place places ≡ get_or places place None ∷ drop (place + 1) places = drop_more places place None l in
    let change : set (front ++ get_or places place None ∷ drop (place + 1) places) place (Some 0) ≡ front ++ Some 0 ∷ drop (place + 1) places = set_at front (get_or places place None) (drop (place + 1) places) (Some 0) place long in
    let more : replicate m (Some 0) ++ Some 0 ∷ [] ≡ replicate (m + 1) (Some 0) = replicate_more m (Some 0) in
    ap (λ (ps : List (Option ℕ)). set (front ++ ps) place (Some 0)) back ∙ change ∙ sym (append_assoc front (Some 0 ∷ []) (drop (place + 1) places))
    ∙ ap (λ (ps : List (Option ℕ)). ps ++ drop (place + 1) places) (append_assoc (take from places) (replicate m (Some 0)) (Some 0 ∷ []))
    ∙ ap (λ (ps : List (Option ℕ)). take from places ++ ps ++ drop (place + 1) places) more

-- ---- reads

pub word_there : (places : List (Option ℕ)) (n i : ℕ) → IsWritten places n → n ≤ length places → i < n → get_or places i None ≡ Some (get_or (words_in (take n places)) i 0)
word_there places n i w l lt =
    let items : List ℕ = words_in (take n places) in
    let long : length items ≡ n = length-map (take n places) _ ∙ length-take-le n places l in
    let seen : get_or (map (λ (x : ℕ). Some x) items) i None ≡ Some (get_or items i 0) = get_or-map (λ (x : ℕ). Some x) items i 0 None (omega arith) in
    sym (get_or-take n places i None lt) ∙ ap (λ (ps : List (Option ℕ)). get_or ps i None) (sym w) ∙ seen

-- ---- writes

take-set-within : (n : ℕ) (places : List (Option ℕ)) (i : ℕ) (p : Option ℕ) → take n (set places i p) ≡ set (take n places) i p
take-set-within zero places i p = refl
take-set-within (suc n) [] i p = refl
take-set-within (suc n) (q ∷ places) zero p = refl
take-set-within (suc n) (q ∷ places) (suc i) p = ap (λ (ps : List (Option ℕ)). q ∷ ps) (take-set-within n places i p)

pub words_set : (places : List (Option ℕ)) (n i w : ℕ) → words_in (take n (set places i (Some w))) ≡ set (words_in (take n places)) i w
words_set places n i w = ap words_in (take-set-within n places i (Some w)) ∙ map-set _ (take n places) i (Some w)

pub written_set : (places : List (Option ℕ)) (n i w : ℕ) → IsWritten places n → IsWritten (set places i (Some w)) n
written_set places n i w h =
    ap (map (λ (x : ℕ). Some x)) (words_set places n i w) ∙ map-set (λ (x : ℕ). Some x) (words_in (take n places)) i w
    ∙ ap (λ (ps : List (Option ℕ)). set ps i (Some w)) h ∙ sym (take-set-within n places i (Some w))

-- ---- appended zeros

words_of_zeros : (m : ℕ) → words_in (replicate m (Some 0)) ≡ replicate m 0
words_of_zeros zero = refl
words_of_zeros (suc m) = ap (λ (ws : List ℕ). 0 ∷ ws) (words_of_zeros m)

zeros_written : (m : ℕ) → map (λ (x : ℕ). Some x) (words_in (replicate m (Some 0))) ≡ replicate m (Some 0)
zeros_written zero = refl
zeros_written (suc m) = ap (λ (ps : List (Option ℕ)). Some 0 ∷ ps) (zeros_written m)

take-appended : (places rest : List (Option ℕ)) (n m : ℕ) → n ≤ length places → take (n + m) (take n places ++ replicate m (Some 0) ++ rest) ≡ take n places ++ replicate m (Some 0)
take-appended places rest n m l =
    take_at (take n places ++ replicate m (Some 0)) rest (n + m) (omega (arith, length-append (take n places) (replicate m (Some 0)), length-take-le n places l, length-replicate {A = Option ℕ} m (Some 0)))

pub words_appended : (places rest : List (Option ℕ)) (n m : ℕ) → n ≤ length places → words_in (take (n + m) (take n places ++ replicate m (Some 0) ++ rest)) ≡ words_in (take n places) ++ replicate m 0
words_appended places rest n m l =
    ap words_in (take-appended places rest n m l) ∙ map-append _ (take n places) (replicate m (Some 0)) ∙ ap (λ (ws : List ℕ). words_in (take n places) ++ ws) (words_of_zeros m)

pub written_appended : (places rest : List (Option ℕ)) (n m : ℕ) → n ≤ length places → IsWritten places n → IsWritten (take n places ++ replicate m (Some 0) ++ rest) (n + m)
written_appended places rest n m l h =
    ap (λ (ps : List (Option ℕ)). map (λ (x : ℕ). Some x) (words_in ps)) (take-appended places rest n m l)
    ∙ ap (map (λ (x : ℕ). Some x)) (map-append _ (take n places) (replicate m (Some 0)))
    ∙ map-append (λ (x : ℕ). Some x) (words_in (take n places)) (words_in (replicate m (Some 0)))
    ∙ ap (λ (ps : List (Option ℕ)). ps ++ map (λ (x : ℕ). Some x) (words_in (replicate m (Some 0)))) h
    ∙ ap (λ (ps : List (Option ℕ)). take n places ++ ps) (zeros_written m)
    ∙ sym (take-appended places rest n m l)

-- ---- lengths

pub length-words_in : (places : List (Option ℕ)) (n : ℕ) → n ≤ length places → length (words_in (take n places)) ≡ n
length-words_in places n l = length-map (take n places) _ ∙ length-take-le n places l

pub length-appended : (places : List (Option ℕ)) (n m : ℕ) → n + m ≤ length places → length (take n places ++ replicate m (Some 0) ++ drop (n + m) places) ≡ length places
length-appended places n m l =
    omega (arith, length-append (take n places ++ replicate m (Some 0)) (drop (n + m) places), length-append (take n places) (replicate m (Some 0)), length-take-le n places (omega arith), length-replicate {A = Option ℕ} m (Some 0), length-drop (n + m) places)
