-- Consuming buffered bytes is the same as reading them.
use Rattle.std.proofs.Common.{◌≡◌, ℕ, ◌≤◌, ◌==◌, Bool, true, false, if◌then◌else◌, List, ◌++◌, length, take, drop, Option, Some, None, IfSome, sym, ap, ◌∙◌}
use Rattle.std.proofs.lemmas.List.{take-append-drop, take-append-le}
use Rattle.std.specs.Io.{StartsWith}
use Rattle.std.specs.Io.KnownBytes.{Consumes, prepend_known}
use Rattle.std.specs.Io.BufRead.{DropsConsumable}
use Rattle.std.specs.Io.Buffered.{reader_buffer, reader_capacity, reader_remaining}
use Rattle.std.specs.declared.io.buffered.BufReader.{BufReader}
use Rattle.std.proofs.KnownBytes.{prepend_known-front, Keeps-refl}

-- The first `n` elements of a list are those of any prefix that is long enough.
same_front : (n : ℕ) (xs hand : List ℕ) → StartsWith xs hand → n ≤ length hand → take n xs ≡ take n hand
same_front n xs hand front within =
    let whole : xs ≡ hand ++ drop (length hand) xs = sym (take-append-drop (length hand) xs) ∙ ap (λ l. l ++ drop (length hand) xs) front in
    ap (take n) whole ∙ take-append-le n hand (drop (length hand) xs) within

dropped : (old new : Option (List ℕ)) (hand : List ℕ) (n : ℕ) → IfSome old (λ xs. StartsWith xs hand) → n ≤ length hand → DropsConsumable old new (Some (length hand)) n → Consumes old new (take n hand)
dropped None new hand n front within drops = tt
dropped (Some xs) new hand n front within drops =
    rw (drops within) (sym (take-append-drop n xs) ∙ ap (λ l. l ++ drop n xs) (same_front n xs hand front within))

begun : (empty : Bool) (hand : List ℕ) (rest : Option (List ℕ)) → IfSome (if empty then None else prepend_known hand rest) (λ xs. StartsWith xs hand)
begun true hand rest = tt
begun false hand rest = prepend_known-front (prepend_known hand rest) rest hand (Keeps-refl (prepend_known hand rest))

pub passed : {T A : Type 0} (remaining : T → Option (List ℕ)) (old new : BufReader T A) (n : ℕ) → n ≤ length (reader_buffer old) → DropsConsumable (reader_remaining remaining old) (reader_remaining remaining new) (Some (length (reader_buffer old))) n → Consumes (reader_remaining remaining old) (reader_remaining remaining new) (take n (reader_buffer old))
passed remaining old new n within drops =
    dropped (reader_remaining remaining old) (reader_remaining remaining new) (reader_buffer old) n (begun (reader_capacity old == 0) (reader_buffer old) (remaining old.inner)) within drops
