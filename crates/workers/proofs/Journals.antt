-- A round has at most as many jobs as a history may have records, so no job is refused for a full history.
-- So a refused job was refused out of memory.
use Rattle.std.proofs.Common.{◌≡◌, ◌≢◌, ℕ, ℤ, zero, suc, ◌<◌, ◌≤◌, List, [], ◌∷◌, length, map, get_or, Bool, true, false, Ok, Err, refl, sym, ap, ◌∙◌, arith, length-append, IsPermutation}
use Rattle.std.specs.Prelude.{Option, slice_index_or, unwrap_or}
use Rattle.std.specs.List.{All}
use Rattle.std.proofs.lemmas.List.Sorted.{length_permutation}
use mathlib.Core.Option.{some, some-injective, some-ne-none}
use lib.ListN.{get_elem?}
use Rattle.jtypes.specs.declared.loader.LoadAnswer.{LoadAnswer}
use Rattle.stripe.specs.History.{Call, Record}
use Rattle.stripe.specs.Stored.{Stored}
use Rattle.cache.specs.declared.refusal.InvokeRefusal.{InvokeRefusal}
use Rattle.cache.specs.declared.refusal.InvokeRefusal.TheVariants.{JournalFull, NoMemory}
use Rattle.cache.specs.Opened.{Opened, Sitting, AreFresh, stripe_in}
use Rattle.cache.specs.Closing.{Settles, history_at, full_at}
use Rattle.round_outcome.specs.Outcome.{AreRefused, answered, calls_in}
use Rattle.round_outcome.specs.Closed.{all_records, calls_at}
use Rattle.invokeall.specs.Rounds.{Answer, reply_of, IsRound, ShowsAtSeats, NeedMemory}
use Rattle.workers.specs.Buffers.{HasPlace}
use Rattle.workers.proofs.Done.{once_told, history_left}

-- A history has at most as many records as all histories have.
some_records : (hs : List (List Record)) (j : ℕ) → length (history_at hs j) ≤ length (all_records hs)
some_records [] j = omega arith
some_records (h ∷ hs) zero = let e = length-append h (all_records hs) in omega arith
some_records (h ∷ hs) (suc j) = let e = length-append h (all_records hs) in let r = some_records hs j in omega arith

as_long : (history : List Record) → length (calls_in history) ≡ length history
as_long [] = refl
as_long (r ∷ rs) = ap suc (as_long rs)

at_most : (calls : List Call) (answers : List Answer) → length (answered calls (map reply_of answers)) ≤ length calls
at_most [] answers = omega arith
at_most (c ∷ cs) [] = omega arith
at_most (c ∷ cs) (Ok r ∷ rest) = let h = at_most cs rest in omega arith
at_most (c ∷ cs) (Err e ∷ rest) = let h = at_most cs rest in omega arith

-- If a call was refused, fewer calls are answered than there are.
fewer : (calls : List Call) (answers : List Answer) (k : ℕ) (e : InvokeRefusal) → length answers ≡ length calls → get_elem? answers k ≡ some (Err e) → length (answered calls (map reply_of answers)) < length calls
fewer calls [] k e same at = absurd (some-ne-none (Err e) (sym at))
fewer [] (x ∷ xs) k e same at = absurd (omega (arith, same))
fewer (c ∷ cs) (Ok r ∷ rest) zero e same at = absurd (let f = some-injective (Ok r) (Err e) at in cc)
fewer (c ∷ cs) (Err x ∷ rest) zero e same at = let h = at_most cs rest in omega arith
fewer (c ∷ cs) (Ok r ∷ rest) (suc k) e same at = let h = fewer cs rest k e (omega (arith, same)) at in omega arith
fewer (c ∷ cs) (Err x ∷ rest) (suc k) e same at = let h = fewer cs rest k e (omega (arith, same)) at in omega arith

call_there : (calls : List Call) (answers : List Answer) (k : ℕ) (a : Answer) → length answers ≡ length calls → get_elem? answers k ≡ some a → (c : Call) × (get_elem? calls k ≡ some c)
call_there calls [] k a same at = absurd (some-ne-none a (sym at))
call_there [] (x ∷ xs) k a same at = absurd (omega (arith, same))
call_there (c ∷ cs) (x ∷ xs) zero a same at = (c, refl)
call_there (c ∷ cs) (x ∷ xs) (suc k) a same at = call_there cs xs k a (omega (arith, same)) at

full_there : (ss : List Sitting) (i : ℕ) (s : Sitting) → get_elem? ss i ≡ some s → full_at ss i ≡ s.full
full_there [] i s e = absurd (some-ne-none s (sym e))
full_there (x ∷ xs) zero s e = ap (λ (z : Sitting). z.full) (some-injective x s e)
full_there (x ∷ xs) (suc i) s e = full_there xs i s e

never_full : {L : Type 0} (loads : Bool) (gives : ℤ → LoadAnswer → Type 0) (d : Opened L) (new : List Sitting) (calls : List Call) (answers : List Answer) (tables : List Stored) (hs : List (List Record)) → length calls ≤ d.journal
    → length answers ≡ length calls → Settles loads gives d new tables hs → IsPermutation (answered calls (map reply_of answers)) (calls_at new) → IsPermutation (calls_at new) (calls_in (all_records hs))
    → ShowsAtSeats d calls new answers → (k : ℕ) → get_elem? answers k ≢ some (Err JournalFull)
never_full loads gives d new calls answers tables hs few count s once more shows k at =
    let c = call_there calls answers k (Err JournalFull) count at in
    let f = shows k c.0 at c.1 in
    let j : ℕ = stripe_in d c.0 in
    let flag : slice_index_or (full_at new f.0) j false ≡ true = ap (λ (l : List Bool). slice_index_or l j false) (full_there new f.0 f.1 f.2) ∙ f.3 in
    let long : length (history_at hs j) ≡ d.journal = s.accounts.filled f.0 j flag in
    let some_of = some_records hs j in
    let one = length_permutation (answered calls (map reply_of answers)) (calls_at new) once in
    let two = length_permutation (calls_at new) (calls_in (all_records hs)) more in
    let three = as_long (all_records hs) in
    let less = fewer calls answers k JournalFull count at in
    omega (arith, few)

answer_at : (answers : List Answer) (i : ℕ) (e : Answer) → i < length answers → get_elem? answers i ≡ some (get_or answers i e)
answer_at [] i e below = absurd (omega arith)
answer_at (x ∷ xs) zero e below = refl
answer_at (x ∷ xs) (suc i) e below = answer_at xs i e (omega arith)

none_is_full : {L : Type 0} (loads : Bool) (gives : ℤ → LoadAnswer → Type 0) (d : Opened L) (n : ℕ) (old new : List Sitting) (calls : List Call) (answers : List Answer) (tables : List Stored) (hs : List (List Record)) → length calls ≤ d.journal
    → AreFresh d.table n old → IsRound d calls old new answers → Settles loads gives d new tables hs → (k : ℕ) → get_elem? answers k ≢ some (Err JournalFull)
none_is_full loads gives d n old new calls answers tables hs few fresh round s =
    let history = history_left loads gives d n old new calls answers fresh round tables hs s in
    never_full loads gives d new calls answers tables hs few round.count s (once_told loads gives d n old new calls answers fresh round) history.once round.full

pub all_have_places : {L : Type 0} (loads : Bool) (gives : ℤ → LoadAnswer → Type 0) (d : Opened L) (n : ℕ) (old new : List Sitting) (calls : List Call) (answers : List Answer) (tables : List Stored) (hs : List (List Record)) → length calls ≤ d.journal
    → AreFresh d.table n old → IsRound d calls old new answers → Settles loads gives d new tables hs → All HasPlace answers
all_have_places loads gives d n old new calls answers tables hs few fresh round s = λ i e below full.
    none_is_full loads gives d n old new calls answers tables hs few fresh round s i (answer_at answers i e below ∙ ap some full)

-- A refused call that has a place was refused out of memory, so it may create an entry.
refused_by : (loads : Bool) (calls : List Call) (answers : List Answer) → ((k : ℕ) → get_elem? answers k ≢ some (Err JournalFull)) → NeedMemory loads calls answers → AreRefused loads calls (map reply_of answers)
refused_by loads [] answers placed need k call is none = absurd (cc)
refused_by loads (c ∷ cs) [] placed need k call is none = absurd (cc)
refused_by loads (c ∷ cs) (Ok r ∷ rest) placed need zero call is none = absurd (cc)
refused_by loads (c ∷ cs) (Err NoMemory ∷ rest) placed need zero call is none = need 0 call refl (ap (λ (o : Option Call). some (unwrap_or o c)) is)
refused_by loads (c ∷ cs) (Err JournalFull ∷ rest) placed need zero call is none = absurd (placed 0 refl)
refused_by loads (c ∷ cs) (a ∷ rest) placed need (suc k) call is none = refused_by loads cs rest (λ j. placed (suc j)) (λ j u e there. need (suc j) u e there) k call is none

pub all_refused : {L : Type 0} (loads : Bool) (gives : ℤ → LoadAnswer → Type 0) (d : Opened L) (n : ℕ) (old new : List Sitting) (calls : List Call) (answers : List Answer) (tables : List Stored) (hs : List (List Record)) → length calls ≤ d.journal
    → AreFresh d.table n old → IsRound d calls old new answers → Settles loads gives d new tables hs → NeedMemory loads calls answers → AreRefused loads calls (map reply_of answers)
all_refused loads gives d n old new calls answers tables hs few fresh round s need = refused_by loads calls answers (none_is_full loads gives d n old new calls answers tables hs few fresh round s) need
