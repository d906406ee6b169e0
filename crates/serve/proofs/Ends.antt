-- Streams that end early.
use Rattle.std.proofs.Common.{◌≡◌, ◌≢◌, ℕ, ℤ, Bool, List, Option, Result, Ok, Err, IfOk, IfErr, refl, subst}
use Rattle.jtypes.specs.declared.loader.LoadAnswer.{LoadAnswer}
use Rattle.wire.specs.Requests.{Request}
use Rattle.wire.specs.declared.protocol.Protocol.{Protocol}
use Rattle.serve.specs.declared.fault.ServeFault.{ServeFault}
use Rattle.serve.specs.declared.fault.ServeFault.TheVariants as fault
use Rattle.serve.specs.Served.{Stand, Stops, Fails, IsCutShort, EndsEarly, too_long, cut, input_ended, malformed, reader, frame_memory, memory, unread, no_memory, writer}
use Rattle.serve.specs.Devices.{TookAndGave}

stops_not : {p : Protocol} {requests : List Request} {extra : List ℕ} {f : ServeFault} → Stops p requests extra f → f ≢ fault.BadCount
stops_not (too_long extra is) e = absurd cc
stops_not (cut extra is) e = absurd cc
stops_not (input_ended some) e = absurd cc
stops_not (malformed extra is) e = absurd cc
stops_not (reader extra is) e = absurd cc
stops_not (frame_memory extra is) e = absurd cc
stops_not memory e = absurd cc

fails_not : {p : Protocol} {loads : Bool} {gives : ℤ → LoadAnswer → Type 0} {s : Stand} {taken given : List ℕ} {f : ServeFault} → Fails p loads gives s taken given f → f ≢ fault.BadCount
fails_not (unread requests extra f are t g stops) e = stops_not stops e
fails_not (no_memory requests are t g) e = absurd cc
fails_not (writer requests replies t missing are took round text) e = absurd cc

-- A stream that is cut short ends early, with a fault other than `BadCount`.
pub ends_early : (p : Protocol) (loads : Bool) (gives : ℤ → LoadAnswer → Type 0) (input output : List ℕ) (f : ServeFault) → IsCutShort p loads gives input output f → EndsEarly p loads gives input output f
ends_early p loads gives input output fault.TooLong h = h
ends_early p loads gives input output fault.Truncated h = h
ends_early p loads gives input output fault.Malformed h = h
ends_early p loads gives input output fault.Read h = h
ends_early p loads gives input output fault.NoMemory h = h
ends_early p loads gives input output fault.Write h = h
ends_early p loads gives input output fault.BadCount h = absurd (fails_not h.fails refl)

pub all_end_early : (p : Protocol) (loads : Bool) (gives : ℤ → LoadAnswer → Type 0) {A : Type 0} (res : Result A ServeFault) (a b c d : Option (List ℕ)) → IfErr res (λ f. TookAndGave a b c d (λ taken given. IsCutShort p loads gives taken given f)) → IfErr res (λ f. TookAndGave a b c d (λ taken given. EndsEarly p loads gives taken given f))
all_end_early p loads gives (Ok x) a b c d h = tt
all_end_early p loads gives (Err f) a b c d h = let (taken, given, took, gave, ended) = h in (taken, given, took, gave, ends_early p loads gives taken given f ended)

pub not_count : (p : Protocol) (loads : Bool) (gives : ℤ → LoadAnswer → Type 0) {A : Type 0} (res : Result A ServeFault) (a b c d : Option (List ℕ)) → IfErr res (λ f. TookAndGave a b c d (λ taken given. IsCutShort p loads gives taken given f)) → res ≢ Err fault.BadCount
not_count p loads gives (Ok x) a b c d h e = absurd cc
not_count p loads gives (Err f) a b c d h e =
    let (taken, given, took, gave, ended) = h in
    let is : f ≡ fault.BadCount = cc in
    fails_not ended.fails is

pub if_ok : {A E : Type 0} (P : A → Type 0) (res : Result A E) (x : A) → res ≡ Ok x → IfOk res P → P x
if_ok P res x e h = subst (λ r. IfOk r P) e h

pub no_error : {A E : Type 0} (res : Result A E) (x : A) (e : E) → res ≡ Ok x → res ≡ Err e → ⊥
no_error res x e h k = absurd cc
