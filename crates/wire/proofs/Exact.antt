-- If the input is known, the result of a read agrees with the front of the input.
use Rattle.std.proofs.Common.{◌≡◌, ℕ, List, ◌++◌, Option, Some, None, Result, Ok, Err, IfSome, refl, sym, ap, ◌∙◌, subst, append_assoc, append-nil}
use Rattle.std.specs.Io.KnownBytes.{Consumes}
use Rattle.byteorder.specs.Endian.{big_bytes}
use Rattle.wire.specs.Requests.{Request}
use Rattle.wire.specs.declared.fault.WireFault.{WireFault}
use Rattle.wire.specs.declared.fault.WireFault.TheVariants as fault
use Rattle.wire.specs.declared.protocol.Protocol.{Protocol}
use Rattle.wire.specs.Frames.{frame, request_frame, IsFaulty, too_long, empty, no_request, Front, AtEnd, Whole, Faulty, TooLong, Truncated, Malformed, IsFront}
use Rattle.wire.specs.Reading.{ReadGives, Tells}
use Rattle.wire.proofs.Once.{one_front}

-- Bytes appended to the whole are appended to the rest.
more : (bytes front rest left : List ℕ) → bytes ≡ front ++ rest → bytes ++ left ≡ front ++ (rest ++ left)
more bytes front rest left e = ap (λ t. t ++ left) e ∙ append_assoc front rest left

still_too_long : {p : Protocol} (bytes left : List ℕ) → IsFaulty p bytes TooLong → IsFaulty p (bytes ++ left) TooLong
still_too_long bytes left (too_long n rest e fits long) = too_long n (rest ++ left) (more bytes (big_bytes 4 n) rest left e) fits long

still_malformed : {p : Protocol} (bytes left : List ℕ) → IsFaulty p bytes Malformed → IsFaulty p (bytes ++ left) Malformed
still_malformed bytes left (empty rest e) = empty (rest ++ left) (more bytes (big_bytes 4 0) rest left e)
still_malformed bytes left (no_request text rest e some short none) = no_request text (rest ++ left) (more bytes (frame text) rest left e) some short none

-- A result that agrees with one front of the input agrees with every front of it.
known_front : (p : Protocol) (input : List ℕ) (f g : Front) (r : Result (Option Request) WireFault) → IsFront p input f → Tells f r → IsFront p input g → Tells g r
known_front p input f g r h tells k = subst (λ x. Tells x r) (one_front p input f g h k) tells

pub exact : (p : Protocol) (old new : Option (List ℕ)) (bytes : List ℕ) (r : Result (Option Request) WireFault) → Consumes old new bytes → ReadGives p new bytes r → IfSome old (λ input. (f : Front) → IsFront p input f → Tells f r)
exact p None new bytes r took gives = tt
exact p (Some input) None bytes r took gives = absurd took
exact p (Some input) (Some left) bytes (Ok None) took gives = λ f h. known_front p input AtEnd f (Ok None) (took ∙ ap (λ t. t ++ left) gives.0 ∙ gives.1) refl h
exact p (Some input) (Some left) bytes (Ok (Some q)) took gives = λ f h.
    known_front p input (Whole q left) f (Ok (Some q)) (record { parts = took ∙ ap (λ t. t ++ left) (gives.parts ∙ append-nil (request_frame q)); request = gives.request }) (left, refl) h
exact p (Some input) (Some left) bytes (Err fault.TooLong) took gives = λ f h. known_front p input (Faulty TooLong) f (Err fault.TooLong) (subst (λ t. IsFaulty p t TooLong) (sym took) (still_too_long bytes left gives)) refl h
exact p (Some input) (Some left) bytes (Err fault.Truncated) took gives = λ f h.
    let all : bytes ≡ input = sym (took ∙ ap (λ t. bytes ++ t) gives.1 ∙ append-nil bytes) in
    known_front p input (Faulty Truncated) f (Err fault.Truncated) (subst (λ t. IsFaulty p t Truncated) all gives.0) refl h
exact p (Some input) (Some left) bytes (Err fault.Malformed) took gives = λ f h. known_front p input (Faulty Malformed) f (Err fault.Malformed) (subst (λ t. IsFaulty p t Malformed) (sym took) (still_malformed bytes left gives)) refl h
exact p (Some input) (Some left) bytes (Err fault.Read) took gives = λ f h. tt
exact p (Some input) (Some left) bytes (Err fault.NoMemory) took gives = λ f h. tt
