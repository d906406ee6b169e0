-- Results for a length field and the text after it.
use Rattle.std.proofs.Common.{◌≡◌, ℕ, ◌+◌, ◌≤◌, List, [], ◌∷◌, ◌++◌, length, take, drop, get_or, Option, Some, None, Result, Ok, Err, refl, sym, ap, ◌∙◌, subst, arith, append-nil}
use Rattle.std.proofs.lemmas.List.{take-append-drop, length-take-le, length-drop, take_all}
use lib.Seq.{take-add}
use Rattle.byteorder.specs.Endian.{big_bytes, big_number}
use Rattle.byteorder.specs.Numbers.{big_from-take}
use Rattle.wire.specs.Requests.{Request, Define, Put, Get, Remove, Contains, Invoke, InvokeAll, RoundEnd, Version, Forget}
use Rattle.wire.specs.declared.fault.WireFault.{WireFault}
use Rattle.wire.specs.declared.fault.WireFault.TheVariants as fault
use Rattle.wire.specs.declared.protocol.Protocol.{Protocol}
use Rattle.wire.specs.declared.protocol.Protocol.TheVariants.{Two}
use Rattle.wire.specs.Frames.{Knows, AreBytes, longest, frame, request_frame, request_text, IsText, IsRead, IsFaulty, ReadFault, cut_length, too_long, empty, cut_body, no_request, of_text}
use Rattle.jtypes.specs.declared.types.Arg.{Arg}
use Rattle.wire.specs.Requests.{next_asked}
use Rattle.wire.specs.declared.request.Request.{Request as Head}
use Rattle.wire.specs.Counting.{Counting, StaysCounted}
use Rattle.wire.specs.Reading.{Completes, ReadGives, ReadCounts, Admits, found}
use Rattle.wire.proofs.Once.{text_once, text_some}
use Rattle.wire.proofs.Numbers.{bytes_front, bytes_back, bytes_of_number}

-- Six bytes are a class in four bytes and a count in two bytes.
pub class_and_count : (head : List ℕ) → length head ≡ 6 → AreBytes head → head ≡ big_bytes 4 (big_number 4 head) ++ big_bytes 2 (big_number 2 (take 2 (drop 4 head)))
class_and_count head long bytes =
    let split : head ≡ take 4 head ++ drop 4 head = sym (take-append-drop 4 head) in
    let bytes' = subst AreBytes split bytes in
    let class : take 4 head ≡ big_bytes 4 (big_number 4 (take 4 head)) = bytes_of_number 4 (take 4 head) (length-take-le 4 head (omega (arith, long))) (bytes_front (take 4 head) (drop 4 head) bytes') in
    let two : length (drop 4 head) ≡ 2 = omega (arith, length-drop 4 head, long) in
    let all : drop 4 head ≡ take 2 (drop 4 head) = sym (take_all 2 (drop 4 head) (omega (arith, two))) in
    let count : drop 4 head ≡ big_bytes 2 (big_number 2 (take 2 (drop 4 head))) = bytes_of_number 2 (drop 4 head) two (bytes_back (take 4 head) (drop 4 head) bytes') ∙ ap (λ t. big_bytes 2 (big_number 2 t)) all in
    split ∙ ap (λ t. t ++ drop 4 head) (class ∙ ap (big_bytes 4) (big_from-take 0 4 4 head (omega arith))) ∙ ap (λ t. big_bytes 4 (big_number 4 head) ++ t) count

pub one_byte : (head : List ℕ) → length head ≡ 1 → head ≡ get_or head 0 0 ∷ []
one_byte [] long = absurd (omega (arith, long))
one_byte (x ∷ []) long = refl
one_byte (x ∷ y ∷ xs) long = absurd (omega (arith, long))

-- A length field and the text of a request of that length are its frame.
pub frame_ok : (p : Protocol) (n : ℕ) (text : List ℕ) (r : Request) → Knows p r → n ≤ longest → IsText text r → length text ≡ n → IsRead p (big_bytes 4 n ++ text) r []
frame_ok p n text r known short t long = record {
  parts = ap (λ m. big_bytes 4 m ++ text) (sym long) ∙ ap frame t.is ∙ sym (append-nil (request_frame r));
  request = record { known = known; in_range = t.in_range; short = omega (arith, short, long, ap length t.is) };
}

-- `frame_ok` for the first bytes of a longer list.
pub frame_at_front : (p : Protocol) (n : ℕ) (hand : List ℕ) (r : Request) → Knows p r → take 4 hand ≡ big_bytes 4 n → 4 + n ≤ length hand → n ≤ longest → IsText (take n (drop 4 hand)) r → IsRead p (take (4 + n) hand) r []
frame_at_front p n hand r known head within short t =
    let text : List ℕ = take n (drop 4 hand) in
    let parts : take (4 + n) hand ≡ big_bytes 4 n ++ text = take-add 4 n hand ∙ ap (λ l. l ++ text) head in
    let long : length text ≡ n = length-take-le n (drop 4 hand) (omega (arith, within, length-drop 4 hand)) in
    subst (λ l. IsRead p l r []) (sym parts) (frame_ok p n text r known short t long)

-- A length field and a text that can't be read give the same fault for the frame.
frame_err : (n : ℕ) (bytes : List ℕ) (left : Option (List ℕ)) (e : WireFault) → 1 ≤ n → n ≤ longest → Completes [] n left bytes (Err e) → ReadGives Two left (big_bytes 4 n ++ bytes) (Err e)
frame_err n bytes left fault.TooLong some short h = absurd h
frame_err n bytes left fault.Truncated some short h = (cut_body n bytes refl some short h.1, h.0)
frame_err n bytes left fault.Malformed some short h =
    no_request bytes [] (ap (λ m. big_bytes 4 m ++ bytes) (sym h.1) ∙ sym (append-nil (frame bytes))) (omega (arith, some, h.1)) (omega (arith, short, h.1)) (λ r t known. h.0 r t)
frame_err n bytes left fault.Read some short h = of_text n bytes refl short h
frame_err n bytes left fault.NoMemory some short h = record { length_is = n; rest = bytes; parts = refl; short = short; within = h }

-- Protocol 2 has all requests.
all_known : (r : Request) → Knows Two r
all_known (Define bytes) = tt
all_known (Put key value) = tt
all_known (Get key) = tt
all_known (Remove key) = tt
all_known (Contains key) = tt
all_known (Invoke class key args) = tt
all_known (InvokeAll class keys args) = tt
all_known RoundEnd = tt
all_known Version = tt
all_known (Forget class) = tt

pub frame_gives : (n : ℕ) (bytes : List ℕ) (left : Option (List ℕ)) (r : Result Request WireFault) → 1 ≤ n → n ≤ longest → Completes [] n left bytes r → ReadGives Two left (big_bytes 4 n ++ bytes) (found r)
frame_gives n bytes left (Ok r) some short h = frame_ok Two n bytes r (all_known r) short h.0 h.1
frame_gives n bytes left (Err e) some short h = frame_err n bytes left e some short h

-- ---- one protocol

faulty : (p : Protocol) (bytes : List ℕ) {f : ReadFault} → IsFaulty Two bytes f → IsFaulty p bytes f
faulty p bytes (cut_length some few) = cut_length some few
faulty p bytes (too_long n rest e fits long) = too_long n rest e fits long
faulty p bytes (empty rest e) = empty rest e
faulty p bytes (cut_body n rest e some short cut) = cut_body n rest e some short cut
faulty p bytes (no_request text rest e some short none) = no_request text rest e some short (λ r t known. none r t (all_known r))

-- The fault of a frame of no protocol is its fault in each protocol.
pub fault_gives : (p : Protocol) (left : Option (List ℕ)) (bytes : List ℕ) (e : WireFault) → ReadGives Two left bytes (Err e) → ReadGives p left bytes (Err e)
fault_gives p left bytes fault.TooLong h = faulty p bytes h
fault_gives p left bytes fault.Truncated h = (faulty p bytes h.0, h.1)
fault_gives p left bytes fault.Malformed h = faulty p bytes h
fault_gives p left bytes fault.Read h = h
fault_gives p left bytes fault.NoMemory h = h

-- The request of a frame, or `Malformed` if the protocol doesn't have it.
pub admitted : (p : Protocol) (left : Option (List ℕ)) (bytes : List ℕ) (r : Request) (res : Result (Option Request) WireFault) → IsRead Two bytes r [] → Admits p r res → ReadGives p left bytes res
admitted p left bytes r (Ok None) h a = absurd a
admitted p left bytes r (Ok (Some q)) h a = subst (λ x. IsRead p bytes x []) (sym a.0) (record { parts = h.parts; request = record { known = a.1; in_range = h.request.in_range; short = h.request.short } })
admitted p left bytes r (Err fault.TooLong) h a = absurd a
admitted p left bytes r (Err fault.Truncated) h a = absurd a
admitted p left bytes r (Err fault.Malformed) h a =
    let text : List ℕ = request_text r in
    let is : IsText text r = record { is = refl; in_range = h.request.in_range } in
    no_request text [] h.parts (text_some r) h.request.short (λ q t known. a (subst (Knows p) (text_once text q r t is) known))
admitted p left bytes r (Err fault.Read) h a = absurd a
admitted p left bytes r (Err fault.NoMemory) h a = absurd a

-- A request that the protocol doesn't have leaves the counts of the reader as a request does.
pub counts_admitted : {R : Type 0} (p : Protocol) (r : Request) (args : List Arg) (res : Result (Option Head) WireFault) (old new : Counting R) → Admits p r (next_asked args res) → StaysCounted old new → ReadCounts res old new
counts_admitted p r args (Ok None) old new a kept = absurd a
counts_admitted p r args (Ok (Some q)) old new a kept = kept
counts_admitted p r args (Err fault.TooLong) old new a kept = absurd a
counts_admitted p r args (Err fault.Truncated) old new a kept = absurd a
counts_admitted p r args (Err fault.Malformed) old new a kept = kept
counts_admitted p r args (Err fault.Read) old new a kept = absurd a
counts_admitted p r args (Err fault.NoMemory) old new a kept = absurd a
