-- Reads of consecutive parts of a text.
use Rattle.std.proofs.Common.{◌≡◌, ℕ, ◌+◌, ◌≤◌, List, ◌++◌, length, Option, Result, Ok, Err, subst, arith, append_assoc}
use Rattle.std.proofs.lemmas.List.{length-append}
use Rattle.wire.specs.Requests.{Request}
use Rattle.wire.specs.declared.fault.WireFault.{WireFault}
use Rattle.wire.specs.declared.fault.WireFault.TheVariants.{TooLong, Truncated, Malformed, Read, NoMemory}
use Rattle.wire.specs.Counting.{Counting, StaysCounted}
use Rattle.wire.specs.Frames.{IsText, IsNoRequest}
use Rattle.wire.specs.Reading.{FaultCounts, ReadCounts, IsCut, IsCutOrLacks, IsPassed, Parses, Completes}
use Rattle.wire.proofs.Streams.{risen_later, stays_on}

pub fault_later : {R : Type 0} (e : WireFault) (a b c : Counting R) → StaysCounted a b → FaultCounts e b c → FaultCounts e a c
fault_later TooLong a b c h k = stays_on a b c h k
fault_later Truncated a b c h k = stays_on a b c h k
fault_later Malformed a b c h k = stays_on a b c h k
fault_later Read a b c h k = risen_later a.failures b.failures c.failures h.0 k
fault_later NoMemory a b c h k = stays_on a b c h k

pub read_later : {R A : Type 0} (r : Result A WireFault) (a b c : Counting R) → StaysCounted a b → ReadCounts r b c → ReadCounts r a c
read_later (Ok x) a b c h k = stays_on a b c h k
read_later (Err e) a b c h k = fault_later e a b c h k

-- A read that is cut in a part is cut in the whole.
pub cut_later : (e : WireFault) (front bytes : List ℕ) (m n : ℕ) (left : Option (List ℕ)) → length front + m ≤ n → IsCut m left bytes e → IsCut n left (front ++ bytes) e
cut_later TooLong front bytes m n left h k = k
cut_later Truncated front bytes m n left h k = (k.0, omega (arith, k.1, length-append front bytes))
cut_later Malformed front bytes m n left h k = k
cut_later Read front bytes m n left h k = omega (arith, k, length-append front bytes)
cut_later NoMemory front bytes m n left h k = k

pub cut_or_lacks : (e : WireFault) (bytes : List ℕ) (n : ℕ) (left : Option (List ℕ)) → IsCut n left bytes e → IsCutOrLacks n left bytes e
cut_or_lacks TooLong bytes n left h = h
cut_or_lacks Truncated bytes n left h = h
cut_or_lacks Malformed bytes n left h = h
cut_or_lacks Read bytes n left h = h
cut_or_lacks NoMemory bytes n left h = absurd h

pub cut_passed : (e : WireFault) (bytes : List ℕ) (n : ℕ) (left : Option (List ℕ)) → IsCut n left bytes e → IsPassed n left bytes e
cut_passed TooLong bytes n left h = h
cut_passed Truncated bytes n left h = h
cut_passed Malformed bytes n left h = absurd h
cut_passed Read bytes n left h = h
cut_passed NoMemory bytes n left h = h

-- The fault of a cut read is a result of reading the text.
pub cut_completes : (e : WireFault) (before bytes : List ℕ) (n : ℕ) (left : Option (List ℕ)) → IsCutOrLacks n left bytes e → Completes before n left bytes (Err e)
cut_completes TooLong before bytes n left h = h
cut_completes Truncated before bytes n left h = h
cut_completes Malformed before bytes n left h = absurd h
cut_completes Read before bytes n left h = h
cut_completes NoMemory before bytes n left h = h

-- The fault of skipping a text is a result of reading it, if the whole text encodes no request.
pub passed_completes : (e : WireFault) (before bytes : List ℕ) (n : ℕ) (left : Option (List ℕ)) → (length bytes ≡ n → IsNoRequest (before ++ bytes)) → IsPassed n left bytes e → Completes before n left bytes (Err e)
passed_completes TooLong before bytes n left no_request h = h
passed_completes Truncated before bytes n left no_request h = h
passed_completes Malformed before bytes n left no_request h = (no_request h, h)
passed_completes Read before bytes n left no_request h = h
passed_completes NoMemory before bytes n left no_request h = absurd h

-- The result of parsing a whole text is a result of reading it.
pub parse_completes : (r : Result Request WireFault) (before bytes : List ℕ) (n : ℕ) (left : Option (List ℕ)) → length bytes ≡ n → Parses (before ++ bytes) r → Completes before n left bytes r
parse_completes (Ok r) before bytes n left e h = (h, e)
parse_completes (Err TooLong) before bytes n left e h = absurd h
parse_completes (Err Truncated) before bytes n left e h = absurd h
parse_completes (Err Malformed) before bytes n left e h = (h, e)
parse_completes (Err Read) before bytes n left e h = absurd h
parse_completes (Err NoMemory) before bytes n left e h = omega (arith, e)

-- A result of reading the second part is a result of reading both parts.
pub completes_more : (r : Result Request WireFault) (before front bytes : List ℕ) (m n : ℕ) (left : Option (List ℕ)) → length front + m ≡ n → Completes (before ++ front) m left bytes r → Completes before n left (front ++ bytes) r
completes_more (Ok r) before front bytes m n left e h = (subst (λ t. IsText t r) (append_assoc before front bytes) h.0, omega (arith, h.1, length-append front bytes))
completes_more (Err TooLong) before front bytes m n left e h = h
completes_more (Err Truncated) before front bytes m n left e h = (h.0, omega (arith, h.1, length-append front bytes))
completes_more (Err Malformed) before front bytes m n left e h = (subst IsNoRequest (append_assoc before front bytes) h.0, omega (arith, h.1, length-append front bytes))
completes_more (Err Read) before front bytes m n left e h = omega (arith, h, length-append front bytes)
completes_more (Err NoMemory) before front bytes m n left e h = omega (arith, h, length-append front bytes)

-- `completes_more`, where the bytes read before are given as `seen`.
pub completes_behind : (r : Result Request WireFault) (before front seen bytes : List ℕ) (m n : ℕ) (left : Option (List ℕ)) → seen ≡ before ++ front → length front + m ≡ n → Completes seen m left bytes r → Completes before n left (front ++ bytes) r
completes_behind r before front seen bytes m n left is e h = completes_more r before front bytes m n left e (subst (λ t. Completes t m left bytes r) is h)
