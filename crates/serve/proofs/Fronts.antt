-- Two parses of the same bytes as frames.
use Rattle.std.proofs.Common.{◌≡◌, ℕ, List, [], ◌∷◌, ◌++◌, refl, sym, ap, ◌∙◌, append_assoc}
use Rattle.std.specs.List.{AllByRecursion}
use Rattle.wire.specs.Requests.{Request}
use Rattle.wire.specs.declared.protocol.Protocol.{Protocol}
use Rattle.wire.specs.Frames.{request_frame, IsRequest, IsRead, IsFaulty, ReadFault, Front, AtEnd, Whole, Faulty, IsFront}
use Rattle.serve.specs.Served.{requests_text}

abbrev pub OneFront : Protocol → Type 0
OneFront p = (bytes : List ℕ) (f g : Front) → IsFront p bytes f → IsFront p bytes g → f ≡ g

abbrev request_of : Request → Front → Request
request_of r AtEnd = r
request_of r (Whole q rest) = q
request_of r (Faulty f) = r

abbrev rest_of : Front → List ℕ
rest_of AtEnd = []
rest_of (Whole r rest) = rest
rest_of (Faulty f) = []

-- Of two lists of frames that the same bytes begin with, one is a prefix of the other.
pub data Compared (p : Protocol) (xs ys : List Request) (a b : List ℕ) : Type 0 where
  shorter : (zs : List Request) → ys ≡ xs ++ zs → Compared p xs ys a b
  longer : (z : Request) (zs : List Request) → xs ≡ ys ++ z ∷ zs → AllByRecursion (IsRequest p) (z ∷ zs) → b ≡ requests_text (z ∷ zs) ++ a → Compared p xs ys a b

next : {p : Protocol} (x y : Request) (xs ys : List Request) (a b : List ℕ) → x ≡ y → Compared p xs ys a b → Compared p (x ∷ xs) (y ∷ ys) a b
next x y xs ys a b e (shorter zs is) = shorter zs (ap (λ r. r ∷ ys) (sym e) ∙ ap (λ l. x ∷ l) is)
next x y xs ys a b e (longer z zs is each parts) = longer z zs (ap (λ r. r ∷ xs) e ∙ ap (λ l. y ∷ l) is) each parts

pub compare : {p : Protocol} → OneFront p → (xs ys : List Request) (a b : List ℕ) → AllByRecursion (IsRequest p) xs → AllByRecursion (IsRequest p) ys → requests_text xs ++ a ≡ requests_text ys ++ b → Compared p xs ys a b
compare once [] ys a b h k e = shorter ys refl
compare once (x ∷ xs) [] a b h k e = longer x xs refl h (sym e)
compare {p = p} once (x ∷ xs) (y ∷ ys) a b h k e =
    let one : IsRead p (requests_text (x ∷ xs) ++ a) x (requests_text xs ++ a) = record { parts = append_assoc (request_frame x) (requests_text xs) a; request = h.0 } in
    let two : IsRead p (requests_text (x ∷ xs) ++ a) y (requests_text ys ++ b) = record { parts = e ∙ append_assoc (request_frame y) (requests_text ys) b; request = k.0 } in
    let same : Whole x (requests_text xs ++ a) ≡ Whole y (requests_text ys ++ b) = once (requests_text (x ∷ xs) ++ a) (Whole x (requests_text xs ++ a)) (Whole y (requests_text ys ++ b)) one two in
    next x y xs ys a b (ap (request_of x) same) (compare once xs ys a b h.1 k.1 (ap rest_of same))

-- ---- bytes that begin with no whole frame

differ : (f : ReadFault) (r : Request) (rest : List ℕ) → Faulty f ≡ Whole r rest → ⊥
differ f r rest e = cc

pub nothing_is_read : {p : Protocol} → OneFront p → (r : Request) (rest : List ℕ) → IsRead p [] r rest → ⊥
nothing_is_read once r rest read = ended (once [] AtEnd (Whole r rest) refl read)
  where
    ended : AtEnd ≡ Whole r rest → ⊥
    ended e = cc

pub no_fault_is_read : {p : Protocol} → OneFront p → (bytes : List ℕ) (f : ReadFault) → IsFaulty p bytes f → (r : Request) (rest : List ℕ) → IsRead p bytes r rest → ⊥
no_fault_is_read once bytes f is r rest read = differ f r rest (once bytes (Faulty f) (Whole r rest) is read)
