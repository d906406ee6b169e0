-- At most one list of requests has these bytes as its frames.
use Rattle.std.proofs.Common.{◌≡◌, ℕ, List, [], ◌∷◌, refl, sym, ap, ◌∙◌}
use Rattle.std.specs.List.{AllByRecursion}
use Rattle.wire.specs.Requests.{Request}
use Rattle.wire.specs.declared.protocol.Protocol.{Protocol}
use Rattle.wire.specs.Frames.{IsRequest, IsRead, Front, AtEnd, Whole, Faulty, IsFront}
use Rattle.serve.specs.Served.{requests_text}

abbrev pub OneFront : Protocol → Type 0
OneFront p = (bytes : List ℕ) (f g : Front) → IsFront p bytes f → IsFront p bytes g → f ≡ g

abbrev request_of : Request → Front → Request
request_of r AtEnd = r
request_of r (Whole q rest) = q
request_of r (Faulty f) = r

abbrev rest_of : Front → List ℕ
rest_of AtEnd = []
rest_of (Whole r rest) = rest
rest_of (Faulty f) = []

nothing_is_read : {p : Protocol} → OneFront p → (r : Request) (rest : List ℕ) → IsRead p [] r rest → ⊥
nothing_is_read once r rest read = ended (once [] AtEnd (Whole r rest) refl read)
  where
    ended : AtEnd ≡ Whole r rest → ⊥
    ended e = cc

pub one_reading : {p : Protocol} → OneFront p → (xs ys : List Request) → AllByRecursion (IsRequest p) xs → AllByRecursion (IsRequest p) ys → requests_text xs ≡ requests_text ys → xs ≡ ys
one_reading once [] [] h k e = refl
one_reading once [] (y ∷ ys) h k e = absurd (nothing_is_read once y (requests_text ys) (record { parts = e; request = k.0 }))
one_reading once (x ∷ xs) [] h k e = absurd (nothing_is_read once x (requests_text xs) (record { parts = sym e; request = h.0 }))
one_reading {p = p} once (x ∷ xs) (y ∷ ys) h k e =
    let one : IsRead p (requests_text (x ∷ xs)) x (requests_text xs) = record { parts = refl; request = h.0 } in
    let two : IsRead p (requests_text (x ∷ xs)) y (requests_text ys) = record { parts = e; request = k.0 } in
    let same : Whole x (requests_text xs) ≡ Whole y (requests_text ys) = once (requests_text (x ∷ xs)) (Whole x (requests_text xs)) (Whole y (requests_text ys)) one two in
    ap (λ r. r ∷ xs) (ap (request_of x) same) ∙ ap (λ l. y ∷ l) (one_reading once xs ys h.1 k.1 (ap rest_of same))
