-- Which rounds of a stream that was cut short were answered.
use Rattle.std.proofs.Common.{◌≡◌, ℕ, ℤ, Bool, ◌+◌, ◌≤◌, length, List, [], ◌∷◌, ◌++◌, None, refl, sym, ap, ◌∙◌, subst, arith, append_assoc, append-nil}
use Rattle.std.specs.List.{AllByRecursion}
use Rattle.jtypes.specs.declared.loader.LoadAnswer.{LoadAnswer}
use Rattle.wire.specs.Requests.{Request, Define, Put, Get, Remove, Contains, Invoke, InvokeAll, RoundEnd, Version, Forget}
use Rattle.std.specs.Int.{bytes_high_first}
use Rattle.std.proofs.lemmas.List.{length-append}
use Rattle.wire.specs.Frames.{request_frame, request_text, IsRequest, IsRead, IsPart, IsBegun, of_length, of_text}
use Rattle.wire.proofs.Parsed.{same_numbers}
use Rattle.wire.specs.declared.protocol.Protocol.{Protocol}
use Rattle.wire.specs.Frames as frames
use Rattle.serve.specs.declared.fault.ServeFault.{ServeFault}
use Rattle.serve.specs.declared.fault.ServeFault.TheVariants as fault
use Rattle.serve.specs.Served.{requests_text, Stand, first_stand, ended, Serves, AreOpen, Stops, too_long, cut, input_ended, malformed, reader, frame_memory, memory, Fails, unread, no_memory, writer, IsCutShort, EndsEarly}
use Rattle.serve.specs.CutShort.{ends, EndAtMost, AnsweredBut, IsTold}
use Rattle.serve.proofs.Fronts.{OneFront, Compared, shorter, longer, compare, nothing_is_read, no_fault_is_read}
use Rattle.serve.proofs.Begun.{nil_of}
use Rattle.serve.proofs.Rounds.{each_more, open_requests, end_is_request, nothing_yet}

-- ---- the number of rounds that end

ends_append : (xs ys : List Request) → ends (xs ++ ys) ≡ ends xs + ends ys
ends_append [] ys = omega arith
ends_append (Define bytes ∷ xs) ys = ends_append xs ys
ends_append (Put key value ∷ xs) ys = ends_append xs ys
ends_append (Get key ∷ xs) ys = ends_append xs ys
ends_append (Remove key ∷ xs) ys = ends_append xs ys
ends_append (Contains key ∷ xs) ys = ends_append xs ys
ends_append (Invoke class key args ∷ xs) ys = ends_append xs ys
ends_append (InvokeAll class keys args ∷ xs) ys = ends_append xs ys
ends_append (Version ∷ xs) ys = ends_append xs ys
ends_append (Forget class ∷ xs) ys = ends_append xs ys
ends_append (RoundEnd ∷ xs) ys = let e = ends_append xs ys in omega (arith, e)

none_ends : (p : Protocol) (xs : List Request) → AreOpen p xs → ends xs ≡ 0
none_ends p [] are = refl
none_ends p (Define bytes ∷ xs) are = none_ends p xs are.1
none_ends p (Put key value ∷ xs) are = none_ends p xs are.1
none_ends p (Get key ∷ xs) are = none_ends p xs are.1
none_ends p (Remove key ∷ xs) are = none_ends p xs are.1
none_ends p (Contains key ∷ xs) are = none_ends p xs are.1
none_ends p (Invoke class key args ∷ xs) are = none_ends p xs are.1
none_ends p (InvokeAll class keys args ∷ xs) are = none_ends p xs are.1
none_ends p (Version ∷ xs) are = none_ends p xs are.1
none_ends p (Forget class ∷ xs) are = none_ends p xs are.1
none_ends p (RoundEnd ∷ xs) are = absurd (are.0.1 refl)

one_ends : (p : Protocol) (xs : List Request) → AreOpen p xs → ends (ended xs) ≡ 1
one_ends p xs are = let e = ends_append xs (RoundEnd ∷ []) in let n = none_ends p xs are in omega (arith, e, n)

-- `HasNone` holds if the bytes begin with no whole frame.
abbrev HasNone : Protocol → List ℕ → Type 0
HasNone p bytes = (r : Request) (rest : List ℕ) → IsRead p bytes r rest → ⊥

-- A part of a frame begins with no whole frame.
part_has_none : {p : Protocol} → OneFront p → (bytes : List ℕ) → IsPart bytes → HasNone p bytes
part_has_none once [] (of_length short) = nothing_is_read once
part_has_none once (b ∷ bytes) (of_length short) = no_fault_is_read once (b ∷ bytes) frames.Truncated (frames.cut_length (omega arith) short)
part_has_none once bytes (of_text n rest is few some) = no_fault_is_read once bytes frames.Truncated (frames.cut_body n rest is (omega (arith, some)) few some)

-- If no whole frame follows `requests`, no more rounds end in the whole frames of `back` than in `requests`.
few_end : {p : Protocol} → OneFront p → (back : List ℕ) (requests : List Request) (extra : List ℕ) → AllByRecursion (IsRequest p) requests → back ≡ requests_text requests ++ extra → HasNone p extra → (n : ℕ) → ends requests ≤ n
    → EndAtMost p n back
few_end {p = p} once back requests extra each parts none n few whole b = go (compare once whole requests b.rest extra b.each each (sym b.parts ∙ parts))
  where
    go : Compared p whole requests b.rest extra → ends whole ≤ n
    go (shorter zs is) = let e = ap ends is ∙ ends_append whole zs in omega (arith, e, few)
    go (longer z zs is are more) = absurd (none z (requests_text zs ++ b.rest) (record { parts = more ∙ append_assoc (request_frame z) (requests_text zs) b.rest; request = are.0 }))

unended : {p : Protocol} → OneFront p → (back : List ℕ) (requests : List Request) (extra : List ℕ) → AreOpen p requests → back ≡ requests_text requests ++ extra → HasNone p extra → EndAtMost p 0 back
unended {p = p} once back requests extra are taken none = let n = none_ends p requests are in few_end once back requests extra (open_requests p requests are) taken none 0 (omega (arith, n))

last : {p : Protocol} → OneFront p → (back : List ℕ) (requests : List Request) → AreOpen p requests → back ≡ requests_text (ended requests) → EndAtMost p 1 back
last {p = p} once back requests are taken =
    let n = one_ends p requests are in
    few_end once back (ended requests) [] (each_more (IsRequest p) requests RoundEnd (open_requests p requests are) end_is_request) (taken ∙ sym (append-nil (requests_text (ended requests)))) (nothing_is_read once) 1 (omega (arith, n))

-- If a frame, or a prefix of one, begins with a whole frame, nothing follows that frame.
nothing_behind : {p : Protocol} (extra : List ℕ) → IsBegun extra → (r : Request) (tail : List ℕ) → IsRequest p r → extra ≡ request_frame r ++ tail → tail ≡ []
nothing_behind extra b r tail is e =
    let short = b.short in
    let other = is.short in
    let same = same_numbers 4 b.length_is (length (request_text r)) b.rest (request_text r ++ tail) (omega (arith, short)) (omega (arith, other)) (sym b.parts ∙ e ∙ append_assoc (bytes_high_first 4 (length (request_text r))) (request_text r) tail) in
    let count : length b.rest ≡ length (request_text r) + length tail = ap length same.1 ∙ length-append (request_text r) tail in
    let length_is = same.0 in
    let within = b.within in
    nil_of tail (omega (arith, count, length_is, within))

-- At most one round ends in a frame, or in a prefix of one.
one_at_most : {p : Protocol} → OneFront p → (extra : List ℕ) → IsBegun extra → (r : Request) (requests : List Request) (rest : List ℕ) → AllByRecursion (IsRequest p) (r ∷ requests) → extra ≡ requests_text (r ∷ requests) ++ rest → ends (r ∷ requests) ≤ 1
one_at_most {p = p} once extra b r requests rest are parts = alone requests are.1 (nothing_behind extra b r (requests_text requests ++ rest) are.0 (parts ∙ append_assoc (request_frame r) (requests_text requests) rest))
  where
    ends_once : (r : Request) → ends (r ∷ []) ≤ 1
    ends_once (Define bytes) = omega arith
    ends_once (Put key value) = omega arith
    ends_once (Get key) = omega arith
    ends_once (Remove key) = omega arith
    ends_once (Contains key) = omega arith
    ends_once (Invoke class key args) = omega arith
    ends_once (InvokeAll class keys args) = omega arith
    ends_once RoundEnd = omega arith
    ends_once Version = omega arith
    ends_once (Forget class) = omega arith

    alone : (xs : List Request) → AllByRecursion (IsRequest p) xs → requests_text xs ++ rest ≡ [] → ends (r ∷ xs) ≤ 1
    alone [] all e = ends_once r
    alone (x ∷ xs) all e = absurd (nothing_is_read once x (requests_text xs ++ rest) (record { parts = sym e ∙ append_assoc (request_frame x) (requests_text xs) rest; request = all.0 }))

begun : {p : Protocol} → OneFront p → (back : List ℕ) (requests : List Request) (extra : List ℕ) → AreOpen p requests → back ≡ requests_text requests ++ extra → IsBegun extra → EndAtMost p 1 back
begun {p = p} once back requests extra are taken is whole b = go (compare once whole requests b.rest extra b.each (open_requests p requests are) (sym b.parts ∙ taken))
  where
    go : Compared p whole requests b.rest extra → ends whole ≤ 1
    go (shorter zs parts) = let e = ap ends parts ∙ ends_append whole zs in let n = none_ends p requests are in omega (arith, e, n)
    go (longer z zs parts each more) = let e = ap ends parts ∙ ends_append requests (z ∷ zs) in let n = none_ends p requests are in let one = one_at_most once extra is z zs b.rest each more in omega (arith, e, n, one)

module _ (p : Protocol) (loads : Bool) (gives : ℤ → LoadAnswer → Type 0) where
  -- ---- answered rounds

  all_but : (n : ℕ) (input output front back : List ℕ) (s : Stand) → input ≡ front ++ back → Serves p loads gives front output s → EndAtMost p n back → AnsweredBut p loads gives n input output
  all_but n input output front back s parts v few = record { front = front; back = back; parts = parts; served = record { left = s; serves = v }; unanswered = few }

  told_unread : OneFront p → (input output front back : List ℕ) (s : Stand) (f : ServeFault) (requests : List Request) (extra : List ℕ) → input ≡ front ++ back → Serves p loads gives front output s → AreOpen p requests
      → back ≡ requests_text requests ++ extra → Stops p requests extra f → IsTold p loads gives input output f
  told_unread once input output front back s f requests extra parts v are taken (too_long other is) = all_but 0 input output front back s parts v (unended once back requests extra are taken (no_fault_is_read once extra frames.TooLong is))
  told_unread once input output front back s f requests extra parts v are taken (cut other is) = all_but 0 input output front back s parts v (unended once back requests extra are taken (no_fault_is_read once extra frames.Truncated is))
  told_unread once input output front back s f requests extra parts v are taken (input_ended some) = all_but 0 input output front back s parts v (unended once back requests [] are taken (nothing_is_read once))
  told_unread once input output front back s f requests extra parts v are taken (malformed other is) = all_but 0 input output front back s parts v (unended once back requests extra are taken (no_fault_is_read once extra frames.Malformed is))
  told_unread once input output front back s f requests extra parts v are taken (reader other is) = all_but 0 input output front back s parts v (unended once back requests extra are taken (part_has_none once extra is))
  told_unread once input output front back s f requests extra parts v are taken (frame_memory other is) = all_but 1 input output front back s parts v (begun once back requests extra are taken is)
  told_unread once input output front back s f requests extra parts v are taken memory = all_but 1 input output front back s parts v (few_end once back requests [] (open_requests p requests are) taken (nothing_is_read once) 1 (let n = none_ends p requests are in omega (arith, n)))

  told_of : OneFront p → (input output front back told part : List ℕ) (s : Stand) (f : ServeFault) → input ≡ front ++ back → output ≡ told ++ part → Serves p loads gives front told s → Fails p loads gives s back part f → IsTold p loads gives input output f
  told_of once input output front back told part s f parts is v (unread requests extra g are taken given stops) =
      told_unread once input output front back s g requests extra parts (subst (λ l. Serves p loads gives front l s) (sym (is ∙ ap (λ l. told ++ l) given ∙ append-nil told)) v) are taken stops
  told_of once input output front back told part s f parts is v (no_memory requests are taken given) =
      all_but 1 input output front back s parts (subst (λ l. Serves p loads gives front l s) (sym (is ∙ ap (λ l. told ++ l) given ∙ append-nil told)) v) (last once back requests are taken)
  told_of once input output front back told part s f parts is v (writer requests replies t missing are taken round text) =
      (told, part, is, all_but 1 input told front back s parts v (last once back requests are taken))

  cut_short : OneFront p → (input output : List ℕ) (f : ServeFault) → IsCutShort p loads gives input output f → IsTold p loads gives input output f
  cut_short once input output f c = told_of once input output c.front c.back c.told c.part c.left f c.input_is c.output_is c.serves c.fails

  pub is_told : OneFront p → (input output : List ℕ) (f : ServeFault) → EndsEarly p loads gives input output f → IsTold p loads gives input output f
  is_told once input output fault.TooLong h = cut_short once input output fault.TooLong h
  is_told once input output fault.Truncated h = cut_short once input output fault.Truncated h
  is_told once input output fault.Malformed h = cut_short once input output fault.Malformed h
  is_told once input output fault.Read h = cut_short once input output fault.Read h
  is_told once input output fault.NoMemory h = cut_short once input output fault.NoMemory h
  is_told once input output fault.Write h = cut_short once input output fault.Write h
  is_told once input output fault.BadCount h =
      let served : Serves p loads gives [] output first_stand = subst (λ l. Serves p loads gives [] l first_stand) (sym h.1) (nothing_yet p loads gives [] (λ k. None) refl (λ k. refl)) in
      all_but 0 input output [] [] first_stand h.0 served (unended once [] [] [] tt refl (nothing_is_read once))
