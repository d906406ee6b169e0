-- A stream that was cut short can be continued.
use Rattle.std.proofs.Common.{◌≡◌, ◌≢◌, ◌⊎◌, ℕ, ℤ, Bool, List, [], ◌∷◌, ◌++◌, length, map, Option, Some, None, refl, sym, ap, ◌∙◌, subst, inl, inr, arith, append_assoc, append-nil}
use Rattle.std.specs.List.{AllByRecursion}
use Rattle.std.proofs.lemmas.Bool.{cases_lt}
use Rattle.std.proofs.lemmas.List.Elements.{All-nil}
use Rattle.std.proofs.lemmas.List.Sorted.{IsPermutation-refl}
use Rattle.jtypes.specs.declared.refusal.Refusal.TheVariants as refusal
use Rattle.jtypes.specs.declared.loader.LoadAnswer.{LoadAnswer}
use Rattle.jtypes.specs.Loading.{IsGiven}
use Rattle.typecheck.specs.Typing.{Class}
use Rattle.serve.specs.Classes.{Classes, class_at, without, held, most_classes, most_numbers}
use Rattle.stripe.specs.History.{Call, Entries, Record, key_of}
use Rattle.stripe.specs.declared.call.Reply.{Reply as Answer}
use Rattle.wire.specs.Requests.{Request, Define, Put, Get, Remove, Contains, Invoke, InvokeAll, RoundEnd, Version, Forget}
use Rattle.wire.specs.declared.protocol.Protocol.{Protocol}
use Rattle.wire.specs.declared.reply.Denial.TheVariants.{TooManyClasses, UnknownClass}
use Rattle.wire.specs.declared.reply.Reply.{Reply}
use Rattle.wire.specs.declared.reply.Reply.TheVariants as reply
use Rattle.wire.specs.Frames.{request_frame, IsRequest}
use Rattle.serve.specs.declared.fault.ServeFault.{ServeFault}
use Rattle.serve.specs.declared.fault.ServeFault.TheVariants as fault
use Rattle.serve.specs.Rounds.{Work, Part, Adds, Gathers, told, work_reply}
use Rattle.serve.specs.Rounds as rounds
use Rattle.serve.specs.Served.{requests_text, replies_text, Stand, stand, first_stand, IsRound, ended, all_told, Serves, IsServed, AreOpen, Fails, unread, no_memory, writer, IsCutShort, EndsEarly}
use Rattle.serve.specs.CutShort.{GoesOn, FramesGoOn}
use Rattle.serve.proofs.Made.{all_made}
use Rattle.serve.proofs.Fronts.{OneFront, Compared, shorter, longer, compare}
use Rattle.serve.proofs.Rounds.{each_more, texts_append, texts_more, serves_more, nothing_yet}

pub is_end : (r : Request) → (r ≡ RoundEnd) ⊎ (r ≢ RoundEnd)
is_end (Define bytes) = inr (λ e. cc)
is_end (Put key value) = inr (λ e. cc)
is_end (Get key) = inr (λ e. cc)
is_end (Remove key) = inr (λ e. cc)
is_end (Contains key) = inr (λ e. cc)
is_end (Invoke class key args) = inr (λ e. cc)
is_end (InvokeAll class keys args) = inr (λ e. cc)
is_end RoundEnd = inl refl
is_end Version = inr (λ e. cc)
is_end (Forget class) = inr (λ e. cc)

-- ---- each round can be answered

forget_part : (classes : Classes) (at n : ℕ) (o : Option Class) → class_at classes n ≡ o → (p : Part) × (later : Classes) × Adds classes at (Forget n) p later
forget_part classes at n None is = (told (reply.Denied UnknownClass), classes, rounds.forgets_none n is)
forget_part classes at n (Some c) is = (told reply.Done, without n classes, rounds.forgets n c is)

-- Each request other than `RoundEnd` has a part.
some_part : (classes : Classes) (at : ℕ) (r : Request) → r ≢ RoundEnd → (p : Part) × (later : Classes) × Adds classes at r p later
some_part classes at (Define bytes) open_yet = elim (cases_lt (length classes) most_numbers) [
  | inl numbers ↦ elim (cases_lt (held classes) most_classes) [
    | inl few ↦ (told (reply.Refused refusal.NoMemory), classes, rounds.lacks_memory bytes (record { few = few; numbers = numbers }))
    | inr many ↦ (told (reply.Denied TooManyClasses), classes, rounds.too_many bytes (inl many))
  ]
  | inr many ↦ (told (reply.Denied TooManyClasses), classes, rounds.too_many bytes (inr many))
]
some_part classes at (Put key value) open_yet = (_, classes, rounds.puts key value)
some_part classes at (Get key) open_yet = (_, classes, rounds.gets key)
some_part classes at (Remove key) open_yet = (_, classes, rounds.removes key)
some_part classes at (Contains key) open_yet = (_, classes, rounds.looks key)
some_part classes at (Invoke class key args) open_yet = (_, classes, rounds.invokes class key args)
some_part classes at (InvokeAll class keys args) open_yet = (_, classes, rounds.invokes_all class keys args)
some_part classes at Version open_yet = (_, classes, rounds.tells_version)
some_part classes at (Forget n) open_yet = forget_part classes at n (class_at classes n) refl
some_part classes at RoundEnd open_yet = absurd (open_yet refl)

record Gathered (first : Classes) (requests : List Request) : Type 0 where
  works : List Work
  calls : List Call
  later : Classes
  gathered : Gathers first requests works calls later

gather : (protocol : Protocol) (first : Classes) (front rest : List Request) → Gathered first front → AreOpen protocol rest → Gathered first (front ++ rest)
gather protocol first front [] g are = subst (Gathered first) (sym (append-nil front)) g
gather protocol first front (r ∷ rest) g are =
    let (p, later, adds) = some_part g.later (length g.calls) r are.0.1 in
    let more : Gathered first (front ++ r ∷ []) = record {
      works = g.works ++ p.work ∷ [];
      calls = g.calls ++ p.calls;
      later = later;
      gathered = rounds.more front g.works g.calls g.later later r p g.gathered adds;
    } in
    subst (Gathered first) (append_assoc front (r ∷ []) rest) (gather protocol first (front ++ r ∷ []) rest more are.1)

module _ (p : Protocol) (loads : Bool) (gives : ℤ → LoadAnswer → Type 0) where
  record Round (s : Stand) (requests : List Request) : Type 0 where
    replies : List Reply
    after : Stand
    is : IsRound loads gives s requests replies after

  some_round : (s : Stand) (requests : List Request) → AreOpen p requests → Round s requests
  some_round s requests are =
      let g = gather p s.classes [] requests (record { works = []; calls = []; later = s.classes; gathered = rounds.none }) are in
      let made = all_made loads gives g.calls s.entries in record {
        replies = map (work_reply made.answers) g.works;
        after = stand g.later made.after;
        is = record { works = g.works; calls = g.calls; answers = made.answers; gathered = g.gathered; done = made.done; told = refl };
      }

  -- ---- each stream can be answered

  behind : (input told text : List ℕ) → GoesOn p loads gives input (told ++ text) → GoesOn p loads gives input told
  behind input told text g = record { more = g.more; later = text ++ g.later; served = subst (IsServed p loads gives (input ++ g.more)) (append_assoc told text g.later) g.served }

  -- Whole rounds that were served, requests of an open round and further requests can be continued.
  answer_all : (front told : List ℕ) (s : Stand) → Serves p loads gives front told s → (begun rest : List Request) → AreOpen p begun → AllByRecursion (IsRequest p) rest
      → GoesOn p loads gives ((front ++ requests_text begun) ++ requests_text rest) told
  answer_all front told s v begun [] are each =
      let r = some_round s begun are in
      let text = front ++ requests_text begun in
      let parts : front ++ requests_text (ended begun) ≡ (text ++ []) ++ request_frame RoundEnd =
      ap (λ l. front ++ l) (texts_more request_frame begun RoundEnd) ∙ sym (append_assoc front (requests_text begun) (request_frame RoundEnd)) ∙ ap (λ l. l ++ request_frame RoundEnd) (sym (append-nil text)) in record {
        more = request_frame RoundEnd;
        later = replies_text (all_told r.replies);
        served = subst (λ l. IsServed p loads gives l (told ++ replies_text (all_told r.replies))) parts (record { left = r.after; serves = serves_more p loads gives front told s r.after begun r.replies v are r.is });
      }
  answer_all front told s v begun (q ∷ rest) are each = elim (is_end q) [
    | inl e ↦
        let r = some_round s begun are in
        let text = replies_text (all_told r.replies) in
        let whole = front ++ requests_text (ended begun) in
        let later = answer_all whole (told ++ text) r.after (serves_more p loads gives front told s r.after begun r.replies v are r.is) [] rest tt each.1 in
        let end : whole ++ [] ≡ (front ++ requests_text begun) ++ request_frame q =
        append-nil whole ∙ ap (λ l. front ++ l) (texts_more request_frame begun RoundEnd) ∙ sym (append_assoc front (requests_text begun) (request_frame RoundEnd)) ∙ ap (λ x. (front ++ requests_text begun) ++ request_frame x) (sym e) in
        let parts = ap (λ l. l ++ requests_text rest) end ∙ append_assoc (front ++ requests_text begun) (request_frame q) (requests_text rest) in
        subst (λ l. GoesOn p loads gives l told) parts (behind ((whole ++ []) ++ requests_text rest) told text later)
    | inr open_yet ↦
        let more = begun ++ q ∷ [] in
        let later = answer_all front told s v more rest (each_more (λ x. IsRequest p x × (x ≢ RoundEnd)) begun q are (each.0, open_yet)) each.1 in
        let one : front ++ requests_text more ≡ (front ++ requests_text begun) ++ request_frame q = ap (λ l. front ++ l) (texts_more request_frame begun q) ∙ sym (append_assoc front (requests_text begun) (request_frame q)) in
        let parts = ap (λ l. l ++ requests_text rest) one ∙ append_assoc (front ++ requests_text begun) (request_frame q) (requests_text rest) in
        subst (λ l. GoesOn p loads gives l told) parts later
  ]

  -- ---- each stream that was cut short can be continued

  -- Nothing was written after the answers to whole rounds.
  unwritten : OneFront p → (front told : List ℕ) (s : Stand) → Serves p loads gives front told s → (back input output : List ℕ) → input ≡ front ++ back → output ≡ told → FramesGoOn p loads gives input output
  unwritten once front told s v back input output input_is output_is requests b =
      let same : requests_text requests ++ b.rest ≡ requests_text v.requests ++ back = sym b.parts ∙ input_is ∙ ap (λ l. l ++ back) v.read in
      subst (GoesOn p loads gives (requests_text requests)) (sym output_is) (go (compare once requests v.requests b.rest back b.each v.each same))
    where
      served : IsServed p loads gives front told
      served = record { left = s; serves = v }

      go : Compared p requests v.requests b.rest back → GoesOn p loads gives (requests_text requests) told
      go (shorter zs is) =
          let read : front ≡ requests_text requests ++ requests_text zs = v.read ∙ ap requests_text is ∙ texts_append request_frame requests zs in
          record { more = requests_text zs; later = []; served = subst (IsServed p loads gives (requests_text requests ++ requests_text zs)) (sym (append-nil told)) (subst (λ l. IsServed p loads gives l told) read served) }
      go (longer z zs is each parts) =
          let read : front ++ [] ≡ requests_text v.requests = append-nil front ∙ v.read in
          let all = ap (λ l. l ++ requests_text (z ∷ zs)) read ∙ sym (texts_append request_frame v.requests (z ∷ zs)) ∙ ap requests_text (sym is) in
          subst (λ l. GoesOn p loads gives l told) all (answer_all front told s v [] (z ∷ zs) tt each)

  -- An answer was partly written.
  begun : (whole answer output missing : List ℕ) → IsServed p loads gives whole answer → answer ≡ output ++ missing → FramesGoOn p loads gives whole output
  begun whole answer output missing v is requests b = record {
    more = b.rest;
    later = missing;
    served = subst (λ l. IsServed p loads gives l (output ++ missing)) b.parts (subst (IsServed p loads gives whole) is v);
  }

  all_go_on : OneFront p → (input output front back told part : List ℕ) (s : Stand) (f : ServeFault) → input ≡ front ++ back → output ≡ told ++ part → Serves p loads gives front told s → Fails p loads gives s back part f
      → FramesGoOn p loads gives input output
  all_go_on once input output front back told part s f input_is output_is v (unread requests extra g are taken given stops) =
      unwritten once front told s v back input output input_is (output_is ∙ ap (λ l. told ++ l) given ∙ append-nil told)
  all_go_on once input output front back told part s f input_is output_is v (no_memory requests are taken given) =
      unwritten once front told s v back input output input_is (output_is ∙ ap (λ l. told ++ l) given ∙ append-nil told)
  all_go_on once input output front back told part s f input_is output_is v (writer requests replies t missing are taken round text) =
      let whole = front ++ requests_text (ended requests) in
      let served : IsServed p loads gives whole (told ++ replies_text (all_told replies)) = record { left = t; serves = serves_more p loads gives front told s t requests replies v are round } in
      let answer : told ++ replies_text (all_told replies) ≡ output ++ missing = ap (λ l. told ++ l) text ∙ sym (append_assoc told part missing) ∙ ap (λ l. l ++ missing) (sym output_is) in
      subst (λ l. FramesGoOn p loads gives l output) (sym (input_is ∙ ap (λ l. front ++ l) taken)) (begun whole (told ++ replies_text (all_told replies)) output missing served answer)

  cut_short : OneFront p → (input output : List ℕ) (f : ServeFault) → IsCutShort p loads gives input output f → FramesGoOn p loads gives input output
  cut_short once input output f c = all_go_on once input output c.front c.back c.told c.part c.left f c.input_is c.output_is c.serves c.fails

  pub goes_on : OneFront p → (input output : List ℕ) (f : ServeFault) → EndsEarly p loads gives input output f → FramesGoOn p loads gives input output
  goes_on once input output fault.TooLong h = cut_short once input output fault.TooLong h
  goes_on once input output fault.Truncated h = cut_short once input output fault.Truncated h
  goes_on once input output fault.Malformed h = cut_short once input output fault.Malformed h
  goes_on once input output fault.Read h = cut_short once input output fault.Read h
  goes_on once input output fault.NoMemory h = cut_short once input output fault.NoMemory h
  goes_on once input output fault.Write h = cut_short once input output fault.Write h
  goes_on once input output fault.BadCount h = unwritten once [] [] first_stand (nothing_yet p loads gives [] (λ k. None) refl (λ k. refl)) [] input output h.0 h.1
