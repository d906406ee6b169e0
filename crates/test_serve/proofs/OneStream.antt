-- The stream of a put and a get has its answer, and no other.
use Rattle.std.proofs.Common.{arith, ◌≡◌, ◌≢◌, ℕ, zero, suc, ℤ, pos, false, List, [], ◌∷◌, ◌++◌, Some, None, refl, sym, ap, ◌∙◌, subst, inl, inr, append_assoc}
use Rattle.std.proofs.lemmas.List.Elements.{All-cons, All-nil}
use Rattle.std.proofs.lemmas.List.Sorted.{IsPermutation-refl}
use Rattle.std.specs.List.{AllByRecursion}
use Rattle.jtypes.specs.declared.loader.LoadAnswer.{LoadAnswer}
use Rattle.jtypes.specs.Entry.{Entry}
use Rattle.jtypes.specs.Loading.{IsGiven}
use Rattle.round_outcome.specs.Outcome.{AreRefused}
use Rattle.stripe.specs.declared.call.Reply.{Reply as Told}
use Rattle.stripe.specs.declared.call.Reply.TheVariants as told
use Rattle.stripe.specs.History.{Record, entries_after, key_of}
use Rattle.stripe.specs.History as call
use Rattle.wire.specs.Requests.{Request, Put, Get, RoundEnd}
use Rattle.wire.specs.declared.protocol.Protocol.{Protocol}
use Rattle.wire.specs.Frames.{IsRequest}
use Rattle.wire.specs.declared.reply.Denial.TheVariants.{NoMemory}
use Rattle.wire.specs.declared.reply.Reply.{Reply}
use Rattle.wire.specs.declared.reply.Reply.TheVariants as reply
use Rattle.serve.specs.Rounds.{Job, one}
use Rattle.serve.specs.Rounds as rounds
use Rattle.serve.specs.Served.{requests_text, replies_text, Stand, stand, first_stand, IsRound, ended, all_told, Answers, IsServed}
use Rattle.serve.specs.Served as served
use Rattle.test_serve.specs.OneStream.{stream, answer, done, value_1, MayAnswer, whole, put_lacks}
use Rattle.test_serve.proofs.Read.{OneFront, one_reading}
use Rattle.test_serve.proofs.Gathered.{not_nil, same_front, are_open}
use Rattle.test_serve.proofs.Rounds.{PutTold, GetTold, put_round, get_round}

abbrev put : Request
put = Put (pos 5) (pos 1)

abbrev get : Request
get = Get (pos 5)

abbrev requests : List Request
requests = put ∷ RoundEnd ∷ get ∷ RoundEnd ∷ []

put_is_request : {p : Protocol} → IsRequest p put
put_is_request = record { known = tt; in_range = (record { sfits = omega arith }, record { sfits = omega arith }); short = omega arith }

get_is_request : {p : Protocol} → IsRequest p get
get_is_request = record { known = tt; in_range = record { sfits = omega arith }; short = omega arith }

end_is_request : {p : Protocol} → IsRequest p RoundEnd
end_is_request = record { known = tt; in_range = tt; short = omega arith }

all_requests : {p : Protocol} → AllByRecursion (IsRequest p) requests
all_requests = (put_is_request, (end_is_request, (get_is_request, (end_is_request, tt))))

text_is : stream ≡ requests_text requests
text_is = refl

module _ (p : Protocol) (gives : ℤ → LoadAnswer → Type 0) where
  -- ---- the stream has its answer

  -- a call with a reply isn't refused
  none_refused : (calls : List call.Call) (r : Told) → AreRefused false calls (Some r ∷ [])
  none_refused calls r zero c is none = absurd (cc)
  none_refused calls r (suc k) c is none = absurd (cc)

  abbrev put_record : Record
  put_record = record { caller = 0; number = 0; call = call.Put (pos 5) (pos 1); reply = told.Done; after = Some (pos 1); asked = None }

  abbrev get_record : Record
  get_record = record { caller = 0; number = 0; call = call.Get (pos 5); reply = told.Value (Some (pos 1)); after = Some (pos 1); asked = None }

  abbrev after_put : Stand
  after_put = stand [] (entries_after (λ k. None) (put_record ∷ []))

  abbrev after_get : Stand
  after_get = stand [] (entries_after after_put.entries (get_record ∷ []))

  put_is_round : IsRound false gives first_stand (put ∷ []) (reply.Done ∷ []) after_put
  put_is_round = record {
    works = Job 0 ∷ [];
    calls = call.Put (pos 5) (pos 1) ∷ [];
    answers = Some told.Done ∷ [];
    gathered = rounds.more [] [] [] [] [] put (one 0 (call.Put (pos 5) (pos 1))) rounds.none (rounds.puts (pos 5) (pos 1));
    done = record {
      count = refl;
      refused = none_refused (call.Put (pos 5) (pos 1) ∷ []) told.Done;
      history = put_record ∷ [];
      is = record { legal = ((refl, refl, refl), tt); given = All-cons (λ (r : Record). IsGiven gives (key_of r.call) r.asked) put_record [] tt (All-nil (λ (r : Record). IsGiven gives (key_of r.call) r.asked)); once = IsPermutation-refl _; left = λ k. refl };
    };
    told = refl;
  }

  get_is_round : IsRound false gives after_put (get ∷ []) (reply.Value (Some (pos 1)) ∷ []) after_get
  get_is_round = record {
    works = Job 0 ∷ [];
    calls = call.Get (pos 5) ∷ [];
    answers = Some (told.Value (Some (pos 1))) ∷ [];
    gathered = rounds.more [] [] [] [] [] get (one 0 (call.Get (pos 5))) rounds.none (rounds.gets (pos 5));
    done = record {
      count = refl;
      refused = none_refused (call.Get (pos 5) ∷ []) (told.Value (Some (pos 1)));
      history = get_record ∷ [];
      is = record { legal = ((refl, refl, refl), tt); given = All-cons (λ (r : Record). IsGiven gives (key_of r.call) r.asked) get_record [] tt (All-nil (λ (r : Record). IsGiven gives (key_of r.call) r.asked)); once = IsPermutation-refl _; left = λ k. refl };
    };
    told = refl;
  }

  pub is_served : IsServed p false gives stream (answer done value_1)
  is_served = record {
    left = after_get;
    serves = record {
      requests = requests;
      replies = reply.Done ∷ reply.RoundEnd ∷ reply.Value (Some (pos 1)) ∷ reply.RoundEnd ∷ [];
      each = all_requests;
      read = text_is;
      written = refl;
      answers = served.round (put ∷ RoundEnd ∷ []) (reply.Done ∷ reply.RoundEnd ∷ []) after_put after_get (get ∷ []) (reply.Value (Some (pos 1)) ∷ [])
          (served.round [] [] first_stand after_put (put ∷ []) (reply.Done ∷ []) served.Answers.none put_is_round) get_is_round;
    };
  }

  -- ---- the stream has no other answer

  -- answered requests, split before their last round
  record Last (asked : List Request) (replies : List Reply) (t : Stand) : Type 0 where
    before : List Request
    told : List Reply
    s : Stand
    more : List Request
    others : List Reply
    answers : Answers false gives before told s
    round : IsRound false gives s more others t
    asked_are : asked ≡ before ++ ended more
    replies_are : replies ≡ told ++ all_told others

  last : {asked : List Request} {replies : List Reply} {t : Stand} → Answers false gives asked replies t → asked ≢ [] → Last asked replies t
  last served.Answers.none some = absurd (some refl)
  last (served.round before told s t more others a r) some = record { before = before; told = told; s = s; more = more; others = others; answers = a; round = r; asked_are = refl; replies_are = refl }

  -- without requests there are no replies, and the state is the first one
  none_answered : {asked : List Request} {replies : List Reply} {t : Stand} → Answers false gives asked replies t → asked ≡ [] → (replies ≡ []) × (t ≡ first_stand)
  none_answered served.Answers.none e = (refl, refl)
  none_answered (served.round before told s t more others a r) e = absurd (not_nil (before ++ more) RoundEnd (append_assoc before more (RoundEnd ∷ []) ∙ e))

  -- the last of the requests that are answered is a round end
  ends_so : {asked : List Request} {replies : List Reply} {t : Stand} → Answers false gives asked replies t → (front : List Request) (q : Request) → asked ≡ front ++ q ∷ [] → q ≡ RoundEnd
  ends_so served.Answers.none front q e = absurd (not_nil front q (sym e))
  ends_so (served.round before told s t more others a r) front q e = sym ((same_front (before ++ more) front RoundEnd q (append_assoc before more (RoundEnd ∷ []) ∙ e)).1)

  -- without the last round end, the requests are those before the last round, followed by those of the last round
  parts_of : {asked : List Request} {replies : List Reply} {t : Stand} (l : Last asked replies t) (front : List Request) → asked ≡ front ++ RoundEnd ∷ [] → l.before ++ l.more ≡ front
  parts_of l front e = (same_front (l.before ++ l.more) front RoundEnd RoundEnd (append_assoc l.before l.more (RoundEnd ∷ []) ∙ sym l.asked_are ∙ e)).0

  nothing_of : {A : Type 0} (xs ys : List A) → xs ++ ys ≡ [] → (xs ≡ []) × (ys ≡ [])
  nothing_of [] ys e = (refl, e)
  nothing_of (x ∷ xs) ys e = absurd (cc)

  one_round : (before more : List Request) → before ++ more ≡ put ∷ [] → ((front : List Request) (q : Request) → before ≡ front ++ q ∷ [] → q ≡ RoundEnd) → (before ≡ []) × (more ≡ put ∷ [])
  one_round [] more e end = (refl, e)
  one_round (b ∷ before) more e end =
      let t : before ++ more ≡ [] = cc in
      let h : b ≡ put = cc in
      let n = nothing_of before more t in
      let wrong : b ≡ RoundEnd = end [] b (ap (λ l. b ∷ l) n.0) in
      absurd (differ (sym h ∙ wrong))
    where
      differ : put ≡ RoundEnd → ⊥
      differ e = cc

  two_rounds : (before more : List Request) → before ++ more ≡ put ∷ RoundEnd ∷ get ∷ [] → AllByRecursion (λ r. r ≢ RoundEnd) more → ((front : List Request) (q : Request) → before ≡ front ++ q ∷ [] → q ≡ RoundEnd)
      → (before ≡ put ∷ RoundEnd ∷ []) × (more ≡ get ∷ [])
  two_rounds [] more e are end = let h : AllByRecursion (λ r. r ≢ RoundEnd) (put ∷ RoundEnd ∷ get ∷ []) = subst (AllByRecursion (λ r. r ≢ RoundEnd)) e are in absurd (h.1.0 refl)
  two_rounds (a ∷ []) more e are end =
      let t : more ≡ RoundEnd ∷ get ∷ [] = cc in
      let h : AllByRecursion (λ r. r ≢ RoundEnd) (RoundEnd ∷ get ∷ []) = subst (AllByRecursion (λ r. r ≢ RoundEnd)) t are in absurd (h.0 refl)
  two_rounds (a ∷ b ∷ []) more e are end =
      let g : a ≡ put = cc in
      let h : b ≡ RoundEnd = cc in
      let t : more ≡ get ∷ [] = cc in
      (ap (λ x. x ∷ b ∷ []) g ∙ ap (λ x. put ∷ x ∷ []) h, t)
  two_rounds (a ∷ b ∷ c ∷ before) more e are end =
      let h : c ≡ get = cc in
      let t : before ++ more ≡ [] = cc in
      let n = nothing_of before more t in
      let wrong : c ≡ RoundEnd = end (a ∷ b ∷ []) c (ap (λ l. a ∷ b ∷ c ∷ l) n.0) in
      absurd (differ (sym h ∙ wrong))
    where
      differ : get ≡ RoundEnd → ⊥
      differ e = cc

  -- the reply to the first round, the put, and the entry of key 5 after it
  record AfterPut (replies : List Reply) (t : Stand) : Type 0 where
    r : Reply
    is : PutTold None r (t.entries (pos 5))
    replies_are : replies ≡ r ∷ reply.RoundEnd ∷ []

  put_answered : {asked : List Request} {replies : List Reply} {t : Stand} → Answers false gives asked replies t → asked ≡ put ∷ RoundEnd ∷ [] → AfterPut replies t
  put_answered {t = t} a e =
      let l = last a (λ none. some (sym none ∙ e)) in
      let p = one_round l.before l.more (parts_of l (put ∷ []) e) (ends_so l.answers) in
      let n = none_answered l.answers p.0 in
      let round : IsRound false gives l.s (put ∷ []) l.others t = subst (λ (q : List Request). IsRound false gives l.s q l.others t) p.1 l.round in
      let m = put_round gives l.s t l.others round in
      let empty : l.s.entries (pos 5) ≡ None = ap (λ (s : Stand). s.entries (pos 5)) n.1 in
      record {
        r = m.0;
        is = subst (λ (x : Entry). PutTold x m.0 (t.entries (pos 5))) empty m.2;
        replies_are = l.replies_are ∙ ap (λ x. x ++ all_told l.others) n.0 ∙ ap all_told m.1;
      }
    where
      some : [] ≡ put ∷ RoundEnd ∷ [] → ⊥
      some e = cc

  -- the bytes of the replies to both rounds
  abbrev replied : Reply → Reply → List ℕ
  replied p g = replies_text (p ∷ reply.RoundEnd ∷ g ∷ reply.RoundEnd ∷ [])

  may : (p g : Reply) (after : Entry) → PutTold None p after → GetTold after g → MayAnswer (replied p g)
  may p g after (inl (is, put)) got = subst (λ x. MayAnswer (replied x g)) (sym is) (value (subst (λ (e : Entry). GetTold e g) put got))
    where
      value : GetTold (Some (pos 1)) g → MayAnswer (replied reply.Done g)
      value e = subst (λ x. MayAnswer (replied reply.Done x)) (sym e) whole
  may p g after (inr (is, kept)) got = subst (λ x. MayAnswer (replied x g)) (sym is) (none (subst (λ (e : Entry). GetTold e g) kept got))
    where
      none : GetTold None g → MayAnswer (replied (reply.Denied NoMemory) g)
      none e = subst (λ x. MayAnswer (replied (reply.Denied NoMemory) x)) (sym e) put_lacks

  both_answered : {asked : List Request} {replies : List Reply} {t : Stand} → Answers false gives asked replies t → asked ≡ requests → MayAnswer (replies_text replies)
  both_answered {t = t} a e =
      let l = last a (λ none. some (sym none ∙ e)) in
      let p = two_rounds l.before l.more (parts_of l (put ∷ RoundEnd ∷ get ∷ []) e) (are_open l.round.gathered) (ends_so l.answers) in
      let first = put_answered l.answers p.0 in
      let round : IsRound false gives l.s (get ∷ []) l.others t = subst (λ (q : List Request). IsRound false gives l.s q l.others t) p.1 l.round in
      let m = get_round gives l.s t l.others (l.s.entries (pos 5)) refl round in
      let are = l.replies_are ∙ ap (λ x. x ++ all_told l.others) first.replies_are ∙ ap (λ x. first.r ∷ reply.RoundEnd ∷ all_told x) m.1 in
      subst (λ x. MayAnswer (replies_text x)) (sym are) (may first.r m.0 (l.s.entries (pos 5)) first.is m.2)
    where
      some : [] ≡ requests → ⊥
      some e = cc

  pub no_other : OneFront p → (output : List ℕ) → IsServed p false gives stream output → MayAnswer output
  no_other once output i =
      let v = i.serves in
      subst MayAnswer (sym v.written) (both_answered v.answers (one_reading once v.requests requests v.each all_requests (sym v.read ∙ text_is)))
