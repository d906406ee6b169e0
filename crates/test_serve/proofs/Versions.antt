-- The stream of a version and a forget has its answer in protocol 2, and no other. In protocol 1 it is malformed.
use Rattle.std.proofs.Common.{arith, ◌≡◌, ◌≢◌, ℕ, ℤ, false, List, [], ◌∷◌, ◌++◌, length, map, Option, Some, None, refl, sym, ap, ◌∙◌, subst, append_assoc}
use Rattle.std.proofs.lemmas.List.Elements.{All-nil}
use Rattle.std.proofs.lemmas.List.Sorted.{IsPermutation-refl}
use Rattle.std.specs.List.{AllByRecursion}
use Rattle.jtypes.specs.declared.loader.LoadAnswer.{LoadAnswer}
use Rattle.jtypes.specs.Loading.{IsGiven}
use Rattle.typecheck.specs.Typing.{Class}
use Rattle.stripe.specs.History.{Call, Record, key_of}
use Rattle.wire.specs.Requests.{Request, Define, Put, Get, Remove, Contains, Invoke, InvokeAll, RoundEnd, Version, Forget}
use Rattle.wire.specs.declared.protocol.Protocol.TheVariants.{One, Two}
use Rattle.wire.specs.declared.reply.Denial.TheVariants.{UnknownClass}
use Rattle.wire.specs.declared.reply.Reply.{Reply}
use Rattle.wire.specs.declared.reply.Reply.TheVariants as reply
use Rattle.wire.specs.Frames.{request_text, Knows, IsText, IsNoneOf, IsRequest, IsRead, IsFaulty, no_request, Front, Whole, Faulty, Malformed}
use Rattle.serve.specs.Classes.{Classes, class_at}
use Rattle.serve.specs.Rounds.{Work, Told, Part, told, Adds, Gathers, work_reply}
use Rattle.serve.specs.Rounds as rounds
use Rattle.serve.specs.Served.{requests_text, replies_text, Stand, first_stand, IsRound, ended, all_told, Answers, IsServed}
use Rattle.serve.specs.Served as served
use Rattle.test_serve.specs.Versions.{versions, versions_answer}
use Rattle.test_serve.proofs.Read.{OneFront, one_reading}
use Rattle.test_serve.proofs.Gathered.{not_nil, same_front, single}

abbrev requests : List Request
requests = Version ∷ Forget 0 ∷ RoundEnd ∷ []

abbrev asked : List Request
asked = Version ∷ Forget 0 ∷ []

abbrev works : List Work
works = Told (reply.Version 2) ∷ Told (reply.Denied UnknownClass) ∷ []

abbrev replies : List Reply
replies = reply.Version 2 ∷ reply.Denied UnknownClass ∷ []

all_requests : AllByRecursion (IsRequest Two) requests
all_requests = (
  record { known = tt; in_range = tt; short = omega arith },
  (record { known = tt; in_range = omega arith; short = omega arith }, (record { known = tt; in_range = tt; short = omega arith }, tt)),
)

text_is : versions ≡ requests_text requests
text_is = refl

-- ---- one round

abbrev IsOpen : Request → Type 0
IsOpen r = r ≢ RoundEnd

each_front : (xs ys : List Request) → AllByRecursion IsOpen (xs ++ ys) → AllByRecursion IsOpen xs
each_front [] ys h = tt
each_front (x ∷ xs) ys h = (h.0, each_front xs ys h.1)

each_back : (xs ys : List Request) → AllByRecursion IsOpen (xs ++ ys) → AllByRecursion IsOpen ys
each_back [] ys h = h
each_back (x ∷ xs) ys h = each_back xs ys h.1

-- the works of the round
version_is : {classes later : Classes} {at : ℕ} {p : Part} → Adds classes at Version p later → (p ≡ told (reply.Version 2)) × (later ≡ classes)
version_is rounds.tells_version = (refl, refl)

forget_is : {classes later : Classes} {at n : ℕ} {p : Part} → Adds classes at (Forget n) p later → class_at classes n ≡ None → p ≡ told (reply.Denied UnknownClass)
forget_is (rounds.forgets n c is) none = let e : None ≡ Some c = sym none ∙ is in absurd (differ c e)
  where
    differ : (c : Class) → None ≡ Some c → ⊥
    differ c e = cc
forget_is (rounds.forgets_none n is) none = refl

works_are : {found : List Work} {calls : List Call} {later : Classes} {all : List Request} → Gathers [] all found calls later → all ≡ asked → found ≡ works
works_are rounds.none e = absurd (cc)
works_are (rounds.more front found calls now later r p g a) e =
    let both = same_front front (Version ∷ []) r (Forget 0) e in
    let one = single g Version both.0 in
    let first = version_is one.adds in
    let adds : Adds now (length calls) (Forget 0) p later = subst (λ (x : Request). Adds now (length calls) x p later) both.1 a in
    let second = forget_is adds (ap (λ (l : Classes). class_at l 0) first.1) in
    ap (λ (l : List Work). l ++ p.work ∷ []) one.works_are ∙ ap (λ (q : Part). q.work ∷ p.work ∷ []) first.0 ∙ ap (λ (q : Part). Told (reply.Version 2) ∷ q.work ∷ []) second

module _ (gives : ℤ → LoadAnswer → Type 0) where
  -- answered requests without a round end are none
  nothing_asked : {front : List Request} {told : List Reply} {s : Stand} → Answers false gives front told s → (more : List Request) → AllByRecursion IsOpen (front ++ more) → (front ≡ []) × (told ≡ []) × (s ≡ first_stand)
  nothing_asked served.Answers.none more each = (refl, refl, refl)
  nothing_asked (served.round before told s t inner others a r) more each =
      let last = each_back inner (RoundEnd ∷ []) (each_back before (ended inner) (each_front (before ++ ended inner) more each)) in
      absurd (last.0 refl)

  record OneRound (front : List Request) (replies : List Reply) (t : Stand) : Type 0 where
    others : List Reply
    round : IsRound false gives first_stand front others t
    replies_are : replies ≡ all_told others

  one_round : {all : List Request} {replies : List Reply} {t : Stand} → Answers false gives all replies t → (front : List Request) → all ≡ front ++ RoundEnd ∷ [] → AllByRecursion IsOpen front → OneRound front replies t
  one_round served.Answers.none front e each = absurd (not_nil front RoundEnd (sym e))
  one_round (served.round before told s t more others a r) front e each =
      let parts : before ++ more ≡ front = (same_front (before ++ more) front RoundEnd RoundEnd (append_assoc before more (RoundEnd ∷ []) ∙ e)).0 in
      let n = nothing_asked a more (subst (AllByRecursion IsOpen) (sym parts) each) in
      let whole : more ≡ front = ap (λ (l : List Request). l ++ more) (sym n.0) ∙ parts in
      record {
        others = others;
        round = subst (λ (q : List Request). IsRound false gives first_stand q others t) whole (subst (λ (x : Stand). IsRound false gives x more others t) n.2 r);
        replies_are = ap (λ (l : List Reply). l ++ all_told others) n.1;
      }

  round_is : IsRound false gives first_stand asked replies first_stand
  round_is = record {
    works = works;
    calls = [];
    answers = [];
    gathered = rounds.more (Version ∷ []) (Told (reply.Version 2) ∷ []) [] [] [] (Forget 0) (told (reply.Denied UnknownClass))
        (rounds.more [] [] [] [] [] Version (told (reply.Version 2)) rounds.none rounds.tells_version) (rounds.forgets_none 0 refl);
    done = record {
      count = refl;
      refused = λ k c is none. absurd (cc);
      history = [];
      is = record { legal = tt; given = All-nil (λ (r : Record). IsGiven gives (key_of r.call) r.asked); once = IsPermutation-refl []; left = λ k. refl };
    };
    told = refl;
  }

  pub is_served : IsServed Two false gives versions versions_answer
  is_served = record {
    left = first_stand;
    serves = record {
      requests = requests;
      replies = all_told replies;
      each = all_requests;
      read = text_is;
      written = refl;
      answers = served.round [] [] first_stand first_stand asked replies served.Answers.none round_is;
    };
  }

  -- ---- no other answer

  pub no_other : OneFront Two → (output : List ℕ) → IsServed Two false gives versions output → output ≡ versions_answer
  no_other once output i =
      let v = i.serves in
      let same : v.requests ≡ requests = one_reading once v.requests requests v.each all_requests (sym v.read ∙ text_is) in
      let one = one_round v.answers asked same (version_open, (forget_open, tt)) in
      let are = one.round.told ∙ ap (λ (l : List Work). map (work_reply one.round.answers) l) (works_are one.round.gathered refl) in
      v.written ∙ ap replies_text (one.replies_are ∙ ap all_told are)
    where
      version_open : Version ≡ RoundEnd → ⊥
      version_open e = cc

      forget_open : Forget 0 ≡ RoundEnd → ⊥
      forget_open e = cc

  -- ---- in protocol 1

  heads : (a b : ℕ) (xs ys : List ℕ) → a ∷ xs ≡ b ∷ ys → a ≡ b
  heads a b xs ys e = cc

  no_text : (r : Request) → 9 ∷ [] ≡ request_text r → Knows One r → ⊥
  no_text (Define bytes) e known = let n = heads 9 1 _ _ e in omega (arith, n)
  no_text (Put key value) e known = let n = heads 9 2 _ _ e in omega (arith, n)
  no_text (Get key) e known = let n = heads 9 3 _ _ e in omega (arith, n)
  no_text (Remove key) e known = let n = heads 9 4 _ _ e in omega (arith, n)
  no_text (Contains key) e known = let n = heads 9 5 _ _ e in omega (arith, n)
  no_text (Invoke class key args) e known = let n = heads 9 6 _ _ e in omega (arith, n)
  no_text (InvokeAll class keys args) e known = let n = heads 9 7 _ _ e in omega (arith, n)
  no_text RoundEnd e known = let n = heads 9 8 _ _ e in omega (arith, n)
  no_text Version e known = known
  no_text (Forget class) e known = known

  is_malformed : IsFaulty One versions Malformed
  is_malformed = no_request (9 ∷ []) (requests_text (Forget 0 ∷ RoundEnd ∷ [])) refl (omega arith) (omega arith) (λ r t known. no_text r t.is known)

  pub not_served : OneFront One → (output : List ℕ) → IsServed One false gives versions output → ⊥
  not_served once output i = go i.serves.requests i.serves.each i.serves.read
    where
      differ : (r : Request) (rest : List ℕ) → Faulty Malformed ≡ Whole r rest → ⊥
      differ r rest e = cc

      go : (all : List Request) → AllByRecursion (IsRequest One) all → versions ≡ requests_text all → ⊥
      go [] each e = cc
      go (r ∷ rs) each e = differ r (requests_text rs) (once versions (Faulty Malformed) (Whole r (requests_text rs)) is_malformed (record { parts = e; request = each.0 }))
