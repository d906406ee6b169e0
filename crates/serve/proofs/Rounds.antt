-- One more request, and one more round.
use Rattle.std.proofs.Common.{◌≡◌, ℕ, ℤ, ◌+◌, Bool, List, [], ◌∷◌, ◌++◌, length, map, Option, None, Err, refl, sym, ap, ◌∙◌, subst, arith, length-append, append_assoc, append-nil}
use Rattle.std.proofs.lemmas.List.{map-append}
use Rattle.std.specs.List.{AllByRecursion}
use Rattle.std.specs.Io.KnownBytes.{Consumes}
use Rattle.std.proofs.KnownBytes.{Consumes-trans}
use Rattle.jtypes.specs.declared.loader.LoadAnswer.{LoadAnswer}
use Rattle.serve.specs.Classes.{Classes}
use Rattle.stripe.specs.History.{Call, Entries}
use Rattle.stripe.specs.declared.call.Call.{Call as CallTaken}
use Rattle.invokeall.specs.Jobs.{all_seen}
use Rattle.wire.specs.Requests.{Request, RoundEnd}
use Rattle.wire.specs.declared.protocol.Protocol.{Protocol}
use Rattle.wire.specs.declared.reply.Reply.{Reply}
use Rattle.wire.specs.declared.reply.Reply.TheVariants as reply
use Rattle.wire.specs.declared.fault.WireFault.{WireFault}
use Rattle.wire.specs.declared.fault.WireFault.TheVariants as wire
use Rattle.wire.specs.Frames.{texts, request_frame, reply_frame, IsRequest, IsRead}
use Rattle.wire.specs.Reading.{ReadGives}
use Rattle.serve.specs.declared.fault.ServeFault.{ServeFault}
use Rattle.serve.specs.declared.batch.Batch.{Batch}
use Rattle.serve.specs.declared.batch.Work.{Work as Planned}
use Rattle.serve.specs.Rounds.{Part, Gathers, Work}
use Rattle.serve.specs.Rounds as rounds
use Rattle.serve.specs.Served as served
use Rattle.serve.specs.Served.{requests_text, replies_text, Stand, stand, first_stand, IsRound, ended, all_told, AreOpen, Answers, Serves, Stops, Fails, IsCutShort}
use Rattle.serve.specs.Kept.{fault_of_wire, work_of, works_of, calls_of, Adding, IsWhole, IsRun}

pub each_more : {A : Type 0} (P : A → Type 0) (xs : List A) (x : A) → AllByRecursion P xs → P x → AllByRecursion P (xs ++ x ∷ [])
each_more P [] x h p = (p, tt)
each_more P (y ∷ ys) x h p = (h.0, each_more P ys x h.1 p)

pub each_append : {A : Type 0} (P : A → Type 0) (xs ys : List A) → AllByRecursion P xs → AllByRecursion P ys → AllByRecursion P (xs ++ ys)
each_append P [] ys h g = g
each_append P (x ∷ xs) ys h g = (h.0, each_append P xs ys h.1 g)

pub open_requests : (p : Protocol) (xs : List Request) → AreOpen p xs → AllByRecursion (IsRequest p) xs
open_requests p [] h = tt
open_requests p (x ∷ xs) h = (h.0.0, open_requests p xs h.1)

pub texts_append : {A : Type 0} (f : A → List ℕ) (xs ys : List A) → texts f (xs ++ ys) ≡ texts f xs ++ texts f ys
texts_append f [] ys = refl
texts_append f (x ∷ xs) ys = ap (λ l. f x ++ l) (texts_append f xs ys) ∙ sym (append_assoc (f x) (texts f xs) (texts f ys))

pub texts_more : {A : Type 0} (f : A → List ℕ) (xs : List A) (x : A) → texts f (xs ++ x ∷ []) ≡ texts f xs ++ f x
texts_more f xs x = texts_append f xs (x ∷ []) ∙ ap (λ l. texts f xs ++ l) (append-nil (f x))

-- ---- one more request

pub took_more : {p : Protocol} (a b c : Option (List ℕ)) (xs : List Request) (r : Request) (bytes : List ℕ) → Consumes a b (requests_text xs) → Consumes b c bytes → IsRead p bytes r []
    → Consumes a c (requests_text (xs ++ r ∷ []))
took_more a b c xs r bytes h g e =
    subst (λ l. Consumes a c l) (ap (λ l. requests_text xs ++ l) (e.parts ∙ append-nil (request_frame r)) ∙ sym (texts_more request_frame xs r)) (Consumes-trans a b c (requests_text xs) bytes h g)

pub as_many : {first later : Classes} {requests : List Request} {works : List Work} {calls : List Call} → Gathers first requests works calls later → length works ≡ length requests
as_many rounds.none = refl
as_many (rounds.more requests works calls now later r p g a) = length-append works (p.work ∷ []) ∙ ap (λ n. n + 1) (as_many g) ∙ sym (length-append requests (r ∷ []))

pub begun : (first : Classes) (works : List Planned) (calls : List CallTaken) → works ≡ [] → calls ≡ [] → Gathers first [] (map work_of works) (all_seen calls) first
begun first works calls e c = subst (λ l. Gathers first [] (map work_of l) (all_seen calls) first) (sym e) (subst (λ l. Gathers first [] [] (all_seen l) first) (sym c) rounds.none)

pub gathered_more : (first now later : Classes) (xs : List Request) (r : Request) (old new : Batch) → Gathers first xs (works_of old) (calls_of old) now → Adding now old r new later
    → Gathers first (xs ++ r ∷ []) (works_of new) (calls_of new) later
gathered_more first now later xs r old new g a =
    subst (λ l. Gathers first (xs ++ r ∷ []) l (calls_of new) later) (sym a.grows.works)
    (subst (λ l. Gathers first (xs ++ r ∷ []) (works_of old ++ a.part.work ∷ []) l later) (sym a.grows.calls) (rounds.more xs (works_of old) (calls_of old) now later r a.part g a.adds))

pub stops_of : {p : Protocol} (left : Option (List ℕ)) (requests : List Request) (bytes : List ℕ) (e : WireFault) → ReadGives p left bytes (Err e) → Stops p requests bytes (fault_of_wire e)
stops_of left requests bytes wire.TooLong gives = served.too_long bytes gives
stops_of left requests bytes wire.Truncated gives = served.cut bytes gives.0
stops_of left requests bytes wire.Malformed gives = served.malformed bytes gives
stops_of left requests bytes wire.Read gives = served.reader bytes gives
stops_of left requests bytes wire.NoMemory gives = served.frame_memory bytes gives

-- ---- one more round

pub end_is_request : {p : Protocol} → IsRequest p RoundEnd
end_is_request = record { known = tt; in_range = tt; short = omega arith }

pub serves_more : (p : Protocol) (loads : Bool) (gives : ℤ → LoadAnswer → Type 0) (taken given : List ℕ) (s t : Stand) (requests : List Request) (replies : List Reply) → Serves p loads gives taken given s → AreOpen p requests → IsRound loads gives s requests replies t
    → Serves p loads gives (taken ++ requests_text (ended requests)) (given ++ replies_text (all_told replies)) t
serves_more p loads gives taken given s t requests replies v are r = record {
  requests = v.requests ++ ended requests;
  replies = v.replies ++ all_told replies;
  each = each_append (IsRequest p) v.requests (ended requests) v.each (each_more (IsRequest p) requests RoundEnd (open_requests p requests are) end_is_request);
  read = ap (λ l. l ++ requests_text (ended requests)) v.read ∙ sym (texts_append request_frame v.requests (ended requests));
  written = ap (λ l. l ++ replies_text (all_told replies)) v.written ∙ sym (texts_append reply_frame v.replies (all_told replies));
  answers = served.round v.requests v.replies s t requests replies v.answers r;
}

-- Nothing is served at the start.
pub nothing_yet : (p : Protocol) (loads : Bool) (gives : ℤ → LoadAnswer → Type 0) (classes : Classes) (entries : Entries) → classes ≡ [] → ((k : lib.IntN.ℤ) → entries k ≡ None) → Serves p loads gives [] [] (stand classes entries)
nothing_yet p loads gives classes entries e f =
    let same : first_stand ≡ stand classes entries = λ i. stand (sym e i) (λ k. sym (f k) i) in
    record { requests = []; replies = []; each = tt; read = refl; written = refl; answers = subst (λ (s : Stand). Answers loads gives [] [] s) same served.Answers.none }

-- A stream that reads and writes nothing is cut short by `NoMemory`.
pub nothing_served : (p : Protocol) (loads : Bool) (gives : ℤ → LoadAnswer → Type 0) → IsCutShort p loads gives [] [] Rattle.serve.specs.declared.fault.ServeFault.TheVariants.NoMemory
nothing_served p loads gives = record {
  front = [];
  back = [];
  input_is = refl;
  told = [];
  part = [];
  output_is = refl;
  left = first_stand;
  serves = nothing_yet p loads gives [] (λ k. None) refl (λ k. refl);
  fails = served.unread [] [] Rattle.serve.specs.declared.fault.ServeFault.TheVariants.NoMemory tt refl refl served.memory;
}

-- A round that was read and run is a round of the definitions.
pub round_of : {p : Protocol} {loads : Bool} {gives : ℤ → LoadAnswer → Type 0} {old new : Option (List ℕ)} {first later : Classes} {plan : Batch} (w : IsWhole p old new first plan later) (before after : Entries) (text : List ℕ) (run : IsRun loads gives before (calls_of plan) (works_of plan) after text)
    → IsRound loads gives (stand first before) w.requests (map (rounds.work_reply run.answers) (works_of plan)) (stand later after)
round_of {plan = plan} w before after text run = record { works = works_of plan; calls = calls_of plan; answers = run.answers; gathered = w.gathered; done = run.done; told = refl }

-- ---- texts

-- One more reply.
pub told_more : (f : Work → Reply) (ys : List Planned) (w : Planned) (old new : List ℕ) (r : Reply) → old ≡ replies_text (map f (map work_of ys)) → new ≡ old ++ reply_frame r → r ≡ f (work_of w)
    → new ≡ replies_text (map f (map work_of (ys ++ w ∷ [])))
told_more f ys w old new r h e is =
    e ∙ ap (λ l. l ++ reply_frame r) h ∙ ap (λ x. replies_text (map f (map work_of ys)) ++ reply_frame x) is ∙ sym (texts_more reply_frame (map f (map work_of ys)) (f (work_of w)))
    ∙ ap (λ l. replies_text l) (sym (map-append f (map work_of ys) (work_of w ∷ []))) ∙ ap (λ l. replies_text (map f l)) (sym (map-append work_of ys (w ∷ [])))

pub all_texts : (replies : List Reply) (old new : List ℕ) → old ≡ replies_text replies → new ≡ old ++ reply_frame reply.RoundEnd → new ≡ replies_text (all_told replies)
all_texts replies old new h e = e ∙ ap (λ l. l ++ reply_frame reply.RoundEnd) h ∙ sym (texts_more reply_frame replies reply.RoundEnd)
