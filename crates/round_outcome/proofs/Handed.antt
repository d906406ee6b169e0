-- The concatenated histories of a closed cache are a history of the calls that its seats have receipts of.
use Rattle.std.proofs.Common.{arith, ◌≡◌, ℕ, ℤ, Bool, ◌<◌, zero, suc, ◌+◌, List, [], ◌∷◌, ◌++◌, map, length, refl, sym, ap, ◌∙◌, subst, IsPermutation}
use Rattle.std.proofs.lemmas.List.Sorted.{IsPermutation-map, IsPermutation-trans, IsPermutation-refl, IsPermutation-append}
use Rattle.std.proofs.lemmas.List.{append-nil, map-append}
use Rattle.std.proofs.lemmas.List.Elements.{All-nil, All-append}
use Rattle.std.proofs.lemmas.List.Folds.{flat_map-map}
use mathlib.Core.Option.{some, some-injective, some-ne-none}
use lib.ListN.{get_elem?}
use Rattle.stripe.specs.declared.call.Reply.{Reply}
use Rattle.jtypes.specs.declared.loader.LoadAnswer.{LoadAnswer}
use Rattle.jtypes.specs.Loading.{IsGiven}
use Rattle.stripe.specs.History.{Call, Record, AreGiven, key_of, entry_after, IsLegalAfter, stripe_of}
use Rattle.stripe.specs.Stored.{Stored, entry_among}
use Rattle.cache.specs.Receipts.{Receipt}
use Rattle.cache.specs.Opened.{Opened, Sitting}
use Rattle.cache.specs.declared.refusal.InvokeRefusal.TheVariants.{JournalFull, NoMemory}
use Rattle.cache.specs.Accounts.{Accounts}
use Rattle.cache.specs.Closing.{history_at, receipts_at, full_at, Settles}
use Rattle.round_outcome.specs.Outcome.{answered, calls_in}
use Rattle.round_outcome.specs.Closed.{calls_at, all_records, AreFiled, AllAreFiled}
use Rattle.round_outcome.specs.Statements.{CachesHandOutHistories, NoneIsFiled, CallsAreFiled, RefusedCallsAreFiled, WorldsHandOutHistories, RoundsAreDone, HistoriesFollow}
use Rattle.round_outcome.proofs.Members.{In, same_members}
use Rattle.round_outcome.proofs.Tags.{at, rows, out_rows, in_rows, distinct_rows, value_rows}
use Rattle.round_outcome.proofs.Merge.{AreFrom, each_of, after_append, legal_append, legal_from, all_legal, after_all}

-- ---- receipts and records are the same calls

-- A call, with the indices of its receipt and of its record.
record Made : Type 0 where
  caller : ℕ
  number : ℕ
  stripe : ℕ
  place : ℕ
  call : Call
  reply : Reply

abbrev by_receipt : ℕ → ℕ → Receipt → Made
by_receipt c n t = record { caller = c; number = n; stripe = t.stripe; place = t.place; call = t.call; reply = t.reply }

abbrev by_record : ℕ → ℕ → Record → Made
by_record i q r = record { caller = r.caller; number = r.number; stripe = i; place = q; call = r.call; reply = r.reply }

abbrev pair_of : Made → Call × Reply
pair_of m = (m.call, m.reply)

abbrev lists_of : List Sitting → List (List Receipt)
lists_of ss = map (λ (s : Sitting). s.receipts) ss

at_lists : (ss : List Sitting) (c : ℕ) → at (lists_of ss) c ≡ receipts_at ss c
at_lists [] c = refl
at_lists (s ∷ ss) zero = refl
at_lists (s ∷ ss) (suc c) = at_lists ss c

at_histories : (hs : List (List Record)) (i : ℕ) → at hs i ≡ history_at hs i
at_histories [] i = refl
at_histories (h ∷ hs) zero = refl
at_histories (h ∷ hs) (suc i) = at_histories hs i

one_made : (c n : ℕ) (t : Receipt) (r : Record) → r.caller ≡ c → r.number ≡ n → t.call ≡ r.call → t.reply ≡ r.reply → by_receipt (0 + c) n t ≡ by_record (0 + t.stripe) t.place r
one_made c n t r e f g h =
    let a : 0 + c ≡ r.caller = omega (arith, e) in
    let b : t.stripe ≡ 0 + t.stripe = omega arith in
    λ k. record { caller = a k; number = sym f k; stripe = b k; place = t.place; call = g k; reply = h k }

-- The record that the receipt of a record names is that record.
module _ (journal n : ℕ) (seats : List Sitting) (hs : List (List Record)) (a : Accounts journal n (history_at hs) (receipts_at seats) (full_at seats)) (i q : ℕ) (r : Record) (here : get_elem? (history_at hs i) q ≡ some r) where
  abbrev its_receipt : Receipt
  its_receipt = (a.recorded i q r here).1.receipt

  receipt_there : get_elem? (receipts_at seats r.caller) r.number ≡ some its_receipt
  receipt_there = (a.recorded i q r here).1.there

  stripe_is : its_receipt.stripe ≡ i
  stripe_is = (a.recorded i q r here).1.stripe_is

  place_is : its_receipt.place ≡ q
  place_is = (a.recorded i q r here).1.place_is

  same_record : (a.received r.caller r.number its_receipt receipt_there).made ≡ r
  same_record =
      let v = a.received r.caller r.number its_receipt receipt_there in
      let again : get_elem? (history_at hs i) q ≡ some v.made = (λ k. get_elem? (history_at hs (sym stripe_is k)) (sym place_is k)) ∙ v.there in
      some-injective v.made r (sym again ∙ here)

  call_is : its_receipt.call ≡ r.call
  call_is = (a.received r.caller r.number its_receipt receipt_there).same.call ∙ ap (λ (x : Record). x.call) same_record

  reply_is : its_receipt.reply ≡ r.reply
  reply_is = (a.received r.caller r.number its_receipt receipt_there).same.reply ∙ ap (λ (x : Record). x.reply) same_record

same_calls : (journal n : ℕ) (seats : List Sitting) (hs : List (List Record)) → Accounts journal n (history_at hs) (receipts_at seats) (full_at seats)
    → IsPermutation (calls_at seats) (calls_in (all_records hs))
same_calls journal n seats hs a =
    let left : map pair_of ts ≡ calls_at seats =
    value_rows by_receipt pair_of (λ (t : Receipt). (t.call, t.reply)) (λ c k t. refl) 0 (lists_of seats)
    ∙ ap (λ l. map (λ (t : Receipt). (t.call, t.reply)) l) (flat_map-map (λ (l : List Receipt). l) (λ (s : Sitting). s.receipts) seats) in
    let right : map pair_of rs ≡ calls_in (all_records hs) = value_rows by_record pair_of (λ (r : Record). (r.call, r.reply)) (λ i q r. refl) 0 hs in
    let p : IsPermutation (map pair_of ts) (map pair_of rs) = IsPermutation-map pair_of ts rs one in
    subst (λ l. IsPermutation l (calls_in (all_records hs))) left (subst (λ l. IsPermutation (map pair_of ts) l) right p)
  where
    ts : List Made
    ts = rows by_receipt 0 (lists_of seats)

    rs : List Made
    rs = rows by_record 0 hs

    to : (m : Made) → In m ts → In m rs
    to m h =
        let l = out_rows by_receipt m 0 (lists_of seats) h in
        let v = a.received l.j l.k l.x (ap (λ (x : List Receipt). get_elem? x l.k) (sym (at_lists seats l.j)) ∙ l.there) in
        let i = in_rows by_record 0 hs l.x.stripe l.x.place v.made (ap (λ (x : List Record). get_elem? x l.x.place) (at_histories hs l.x.stripe) ∙ v.there) in
        subst (λ (z : Made). In z rs) (sym (l.is ∙ one_made l.j l.k l.x v.made v.caller_is v.number_is v.same.call v.same.reply)) i

    back : (m : Made) → In m rs → In m ts
    back m h =
        let l = out_rows by_record m 0 hs h in
        let here : get_elem? (history_at hs l.j) l.k ≡ some l.x = ap (λ (x : List Record). get_elem? x l.k) (sym (at_histories hs l.j)) ∙ l.there in
        let t : Receipt = its_receipt journal n seats hs a l.j l.k l.x here in
        let i = in_rows by_receipt 0 (lists_of seats) l.x.caller l.x.number t (ap (λ (x : List Receipt). get_elem? x l.x.number) (at_lists seats l.x.caller) ∙ receipt_there journal n seats hs a l.j l.k l.x here) in
        let is : by_receipt (0 + l.x.caller) l.x.number t ≡ by_record (0 + l.j) l.k l.x =
        one_made l.x.caller l.x.number t l.x refl refl (call_is journal n seats hs a l.j l.k l.x here) (reply_is journal n seats hs a l.j l.k l.x here)
        ∙ (λ k. by_record (0 + stripe_is journal n seats hs a l.j l.k l.x here k) (place_is journal n seats hs a l.j l.k l.x here k) l.x) in
        subst (λ (z : Made). In z ts) (is ∙ sym l.is) i

    one : IsPermutation ts rs
    one =
        same_members ts rs (distinct_rows by_receipt (λ (m : Made). (m.caller, m.number)) (λ c k t. refl) 0 (lists_of seats))
        (distinct_rows by_record (λ (m : Made). (m.stripe, m.place)) (λ i q r. refl) 0 hs) to back

-- ---- the answers of the loader

all_given : (gives : ℤ → LoadAnswer → Type 0) (hs : List (List Record)) → ((j : ℕ) → j < length hs → AreGiven gives (history_at hs j)) → AreGiven gives (all_records hs)
all_given gives [] each = All-nil (λ (r : Record). IsGiven gives (key_of r.call) r.asked)
all_given gives (h ∷ hs) each =
    All-append (λ (r : Record). IsGiven gives (key_of r.call) r.asked) h (all_records hs) (each 0 (omega arith)) (all_given gives hs (λ j lt. each (suc j) (omega (arith, lt))))

-- ---- a closed cache

-- `AreFiled` holds for each seat.
filed_at : (stripes : ℕ) (seats : List Sitting) → AllAreFiled stripes seats → (c : ℕ) → AreFiled stripes (receipts_at seats c)
filed_at stripes [] filed c n t e = absurd (some-ne-none t (sym e))
filed_at stripes (s ∷ ss) filed zero n t e = filed 0 s refl n t e
filed_at stripes (s ∷ ss) filed (suc c) n t e = filed_at stripes ss (λ d x f. filed (suc d) x f) c n t e

-- Each record is in the history of its key's stripe, since its receipt has that stripe.
own_keys : {L : Type 0} (loads : Bool) (gives : ℤ → LoadAnswer → Type 0) (d : Opened L) (seats : List Sitting) (tables : List Stored) (hs : List (List Record)) → Settles loads gives d seats tables hs → AllAreFiled (length d.tables) seats → AreFrom (length d.tables) 0 hs
own_keys loads gives d seats tables hs s filed j lt = each_of (λ r. stripe_of n (key_of r.call) ≡ 0 + j) (history_at hs j) each
  where
    n : ℕ
    n = length d.tables

    each : (q : ℕ) (r : Record) → get_elem? (history_at hs j) q ≡ some r → stripe_of n (key_of r.call) ≡ 0 + j
    each q r e =
        let t : Receipt = its_receipt d.journal d.seats seats hs s.accounts j q r e in
        let own : t.stripe ≡ stripe_of n (key_of t.call) = filed_at n seats filed r.caller r.number t (receipt_there d.journal d.seats seats hs s.accounts j q r e) in
        let same : stripe_of n (key_of t.call) ≡ stripe_of n (key_of r.call) = ap (λ c. stripe_of n (key_of c)) (call_is d.journal d.seats seats hs s.accounts j q r e) in
        let at : t.stripe ≡ j = stripe_is d.journal d.seats seats hs s.accounts j q r e in
        omega (arith, own, same, at)

pub caches_hand_out_histories : (L : Type 0) (loads : Bool) (gives : ℤ → LoadAnswer → Type 0) → CachesHandOutHistories L loads gives
caches_hand_out_histories L loads gives d seats tables hs s filed =
    let from : AreFrom (length d.tables) 0 hs = own_keys loads gives d seats tables hs s filed in
    record {
      legal = all_legal loads (entry_among d.tables) (length d.tables) 0 [] hs tt from (λ j lt. s.legal j (omega (arith, lt, s.histories_count)));
      given = all_given gives hs (λ j lt. s.given j (omega (arith, lt, s.histories_count)));
      once = same_calls d.journal d.seats seats hs s.accounts;
      left = λ k. s.left k ∙ sym (after_all (entry_among d.tables k) (length d.tables) 0 k hs from (stripe_of (length d.tables) k) (omega arith));
    }

-- ---- receipts on their keys' stripes

pub none_is_filed : NoneIsFiled
none_is_filed stripes n t e = absurd (some-ne-none t (sym e))

filed_more : (stripes : ℕ) (ts : List Receipt) (u : Receipt) → u.stripe ≡ stripe_of stripes (key_of u.call) → AreFiled stripes ts → AreFiled stripes (ts ++ u ∷ [])
filed_more stripes [] u own filed zero t e = subst (λ (x : Receipt). x.stripe ≡ stripe_of stripes (key_of x.call)) (some-injective u t e) own
filed_more stripes [] u own filed (suc n) t e = absurd (some-ne-none t (sym e))
filed_more stripes (x ∷ xs) u own filed zero t e = filed 0 t e
filed_more stripes (x ∷ xs) u own filed (suc n) t e = filed_more stripes xs u own (λ m y f. filed (suc m) y f) n t e

pub filed_by_calls : (L : Type 0) → CallsAreFiled L
filed_by_calls L d old new call reply a filed =
    subst (λ (s : Sitting). AreFiled (length d.tables) s.receipts) (sym a.left)
    (filed_more (length d.tables) old.receipts a.receipt (a.stripe_is ∙ ap (λ c. stripe_of (length d.tables) (key_of c)) (sym a.call_is)) filed)

pub filed_by_refusals : (L : Type 0) → RefusedCallsAreFiled L
filed_by_refusals L d old new call JournalFull t filed = subst (λ (s : Sitting). AreFiled (length d.tables) s.receipts) (sym t.0) filed
filed_by_refusals L d old new call NoMemory t filed = subst (λ (s : Sitting). AreFiled (length d.tables) s.receipts) (sym t) filed

-- ---- worlds and rounds

pub worlds_hand_out_histories : (loads : Bool) (gives : ℤ → LoadAnswer → Type 0) → WorldsHandOutHistories loads gives
worlds_hand_out_histories loads gives opening finished now l given = record { legal = l.legal; given = given; once = IsPermutation-refl (calls_in finished); left = l.left }

pub rounds_are_done : (loads : Bool) (gives : ℤ → LoadAnswer → Type 0) → RoundsAreDone loads gives
rounds_are_done loads gives before made after history h calls answers count refused once =
    record {
      count = count;
      refused = refused;
      history = history;
      is = record { legal = h.legal; given = h.given; once = IsPermutation-trans (answered calls answers) made (calls_in history) once h.once; left = h.left };
    }

pub histories_follow : (loads : Bool) (gives : ℤ → LoadAnswer → Type 0) → HistoriesFollow loads gives
histories_follow loads gives before between after made more first second f s =
    record {
      legal = legal_append loads before [] first second f.legal (subst (λ (l : List Record). IsLegalAfter loads before l second) (append-nil first) (legal_from loads before between first [] second f.left s.legal));
      given = All-append (λ (r : Record). IsGiven gives (key_of r.call) r.asked) first second f.given s.given;
      once = subst (λ l. IsPermutation (made ++ more) l) (sym (map-append (λ (r : Record). (r.call, r.reply)) first second)) (IsPermutation-append made (calls_in first) more (calls_in second) f.once s.once);
      left = λ k. s.left k ∙ ap (λ e. entry_after e second k) (f.left k) ∙ sym (after_append (before k) first second k);
    }
