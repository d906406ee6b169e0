-- Rounds of one call on key 5: its reply, and the entry after it.
use Rattle.std.proofs.Common.{arith, ◌≡◌, ◌⊎◌, ℤ, pos, Bool, true, false, List, [], ◌∷◌, map, Option, Some, None, if◌then◌else◌, All, refl, sym, ap, ◌∙◌, subst, inl, inr, true≢false}
use Rattle.std.proofs.lemmas.List.Elements.{All-cons, All-nil, All-head}
use Rattle.std.proofs.lemmas.List.Sorted.{All-permutation, length_permutation}
use Rattle.std.specs.Ordering.{int_eq}
use Rattle.jtypes.specs.Entry.{Entry}
use Rattle.jtypes.specs.declared.loader.LoadAnswer.{LoadAnswer}
use Rattle.stripe.specs.declared.call.Reply.{Reply as Told}
use Rattle.stripe.specs.History.{Call, Record, Entries, Answers, key_of}
use Rattle.stripe.specs.History as call
use Rattle.stripe.specs.Kept.{may_make}
use Rattle.round_outcome.specs.Outcome.{IsDone, IsHistoryOf, calls_in}
use Rattle.wire.specs.Requests.{Put, Get}
use Rattle.wire.specs.declared.reply.Denial.TheVariants.{NoMemory}
use Rattle.wire.specs.declared.reply.Reply.{Reply}
use Rattle.wire.specs.declared.reply.Reply.TheVariants as reply
use Rattle.serve.specs.Rounds.{Work, Job, work_reply, job_reply}
use Rattle.serve.specs.Served.{Stand, IsRound}
use Rattle.test_serve.proofs.Gathered.{put_gathered, get_gathered}

-- `Comes before c after answers` holds if `c` may create an entry, is refused and its entry unchanged, or `Answers` relates its reply to both entries
pub data Comes (before : Entries) (c : Call) (after : Entries) : List (Option Told) → Type 0 where
  refused : may_make false c ≡ true → after (key_of c) ≡ before (key_of c) → Comes before c after (None ∷ [])
  made : (r : Told) (asked : Option LoadAnswer) → Answers false (before (key_of c)) c r (after (key_of c)) asked → Comes before c after (Some r ∷ [])

module _ (gives : ℤ → LoadAnswer → Type 0) (before after : Entries) (c : Call) (itself : int_eq (key_of c) (key_of c) ≡ true) where
  unmade : (history : List Record) → IsHistoryOf false gives before [] after history → after (key_of c) ≡ before (key_of c)
  unmade [] h = h.left (key_of c)
  unmade (r ∷ rs) h = let n = length_permutation [] (calls_in (r ∷ rs)) h.once in absurd (omega (arith, n))

  made_once : (t : Told) (history : List Record) → IsHistoryOf false gives before ((c, t) ∷ []) after history → Comes before c after (Some t ∷ [])
  made_once t [] h = let n = length_permutation ((c, t) ∷ []) [] h.once in absurd (omega (arith, n))
  made_once t (r ∷ []) h =
      let P : Call × Told → Type 0 = λ x. x ≡ (c, t) in
      let each : All P ((r.call, r.reply) ∷ []) = All-permutation P ((c, t) ∷ []) (calls_in (r ∷ [])) h.once (All-cons P (c, t) [] refl (All-nil P)) in
      let is : (r.call, r.reply) ≡ (c, t) = All-head P (r.call, r.reply) [] each in
      let on : Answers false (before (key_of c)) c t r.after r.asked = subst (λ (x : Call × Told). Answers false (before (key_of x.0)) x.0 x.1 r.after r.asked) is h.legal.0 in
      let same : int_eq (key_of r.call) (key_of c) ≡ true = ap (λ (x : Call × Told). int_eq (key_of x.0) (key_of c)) is ∙ itself in
      let left : after (key_of c) ≡ r.after = h.left (key_of c) ∙ ap (λ (b : Bool). if b then r.after else before (key_of c)) same in
      made t r.asked (subst (λ (e : Entry). Answers false (before (key_of c)) c t e r.asked) (sym left) on)
  made_once t (r ∷ q ∷ rs) h = let n = length_permutation ((c, t) ∷ []) (calls_in (r ∷ q ∷ rs)) h.once in absurd (omega (arith, n))

  comes : (answers : List (Option Told)) → IsDone false gives before (c ∷ []) answers after → Comes before c after answers
  comes [] d = let n = d.count in absurd (omega (arith, n))
  comes (None ∷ []) d = refused (d.refused 0 c refl refl) (unmade d.history d.is)
  comes (Some t ∷ []) d = made_once t d.history d.is
  comes (a ∷ b ∷ answers) d = let n = d.count in absurd (omega (arith, n))

-- ---- the put

-- the reply to the put, and the entry of key 5 before and after it
abbrev pub PutTold : Entry → Reply → Entry → Type 0
PutTold before r after = ((r ≡ reply.Done) × (after ≡ Some (pos 1))) ⊎ ((r ≡ reply.Denied NoMemory) × (after ≡ before))

put_told : (before after : Entries) (answers : List (Option Told)) → Comes before (call.Put (pos 5) (pos 1)) after answers → PutTold (before (pos 5)) (work_reply answers (Job 0)) (after (pos 5))
put_told before after answers (refused may kept) = inr (refl, kept)
put_told before after answers (made r asked a) = inl (ap (λ (t : Told). job_reply (Some t)) a.0, a.1)

pub put_round : (gives : ℤ → LoadAnswer → Type 0) (s t : Stand) (replies : List Reply) → IsRound false gives s (Put (pos 5) (pos 1) ∷ []) replies t
    → (r : Reply) × (replies ≡ r ∷ []) × PutTold (s.entries (pos 5)) r (t.entries (pos 5))
put_round gives s t replies round =
    let g = put_gathered round.gathered in
    let d : IsDone false gives s.entries (call.Put (pos 5) (pos 1) ∷ []) round.answers t.entries = subst (λ (l : List Call). IsDone false gives s.entries l round.answers t.entries) g.1 round.done in
    let c : Comes s.entries (call.Put (pos 5) (pos 1)) t.entries round.answers = comes gives s.entries t.entries (call.Put (pos 5) (pos 1)) refl round.answers d in
    (work_reply round.answers (Job 0), round.told ∙ ap (λ (l : List Work). map (work_reply round.answers) l) g.0, put_told s.entries t.entries round.answers c)

-- ---- the get

-- a get that asks no loader has an answer, since it creates no entry
abbrev pub GetTold : Entry → Reply → Type 0
GetTold before r = r ≡ reply.Value before

get_told : (before after : Entries) (e : Entry) → before (pos 5) ≡ e → (answers : List (Option Told)) → Comes before (call.Get (pos 5)) after answers → GetTold e (work_reply answers (Job 0))
get_told before after e is answers (refused may kept) = absurd (true≢false (sym may))
get_told before after None is answers (made r asked a) =
    let on : Answers false None (call.Get (pos 5)) r (after (pos 5)) asked = subst (λ (x : Entry). Answers false x (call.Get (pos 5)) r (after (pos 5)) asked) is a in
    ap (λ (t : Told). job_reply (Some t)) on.0
get_told before after (Some n) is answers (made r asked a) =
    let on : Answers false (Some n) (call.Get (pos 5)) r (after (pos 5)) asked = subst (λ (x : Entry). Answers false x (call.Get (pos 5)) r (after (pos 5)) asked) is a in
    ap (λ (t : Told). job_reply (Some t)) on.0

pub get_round : (gives : ℤ → LoadAnswer → Type 0) (s t : Stand) (replies : List Reply) (e : Entry) → s.entries (pos 5) ≡ e → IsRound false gives s (Get (pos 5) ∷ []) replies t → (r : Reply) × (replies ≡ r ∷ []) × GetTold e r
get_round gives s t replies e is round =
    let g = get_gathered round.gathered in
    let d : IsDone false gives s.entries (call.Get (pos 5) ∷ []) round.answers t.entries = subst (λ (l : List Call). IsDone false gives s.entries l round.answers t.entries) g.1 round.done in
    let c : Comes s.entries (call.Get (pos 5)) t.entries round.answers = comes gives s.entries t.entries (call.Get (pos 5)) refl round.answers d in
    (work_reply round.answers (Job 0), round.told ∙ ap (λ (l : List Work). map (work_reply round.answers) l) g.0, get_told s.entries t.entries e is round.answers c)
