-- One further call, and one further answer.
use Rattle.std.proofs.Common.{◌≡◌, ℕ, zero, suc, ◌+◌, ◌<◌, ◌≤◌, List, [], ◌∷◌, ◌++◌, length, get_or, set, Ok, Err, IfOk, IfErr, Bool, true, false, refl, sym, ap, ◌∙◌, subst, ⊎_elim, append_assoc, length-append, arith, vec_capacity}
use Rattle.std.proofs.lemmas.List.{append-nil, map-append}
use Rattle.std.proofs.lemmas.List.Concat.{flat_map-append}
use mathlib.Core.Option.{some, some-injective, some-ne-none}
use lib.ListN.{get_elem?}
use Rattle.atomic_table.proofs.Lists.{at_snoc}
use Rattle.claims.specs.Counters.{Share}
use Rattle.stripe.specs.declared.call.Reply.{Reply}
use Rattle.stripe.specs.History.{Call}
use Rattle.stripe.specs.Kept.{may_make}
use Rattle.cache.specs.Receipts.{Receipt}
use Rattle.cache.specs.declared.refusal.InvokeRefusal.TheVariants.{JournalFull, NoMemory}
use Rattle.cache.specs.Opened.{Opened, Sitting, IsAnswered, IsTurnedAway, NeedsMemory, stripe_in}
use Rattle.round_outcome.specs.Closed.{calls_told, AreFiled}
use Rattle.round_outcome.proofs.Handed.{filed_by_calls, filed_by_refusals}
use Rattle.invokeall.specs.declared.worker.Worker.{Worker}
use Rattle.invokeall.specs.Rounds.{Answer, IsLaterSeat, IsFull}
use Rattle.invokeall.specs.Workers.{told_answer, told_at, told_row, numbers, ShowsFull, RowNeedsMemory, HasAnswered}

abbrev pub told_seat : Sitting → List (Call × Reply)
told_seat s = calls_told s.receipts

-- The effect of one call at a seat.
pub record OneCall {L : Type 0} (loads : Bool) (d : Opened L) (c : Call) (a b : Sitting) (x : Answer) : Type 0 where
  pub later : IsLaterSeat a b
  pub receipts : calls_told b.receipts ≡ calls_told a.receipts ++ told_answer c x
  pub filed : AreFiled (length d.tables) a.receipts → AreFiled (length d.tables) b.receipts
  pub full : x ≡ Err JournalFull → IsFull d c b
  pub room : a.room ≤ b.room + 1
  pub memory : x ≡ Err NoMemory → 0 < a.room → may_make loads c ≡ true

pub same_seat : (a b : Sitting) → b ≡ a → IsLaterSeat a b
same_seat a b e = subst (IsLaterSeat a) (sym e) (record { table = refl; caller = refl; made = refl; receipts = ([], sym (append-nil a.receipts)); full = λ i h. h })

pub later_seat : (a b c : Sitting) → IsLaterSeat a b → IsLaterSeat b c → IsLaterSeat a c
later_seat a b c x y = record {
  table = y.table ∙ x.table;
  caller = y.caller ∙ x.caller;
  made = y.made ∙ x.made;
  receipts = (x.receipts.0 ++ y.receipts.0, y.receipts.1 ∙ ap (λ (l : List Receipt). l ++ y.receipts.0) x.receipts.1 ∙ append_assoc a.receipts x.receipts.0 y.receipts.0);
  full = λ i h. y.full i (x.full i h);
}

still_set : (l : List Bool) (i j : ℕ) → get_or l j false ≡ true → get_or (set l i true) j false ≡ true
still_set [] i j e = e
still_set (x ∷ xs) zero zero e = refl
still_set (x ∷ xs) zero (suc j) e = e
still_set (x ∷ xs) (suc i) zero e = e
still_set (x ∷ xs) (suc i) (suc j) e = still_set xs i j e

pub one_call : {L : Type 0} (loads : Bool) (d : Opened L) (c : Call) (a b : Sitting) (x : Answer) → IfOk x (λ reply. IsAnswered d a c reply b) → IfErr x (λ refusal. IsTurnedAway d a c refusal b) → NeedsMemory loads a c x → OneCall loads d c a b x
one_call loads d c a b (Ok r) ok err need =
    let t : Receipt = ok.receipt in record {
      later = subst (IsLaterSeat a) (sym ok.left) (record { table = refl; caller = refl; made = refl; receipts = (t ∷ [], refl); full = λ i h. h });
      receipts = ap told_seat ok.left ∙ map-append (λ (u : Receipt). (u.call, u.reply)) a.receipts (t ∷ []) ∙ (λ k. told_seat a ++ (ok.call_is k, ok.reply_is k) ∷ []);
      filed = filed_by_calls _ d a b c r ok;
      full = λ e. absurd (cc);
      room = let e = ap (λ (s : Sitting). s.room) ok.left in omega (arith, e);
      memory = need;
    }
one_call loads d c a b (Err JournalFull) ok err need =
    let e = err.0 in record {
      later = subst (IsLaterSeat a) (sym e) (record { table = refl; caller = refl; made = refl; receipts = ([], sym (append-nil a.receipts)); full = λ i h. still_set a.full (stripe_in d c) i h });
      receipts = ap told_seat e ∙ sym (append-nil (told_seat a));
      filed = filed_by_refusals _ d a b c JournalFull err;
      full = λ _. err.1;
      room = let f = ap (λ (s : Sitting). s.room) e in omega (arith, f);
      memory = need;
    }
one_call loads d c a b (Err NoMemory) ok err need = record {
  later = same_seat a b err;
  receipts = ap told_seat err ∙ sym (append-nil (told_seat a));
  filed = filed_by_refusals _ d a b c NoMemory err;
  full = λ x. absurd (cc);
  room = let e = ap (λ (s : Sitting). s.room) err in omega (arith, e);
  memory = need;
}

told_there : (cs : List Call) (k : ℕ) (c : Call) (x : Answer) → get_elem? cs k ≡ some c → told_at cs k x ≡ told_answer c x
told_there [] k c x e = absurd (some-ne-none c (sym e))
told_there (y ∷ ys) zero c x e = ap (λ (z : Call). told_answer z x) (some-injective y c e)
told_there (y ∷ ys) (suc k) c x e = told_there ys k c x e

pub row_more : (cs : List Call) (xs : List (ℕ × Answer)) (k : ℕ) (c : Call) (x : Answer) → get_elem? cs k ≡ some c → told_row cs (xs ++ (k, x) ∷ []) ≡ told_row cs xs ++ told_answer c x
row_more cs xs k c x e =
    flat_map-append (λ (y : ℕ × Answer). told_at cs y.0 y.1) xs ((k, x) ∷ []) ∙ ap (λ l. told_row cs xs ++ l) (append-nil (told_at cs k x) ∙ told_there cs k c x e)

pub full_more : {L : Type 0} (loads : Bool) (d : Opened L) (cs : List Call) (a b : Sitting) (xs : List (ℕ × Answer)) (k : ℕ) (c : Call) (x : Answer) → get_elem? cs k ≡ some c → OneCall loads d c a b x → ShowsFull d cs a xs
    → ShowsFull d cs b (xs ++ (k, x) ∷ [])
full_more loads d cs a b xs k c x at one old j m u e there = ⊎_elim
    (λ (h : get_elem? xs j ≡ some (m, Err JournalFull)). one.later.full (stripe_in d u) (old j m u h there))
    (λ (h : (k, x) ≡ (m, Err JournalFull)).
    let same : c ≡ u = some-injective c u (sym at ∙ subst (λ (n : ℕ). get_elem? cs n ≡ some u) (sym (ap (λ (y : ℕ × Answer). y.0) h)) there) in
    subst (λ (z : Call). IsFull d z b) same (one.full (ap (λ (y : ℕ × Answer). y.1) h)))
    (at_snoc xs (k, x) (m, Err JournalFull) j e)

pub need_more : (loads : Bool) (cs : List Call) (xs : List (ℕ × Answer)) (k : ℕ) (c : Call) (x : Answer) → get_elem? cs k ≡ some c → (x ≡ Err NoMemory → may_make loads c ≡ true) → RowNeedsMemory loads cs xs
    → RowNeedsMemory loads cs (xs ++ (k, x) ∷ [])
need_more loads cs xs k c x at may old j m u e there = ⊎_elim
    (λ (h : get_elem? xs j ≡ some (m, Err NoMemory)). old j m u h there)
    (λ (h : (k, x) ≡ (m, Err NoMemory)).
    let same : c ≡ u = some-injective c u (sym at ∙ subst (λ (n : ℕ). get_elem? cs n ≡ some u) (sym (ap (λ (y : ℕ × Answer). y.0) h)) there) in
    subst (λ (z : Call). may_make loads z ≡ true) same (may (ap (λ (y : ℕ × Answer). y.1) h)))
    (at_snoc xs (k, x) (m, Err NoMemory) j e)

pub numbers_more : (xs : List (ℕ × Answer)) (k : ℕ) (x : Answer) → numbers (xs ++ (k, x) ∷ []) ≡ numbers xs ++ k ∷ []
numbers_more [] k x = refl
numbers_more (y ∷ ys) k x = ap (λ (l : List ℕ). y.0 ∷ l) (numbers_more ys k x)

pub numbers_long : (xs : List (ℕ × Answer)) → length (numbers xs) ≡ length xs
numbers_long [] = refl
numbers_long (y ∷ ys) = ap suc (numbers_long ys)

-- A worker that has no answer has answered no call.
pub none_answered : {L : Type 0} (loads : Bool) (d : Opened L) (calls : List Call) (v : Worker) → v.answers.items ≡ [] → HasAnswered loads d calls v v []
none_answered loads d calls v none = record {
  seat = same_seat v.seat v.seat refl;
  numbers_are = ap numbers none;
  receipts = sym (ap (λ l. told_seat v.seat ++ told_row calls l) none ∙ append-nil (told_seat v.seat));
  filed = λ h. h;
  full = subst (ShowsFull d calls v.seat) (sym none) (λ j k c e. absurd (some-ne-none (k, Err JournalFull) (sym e)));
  room = omega arith;
  left = omega arith;
  memory = λ _. subst (RowNeedsMemory loads calls) (sym none) (λ j k c e. absurd (some-ne-none (k, Err NoMemory) (sym e)));
}

-- One further call is answered.
pub one_answered : {L : Type 0} (loads : Bool) (d : Opened L) (calls : List Call) (v w next : Worker) (before : List ℕ) (k : ℕ) (c : Call) (x : Answer) → get_elem? calls k ≡ some c → OneCall loads d c w.seat next.seat x → length w.answers.items < length calls
    → next.answers.items ≡ w.answers.items ++ (k, x) ∷ [] → vec_capacity w.answers ≤ vec_capacity next.answers → HasAnswered loads d calls v w before → HasAnswered loads d calls v next (before ++ k ∷ [])
one_answered loads d calls v w next before k c x at one fewer items room old =
    let xs : List (ℕ × Answer) = w.answers.items in
    record {
      seat = later_seat v.seat w.seat next.seat old.seat one.later;
      numbers_are = ap numbers items ∙ numbers_more xs k x ∙ ap (λ (l : List ℕ). l ++ k ∷ []) old.numbers_are;
      receipts = one.receipts ∙ ap (λ l. l ++ told_answer c x) old.receipts ∙ append_assoc (told_seat v.seat) (told_row calls xs) (told_answer c x)
          ∙ ap (λ l. told_seat v.seat ++ l) (sym (row_more calls xs k c x at) ∙ ap (told_row calls) (sym items));
      filed = λ h. one.filed (old.filed h);
      full = subst (ShowsFull d calls next.seat) (sym items) (full_more loads d calls w.seat next.seat xs k c x at one old.full);
      room = let more = old.room in omega arith;
      left = let long = ap (λ (l : List (ℕ × Answer)). length l) items in let more = length-append xs ((k, x) ∷ []) in let kept = old.left in let used = one.room in omega (arith, long, more, kept, used);
      memory = λ enough. subst (RowNeedsMemory loads calls) (sym items) (need_more loads calls xs k c x at (λ e. one.memory e (let kept = old.left in omega (arith, kept, enough, fewer))) (old.memory enough));
    }

-- `HasAnswered` doesn't depend on the worker's claimer.
pub same_answered : {L : Type 0} (loads : Bool) (d : Opened L) (calls : List Call) (v w : Worker) (claimer : Share) (before : List ℕ) → HasAnswered loads d calls v w before
    → HasAnswered loads d calls v (record w { claimer = claimer }) before
same_answered loads d calls v w claimer before h = record { seat = h.seat; numbers_are = h.numbers_are; receipts = h.receipts; filed = h.filed; full = h.full; room = h.room; left = h.left; memory = h.memory }
