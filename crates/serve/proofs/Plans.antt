-- Growth of plans, and the calls of their jobs.
use Rattle.std.proofs.Common.{◌≡◌, ◌⊎◌, inl, inr, ℕ, ℤ, zero, ◌+◌, ◌<◌, ◌≤◌, List, [], ◌∷◌, ◌++◌, length, map, take, drop, append-nil, append_assoc, Result, Ok, Err, OnOk, Bool, true, false, if◌then◌else◌, Option, Some, None, slice_get, get_or, length-append, arith, refl, sym, ap, ◌∙◌, subst, suc}
use Rattle.std.specs.Prelude.{nat_le, All, Vec}
use Rattle.std.specs.Global.{Global}
use Rattle.std.proofs.lemmas.Bool.{leb-true, le-leb, lt-leb}
use Rattle.std.proofs.lemmas.List.{length-map, map-append, length-drop, drop-append-le, take_all}
use Rattle.std.proofs.Math.Seq.{drop-append_seam}
use lib.Seq.{take-append-le}
use Rattle.std.proofs.lemmas.List.Elements.{All-nil, All-cons}
use Rattle.jtypes.specs.declared.refusal.Refusal.{Refusal}
use Rattle.jtypes.specs.declared.refusal.Refusal.TheVariants as refusal
use Rattle.typecheck.specs.Typing.{Class, IsProcessOf}
use Rattle.bounds.specs.Paths.{Bounds, AreBounds}
use Rattle.verdict.specs.Verdict.{IsRefused, IsAccepted, IsClassOf}
use Rattle.stripe.specs.History.{Call}
use Rattle.stripe.specs.History as call
use Rattle.jtypes.specs.declared.types.Arg.{Arg}
use Rattle.wire.specs.Requests.{Request, Define, Put, Get, Remove, Contains, Invoke, InvokeAll, RoundEnd, Version, Forget}
use Rattle.wire.specs.Frames.{IsInRange}
use Rattle.wire.specs.declared.reply.Reply.TheVariants as reply
use Rattle.wire.specs.declared.reply.Denial.TheVariants.{UnknownClass, TooManyJobs}
use Rattle.stripe.specs.declared.call.Call.{Call as CallTaken}
use Rattle.stripe.specs.Seen.{call_of as seen_call}
use Rattle.invokeall.specs.Jobs.{all_seen}
use Rattle.invokeall.specs.Collected.{different, invocations}
use Rattle.serve.specs.Classes.{Classes, class_at, HasRoom}
use Rattle.serve.specs.Rounds.{Part, part, Job, JobForEach, Adds, Gathers, Work, most_jobs, with_room, told, of_class, one, each, defines, refuses, lacks_memory, too_many, puts, gets, removes, looks, invokes, invokes_all, tells_version, forgets, forgets_none}
use Rattle.serve.specs.Rounds as rounds
use Rattle.serve.specs.declared.batch.Batch.{Batch}
use Rattle.serve.specs.declared.batch.Work.{Work as Planned}
use Rattle.serve.specs.declared.batch.Work.TheVariants as planned
use Rattle.serve.specs.Kept.{HasFew, Grows, Adding, work_of, works_of, calls_of}
use Rattle.jtypes.specs.Profile.{Third}

-- ---- arguments

pub few_of : (r : Request) → IsInRange r → HasFew r
few_of (Define bytes) h = tt
few_of (Put key value) h = tt
few_of (Get key) h = tt
few_of (Remove key) h = tt
few_of (Contains key) h = tt
few_of (Invoke class key args) h = h.2.few
few_of (InvokeAll class keys args) h = h.3.few
few_of RoundEnd h = tt
few_of Version h = tt
few_of (Forget class) h = tt

-- ---- the number of jobs of a round is at most the maximum

with_room_fits : (at : ℕ) (p : Part) → at ≤ most_jobs → at + length (with_room at p).calls ≤ most_jobs
with_room_fits at p h = go (nat_le (at + length p.calls) most_jobs) refl
  where
    go : (b : Bool) → nat_le (at + length p.calls) most_jobs ≡ b → at + length (if b then p else told (reply.Denied TooManyJobs)).calls ≤ most_jobs
    go true e = leb-true (at + length p.calls) most_jobs e
    go false e = omega (arith, h)

one_fits : (at : ℕ) (c : Call) → at ≤ most_jobs → at + length (one at c).calls ≤ most_jobs
one_fits at c h = with_room_fits at (part (Job at) (c ∷ [])) h

told_fits : (at : ℕ) → at ≤ most_jobs → at + 0 ≤ most_jobs
told_fits at h = omega (arith, h)

of_class_fits : (at : ℕ) (o : Option Class) (f : Class → Part) → ((c : Class) → at + length (f c).calls ≤ most_jobs) → at ≤ most_jobs → at + length (of_class o f).calls ≤ most_jobs
of_class_fits at None f g h = told_fits at h
of_class_fits at (Some c) f g h = g c

adds_fit : {classes later : Classes} {at : ℕ} {r : Request} {p : Part} → Adds classes at r p later → at ≤ most_jobs → at + length p.calls ≤ most_jobs
adds_fit {at = at} (defines bytes c r few is) h = told_fits at h
adds_fit {at = at} (refuses bytes r few is) h = told_fits at h
adds_fit {at = at} (lacks_memory bytes few) h = told_fits at h
adds_fit {at = at} (too_many bytes many) h = told_fits at h
adds_fit {at = at} tells_version h = told_fits at h
adds_fit {at = at} (forgets n c is) h = told_fits at h
adds_fit {at = at} (forgets_none n is) h = told_fits at h
adds_fit {at = at} (puts key value) h = one_fits at (call.Put key value) h
adds_fit {at = at} (gets key) h = one_fits at (call.Get key) h
adds_fit {at = at} (removes key) h = one_fits at (call.Remove key) h
adds_fit {at = at} (looks key) h = one_fits at (call.Contains key) h
adds_fit {classes} {at = at} (invokes n key args) h = of_class_fits at (class_at classes n) (λ c. one at (call.Invoke c key args)) (λ c. one_fits at (call.Invoke c key args) h) h
adds_fit {classes} {at = at} (invokes_all n keys args) h =
    of_class_fits at (class_at classes n) (λ c. each at (different keys) args c) (λ c. with_room_fits at (part (JobForEach at (different keys)) (invocations c args (different keys))) h) h

pub few_jobs : {first later : Classes} {requests : List Request} {works : List Work} {calls : List Call} → Gathers first requests works calls later → length calls ≤ most_jobs
few_jobs rounds.none = omega arith
few_jobs (rounds.more requests works calls now later r p g a) = let fits = adds_fit a (few_jobs g) in omega (arith, fits, length-append calls p.calls)

-- ---- capacity of a round

pub has_room : (at : ℕ) (p : Part) → at + length p.calls ≤ most_jobs → with_room at p ≡ p
has_room at p h = ap (λ (b : Bool). if b then p else told (reply.Denied TooManyJobs)) (le-leb (at + length p.calls) most_jobs h)

pub lacks_room : (at : ℕ) (p : Part) → most_jobs < at + length p.calls → with_room at p ≡ told (reply.Denied TooManyJobs)
lacks_room at p h = ap (λ (b : Bool). if b then p else told (reply.Denied TooManyJobs)) (lt-leb (at + length p.calls) most_jobs h)

-- ---- growth of a plan

pub grows_jobs : {E : Type 0} (res : Result (Unit {0}) E) (old new : Batch) (w : Planned) (q : Part) → OnOk res (new.works.items ≡ old.works.items ++ w ∷ []) → work_of w ≡ q.work
    → calls_of new ≡ calls_of old ++ q.calls → OnOk res (Grows old new q)
grows_jobs (Ok x) old new w q works is calls = record {
  works = ap (λ l. map work_of l) works ∙ map-append work_of old.works.items (w ∷ []) ∙ ap (λ y. works_of old ++ y ∷ []) is;
  calls = calls;
}
grows_jobs (Err e) old new w q works is calls = tt

-- A work without a job leaves the calls unchanged.
one_more_told : (old new : Batch) (w : Planned) → new.works.items ≡ old.works.items ++ w ∷ [] → new.calls ≡ old.calls → Grows old new (part (work_of w) [])
one_more_told old new w works calls = record {
  works = ap (λ l. map work_of l) works ∙ map-append work_of old.works.items (w ∷ []);
  calls = ap (λ v. all_seen v.items) calls ∙ sym (append-nil (calls_of old));
}

pub grows_told : {E : Type 0} (res : Result (Unit {0}) E) (old new : Batch) (w : Planned) → OnOk res (new.works.items ≡ old.works.items ++ w ∷ []) → new.calls ≡ old.calls
    → OnOk res (Grows old new (part (work_of w) []))
grows_told (Ok x) old new w works calls = one_more_told old new w works calls
grows_told (Err x) old new w works calls = tt

-- A push onto an equal list is a push onto the original list.
pub grown : {E : Type 0} (res : Result (Unit {0}) E) (new : List Planned) (w : Planned) (old middle : Vec Planned Global) → middle ≡ old → OnOk res (new ≡ middle.items ++ w ∷ []) → OnOk res (new ≡ old.items ++ w ∷ [])
grown (Ok x) new w old middle e h = h ∙ ap (λ (v : Vec Planned Global). v.items ++ w ∷ []) e
grown (Err x) new w old middle e h = tt

-- A call pushed in the code is a call appended in the definitions.
pub one_more_call : (old new : List CallTaken) (c : CallTaken) → new ≡ old ++ c ∷ [] → all_seen new ≡ all_seen old ++ seen_call c ∷ []
one_more_call old new c is = ap all_seen is ∙ map-append seen_call old (c ∷ [])

pub adds_jobs : {E : Type 0} (res : Result (Unit {0}) E) (classes : Classes) (old new : Batch) (r s : Request) (p : Part) → r ≡ s → OnOk res (Grows old new p)
    → Adds classes (length (calls_of old)) s p classes → OnOk res (Adding classes old r new classes)
adds_jobs (Ok x) classes old new r s p e g a = subst (λ (z : Request). Adding classes old z new classes) (sym e) (record { part = p; adds = a; grows = g })
adds_jobs (Err x) classes old new r s p e g a = tt

pub adds_told : {E : Type 0} (res : Result (Unit {0}) E) (classes later : Classes) (old new : Batch) (r s : Request) (w : Planned) → r ≡ s → OnOk res (new.works.items ≡ old.works.items ++ w ∷ [])
    → new.calls ≡ old.calls → Adds classes (length (calls_of old)) s (part (work_of w) []) later → OnOk res (Adding classes old r new later)
adds_told (Ok x) classes later old new r s w e works calls a =
    subst (λ (z : Request). Adding classes old z new later) (sym e) (record { part = part (work_of w) []; adds = a; grows = one_more_told old new w works calls })
adds_told (Err x) classes later old new r s w e works calls a = tt

-- The list of calls has the same length in the code and in the definitions.
pub as_many_calls : (p : Batch) → length (calls_of p) ≡ length p.calls.items
as_many_calls p = length-map p.calls.items seen_call

-- A job that the round has capacity for, and a job that it denies.
pub grows_one : {E : Type 0} (res : Result (Unit {0}) E) (old new : Batch) (c : Call) → length old.calls.items < most_jobs → OnOk res (Grows old new (part (Job (length (calls_of old))) (c ∷ []))) → OnOk res (Grows old new (one (length (calls_of old)) c))
grows_one res old new c few g =
    let at : ℕ = length (calls_of old) in
    subst (λ p. OnOk res (Grows old new p)) (sym (has_room at (part (Job at) (c ∷ [])) (omega (arith, few, as_many_calls old)))) g

pub denies_one : {E : Type 0} (res : Result (Unit {0}) E) (old new : Batch) (c : Call) → most_jobs ≤ length old.calls.items → OnOk res (new.works.items ≡ old.works.items ++ planned.Denied TooManyJobs ∷ []) → new.calls ≡ old.calls
    → OnOk res (Grows old new (one (length (calls_of old)) c))
denies_one res old new c many works calls =
    let at : ℕ = length (calls_of old) in
    subst (λ p. OnOk res (Grows old new p)) (sym (lacks_room at (part (Job at) (c ∷ [])) (omega (arith, many, as_many_calls old)))) (grows_told res old new (planned.Denied TooManyJobs) works calls)

-- An index below the length of a list has an element.
pub there : {A : Type 0} (xs : List A) (n : ℕ) → n < length xs → (x : A) × (slice_get xs n ≡ Some x)
there [] n h = absurd (omega (arith, h))
there (x ∷ xs) zero h = (x, refl)
there (x ∷ xs) (suc n) h = there xs n (omega (arith, h))

pub invoke_known : (classes : Classes) (at n : ℕ) (key : ℤ) (args : List Arg) (x : Class) → class_at classes n ≡ Some x → Adds classes at (Invoke n key args) (one at (call.Invoke x key args)) classes
invoke_known classes at n key args x e = subst (λ o. Adds classes at (Invoke n key args) (of_class o (λ c. one at (call.Invoke c key args))) classes) e (invokes n key args)

pub invoke_unknown : (classes : Classes) (at n : ℕ) (key : ℤ) (args : List Arg) → class_at classes n ≡ None → Adds classes at (Invoke n key args) (told (reply.Denied UnknownClass)) classes
invoke_unknown classes at n key args e = subst (λ o. Adds classes at (Invoke n key args) (of_class o (λ c. one at (call.Invoke c key args))) classes) e (invokes n key args)

pub invoke_all_known : (classes : Classes) (at n : ℕ) (keys : List ℤ) (args : List Arg) (x : Class) → class_at classes n ≡ Some x → Adds classes at (InvokeAll n keys args) (each at (different keys) args x) classes
invoke_all_known classes at n keys args x e = subst (λ o. Adds classes at (InvokeAll n keys args) (of_class o (λ c. each at (different keys) args c)) classes) e (invokes_all n keys args)

pub invoke_all_unknown : (classes : Classes) (at n : ℕ) (keys : List ℤ) (args : List Arg) → class_at classes n ≡ None → Adds classes at (InvokeAll n keys args) (told (reply.Denied UnknownClass)) classes
invoke_all_unknown classes at n keys args e = subst (λ o. Adds classes at (InvokeAll n keys args) (of_class o (λ c. each at (different keys) args c)) classes) e (invokes_all n keys args)

-- ---- one element at a time

pub drop_step : {A : Type 0} (xs : List A) (i : ℕ) (d : A) → i < length xs → drop i xs ≡ get_or xs i d ∷ drop (i + 1) xs
drop_step {A} xs i d h = go xs i h ∙ ap (λ n. get_or xs i d ∷ drop n xs) (one_more i)
  where
    one_more : (n : ℕ) → suc n ≡ n + 1
    one_more n = omega arith

    go : (ys : List A) (n : ℕ) → n < length ys → drop n ys ≡ get_or ys n d ∷ drop (suc n) ys
    go [] n lt = absurd (omega (arith, lt))
    go (y ∷ ys) zero lt = refl
    go (y ∷ ys) (suc n) lt = go ys n (omega (arith, lt))

pub drop_none : {A : Type 0} (xs : List A) (i : ℕ) → length xs ≤ i → drop i xs ≡ []
drop_none [] zero h = refl
drop_none [] (suc i) h = refl
drop_none (x ∷ xs) zero h = absurd (omega (arith, h))
drop_none (x ∷ xs) (suc i) h = drop_none xs i (omega (arith, h))

pub map_step : {A B : Type 0} (f : A → B) (front : List B) (xs : List A) (i : ℕ) (d : A) (y : B) (all : List B) → i < length xs → y ≡ f (get_or xs i d) → front ++ map f (drop i xs) ≡ all
    → (front ++ y ∷ []) ++ map f (drop (i + 1) xs) ≡ all
map_step f front xs i d y all h e g =
    append_assoc front (y ∷ []) (map f (drop (i + 1) xs)) ∙ ap (λ z. front ++ z ∷ map f (drop (i + 1) xs)) e ∙ ap (λ l. front ++ map f l) (sym (drop_step xs i d h)) ∙ g

pub of_ok : {A E P : Type 0} (res : Result A E) (x : A) → res ≡ Ok x → OnOk res P → P
of_ok {P = P} res x e h = subst (λ r. OnOk r P) e h

-- A call for the next key extends the calls, and shortens the keys to come.
pub pushed : (x : Class) (args : List Arg) (old new : List CallTaken) (c : CallTaken) (keys : List ℤ) (i : ℕ) (d : ℤ) (all : List Call) → i < length keys → seen_call c ≡ call.Invoke x (get_or keys i d) args
    → new ≡ old ++ c ∷ [] → all_seen old ++ invocations x args (drop i keys) ≡ all → all_seen new ++ invocations x args (drop (i + 1) keys) ≡ all
pushed x args old new c keys i d all h called is g =
    ap (λ l. l ++ invocations x args (drop (i + 1) keys)) (one_more_call old new c is)
    ∙ map_step (λ k. call.Invoke x k args) (all_seen old) keys i d (seen_call c) all h called g

pub refused_as : (classes : Classes) (at : ℕ) (bytes : List ℕ) (r : Refusal) → HasRoom classes → (r ≡ refusal.NoMemory) ⊎ IsRefused Third bytes r → Adds classes at (Define bytes) (told (reply.Refused r)) classes
refused_as classes at bytes r few (inl e) = subst (λ x. Adds classes at (Define bytes) (told (reply.Refused x)) classes) (sym e) (lacks_memory bytes few)
refused_as classes at bytes r few (inr is) = refuses bytes r few is

-- A class is defined with the number and the list of classes that the code has.
pub defined_as : (classes later : Classes) (at n : ℕ) (bytes : List ℕ) (c : Class) (b : Bounds) → HasRoom classes → n ≡ length classes → later ≡ classes ++ Some c ∷ [] → IsAccepted Third bytes → IsClassOf Third bytes c
    → ((j : ℕ) → IsProcessOf c j → AreBounds c j b) → Adds classes at (Define bytes) (told (reply.Defined n b.steps b.words)) later
defined_as classes later at n bytes c b few count items accepted class bounds =
    subst (λ (l : Classes). Adds classes at (Define bytes) (told (reply.Defined n b.steps b.words)) l) (sym items)
    (subst (λ (m : ℕ). Adds classes at (Define bytes) (told (reply.Defined m b.steps b.words)) (classes ++ Some c ∷ [])) (sym count)
    (defines bytes c (reply.Defined (length classes) b.steps b.words) few (record { accepted = accepted; class = class; bounds = b; bounds_are = bounds; reply = refl })))
