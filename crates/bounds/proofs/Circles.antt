-- Rounds over the methods: another cost becomes known, or the methods with unknown costs form a cycle.
use Rattle.std.proofs.Common.{◌≡◌, ◌≢◌, ℕ, zero, suc, ◌+◌, ◌<◌, ◌≤◌, Bool, true, false, not, List, [], ◌∷◌, length, get_or, take, ◌++◌, Option, Some, None, refl, sym, ap, ◌∙◌, subst, arith, inl, inr}
use Rattle.std.specs.Prelude.{Result, Ok, Err, IfErr, min, max, slice_set, IsSome, is_some, ◌&&◌, ◌⊎◌}
use Rattle.std.proofs.lemmas.Bool.{cases_lt}
use Rattle.std.proofs.lemmas.List.{get_or_default}
use Rattle.jtypes.specs.declared.refusal.Refusal.{Refusal}
use Rattle.jtypes.specs.declared.refusal.Refusal.TheVariants.{NoMemory, Recursive}
use Rattle.decode.specs.declared.instruction.Placed.{Placed}
use Rattle.decode.specs.Places.{at_place}
use Rattle.typecheck.specs.Typing.{Class, own_of, own_number}
use Rattle.typecheck.specs.Calls.{callee_in}
use Rattle.typecheck.specs.declared.typed.Called.{Called}
use Rattle.typecheck.specs.declared.typed.Typed.{Typed}
use Rattle.typecheck.proofs.CallsFound.{there}
use Rattle.bounds.specs.declared.limits.Bounds as declared
use Rattle.bounds.specs.Limits.{Exceeds, Judges}
use Rattle.bounds.specs.Recursion.{HasCall}
use Rattle.bounds.specs.Cells.{Cell, known_at}
use Rattle.bounds.specs.Rows.{IsRowOf, AreAllRowsOf, AreSettled, IsSettled, Learns, LearnsUpTo, OneIsUnknown, IsCircleIn, count_unknown, is_known, are_known}
use Rattle.bounds.proofs.Greatest.{some_is}

pub fewer : (known : List (Option Cell)) (k : ℕ) (x : Cell) → k < length known → known_at known k ≡ None → count_unknown (slice_set known k (Some x)) < count_unknown known
fewer [] k x l e = absurd (omega (arith, l))
fewer (None ∷ known) zero x l e = omega arith
fewer (Some y ∷ known) zero x l e = cc
fewer (None ∷ known) (suc k) x l e = let h = fewer known k x (omega (arith, l)) e in omega (arith, h)
fewer (Some y ∷ known) (suc k) x l e = let h = fewer known k x (omega (arith, l)) e in omega (arith, h)

pub learnt_more : (rows : List Typed) (i n : ℕ) (row : Typed) (old mid new : List (Option Cell)) (b : Bool) → LearnsUpTo rows i b old mid → Learns row true mid new → LearnsUpTo rows n true old new
learnt_more rows i n row old mid new true h g = omega (arith, h, g)
learnt_more rows i n row old mid new false h g = let same : count_unknown mid ≡ count_unknown old = ap count_unknown h.0 in omega (arith, same, g)

pub learnt_no_more : (rows : List Typed) (i : ℕ) (row : Typed) (old mid new : List (Option Cell)) (b : Bool) → LearnsUpTo rows i b old mid → Learns row false mid new → ((d : Typed) → row ≡ get_or rows i d) → LearnsUpTo rows (i + 1) b old new
learnt_no_more rows i row old mid new true h g e = let same : count_unknown new ≡ count_unknown mid = ap count_unknown g.0 in omega (arith, same, h)
learnt_no_more rows i row old mid new false h g e = (g.0 ∙ h.0, λ k d l. go k d (cases_lt k i) l)
  where
    go : (k : ℕ) (d : Typed) → (k < i) ⊎ (i ≤ k) → k < i + 1 → IsSettled old (get_or rows k d)
    go k d (inl less) l = h.1 k d less
    go k d (inr more) l =
        let same : k ≡ i = omega (arith, more, l) in
        subst (λ (n : ℕ). IsSettled old (get_or rows n d)) (sym same) (subst (IsSettled old) (e d) (subst (λ (known : List (Option Cell)). IsSettled known row) h.0 g.1))

-- ---- cycles

record Unready (known : List (Option Cell)) (calls : List Called) : Type 0 where
  at : ℕ
  call : Called
  within : at < length calls
  is : call ≡ get_or calls at call
  callee : ℕ
  own : own_number call.callee.reached ≡ Some callee
  unknown : known_at known callee ≡ None

pub none_is : {A : Type 0} (o : Option A) → is_some o ≡ false → o ≡ None
none_is None e = refl
none_is (Some x) e = cc

unready : (known : List (Option Cell)) (calls : List Called) → are_known known calls ≡ false → Unready known calls
unready known [] e = cc
unready known (x ∷ calls) e = go (unready known calls) (own_number x.callee.reached) refl (is_known known (own_number x.callee.reached)) refl e
  where
    later : Unready known calls → Unready known (x ∷ calls)
    later u = record { at = suc u.at; call = u.call; within = (let w = u.within in omega (arith, w)); is = u.is; callee = u.callee; own = u.own; unknown = u.unknown }

    here : (o : Option ℕ) → own_number x.callee.reached ≡ o → is_known known o ≡ false → Unready known (x ∷ calls)
    here None q f = cc
    here (Some k) q f = record { at = 0; call = x; within = omega arith; is = refl; callee = k; own = q; unknown = none_is (known_at known k) f }

    go : (are_known known calls ≡ false → Unready known calls) → (o : Option ℕ) → own_number x.callee.reached ≡ o → (b : Bool) → is_known known (own_number x.callee.reached) ≡ b → b && are_known known calls ≡ false → Unready known (x ∷ calls)
    go others o q true f g = later (others g)
    go others o q false f g = here (own_number x.callee.reached) refl f

both : (a b : Bool) → a ≡ true → b ≡ true → a && b ≡ true
both true b e f = f
both false b e f = cc

left : (a b : Bool) → a && b ≡ true → a ≡ true
left true b e = refl
left false b e = cc

right : (a b : Bool) → a && b ≡ true → b ≡ true
right true b e = e
right false b e = cc

missing : {A : Type 0} (o : Option A) → not (is_some o) ≡ true → o ≡ None
missing None e = refl
missing (Some x) e = cc

absent : {A : Type 0} (o : Option A) → o ≡ None → not (is_some o) ≡ true
absent o e = ap (λ x. not (is_some x)) e

module _ (c : Class) (set : ℕ → Bool) (rows : List Typed) (known : List (Option Cell)) (all : AreAllRowsOf c set rows) (settled : AreSettled rows known) where
  abbrev unknown_ones : ℕ → Bool
  unknown_ones k = set k && not (is_some (known_at known k))

  step_in : (i : ℕ) (row : Typed) → i < length rows → row ≡ get_or rows i row → known_at known row.number ≡ None → (k : ℕ) × HasCall c row.number k × (unknown_ones k ≡ true)
  step_in i row l e none =
      let is : IsRowOf c row = subst (IsRowOf c) (sym e) (all.are.each i row l) in
      let waits : are_known known row.calls.items ≡ false = subst (IsSettled known) (sym e) (settled i row l) none in
      let u = unready known row.calls.items waits in
      let found : Some u.call.callee ≡ callee_in row.calls.items u.call.place = there row.calls.items row.calls.items refl is.rising u.call.place u.at u.call u.within u.is refl in
      let placed : IsSome (at_place row.code (get_or row.calls.items u.at u.call).place) = subst (λ (r : Typed). (q : ℕ) (x : Called) → q < length r.calls.items → IsSome (at_place r.code (get_or r.calls.items q x).place)) (sym e) (all.placed i row l) u.at u.call u.within in
      let here : IsSome (at_place row.code u.call.place) = subst (λ (x : Called). IsSome (at_place row.code x.place)) (sym u.is) placed in
      let p = some_is (at_place row.code u.call.place) here in
      let owned : own_of (callee_in row.calls.items u.call.place) ≡ Some u.callee = ap own_of (sym found) ∙ u.own in
      let member : set u.callee ≡ true = subst (λ (r : Typed). (place k : ℕ) → own_of (callee_in r.calls.items place) ≡ Some k → set k ≡ true) (sym e) (all.reached i row l) u.call.place u.callee owned in
      let call : HasCall c row.number u.callee = (is.method.0, u.call.place, p.0, is.method.1, ap (λ (code : List Placed). at_place code u.call.place) is.method.3 ∙ p.1, is.calls u.call.place p.0 p.1 ∙ owned) in
      (u.callee, call, both (set u.callee) (not (is_some (known_at known u.callee))) member (absent (known_at known u.callee) u.unknown))

  circle : Typed → (j : ℕ) → unknown_ones j ≡ true → (k : ℕ) × HasCall c j k × (unknown_ones k ≡ true)
  circle default j e =
      let has = all.each_has_one j (left (set j) (not (is_some (known_at known j))) e) in
      let number : (get_or rows has.0 default).number ≡ j = has.2 default in
      let none : known_at known (get_or rows has.0 default).number ≡ None = subst (λ (n : ℕ). known_at known n ≡ None) (sym number) (missing (known_at known j) (right (set j) (not (is_some (known_at known j))) e)) in
      subst (λ (n : ℕ). (k : ℕ) × HasCall c n k × (unknown_ones k ≡ true)) number (step_in has.0 (get_or rows has.0 default) has.1 (same has.0 default has.1) none)
    where
      same : (i : ℕ) (d : Typed) → i < length rows → get_or rows i d ≡ get_or rows i (get_or rows i d)
      same i d l = get_or_default rows i d (get_or rows i d) l

pub circles : (rows : List Typed) (known : List (Option Cell)) → AreSettled rows known → OneIsUnknown rows known → IsCircleIn rows
circles rows known settled (i, row, l, e, none) c set all =
    let member : set row.number ≡ true = subst (λ (r : Typed). set r.number ≡ true) (sym e) (all.are.within i row l) in
    (unknown_ones c set rows known all settled, (row.number, both (set row.number) (not (is_some (known_at known row.number))) member (absent (known_at known row.number) none)), circle c set rows known all settled row)

pub counted : (rows : List Typed) (n count : ℕ) (row : Typed) → ((i : ℕ) (d : Typed) → i < n → min (suc (get_or rows i d).number) 18_446_744_073_709_551_615 ≤ count) → ((d : Typed) → row ≡ get_or rows n d)
    → (i : ℕ) (d : Typed) → i < n + 1 → min (suc (get_or rows i d).number) 18_446_744_073_709_551_615 ≤ max count (min (row.number + 1) 18_446_744_073_709_551_615)
counted rows n count row before at i d l = go (cases_lt i n)
  where
    go : (i < n) ⊎ (n ≤ i) → min (suc (get_or rows i d).number) 18_446_744_073_709_551_615 ≤ max count (min (row.number + 1) 18_446_744_073_709_551_615)
    go (inl less) = let k = before i d less in omega (arith, k)
    go (inr more) =
        let same : i ≡ n = omega (arith, more, l) in
        let e : row.number ≡ (get_or rows i d).number = ap (λ (r : Typed). r.number) (at d) ∙ ap (λ (k : ℕ). (get_or rows k d).number) (sym same) in
        omega (arith, e)

pub took : {A : Type 0} (xs ys : List A) (n : ℕ) → n ≡ length xs → take n (xs ++ ys) ≡ xs
took [] ys zero e = refl
took [] ys (suc n) e = absurd (omega (arith, e))
took (x ∷ xs) ys zero e = absurd (omega (arith, e))
took (x ∷ xs) ys (suc n) e = ap (λ l. x ∷ l) (took xs ys n (omega (arith, e)))

pub settled_after : (rows : List Typed) (old new : List (Option Cell)) (b : Bool) → LearnsUpTo rows (length rows) b old new → b ≡ false → AreSettled rows new
settled_after rows old new true h e = cc
settled_after rows old new false h e = subst (AreSettled rows) (sym h.0) h.1

pub early_circle : (rows : List Typed) (r : Refusal) → (r ≢ NoMemory → (r ≡ Recursive) × IsCircleIn rows) → r ≡ Recursive → IsCircleIn rows
early_circle rows r h e = (h (λ f. cc)).1

pub no_circle : (rows : List Typed) (x : Cell) (r : Result declared.Bounds Refusal) → Judges x r → IfErr r (λ s. s ≡ Recursive → IsCircleIn rows)
no_circle rows x (Ok b) h = tt
no_circle rows x (Err r) h = λ e. absurd (subst (Exceeds x) e h)
