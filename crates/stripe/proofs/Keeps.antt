-- The effect of calls on the table and on the history.
use Rattle.std.proofs.Common.{arith, ◌≡◌, zero, suc, ℤ, Bool, true, false, not, ◌&&◌, cond, if◌then◌else◌, List, [], ◌∷◌, ◌++◌, All, Option, None, Some, is_some, IsSome, refl, sym, ap, subst, ◌∙◌, true≢false, append_assoc}
use Rattle.std.proofs.lemmas.List.{append-nil}
use Rattle.std.proofs.lemmas.List.Elements.{All-append}
use Rattle.std.proofs.lemmas.Bool.Decides.{Decides-int_eq}
use Rattle.std.specs.Option.{option_flatten}
use Rattle.std.specs.Ordering.{int_eq}
use Rattle.std.specs.Cmp.{int_cmp_total, eq_by_cmp_equiv}
use Rattle.std.specs.FinMap as map
use Rattle.jtypes.specs.Entry.{Entry}
use Rattle.jtypes.specs.declared.loader.LoadAnswer.{LoadAnswer}
use Rattle.stripe.specs.declared.call.Reply.{Reply}
use Rattle.stripe.specs.History.{Call, Invoke, Get, Put, Remove, Contains, Begun, Record, Entries, key_of, entry_after, entries_after, Answers, IsLegalAfter}
use Rattle.stripe.specs.Stored.{Stored, entry_in, left, HasValues}
use Rattle.stripe.specs.Kept.{Kept, IsOf, AreOf, entry_of, may_make, is_absent, held, begun, committed, IsKept, IsEnd, IsRecord, IsMade, IsPlain}

-- ---- keys

turned : (x y : ℤ) → int_eq x y ≡ int_eq y x
turned x y = (eq_by_cmp_equiv int_cmp_total).symm x y

itself : (x : ℤ) → int_eq x x ≡ true
itself x = (Decides-int_eq x x).1 refl

-- ---- options

no_one : {X : Type 0} (o : Option X) → is_some o ≡ false → o ≡ None
no_one None e = refl
no_one (Some x) e = absurd (true≢false e)

at_true : {X Y : Type 0} (f : X → Y) (b : Bool) (x y : X) → b ≡ true → f (cond b x y) ≡ f x
at_true f true x y e = refl
at_true f false x y e = absurd (true≢false (sym e))

at_false : {X Y : Type 0} (f : X → Y) (b : Bool) (x y : X) → b ≡ false → f (cond b x y) ≡ f y
at_false f false x y e = refl
at_false f true x y e = absurd (true≢false e)

flat : (b : Bool) (e : Entry) (o : Option Entry) → option_flatten (cond b (Some e) o) ≡ (if b then e else option_flatten o)
flat true e o = refl
flat false e o = refl

flat_none : (b : Bool) (o : Option Entry) → option_flatten (cond b None o) ≡ (if b then None else option_flatten o)
flat_none true o = refl
flat_none false o = refl

both : (a b : Bool) → (a && b) ≡ true → (a ≡ true) × (b ≡ true)
both true b e = (refl, e)
both false b e = absurd (true≢false (sym e))

not_true : (b : Bool) → not b ≡ true → b ≡ false
not_true true e = absurd (true≢false (sym e))
not_true false e = refl

-- ---- the slot of a call's entry

module _ (loads : Bool) (m : Stored) (call : Call) where
  absent : is_absent loads m call ≡ true → (may_make loads call ≡ true) × (map.get m (key_of call) ≡ None)
  absent e = let p = both _ _ e in (p.0, no_one _ (not_true _ p.1))

  got : (k : ℤ) → map.get (map.insert m (key_of call) None) k ≡ cond (int_eq k (key_of call)) (Some None) (map.get m k)
  got k = map.get-insert int_cmp_total m (key_of call) None k

  -- The begin of a call changes no entry.
  pub entry_held : (k : ℤ) → entry_in (held loads m call) k ≡ entry_in m k
  entry_held k = by (is_absent loads m call) refl
    where
      at : (b : Bool) → int_eq k (key_of call) ≡ b → map.get m (key_of call) ≡ None → option_flatten (cond b (Some None) (map.get m k)) ≡ entry_in m k
      at false e none = refl
      at true e none = sym (ap (λ x. entry_in m x) ((Decides-int_eq k (key_of call)).0 e) ∙ ap option_flatten none)

      by : (b : Bool) → is_absent loads m call ≡ b → entry_in (if b then map.insert m (key_of call) None else m) k ≡ entry_in m k
      by false e = refl
      by true e = ap option_flatten (got k) ∙ at (int_eq k (key_of call)) refl (absent e).1

  -- The key of a call that may create an entry is stored.
  pub held_stored : may_make loads call ≡ true → IsSome (map.get (held loads m call) (key_of call))
  held_stored makes = by (is_absent loads m call) refl
    where
      there : (b : Bool) → not b ≡ false → b ≡ true
      there true e = refl
      there false e = absurd (true≢false e)

      by : (b : Bool) → is_absent loads m call ≡ b → IsSome (map.get (if b then map.insert m (key_of call) None else m) (key_of call))
      by true e = ap is_some (got (key_of call) ∙ at_true (λ o. o) _ _ _ (itself (key_of call)))
      by false e = there _ (sym (ap (λ b. b && not (is_some (map.get m (key_of call)))) makes) ∙ e)

  -- No other key is stored without a value.
  pub values_held : HasValues m → (k : ℤ) → map.get (held loads m call) k ≡ Some None → (may_make loads call ≡ true) × (k ≡ key_of call)
  values_held values k = by (is_absent loads m call) refl
    where
      at : (b : Bool) → int_eq k (key_of call) ≡ b → cond b (Some None) (map.get m k) ≡ Some None → k ≡ key_of call
      at true e g = (Decides-int_eq k (key_of call)).0 e
      at false e g = absurd (values k g)

      by : (b : Bool) → is_absent loads m call ≡ b → map.get (if b then map.insert m (key_of call) None else m) k ≡ Some None → (may_make loads call ≡ true) × (k ≡ key_of call)
      by false e g = absurd (values k g)
      by true e g = ((absent e).0, at (int_eq k (key_of call)) refl (sym (got k) ∙ g))

-- ---- the entry that is left

module _ (m : Stored) (k : ℤ) where
  pub entry_left : (e : Entry) (q : ℤ) → entry_in (left m k e) q ≡ (if int_eq k q then e else entry_in m q)
  entry_left None q =
      ap option_flatten (map.get-remove int_cmp_total m k q) ∙ flat_none (int_eq q k) (map.get m q) ∙ ap (λ b. if b then None else entry_in m q) (turned q k)
  entry_left (Some v) q =
      ap option_flatten (map.get-insert int_cmp_total m k (Some v) q) ∙ flat (int_eq q k) (Some v) (map.get m q) ∙ ap (λ b. if b then Some v else entry_in m q) (turned q k)

  pub entry_left_there : (e : Entry) → entry_in (left m k e) k ≡ e
  entry_left_there e = entry_left e k ∙ at_true (λ x. x) _ _ _ (itself k)

  pub entry_left_elsewhere : (e : Entry) (q : ℤ) → ¬ (q ≡ k) → entry_in (left m k e) q ≡ entry_in m q
  entry_left_elsewhere e q other = entry_left e q ∙ by (int_eq k q) refl
    where
      by : (b : Bool) → int_eq k q ≡ b → (if b then e else entry_in m q) ≡ entry_in m q
      by true p = absurd (other (sym ((Decides-int_eq k q).0 p)))
      by false p = refl

  -- If `k` is the only key that is stored without a value, there is none after its entry is set.
  pub values_left : (e : Entry) → ((q : ℤ) → map.get m q ≡ Some None → q ≡ k) → HasValues (left m k e)
  values_left None others q g = by (int_eq q k) refl (sym (map.get-remove int_cmp_total m k q) ∙ g)
    where
      by : (b : Bool) → int_eq q k ≡ b → cond b None (map.get m q) ≡ Some None → ⊥
      by true e p = absurd (cc)
      by false e p = true≢false (sym ((Decides-int_eq q k).1 (others q p)) ∙ e)
  values_left (Some v) others q g = by (int_eq q k) refl (sym (map.get-insert int_cmp_total m k (Some v) q) ∙ g)
    where
      by : (b : Bool) → int_eq q k ≡ b → cond b (Some (Some v)) (map.get m q) ≡ Some None → ⊥
      by true e p = absurd (cc)
      by false e p = true≢false (sym ((Decides-int_eq q k).1 (others q p)) ∙ e)

-- A commit overwrites or removes the slot that the begin of the call stored.
module _ (loads : Bool) (m : Stored) (call : Call) where
  over : (b : Bool) (o x : Option Entry) → cond b o (cond b (Some None) x) ≡ cond b o x
  over true o x = refl
  over false o x = refl

  left_inserted : (e : Entry) → left (map.insert m (key_of call) None) (key_of call) e ≡ left m (key_of call) e
  left_inserted None = map.same_map int_cmp_total map.int_cmp-IsAntisymmetric _ _ (λ q.
      map.get-remove int_cmp_total (map.insert m (key_of call) None) (key_of call) q ∙ ap (cond (int_eq q (key_of call)) None) (map.get-insert int_cmp_total m (key_of call) None q)
      ∙ over (int_eq q (key_of call)) None (map.get m q) ∙ sym (map.get-remove int_cmp_total m (key_of call) q))
  left_inserted (Some v) = map.same_map int_cmp_total map.int_cmp-IsAntisymmetric _ _ (λ q.
      map.get-insert int_cmp_total (map.insert m (key_of call) None) (key_of call) (Some v) q ∙ ap (cond (int_eq q (key_of call)) (Some (Some v))) (map.get-insert int_cmp_total m (key_of call) None q)
      ∙ over (int_eq q (key_of call)) (Some (Some v)) (map.get m q) ∙ sym (map.get-insert int_cmp_total m (key_of call) (Some v) q))

  pub left_held : (e : Entry) → left (held loads m call) (key_of call) e ≡ left m (key_of call) e
  left_held e = by (is_absent loads m call)
    where
      by : (b : Bool) → left (if b then map.insert m (key_of call) None else m) (key_of call) e ≡ left m (key_of call) e
      by false = refl
      by true = left_inserted e

-- ---- a further record

entry_snoc : (e : Entry) (rs : List Record) (r : Record) (k : ℤ) → entry_after e (rs ++ r ∷ []) k ≡ (if int_eq (key_of r.call) k then r.after else entry_after e rs k)
entry_snoc e [] r k = refl
entry_snoc e (x ∷ xs) r k = entry_snoc (if int_eq (key_of x.call) k then x.after else e) xs r k

module _ (loads : Bool) (opening : Entries) (r : Record) where
  abbrev AnswersAfter : List Record → Type 0
  AnswersAfter rs = Answers loads (entries_after opening rs (key_of r.call)) r.call r.reply r.after r.asked

  legal_after : (seen rs : List Record) → IsLegalAfter loads opening seen rs → AnswersAfter (seen ++ rs) → IsLegalAfter loads opening seen (rs ++ r ∷ [])
  legal_after seen [] l a = (subst AnswersAfter (append-nil seen) a, tt)
  legal_after seen (x ∷ xs) l a =
      (l.0, legal_after (seen ++ x ∷ []) xs l.1 (subst AnswersAfter (sym (append_assoc seen (x ∷ []) xs)) a))

all_of : {X : Type 0} (P : X → Type 0) (x : X) → P x → All P (x ∷ [])
all_of P x p zero d h = p
all_of P x p (suc k) d h = absurd (omega (arith, h))

-- The key of each record belongs to the stripe, also after a record is appended.
pub are_of_more : (s : Kept) (r : Record) → AreOf s → IsOf s (key_of r.call) → All (λ (x : Record). IsOf s (key_of x.call)) (s.records ++ r ∷ [])
are_of_more s r are of = All-append (λ (x : Record). IsOf s (key_of x.call)) s.records (r ∷ []) are (all_of (λ (x : Record). IsOf s (key_of x.call)) r of)

-- ---- the history and the table

pub kept_begun : (loads : Bool) (opening : Entries) (s : Kept) (b : Begun) → IsKept loads opening s → IsKept loads opening (begun s b)
kept_begun loads opening s b h = record { legal = h.legal; left = λ k of. entry_held b.loads s.stored b.call k ∙ h.left k of }

pub kept_committed : (loads : Bool) (opening : Entries) (s : Kept) (r : Record) → IsOf s (key_of r.call) → Answers loads (entry_of s (key_of r.call)) r.call r.reply r.after r.asked
    → IsKept loads opening s → IsKept loads opening (committed s r)
kept_committed loads opening s r of answers h =
    record {
      legal = legal_after loads opening r [] s.records h.legal (subst (λ e. Answers loads e r.call r.reply r.after r.asked) (h.left (key_of r.call) of) answers);
      left = λ k of_k. entry_left s.stored (key_of r.call) r.after k ∙ ap (λ e. if int_eq (key_of r.call) k then r.after else e) (h.left k of_k) ∙ sym (entry_snoc (opening k) s.records r k);
    }

-- ---- a call that begins and is committed at once

-- A call that began and was committed satisfies `IsMade`.
pub made_of : (s mid new : Kept) (b : Begun) (r : Record) → mid ≡ begun s b → ((k : ℤ) → entry_of mid k ≡ entry_of s k) → IsRecord b (entry_of mid (key_of b.call)) r → new ≡ committed mid r → IsMade s b r new
made_of s mid new b r is entries told left_is =
    let stored : left (begun s b).stored (key_of r.call) r.after ≡ left s.stored (key_of r.call) r.after =
    subst (λ (x : Call). left (begun s b).stored (key_of x) r.after ≡ left s.stored (key_of x) r.after) (sym told.call) (left_held b.loads s.stored b.call r.after) in
    let over : committed (begun s b) r ≡ committed s r = ap (λ m. record (committed s r) { stored = m }) stored in
    record { told = subst (λ e. IsRecord b e r) (entries (key_of b.call)) told; left = left_is ∙ ap (λ x. committed x r) is ∙ over }

pub plain_ends : (loads : Bool) (before : Entry) (call : Call) → IsPlain call → IsEnd loads before call None None
plain_ends loads before (Invoke c k args) p = absurd p
plain_ends loads before (Get k) p = absurd p
plain_ends loads before (Put k v) p = tt
plain_ends loads before (Remove k) p = tt
plain_ends loads before (Contains k) p = tt

-- The result of a plain call doesn't depend on whether there is a loader.
plain_answers : (loads : Bool) (before : Entry) (call : Call) (reply : Reply) (after : Entry) (asked : Option LoadAnswer) → IsPlain call → Answers false before call reply after asked → Answers loads before call reply after asked
plain_answers loads before (Invoke c k args) reply after asked p a = absurd p
plain_answers loads before (Get k) reply after asked p a = absurd p
plain_answers loads before (Put k v) reply after asked p a = a
plain_answers loads before (Remove k) reply after asked p a = a
plain_answers loads before (Contains k) reply after asked p a = a

module _ (loads : Bool) (opening : Entries) (s : Kept) (b : Begun) (r : Record) (new : Kept) (of : IsOf s (key_of b.call)) (is : IsMade s b r new) where
  kept_answers : Answers loads (entry_of s (key_of b.call)) b.call r.reply r.after r.asked → IsKept loads opening s → IsKept loads opening new
  kept_answers answers h =
      subst (IsKept loads opening) (sym is.left)
      (kept_committed loads opening s r (subst (λ (x : Call). IsOf s (key_of x)) (sym is.told.call) of)
      (subst (λ (x : Call). Answers loads (entry_of s (key_of x)) x r.reply r.after r.asked) (sym is.told.call) answers) h)

  pub kept_made : b.loads ≡ loads → IsKept loads opening s → IsKept loads opening new
  kept_made same = kept_answers (subst (λ l. Answers l (entry_of s (key_of b.call)) b.call r.reply r.after r.asked) same is.told.answers)

  pub kept_plain : b.loads ≡ false → IsPlain b.call → IsKept loads opening s → IsKept loads opening new
  kept_plain same plain =
      kept_answers (plain_answers loads _ b.call r.reply r.after r.asked plain (subst (λ l. Answers l (entry_of s (key_of b.call)) b.call r.reply r.after r.asked) same is.told.answers))
