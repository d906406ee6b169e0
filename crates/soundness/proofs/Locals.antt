-- Local variables and arguments keep their types.
use Rattle.std.proofs.Common.{◌≡◌, ℕ, zero, suc, ◌-◌, ◌≤◌, Bool, true, false, List, [], ◌∷◌, ◌++◌, length, take, drop, replicate, Option, Some, None, refl, sym, ap, ◌∙◌, subst, arith}
use Rattle.std.specs.Prelude.{slice_get, slice_set, nat_le, cond}
use Rattle.std.proofs.lemmas.Bool.{and_from, le-leb, leb-true}
use Rattle.std.proofs.lemmas.Option.{some_pair_parts}
use Rattle.jtypes.specs.declared.types.JType.{JType}
use Rattle.jtypes.specs.declared.types.JType.TheVariants.{Top, Int, Long, Null, Ref}
use Rattle.jtypes.specs.declared.types.Value.{Value}
use Rattle.jtypes.specs.declared.types.Value.TheVariants.{Int as IntValue, Long as LongValue, Ref as RefValueOf}
use Rattle.jtypes.specs.Types.{is_long, as_locals}
use Rattle.jtypes.specs.Values.{Arrays, is_long_value, fits, all_fit}
use Rattle.jtypes.specs.Lists.{change, change_before, padded}
use Rattle.jtypes.proofs.Fit.{is_top, EachFit, SlotFits, EachSlotFits, fits_long, long_fits, only_if_some, only_if_true}
use Rattle.jtypes.proofs.OperationsFit.{Took}
use Rattle.transfer.specs.Transfer.{without_long, store_type}
use Rattle.verdict.specs.Machine.{without_long_value, store_value, split}

-- ---- local variables

pub slot_at : (arrays : Arrays) (os : List (Option Value)) (ts : List JType) (n : ℕ) (t : JType) → EachSlotFits arrays os ts → slice_get ts n ≡ Some t → (o : Option Value) × (slice_get os n ≡ Some o) × SlotFits arrays o t
slot_at arrays [] [] n t h e = cc
slot_at arrays [] (u ∷ ts) n t h e = absurd h
slot_at arrays (o ∷ os) [] n t h e = absurd h
slot_at arrays (o ∷ os) (u ∷ ts) zero t h e = let same : u ≡ t = cc in (o, refl, subst (SlotFits arrays o) same h.0)
slot_at arrays (o ∷ os) (u ∷ ts) (suc n) t h e = slot_at arrays os ts n t h.1 e

pub slots_length : (arrays : Arrays) (os : List (Option Value)) (ts : List JType) → EachSlotFits arrays os ts → length os ≡ length ts
slots_length arrays [] [] h = refl
slots_length arrays [] (u ∷ ts) h = absurd h
slots_length arrays (o ∷ os) [] h = absurd h
slots_length arrays (o ∷ os) (u ∷ ts) h = ap suc (slots_length arrays os ts h.1)

slots_set : (arrays : Arrays) (os : List (Option Value)) (ts : List JType) (n : ℕ) (o : Option Value) (t : JType) → EachSlotFits arrays os ts → SlotFits arrays o t → EachSlotFits arrays (slice_set os n o) (slice_set ts n t)
slots_set arrays [] [] n o t h k = tt
slots_set arrays [] (u ∷ ts) n o t h k = absurd h
slots_set arrays (p ∷ os) [] n o t h k = absurd h
slots_set arrays (p ∷ os) (u ∷ ts) zero o t h k = (k, h.1)
slots_set arrays (p ∷ os) (u ∷ ts) (suc n) o t h k = (h.0, slots_set arrays os ts n o t h.1 k)

long_gone : (arrays : Arrays) (o : Option Value) (t : JType) → SlotFits arrays o t → SlotFits arrays (without_long_value o) (without_long t)
long_gone arrays None Top h = refl
long_gone arrays None Int h = cc
long_gone arrays None Long h = cc
long_gone arrays None Null h = cc
long_gone arrays None (Ref r) h = cc
long_gone arrays (Some (LongValue n)) Top h = refl
long_gone arrays (Some (LongValue n)) Int h = cc
long_gone arrays (Some (LongValue n)) Long h = refl
long_gone arrays (Some (LongValue n)) Null h = cc
long_gone arrays (Some (LongValue n)) (Ref r) h = cc
long_gone arrays (Some (IntValue n)) Top h = h
long_gone arrays (Some (IntValue n)) Int h = h
long_gone arrays (Some (IntValue n)) Long h = cc
long_gone arrays (Some (IntValue n)) Null h = cc
long_gone arrays (Some (IntValue n)) (Ref r) h = cc
long_gone arrays (Some (RefValueOf v)) Top h = h
long_gone arrays (Some (RefValueOf v)) Int h = h
long_gone arrays (Some (RefValueOf v)) Long h = let l = fits_long arrays (RefValueOf v) h in let e : RefValueOf v ≡ LongValue l.0 = l.1 in cc
long_gone arrays (Some (RefValueOf v)) Null h = h
long_gone arrays (Some (RefValueOf v)) (Ref r) h = h

pub slots_keep : (arrays : Arrays) (os : List (Option Value)) (ts : List JType) (n : ℕ) (o : Option Value) (t : JType) → EachSlotFits arrays os ts → slice_get ts n ≡ Some t → SlotFits arrays o t → EachSlotFits arrays (slice_set os n o) ts
slots_keep arrays [] [] n o t h e k = tt
slots_keep arrays [] (u ∷ ts) n o t h e k = absurd h
slots_keep arrays (p ∷ os) [] n o t h e k = absurd h
slots_keep arrays (p ∷ os) (u ∷ ts) zero o t h e k = let same : t ≡ u = cc in (subst (SlotFits arrays o) same k, h.1)
slots_keep arrays (p ∷ os) (u ∷ ts) (suc n) o t h e k = (h.0, slots_keep arrays os ts n o t h.1 e k)

slots_change : (arrays : Arrays) (os : List (Option Value)) (ts : List JType) (n : ℕ) → EachSlotFits arrays os ts → EachSlotFits arrays (change without_long_value os n) (change without_long ts n)
slots_change arrays [] [] n h = tt
slots_change arrays [] (u ∷ ts) n h = absurd h
slots_change arrays (o ∷ os) [] n h = absurd h
slots_change arrays (o ∷ os) (u ∷ ts) zero h = (long_gone arrays o u h.0, h.1)
slots_change arrays (o ∷ os) (u ∷ ts) (suc n) h = (h.0, slots_change arrays os ts n h.1)

slots_change_before : (arrays : Arrays) (os : List (Option Value)) (ts : List JType) (n : ℕ) → EachSlotFits arrays os ts → EachSlotFits arrays (change_before without_long_value os n) (change_before without_long ts n)
slots_change_before arrays os ts zero h = h
slots_change_before arrays os ts (suc n) h = slots_change arrays os ts n h

-- A stored value fits its local variable.
pub slots_store : (arrays : Arrays) (os : List (Option Value)) (ts : List JType) (n : ℕ) (v : Value) (t : JType) → EachSlotFits arrays os ts → fits arrays v t ≡ true → is_top t ≡ false → EachSlotFits arrays (store_value os n v) (store_type ts n t)
slots_store arrays os ts n (IntValue x) Int h f k = slots_set arrays _ _ n (Some (IntValue x)) Int (slots_change_before arrays os ts n h) f
slots_store arrays os ts n (LongValue x) Long h f k =
    slots_set arrays _ _ (suc n) None Top (slots_set arrays _ _ n (Some (LongValue x)) Long (slots_change_before arrays os ts n h) f) refl
slots_store arrays os ts n (RefValueOf x) Null h f k = slots_set arrays _ _ n (Some (RefValueOf x)) Null (slots_change_before arrays os ts n h) f
slots_store arrays os ts n (RefValueOf x) (Ref r) h f k = slots_set arrays _ _ n (Some (RefValueOf x)) (Ref r) (slots_change_before arrays os ts n h) f
slots_store arrays os ts n v Top h f k = cc
slots_store arrays os ts n (LongValue x) Int h f k = cc
slots_store arrays os ts n (RefValueOf x) Int h f k = slots_set arrays _ _ n (Some (RefValueOf x)) Int (slots_change_before arrays os ts n h) f
slots_store arrays os ts n (IntValue x) Long h f k = cc
slots_store arrays os ts n (RefValueOf x) Long h f k = let l = fits_long arrays (RefValueOf x) f in let e : RefValueOf x ≡ LongValue l.0 = l.1 in cc
slots_store arrays os ts n (IntValue x) Null h f k = cc
slots_store arrays os ts n (LongValue x) Null h f k = cc
slots_store arrays os ts n (IntValue x) (Ref r) h f k = cc
slots_store arrays os ts n (LongValue x) (Ref r) h f k = cc

-- ---- arguments

args_fit : (arrays : Arrays) (vs : List Value) (ts : List JType) → EachFit arrays vs ts → EachSlotFits arrays (as_locals is_long_value (λ v. Some v) None vs) (as_locals is_long (λ t. t) Top ts)
args_fit arrays [] [] h = tt
args_fit arrays [] (t ∷ ts) h = absurd h
args_fit arrays (v ∷ vs) [] h = absurd h
args_fit arrays (v ∷ vs) (t ∷ ts) h = go (args_fit arrays vs ts h.2) (is_long_value v) (is_long t) (long_fits arrays v t h.0 h.1)
  where
    go : EachSlotFits arrays (as_locals is_long_value (λ v. Some v) None vs) (as_locals is_long (λ t. t) Top ts) → (a b : Bool) → a ≡ b → EachSlotFits arrays (cond a (Some v ∷ None ∷ as_locals is_long_value (λ v. Some v) None vs) (Some v ∷ as_locals is_long_value (λ v. Some v) None vs)) (cond b (t ∷ Top ∷ as_locals is_long (λ t. t) Top ts) (t ∷ as_locals is_long (λ t. t) Top ts))
    go rest true true e = (h.0, (refl, rest))
    go rest false false e = (h.0, rest)
    go rest true false e = cc
    go rest false true e = cc

slots_append : (arrays : Arrays) (os ps : List (Option Value)) (ts us : List JType) → EachSlotFits arrays os ts → EachSlotFits arrays ps us → EachSlotFits arrays (os ++ ps) (ts ++ us)
slots_append arrays [] ps [] us h k = k
slots_append arrays [] ps (t ∷ ts) us h k = absurd h
slots_append arrays (o ∷ os) ps [] us h k = absurd h
slots_append arrays (o ∷ os) ps (t ∷ ts) us h k = (h.0, slots_append arrays os ps ts us h.1 k)

blanks_fit : (arrays : Arrays) (n : ℕ) → EachSlotFits arrays (replicate n None) (replicate n Top)
blanks_fit arrays zero = tt
blanks_fit arrays (suc n) = (refl, blanks_fit arrays n)

pub first_locals : (arrays : Arrays) (n : ℕ) (vs : List Value) (ts : List JType) → EachFit arrays vs ts → EachSlotFits arrays (padded None n (as_locals is_long_value (λ v. Some v) None vs)) (padded Top n (as_locals is_long (λ t. t) Top ts))
first_locals arrays n vs ts h =
    let os = as_locals is_long_value (λ v. Some v) None vs in
    let us = as_locals is_long (λ t. t) Top ts in
    let f = args_fit arrays vs ts h in
    let P : ℕ → Type 0 = λ k. EachSlotFits arrays (os ++ replicate (n - k) None) (us ++ replicate (n - length us) Top) in
    subst P (sym (slots_length arrays os us f)) (slots_append arrays os _ us _ f (blanks_fit arrays (n - length us)))

-- The popped operands and the operands below them.
pub record HasSplit (arrays : Arrays) (asked rest : List JType) (vs : List Value) : Type 0 where
  pub taken : List Value
  pub below : List Value
  pub parts : split (length asked) vs ≡ Some (taken, below)
  pub fit : all_fit arrays taken asked ≡ true
  pub rest_fit : EachFit arrays below rest

pub split_took : (arrays : Arrays) (asked rest : List JType) (vs : List Value) → Took arrays asked rest vs → HasSplit arrays asked rest vs
split_took arrays [] rest vs h = record { taken = []; below = vs; parts = only_if_true (nat_le 0 (length vs)) _ (le-leb 0 (length vs) (omega arith)); fit = refl; rest_fit = h }
split_took arrays (a ∷ more) rest vs h =
    let r = split_took arrays more rest h.1 h.4 in
    let p = only_if_some (nat_le (length more) (length h.1)) (Some (take (length more) h.1, drop (length more) h.1)) (r.taken, r.below) r.parts in
    let P : List Value → Type 0 = λ ws. split (suc (length more)) ws ≡ Some (h.0 ∷ r.taken, r.below) in
    let both = some_pair_parts (take (length more) h.1) r.taken (drop (length more) h.1) r.below p.1 in
    let t = both.0 in
    let d = both.1 in
    let long : length more ≤ length h.1 = leb-true (length more) (length h.1) p.0 in
    let whole : split (suc (length more)) (h.0 ∷ h.1) ≡ Some (h.0 ∷ r.taken, r.below) = only_if_true (nat_le (suc (length more)) (suc (length h.1))) _ (le-leb (suc (length more)) (suc (length h.1)) (omega arith)) ∙ ap (λ x. Some (h.0 ∷ x, drop (length more) h.1)) t ∙ ap (λ x. Some (h.0 ∷ r.taken, x)) d in
    record {
      taken = h.0 ∷ r.taken;
      below = r.below;
      parts = subst P (sym h.2) whole;
      fit = and_from _ _ h.3 r.fit;
      rest_fit = r.rest_fit;
    }
