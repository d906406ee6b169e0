-- At a method's start, and where little is followed, what is known stays right.
use Rattle.std.proofs.Common.{◌≡◌, ℕ, zero, suc, ◌-◌, Bool, true, false, List, [], ◌∷◌, ◌++◌, length, replicate, reverse, Option, Some, None, refl, sym, ap, subst}
use Rattle.std.specs.Prelude.{slice_get, map, if◌then◌else◌}
use Rattle.jtypes.specs.declared.types.Value.{Value}
use Rattle.jtypes.specs.Lists.{padded}
use Rattle.jtypes.specs.Types.{as_locals}
use Rattle.jtypes.specs.Values.{Arrays, is_long_value}
use Rattle.typecheck.specs.Typing.{Method}
use Rattle.verdict.specs.Machine.{Activation, activation_of}
use Rattle.unrolled.specs.Known.{Known, Narrow, is_wide, forgotten, known_local}
use Rattle.unrolled.specs.Graph.{Node, Following, arrive, kept_from, entered}
use Rattle.loop_soundness.proofs.Agreement.{Agrees, AllAgree, LocalAgrees, LocalsAgree, KeepsLengths, all_reverse, all_forget, all_later, locals_later, wide_agrees, local_agrees, kept_agrees}
use Rattle.loop_soundness.proofs.StepEdges.{IsAt}

-- ---- arriving

pub arrived : (arrays : Arrays) (args : ℕ) (f : Following) (x : Node) (a : Activation) → IsAt arrays args x a → IsAt arrays args (arrive f x) a
arrived arrays args f x a h = go f.values
  where
    go : (b : Bool) → IsAt arrays args (if b then x else record { place = x.place; locals = []; operands = map forgotten x.operands }) a
    go true = h
    go false = record { place = h.place; locals = λ n v e. tt; operands = all_forget args arrays x.operands a.operands h.operands }

pub later_at : (old new : Arrays) (args : ℕ) (x : Node) (a : Activation) → KeepsLengths old new → IsAt old args x a → IsAt new args x a
later_at old new args x a l h = record { place = h.place; locals = locals_later args old new l x.locals a.locals h.locals; operands = all_later args old new l x.operands a.operands h.operands }

-- ---- arguments

module _ (arrays : Arrays) (args : ℕ) where
  record AlikeAt (k : Known) (o : Option Value) : Type 0 where
    is : (v : Value) → o ≡ Some v → LocalAgrees arrays args k v

  -- local variables one by one
  abbrev Alike : List Known → List (Option Value) → Type 0
  Alike [] [] = Unit {0}
  Alike (k ∷ ks) (o ∷ os) = AlikeAt k o × Alike ks os
  Alike _ _ = ⊥

  some_alike : (k : Known) (v : Value) → Agrees arrays args k v → AlikeAt k (Some v)
  some_alike k v h = record { is = λ w e. let same : v ≡ w = cc e in subst (LocalAgrees arrays args k) same (local_agrees args arrays k v h) }

  none_alike : (k : Known) → AlikeAt k None
  none_alike k = record { is = λ w e. cc }

  alike_append : (ks js : List Known) (os qs : List (Option Value)) → Alike ks os → Alike js qs → Alike (ks ++ js) (os ++ qs)
  alike_append [] js [] qs h g = g
  alike_append [] js (o ∷ os) qs h g = absurd h
  alike_append (k ∷ ks) js [] qs h g = absurd h
  alike_append (k ∷ ks) js (o ∷ os) qs h g = (h.0, alike_append ks js os qs h.1 g)

  alike_blank : (n : ℕ) → Alike (replicate n Narrow) (replicate n None)
  alike_blank zero = tt
  alike_blank (suc n) = (none_alike Narrow, alike_blank n)

  alike_length : (ks : List Known) (os : List (Option Value)) → Alike ks os → length ks ≡ length os
  alike_length [] [] h = refl
  alike_length [] (o ∷ os) h = absurd h
  alike_length (k ∷ ks) [] h = absurd h
  alike_length (k ∷ ks) (o ∷ os) h = ap suc (alike_length ks os h.1)

  alike_locals : (ks : List Known) (vs : List Value) → AllAgree arrays args ks vs → Alike (as_locals is_wide (λ k. k) Narrow ks) (as_locals is_long_value (λ v. Some v) None vs)
  alike_locals [] [] h = tt
  alike_locals [] (v ∷ vs) h = absurd h
  alike_locals (k ∷ ks) [] h = absurd h
  alike_locals (k ∷ ks) (v ∷ vs) h = subst (λ b. Alike (if b then k ∷ Narrow ∷ as_locals is_wide (λ y. y) Narrow ks else k ∷ as_locals is_wide (λ y. y) Narrow ks) (as_locals is_long_value (λ y. Some y) None (v ∷ vs))) (sym (wide_agrees args arrays k v h.0)) (go (is_long_value v) (alike_locals ks vs h.1))
    where
      go : (b : Bool) → Alike (as_locals is_wide (λ y. y) Narrow ks) (as_locals is_long_value (λ y. Some y) None vs) → Alike (if b then k ∷ Narrow ∷ as_locals is_wide (λ y. y) Narrow ks else k ∷ as_locals is_wide (λ y. y) Narrow ks) (if b then Some v ∷ None ∷ as_locals is_long_value (λ y. Some y) None vs else Some v ∷ as_locals is_long_value (λ y. Some y) None vs)
      go true later = (some_alike k v h.0, (none_alike Narrow, later))
      go false later = (some_alike k v h.0, later)

  alike_padded : (n : ℕ) (ks : List Known) (os : List (Option Value)) → Alike ks os → Alike (padded Narrow n ks) (padded None n os)
  alike_padded n ks os h = alike_append ks (replicate (n - length ks) Narrow) os (replicate (n - length os) None) h (subst (λ y. Alike (replicate (n - y) Narrow) (replicate (n - length os) None)) (sym (alike_length ks os h)) (alike_blank (n - length os)))

  alike_kept : (f : ℕ → Bool) (n : ℕ) (ks : List Known) (os : List (Option Value)) → Alike ks os → Alike (kept_from f n ks) os
  alike_kept f n [] [] h = tt
  alike_kept f n [] (o ∷ os) h = absurd h
  alike_kept f n (k ∷ ks) [] h = absurd h
  alike_kept f n (k ∷ ks) (o ∷ os) h = (record { is = λ v e. kept_agrees args arrays (f n) k v (h.0.is v e) }, alike_kept f (suc n) ks os h.1)

  alike_agree : (ks : List Known) (os : List (Option Value)) → Alike ks os → LocalsAgree arrays args ks os
  alike_agree [] [] h = λ n v e. tt
  alike_agree [] (o ∷ os) h = absurd h
  alike_agree (k ∷ ks) [] h = absurd h
  alike_agree (k ∷ ks) (o ∷ os) h = go (alike_agree ks os h.1)
    where
      go : LocalsAgree arrays args ks os → (n : ℕ) (v : Value) → slice_get (o ∷ os) n ≡ Some (Some v) → LocalAgrees arrays args (known_local (k ∷ ks) n) v
      go later zero v e = let same : o ≡ Some v = cc e in h.0.is v same
      go later (suc n) v e = later n v e

  -- An activation at the start of a method.
  pub entered_at : (f : Following) (k : ℕ) (m : Method) (ks : List Known) (vs : List Value) → AllAgree arrays args ks vs → IsAt arrays args (entered f m ks) (activation_of k m vs)
  entered_at f k m ks vs h = arrived arrays args f _ (activation_of k m vs) (record {
    place = refl;
    locals = alike_agree _ _ (alike_kept f.ints 0 _ _ (alike_padded m.environment.max_locals _ _ (alike_locals (reverse ks) (reverse vs) (all_reverse args arrays ks vs h))));
    operands = tt;
  })
