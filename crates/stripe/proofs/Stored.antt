-- A hash table as a finite map.
use Rattle.std.proofs.Common.{◌≡◌, ℤ, List, [], ◌∷◌, Option, None, Some, Result, Ok, Err, OnOk, OnErr, IsOk, cond, refl, sym, ap, ◌∙◌}
use Rattle.std.specs.Ordering.{int_cmp, int_eq, eq_by_cmp}
use Rattle.std.specs.Cmp.{int_cmp_total, eq_by_cmp_equiv}
use Rattle.std.specs.Map.{lookup}
use Rattle.std.specs.FinMap as map

module _ {X : Type 0} where
  found_same : (q : ℤ) (es : List (ℤ × X)) → map.find int_cmp q es ≡ lookup (int_eq q) es
  found_same q [] = refl
  found_same q (e ∷ es) = ap (cond (int_eq q e.0) (Some e.1)) (found_same q es)

  pub found : (es : List (ℤ × X)) (q : ℤ) → map.get (map.from_entries {R = int_cmp} es) q ≡ lookup (int_eq q) es
  found es q = map.get-from_entries int_cmp_total es q ∙ found_same q es

  module _ (old new : List (ℤ × X)) (k : ℤ) where
    answers : (w : Option X) → ((q : ℤ) → lookup (int_eq q) new ≡ cond (int_eq k q) w (lookup (int_eq q) old)) → (q : ℤ)
        → map.get (map.from_entries {R = int_cmp} new) q ≡ cond (eq_by_cmp int_cmp q k) w (map.get (map.from_entries {R = int_cmp} old) q)
    answers w is q =
        found new q ∙ is q ∙ ap (cond (int_eq k q) w) (sym (found old q))
        ∙ ap (λ b. cond b w (map.get (map.from_entries {R = int_cmp} old) q)) ((eq_by_cmp_equiv int_cmp_total).symm k q)

    pub inserted : (v : X) → ((q : ℤ) → lookup (int_eq q) new ≡ cond (int_eq k q) (Some v) (lookup (int_eq q) old)) → map.from_entries {R = int_cmp} new ≡ map.insert (map.from_entries old) k v
    inserted v is = map.same_map int_cmp_total map.int_cmp-IsAntisymmetric _ _ (λ q. answers (Some v) is q ∙ sym (map.get-insert int_cmp_total (map.from_entries old) k v q))

    pub removed : ((q : ℤ) → lookup (int_eq q) new ≡ cond (int_eq k q) None (lookup (int_eq q) old)) → map.from_entries {R = int_cmp} new ≡ map.remove (map.from_entries old) k
    removed is = map.same_map int_cmp_total map.int_cmp-IsAntisymmetric _ _ (λ q. answers None is q ∙ sym (map.get-remove int_cmp_total (map.from_entries old) k q))

pub ok_unless : {A B P : Type 0} (r : Result A B) → OnErr r P → (P → ⊥) → IsOk r
ok_unless (Ok a) p n = refl
ok_unless (Err b) p n = absurd (n p)

pub on_ok : {A B P : Type 0} (r : Result A B) (a : A) → OnOk r P → r ≡ Ok a → P
on_ok (Ok x) a p is = p
on_ok (Err b) a p is = absurd (cc)
