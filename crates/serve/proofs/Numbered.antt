-- The classes of the definitions, from the ids in the code.
use Rattle.std.proofs.Common.{◌≡◌, ℕ, zero, suc, ◌+◌, ◌<◌, ◌≤◌, List, [], ◌∷◌, ◌++◌, length, map, take, get_or, slice_set, Option, Some, None, true, false, arith, refl, sym, ap, ◌∙◌}
use Rattle.std.specs.Prelude.{option_map, is_some}
use Rattle.std.proofs.lemmas.List.{map-set, map-append, take_more}
use Rattle.std.proofs.lemmas.List.Elements.{All-set}
use Rattle.boxcar.specs.Table.{Shelves, Where}
use Rattle.typecheck.specs.Typing.{Class}
use Rattle.registry.specs.Ids.{class_of}
use Rattle.serve.specs.Classes.{Classes, class_at, without, held}
use Rattle.serve.specs.Kept.{AreOf, IsNoneOrOf, classes_of}

-- A number below the length has the class of its id, if it has an id.
pub class_in : (ids : List (Option (Where Class))) (n : ℕ) (d : Option (Where Class)) → n < length ids → class_at (classes_of ids) n ≡ option_map class_of (get_or ids n d)
class_in [] n d h = absurd (omega (arith, h))
class_in (x ∷ ids) zero d h = refl
class_in (x ∷ ids) (suc n) d h = class_in ids n d (omega (arith, h))

pub class_there : (ids : List (Option (Where Class))) (n : ℕ) (x : Option (Where Class)) → n < length ids → x ≡ get_or ids n x → class_at (classes_of ids) n ≡ option_map class_of x
class_there ids n x h is = class_in ids n x h ∙ ap (λ (y : Option (Where Class)). option_map class_of y) (sym is)

pub some_class : (x : Option (Where Class)) → is_some x ≡ true → (c : Class) × (option_map class_of x ≡ Some c)
some_class None e = absurd (cc)
some_class (Some id) e = (class_of id, refl)

pub no_class : (x : Option (Where Class)) → is_some x ≡ false → option_map class_of x ≡ None
no_class None e = refl
no_class (Some id) e = absurd (cc)

pub class_past : (ids : List (Option (Where Class))) (n : ℕ) → length ids ≤ n → class_at (classes_of ids) n ≡ None
class_past [] n h = refl
class_past (x ∷ ids) zero h = absurd (omega (arith, h))
class_past (x ∷ ids) (suc n) h = class_past ids n (omega (arith, h))

pub class_forgotten : (ids : List (Option (Where Class))) (n : ℕ) → classes_of (slice_set ids n None) ≡ without n (classes_of ids)
class_forgotten ids n = map-set (option_map class_of) ids n None

pub others_known : (registry : Shelves) (ids : List (Option (Where Class))) (n : ℕ) → AreOf registry ids → AreOf registry (slice_set ids n None)
others_known registry ids n h = All-set (IsNoneOrOf registry) ids n None tt h

pub held_append : (xs ys : Classes) → held (xs ++ ys) ≡ held xs + held ys
held_append [] ys = omega arith
held_append (None ∷ xs) ys = held_append xs ys
held_append (Some c ∷ xs) ys = let e = held_append xs ys in omega (arith, e)

-- The classes of the first `i` + 1 ids.
pub held_more : (ids : List (Option (Where Class))) (i : ℕ) (x : Option (Where Class)) → i < length ids → x ≡ get_or ids i x → held (classes_of (take (i + 1) ids)) ≡ held (classes_of (take i ids)) + held (option_map class_of x ∷ [])
held_more ids i x h is =
    ap (λ (l : List (Option (Where Class))). held (classes_of l)) (take_more ids i x h) ∙ ap held (map-append (option_map class_of) (take i ids) (get_or ids i x ∷ []))
    ∙ held_append (classes_of (take i ids)) (option_map class_of (get_or ids i x) ∷ []) ∙ ap (λ (y : Option (Where Class)). held (classes_of (take i ids)) + held (option_map class_of y ∷ [])) (sym is)
