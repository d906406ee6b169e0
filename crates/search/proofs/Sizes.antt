-- The forms of the stack instructions over operands of any type, operand by operand.
use Rattle.std.proofs.Common.{◌≡◌, ◌<◌, ◌+◌, ℕ, zero, suc, add-one, Bool, true, false, not, List, [], ◌∷◌, length, drop, drop-cons, get_or, Option, Some, None, refl, sym, ap, ◌∙◌}
use Rattle.std.specs.Prelude.{slice_get, is_some, map}
use Rattle.std.specs.Bool.{beq}
use Rattle.std.proofs.lemmas.Option.{slice_get_within, get_or_from_slice_get}
use Rattle.jtypes.specs.Lists.{only_if}
use Rattle.transfer.specs.declared.rearrange.StackForm.{StackForm}
use Rattle.transfer.specs.Forms.{below_form, by_form, by_forms, picked}
use Rattle.transfer.specs.Seen.{form_seen}

differs : (b : Bool) → not b ≡ true → b ≡ false
differs true e = absurd cc
differs false e = refl

agrees : (b : Bool) → not b ≡ false → b ≡ true
agrees true e = refl
agrees false e = absurd cc

drop_here : {A : Type 0} (xs : List A) (i : ℕ) (d : A) → i < length xs → drop i xs ≡ get_or xs i d ∷ drop (i + 1) xs
drop_here xs i d h = drop-cons xs i d h ∙ ap (λ n. get_or xs i d ∷ drop n xs) (sym (add-one i))

pub drop_found : {A : Type 0} (xs : List A) (i : ℕ) (x : A) → slice_get xs i ≡ Some x → drop i xs ≡ x ∷ drop (i + 1) xs
drop_found xs i x e = drop_here xs i x (slice_get_within xs i x e) ∙ ap (λ y. y ∷ drop (i + 1) xs) (get_or_from_slice_get xs i x x e)

drop_past : {A : Type 0} (xs : List A) (i : ℕ) → slice_get xs i ≡ None → drop i xs ≡ []
drop_past [] zero e = refl
drop_past [] (suc i) e = refl
drop_past (x ∷ xs) zero e = absurd cc
drop_past (x ∷ xs) (suc i) e = drop_past xs i e

-- the sizes from an index on are that of the operand there and those behind it
sizes_at : {A : Type 0} (f : A → Bool) (longs : List Bool) (xs : List A) (i : ℕ) (x : A) → i < length longs → slice_get xs i ≡ Some x
    → below_form f (drop i longs) (drop i xs) ≡ only_if (beq (get_or longs i false) (f x)) (below_form f (drop (i + 1) longs) (drop (i + 1) xs))
sizes_at f longs xs i x h e =
    ap (λ bs. below_form f bs (drop i xs)) (drop_here longs i false h)
    ∙ ap (λ ys. below_form f (get_or longs i false ∷ drop (i + 1) longs) ys) (drop_found xs i x e)

pub sizes_end : {A : Type 0} (f : A → Bool) (longs : List Bool) (xs : List A) (i : ℕ) (below : Option (List A)) → i < length longs → slice_get xs i ≡ None
    → below ≡ below_form f (drop i longs) (drop i xs) → false ≡ is_some below
sizes_end f longs xs i below h e so_far =
    let gone : below_form f (drop i longs) (drop i xs) ≡ None =
    ap (λ bs. below_form f bs (drop i xs)) (drop_here longs i false h) ∙ ap (λ ys. below_form f (get_or longs i false ∷ drop (i + 1) longs) ys) (drop_past xs i e) in
    sym (ap is_some (so_far ∙ gone))

pub sizes_differ : {A : Type 0} (f : A → Bool) (longs : List Bool) (xs : List A) (i : ℕ) (x : A) (long : Bool) (below : Option (List A)) → i < length longs
    → slice_get xs i ≡ Some x → long ≡ f x → not (beq (get_or longs i false) long) ≡ true → below ≡ below_form f (drop i longs) (drop i xs) → false ≡ is_some below
sizes_differ f longs xs i x long below h e l n so_far =
    let other : beq (get_or longs i false) (f x) ≡ false = ap (beq (get_or longs i false)) (sym l) ∙ differs _ n in
    sym (ap is_some (so_far ∙ sizes_at f longs xs i x h e ∙ ap (λ b. only_if b (below_form f (drop (i + 1) longs) (drop (i + 1) xs))) other))

pub sizes_same : {A : Type 0} (f : A → Bool) (longs : List Bool) (xs : List A) (i : ℕ) (x : A) (long : Bool) (below : Option (List A)) → i < length longs
    → slice_get xs i ≡ Some x → long ≡ f x → not (beq (get_or longs i false) long) ≡ false → below ≡ below_form f (drop i longs) (drop i xs)
    → below ≡ below_form f (drop (i + 1) longs) (drop (i + 1) xs)
sizes_same f longs xs i x long below h e l n so_far =
    let same : beq (get_or longs i false) (f x) ≡ true = ap (beq (get_or longs i false)) (sym l) ∙ agrees _ n in
    so_far ∙ sizes_at f longs xs i x h e ∙ ap (λ b. only_if b (below_form f (drop (i + 1) longs) (drop (i + 1) xs))) same

-- the operands below a form that matches are those without its first ones
below_some : {A : Type 0} (f : A → Bool) (longs : List Bool) (xs : List A) → is_some (below_form f longs xs) ≡ true → below_form f longs xs ≡ Some (drop (length longs) xs)
below_some f [] xs h = refl
below_some f (b ∷ longs) [] h = absurd cc
below_some f (b ∷ longs) (x ∷ xs) h = go (beq b (f x)) (below_form f longs xs) (drop (length longs) xs) h (λ k. below_some f longs xs k)
  where
    go : {B : Type 0} (same : Bool) (o : Option B) (y : B) → is_some (only_if same o) ≡ true → (is_some o ≡ true → o ≡ Some y) → only_if same o ≡ Some y
    go true o y k below = below k
    go false o y k below = absurd cc

pub form_found : {A : Type 0} (f : A → Bool) (forms : List StackForm) (xs : List A) (i : ℕ) (d : StackForm) (found : Option (List A)) → i < length forms
    → is_some (below_form f (get_or forms i d).longs.now xs) ≡ true → found ≡ by_forms f (map form_seen (drop i forms)) xs
    → found ≡ picked (get_or forms i d).picks.now xs (drop (length (get_or forms i d).longs.now) xs)
form_found f forms xs i d found h fits so_far =
    so_far ∙ ap (λ fs. by_forms f (map form_seen fs) xs) (drop-cons forms i d h)
    ∙ ap (λ below. by_form (get_or forms i d).picks.now xs below (by_forms f (map form_seen (drop (suc i) forms)) xs)) (below_some f (get_or forms i d).longs.now xs fits)
