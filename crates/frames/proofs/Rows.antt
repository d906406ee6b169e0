-- Lists that a loop builds by pushes.
use Rattle.std.proofs.Common.{◌≡◌, ℕ, zero, suc, ◌+◌, ◌-◌, ◌≤◌, ◌<◌, add-one, drop-cons, List, [], ◌∷◌, ◌++◌, length, drop, Option, Some, None, refl, sym, ap, ◌∙◌, append_assoc, replicate, arith}
use Rattle.std.specs.Prelude.{slice_index_or, option_map}
use Rattle.std.proofs.lemmas.List.{append-nil}
use Rattle.jtypes.specs.declared.types.JType.{JType}
use Rattle.jtypes.specs.declared.types.JType.TheVariants.{Top}
use Rattle.jtypes.specs.Types.{is_long, as_locals}
use Rattle.constpool.specs.declared.descriptor.FieldType.{FieldType}
use Rattle.frames.specs.Signatures.{field_type, field_types}

-- the types as locals: `Top` follows each long
abbrev pub locals_of_types : List JType → List JType
locals_of_types ts = as_locals is_long (λ t. t) Top ts

replicate_more : {A : Type 0} (k : ℕ) (x : A) → replicate k x ++ x ∷ [] ≡ replicate (suc k) x
replicate_more zero x = refl
replicate_more (suc k) x = ap (λ l. x ∷ l) (replicate_more k x)

pub blanks_more : {A : Type 0} (xs now next : List A) (x : A) (i n : ℕ) → now ≡ xs ++ replicate (i - n) x → next ≡ now ++ x ∷ [] → n ≤ i → next ≡ xs ++ replicate (i + 1 - n) x
blanks_more xs now next x i n e f h =
    let k : suc (i - n) ≡ i + 1 - n = omega arith in
    f ∙ ap (λ l. l ++ x ∷ []) e ∙ append_assoc xs (replicate (i - n) x) (x ∷ []) ∙ ap (λ l. xs ++ l) (replicate_more (i - n) x ∙ ap (λ m. replicate m x) k)

-- the list from index `i` on is the item at `i` and the list from `i + 1` on
pub drop_at_item : {A : Type 0} (xs : List A) (i : ℕ) (x : A) → i < length xs → x ≡ slice_index_or xs i x → drop i xs ≡ x ∷ drop (i + 1) xs
drop_at_item xs i x h e = drop-cons xs i x h ∙ ap (λ y. y ∷ drop (suc i) xs) (sym e) ∙ ap (λ n. x ∷ drop n xs) (sym (add-one i))

-- the types found so far, followed by those of the remaining field types
abbrev pub found_before : List ℕ → List JType → List FieldType → Option (List JType)
found_before own found rest = option_map (λ us. found ++ us) (field_types own rest)

regrouped : (found : List JType) (u : JType) (o : Option (List JType)) → option_map (λ us. found ++ us) (option_map (λ us. u ∷ us) o) ≡ option_map (λ us. (found ++ u ∷ []) ++ us) o
regrouped found u (Some us) = ap (λ l. Some l) (sym (append_assoc found (u ∷ []) us))
regrouped found u None = refl

pub found_more : (own : List ℕ) (found : List JType) (types : List FieldType) (i : ℕ) (t : FieldType) (u : JType) (total : Option (List JType)) → i < length types → t ≡ slice_index_or types i t → field_type own t ≡ Some u
    → found_before own found (drop i types) ≡ total → found_before own (found ++ u ∷ []) (drop (i + 1) types) ≡ total
unfolding field_types
found_more own found types i t u total h e f so_far =
    let one : found_before own found (drop i types) ≡ found_before own (found ++ u ∷ []) (drop (i + 1) types) = rw (drop_at_item types i t h e, f) (regrouped found u (field_types own (drop (i + 1) types))) in
    sym one ∙ so_far

pub found_none : (own : List ℕ) (found : List JType) (types : List FieldType) (i : ℕ) (t : FieldType) (total : Option (List JType)) → i < length types → t ≡ slice_index_or types i t → field_type own t ≡ None
    → found_before own found (drop i types) ≡ total → total ≡ None
unfolding field_types
found_none own found types i t total h e f so_far =
    let one : found_before own found (drop i types) ≡ None = rw (drop_at_item types i t h e, f) refl in
    sym so_far ∙ one

pub drop_past : {A : Type 0} (xs : List A) (i : ℕ) → length xs ≤ i → drop i xs ≡ []
drop_past [] zero h = refl
drop_past [] (suc i) h = refl
drop_past (x ∷ xs) zero h = absurd (omega arith)
drop_past (x ∷ xs) (suc i) h = drop_past xs i (omega arith)

pub found_all : (own : List ℕ) (found : List JType) (types : List FieldType) (i : ℕ) (total : Option (List JType)) → length types ≤ i
    → found_before own found (drop i types) ≡ total → total ≡ Some found
unfolding field_types
found_all own found types i total h so_far =
    let one : found_before own found (drop i types) ≡ Some found = rw (drop_past types i h) (ap (λ l. Some l) (append-nil found)) in
    sym so_far ∙ one
