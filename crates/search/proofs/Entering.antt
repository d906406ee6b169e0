-- Lists that are rewritten in place from the first item on, and the local variables of a method's arguments.
use Rattle.std.proofs.Common.{◌≡◌, ℕ, zero, suc, ◌+◌, ◌-◌, ◌<◌, ◌≤◌, Bool, true, false, List, [], ◌∷◌, ◌++◌, length, get_or, drop, map, reverse, replicate, append_assoc, add-one, refl, sym, ap, ◌∙◌, subst, arith}
use Rattle.std.specs.Prelude.{slice_set, if◌then◌else◌}
use Rattle.std.proofs.lemmas.List.{length-map, reverse-reverse, reverse-append, map-append}
use Rattle.jtypes.specs.Lists.{padded}
use Rattle.jtypes.specs.Types.{as_locals}
use Rattle.typecheck.specs.Typing.{Method}
use Rattle.unrolled.specs.Known.{Known, Narrow, is_wide, forgotten}
use Rattle.unrolled.specs.Graph.{Node, kept, kept_from, entered, arrive, Following}
use Rattle.search.specs.declared.known.Known as plain
use Rattle.search.specs.Seen.{known_seen, operands_seen}
use Rattle.search.specs.Starts.{wide_in_code}
use Rattle.search.specs.declared.known.Known.TheVariants as variant

-- the list with its first items rewritten
abbrev pub over : {A : Type 0} → (A → A) → ℕ → List A → List A
over g i [] = []
over g zero (x ∷ xs) = x ∷ xs
over g (suc i) (x ∷ xs) = g x ∷ over g i xs

pub over-none : {A : Type 0} (g : A → A) (xs : List A) → xs ≡ over g 0 xs
over-none g [] = refl
over-none g (x ∷ xs) = refl

pub over-all : {A : Type 0} (g : A → A) (xs : List A) (i : ℕ) → i ≡ length xs → over g i xs ≡ map g xs
over-all g [] i e = refl
over-all g (x ∷ xs) zero e = absurd (omega (arith, e))
over-all g (x ∷ xs) (suc i) e = ap (λ ys. g x ∷ ys) (over-all g xs i (omega (arith, e)))

over_written : {A B : Type 0} (f : A → B) (g : B → B) (xs : List A) (ys : List B) (i : ℕ) (d y : A) → i < length xs → map f xs ≡ over g i ys
    → f y ≡ g (f (get_or xs i d)) → map f (slice_set xs i y) ≡ over g (suc i) ys
over_written f g [] ys i d y h e k = absurd (omega (arith, h))
over_written f g (x ∷ xs) [] i d y h e k = absurd cc
over_written f g (x ∷ xs) (z ∷ ys) zero d y h e k =
    let head : f x ≡ z = cc in
    let rest : map f xs ≡ ys = cc in
    let tail : map f xs ≡ over g 0 ys = rest ∙ over-none g ys in
    let first : f y ≡ g z = k ∙ ap g head in
    ap (λ b. b ∷ map f xs) first ∙ ap (λ bs. g z ∷ bs) tail
over_written f g (x ∷ xs) (z ∷ ys) (suc i) d y h e k =
    let head : f x ≡ g z = cc in
    let rest : map f xs ≡ over g i ys = cc in
    ap (λ b. b ∷ map f (slice_set xs i y)) head ∙ ap (λ bs. g z ∷ bs) (over_written f g xs ys i d y (omega (arith, h)) rest k)

pub over_next : {A B : Type 0} (f : A → B) (g : B → B) (xs : List A) (ys : List B) (i : ℕ) (d y : A) → i < length xs → map f xs ≡ over g i ys
    → f y ≡ g (f (get_or xs i d)) → map f (slice_set xs i y) ≡ over g (i + 1) ys
over_next f g xs ys i d y h e k = over_written f g xs ys i d y h e k ∙ ap (λ n. over g n ys) (sym (add-one i))

-- ---- the local variables of arguments

kept_append : (f : ℕ → Bool) (n : ℕ) (xs ys : List Known) → kept_from f n (xs ++ ys) ≡ kept_from f n xs ++ kept_from f (n + length xs) ys
kept_append f n [] ys = ap (λ m. kept_from f m ys) (omega arith)
kept_append f n (x ∷ xs) ys =
    ap (λ ks. kept (f n) x ∷ ks) (kept_append f (suc n) xs ys ∙ ap (λ m. kept_from f (suc n) xs ++ kept_from f m ys) (omega arith))

-- the local variables with what the first ones keep
abbrev pub kept_over : (ℕ → Bool) → ℕ → ℕ → List Known → List Known
kept_over f n i [] = []
kept_over f n zero (k ∷ ks) = k ∷ ks
kept_over f n (suc i) (k ∷ ks) = kept (f n) k ∷ kept_over f (suc n) i ks

pub kept_over-none : (f : ℕ → Bool) (n : ℕ) (ks : List Known) → ks ≡ kept_over f n 0 ks
kept_over-none f n [] = refl
kept_over-none f n (k ∷ ks) = refl

pub kept_over-all : (f : ℕ → Bool) (n i : ℕ) (ks : List Known) → i ≡ length ks → kept_over f n i ks ≡ kept_from f n ks
kept_over-all f n i [] e = refl
kept_over-all f n zero (k ∷ ks) e = absurd (omega (arith, e))
kept_over-all f n (suc i) (k ∷ ks) e = ap (λ l. kept (f n) k ∷ l) (kept_over-all f (suc n) i ks (omega (arith, e)))

kept_written : (f : ℕ → Bool) (n : ℕ) (xs : List plain.Known) (ys : List Known) (i : ℕ) (d y : plain.Known) → i < length xs → map known_seen xs ≡ kept_over f n i ys
    → known_seen y ≡ kept (f (n + i)) (known_seen (get_or xs i d)) → map known_seen (slice_set xs i y) ≡ kept_over f n (suc i) ys
kept_written f n [] ys i d y h e k = absurd (omega (arith, h))
kept_written f n (x ∷ xs) [] i d y h e k = absurd cc
kept_written f n (x ∷ xs) (z ∷ ys) zero d y h e k =
    let head : known_seen x ≡ z = cc in
    let rest : map known_seen xs ≡ ys = cc in
    let first : known_seen y ≡ kept (f n) z = k ∙ ap (λ m. kept (f m) (known_seen x)) (omega arith) ∙ ap (kept (f n)) head in
    ap (λ b. b ∷ map known_seen xs) first ∙ ap (λ bs. kept (f n) z ∷ bs) (rest ∙ kept_over-none f (suc n) ys)
kept_written f n (x ∷ xs) (z ∷ ys) (suc i) d y h e k =
    let head : known_seen x ≡ kept (f n) z = cc in
    let rest : map known_seen xs ≡ kept_over f (suc n) i ys = cc in
    let next : known_seen y ≡ kept (f (suc n + i)) (known_seen (get_or xs i d)) = k ∙ ap (λ m. kept (f m) (known_seen (get_or xs i d))) (omega arith) in
    ap (λ b. b ∷ map known_seen (slice_set xs i y)) head ∙ ap (λ bs. kept (f n) z ∷ bs) (kept_written f (suc n) xs ys i d y (omega (arith, h)) rest next)

pub kept_next : (f : ℕ → Bool) (xs : List plain.Known) (ys : List Known) (i : ℕ) (d y : plain.Known) → i < length xs → map known_seen xs ≡ kept_over f 0 i ys
    → known_seen y ≡ kept (f i) (known_seen (get_or xs i d)) → map known_seen (slice_set xs i y) ≡ kept_over f 0 (i + 1) ys
kept_next f xs ys i d y h e k =
    kept_written f 0 xs ys i d y h e (k ∙ ap (λ m. kept (f m) (known_seen (get_or xs i d))) (omega arith)) ∙ ap (λ n. kept_over f 0 n ys) (sym (add-one i))

replicate_more : {A : Type 0} (n : ℕ) (x : A) → replicate n x ++ x ∷ [] ≡ replicate (suc n) x
replicate_more zero x = refl
replicate_more (suc n) x = ap (λ l. x ∷ l) (replicate_more n x)

pub blanks_more : {A : Type 0} (xs now next : List A) (x : A) (i n : ℕ) → now ≡ xs ++ replicate (i - n) x → next ≡ now ++ x ∷ [] → n ≤ i → next ≡ xs ++ replicate (i + 1 - n) x
blanks_more xs now next x i n e f h =
    let k : suc (i - n) ≡ i + 1 - n = omega arith in
    f ∙ ap (λ l. l ++ x ∷ []) e ∙ append_assoc xs (replicate (i - n) x) (x ∷ []) ∙ ap (λ l. xs ++ l) (replicate_more (i - n) x ∙ ap (λ m. replicate m x) k)

replicate_mapped : (n : ℕ) → map known_seen (replicate n variant.Narrow) ≡ replicate n Narrow
replicate_mapped zero = refl
replicate_mapped (suc n) = ap (λ l. Narrow ∷ l) (replicate_mapped n)

pub padded_seen : (n : ℕ) (xs : List plain.Known) → map known_seen (padded variant.Narrow n xs) ≡ padded Narrow n (map known_seen xs)
padded_seen n xs =
    map-append known_seen xs (replicate (n - length xs) variant.Narrow) ∙ ap (λ l. map known_seen xs ++ l) (replicate_mapped (n - length xs))
    ∙ ap (λ m. map known_seen xs ++ replicate (n - m) Narrow) (sym (length-map xs known_seen))

pub locals_in_order : (ks : List plain.Known) → map known_seen (as_locals wide_in_code (λ k. k) variant.Narrow ks) ≡ as_locals is_wide (λ k. k) Narrow (map known_seen ks)
locals_in_order [] = refl
locals_in_order (k ∷ ks) = go (is_wide (known_seen k)) (as_locals wide_in_code (λ x. x) variant.Narrow ks) (locals_in_order ks)
  where
    go : (b : Bool) (rest : List plain.Known) → map known_seen rest ≡ as_locals is_wide (λ x. x) Narrow (map known_seen ks)
        → map known_seen (if b then k ∷ variant.Narrow ∷ rest else k ∷ rest)
        ≡ (if b then known_seen k ∷ Narrow ∷ as_locals is_wide (λ x. x) Narrow (map known_seen ks) else known_seen k ∷ as_locals is_wide (λ x. x) Narrow (map known_seen ks))
    go true rest e = ap (λ l. known_seen k ∷ Narrow ∷ l) e
    go false rest e = ap (λ l. known_seen k ∷ l) e

-- ---- the order of arguments

reverse_mapped : {A B : Type 0} (f : A → B) (xs : List A) → reverse (map f xs) ≡ map f (reverse xs)
reverse_mapped f [] = refl
reverse_mapped f (x ∷ xs) =
    reverse-append (f x ∷ []) (map f xs) ∙ ap (λ ys. ys ++ f x ∷ []) (reverse_mapped f xs)
    ∙ sym (ap (map f) (reverse-append (x ∷ []) xs) ∙ map-append f (reverse xs) (x ∷ []))

pub in_order : (ks : List plain.Known) → reverse (operands_seen ks) ≡ map known_seen ks
unfolding operands_seen
in_order ks = reverse_mapped known_seen (reverse ks) ∙ ap (map known_seen) (reverse-reverse ks)

pub operands_forgotten : (g : Known → Known) (xs ys : List plain.Known) → map known_seen xs ≡ map g (map known_seen ys) → operands_seen xs ≡ map g (operands_seen ys)
unfolding operands_seen
operands_forgotten g xs ys e =
    sym (reverse_mapped known_seen xs) ∙ ap reverse e ∙ reverse_mapped g (map known_seen ys) ∙ ap (map g) (reverse_mapped known_seen ys)

pub entered_with : (f : Following) (m : Method) (n : ℕ) (arguments : List plain.Known) (locals operands : List Known) → m.environment.max_locals ≡ n
    → locals ≡ kept_from f.ints 0 (padded Narrow n (as_locals is_wide (λ k. k) Narrow (map known_seen arguments))) → operands ≡ []
    → arrive f (record { place = 0; locals = locals; operands = operands }) ≡ entered f m (operands_seen arguments)
entered_with f m n arguments locals operands en e o =
    let all : locals ≡ kept_from f.ints 0 (padded Narrow m.environment.max_locals (as_locals is_wide (λ k. k) Narrow (reverse (operands_seen arguments)))) =
    e ∙ ap (λ ks. kept_from f.ints 0 (padded Narrow n (as_locals is_wide (λ k. k) Narrow ks))) (sym (in_order arguments))
    ∙ ap (λ j. kept_from f.ints 0 (padded Narrow j (as_locals is_wide (λ k. k) Narrow (reverse (operands_seen arguments))))) (sym en) in
    ap (λ ks. arrive f (record { place = 0; locals = ks; operands = operands })) all
    ∙ ap (λ os. arrive f (record { place = 0; locals = kept_from f.ints 0 (padded Narrow m.environment.max_locals (as_locals is_wide (λ k. k) Narrow (reverse (operands_seen arguments)))); operands = os })) o

pub arrived : (f : Following) (x : Node) (locals operands : List Known) → f.values ≡ false → locals ≡ [] → operands ≡ map forgotten x.operands
    → ◌≡◌ {A = Node} (record { place = x.place; locals = locals; operands = operands }) (arrive f x)
arrived f x locals operands v e g =
    ap (λ ks. record { place = x.place; locals = ks; operands = operands }) e
    ∙ ap (λ ks. record { place = x.place; locals = []; operands = ks }) g
    ∙ sym (ap (λ b. if b then x else record { place = x.place; locals = []; operands = map forgotten x.operands }) v)

pub nothing_seen : (ks : List plain.Known) → ks ≡ [] → operands_seen ks ≡ []
unfolding operands_seen
nothing_seen [] e = refl
nothing_seen (k ∷ ks) e = absurd cc
