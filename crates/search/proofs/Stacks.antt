-- What is known of operands, as the list with the top first.
use Rattle.std.proofs.Common.{inl, inr, ◌≡◌, get_or, ◌<◌, ◌≤◌, ◌-◌, ◌+◌, ℕ, zero, suc, List, [], ◌∷◌, ◌++◌, length, drop, take, map, reverse, refl, sym, ap, ◌∙◌, arith}
use Rattle.std.specs.Prelude.{Option, Some, None, MatchOption, slice_get, option_map}
use Rattle.std.specs.Option.{option_to_list}
use Rattle.std.proofs.lemmas.List.{reverse-append, take-append-drop, drop_at, length-reverse, length-drop, get_or-reverse}
use Rattle.std.proofs.lemmas.Option.{slice_get-map, slice_get-get_or, slice_get_past}
use Rattle.std.proofs.lemmas.Bool.{cases_lt}
use Rattle.search.specs.declared.known.Known.{Known}
use Rattle.search.specs.Seen.{known_seen, operands_seen}

pub operands_pushed : (xs : List Known) (k : Known) → operands_seen (xs ++ k ∷ []) ≡ known_seen k ∷ operands_seen xs
unfolding operands_seen
operands_pushed xs k = ap (λ (l : List Known). map known_seen l) (reverse-append xs (k ∷ []))

operand_at : (xs : List Known) (i : ℕ) (o : Option Known) → o ≡ slice_get (reverse xs) i → option_map known_seen o ≡ slice_get (operands_seen xs) i
unfolding operands_seen
operand_at xs i o e = ap (option_map known_seen) e ∙ sym (slice_get-map known_seen (reverse xs) i)

pub operand_found : (xs : List Known) (i : ℕ) (x : Known) → i < length xs → x ≡ get_or xs (length xs - 1 - i) x → Some (known_seen x) ≡ slice_get (operands_seen xs) i
operand_found xs i x h e =
    operand_at xs i (Some x) (ap (λ y. Some y) (e ∙ sym (get_or-reverse xs i x h)) ∙ sym (slice_get-get_or (reverse xs) i x (rw (length-reverse xs) h)))

pub operand_lacks : (xs : List Known) (i : ℕ) → length xs ≤ i → None ≡ slice_get (operands_seen xs) i
operand_lacks xs i h = operand_at xs i None (sym (slice_get_past (reverse xs) i (rw (length-reverse xs) h)))

drop_mapped : {A B : Type 0} (f : A → B) (n : ℕ) (xs : List A) → drop n (map f xs) ≡ map f (drop n xs)
drop_mapped f zero xs = refl
drop_mapped f (suc n) [] = refl
drop_mapped f (suc n) (x ∷ xs) = drop_mapped f n xs

-- the reverse without its first items is the reverse of the list without its last ones
reverse_dropped : (xs : List Known) (n left : ℕ) → left + n ≡ length xs → drop n (reverse xs) ≡ reverse (take left xs)
reverse_dropped xs n left h =
    let parts : reverse xs ≡ reverse (drop left xs) ++ reverse (take left xs) =
    ap (λ (l : List Known). reverse l) (sym (take-append-drop left xs)) ∙ reverse-append (take left xs) (drop left xs) in
    ap (λ (l : List Known). drop n l) parts
    ∙ drop_at (reverse (drop left xs)) _ n (length-reverse (drop left xs) ∙ length-drop left xs ∙ omega (arith, h))

dropped_all : {A : Type 0} (xs : List A) (n : ℕ) → length xs ≤ n → drop n xs ≡ []
dropped_all [] zero h = refl
dropped_all [] (suc n) h = refl
dropped_all (x ∷ xs) zero h = absurd (omega (arith, h))
dropped_all (x ∷ xs) (suc n) h = dropped_all xs n (omega (arith, h))

operands_dropped : (xs : List Known) (n left : ℕ) → left + n ≡ length xs → operands_seen (take left xs) ≡ drop n (operands_seen xs)
unfolding operands_seen
operands_dropped xs n left h =
    ap (λ (l : List Known). map known_seen l) (sym (reverse_dropped xs n left h)) ∙ sym (drop_mapped known_seen n (reverse xs))

operands_gone : (xs : List Known) (n : ℕ) → length xs ≤ n → operands_seen (take 0 xs) ≡ drop n (operands_seen xs)
unfolding operands_seen
operands_gone xs n h =
    sym (drop_mapped known_seen n (reverse xs) ∙ ap (λ (l : List Known). map known_seen l) (dropped_all (reverse xs) n (rw (length-reverse xs) h)))

pub operands_left : (xs ys : List Known) (n left : ℕ) → ys ≡ take left xs → left ≡ length xs - n → operands_seen ys ≡ drop n (operands_seen xs)
operands_left xs ys n left e l = elim (cases_lt n (length xs)) [
  | inl h ↦ ap operands_seen e ∙ operands_dropped xs n left (omega (arith, h, l))
  | inr h ↦ let none : left ≡ 0 = omega (arith, h, l) in ap operands_seen e ∙ ap (λ k. operands_seen (take k xs)) none ∙ operands_gone xs n h
]

empty : (xs : List Known) (n : ℕ) → n ≡ length xs → n ≡ 0 → operands_seen xs ≡ []
unfolding operands_seen
empty [] n l h = refl
empty (x ∷ xs) n l h = absurd (omega (arith, l, h))

pub operands_popped : (o : Option Known) (xs ys : List Known) (n m : ℕ) → n ≡ length xs → m ≡ length ys → xs ≡ ys ++ option_to_list o
    → MatchOption o ((n ≡ 0) × (m ≡ 0)) (λ _. m + 1 ≡ n)
    → MatchOption o ((operands_seen xs ≡ []) × (operands_seen ys ≡ [])) (λ k. operands_seen xs ≡ known_seen k ∷ operands_seen ys)
operands_popped None xs ys n m l k e (a, b) = (empty xs n l a, empty ys m k b)
operands_popped (Some x) xs ys n m l k e h = ap operands_seen e ∙ operands_pushed ys x
