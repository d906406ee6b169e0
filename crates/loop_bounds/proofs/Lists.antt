-- Lists, by index and as a loop goes through them.
use Rattle.std.proofs.Common.{Bool, true, false, ◌≡◌, ℕ, zero, suc, ◌+◌, ◌-◌, ◌<◌, ◌≤◌, List, [], ◌∷◌, ◌++◌, length, get_or, take, drop, map, reverse, Some, ◌⊎◌, inl, inr, refl, sym, ap, ◌∙◌, subst, arith, append_assoc}
use Rattle.std.specs.Prelude.{slice_get, All, Result, Ok, Err, IfOk, ◌==◌, if◌then◌else◌}
use Rattle.decode.specs.declared.instruction.Placed.{Placed}
use Rattle.decode.specs.Places.{at_place}
use Rattle.search.specs.After.{HasPlaces}
use Rattle.std.proofs.lemmas.List.{append-nil, reverse-append, take-append-drop, take_at, length-reverse, length-drop, length-map}
use Rattle.std.proofs.lemmas.Option.{slice_get-get_or}
use Rattle.std.proofs.lemmas.Bool.{cases_lt}
use Rattle.typecheck.specs.declared.typed.Typed.{Typed}
use Rattle.unrolled.specs.Certificates.{Point}
use Rattle.search.specs.declared.known.Known as plain_known
use Rattle.search.specs.declared.node.Node as plain_node
use Rattle.search.specs.declared.point.Point as plain
use Rattle.search.specs.Seen.{known_seen, operands_seen, node_seen}
use Rattle.search.specs.Points.{point_seen}
use Rattle.loop_bounds.specs.Methods.{HasNumber}
use Rattle.loop_bounds.specs.Nexts.{at_node}
use Rattle.loop_bounds.specs.Found.{points_seen}

pub at_any : {A : Type 0} (xs : List A) (i : ℕ) (d e : A) → i < length xs → get_or xs i d ≡ get_or xs i e
at_any xs i d e h = let a = slice_get-get_or xs i d h in let b = slice_get-get_or xs i e h in cc

-- an item that is read is the one there, whatever is read past the end
pub read_is : {A : Type 0} (xs : List A) (i : ℕ) (x : A) → i < length xs → x ≡ get_or xs i x → slice_get xs i ≡ Some x
read_is xs i x h e = slice_get-get_or xs i x h ∙ ap (λ y. Some y) (sym e)

pub nothing_left : {A : Type 0} (xs : List A) (n : ℕ) → n ≡ length xs → n ≡ 0 → xs ≡ []
nothing_left [] n l z = refl
nothing_left (x ∷ xs) n l z = absurd (omega (arith, l, z))

pub yielded_all : {A : Type 0} (ys rest all : List A) → ys ++ rest ≡ all → rest ≡ [] → ys ≡ all
yielded_all ys rest all e none = sym (append-nil ys) ∙ ap (λ (l : List _). ys ++ l) (sym none) ∙ e

pub yielded_more : {A : Type 0} (ys rest next all : List A) (x : A) → ys ++ rest ≡ all → rest ≡ x ∷ next → (ys ++ x ∷ []) ++ next ≡ all
yielded_more ys rest next all x e steps = append_assoc ys (x ∷ []) next ∙ ap (λ (l : List _). ys ++ l) (sym steps) ∙ e

-- the item that is yielded next is among all
pub yielded_at : {A : Type 0} (ys rest next all : List A) (x : A) → ys ++ rest ≡ all → rest ≡ x ∷ next → slice_get all (length ys) ≡ Some x
yielded_at ys rest next all x e steps = ap (λ (l : List _). slice_get l (length ys)) (sym e) ∙ ap (λ (l : List _). slice_get (ys ++ l) (length ys)) steps ∙ after ys
  where
    after : (zs : List _) → slice_get (zs ++ x ∷ next) (length zs) ≡ Some x
    after [] = refl
    after (z ∷ zs) = after zs

pub map_more : {A B : Type 0} (f : A → B) (xs : List A) (x : A) → map f (xs ++ x ∷ []) ≡ map f xs ++ f x ∷ []
map_more f [] x = refl
map_more f (y ∷ xs) x = ap (λ l. f y ∷ l) (map_more f xs x)

pub mapped_at : {A B : Type 0} (f : A → B) (xs : List A) (i : ℕ) (x : A) → slice_get xs i ≡ Some x → slice_get (map f xs) i ≡ Some (f x)
mapped_at f [] i x e = absurd cc
mapped_at f (y ∷ xs) zero x e = let same : y ≡ x = cc in ap (λ z. Some (f z)) same
mapped_at f (y ∷ xs) (suc i) x e = mapped_at f xs i x e

-- ---- nodes that are appended as points

pub nodes_none : (to : List plain.Point) (j : ℕ) → points_seen to ≡ points_seen to ++ map (at_node j) (map node_seen [])
nodes_none to j = sym (append-nil (points_seen to))

pub nodes_more : (first to new : List plain.Point) (j : ℕ) (nodes : List plain_node.Node) (x : plain_node.Node) → points_seen to ≡ points_seen first ++ map (at_node j) (map node_seen nodes)
    → new ≡ to ++ record { method = j; node = x } ∷ [] → points_seen new ≡ points_seen first ++ map (at_node j) (map node_seen (nodes ++ x ∷ []))
nodes_more first to new j nodes x so_far e =
    ap points_seen e ∙ map_more point_seen to (record { method = j; node = x }) ∙ ap (λ (l : List Point). l ++ at_node j (node_seen x) ∷ []) so_far
    ∙ append_assoc (points_seen first) (map (at_node j) (map node_seen nodes)) (at_node j (node_seen x) ∷ [])
    ∙ ap (λ (l : List Point). points_seen first ++ l) (sym (ap (map (at_node j)) (map_more node_seen nodes x) ∙ map_more (at_node j) (map node_seen nodes) (node_seen x)))

-- ---- the operands on top

take_mapped : {A B : Type 0} (f : A → B) (n : ℕ) (xs : List A) → take n (map f xs) ≡ map f (take n xs)
take_mapped f zero xs = refl
take_mapped f (suc n) [] = refl
take_mapped f (suc n) (x ∷ xs) = ap (λ l. f x ∷ l) (take_mapped f n xs)

pub taken_whole : {A : Type 0} (xs : List A) (n : ℕ) → length xs ≤ n → take n xs ≡ xs
taken_whole [] zero h = refl
taken_whole [] (suc n) h = refl
taken_whole (x ∷ xs) zero h = absurd (omega (arith, h))
taken_whole (x ∷ xs) (suc n) h = ap (λ l. x ∷ l) (taken_whole xs n (omega (arith, h)))

reverse_taken : (xs : List plain_known.Known) (n left : ℕ) → left + n ≡ length xs → take n (reverse xs) ≡ reverse (drop left xs)
reverse_taken xs n left h =
    let parts : reverse xs ≡ reverse (drop left xs) ++ reverse (take left xs) =
    ap (λ (l : List plain_known.Known). reverse l) (sym (take-append-drop left xs)) ∙ reverse-append (take left xs) (drop left xs) in
    ap (λ (l : List plain_known.Known). take n l) parts
    ∙ take_at (reverse (drop left xs)) (reverse (take left xs)) n (length-reverse (drop left xs) ∙ length-drop left xs ∙ omega (arith, h))

pub operands_top : (xs ys : List plain_known.Known) (n left : ℕ) → ys ≡ drop left xs → left ≡ length xs - n → operands_seen ys ≡ take n (operands_seen xs)
unfolding operands_seen
operands_top xs ys n left e l = elim (cases_lt n (length xs)) [
  | inl h ↦ ap (λ (k : List plain_known.Known). map known_seen (reverse k)) e ∙ ap (map known_seen) (sym (reverse_taken xs n left (omega (arith, h, l)))) ∙ sym (take_mapped known_seen n (reverse xs))
  | inr h ↦
      let none : left ≡ 0 = omega (arith, h, l) in
      let size : length (map known_seen (reverse xs)) ≤ n = let a = length-map (reverse xs) known_seen in let b = length-reverse xs in omega (arith, a, b, h) in
      ap (λ (k : List plain_known.Known). map known_seen (reverse k)) (e ∙ ap (λ m. drop m xs) none) ∙ sym (taken_whole (map known_seen (reverse xs)) n size)
]

pub operand_count : (xs : List plain_known.Known) → length (operands_seen xs) ≡ length xs
unfolding operands_seen
operand_count xs = length-map (reverse xs) known_seen ∙ length-reverse xs

-- ---- typed methods

pub none_has : (rows : List Typed) (k n : ℕ) → length rows ≤ n → ((j : ℕ) (d : Typed) → j < n → (get_or rows j d).number ≡ k → ⊥) → HasNumber rows k → ⊥
none_has [] k n le new (i, h, number) = absurd (omega (arith, h))
none_has (r ∷ rows) k n le new (i, h, number) = new i r (omega (arith, h, le)) (number r)

-- ---- what is true of each item

pub one_at : {A : Type 0} (P : A → Type 0) (xs : List A) (i : ℕ) (x : A) → slice_get xs i ≡ Some x → P x → ((j : ℕ) (y : A) → j < i → slice_get xs j ≡ Some y → P y) → (j : ℕ) (y : A) → j < i + 1 → slice_get xs j ≡ Some y → P y
one_at P xs i x e p so_far j y h f = go (cases_lt j i)
  where
    go : (j < i) ⊎ (i ≤ j) → P y
    go (inl l) = so_far j y l f
    go (inr l) =
        let here : j ≡ i = omega (arith, h, l) in
        let there : slice_get xs i ≡ Some y = ap (slice_get xs) (sym here) ∙ f in
        let same : x ≡ y = cc (e, there) in
        subst P same p

pub all_at : {A : Type 0} (P : A → Type 0) (xs : List A) (n : ℕ) → length xs ≤ n → ((j : ℕ) (y : A) → j < n → slice_get xs j ≡ Some y → P y) → All P xs
all_at P xs n h each = λ k d l. each k (get_or xs k d) (omega (arith, l, h)) (slice_get-get_or xs k d l)

pub code_places : (code : List Placed) → ((i : ℕ) (d : Placed) → i < length code → HasPlaces (get_or code i d).instruction) → (place : ℕ) (p : Placed) → at_place code place ≡ Some p → HasPlaces p.instruction
code_places [] all place p e = absurd cc
code_places (x ∷ code) all place p e = go (code_places code (λ i d h. all (suc i) d (omega (arith, h)))) (x.place == place) e
  where
    go : ((q : ℕ) (r : Placed) → at_place code q ≡ Some r → HasPlaces r.instruction) → (b : Bool) → (if b then Some x else at_place code place) ≡ Some p → HasPlaces p.instruction
    go rest true f = let same : x ≡ p = cc in subst (λ (y : Placed). HasPlaces y.instruction) same (all 0 x (omega arith))
    go rest false f = rest place p f

pub if_ok : {A E : Type 0} (P Q : A → Type 0) (r : Result A E) → ((a : A) → P a → Q a) → IfOk r P → IfOk r Q
if_ok P Q (Ok a) f h = f a h
if_ok P Q (Err e) f h = tt
