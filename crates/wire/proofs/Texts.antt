-- Concatenated texts.
use Rattle.std.proofs.Common.{◌≡◌, ℕ, ◌+◌, ◌<◌, List, [], ◌∷◌, ◌++◌, length, take, drop, get_or, refl, sym, ap, ◌∙◌, append_assoc, append-nil, take-append-drop, add-one}
use Rattle.std.proofs.Math.Seq.{take-suc}
use Rattle.wire.specs.Frames.{texts}

pub texts-append : {A : Type 0} (f : A → List ℕ) (xs ys : List A) → texts f (xs ++ ys) ≡ texts f xs ++ texts f ys
texts-append f [] ys = refl
texts-append f (x ∷ xs) ys = ap (λ l. f x ++ l) (texts-append f xs ys) ∙ sym (append_assoc (f x) (texts f xs) (texts f ys))

-- The texts of the first `i` + 1 elements are those of the first `i` and the text of element `i`.
pub texts_next : {A : Type 0} (f : A → List ℕ) (xs : List A) (i : ℕ) (d : A) → i < length xs → texts f (take (i + 1) xs) ≡ texts f (take i xs) ++ f (get_or xs i d)
texts_next {A = A} f xs i d h =
    ap (λ n. texts f (take n xs)) (add-one i) ∙ ap (texts f) (take-suc xs i d h) ∙ texts-append f (take i xs) (get_or xs i d ∷ []) ∙ ap (λ l. texts f (take i xs) ++ l) (append-nil (f (get_or xs i d)))

-- The texts of the first `i` elements, of element `i` and of the rest are the texts of the list.
pub texts_around : {A : Type 0} (f : A → List ℕ) (xs : List A) (i : ℕ) (d : A) → i < length xs → (texts f (take i xs) ++ f (get_or xs i d)) ++ texts f (drop (i + 1) xs) ≡ texts f xs
texts_around f xs i d h =
    ap (λ l. l ++ texts f (drop (i + 1) xs)) (sym (texts_next f xs i d h)) ∙ sym (texts-append f (take (i + 1) xs) (drop (i + 1) xs)) ∙ ap (texts f) (take-append-drop (i + 1) xs)
