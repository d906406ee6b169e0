use Rattle.std.proofs.Common.{◌≡◌, ℕ, ◌<◌, ◌≤◌, List, [], ◌++◌, length, take, drop, arith, sym, ap, ◌∙◌, ◌⊎◌, inl, inr}
use Rattle.std.specs.Prelude.{string_bytes}
use Rattle.std.proofs.lemmas.Bool.{cases_lt}
use Rattle.std.proofs.lemmas.List.{take_all, drop_all}
use Rattle.explain_text.specs.Texts.{of_text}
use Rattle.explain_text.proofs.text.write_explanation.Goals as goal

-- The first `count` bytes of a text are its first `room` bytes if `count` is the lesser of its length and `room`.
same_front : (text : List ℕ) (room count : ℕ) → (length text < room → count ≡ length text) → (room ≤ length text → count ≡ room) → (length text < room) ⊎ (room ≤ length text) → take count text ≡ take room text
same_front text room count few many (inl h) = let is = few h in take_all count text (omega (arith, is)) ∙ sym (take_all room text (omega (arith, h)))
same_front text room count few many (inr h) = ap (λ n. take n text) (many h)

-- The bytes after the first `count` are those after the first `size` if `count` is the lesser of the length and `size`.
same_back : (before : List ℕ) (size count : ℕ) → (size < length before → count ≡ size) → (length before ≤ size → count ≡ length before) → (size < length before) ⊎ (length before ≤ size) → drop count before ≡ drop size before
same_back before size count few many (inl h) = ap (λ n. drop n before) (few h)
same_back before size count few many (inr h) = let is = many h in drop_all count before (omega (arith, is)) ∙ sym (drop_all size before h)

pub returns-in-Ok : goal.returns-in-Ok
returns-in-Ok c =
    let text : List ℕ = string_bytes c.in-Ok.text in
    let before : List ℕ = c.args.room.now in
    let count : ℕ = c.min-count.result in
    let is : c.as_bytes-whole.result.now ≡ text = c.as_bytes-whole.ensures.value in
    let size : length c.as_bytes-whole.result.now ≡ length text = ap (λ (l : List ℕ). length l) is in
    let least = c.min-count.ensures in
    let front : take count text ≡ take (length before) text = same_front text (length before) count (λ few. omega (arith, few, size, least)) (λ many. omega (arith, many, size, least)) (cases_lt (length text) (length before)) in
    let back : drop count before ≡ drop (length text) before = same_back before (length text) count (λ few. omega (arith, few, size, least)) (λ many. omega (arith, many, size, least)) (cases_lt (length text) (length before)) in
    of_text text c.in-Ok.ensures size (ap (λ (l : List ℕ). l ++ drop count before) (c.copy_from_slice.ensures.after ∙ ap (λ (l : List ℕ). take count l) is ∙ front) ∙ ap (λ (l : List ℕ). take (length before) text ++ l) back)
