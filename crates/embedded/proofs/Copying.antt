-- A text that is copied into a buffer.
use Rattle.std.proofs.Common.{◌≡◌, ℕ, ◌<◌, ◌≤◌, List, ◌++◌, length, take, drop, Option, Some, arith, refl, sym, ap, ◌∙◌, subst, ◌⊎◌, inl, inr}
use Rattle.std.proofs.lemmas.Bool.{cases_lt}
use Rattle.std.proofs.lemmas.List.{take_all, drop_all}
use Rattle.embedded.specs.Texts.{IsCopied}

-- `count` is the lesser of the lengths of the text and of the buffer.
pub record IsLesser (count length_of_text room : ℕ) : Type 0 where
  pub short : length_of_text < room → count ≡ length_of_text
  pub long : room ≤ length_of_text → count ≡ room

same_copy : (text before : List ℕ) (count : ℕ) → IsLesser count (length text) (length before) → (length text < length before) ⊎ (length before ≤ length text)
    → take count text ++ drop count before ≡ take (length before) text ++ drop (length text) before
same_copy text before count least (inl h) =
    let is : count ≡ length text = least.short h in
    let front : take count text ≡ take (length before) text = take_all count text (omega (arith, is)) ∙ sym (take_all (length before) text (omega (arith, h))) in
    ap (λ (l : List ℕ). l ++ drop count before) front ∙ ap (λ n. take (length before) text ++ drop n before) is
same_copy text before count least (inr h) =
    let is : count ≡ length before = least.long h in
    let back : drop count before ≡ drop (length text) before = drop_all count before (omega (arith, is)) ∙ sym (drop_all (length text) before h) in
    ap (λ (l : List ℕ). take count text ++ l) back ∙ ap (λ n. take n text ++ drop (length text) before) is

pub copied : (found : Option (List ℕ)) (text before after : List ℕ) (count : ℕ) → Some text ≡ found → IsLesser count (length text) (length before)
    → after ≡ take count text ++ drop count before → IsCopied found before (length text) after
copied found text before after count is least made =
    subst (λ (o : Option (List ℕ)). IsCopied o before (length text) after) is (refl, made ∙ same_copy text before count least (cases_lt (length text) (length before)))
