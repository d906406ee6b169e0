-- Layouts that only the end of the bytes can violate.
use Rattle.std.proofs.Common.{◌≡◌, ℕ, zero, suc, List, [], ◌++◌, Ok, sym, ap, ◌∙◌, subst, arith, append_assoc, inl, inr}
use Rattle.std.proofs.Math.ListN.{length-append}
use Rattle.std.proofs.lemmas.List.{append-nil}
use Rattle.jtypes.specs.declared.refusal.Refusal.{Refusal}
use Rattle.jtypes.specs.Layout.{Layout, known, part_or, followed, judged, stopped, chosen, ended, number, many, first, IsLaidOut, Stands}
use Rattle.jtypes.proofs.Laws.{laid_out_once, first_again}
use Rattle.classfile.specs.declared.class_file.CodeParts.{CodeParts}
use Rattle.classfile.specs.Code.{code_parts, plain_attribute}

abbrev IsPlain : {A : Type 0} → Layout A → Type 0
IsPlain (known x) = Unit {0}
IsPlain (part_or q n) = Unit {0}
IsPlain (followed {A = A} l f) = IsPlain l × ((x : A) → IsPlain (f x))
IsPlain (judged r b) = ⊥
IsPlain (stopped r) = ⊥
IsPlain (chosen b l m) = ⊥
IsPlain ended = ⊥

-- No refusal of such a layout applies to bytes that have it, whatever bytes follow.
fine : {A : Type 0} (l : Layout A) → IsPlain l → (text rest : List ℕ) (v : A) → IsLaidOut l text v → (r : Refusal) → Stands l (text ++ rest) r → ⊥
fine (known x) p text rest v h r s = s
fine (part_or q n) p text rest v h r s = omega (arith, h.0, s.1, length-append text rest)
fine (followed l f) p text rest v h r (inl s) =
    let whole : text ++ rest ≡ h.1 ++ (h.2 ++ rest) = ap (λ (t : List ℕ). t ++ rest) h.3 ∙ append_assoc h.1 h.2 rest in
    fine l p.0 h.1 (h.2 ++ rest) h.0 h.4 r (subst (λ (t : List ℕ). Stands l t r) whole s)
fine (followed l f) p text rest v h r (inr s) =
    let whole : text ++ rest ≡ h.1 ++ (h.2 ++ rest) = ap (λ (t : List ℕ). t ++ rest) h.3 ∙ append_assoc h.1 h.2 rest in
    let one = laid_out_once l s.1 s.2 h.1 (h.2 ++ rest) s.0 h.0 s.4 h.4 (sym s.3 ∙ whole) in
    let there = subst (λ x. Stands (f x) s.2 r) one.2 s.5 in
    fine (f h.0) (p.1 h.0) h.2 rest v h.5 r (subst (λ (t : List ℕ). Stands (f h.0) t r) one.1 there)
fine (judged q b) p text rest v h r s = p
fine (stopped q) p text rest v h r s = p
fine (chosen b l m) p text rest v h r s = p
fine ended p text rest v h r s = p

number_plain : (n : ℕ) → IsPlain (number n)
unfolding number
number_plain n = (tt, λ x. tt)

many_plain : {A : Type 0} (n : ℕ) (l : Layout A) → IsPlain l → IsPlain (many n l)
unfolding many
many_plain zero l p = tt
many_plain (suc n) l p = (p, λ x. (many_plain n l p, λ xs. tt))

attribute_plain : IsPlain plain_attribute
unfolding plain_attribute
attribute_plain = (number_plain 2, λ name. (number_plain 4, λ length. (tt, λ content. tt)))

code_plain : IsPlain code_parts
unfolding code_parts
code_plain =
    (number_plain 2, λ stack. (number_plain 2, λ locals. (number_plain 4, λ size. (tt, λ code. (number_plain 2, λ exceptions. (tt, λ entries. (number_plain 2, λ count. (many_plain count plain_attribute attribute_plain, λ attributes. tt))))))))

pub code_is_read : (content : List ℕ) (c : CodeParts) → IsLaidOut code_parts content c → first code_parts content ≡ Ok (c, [])
code_is_read content c h = first_again code_parts content content [] c (sym (append-nil content)) h (λ r s. fine code_parts code_plain content [] c h r (subst (λ (t : List ℕ). Stands code_parts t r) (sym (append-nil content)) s))
