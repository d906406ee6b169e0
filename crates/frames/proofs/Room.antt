-- Pcs and slots, as the readers of a table count them.
use Rattle.std.proofs.Common.{◌≡◌, ℕ, ◌+◌, ◌^◌, ◌≤◌, ◌<◌, true, false, List, [], ◌∷◌, ◌++◌, length, drop, Some, None, refl, sym, ap, ◌∙◌, append_assoc, arith}
use Rattle.std.specs.Prelude.{nat_le, reverse, option_map, slice_index_or}
use Rattle.std.proofs.lemmas.Bool.{ne_eqb, le-leb, lt-leb}
use Rattle.std.proofs.lemmas.List.{reverse-append}
use Rattle.jtypes.specs.declared.types.JType.{JType}
use Rattle.jtypes.specs.Types.{is_long, slots_by}
use Rattle.decode.specs.declared.instruction.Placed.{Placed}
use Rattle.decode.specs.Places.{at_place}
use Rattle.decode.specs.Reading.{RisesFrom}
use Rattle.frames.specs.Reading.{standing, within}
use Rattle.frames.proofs.Rows.{drop_at_item, drop_past}

-- no instruction starts at a pc of 2 ^ 64 or more
pub none_far : (q : ℕ) (code : List Placed) (n : ℕ) → RisesFrom q code → 2 ^ 64 ≤ n → at_place code n ≡ None
none_far q [] n h le = refl
none_far q (x ∷ xs) n (e, l, f, h) le = rw (ne_eqb x.place n (λ s. omega arith)) (none_far x.next xs n h le)

pub not_standing : (code : List Placed) (n : ℕ) → RisesFrom 0 code → 2 ^ 64 ≤ n → standing code n ≡ None
not_standing code n h le = rw (none_far 0 code n h le) refl

-- the number of slots of the types
abbrev pub slots : List JType → ℕ
slots ts = slots_by is_long ts

pub slots_from : (ts : List JType) (i : ℕ) (t : JType) → i < length ts → t ≡ slice_index_or ts i t → slots (drop i ts) ≡ slots (t ∷ []) + slots (drop (i + 1) ts)
slots_from ts i t h e = ap slots (drop_at_item ts i t h e) ∙ omega arith

pub slots_past : (ts : List JType) (i : ℕ) → length ts ≤ i → slots (drop i ts) ≡ 0
slots_past ts i h = ap slots (drop_past ts i h)

pub has_room : (ts : List JType) (max : ℕ) → slots ts ≤ max → nat_le (slots ts) max ≡ true
has_room ts max h = le-leb (slots ts) max h

pub lacks_room : (ts : List JType) (max : ℕ) → max < slots ts → nat_le (slots ts) max ≡ false
lacks_room ts max h = lt-leb (slots ts) max h

-- ---- a stack after pushes of the types in their order

pub stacked_more : (ts stack all : List JType) (i : ℕ) (t : JType) → i < length ts → t ≡ slice_index_or ts i t → reverse (drop i ts) ++ stack ≡ all → reverse (drop (i + 1) ts) ++ (t ∷ stack) ≡ all
stacked_more ts stack all i t h e so_far =
    let rest = drop (i + 1) ts in
    let one : reverse (drop i ts) ≡ reverse rest ++ (t ∷ []) = ap reverse (drop_at_item ts i t h e) ∙ reverse-append (t ∷ []) rest in
    sym (append_assoc (reverse rest) (t ∷ []) stack) ∙ ap (λ (l : List JType). l ++ stack) (sym one) ∙ so_far

pub stacked_all : (ts stack : List JType) (i : ℕ) → length ts ≤ i → reverse (drop i ts) ++ stack ≡ reverse ts → stack ≡ reverse ts
stacked_all ts stack i h so_far = sym (ap (λ (l : List JType). reverse l ++ stack) (drop_past ts i h)) ∙ so_far

pub stack_fits : (ts stack : List JType) (max : ℕ) → stack ≡ reverse ts → slots ts ≤ max → Some stack ≡ option_map reverse (within max ts)
stack_fits ts stack max e h = rw (has_room ts max h) (ap (λ (l : List JType). Some l) e)

pub stack_overflows : (ts : List JType) (max : ℕ) → max < slots ts → option_map reverse (within max ts) ≡ None
stack_overflows ts max h = rw (lacks_room ts max h) refl
