-- The case targets of a switch, from the last to the first.
use Rattle.std.proofs.Common.{◌≡◌, ℕ, ◌+◌, ◌-◌, ◌<◌, ◌≤◌, List, length, drop, Some, sym, ap, ◌∙◌, arith}
use Rattle.std.specs.Prelude.{slice_get, ℤ}
use Rattle.std.proofs.lemmas.List.{drop_all}
use Rattle.typecheck.proofs.Targets.{drop_on}
use Rattle.bounds.specs.Cells.{Cell, either, cell_at_target, cell_among}

pub none_yet : (cells : List Cell) (zs : List ℤ) (k : ℕ) (d : Cell) → length zs ≤ k → d ≡ cell_among cells (drop k zs) d
none_yet cells zs k d l = sym (ap (λ (xs : List ℤ). cell_among cells xs d) (drop_all k zs l))

pub one_more : (cells : List Cell) (zs : List ℤ) (left : ℕ) (z : ℤ) (x y d : Cell) → 0 < left → slice_get zs (left - 1) ≡ Some z → x ≡ cell_among cells (drop left zs) d → y ≡ either (cell_at_target cells z) x → y ≡ cell_among cells (drop (left - 1) zs) d
one_more cells zs left z x y d some at h e =
    let next : (left - 1) + 1 ≡ left = omega arith in
    e ∙ ap (either (cell_at_target cells z)) (h ∙ ap (λ (n : ℕ). cell_among cells (drop n zs) d) (sym next))
    ∙ sym (ap (λ (xs : List ℤ). cell_among cells xs d) (drop_on zs (left - 1) z at))

pub all_seen : (cells : List Cell) (zs : List ℤ) (left : ℕ) (x d : Cell) → left ≤ 0 → x ≡ cell_among cells (drop left zs) d → x ≡ cell_among cells zs d
all_seen cells zs left x d none h = let zero_left : left ≡ 0 = omega arith in h ∙ ap (λ (n : ℕ). cell_among cells (drop n zs) d) zero_left
