-- The branch targets of a switch.
use Rattle.std.proofs.Common.{◌≡◌, ◌+◌, ℕ, zero, suc, ℤ, Bool, true, false, List, [], ◌∷◌, ◌++◌, drop, map, get_or, All, sym, ap, ◌∙◌, append_assoc, arith}
use Rattle.std.specs.Prelude.{Some, slice_get, int_lt, if◌then◌else◌}
use Rattle.std.specs.Int.{int_gap}
use Rattle.std.specs.Ordering.{int_eq}
use Rattle.decode.specs.declared.instruction.Case.{Case}
use Rattle.decode.specs.declared.instruction.Cases.{Cases}
use Rattle.decode.specs.declared.instruction.Cases.TheVariants.{Table, Lookup}
use Rattle.decode.specs.Places.{among, chosen, targets_in}
use Rattle.unrolled.specs.Known.{Known}
use Rattle.unrolled.specs.Graph.{Node, to_target, to_targets}
use Rattle.search.specs.After.{IsPlace}
use Rattle.search.proofs.Sizes.{drop_found}

-- a further target
pub targets_more : (x : Node) (ks : List Known) (zs : List ℤ) (i : ℕ) (z : ℤ) (seen more whole : List Node) → slice_get zs i ≡ Some z
    → more ≡ seen ++ to_target x z ks → seen ++ to_targets x (drop i zs) ks ≡ whole → more ++ to_targets x (drop (i + 1) zs) ks ≡ whole
targets_more x ks zs i z seen more whole found e so_far =
    ap (λ l. l ++ to_targets x (drop (i + 1) zs) ks) e ∙ append_assoc seen (to_target x z ks) (to_targets x (drop (i + 1) zs) ks)
    ∙ ap (λ ts. seen ++ to_targets x ts ks) (sym (drop_found zs i z found)) ∙ so_far

either : (b : Bool) (a z : ℤ) → IsPlace a → IsPlace z → IsPlace (if b then a else z)
either true a z h k = h
either false a z h k = k

tail_places : (z : ℤ) (zs : List ℤ) → All IsPlace (z ∷ zs) → All IsPlace zs
tail_places z zs h k d l = h (suc k) d (omega (arith, l))

head_place : (z : ℤ) (zs : List ℤ) → All IsPlace (z ∷ zs) → IsPlace z
head_place z zs h = h 0 z (omega arith)

get_place : (zs : List ℤ) (i : ℕ) (default : ℤ) → IsPlace default → All IsPlace zs → IsPlace (get_or zs i default)
get_place [] i default d h = d
get_place (z ∷ zs) zero default d h = head_place z zs h
get_place (z ∷ zs) (suc i) default d h = get_place zs i default d (tail_places z zs h)

among_place : (cases : List Case) (n default : ℤ) → IsPlace default → All IsPlace (map (λ c. c.target) cases) → IsPlace (among default cases n)
among_place [] n default d h = d
among_place (c ∷ cases) n default d h =
    either (int_eq c.key n) c.target (among default cases n) (head_place c.target (map (λ c. c.target) cases) h)
    (among_place cases n default d (tail_places c.target (map (λ c. c.target) cases) h))

pub chosen_is_place : (default : ℤ) (cases : Cases) (n : ℤ) → IsPlace default → All IsPlace (targets_in cases) → IsPlace (chosen default cases n)
chosen_is_place default (Table low targets) n d h = either (int_lt n low) default (get_or targets (int_gap low n) default) d (get_place targets (int_gap low n) default d h)
chosen_is_place default (Lookup cases) n d h = among_place cases n default d h
