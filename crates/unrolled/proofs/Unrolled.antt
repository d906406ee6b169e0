-- A class whose nodes are listed within the limits has bounds, no circle and no more nodes than that.
use Rattle.std.proofs.Common.{ℕ, ◌≤◌, Bool, List, length, refl, arith}
use Rattle.bounds.specs.Table.{bounds_of}
use Rattle.unrolled.specs.Graph.{Node}
use Rattle.unrolled.specs.Rules.{rules_of}
use Rattle.unrolled.specs.Paths.{start_node}
use Rattle.unrolled.specs.Cover.{IsCover}
use Rattle.unrolled.specs.Certificates.{Point, is_in, rank_in}
use Rattle.unrolled.specs.Tables.{Costs, IsTable}
use Rattle.unrolled.specs.Circles.{IsCircle, AreReached, values_in}
use Rattle.unrolled.specs.Limits.{start_point, UnrolledHasBounds, IsTooLarge, by_nodes, by_values, UnrolledExcludes}
use Rattle.unrolled.specs.Example.{LoopIsUnrolled}
use Rattle.unrolled.proofs.Greatest.{tables_are_bounds, each_has_table}
use Rattle.unrolled.proofs.Certificates.{certificates_cover}
use Rattle.unrolled.proofs.Circles.{certificates_exclude}

pub unrolled_has_bounds : UnrolledHasBounds
unrolled_has_bounds c j m ks u = (bounds_of (table.0 j start), tables_are_bounds c (rules_of c) inside rank table.0 cover table.1 j start u.starts)
  where
    inside : ℕ → Node → Bool
    inside i x = is_in (record { method = i; node = x }) ks

    rank : ℕ → Node → ℕ
    rank i x = rank_in (record { method = i; node = x }) ks

    start : Node
    start = start_node (rules_of c) j m

    cover : IsCover c (rules_of c) inside rank
    cover = certificates_cover c (rules_of c) ks u.passes

    table : (t : Costs) × IsTable c (rules_of c) inside t
    table = each_has_table c (rules_of c) inside rank cover

pub unrolled_excludes : UnrolledExcludes
unrolled_excludes c j m ks u = (r.0, too_large)
  where
    r : (IsCircle c (rules_of c) (start_point c j m) → ⊥) × ((xs : List Point) → AreReached c (rules_of c) (start_point c j m) xs → (length xs ≤ length ks) × (values_in xs ≤ values_in ks))
    r = certificates_exclude c (rules_of c) (start_point c j m) ks u.passes u.starts

    too_large : IsTooLarge c j m → ⊥
    too_large (by_nodes xs loops reached more) = let few = (r.1 xs reached).0 in let most = u.nodes loops in omega (arith, few, most, more)
    too_large (by_values xs loops reached more) = let few = (r.1 xs reached).1 in let most = u.values loops in omega (arith, few, most, more)

pub loop_is_unrolled : LoopIsUnrolled
loop_is_unrolled = record {
  loops = refl;
  unrolled = record { passes = refl; starts = refl; nodes = λ e. omega arith; values = λ e. omega arith };
}
