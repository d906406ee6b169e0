use Rattle.std.proofs.Common.{◌≡◌, ◌<◌, ℕ, List, length, get_or, Some, subst, arith}
use Rattle.std.proofs.lemmas.Option.{slice_get_within}
use Rattle.decode.specs.declared.instruction.Placed.{Placed}
use Rattle.decode.specs.Places.{at_place}
use Rattle.typecheck.specs.declared.typed.Typed.{Typed}
use Rattle.search.specs.After.{HasPlaces}
use Rattle.loop_bounds.proofs.Lists.{read_is, one_at, code_places}
use Rattle.loop_bounds.proofs.places.have_places.Goals as goal

abbrev HasAll : List Placed → Type 0
HasAll code = (i : ℕ) (d : Placed) → i < length code → HasPlaces (get_or code i d).instruction

pub loop-m-preserved : goal.loop-m-preserved
loop-m-preserved c =
    let m = c.m-item.result in
    let all : HasAll c.as_slice.result.now = c.all_have_places.ensures cc in
    one_at (λ (row : Typed). (place : ℕ) (p : Placed) → at_place row.code place ≡ Some p → HasPlaces p.instruction) c.args.methods.now c.loop-m.m-index m
    (read_is c.args.methods.now c.loop-m.m-index m c.loop-m-test.true c.m-item.is) (code_places m.code (subst HasAll c.as_slice.ensures.value all)) c.loop-m.invariant

pub returns : goal.returns
returns c _ i row place p r e =
    let within : i < length c.args.methods.now = slice_get_within c.args.methods.now i row r in
    let all = c.loop-m-test.false in
    c.loop-m.invariant i row (omega (arith, within, all)) r place p e
