use Rattle.std.proofs.Common.{◌≡◌, ap, ◌∙◌, map, List, arith}
use Rattle.std.specs.Vec.{with_items}
use Rattle.std.proofs.lemmas.List.{with_items_is}
use Rattle.jtypes.specs.Lists.{padded}
use Rattle.jtypes.specs.Types.{as_locals}
use Rattle.unrolled.specs.Known.{Known, Narrow, is_wide}
use Rattle.unrolled.specs.Graph.{kept_from}
use Rattle.search.specs.declared.known.Known as plain
use Rattle.search.specs.declared.known.Known.TheVariants as variant
use Rattle.search.specs.Seen.{known_seen, operands_seen, following_seen}
use Rattle.search.specs.Starts.{wide_in_code}
use Rattle.search.proofs.Entering.{entered_with, padded_seen, locals_in_order, nothing_seen}
use Rattle.search.proofs.starts.entered.Goals as goal

pub returns : goal.returns
returns c m e =
    let count : c.from.result ≡ c.args.max_locals = omega arith in
    let same : (with_items c.in_ok-locals.locals c.keep.new.locals).items ≡ c.keep.new.locals =
    with_items_is c.in_ok-locals.locals c.keep.new.locals (c.keep.auto.locals ∙ c.deref_mut.ensures.len) in
    let before : c.deref_mut.result.now ≡ padded variant.Narrow c.args.max_locals (as_locals wide_in_code (λ k. k) variant.Narrow c.args.arguments.now) =
    c.deref_mut.ensures.value ∙ c.in_ok-locals.ensures ∙ ap (λ (l : List plain.Known). padded variant.Narrow c.from.result l) c.in_ok-shown.ensures
    ∙ ap (λ n. padded variant.Narrow n (as_locals wide_in_code (λ k. k) variant.Narrow c.args.arguments.now)) count in
    let all : map known_seen (with_items c.in_ok-locals.locals c.keep.new.locals).items
    ≡ kept_from (following_seen c.args.f.now).ints 0 (padded Narrow c.args.max_locals (as_locals is_wide (λ k. k) Narrow (map known_seen c.args.arguments.now))) =
    ap (map known_seen) same ∙ c.keep.ensures ∙ ap (λ (l : List plain.Known). kept_from (following_seen c.args.f.now).ints 0 (map known_seen l)) before
    ∙ ap (λ (l : List Known). kept_from (following_seen c.args.f.now).ints 0 l) (padded_seen c.args.max_locals (as_locals wide_in_code (λ k. k) variant.Narrow c.args.arguments.now))
    ∙ ap (λ (l : List Known). kept_from (following_seen c.args.f.now).ints 0 (padded Narrow c.args.max_locals l)) (locals_in_order c.args.arguments.now) in
    c.arrive.ensures ∙ entered_with (following_seen c.args.f.now) m c.args.max_locals c.args.arguments.now _ _ e all (nothing_seen _ c.new.ensures.items)
