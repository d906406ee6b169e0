use Rattle.std.proofs.Common.{◌≡◌, ◌<◌, ap, ◌∙◌, arith, length, get_or, map}
use Rattle.std.proofs.lemmas.List.{length-map}
use Rattle.unrolled.specs.Graph.{kept}
use Rattle.search.specs.Seen.{known_seen, locals_seen, following_seen}
use Rattle.search.proofs.Entering.{kept_next, kept_over-none, kept_over-all}
use Rattle.search.proofs.starts.keep.Goals as goal

pub loop-n-init : goal.loop-n-init
loop-n-init c = kept_over-none (following_seen c.args.f.now).ints 0 _

pub loop-n-preserved : goal.loop-n-preserved
loop-n-preserved c =
    let within : c.loop-n.n < length c.loop-n.locals = omega arith in
    kept_next (following_seen c.args.f.now).ints c.loop-n.locals (locals_seen c.args.locals.now) c.loop-n.n c.index-locals-n.result c.kept.result within c.loop-n.invariant
    (c.kept.ensures ∙ ap (λ b. kept b (known_seen c.index-locals-n.result)) c.follows.ensures
    ∙ ap (λ k. kept ((following_seen c.args.f.now).ints c.loop-n.n) (known_seen k)) c.index-locals-n.is)

pub returns : goal.returns
returns c =
    let size : length (map known_seen c.args.locals.now) ≡ length c.args.locals.now = length-map c.args.locals.now known_seen in
    let all : c.loop-n.n ≡ length (map known_seen c.args.locals.now) = omega arith in
    c.loop-n.invariant ∙ kept_over-all (following_seen c.args.f.now).ints 0 c.loop-n.n (locals_seen c.args.locals.now) all
