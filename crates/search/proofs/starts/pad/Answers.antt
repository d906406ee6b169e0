use Rattle.std.proofs.Common.{◌≡◌, ◌-◌, ◌+◌, ap, sym, ◌∙◌, arith, ◌++◌, replicate, vec_len}
use Rattle.search.specs.declared.known.Known.TheVariants.{Narrow}
use Rattle.search.proofs.Entering.{blanks_more}
use Rattle.search.proofs.starts.pad.Goals as goal

pub loop-locals-preserved : goal.loop-locals-preserved
loop-locals-preserved c =
    let more : vec_len c.push.new.self ≡ vec_len c.loop-locals.locals + 1 = c.in_ok-push.ensures.len in
    record {
      same = blanks_more _ _ _ _ _ _ c.loop-locals.invariant.same c.in_ok-push.ensures.items c.loop-locals.invariant.grows ∙ ap (λ n. c.args.locals.items ++ replicate (n - vec_len c.args.locals) Narrow) (sym more);
      within = omega arith;
      grows = omega arith;
    }
