use Rattle.std.proofs.Common.{◌≡◌, ◌+◌, ap, ◌∙◌, refl, length}
use Rattle.std.proofs.lemmas.List.{length-append}
use Rattle.std.proofs.lemmas.Option.{slice_get_read}
use Rattle.search.proofs.FollowedEach.{followings_more}
use Rattle.search.proofs.rules.followings.Goals as goal

pub loop-m-preserved : goal.loop-m-preserved
loop-m-preserved c = record {
  size = ap length c.in_ok-push.ensures.items ∙ length-append c.loop-m.fs.items _ ∙ ap (λ n. n + 1) c.loop-m.invariant.size;
  each = followings_more c.args.methods.now c.loop-m.fs.items _ c.m-item.result c.in_ok-f.f c.loop-m.m-index c.loop-m.invariant.size c.in_ok-push.ensures.items
      (slice_get_read c.args.methods.now _ c.loop-m.m-index c.m-item.result refl c.loop-m-test.true c.m-item.is)
      (record { values = c.in_ok-f.ensures.values ∙ c.has_loops-values.ensures; ints = c.in_ok-f.ensures.ints })
      c.loop-m.invariant.each;
}
