use Rattle.std.proofs.Common.{false, None, sym, ap, subst, ◌∙◌}
use Rattle.stripe.specs.History.{key_of}
use Rattle.stripe.specs.Kept.{Kept, IsEnd}
use Rattle.stripe.specs.Seen.{call_of}
use Rattle.test_stripe.proofs.stripes.made.Goals as goal

pub commit-record-requires : goal.commit-record-requires
commit-record-requires c =
    let call = call_of c.args.call in
    record {
      begun = record { caller = 7; number = c.args.number; call = call; loads = false };
      running = ap (λ (s : Kept). s.running) c.in-Ok.ensures.begun;
      ends = subst (λ e. IsEnd false e call c.end_of-done.result None) (c.in-Ok.ensures.entry ∙ sym (c.in-Ok.ensures.entries (key_of call))) c.end_of-done.ensures;
    }
