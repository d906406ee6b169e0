use Rattle.std.proofs.Common.{◌≡◌, None}
use Rattle.bench.proofs.alone.ask_all.Given as goal

abbrev pub invariant-loop-key : goal.invariant-loop-key
invariant-loop-key l = (l.stripe.stripes ≡ 1) × (l.stripe.place ≡ 0) × (l.stripe.running ≡ None)
