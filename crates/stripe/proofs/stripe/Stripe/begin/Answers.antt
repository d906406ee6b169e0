use Rattle.std.proofs.Common.{arith, Some, sym, ap, subst, ◌∙◌}
use Rattle.stripe.specs.History.{Begun, key_of}
use Rattle.stripe.specs.Seen.{call_of}
use Rattle.stripe.specs.Stored.{Stored, entry_in}
use Rattle.stripe.specs.Kept.{Kept, IsOf, IsKept, entry_of}
use Rattle.stripe.specs.Inside.{kept}
use Rattle.stripe.proofs.Keeps.{entry_held, kept_begun}
use Rattle.stripe.proofs.Sound.{no_call, sound_begun}
use Rattle.stripe.proofs.stripe.Stripe.begin.Goals as goal

pub invariant_of-self-2 : goal.invariant_of-self-2
invariant_of-self-2 g c =
    sound_begun c.self.inside c.find.new.self _ c.self.invariant
    (no_call c.self.inside.running (ap (λ (s : Kept). s.running) c.self.view_is ∙ c.requires.idle))
    (subst (λ (s : Kept). IsOf s (key_of (call_of c.args.call))) (sym c.self.view_is) c.requires.of)
    (λ e. omega (arith, c.if-len-self.false, c.len.ensures, e))
    c.in_ok-before.ensures.held c.in_ok-before.ensures.entry

pub returns-clause-entries : goal.returns-clause-entries
returns-clause-entries g c k =
    ap (λ m. entry_in m k) c.in_ok-before.ensures.held ∙ entry_held c.ASKS-loads.result c.self.inside.table (call_of c.args.call) k ∙ ap (λ s. entry_of s k) c.self.view_is

pub returns-clause-kept : goal.returns-clause-kept
returns-clause-kept g c loads opening h =
    let b : Begun = record { caller = c.args.caller; number = c.args.number; call = call_of c.args.call; loads = c.ASKS-loads.result } in
    subst (λ (m : Stored). IsKept loads opening (record (kept c.self.inside) { stored = m; running = Some b }))
    (sym c.in_ok-before.ensures.held)
    (kept_begun loads opening (kept c.self.inside) b (subst (IsKept loads opening) (sym c.self.view_is) h))
