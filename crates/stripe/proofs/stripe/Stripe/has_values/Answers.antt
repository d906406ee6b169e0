use Rattle.std.proofs.Common.{◌≡◌, ℤ, Some, None, subst}
use Rattle.std.specs.FinMap as stored
use Rattle.stripe.specs.Kept.{Kept, IsHeld}
use Rattle.stripe.proofs.stripe.Stripe.has_values.Goals as goal

pub returns-clause-held : goal.returns-clause-held
returns-clause-held c = subst (λ (s : Kept). (k : ℤ) → stored.get s.stored k ≡ Some None → IsHeld s.running k) c.self.view_is c.self.invariant.values

pub returns-clause-idle : goal.returns-clause-idle
returns-clause-idle c none k g = subst (λ r. IsHeld r k) none (returns-clause-held c k g)
