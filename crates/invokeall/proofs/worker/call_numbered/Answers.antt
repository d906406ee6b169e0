use Rattle.std.proofs.Common.{◌≡◌, ℕ, zero, suc, ◌<◌, List, [], ◌∷◌, length, get_or, refl, sym, ap, ◌∙◌, arith}
use mathlib.Core.Option.{some}
use lib.ListN.{get_elem?}
use Rattle.stripe.specs.declared.call.Call.{Call as CallTaken}
use Rattle.stripe.specs.Seen.{call_of}
use Rattle.invokeall.specs.Jobs.{all_seen}
use Rattle.invokeall.proofs.worker.call_numbered.Goals as goal

seen_at : (calls : List CallTaken) (i : ℕ) (d : CallTaken) → i < length calls → get_elem? (all_seen calls) i ≡ some (call_of (get_or calls i d))
seen_at [] i d h = absurd (omega arith)
seen_at (x ∷ xs) zero d h = refl
seen_at (x ∷ xs) (suc i) d h = seen_at xs i d (omega arith)

pub returns : goal.returns
returns c = seen_at c.args.calls.now c.args.number c.index-calls-number.result c.requires ∙ ap (λ x. some (call_of x)) (sym c.index-calls-number.is)
