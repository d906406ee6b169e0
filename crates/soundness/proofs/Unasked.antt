-- Steps in which the loader isn't asked.
use Rattle.std.proofs.Common.{◌≡◌, Bool, true, false, ◌&&◌, Some, refl, ap, ◌∙◌}
use Rattle.std.specs.Prelude.{if◌then◌else◌}
use Rattle.jtypes.specs.declared.loader.LoadAnswer.{LoadAnswer}
use Rattle.jtypes.specs.declared.loader.LoadAnswer.TheVariants as load
use Rattle.jtypes.specs.Loading.{may_ask}
use Rattle.typecheck.specs.Typing.{Class}
use Rattle.verdict.specs.Machine.{State, Goes, step, is_get_next, after_load, step_with, Reaches, onward}

and_false : (x : Bool) → (x && false) ≡ false
and_false true = refl
and_false false = refl

-- `step_with` is `step` if the next instruction isn't getValue on the entry.
pub unasked : (c : Class) (a : LoadAnswer) (s : State) → is_get_next c s.activations ≡ false → step_with c a s ≡ step c s
unasked c a s other = ap (λ b. if b then after_load c s a else step c s) (ap (λ b. may_ask s.call.loads s.call.before s.now && b) other ∙ and_false (may_ask s.call.loads s.call.before s.now))

pub goes_unasked : {c : Class} {s t u : State} → Reaches c s t → is_get_next c t.activations ≡ false → step c t ≡ Some (Goes u) → Reaches c s u
goes_unasked {c} {s} {t} {u} r other e = onward load.None r (unasked c load.None t other ∙ e)
