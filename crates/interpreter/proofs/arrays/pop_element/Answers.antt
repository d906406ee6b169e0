use Rattle.std.proofs.Common.{◌≡◌, ◌∷◌, sym, subst, ◌∙◌, w32, w64, to_z, of_z}
use Rattle.std.proofs.lemmas.Int.{to_z-of_z}
use Rattle.jtypes.specs.declared.operations.ArrayKind.TheVariants as array
use Rattle.arena.specs.Placing.{FitsElement}
use Rattle.slots.specs.Reads.{Reads}
use Rattle.verdict.specs.Machine.{element_value}
use Rattle.slots.specs.Seen.{seen}
use Rattle.interpreter.proofs.arrays.pop_element.Goals as goal

pub returns-in-Int-clause-pops : goal.returns-in-Int-clause-pops
returns-in-Int-clause-pops c s arrays ls n vs below r =
    let h = c.pop_int.ensures.reads arrays s.callers.0 ls n vs below (subst (λ kind. Reads arrays (seen s c.args.window.now) ls (element_value kind n ∷ vs) below) c.in-Int.is r) in
    let low : to_z w32 (of_z w32 c.pop_int.result) ≡ n = to_z-of_z w32 c.pop_int.result (record { sfits = c.pop_int.type_inv }) ∙ h.0 in
    let same : to_z w64 (of_z w64 c.from.result) ≡ n = to_z-of_z w64 c.from.result (record { sfits = c.from.type_inv }) ∙ c.from.ensures ∙ low in
    (same, subst (λ kind. FitsElement kind n) (sym c.in-Int.is) (subst (FitsElement array.Int) h.0 (record { sfits = c.pop_int.type_inv })), h.1)

pub returns-in-Long-clause-pops : goal.returns-in-Long-clause-pops
returns-in-Long-clause-pops c s arrays ls n vs below r =
    let h = c.pop_long.ensures.reads arrays s.callers.0 ls n vs below (subst (λ kind. Reads arrays (seen s c.args.window.now) ls (element_value kind n ∷ vs) below) c.in-Long.is r) in
    (to_z-of_z w64 c.pop_long.result (record { sfits = c.pop_long.type_inv }) ∙ h.0, subst (λ kind. FitsElement kind n) (sym c.in-Long.is) tt, h.1)
