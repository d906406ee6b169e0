use Rattle.std.proofs.Common.{◌≡◌, ◌⊎◌, ◌∙◌, refl, sym, ap, subst, Err, inr}
use Rattle.jtypes.specs.declared.refusal.Refusal.{Refusal}
use Rattle.jtypes.specs.declared.refusal.Refusal.TheVariants.{NoMemory, LengthNotConstant, Recursive}
use Rattle.jtypes.specs.Profile.{Third}
use Rattle.bounds.specs.Lengths.{HaveLengths}
use Rattle.bounds.specs.Limits.{IsLimit}
use Rattle.verdict.specs.TypedClasses.{IsTypedClass}
use Rattle.verdict.specs.Verdict.{IsRefused}
use Rattle.verdict.proofs.Accepted.{is_accepted, has_bounds}
use Rattle.verdict.proofs.Refused.{bounds_refused}
use Rattle.explain.proofs.Explaining.{costs_in, circle_in, circle_refused, lacking_told, limit_refused, not_both, other_is_whole, recursive_told, told_refused, whole_told}
use Rattle.explain.proofs.explained.explain.Goals as goal

pub returns-in-Err : goal.returns-in-Err
returns-in-Err c = told_refused c.args.bytes.now c.in-Err.located c.refused.result c.in-Err.ensures.err c.refused.ensures

pub returns-in-Ok-costs_of : goal.returns-in-Ok-costs_of
returns-in-Ok-costs_of c =
    let bytes = c.args.bytes.now in
    let pool = c.in-Ok.typed.class.pool in
    let p = c.in-Ok.typed.class.parts in
    let rows = c.in-Ok.typed.methods.items in
    let t : IsTypedClass bytes pool p rows = c.in-Ok.ensures.ok in
    let value = c.as_slice-methods.ensures.value in
    let bound = rw value at c.in-Ok-bound.ensures in
    let costs = rw value at c.in-Ok-costs_of.ensures.ok in
    (is_accepted bytes pool p t.constructor t.codes t.shape t.items t.found rows t.typed t.file.laid_out t.file.none_stands c.in-Ok-bound.bounds bound.ordered bound.answer bound.limits bound.lengths, has_bounds bytes pool p t.constructor t.codes t.shape t.items t.found rows t.typed t.file.laid_out t.file.none_stands c.in-Ok-bound.bounds bound.ordered bound.answer, costs_in bytes pool p rows t c.in-Ok-costs_of.methods.items bound.ordered costs)

pub returns-in-Ok-bound : goal.returns-in-Ok-bound
returns-in-Ok-bound c =
    let bytes = c.args.bytes.now in
    let pool = c.in-Ok.typed.class.pool in
    let p = c.in-Ok.typed.class.parts in
    let rows = c.in-Ok.typed.methods.items in
    let t : IsTypedClass bytes pool p rows = c.in-Ok.ensures.ok in
    let value = c.as_slice-methods.ensures.value in
    let bound = rw value at c.in-Ok-bound.ensures in
    let err = rw value at c.in-Err-costs_of.ensures.err in
    told_refused bytes c.into.result c.refused-in-Err-costs_of.result (recursive_told bytes pool p rows t c.in-Err-costs_of.refusal c.into.result c.into.ensures.0 c.into.ensures.1 bound.lengths err) c.refused-in-Err-costs_of.ensures

pub lacking-requires : goal.lacking-requires
lacking-requires c = λ have.
    let bytes = c.args.bytes.now in
    let pool = c.in-Ok.typed.class.pool in
    let p = c.in-Ok.typed.class.parts in
    let rows = c.in-Ok.typed.methods.items in
    let t : IsTypedClass bytes pool p rows = c.in-Ok.ensures.ok in
    let value = c.as_slice-methods.ensures.value in
    let bound = rw value at c.in-Err-bound.ensures in
    let refusal : Refusal = c.in-Err-bound.refusal in
    not_both bytes pool p rows t (subst HaveLengths value have) (bound.lacking (ap Err c.in-LengthNotConstant.is))

pub returns-in-LengthNotConstant : goal.returns-in-LengthNotConstant
returns-in-LengthNotConstant c =
    let bytes = c.args.bytes.now in
    let pool = c.in-Ok.typed.class.pool in
    let p = c.in-Ok.typed.class.parts in
    let rows = c.in-Ok.typed.methods.items in
    let t : IsTypedClass bytes pool p rows = c.in-Ok.ensures.ok in
    let value = c.as_slice-methods.ensures.value in
    let bound = rw value at c.in-Err-bound.ensures in
    let refusal : Refusal = c.in-Err-bound.refusal in
    let stands : (refusal ≡ NoMemory) ⊎ IsRefused Third bytes refusal = bounds_refused bytes pool p t.constructor t.codes t.shape t.items t.found rows t.typed t.file refusal bound.refusal bound.judged bound.limit bound.recursive (λ s. bound.lacking (ap Err s)) (λ s. bound.process (ap Err s)) bound.answer in
    let length = subst (λ (r : Refusal). (r ≡ NoMemory) ⊎ IsRefused Third bytes r) c.in-LengthNotConstant.is stands in
    told_refused bytes c.lacking.result c.refused-in-LengthNotConstant.result (lacking_told bytes pool p rows t c.lacking.result (rw value at c.lacking.ensures) length) c.refused-in-LengthNotConstant.ensures

pub returns-in-Some : goal.returns-in-Some
returns-in-Some c =
    let bytes = c.args.bytes.now in
    let pool = c.in-Ok.typed.class.pool in
    let p = c.in-Ok.typed.class.parts in
    let rows = c.in-Ok.typed.methods.items in
    let t : IsTypedClass bytes pool p rows = c.in-Ok.ensures.ok in
    let value = c.as_slice-methods.ensures.value in
    let bound = rw value at c.in-Err-bound.ensures in
    let refusal : Refusal = c.in-Err-bound.refusal in
    let among = rw (value, c.in-Some.is) at c.in_ok-calls-in-Recursive.ensures in
    let lengths = bound.judged (λ e. let never : Recursive ≡ LengthNotConstant = sym c.in-Recursive.is ∙ e in cc never) in
    (circle_refused bytes pool p rows t lengths (bound.recursive c.in-Recursive.is), circle_in bytes pool p rows t c.in-Some.calls.items among)

pub returns-in-Recursive : goal.returns-in-Recursive
returns-in-Recursive c =
    let bytes = c.args.bytes.now in
    let pool = c.in-Ok.typed.class.pool in
    let p = c.in-Ok.typed.class.parts in
    let rows = c.in-Ok.typed.methods.items in
    let t : IsTypedClass bytes pool p rows = c.in-Ok.ensures.ok in
    let value = c.as_slice-methods.ensures.value in
    let bound = rw value at c.in-Err-bound.ensures in
    let refusal : Refusal = c.in-Err-bound.refusal in
    let lengths = bound.judged (λ e. let never : Recursive ≡ LengthNotConstant = sym c.in-Recursive.is ∙ e in cc never) in
    let stands = circle_refused bytes pool p rows t lengths (bound.recursive c.in-Recursive.is) in
    let into = c.into-in-None in
    told_refused bytes into.result c.refused-in-None.result (whole_told bytes Recursive into.result into.ensures.0 into.ensures.1 (inr stands) (λ _. tt)) c.refused-in-None.ensures

pub returns-in-Ok-costs_of-2 : goal.returns-in-Ok-costs_of-2
returns-in-Ok-costs_of-2 c =
    let bytes = c.args.bytes.now in
    let pool = c.in-Ok.typed.class.pool in
    let p = c.in-Ok.typed.class.parts in
    let rows = c.in-Ok.typed.methods.items in
    let t : IsTypedClass bytes pool p rows = c.in-Ok.ensures.ok in
    let value = c.as_slice-methods.ensures.value in
    let bound = rw value at c.in-Err-bound.ensures in
    let refusal : Refusal = c.in-Err-bound.refusal in
    let limit : IsLimit refusal = c.if-is_limit.ensures refl in
    let costs = rw value at c.in-Ok-costs_of-2.ensures.ok in
    (limit_refused bytes refusal limit (bounds_refused bytes pool p t.constructor t.codes t.shape t.items t.found rows t.typed t.file refusal bound.refusal bound.judged bound.limit bound.recursive (λ s. bound.lacking (ap Err s)) (λ s. bound.process (ap Err s)) bound.answer), costs_in bytes pool p rows t c.in-Ok-costs_of-2.methods.items (bound.limit limit) costs)

pub returns-in_default : goal.returns-in_default
returns-in_default c =
    let bytes = c.args.bytes.now in
    let pool = c.in-Ok.typed.class.pool in
    let p = c.in-Ok.typed.class.parts in
    let rows = c.in-Ok.typed.methods.items in
    let t : IsTypedClass bytes pool p rows = c.in-Ok.ensures.ok in
    let value = c.as_slice-methods.ensures.value in
    let bound = rw value at c.in-Err-bound.ensures in
    let refusal : Refusal = c.in-Err-bound.refusal in
    let into = c.into-in-Err-costs_of-2 in
    told_refused bytes into.result c.refused-in-Err-costs_of-2.result (recursive_told bytes pool p rows t c.in-Err-costs_of-2.other into.result into.ensures.0 into.ensures.1 (bound.judged c.in_default.not-LengthNotConstant) (rw value at c.in-Err-costs_of-2.ensures.err)) c.refused-in-Err-costs_of-2.ensures

pub returns : goal.returns
returns c =
    let bytes = c.args.bytes.now in
    let pool = c.in-Ok.typed.class.pool in
    let p = c.in-Ok.typed.class.parts in
    let rows = c.in-Ok.typed.methods.items in
    let t : IsTypedClass bytes pool p rows = c.in-Ok.ensures.ok in
    let value = c.as_slice-methods.ensures.value in
    let bound = rw value at c.in-Err-bound.ensures in
    let refusal : Refusal = c.in-Err-bound.refusal in
    let into = c.into-in_default-2 in
    told_refused bytes into.result c.refused-in_default-2.result (whole_told bytes refusal into.result into.ensures.0 into.ensures.1 (bounds_refused bytes pool p t.constructor t.codes t.shape t.items t.found rows t.typed t.file refusal bound.refusal bound.judged bound.limit bound.recursive (λ s. bound.lacking (ap Err s)) (λ s. bound.process (ap Err s)) bound.answer) (other_is_whole refusal bound.refusal c.in_default.not-LengthNotConstant)) c.refused-in_default-2.ensures
