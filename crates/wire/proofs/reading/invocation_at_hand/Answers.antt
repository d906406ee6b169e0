use Rattle.std.proofs.Common.{◌+◌, ◌-◌, ◌≡◌, ℕ, List, Option, take, drop, refl, subst, sym, arith}
use Rattle.jtypes.specs.declared.types.Arg.{Arg}
use Rattle.wire.specs.Requests.{Request, Invoke}
use Rattle.wire.specs.declared.request.Invocation.{Invocation}
use Rattle.wire.specs.Frames.{IsText}
use Rattle.wire.specs.Reading.{Took, BeginsNoInvocation, InvocationIs}
use Rattle.wire.proofs.Framed.{frame_at_front}
use Rattle.wire.proofs.Parsed.{text_of_frame}
use Rattle.wire.proofs.reading.invocation_at_hand.Goals as goal

pub returns-clause-some : goal.returns-clause-some
returns-clause-some g c =
    let hand : List ℕ = c.at_hand-hand.result.now in
    let n : ℕ = c.in-Some.length in
    let i = c.in-Some-2.invocation in
    let args : List Arg = c.invocation_of.new.args.items in
    let r : Request = Invoke i.class i.key args in
    let h = c.in-Some.ensures.some in
    let same : 4 + n - 4 ≡ n = omega arith in
    let is = subst (λ (o : Option Invocation). InvocationIs (take (4 + n - 4) (drop 4 hand)) args o) c.in-Some-2.is c.in_ok-invocation.ensures in
    let text : IsText (take n (drop 4 hand)) r = subst (λ (m : ℕ). IsText (take m (drop 4 hand)) r) same is in (
      take (4 + n) hand,
      subst (λ (l : List ℕ). Took g.R.Read.remaining c.args.reader.now c.pass.new.self (take (4 + n) l)) (sym c.at_hand-hand.ensures) c.pass.ensures.bytes,
      λ p. frame_at_front p n hand r tt h.0 h.3 (omega (arith, h.2)) text,
    )

pub returns-in_default-clause-none : goal.returns-in_default-clause-none
returns-in_default-clause-none g c = (refl, subst BeginsNoInvocation c.at_hand-hand.ensures c.in_default.ensures.none)

pub returns-in_default-2-clause-none : goal.returns-in_default-2-clause-none
returns-in_default-2-clause-none g c =
    let hand : List ℕ = c.at_hand-hand.result.now in
    let n : ℕ = c.in-Some.length in
    let h = c.in-Some.ensures.some in
    let args : List Arg = c.invocation_of.new.args.items in
    let same : 4 + n - 4 ≡ n = omega arith in
    let none = subst (λ (o : Option Invocation). InvocationIs (take (4 + n - 4) (drop 4 hand)) args o) c.in_default-2.is c.in_ok-invocation.ensures in
    let begins : BeginsNoInvocation hand = λ p class key others rest read.
    let text = text_of_frame hand n (Invoke class key others) rest h.0 (omega (arith, h.2)) read in
    none class key others (subst (λ (m : ℕ). IsText (take m (drop 4 hand)) (Invoke class key others)) (sym same) text) in
    (refl, subst BeginsNoInvocation c.at_hand-hand.ensures begins)
