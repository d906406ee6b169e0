use Rattle.std.proofs.Common.{◌≡◌, ℕ, List, ◌∷◌, ap, ◌∙◌, sym, subst, refl, arith, inr}
use Rattle.wire.specs.Requests.{Request, Invoke}
use Rattle.wire.specs.declared.fault.WireFault.TheVariants as fault
use Rattle.wire.specs.Frames.{AreBytes, IsText}
use Rattle.wire.proofs.Numbers.{bytes_from}
use Rattle.wire.proofs.Parsed.{small_ok, small_fails}
use Rattle.wire.proofs.parsing.invocation_of.Goals as goal

pub returns-in-Ok : goal.returns-in-Ok
returns-in-Ok c =
    let text : List ℕ = c.args.text.now in
    let body : List ℕ = c.in-Some.body.now in
    let r : Request = Invoke c.in-Ok.invocation.class c.in-Ok.invocation.key c.all_invocation.new.args.items in
    let is : text ≡ 6 ∷ body = c.in-Some.ensures.cases.0 ∙ ap (λ (k : ℕ). k ∷ body) c.if-kind-ne6.false in
    let bytes : AreBytes (6 ∷ body) = subst AreBytes is (bytes_from text (λ k. (c.type_inv.text k).fits)) in
    subst (λ (t : List ℕ). IsText t r) (sym is) (small_ok 6 body r bytes.1 c.in-Ok.ensures)

pub returns-in_default-refusal : goal.returns-in_default-refusal
returns-in_default-refusal c class key others t =
    let text : List ℕ = c.args.text.now in
    let body : List ℕ = c.in-Some.body.now in
    let is : text ≡ 6 ∷ body = c.in-Some.ensures.cases.0 ∙ ap (λ (k : ℕ). k ∷ body) c.if-kind-ne6.false in
    small_fails 6 body c.in-Err.refusal fault.Malformed (omega arith) (omega arith) (inr (c.in_default-refusal.not-NoMemory, refl)) c.in-Err.ensures (Invoke class key others) (subst (λ (l : List ℕ). IsText l (Invoke class key others)) is t)
