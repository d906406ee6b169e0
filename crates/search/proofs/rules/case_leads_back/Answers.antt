use Rattle.std.proofs.Common.{rules, ◌≡◌, ◌+◌, ◌||◌, drop, ap, sym, ◌∙◌, FitsSigned, Bool}
use Rattle.std.specs.Int.{w128}
use Rattle.std.proofs.lemmas.Int.{to_z-of_z}
use Rattle.decode.specs.Places.{cases_of}
use Rattle.unrolled.specs.Rules.{is_back, any_back}
use Rattle.search.proofs.Cases.{back_step}
use Rattle.search.proofs.rules.case_leads_back.Goals as goal

pub returns-then-is_back : goal.returns-then-is_back
returns-then-is_back c =
    let place = c.args.p.now.place in
    let zs = cases_of c.args.p.now.instruction in
    let fits : FitsSigned w128 c.case_target.result = search (rules, c.case_target.type_inv) in
    let number = to_z-of_z w128 c.case_target.result fits in
    let is : c.is_back.result ≡ is_back place c.case_target.result = c.is_back.ensures ∙ ap (is_back place) number in
    sym (c.loop-i.invariant ∙ back_step place zs c.loop-i.i c.case_target.result c.is_back.result c.case_target.ensures is ∙ ap (λ (b : Bool). b || any_back place (drop (c.loop-i.i + 1) zs)) c.if-is_back.true)

pub loop-i-preserved : goal.loop-i-preserved
loop-i-preserved c =
    let place = c.args.p.now.place in
    let zs = cases_of c.args.p.now.instruction in
    let fits : FitsSigned w128 c.case_target.result = search (rules, c.case_target.type_inv) in
    let number = to_z-of_z w128 c.case_target.result fits in
    let is : c.is_back.result ≡ is_back place c.case_target.result = c.is_back.ensures ∙ ap (is_back place) number in
    c.loop-i.invariant ∙ back_step place zs c.loop-i.i c.case_target.result c.is_back.result c.case_target.ensures is ∙ ap (λ (b : Bool). b || any_back place (drop (c.loop-i.i + 1) zs)) c.if-is_back.false
