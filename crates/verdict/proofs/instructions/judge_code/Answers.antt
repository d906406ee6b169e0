use Rattle.std.proofs.Common.{◌≡◌, ◌≢◌, ◌∙◌, ◌++◌, List, true, length, ap, subst, sym, arith, get_or}
use Rattle.std.proofs.lemmas.List.{drop_all, append-nil}
use Rattle.std.proofs.lemmas.Result.{err_from_is_err_and}
use Rattle.typecheck.specs.Calls.{calls_in}
use Rattle.typecheck.proofs.CallsMade.{are_calls}
use Rattle.jtypes.specs.declared.refusal.Refusal.{Refusal}
use Rattle.constpool.specs.Lookup.{Slot}
use Rattle.decode.specs.declared.instruction.Placed.{Placed}
use Rattle.decode.proofs.Faults.{stands_at}
use Rattle.decode.specs.Code.{IsSequence}
use Rattle.decode.specs.Places.{CodeStands}
use Rattle.decode.specs.Faults.{CodeStandsAt}
use Rattle.decode.specs.declared.fault.Fault.{Fault}
use Rattle.verdict.specs.Verdict.{is_known}
use Rattle.jtypes.specs.declared.refusal.Refusal.TheVariants.{NoMemory}
use Rattle.verdict.proofs.Judged.{good_code}
use Rattle.verdict.proofs.Spots.{code_located, unknown_stands}
use Rattle.jtypes.specs.Profile.{Third}
use Rattle.verdict.proofs.instructions.judge_code.Goals as goal

pub returns-clause-code : goal.returns-clause-code
returns-clause-code c =
    let list = c.as_slice-p-items in
    let known = c.loop-p.invariant.known in
    good_code c.args.view.now c.args.bytes.now c.in_ok-code.code
    (subst (λ (pool : List Slot). IsSequence Third pool 0 c.args.bytes.now c.in_ok-code.code) c.pool.ensures c.in_ok-code.ensures.found)
    (subst (λ (pool : List Slot). (r : Refusal) → CodeStands Third pool c.args.bytes.now r → ⊥) c.pool.ensures c.in_ok-code.ensures.accepted)
    (λ k d l. subst (λ (xs : List Placed). is_known c.args.view.now (get_or xs k d).instruction ≡ true) list.ensures.value (known k d (omega arith) (omega (arith, l, ap length list.ensures.value, c.loop-p-test.false))))

pub returns-in_err-code-clause-err : goal.returns-in_err-code-clause-err
returns-in_err-code-clause-err c =
    let e = err_from_is_err_and c.from_residual.result c.from_residual.ensures.1 in
    let f : Fault = c.in_err-code.field-0.0 in
    rw (e.1, e.2) (code_located c.args.view.now c.args.bytes.now f.place f.refusal (subst (λ (pool : List Slot). f.refusal ≢ NoMemory → CodeStandsAt Third pool c.args.bytes.now f.place f.refusal) c.pool.ensures c.in_err-code.ensures.refused))

pub returns-clause-calls : goal.returns-clause-calls
returns-clause-calls c =
    let code = c.in_ok-code.code in
    let calls = c.loop-p.calls.items in
    let list = c.as_slice-p-items in
    let items = list.result.now in
    let rest = drop_all c.loop-p.p-index items (omega (arith, c.loop-p-test.false)) in
    let whole = c.loop-p.invariant.calls ∙ ap (λ (l : List Placed). calls ++ calls_in c.args.view.now l) rest ∙ append-nil calls in
    are_calls c.args.view.now code calls list.ensures.rising (sym whole ∙ ap (calls_in c.args.view.now) list.ensures.value)

pub returns-in_err-called-clause-err : goal.returns-in_err-called-clause-err
returns-in_err-called-clause-err c =
    let list = c.as_slice-p-items in
    let code = c.in_ok-code.code in
    let p = c.p-item.result in
    let e = err_from_is_err_and c.from_residual-in_err-called.result c.from_residual-in_err-called.ensures.1 in
    let f : Fault = c.in_err-called.field-0.0 in
    let at = stands_at code list.result.now c.loop-p.p-index p list.ensures.value list.ensures.rising c.loop-p-test.true c.p-item.is in
    let found = subst (λ (pool : List Slot). IsSequence Third pool 0 c.args.bytes.now code) c.pool.ensures c.in_ok-code.ensures.found in
    rw (e.1, e.2) (unknown_stands c.args.view.now c.args.bytes.now code found p at f c.in_err-called.ensures.err)
