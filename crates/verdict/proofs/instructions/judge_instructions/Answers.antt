use Rattle.std.proofs.Common.{rules, ◌≡◌, refl, sym, ap, ◌∙◌, subst, Some, List, ℕ, ◌⊎◌}
use Rattle.std.proofs.lemmas.Option.{slice_get-get_or}
use Rattle.classfile.specs.View.{view_of, ClassView}
use Rattle.classfile.specs.declared.class_file.CodeParts.{CodeParts}
use Rattle.decode.specs.declared.fault.Fault.{Fault}
use Rattle.jtypes.specs.declared.refusal.Refusal.TheVariants.{NoMemory}
use Rattle.typecheck.specs.Calls.{AreCallsOf}
use Rattle.verdict.specs.Spots.{InstructionStandsAt}
use Rattle.verdict.specs.Judging.{IsFoundIn, IsGoodCode}
use Rattle.verdict.proofs.Spots.{instruction_located}
use Rattle.verdict.specs.declared.instructions.Found.{Found}
use Rattle.verdict.proofs.Numbered.{next_numbered, skip_numbered}
use Rattle.verdict.proofs.instructions.judge_instructions.Goals.{then-number-constructor+in-Ok+in_ok-push-in-Ok, else-number-constructor}
use Rattle.jtypes.specs.Profile.{Third}
use Rattle.verdict.proofs.instructions.judge_instructions.Goals as goal

pub loop-number-preserved : goal.loop-number-preserved
loop-number-preserved c =
    let v : ClassView = view_of c.args.class.now.pool c.args.class.now.parts in
    let codes : List CodeParts = c.args.codes.now in
    let n : ℕ = c.loop-number.number in
    let constructor : ℕ = c.args.constructor in
    let so_far = c.loop-number.invariant in
    elim c.if-number-constructor.branch [
      | then-number-constructor+in-Ok+in_ok-push-in-Ok w ↦
          let parts : CodeParts = w.index-codes-number.result in
          let one : Found = record { number = n; code = w.in-Ok.code; calls = w.in-Ok.calls } in
          let good : IsGoodCode v parts.code w.in-Ok.code = subst (λ (x : ClassView). IsGoodCode x parts.code w.in-Ok.code) c.requires.view (subst (λ (b : List ℕ). IsGoodCode c.args.view.now b w.in-Ok.code) (w.as_slice.ensures ∙ ap (λ (x : CodeParts). x.code) (sym w.index-codes-number.is)) w.in-Ok.ensures.code) in
          let calls : AreCallsOf v w.in-Ok.code w.in-Ok.calls.items = subst (λ (x : ClassView). AreCallsOf x w.in-Ok.code w.in-Ok.calls.items) c.requires.view w.in-Ok.ensures.calls in
          let there = slice_get-get_or codes n parts c.loop-number-test.true ∙ ap (λ (x : CodeParts). Some x) (sym w.index-codes-number.is) in
          rw w.found-is (rw w.in_ok-push-in-Ok.ensures.items (next_numbered (λ (f : Found). f.number) (IsFoundIn v codes) constructor n c.loop-number.found.items one so_far w.if-number-constructor.true refl (record { parts = parts; there = there; good = good; calls = calls })))
      | else-number-constructor w ↦ rw w.found-is (skip_numbered (λ (f : Found). f.number) (IsFoundIn v codes) constructor n c.loop-number.found.items so_far (search rules))
    ]

pub returns-in-Err-clause-err : goal.returns-in-Err-clause-err
returns-in-Err-clause-err c =
    let pool = c.args.class.now.pool in
    let p = c.args.class.now.parts in
    let v : ClassView = view_of pool p in
    let codes : List CodeParts = c.args.codes.now in
    let n : ℕ = c.loop-number.number in
    let parts : CodeParts = c.index-codes-number.result in
    let f : Fault = c.in-Err.fault in
    let there = slice_get-get_or codes n parts c.loop-number-test.true ∙ ap (λ (x : CodeParts). Some x) (sym c.index-codes-number.is) in
    let bytes = c.as_slice.ensures ∙ ap (λ (x : CodeParts). x.code) (sym c.index-codes-number.is) in
    let stands : (f.refusal ≡ NoMemory) ⊎ InstructionStandsAt Third v parts.code f.place f.refusal = subst (λ (x : ClassView). (f.refusal ≡ NoMemory) ⊎ InstructionStandsAt Third x parts.code f.place f.refusal) c.requires.view (subst (λ (b : List ℕ). (f.refusal ≡ NoMemory) ⊎ InstructionStandsAt Third c.args.view.now b f.place f.refusal) bytes c.in-Err.ensures.err) in
    instruction_located pool p c.args.constructor codes c.requires.shape n parts there c.if-number-constructor.true f stands c.located.result c.located.ensures.refusal c.located.ensures.spot
