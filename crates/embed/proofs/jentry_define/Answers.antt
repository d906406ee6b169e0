use Rattle.std.proofs.Common.{◌≡◌, ℕ, List, Option, Some, rules, sym, subst}
use Rattle.embedded.specs.declared.numbers.VerdictNumbers.{VerdictNumbers}
use Rattle.embedded.specs.Answers.{IsVerdict}
use Rattle.embedded.specs.Classes.{Classes}
use Rattle.embed.specs.Exports.{engine_of, IsJudged}
use Rattle.embed.proofs.jentry_define.Goals as goal

-- The verdict of the engine that the handle has before and after the call.
judged : (old new : Option Classes) (before after : Classes) (bytes : List ℕ) (verdict : VerdictNumbers) → old ≡ Some before → new ≡ Some after → IsVerdict bytes before verdict after → IsJudged old bytes verdict new
judged old new before after bytes verdict had has is = subst (λ (o : Option Classes). IsJudged o bytes verdict new) (sym had) (after, has, is)

pub returns-in-Some-clause-judged : goal.returns-in-Some-clause-judged
returns-in-Some-clause-judged c =
    let had : engine_of c.args.handle.now ≡ Some c.in-Some.engine.value = c.in-Some.ensures.some in
    let has : engine_of c.put.new.self ≡ Some c.define.new.engine = search (rules, c.put.ensures, c.deref_mut.ensures.writes_back) in
    let is : IsVerdict c.args.bytes.now c.in-Some.engine.value c.define.result c.define.new.engine = rw c.deref_mut.ensures.value at c.define.ensures.verdict in
    judged (engine_of c.args.handle.now) (engine_of c.put.new.self) c.in-Some.engine.value c.define.new.engine c.args.bytes.now c.define.result had has is
