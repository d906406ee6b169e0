use Rattle.std.proofs.Common.{◌≡◌, Some, sym, ◌∙◌, subst, w64}
use Rattle.std.proofs.lemmas.Int.{to_z-of_z}
use Rattle.embedded.specs.Classes.{Classes, class_at}
use Rattle.embedded.proofs.Lookups.{class_there}
use Rattle.embedded.proofs.engine.Engine.invoke.Goals as goal

pub returns-clause-meant : goal.returns-clause-meant
returns-clause-meant c =
    let n = c.args.number in
    let class = c.in_ok-class.class.now in
    let list = c.deref.result.now in
    let lookup = c.in_ok-get.ensures.lookup in
    let same : list ≡ c.args.self.now = c.deref.ensures.value ∙ c.self.view_is in
    let at : class_at list n ≡ Some class = class_there list n c.in_ok-get.field-0.now lookup.3.0 lookup.1 ∙ sym c.in_ok-class.ensures.value in
    (class, subst (λ (classes : Classes). class_at classes n ≡ Some class) same at, rw (to_z-of_z w64 c.args.key c.ranges.key) at c.run.ensures.meant)
