use Rattle.std.proofs.Common.{◌≡◌, List, Option, Some, None, sym, subst}
use Rattle.boxcar.specs.Table.{Where}
use Rattle.typecheck.specs.Typing.{Class}
use Rattle.wire.specs.Requests.{Forget}
use Rattle.wire.specs.declared.reply.Reply.TheVariants as reply
use Rattle.serve.specs.Classes.{Classes, class_at}
use Rattle.serve.specs.Rounds.{Adds, told, forgets, forgets_none}
use Rattle.serve.specs.Kept.{classes_of}
use Rattle.serve.proofs.Numbered.{class_forgotten}
use Rattle.serve.proofs.classes.forget.Goals as goal

pub returns-then-not-has_class-clause-adds : goal.returns-then-not-has_class-clause-adds
returns-then-not-has_class-clause-adds c at =
    forgets_none c.args.class (subst (λ (l : List (Option (Where Class))). class_at (classes_of l) c.args.class ≡ None) c.as_slice.ensures.value (c.has_class.ensures.no c.if-not-has_class.true))

pub returns-clause-adds : goal.returns-clause-adds
returns-clause-adds c at =
    let ids = c.args.ids.now.items in
    let n = c.args.class in
    let (inside, (k, is)) = c.has_class.ensures.yes c.if-not-has_class.false in
    subst (λ (l : Classes). Adds (classes_of ids) at (Forget n) (told reply.Done) l) (sym (class_forgotten ids n))
    (forgets n k (subst (λ (l : List (Option (Where Class))). class_at (classes_of l) n ≡ Some k) c.as_slice.ensures.value is))
