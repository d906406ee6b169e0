use Rattle.std.proofs.Common.{◌≡◌, ◌<◌, ◌∙◌, length, arith, sym}
use Rattle.serve.proofs.Numbered.{class_there, class_past, some_class, no_class}
use Rattle.serve.proofs.classes.has_class.Goals as goal

pub returns-then-class-ids-clause-yes : goal.returns-then-class-ids-clause-yes
returns-then-class-ids-clause-yes c e =
    let inside : c.args.class < length c.args.ids.now = omega (arith, c.if-class-ids.true) in
    let (x, is) = some_class c.index-ids-class.result (sym c.is_some.ensures ∙ e) in
    (inside, (x, class_there c.args.ids.now c.args.class c.index-ids-class.result inside c.index-ids-class.is ∙ is))

pub returns-then-class-ids-clause-no : goal.returns-then-class-ids-clause-no
returns-then-class-ids-clause-no c e =
    let inside : c.args.class < length c.args.ids.now = omega (arith, c.if-class-ids.true) in
    class_there c.args.ids.now c.args.class c.index-ids-class.result inside c.index-ids-class.is ∙ no_class c.index-ids-class.result (sym c.is_some.ensures ∙ e)

pub returns-else-class-ids-clause-no : goal.returns-else-class-ids-clause-no
returns-else-class-ids-clause-no c e = class_past c.args.ids.now c.args.class (omega (arith, c.if-class-ids.false))
