use Rattle.std.proofs.Common.{sym, ◌∙◌, refl, inr}
use Rattle.verdict.proofs.Constructor.{item_at, no_code, wrong_type, wrong_code, the_constructor}
use Rattle.verdict.proofs.shape.judge_constructors.Goals as goal

pub returns-in_default-get-2 : goal.returns-in_default-get-2
returns-in_default-get-2 c =
    let at = rw c.as_slice-methods.ensures at (item_at _ _ _ c.in-Some-get.ensures.lookup.3) in
    absurd (no_code c.args.class.now.pool c.args.class.now.parts c.args.codes.now c.in-Some.number _ c.requires at c.in_default-get-2.ensures.lookup.3)

pub returns-then-not-has_constructor_type : goal.returns-then-not-has_constructor_type
returns-then-not-has_constructor_type c =
    let at = rw c.as_slice-methods.ensures at (item_at _ _ _ c.in-Some-get.ensures.lookup.3) in
    let one = rw c.as_slice-methods.ensures at c.in-Some.ensures in
    inr (refl, wrong_type c.args.class.now.pool c.args.class.now.parts c.in-Some.number _ one at (sym c.has_constructor_type.ensures ∙ c.if-not-has_constructor_type.true))

pub returns-then-not-branch : goal.returns-then-not-branch
returns-then-not-branch c =
    let at = rw c.as_slice-methods.ensures at (item_at _ _ _ c.in-Some-get.ensures.lookup.3) in
    let one = rw c.as_slice-methods.ensures at c.in-Some.ensures in
    let here = item_at _ _ _ c.in-Some-get-2.ensures.lookup.3 in
    inr (refl, wrong_code c.args.class.now.pool c.args.class.now.parts c.args.codes.now c.in-Some.number _ _ one at c.requires here (sym c.in_ok-has_constructor_code.ensures ∙ c.if-not-branch.true))

pub returns : goal.returns
returns c =
    let at = rw c.as_slice-methods.ensures at (item_at _ _ _ c.in-Some-get.ensures.lookup.3) in
    let one = rw c.as_slice-methods.ensures at c.in-Some.ensures in
    let here = item_at _ _ _ c.in-Some-get-2.ensures.lookup.3 in
    the_constructor c.args.class.now.pool c.args.class.now.parts c.args.codes.now c.in-Some.number _ _ one at c.requires here (sym c.has_constructor_type.ensures ∙ c.if-not-has_constructor_type.false) (sym c.in_ok-has_constructor_code.ensures ∙ c.if-not-branch.false)
