use Rattle.std.proofs.Common.{sym, ◌∙◌}
use Rattle.std.proofs.lemmas.List.{map-append}
use Rattle.classfile.proofs.Contents.{named_goes_on, other_goes_on, is_done}
use Rattle.classfile.proofs.code.contents_named.Goals as goal
use Rattle.classfile.proofs.code.contents_named.Goals.{then-is_named+in_ok-push, else-is_named}

pub loop-attribute-preserved : goal.loop-attribute-preserved
loop-attribute-preserved c = elim c.if-is_named.branch [
  | then-is_named+in_ok-push w ↦ rw (w.contents-is, w.in_ok-push.ensures.items, map-append, w.as_slice.ensures) (named_goes_on c.args.pool.now c.args.name.now c.args.attributes.now c.loop-attribute.attribute-index c.attribute-item.result _ _ c.loop-attribute-test.true c.attribute-item.is (sym c.is_named.ensures ∙ w.if-is_named.true) c.loop-attribute.invariant)
  | else-is_named w ↦ rw w.contents-is (other_goes_on c.args.pool.now c.args.name.now c.args.attributes.now c.loop-attribute.attribute-index c.attribute-item.result _ _ c.loop-attribute-test.true c.attribute-item.is (sym c.is_named.ensures ∙ w.if-is_named.false) c.loop-attribute.invariant)
]

pub returns : goal.returns
returns c = is_done c.args.pool.now c.args.name.now c.args.attributes.now c.loop-attribute.attribute-index _ _ c.loop-attribute-test.false c.loop-attribute.invariant
