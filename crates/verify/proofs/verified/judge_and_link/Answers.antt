use Rattle.std.proofs.Common.{sym, subst}
use Rattle.typecheck.specs.Typing.{Class}
use Rattle.bounds.specs.Limits.{IsWithinLimits}
use Rattle.bounds.specs.Paths.{AreBounds}
use Rattle.bounds.specs.Rows.{bounds_in}
use Rattle.verify.proofs.ClassOfBytes.{the_class, is_class, laid_as, has_process}
use Rattle.verify.proofs.Widths.{can_link_all}
use Rattle.jtypes.specs.Profile.{Third}
use Rattle.verify.proofs.verified.judge_and_link.Goals as goal

pub link-requires-clause-rows : goal.link-requires-clause-rows
link-requires-clause-rows c =
    let bytes = c.args.bytes.now in
    let h = c.in_ok-judged.ensures in
    let k = h.class.0 in
    let of = h.class.1 in
    let ranks = c.accepted_is_ordered.ensures bytes k h.accepted of in
    let checked = c.accepted_is_checked.ensures bytes k ranks.0 h.accepted of ranks.1 in
    can_link_all bytes k c.in_ok-judged.judged h.accepted of (h.judged k of) checked

pub link-requires-clause-process : goal.link-requires-clause-process
link-requires-clause-process c =
    let bytes = c.args.bytes.now in
    let h = c.in_ok-judged.ensures in
    let k = h.class.0 in
    let of = h.class.1 in
    let found = c.accepted_has_bounds.ensures.bounds bytes k h.accepted of in
    has_process k c.in_ok-judged.judged found.0 (h.judged k of) found.2

pub invariant_of-result : goal.invariant_of-result
invariant_of-result c =
    let bytes = c.args.bytes.now in
    let h = c.in_ok-judged.ensures in
    let file = c.into_file.result in
    let laid = laid_as bytes c.in_ok-judged.judged.pool file.pool c.in_ok-judged.judged.parts file.parts c.into_file.ensures.pool c.into_file.ensures.parts h.found in
    (the_class bytes h.class.0 file.pool file.parts h.class.1 laid, tt)

pub invariant_of-result-2 : goal.invariant_of-result-2
invariant_of-result-2 c =
    let bytes = c.args.bytes.now in
    let h = c.in_ok-judged.ensures in
    let file = c.into_file.result in
    let laid = laid_as bytes c.in_ok-judged.judged.pool file.pool c.in_ok-judged.judged.parts file.parts c.into_file.ensures.pool c.into_file.ensures.parts h.found in
    let k : Class = c.result-1.given.0.0 in
    let of = is_class bytes h.class.0 file.pool file.parts h.class.1 laid c.result-1.given.0 in
    let ranks = c.accepted_is_ordered.ensures bytes k h.accepted of in
    let checked = c.accepted_is_checked.ensures bytes k ranks.0 h.accepted of ranks.1 in
    let linked = c.in-Ok.ensures.linked k (h.judged k of) checked in
    let same = c.bounds-bounds.ensures in
    record {
      bytes = bytes;
      accepted = h.accepted;
      class = of;
      bounds = λ j is. subst (λ b. AreBounds k j (bounds_in b)) (sym same) (h.bounds k j of is);
      within = subst (IsWithinLimits Third) (sym same) h.limits;
      code = linked.0;
      entry = linked.1;
    }

pub returns-clause-class : goal.returns-clause-class
returns-clause-class c =
    let bytes = c.args.bytes.now in
    let h = c.in_ok-judged.ensures in
    let file = c.into_file.result in
    let laid = laid_as bytes c.in_ok-judged.judged.pool file.pool c.in_ok-judged.judged.parts file.parts c.into_file.ensures.pool c.into_file.ensures.parts h.found in
    is_class bytes h.class.0 file.pool file.parts h.class.1 laid c.result-1.given.0
