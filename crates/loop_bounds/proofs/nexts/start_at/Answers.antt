use Rattle.std.proofs.Common.{◌≡◌, Some, get_or, ap, sym, ◌∙◌, arith}
use Rattle.std.specs.Prelude.{slice_get}
use Rattle.std.proofs.lemmas.Option.{slice_get-get_or}
use Rattle.typecheck.specs.declared.typed.Typed.{Typed}
use Rattle.search.specs.Seen.{operands_seen, node_seen}
use Rattle.loop_bounds.specs.Nexts.{at_node}
use Rattle.loop_bounds.proofs.Lists.{at_any, read_is}
use Rattle.loop_bounds.proofs.Starting.{started, size_of}
use Rattle.loop_bounds.proofs.nexts.start_at.Goals as goal

pub returns-clause-method : goal.returns-clause-method
returns-clause-method c = (c.args.i, c.requires.within, λ d. ap (λ (t : Typed). t.number) (at_any c.args.methods.now c.args.i d c.index-methods-i-2.result c.requires.within))

pub returns-clause-start : goal.returns-clause-start
returns-clause-start c d row m are follow at method =
    let rows = c.args.methods.now in
    let size = c.requires.size in
    let within = c.requires.within in
    let here : slice_get rows c.args.i ≡ Some (get_or rows c.args.i c.index-methods-i.result) = slice_get-get_or rows c.args.i c.index-methods-i.result within in
    let there : slice_get rows c.args.i ≡ Some (get_or rows c.args.i c.index-methods-i-2.result) = slice_get-get_or rows c.args.i c.index-methods-i-2.result within in
    let f = read_is c.args.fs.now c.args.i c.index-fs-i.result (omega (arith, size, within)) c.index-fs-i.is in
    let same : get_or rows c.args.i c.index-methods-i.result ≡ row = cc (here, at) in
    let also : get_or rows c.args.i c.index-methods-i-2.result ≡ row = cc (there, at) in
    let locals : m.environment.max_locals ≡ (get_or rows c.args.i c.index-methods-i.result).environment.max_locals = size_of d rows c.args.i row m are at method ∙ ap (λ (t : Typed). t.environment.max_locals) (sym same) in
    ap (λ (t : Typed). at_node t.number (node_seen c.in_ok-node.node)) also
    ∙ started d rows c.args.fs.now c.args.i row c.index-fs-i.result m (node_seen c.in_ok-node.node) (operands_seen c.args.arguments.now) are follow at f (c.in_ok-node.ensures m locals)
