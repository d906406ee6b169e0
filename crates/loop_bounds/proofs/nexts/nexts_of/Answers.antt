use Rattle.std.proofs.Common.{◌≡◌, ℕ, List, [], ◌++◌, length, get_or, map, Option, Some, ap, sym, ◌∙◌, subst, arith, vec_len}
use Rattle.std.specs.Prelude.{slice_get, option_copied, MatchOption, Vec}
use Rattle.std.specs.declared.alloc.Global.{Global}
use Rattle.std.proofs.lemmas.List.{length-map}
use Rattle.std.proofs.lemmas.Option.{slice_get-get_or}
use Rattle.decode.specs.Places.{is_return}
use Rattle.frames.specs.declared.members.Callee.{Callee}
use Rattle.typecheck.specs.Typing.{Class, own_of, call_of}
use Rattle.typecheck.specs.Calls.{AreRising, callee_in}
use Rattle.typecheck.specs.declared.typed.Typed.{Typed}
use Rattle.unrolled.specs.Graph.{Node, successors}
use Rattle.unrolled.specs.Rules.{rules_of}
use Rattle.unrolled.specs.Certificates.{Point}
use Rattle.search.specs.declared.node.Node as plain_node
use Rattle.search.specs.declared.point.Point as plain_point
use Rattle.search.specs.Seen.{node_seen, following_seen}
use Rattle.loop_bounds.specs.Methods.{AreMethodsOf, HasNumber, HasNumberIf, LacksNumber}
use Rattle.loop_bounds.specs.Nexts.{at_node, own_start}
use Rattle.loop_bounds.specs.Found.{points_seen, EachHasMethod}
use Rattle.loop_bounds.proofs.Lists.{at_any, read_is, nothing_left}
use Rattle.loop_bounds.proofs.Rules.{by_call}
use Rattle.loop_bounds.proofs.Starting.{no_edge, resolved, listed_after, ends, goes_on, lacks_none, all_have}
use Rattle.loop_bounds.proofs.nexts.nexts_of.Goals as goal

-- the method that the call resolves to, by what its binary search ensures
called_there : (d : Class) (rows : List Typed) (i : ℕ) (row t : Typed) (o : Option Callee) (place : ℕ) → AreMethodsOf d rows → slice_get rows i ≡ Some row → t ≡ row
    → (AreRising t.calls.items → o ≡ callee_in t.calls.items place) → o ≡ callee_in row.calls.items place
called_there d rows i row t o place are r same h = subst (λ (z : Typed). AreRising z.calls.items → o ≡ callee_in z.calls.items place) same h (are.each i row r).calls.rising

none_after : (ys : List plain_node.Node) (l : List Node) → map node_seen ys ≡ l → l ≡ [] → length ys ≡ 0
none_after ys l e none = let a = ap length (e ∙ none) in let b = length-map ys node_seen in omega (arith, a, b)

pub returns-then-is_end-clause-answer : goal.returns-then-is_end-clause-answer
returns-then-is_end-clause-answer c d row are follow r at =
    let rows = c.args.methods.now in
    let size = c.requires.size in
    let within = c.requires.within in
    let here : slice_get rows c.args.i ≡ Some c.index-methods-i.result = read_is rows c.args.i c.index-methods-i.result within c.index-methods-i.is in
    let same : c.index-methods-i.result ≡ row = cc (here, r) in
    let f = c.index-fs-i.result in
    let g : slice_get c.args.fs.now c.args.i ≡ Some f = read_is c.args.fs.now c.args.i c.index-fs-i.result (omega (arith, size, within)) c.index-fs-i.is in
    let p = c.args.p.now in
    let x = node_seen c.args.x.now in
    let found = called_there d rows c.args.i row c.index-methods-i.result (option_copied c.callee-callee.result) c.args.x.now.place are r same c.callee-callee.ensures in
    let call = resolved d rows c.args.fs.now c.args.i row f p x are follow r g at (option_copied c.callee-callee.result) found in
    let after = c.in_ok-ys.ensures d.view ((by_call d.view p.instruction).is (option_copied c.callee-callee.result) call) in
    let both = ends (is_return p.instruction) c.is_end.result c.len.result c.is_end.ensures c.if-is_end.true in
    let count : vec_len c.in_ok-ys.ys ≡ length c.in_ok-ys.ys.items = omega arith in
    let none : c.in_ok-ys.ys.items ≡ [] = nothing_left c.in_ok-ys.ys.items c.len.result (c.len.ensures ∙ count) both.1 in
    no_edge d rows c.args.fs.now c.args.i row f p x are follow r g at (sym after ∙ ap (λ (l : List plain_node.Node). map node_seen l) none) both.0

pub returns-in-None-clause-answer : goal.returns-in-None-clause-answer
returns-in-None-clause-answer c d row are follow r at =
    let rows = c.args.methods.now in
    let within = c.requires.within in
    let here : slice_get rows c.args.i ≡ Some c.index-methods-i.result = read_is rows c.args.i c.index-methods-i.result within c.index-methods-i.is in
    let same : c.index-methods-i.result ≡ row = cc (here, r) in
    let o = option_copied c.callee-callee.result in
    let found = called_there d rows c.args.i row c.index-methods-i.result o c.args.x.now.place are r same c.callee-callee.ensures in
    let lacks : LacksNumber rows (own_of o) =
    subst (λ (q : Option (Vec plain_point.Point Global)). MatchOption q (LacksNumber rows (own_of o)) (λ to. HasNumberIf rows (own_of o))) c.in-None.is c.in_ok-callee_start.ensures.none in
    absurd (lacks_none rows (own_of o) (λ k e. are.own c.args.i row c.args.x.now.place k r (ap own_of (sym found) ∙ e)) lacks)

pub returns-in_ok-all-in-Some-clause-answer : goal.returns-in_ok-all-in-Some-clause-answer
returns-in_ok-all-in-Some-clause-answer c d row are follow r at =
    let rows = c.args.methods.now in
    let size = c.requires.size in
    let within = c.requires.within in
    let here : slice_get rows c.args.i ≡ Some c.index-methods-i.result = read_is rows c.args.i c.index-methods-i.result within c.index-methods-i.is in
    let there : slice_get rows c.args.i ≡ Some (get_or rows c.args.i c.index-methods-i-in-Some.result) = slice_get-get_or rows c.args.i c.index-methods-i-in-Some.result within in
    let same : c.index-methods-i.result ≡ row = cc (here, r) in
    let also : get_or rows c.args.i c.index-methods-i-in-Some.result ≡ row = cc (there, r) in
    let f = c.index-fs-i.result in
    let g : slice_get c.args.fs.now c.args.i ≡ Some f = read_is c.args.fs.now c.args.i c.index-fs-i.result (omega (arith, size, within)) c.index-fs-i.is in
    let p = c.args.p.now in
    let x = node_seen c.args.x.now in
    let o = option_copied c.callee-callee.result in
    let ys = c.in_ok-ys.ys.items in
    let found = called_there d rows c.args.i row c.index-methods-i.result o c.args.x.now.place are r same c.callee-callee.ensures in
    let call = resolved d rows c.args.fs.now c.args.i row f p x are follow r g at o found in
    let after : map node_seen ys ≡ successors d.view (following_seen f) p x = c.in_ok-ys.ensures d.view ((by_call d.view p.instruction).is o call) in
    let count : vec_len c.in_ok-ys.ys ≡ length ys = omega arith in
    let start = points_seen c.in-Some.to.items in
    let first : start ≡ own_start d (rules_of d) p x (call_of d.view p.instruction) =
    subst (λ (q : Option (Vec plain_point.Point Global)). MatchOption q (Unit {0}) (λ to. points_seen to.items ≡ own_start d (rules_of d) p x (call_of d.view p.instruction))) c.in-Some.is
    (c.in_ok-callee_start.ensures.start d p are follow call) in
    let has : HasNumberIf rows (own_of o) =
    subst (λ (q : Option (Vec plain_point.Point Global)). MatchOption q (LacksNumber rows (own_of o)) (λ to. HasNumberIf rows (own_of o))) c.in-Some.is c.in_ok-callee_start.ensures.none in
    let all = c.in_ok-all-in-Some.ensures ∙ ap (λ (t : Typed). start ++ map (at_node t.number) (map node_seen ys)) also ∙ ap (λ (l : List Node). start ++ map (at_node row.number) l) after in
    listed_after d rows c.args.fs.now c.args.i row f p x are follow r g at start _
    (λ e none. goes_on (is_return p.instruction) c.is_end.result c.len.result c.is_end.ensures c.if-is_end.false e (c.len.ensures ∙ count ∙ none_after ys _ after none))
    (subst (λ (q : Option Callee). HasNumberIf rows (own_of q)) call has) first all

pub returns-in_ok-all-in-Some-clause-methods : goal.returns-in_ok-all-in-Some-clause-methods
returns-in_ok-all-in-Some-clause-methods c =
    let rows = c.args.methods.now in
    let row = get_or rows c.args.i c.index-methods-i-in-Some.result in
    let has : HasNumber rows row.number = (c.args.i, c.requires.within, λ d. ap (λ (t : Typed). t.number) (at_any rows c.args.i d c.index-methods-i-in-Some.result c.requires.within)) in
    let first : EachHasMethod rows (points_seen c.in-Some.to.items) =
    subst (λ (q : Option (Vec plain_point.Point Global)). MatchOption q (Unit {0}) (λ to. EachHasMethod rows (points_seen to.items))) c.in-Some.is c.in_ok-callee_start.ensures.methods in
    subst (λ (l : List Point). EachHasMethod rows l) (sym c.in_ok-all-in-Some.ensures) (all_have rows row.number (points_seen c.in-Some.to.items) (map node_seen c.in_ok-ys.ys.items) has first)
