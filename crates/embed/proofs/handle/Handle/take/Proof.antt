-- `take` closes the handle, and makes a box of the block that it owned.
use Rattle.std.proofs.Common.{List, [], ◌∷◌, ◌++◌, refl, sym, ap, ◌∙◌, subst, Bool, true, false, ◌≡◌, Some}
use lib.Dec.{T}
use base.Fml.{ftrue, flft}
use base.Fraction.{full_share}
use base.Logic.{SProp, ent, emp, id⊢, never, fst∗}
use contract.BorrowLft.{◌⊑◌, ⊑_static}
use contract.Monad.{fact, fact_i}
use contract.Running.{tables}
use denote.Laws.{shows}
use denote.Memory.{cell_at}
use denote.Param.NoDrop as no_drops
use denote.RattleType.{owns}
use denote.RawPtr.{Ptr, block_ptr, null_ptr, in_a_block}
use denote.Ref.{mut_vals}
use denote.Signature.{plain, types_at}
use denote.Steps.{nothing, only, opens, closes, peeks, heard}
use denote.Triple.Call.{calls_at_last}
use denote.Triple.Clauses.{Lasts, lasts}
use denote.Triple.Spec.{triple_of}
use denote.Triple.Table.{framed}
use denote.Triple.Walked.{Stays, walk_of, stay_ref, Goes-ref, stay_dropped, ends_at}
use mir.Raw.{raw as bare}
use mir.Val.{Val, vptr, vbool, has_ty, WT}
use prog.Wp.{WpFn}
use types.ByLocal.{alloc_all, pass_all, free_all, look_at, get, through, sets, lands_last, is, env}
use types.Kit.{Item, ‵, raw, ◌⊛◌, some, later, at_ret, ◌$◌, ◌∵◌, !, qed, done, move, keep, drop, use0, use1, split, split3, join, fsplit, fsplit3, fjoin3, feq_l, feq_i, pick, await, rewrite, suffices, frame, group}
use types.Logic.{sem}
use types.Part.{sub, whole, look_in, store_in}
use types.Run.{enter, of_opd, false_lit, load, stop, fld, no_more, and_then, first, blocks, exec, assigns, returns}
use types.Tokens.{lft_new}
use Rattle.std.proofs.alloc.Calls.{token, handle_tells, Goes-blank}
use Rattle.std.proofs.alloc.Shapes.{after}
use Rattle.std.proofs.mem.Facts.{says_two}
use Rattle.std.proofs.raw_atomic.Walks.{proved_at}
use Rattle.std.proofs.impls.GlobalAllocator.TheImpl.Met as heap_met
use Rattle.std.specs.Box.Ownership.{box_owns}
use Rattle.std.specs.contracts.alloc.Global as global
use Rattle.std.proofs.BoxSteps.Form.{τ, word, box_ty, box_typed}
use Rattle.std.proofs.BoxSteps.Steps.{box_out, box_in}
use Rattle.std.specs.contracts.boxed.Box.from_raw as makes
use Rattle.std.proofs.boxed.Box.from_raw.Met.{met}
use Rattle.embed.specs.Exports.{engine_where}
use Rattle.embed.specs.Held.{held}
use Rattle.embed.specs.contracts.handle.Handle.{the_row as R}
use Rattle.embed.proofs.handle.Handle.TheLaws.{lowers}
use Rattle.embed.proofs.Parts.{boxed, Row, two, handle_in}
use Rattle.embed.specs.contracts.handle.Handle.take as f
use Rattle.embed.proofs.handle.Handle.take.Statement.{statement}
use Rattle.embed.proofs.handle.Handle.take.Code as code

abbrev stayed : Stays f.ended.signature.params f.ended.kept
stayed = (stay_ref (0 ∷ []) tt (plain (λ _. R)), (stay_dropped (plain (λ _. global.the_row)) f.ended.kept.1.0, tt))

pub take_spec : {M : Type 1} → statement M
unfolding Rattle.embed.proofs.Destruct++none.drop.Code.code
take_spec {M} 𝓤 𝓛 𝓜 𝓡 wired =
    let H = 𝓛.H in let c = f.clauses 𝓛 𝓜.mem 𝓡.returns in let W = walk_of 𝓛 f.ended stayed c in let 𝓣 = tables 𝓤 H 𝓜 𝓡 𝓡.env in
    let al = boxed.al in let E = boxed.row in let Z = al.row in
    let Makes = triple_of 𝓛 (makes.signature E Z al.g al.d al.drops) (makes.spec E Z al.g al.d al.drops 𝓛 𝓜.mem 𝓡.returns) in let ended = makes.ended E Z al.g al.d al.drops in
    let known = met 𝓤 𝓛 𝓜 𝓡 (code.calls-std_alloc::boxed::Box::from_raw 𝓡.env wired) E Z boxed.laws al.laws al.g al.d al.drops
    (heap_met.passed 𝓡.env (code.calls-std_heap::GlobalAllocator::allocate 𝓡.env wired) (code.calls-std_heap::GlobalAllocator::deallocate 𝓡.env wired)
    (code.calls-std_heap::GlobalAllocator::grow 𝓡.env wired) (code.calls-std_heap::GlobalAllocator::shrink 𝓡.env wired) M 𝓤 𝓛 𝓜 𝓡)
    (no_drops.glues "embed::Destruct++none::drop" 𝓡.env (code.calls-embed::Destruct++none::drop 𝓡.env wired) Z al.laws M 𝓤 𝓛 𝓜 𝓡) in
    proved_at 𝓛 f.ended stayed c 𝓜 𝓡 (Goes-ref 𝓛 1 0 tt (plain (λ _. R)), (Goes-blank 𝓛 1 (plain (λ _. Z)) f.ended.kept.1.0 (λ κs x w. tt), tt))
    f.Key.name code.function (code.unfolded 𝓤 H 𝓜 𝓡 wired) (λ z are.
    let κs = z.0.0 in let qs = z.0.1 in let s = z.0.3.0 in let a = z.0.3.1.0 in let b = s.ref_ptr.0 in let o = s.ref_ptr.1 in let h = s.now in
    let Run : List Val → SProp 𝓤 = λ ws. WpFn 𝓤 H 𝓣.C 𝓣.Λ code.function ws (W.post z) in
    qed 𝓛 (((‵ (flft κs.0 qs.0) ⊛ ‵ ftrue) ⊛ ‵ (owns (types_at f.signature.params κs) z.0.3 z.0.4)) ∷ raw ((c κs z.0.3).requires z.1) ∷ []) ∵
    move ! (1 ∷ []) $ heard ! (h.is_open ≡ true) (λ ok.
    split ! $ move ! (1 ∷ []) $ fsplit ! $ move ! (1 ∷ []) $ fsplit ! $ handle_tells al ! a z.0.4.1.0 (λ hv ws fits.
    -- [the allocator; nothing; self; the tokens]
    move ! (2 ∷ 3 ∷ []) $ fsplit3 ! $ feq_l ! (λ ev. move ! (2 ∷ []) $ split ! $ keep ! (2 ∷ 3 ∷ 0 ∷ 4 ∷ []) $
    -- [two parts of self; the token; the allocator]
    let all : List Val = mut_vals s ++ (hv ∷ []) in
    suffices ! (Run all) (subst (λ (us : List Val). ent 𝓤 (Run all) (Run us)) (sym (λ i. ev i ++ (ws i ++ []))) (id⊢ 𝓤 (Run all))) $
    enter ! 𝓣.C 𝓣.Λ code.function all (W.post z) $ alloc_all ! (λ l. pass_all ! refl ((tt, tt), (fits, tt)) $ let Ev = env code.function.locals l in
    opens ! tt R b o (λ us. move ! (1 ∷ []) $ peeks ! R _ (shows 𝓛 R) h us (λ are_fields. fsplit ! $ drop ! $
    rewrite ! 0 (λ (t : Bool). ‵ (held t h.at h.engine)) ok refl $
    in_a_block ! h.at (λ q. box_owns (token al a) E q h.engine) (fst∗ 𝓤 (never 𝓤) (sem 𝓛 (token al a (bare (τ boxed)) null_ptr))) (λ p n at.
    let is_word = lowers.val_is h us are_fields ∙ ap (λ (q : Ptr). lowers.lowered (record h { at = q }) ∷ []) at in
    -- [the engine's block; the handle's cell; the open borrow, in three entries; the allocator]
    rewrite ! 1 (λ (xs : List Val). ‵ (cell_at full_share R.mir xs b o)) is_word refl $
    assigns ! (of_opd ! (false_lit !)) (through ! refl (fld ! refl (stop !))) (store_in ! 1 (sub ! 1 refl (whole !)) (tt, tt)) $
    sets ! (of_opd ! (load ! (through ! refl (fld ! refl (stop !))) (look_in ! 1 (sub ! 0 refl (whole !))))) refl (tt, tt) $ sets ! (of_opd ! (get ! refl)) refl (tt, tt) $
    let new = record h { at = block_ptr p n; is_open = false } in
    nothing ! $ handle_in ! p n false h.engine $ move ! (2 ∷ 0 ∷ 3 ∷ 4 ∷ 5 ∷ []) $ closes ! tt R new (two (vptr p n) (vbool false) ∷ []) b o $
    -- [two parts of self; the token; the engine's block; the allocator]
    first ! $ blocks ! $
    lft_new ! tt (λ α. lft_new ! tt (λ β. let t₁ : Item 𝓤 = ‵ (flft (α ∷ []) full_share) in let t₂ : Item 𝓤 = ‵ (flft (β ∷ []) full_share) in
    let inE = (α ∷ []) ⊑ E.lives in let inZ = (β ∷ []) ⊑ Z.lives in
    let y : Makes.Ghost = (((α ∷ [], (β ∷ [], tt)), (full_share, (full_share, tt)), tt, (a, (block_ptr p n, tt)), (hv ∷ [], (vptr p n ∷ [], tt))), h.engine) in
    move ! (5 ∷ []) $ use0 𝓛 (raw (fact 𝓤 inZ)) (fact_i 𝓤 inZ (emp 𝓤) (⊑_static (β ∷ []))) $ join ! $ use0 𝓛 (raw (fact 𝓤 inE)) (fact_i 𝓤 inE (emp 𝓤) (⊑_static (α ∷ []))) $ join ! $
    -- [the precondition of the call; the tokens of β and α; two parts of self; the token; the allocator]
    nothing ! $ feq_i ! (List Val) (vptr p n ∷ []) (vptr p n ∷ []) refl $ move ! (8 ∷ 0 ∷ 1 ∷ []) $ fjoin3 ! $
    nothing ! $ move ! (3 ∷ 0 ∷ []) $ join ! $ move ! (3 ∷ 0 ∷ []) $ join ! $ join ! $ join ! $ use1 𝓛 (raw (Makes.pre y)) (id⊢ 𝓤 _) $
    calls_at_last ! (framed 𝓤 H 𝓜 𝓣) Makes known y (and_then ! (get ! refl) (and_then ! (get ! refl) (no_more !))) (λ u.
    use1 𝓛 (later (some (λ (r : Row.Denot). ((t₁ ⊛ t₂ ⊛ ‵ ftrue) ⊛ ‵ (Row.own_val r (u ∷ []))) ⊛ some (λ (ls : Lasts ended y.0.0 y.0.3).
    ‵ (lasts ended y.0.0 y.0.3 ls) ⊛ (raw (fact 𝓤 (r.value ≡ h.engine)) ⊛ raw (fact 𝓤 (r.alloc ≡ a))))))) (id⊢ 𝓤 _) $
    await ! tt $ pick ! (λ r. split ! $ move ! (1 ∷ []) $ pick ! (λ _. split3 ! $ drop ! $ move ! (1 ∷ []) $ drop ! $ heard ! (r.value ≡ h.engine) (λ same. split ! $ drop ! $
    box_out boxed ! r (u ∷ []) (λ p' n' hw at' eu fw. box_in boxed ! r p' n' r.value at' refl $
    let w : Val = word boxed hw p' n' in let typed = box_typed boxed hw p' n' fw in let is_box : u ≡ w = ap only eu in
    lands_last ! refl (subst (λ (x : Val). T (has_ty (box_ty boxed) x) × WT x) (sym is_box) typed) $ exec ! 𝓣.C 𝓣.Λ Ev (after 4 code.function.body) (at_ret Ev (W.post z)) $
    sets ! (is ! (of_opd ! (get ! refl)) is_box) refl typed $
    -- [the box; two parts of self; the token]
    move ! (1 ∷ 2 ∷ 3 ∷ []) $ returns ! (look_at ! 0 refl) $ free_all ! refl $
    feq_i ! (List Val) z.0.4.0 (mut_vals s) ev $
    suffices ! _ (ends_at 𝓛 f.ended stayed c z w r (new, (tt, tt)) (tt, (tt, tt))) $ says_two ! (ap (λ (t : Bool). engine_where t h.engine) ok ∙ ap Some (sym same), refl) $
    group ! 3 $ nothing ! $ nothing ! $ join ! $ move ! (1 ∷ 0 ∷ []) $ join ! $ nothing ! $ move ! (2 ∷ 0 ∷ []) $ join ! $ frame ! $ frame ! $ done !)))))))))))))))
