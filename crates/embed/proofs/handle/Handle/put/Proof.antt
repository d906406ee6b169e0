-- `put` moves the block from the box to the handle.
use Rattle.std.proofs.Common.{List, [], ◌∷◌, ◌++◌, refl, sym, ap, ◌∙◌, subst, true}
use base.Fml.{ftrue, fsep, flft}
use base.Fraction.{full_share}
use base.Logic.{SProp, ent, emp, id⊢, never, fst∗}
use contract.BorrowLft.{◌⊑◌, ⊑_static}
use contract.Monad.{fact, fact_i}
use contract.Running.{tables}
use denote.Builtin.{RawPtr}
use denote.Laws.{shows}
use denote.Memory.{cell_at}
use denote.Param.{layouts}
use denote.Param.Glue as glue
use denote.Param.NoDrop as no_drops
use denote.RattleType.{owns}
use denote.RawPtr.{Ptr, block_ptr, null_ptr, ptr_val, in_a_block}
use denote.Ref.{mut_vals}
use denote.Signature.{plain, types_at}
use denote.Steps.{nothing, only, opens, closes, peeks}
use denote.Triple.Call.{calls_at}
use denote.Triple.Spec.{triple_of}
use denote.Triple.Carry.{spared}
use denote.Triple.Table.{framed, run_framed, widened}
use denote.Triple.Walked.{Stays, walk_of, says, stay_ref, Goes-ref, stay_dropped, ends_at}
use mir.Raw.{raw as bare}
use mir.Syntax.{impl, method, tnil, dnil}
use mir.Val.{Val, vptr, vunit, vbool}
use prog.Wp.{WpFn}
use types.ByLocal.{alloc_all, pass_all, free_all, look_at, get, through, sets, lands_as}
use types.Kit.{Item, ‵, raw, ◌⊛◌, some, later, ◌$◌, ◌∵◌, !, qed, done, move, keep, drop, use0, use1, split, join, fsplit, fsplit3, fjoin, feq_l, feq_i, pick, await, rewrite, suffices, frame, group}
use types.Logic.{sem}
use types.Part.{sub, whole, store_in}
use types.Run.{enter, of_opd, unit_lit, true_lit, stop, fld, no_more, and_then, assigns, returns}
use types.Tokens.{lft_new}
use Rattle.std.proofs.alloc.Calls.{token, Goes-blank}
use Rattle.std.proofs.raw_atomic.Walks.{proved_at}
use Rattle.std.proofs.impls.GlobalAllocator.TheImpl.Met as heap_met
use Rattle.std.specs.Box.Ownership.{box_owns}
use Rattle.std.proofs.BoxSteps.Form.{τ, word, box_typed}
use Rattle.std.proofs.BoxSteps.Steps.{box_out, box_in}
use Rattle.std.specs.contracts.boxed.Box.into_raw as gives
use Rattle.std.proofs.boxed.Box.into_raw.Met.{met}
use Rattle.embed.proofs.embedded++engine++Engine+Destruct.drop.Met as engine_drop
use Rattle.embed.proofs.embedded++engine++Engine+Destruct.drop.Symbol.{as_method}
use Rattle.embed.specs.contracts.embedded++engine++Engine+Destruct.drop as drops
use Rattle.embed.specs.contracts.handle.Handle.{the_row as R}
use Rattle.embed.proofs.handle.Handle.TheLaws.{lowers}
use Rattle.embed.proofs.Parts.{boxed, Row, two, handle_in}
use Rattle.embed.specs.contracts.handle.Handle.put as f
use Rattle.embed.proofs.handle.Handle.put.Statement.{statement}
use Rattle.embed.proofs.handle.Handle.put.Code as code

abbrev stayed : Stays f.ended.signature.params f.ended.kept
stayed = (stay_ref (0 ∷ []) tt (plain (λ _. R)), (stay_dropped (plain (λ _. Row)) f.ended.kept.1.0, tt))

pub put_spec : {M : Type 1} → statement M
unfolding Rattle.embed.proofs.Destruct++none.drop.Code.code
put_spec {M} 𝓤 𝓛 𝓜 𝓡 wired =
    let H = 𝓛.H in let c = f.clauses 𝓛 𝓜.mem 𝓡.returns in let W = walk_of 𝓛 f.ended stayed c in let 𝓣 = tables 𝓤 H 𝓜 𝓡 𝓡.env in
    let al = boxed.al in let E = boxed.row in let Z = al.row in let engine_dict = impl ("embed::embedded++engine++Engine+Destruct::drop" ∷ []) tnil dnil in
    let Gives = triple_of 𝓛 (gives.signature E Z al.g al.d al.drops engine_dict) (gives.spec E Z al.g al.d al.drops engine_dict 𝓛 𝓜.mem 𝓡.returns) in
    let known = met 𝓤 𝓛 𝓜 𝓡 (code.calls-std_alloc::boxed::Box::into_raw 𝓡.env wired) E Z boxed.laws al.laws al.g al.d al.drops engine_dict
    (heap_met.passed 𝓡.env (code.calls-std_heap::GlobalAllocator::allocate 𝓡.env wired) (code.calls-std_heap::GlobalAllocator::deallocate 𝓡.env wired)
    (code.calls-std_heap::GlobalAllocator::grow 𝓡.env wired) (code.calls-std_heap::GlobalAllocator::shrink 𝓡.env wired) M 𝓤 𝓛 𝓜 𝓡)
    (no_drops.glues "embed::Destruct++none::drop" 𝓡.env (code.calls-embed::Destruct++none::drop 𝓡.env wired) Z al.laws M 𝓤 𝓛 𝓜 𝓡)
    (widened 𝓤 H (triple_of 𝓛 (glue.signature E) (glue.spent 𝓛 E)) 𝓜 𝓡 𝓡.env (𝓡.env drops.Key.name) (𝓡.env (method engine_dict 0 (layouts [] tt)))
    (as_method 𝓡.env (code.calls-embed::embedded++engine++Engine+Destruct::drop 𝓡.env wired) (method engine_dict 0 (layouts [] tt)) refl)
    (spared 𝓛 drops.signature (𝓡.run (𝓡.env drops.Key.name)) (run_framed 𝓤 H 𝓜 𝓡 (𝓡.env drops.Key.name)) 1 (E.lives, tt) (drops.spec 𝓛 𝓜.mem 𝓡.returns)
    (engine_drop.met 𝓤 𝓛 𝓜 𝓡 (code.calls-embed::embedded++engine++Engine+Destruct::drop 𝓡.env wired)))) in
    proved_at 𝓛 f.ended stayed c 𝓜 𝓡 (Goes-ref 𝓛 1 0 tt (plain (λ _. R)), (Goes-blank 𝓛 1 (plain (λ _. Row)) f.ended.kept.1.0 (λ κs x w. tt), tt))
    f.Key.name code.function (code.unfolded 𝓤 H 𝓜 𝓡 wired) (λ z are.
    let κs = z.0.0 in let qs = z.0.1 in let s = z.0.3.0 in let v = z.0.3.1.0 in let b = s.ref_ptr.0 in let o = s.ref_ptr.1 in let h = s.now in
    let Run : List Val → SProp 𝓤 = λ ws. WpFn 𝓤 H 𝓣.C 𝓣.Λ code.function ws (W.post z) in
    qed 𝓛 (((‵ (flft κs.0 qs.0) ⊛ ‵ ftrue) ⊛ ‵ (owns (types_at f.signature.params κs) z.0.3 z.0.4)) ∷ raw ((c κs z.0.3).requires z.1) ∷ []) ∵
    split ! $ move ! (1 ∷ []) $ fsplit ! $ move ! (1 ∷ []) $ fsplit ! $
    box_out boxed ! v z.0.4.1.0 (λ p n hv at ws fits. box_in boxed ! v p n v.value at refl $
    -- [the box; nothing; self; the tokens; the `requires`]
    move ! (2 ∷ 3 ∷ []) $ fsplit3 ! $ feq_l ! (λ ev. move ! (2 ∷ []) $ split ! $ keep ! (2 ∷ 3 ∷ 0 ∷ 4 ∷ []) $
    -- [two parts of self; the token; the box]
    let w : Val = word boxed hv p n in let all : List Val = mut_vals s ++ (w ∷ []) in let typed = box_typed boxed hv p n fits in
    suffices ! (Run all) (subst (λ (us : List Val). ent 𝓤 (Run all) (Run us)) (sym (λ i. ev i ++ (ws i ++ []))) (id⊢ 𝓤 (Run all))) $
    enter ! 𝓣.C 𝓣.Λ code.function all (W.post z) $ alloc_all ! (λ l. pass_all ! refl ((tt, tt), (typed, tt)) $
    sets ! (of_opd ! (get ! refl)) refl typed $
    lft_new ! tt (λ α. lft_new ! tt (λ β. let t₁ : Item 𝓤 = ‵ (flft (α ∷ []) full_share) in let t₂ : Item 𝓤 = ‵ (flft (β ∷ []) full_share) in
    let inE = (α ∷ []) ⊑ E.lives in let inZ = (β ∷ []) ⊑ Z.lives in
    let y : Gives.Ghost = (((α ∷ [], (β ∷ [], tt)), (full_share, (full_share, tt)), tt, (v, tt), (w ∷ [], tt)), tt) in
    -- [the tokens of β and α; two parts of self; the token; the box]
    nothing ! $ use0 𝓛 (raw (fact 𝓤 inZ)) (fact_i 𝓤 inZ (emp 𝓤) (⊑_static (β ∷ []))) $ join ! $ use0 𝓛 (raw (fact 𝓤 inE)) (fact_i 𝓤 inE (emp 𝓤) (⊑_static (α ∷ []))) $ join ! $
    nothing ! $ move ! (7 ∷ 0 ∷ []) $ fjoin ! $ nothing ! $ move ! (3 ∷ 0 ∷ []) $ join ! $ move ! (3 ∷ 0 ∷ []) $ join ! $ join ! $ join ! $
    use1 𝓛 (raw (Gives.pre y)) (id⊢ 𝓤 _) $
    calls_at ! (framed 𝓤 H 𝓜 𝓣) Gives known y (and_then ! (get ! refl) (no_more !)) (λ u.
    use1 𝓛 (later (some (λ (r : Ptr). ((t₁ ⊛ t₂ ⊛ ‵ ftrue) ⊛ ‵ (RawPtr.own_val r (u ∷ []))) ⊛ some (λ (_ : (Unit {0} × (Unit {0} × Unit {0})) × Unit {0}).
    ‵ (fsep (fsep ftrue (fsep ftrue ftrue)) ftrue) ⊛ ‵ (box_owns (token al v.alloc) E r v.value))))) (id⊢ 𝓤 _) $
    await ! tt $ pick ! (λ r. split ! $ move ! (1 ∷ []) $ pick ! (λ _. split ! $ drop ! $
    in_a_block ! r (λ q. box_owns (token al v.alloc) E q v.value) (fst∗ 𝓤 (never 𝓤) (sem 𝓛 (token al v.alloc (bare (τ boxed)) null_ptr))) (λ b' o' e.
    move ! (1 ∷ []) $ split ! $ drop ! $ feq_l ! (λ eu.
    lands_as ! (ap only (eu ∙ ap (λ (q : Ptr). ptr_val q ∷ []) e)) refl (tt, tt) $
    sets ! (of_opd ! (get ! refl)) refl (tt, tt) $
    -- [the engine's block; two parts of self; the token]
    move ! (1 ∷ 2 ∷ 3 ∷ []) $ opens ! tt R b o (λ us. move ! (1 ∷ []) $ peeks ! R _ (shows 𝓛 R) h us (λ is. fsplit ! $ drop ! $ drop ! $
    let Cell = λ (xs : List Val). ‵ (cell_at full_share R.mir xs b o) in
    rewrite ! 0 Cell (lowers.val_is h us is) refl $
    assigns ! (of_opd ! (get ! refl)) (through ! refl (fld ! refl (stop !))) (store_in ! 0 (sub ! 0 refl (whole !)) (tt, tt)) $
    assigns ! (of_opd ! (true_lit !)) (through ! refl (fld ! refl (stop !))) (store_in ! 0 (sub ! 1 refl (whole !)) (tt, tt)) $
    sets ! (of_opd ! (unit_lit !)) refl (tt, tt) $
    -- [the handle's cell; the open borrow, in three entries; the engine's block]
    let new = record h { at = block_ptr b' o'; is_open = true; engine = v.value } in
    move ! (4 ∷ []) $ handle_in ! b' o' true v.value $ move ! (1 ∷ []) $ closes ! tt R new (two (vptr b' o') (vbool true) ∷ []) b o $
    returns ! (look_at ! 0 refl) $ free_all ! refl $
    feq_i ! (List Val) z.0.4.0 (mut_vals s) ev $
    suffices ! _ (ends_at 𝓛 f.ended stayed c z vunit tt (new, (tt, tt)) (tt, (tt, tt))) $ says ! refl $
    group ! 3 $ nothing ! $ nothing ! $ join ! $ move ! (1 ∷ 0 ∷ []) $ join ! $ nothing ! $ move ! (2 ∷ 0 ∷ []) $ join ! $ frame ! $ frame ! $
    feq_i ! _ (vunit ∷ []) _ refl $ done !)))))))))))))
