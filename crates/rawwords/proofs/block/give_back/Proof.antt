-- `give_back` turns the words into uninitialized memory, and deallocates it with the allocator's token.
use Rattle.std.proofs.Common.{◌≡◌, ℕ, ◌*◌, ◌<◌, ◌^◌, T, List, [], ◌∷◌, refl, sym, ap, subst, length, arith, lit<, w64}
use Rattle.std.proofs.raw_atomic.Walks.{proved}
use Rattle.std.proofs.RawLayout.{as_raw}
use Rattle.std.proofs.RcSteps.{word, word-Good}
use Rattle.std.proofs.VecSteps.Shapes.{after}
use Rattle.std.proofs.alloc.Calls.{Al, token, Gives, at_gives, Gives-goes, Gives-Gives, Goes-blank}
use mir.MapTy.{inst_fn}
use mir.Syntax.{Ty, named, ty_int, ty_array, ty_unit}
use mir.Val.{Val, vint, vptr, vunit, has_ty, WT}
use base.Fml.{ftrue, froom, flft, Incl-trans}
use base.Logic.{SProp, id⊢}
use contract.BorrowLft.{◌⊑◌}
use contract.Monad.{fact}
use contract.Running.{tables}
use types.Kit.{Item, ‵, raw, ◌⊛◌, given, later, at_ret, ◌$◌, ◌∵◌, !, qed, done, move, keep, use1, split, join, group, learn, rewrite, fsplit, fjoin, feq_i, suffices, await}
use types.Part.{whole, sub}
use types.Run.{stop, fld, lit, unit_lit, no_more, and_then, of_opd, bin, first, blocks, exec, returns, enter}
use types.ByLocal.{alloc_all, pass_all, free_all, look_at, get, get_in, is, sets, lands_last, env}
use denote.Builtin.{RefOf, usize}
use denote.Exit.{yes, no}
use denote.Param.{param}
use denote.Plain.{uint_vals, uint_Tells}
use denote.RattleType.{RattleType, owns}
use denote.RawPtr.{Ptr, ptr_val, in_a_block}
use denote.Ref.{shr_vals, shr_Tells}
use denote.Signature.{plain, types_at}
use denote.Steps.{nothing, heard}
use denote.Triple.Call.{calls_at_last}
use denote.Triple.Table.{framed}
use denote.Triple.Walked.{Stays, walk_of, stay_dropped, Goes-dropped, ends_at}
use Rattle.rawwords.specs.Owned.{block_owned, deed_owned}
use Rattle.rawwords.proofs.Fields.{args, block_ty, block_size, block_align, word_told, mark, mark_told}
use Rattle.rawwords.proofs.Places.{to_room}
use Rattle.rawwords.specs.contracts.block.Block.{the_row as R}
use Rattle.rawwords.specs.contracts.block.Deed as Deed
use Rattle.rawwords.specs.contracts.block.give_back as f
use Rattle.rawwords.proofs.block.give_back.Statement.{statement}
use Rattle.rawwords.proofs.block.give_back.Code as code

pub give_back_spec : {M : Type 1} → statement M
give_back_spec 𝓤 𝓛 𝓜 𝓡 wired U LU g d dd met _ =
    let H = 𝓛.H in let 𝓣 = tables 𝓤 H 𝓜 𝓡 𝓡.env in let P : RattleType = param 0 U in let En = f.ended U g d dd in
    let Z : Al = record { row = U; laws = LU; g = g; d = d; drops = dd } in let fn = inst_fn (args Z) code.function in let fm = framed 𝓤 H 𝓜 𝓣 in
    let heap = RefOf (0 ∷ []) tt (plain (λ _. P)) (λ _. tt) in let c = f.clauses U g d dd 𝓛 𝓜.mem 𝓡.returns in let D : RattleType = Deed.the_row P g in
    let hs : Stays En.signature.params En.kept = (stay_dropped heap yes, (stay_dropped (plain (λ _. R)) yes, (stay_dropped (plain (λ _. D)) no, (stay_dropped (plain (λ _. usize)) yes, tt)))) in
    proved 𝓛 En hs c 𝓜 𝓡 (Goes-dropped 𝓛 2 heap yes (λ κs x f. refl), (Goes-dropped 𝓛 2 (plain (λ _. R)) yes (λ κs x f. refl), (Goes-blank 𝓛 2 (plain (λ _. D)) no (λ κs x f. tt), (Goes-dropped 𝓛 2 (plain (λ _. usize)) yes (λ κs x f. refl), tt))))
    (f.Key.name (args Z)) fn (code.unfolded 𝓤 H 𝓜 𝓡 wired (U, tt) d dd)
    (λ κs. (shr_vals, ((λ x. word x.at ∷ []), ((λ x. mark ∷ []), (uint_vals w64, tt)))))
    (λ κs. (shr_Tells (named 0) κs.0 P, ((λ x vs is. word_told x.at vs is.0), ((λ x vs is. mark_told P g vs is.0), (uint_Tells w64, tt))))) (λ κs qs bounds a gh are.
    let κ = κs.0 in let q = qs.0 in let hp : ℕ × ℕ = a.0.ref_ptr in let h : U.Denot = a.0.now in let block : R.Denot = a.1.0 in let deed : D.Denot = a.1.1.0 in let n : ℕ = a.1.1.1.0 in let τ : Ty = block_ty n in
    let y : (walk_of 𝓛 En hs c).Ghost = ((κs, qs, bounds, a, (shr_vals a.0, (word block.at ∷ [], (mark ∷ [], (uint_vals w64 n, tt))))), gh) in let Post : Val → SProp 𝓤 = (walk_of 𝓛 En hs c).post y in
    let others : Item 𝓤 = ‵ (flft κs.1.0 qs.1.0) ⊛ ‵ ftrue in
    let Asks : Type 0 = (length block.places ≡ n) × (deed.at ≡ block.at) × (deed.count ≡ n) × (deed.alloc ≡ h) × (n * 8 < 2 ^ 63) in
    qed 𝓛 (((‵ (flft κ q) ⊛ others) ⊛ ‵ (owns (types_at En.signature.params κs) a y.0.4)) ∷ (raw (fact 𝓤 (κs.1.0 ⊑ U.lives)) ⊛ raw (fact 𝓤 Asks)) ∷ []) ∵
    move ! (1 ∷ []) $ split ! $ heard ! (κs.1.0 ⊑ U.lives) (λ within. heard ! Asks (λ asked.
    let bytes : n * 8 < 2 ^ 64 = omega (arith, asked.4) in
    split ! $ split ! $ move ! (2 ∷ []) $ fsplit ! $ fsplit ! $ move ! (2 ∷ []) $ fsplit ! $ fsplit ! $ move ! (2 ∷ []) $ fsplit ! $ fsplit ! $ keep ! (4 ∷ 1 ∷ 6 ∷ 7 ∷ 8 ∷ []) $
    rewrite ! 1 (λ (r : U.Denot × Ptr × ℕ). ‵ (deed_owned (token Z r.0) r.1 r.2)) {x = (h, block.at, n)} {y = (deed.alloc, deed.at, deed.count)} (λ i. (asked.3 i, asked.1 i, asked.2 i)) refl $
    in_a_block ! block.at (λ p. block_owned p block.places) (id⊢ 𝓤 _) (λ b o e.
    rewrite ! 1 (λ (p : Ptr). ‵ (deed_owned (token Z h) p n)) e refl $
    use1 𝓛 (‵ (froom (ty_array (ty_int w64) (length block.places)) b o)) (to_room 𝓛 b block.places o) $
    rewrite ! 0 (λ (k : ℕ). ‵ (froom (ty_array (ty_int w64) k) b o)) asked.0 refl $ as_raw ! (ty_array (ty_int w64) n) b o $
    -- [the memory; the allocator's token; the `&` to the allocator; the lifetime token; the other lifetime tokens]
    enter ! 𝓣.C 𝓣.Λ fn (vptr hp.0 hp.1 ∷ word block.at ∷ mark ∷ vint w64 n ∷ []) Post $
    alloc_all ! (λ l. pass_all ! refl ((tt, tt), (word-Good [] block.at, ((tt, (tt, tt)), ((tt, record { fits = are.1.1.1.0.1 }), tt)))) $
    let Ev = env fn.locals l in
    let t : (Gives Z 𝓛 𝓜.mem 𝓡.returns).Ghost = at_gives Z 𝓛 𝓜.mem 𝓡.returns κ q hp h b o (n * 8) 8 τ in
    sets ! (is ! (of_opd ! (get_in ! (fld ! refl (stop !)) (sub ! 0 refl (whole !)))) (ap ptr_val e)) refl (tt, tt) $ first ! $ blocks ! $
    sets ! (of_opd ! (get ! refl)) refl (tt, tt) $
    sets ! (bin ! (get ! refl) (lit ! tt) (record { fits = bytes })) refl (tt, record { fits = bytes }) $
    group ! 4 $ use1 𝓛 (raw ((Gives Z 𝓛 𝓜.mem 𝓡.returns).pre t)) (Gives-goes Z 𝓛 𝓜.mem 𝓡.returns κ q hp h (Incl-trans bounds.0 within) b o (n * 8) 8 τ (block_size n bytes) (block_align n) bytes (lit< tt)) $
    calls_at_last ! fm (Gives Z 𝓛 𝓜.mem 𝓡.returns) (met.deallocate dd) t (and_then ! (get ! refl) (and_then ! (get ! refl) (and_then ! (get ! refl) (and_then ! (lit ! tt) (no_more !))))) (λ v.
    use1 𝓛 (later (given (v ≡ vunit) (‵ (flft κ q)))) (Gives-Gives Z 𝓛 𝓜.mem 𝓡.returns κ q hp h b o (n * 8) 8 τ v) $ await ! tt $ learn ! (λ freed.
    lands_last ! refl (subst (λ (u : Val). T (has_ty ty_unit u) × WT u) (sym freed) (tt, tt)) $ exec ! 𝓣.C 𝓣.Λ Ev (after 2 fn.body) (at_ret Ev Post) $
    sets ! (of_opd ! (unit_lit !)) refl (tt, tt) $ returns ! (look_at ! 0 refl) $ free_all ! refl $ keep ! (0 ∷ 1 ∷ []) $
    suffices ! _ (ends_at 𝓛 En hs c y vunit tt (tt, (tt, (tt, (tt, tt)))) (tt, (tt, (tt, (tt, tt))))) $
    join ! $ feq_i ! (List Val) (vunit ∷ []) (vunit ∷ []) refl $ nothing ! $ nothing ! $ fjoin ! $ nothing ! $ fjoin ! $ nothing ! $ fjoin ! $ nothing ! $ fjoin ! $ join ! $
    move ! (1 ∷ 0 ∷ []) $ join ! $ nothing ! $ move ! (1 ∷ 0 ∷ []) $ done !)))))))
