-- `write` overwrites the memory of one word.
use Rattle.std.proofs.Common.{ℕ, ◌+◌, ◌*◌, ◌<◌, ◌^◌, List, [], ◌∷◌, refl, sym, ap, ◌∙◌, length, set, Some, arith, w64}
use Rattle.std.specs.Prelude.{Option}
use Rattle.std.proofs.raw_atomic.Walks.{proved}
use Rattle.std.proofs.VecSteps.Shapes.{after}
use base.Fraction.{full_share}
use base.Logic.{id⊢}
use base.Fml.{ftrue, froom, flft}
use mir.Syntax.{ty_int, named}
use mir.Val.{Val, vunit}
use contract.Monad.{fact}
use contract.Running.{tables}
use types.Kit.{‵, raw, ◌⊛◌, at_ret, ◌$◌, ◌∵◌, !, qed, done, move, keep, use1, use2, split, join, fsplit, fsplit3, fjoin, fjoin3, feq_i, rewrite, suffices, frame}
use types.Run.{enter, of_opd, lit, unit_lit, bin, load, init, stop, fld, assigns_last, first, blocks, exec, returns}
use types.Part.{whole, sub, look_in}
use types.ByLocal.{alloc_all, pass_all, free_all, look_at, get, through, sets, env}
use denote.Builtin.{u64, usize}
use denote.Exit.{yes}
use denote.Laws.{shows}
use denote.Memory.{cell_at}
use denote.Plain.{uint_in, uint_vals, uint_Tells}
use denote.RattleType.{owns}
use denote.RawPtr.{Ptr, in_a_block}
use denote.Ref.{mut_vals, mut_Tells}
use denote.Signature.{plain, types_at}
use denote.Steps.{nothing, opens, closes, heard, peeks}
use denote.Triple.Walked.{Stays, walk_of, says, stay_dropped, stay_ref, Goes-dropped, Goes-ref, ends_at}
use Rattle.rawwords.specs.Owned.{place_owned, places_owned, block_owned}
use Rattle.rawwords.proofs.Places.{Besides, place_out, place_in}
use Rattle.rawwords.specs.contracts.block.Block.{the_row as R}
use Rattle.rawwords.proofs.block.Block.TheLaws.{lowers}
use Rattle.rawwords.specs.contracts.block.Block.write as f
use Rattle.rawwords.proofs.block.Block.write.Statement.{statement}
use Rattle.rawwords.proofs.block.Block.write.Code as code

abbrev stayed : Stays f.ended.signature.params f.ended.kept
stayed = (stay_ref (0 ∷ []) tt (plain (λ _. R)), (stay_dropped (plain (λ _. usize)) yes, (stay_dropped (plain (λ _. u64)) yes, tt)))

pub write_spec : {M : Type 1} → statement M
write_spec 𝓤 𝓛 𝓜 𝓡 wired =
    let c = f.clauses 𝓛 𝓜.mem 𝓡.returns in let W = walk_of 𝓛 f.ended stayed c in let 𝓣 = tables 𝓤 𝓛.H 𝓜 𝓡 𝓡.env in
    proved 𝓛 f.ended stayed c 𝓜 𝓡 (Goes-ref 𝓛 1 0 tt (plain (λ _. R)), (Goes-dropped 𝓛 1 (plain (λ _. usize)) yes (λ κs x w. refl), (Goes-dropped 𝓛 1 (plain (λ _. u64)) yes (λ κs x w. refl), tt)))
    f.Key.name code.function (code.unfolded 𝓤 𝓛.H 𝓜 𝓡 wired)
    (λ κs. (mut_vals, (uint_vals w64, (uint_vals w64, tt)))) (λ κs. (mut_Tells (named 0) κs.0 R, (uint_Tells w64, (uint_Tells w64, tt)))) (λ κs qs bounds a _ are.
    let b = a.0.ref_ptr.0 in let o = a.0.ref_ptr.1 in let h = a.0.now in let i : ℕ = a.1.0 in let x : ℕ = a.1.1.0 in
    let y : W.Ghost = ((κs, qs, bounds, a, (mut_vals a.0, (uint_vals w64 i, (uint_vals w64 x, tt)))), tt) in
    let Asks : Type 0 = (i < length h.places) × (length h.places < 2 ^ 32) in
    qed 𝓛 (((‵ (flft κs.0 qs.0) ⊛ ‵ ftrue) ⊛ ‵ (owns (types_at f.ended.signature.params κs) a y.0.4)) ∷ raw (fact 𝓤 Asks) ∷ []) ∵
    move ! (1 ∷ []) $ heard ! Asks (λ asked.
    let far : i * 8 < 2 ^ 64 = omega arith in
    split ! $ split ! $ move ! (2 ∷ []) $ fsplit ! $ keep ! (0 ∷ 2 ∷ []) $
    enter ! _ _ _ _ _ $ alloc_all ! (λ l. pass_all ! refl ((tt, tt), ((tt, record { fits = are.1.0.1 }), ((tt, record { fits = are.1.1.0.1 }), tt))) $
    fsplit3 ! $ move ! (1 ∷ 2 ∷ 3 ∷ []) $ opens ! tt R b o (λ us.
    move ! (1 ∷ []) $ peeks ! R _ (shows 𝓛 R) h us (λ is. fsplit ! $ move ! (1 ∷ []) $
    in_a_block ! h.at (λ p. block_owned p h.places) (id⊢ 𝓤 _) (λ b' o' e.
    let new : List (Option ℕ) = set h.places i (Some x) in
    use1 𝓛 (‵ (froom (ty_int w64) b' (i * 8 + o')) ⊛ ‵ (Besides 𝓛 b' o' h.places i)) (place_out 𝓛 b' o' h.places i asked.0) $ split ! $
    let word = lowers.val_is h us is ∙ ap (λ (p : Ptr). lowers.lowered (record h { at = p }) ∷ []) e in
    let Cell = λ (ws : List Val). ‵ (cell_at full_share R.mir ws b o) in
    rewrite ! 3 Cell word refl $
    -- [the memory of the word; the other words; what the fields own; the struct's cell; the open borrow, in three entries]
    first ! $ blocks ! $
    sets ! (of_opd ! (load ! (through ! refl (fld ! refl (stop !))) (look_in ! 3 (sub ! 0 refl (whole !))))) refl (tt, tt) $
    sets ! (bin ! (get ! refl) (lit ! tt) (record { fits = far })) refl (tt, record { fits = far }) $
    sets ! (bin ! (get ! refl) (get ! refl) tt) refl (tt, tt) $
    assigns_last ! (of_opd ! (get ! refl)) (through ! refl (stop !)) (init ! 0 refl (tt, record { fits = are.1.1.0.1 })) $
    exec ! 𝓣.C 𝓣.Λ (env code.Mir.locals l) (after 1 (code.function).body) (at_ret _ (W.post y)) $
    sets ! (of_opd ! (unit_lit !)) refl (tt, tt) $
    use1 𝓛 (‵ (place_owned b' (i * 8 + o') (Some x))) (uint_in 𝓛 full_share w64 x b' (i * 8 + o')) $
    use2 𝓛 (‵ (places_owned b' o' new)) (place_in 𝓛 b' o' h.places i asked.0 (Some x)) $
    rewrite ! 0 (λ (p : Ptr). ‵ (block_owned p new)) (sym e) refl $ rewrite ! 2 Cell (sym word) refl $
    move ! (1 ∷ []) $ fjoin ! $ move ! (1 ∷ []) $ closes ! tt R (record h { places = new }) us b o $
    returns ! (look_at ! 0 refl) $ free_all ! refl $
    suffices ! _ (ends_at 𝓛 f.ended stayed c y vunit tt (record h { places = new }, (tt, (tt, tt))) (tt, (tt, (tt, tt)))) $ says ! (refl, refl) $
    move ! (2 ∷ []) $ nothing ! $ move ! (1 ∷ 0 ∷ []) $ join ! $ frame ! $
    move ! (2 ∷ 0 ∷ 1 ∷ []) $ fjoin3 ! $ nothing ! $ nothing ! $ fjoin ! $ nothing ! $ fjoin ! $ move ! (1 ∷ 0 ∷ []) $ fjoin ! $ frame ! $
    feq_i ! _ (vunit ∷ []) _ refl $ done !))))))
