-- `word` returns the `&` to a word that a `&` to the block contains.
use Rattle.std.proofs.Common.{◌≡◌, ℕ, ◌+◌, ◌*◌, ◌<◌, ◌^◌, List, [], ◌∷◌, refl, length, get_or, Some, None, arith, w64}
use Rattle.std.specs.Prelude.{Option}
use Rattle.std.proofs.raw_atomic.Walks.{proved}
use Rattle.std.proofs.VecSteps.Shapes.{after}
use base.Logic.{id⊢}
use base.Fml.{ftrue, flft}
use mir.Syntax.{named}
use mir.Val.{Val, vptr}
use contract.Monad.{fact}
use contract.Running.{tables}
use types.Kit.{‵, raw, ◌⊛◌, at_ret, ◌$◌, ◌∵◌, !, qed, done, move, keep, drop, use1, split, join, fsplit, fjoin, feq_i, rewrite, suffices}
use types.Run.{enter, of_opd, addr, lit, bin, load, look, stop, fld, first, blocks, exec, returns}
use types.ByLocal.{alloc_all, pass_all, free_all, look_at, get, through, sets, sets_last, env}
use denote.Builtin.{usize, RefOf}
use denote.Exit.{yes}
use denote.Memory.{hidden_shr}
use denote.Opens.{hide}
use denote.Plain.{uint_vals, uint_Tells}
use denote.RattleType.{owns}
use denote.RawPtr.{RawPtr, in_a_block}
use denote.Ref.{shr_vals, shr_Tells}
use denote.Signature.{plain, types_at}
use denote.Steps.{nothing, heard}
use denote.Triple.Walked.{Stays, walk_of, says, stay_dropped, Goes-dropped, ends_at}
use Rattle.rawwords.specs.Owned.{place_lent, block_lent}
use Rattle.rawwords.proofs.Places.{place_seen}
use Rattle.rawwords.proofs.Steps.{filled_within, shown, pointer_in, pointer_out}
use Rattle.rawwords.specs.contracts.block.Block.{the_row as R}
use Rattle.rawwords.specs.contracts.block.Block.word as f
use Rattle.rawwords.proofs.block.Block.word.Statement.{statement}
use Rattle.rawwords.proofs.block.Block.word.Code as code

abbrev stayed : Stays f.ended.signature.params f.ended.kept
stayed = (stay_dropped (RefOf (0 ∷ []) tt (plain (λ _. R)) (λ _. tt)) yes, (stay_dropped (plain (λ _. usize)) yes, tt))

pub word_spec : {M : Type 1} → statement M
word_spec 𝓤 𝓛 𝓜 𝓡 wired =
    let c = f.clauses 𝓛 𝓜.mem 𝓡.returns in let W = walk_of 𝓛 f.ended stayed c in let 𝓣 = tables 𝓤 𝓛.H 𝓜 𝓡 𝓡.env in
    proved 𝓛 f.ended stayed c 𝓜 𝓡 (Goes-dropped 𝓛 1 (RefOf (0 ∷ []) tt (plain (λ _. R)) (λ _. tt)) yes (λ κs x w. refl), (Goes-dropped 𝓛 1 (plain (λ _. usize)) yes (λ κs x w. refl), tt))
    f.Key.name code.function (code.unfolded 𝓤 𝓛.H 𝓜 𝓡 wired)
    (λ κs. (shr_vals, (uint_vals w64, tt))) (λ κs. (shr_Tells (named 0) κs.0 R, (uint_Tells w64, tt))) (λ κs qs bounds a _ are.
    let κ = κs.0 in let q = qs.0 in let rb = a.0.ref_ptr.0 in let ro = a.0.ref_ptr.1 in let h = a.0.now in let i : ℕ = a.1.0 in
    let y : W.Ghost = ((κs, qs, bounds, a, (shr_vals a.0, (uint_vals w64 i, tt))), tt) in
    let Asks : Type 0 = ((w : ℕ) × (get_or h.places i None ≡ Some w)) × (length h.places < 2 ^ 32) in
    qed 𝓛 (((‵ (flft κ q) ⊛ ‵ ftrue) ⊛ ‵ (owns (types_at f.ended.signature.params κs) a y.0.4)) ∷ raw (fact 𝓤 Asks) ∷ []) ∵
    move ! (1 ∷ []) $ heard ! Asks (λ asked.
    let x : ℕ = asked.0.0 in let inside : i < length h.places = filled_within h.places i x asked.0.1 in let far : i * 8 < 2 ^ 64 = omega arith in
    split ! $ split ! $ move ! (2 ∷ []) $ fsplit ! $ fsplit ! $ drop ! $
    use1 𝓛 (‵ (hidden_shr RawPtr κ h.at rb (ro + 0)) ⊛ ‵ (block_lent h.at h.places κ)) (shown 𝓛 κ h rb ro) $ split ! $ move ! (1 ∷ []) $
    in_a_block ! h.at (λ p. block_lent p h.places κ) (id⊢ 𝓤 _) (λ b o e.
    use1 𝓛 (‵ (place_lent b (i * 8 + o) (get_or h.places i None) κ)) (place_seen 𝓛 b κ h.places i o (i * 8 + o) inside refl) $
    rewrite ! 0 (λ (p : Option ℕ). ‵ (place_lent b (i * 8 + o) p κ)) asked.0.1 refl $ hide ! $ keep ! (1 ∷ 3 ∷ 4 ∷ 0 ∷ []) $
    -- [the `&` to the pointer; the lifetime token; no other lifetime token; the `&` to the word]
    enter ! _ _ _ _ _ $ alloc_all ! (λ l. pass_all ! refl ((tt, tt), ((tt, record { fits = are.1.0.1 }), tt)) $
    first ! $ blocks ! $ pointer_in ! tt h.at b o e rb (ro + 0) (λ q'.
    sets ! (of_opd ! (load ! (through ! refl (fld ! refl (stop !))) (look ! 0 refl))) refl (tt, tt) $
    pointer_out ! tt h.at b o e rb (ro + 0) $
    sets ! (bin ! (get ! refl) (lit ! tt) (record { fits = far })) refl (tt, record { fits = far }) $
    sets ! (bin ! (get ! refl) (get ! refl) tt) refl (tt, tt) $
    sets_last ! (addr ! (through ! refl (stop !))) refl (tt, tt) $
    exec ! 𝓣.C 𝓣.Λ (env code.Mir.locals l) (after 1 (code.function).body) (at_ret _ (W.post y)) $
    sets ! (of_opd ! (get ! refl)) refl (tt, tt) $
    returns ! (look_at ! 0 refl) $ free_all ! refl $
    suffices ! _ (ends_at 𝓛 f.ended stayed c y (vptr b (i * 8 + o)) (record { ref_ptr = (b, i * 8 + o); now = x }) (tt, (tt, tt)) (tt, (tt, tt))) $ says ! asked.0.1 $
    join ! $ move ! (1 ∷ []) $ feq_i ! (List Val) (vptr b (i * 8 + o) ∷ []) (vptr b (i * 8 + o) ∷ []) refl $ fjoin ! $
    nothing ! $ nothing ! $ fjoin ! $ nothing ! $ fjoin ! $ keep ! (2 ∷ 0 ∷ 1 ∷ []) $ done !)))))
