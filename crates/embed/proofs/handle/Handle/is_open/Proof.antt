-- `is_open` reads the field, and leaves the handle unchanged.
use Rattle.std.proofs.Common.{List, [], ◌∷◌, ◌++◌, refl, sym, subst}
use base.Fml.{ftrue, flft}
use base.Fraction.{full_share}
use base.Logic.{SProp, ent, id⊢}
use contract.Running.{tables}
use denote.Laws.{shows}
use denote.Memory.{cell_at}
use denote.RattleType.{owns}
use denote.Ref.{mut_vals}
use denote.Signature.{plain, types_at}
use denote.Steps.{nothing, opens, closes, peeks}
use denote.Triple.Walked.{Stays, walk_of, stay_ref, Goes-ref, ends_at}
use mir.Val.{Val, vbool}
use prog.Wp.{WpFn}
use types.ByLocal.{alloc_all, pass_all, free_all, look_at, through, sets}
use types.Kit.{‵, raw, ◌⊛◌, ◌$◌, ◌∵◌, !, qed, done, move, keep, split, join, fsplit, fsplit3, feq_l, feq_i, rewrite, suffices, frame, group}
use types.Part.{sub, whole, look_in}
use types.Run.{enter, of_opd, load, stop, fld, returns}
use Rattle.std.proofs.mem.Facts.{says_two}
use Rattle.std.proofs.raw_atomic.Walks.{proved_at}
use Rattle.embed.specs.contracts.handle.Handle.{the_row as R}
use Rattle.embed.proofs.handle.Handle.TheLaws.{lowers}
use Rattle.embed.specs.contracts.handle.Handle.is_open as f
use Rattle.embed.proofs.handle.Handle.is_open.Statement.{statement}
use Rattle.embed.proofs.handle.Handle.is_open.Code as code

abbrev stayed : Stays f.ended.signature.params f.ended.kept
stayed = (stay_ref (0 ∷ []) tt (plain (λ _. R)), tt)

pub is_open_spec : {M : Type 1} → statement M
is_open_spec 𝓤 𝓛 𝓜 𝓡 wired =
    let H = 𝓛.H in let c = f.clauses 𝓛 𝓜.mem 𝓡.returns in let W = walk_of 𝓛 f.ended stayed c in let 𝓣 = tables 𝓤 H 𝓜 𝓡 𝓡.env in
    proved_at 𝓛 f.ended stayed c 𝓜 𝓡 (Goes-ref 𝓛 1 0 tt (plain (λ _. R)), tt)
    f.Key.name code.function (code.unfolded 𝓤 H 𝓜 𝓡 wired) (λ z are.
    let κs = z.0.0 in let qs = z.0.1 in let s = z.0.3.0 in let b = s.ref_ptr.0 in let o = s.ref_ptr.1 in let h = s.now in
    let Run : List Val → SProp 𝓤 = λ ws. WpFn 𝓤 H 𝓣.C 𝓣.Λ code.function ws (W.post z) in
    qed 𝓛 (((‵ (flft κs.0 qs.0) ⊛ ‵ ftrue) ⊛ ‵ (owns (types_at f.signature.params κs) z.0.3 z.0.4)) ∷ raw ((c κs z.0.3).requires z.1) ∷ []) ∵
    split ! $ move ! (1 ∷ []) $ fsplit ! $ move ! (0 ∷ 2 ∷ []) $ fsplit3 ! $ feq_l ! (λ ev. move ! (2 ∷ []) $ split ! $ keep ! (2 ∷ 3 ∷ 0 ∷ []) $
    -- [two parts of self; the token]
    let all : List Val = mut_vals s ++ [] in
    suffices ! (Run all) (subst (λ (us : List Val). ent 𝓤 (Run all) (Run us)) (sym (λ i. ev i ++ [])) (id⊢ 𝓤 (Run all))) $
    enter ! 𝓣.C 𝓣.Λ code.function all (W.post z) $ alloc_all ! (λ l. pass_all ! refl ((tt, tt), tt) $
    opens ! tt R b o (λ us. move ! (1 ∷ []) $ peeks ! R _ (shows 𝓛 R) h us (λ is.
    let Cell = λ (xs : List Val). ‵ (cell_at full_share R.mir xs b o) in
    rewrite ! 1 Cell (lowers.val_is h us is) refl $
    sets ! (of_opd ! (load ! (through ! refl (fld ! refl (stop !))) (look_in ! 1 (sub ! 1 refl (whole !))))) refl (tt, tt) $
    rewrite ! 1 Cell (sym (lowers.val_is h us is)) refl $
    move ! (1 ∷ []) $ closes ! tt R h us b o $
    returns ! (look_at ! 0 refl) $ free_all ! refl $
    feq_i ! (List Val) z.0.4.0 (mut_vals s) ev $
    suffices ! _ (ends_at 𝓛 f.ended stayed c z (vbool h.is_open) h.is_open (h, tt) (tt, tt)) $ says_two ! (refl, refl) $
    group ! 3 $ nothing ! $ move ! (1 ∷ 0 ∷ []) $ join ! $ nothing ! $ move ! (2 ∷ 0 ∷ []) $ join ! $ frame ! $ frame ! $
    feq_i ! _ (vbool h.is_open ∷ []) _ refl $ done !)))))
