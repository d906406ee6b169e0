-- Reads of a block's pointer through a `&` to the block.
use Rattle.std.proofs.Common.{◌≡◌, ℕ, zero, suc, refl, ◌+◌, ◌<◌, List, [], ◌∷◌, length, get_or, Some, None, sym, ap, ◌∙◌, arith}
use Rattle.std.specs.Prelude.{Option}
use seplogic.Ra.Ura.{Ura}
use mir.Syntax.{ty_ptr}
use mir.Val.{Val, vptr}
use base.Logic.{ent, sep}
use base.Fml.{Lft, Share, fat, flft, fhide}
use types.Logic.{Logic, sem}
use types.Kit.{Goal, Soaks, Step, step, Seq, Item, ‵, ◌⊛◌, ◌$◌, ◌∵◌, !, qed, move, keep, drop, use1, split, rewrite, fsplit, feq_l, feq_i, done}
use denote.Copied.{plain_Copied}
use denote.Memory.{cell_at, part_at, hidden_shr}
use denote.Opens.{Shut, unhide}
use denote.RattleType.{RattleType}
use denote.RawPtr.{Ptr, RawPtr, block_ptr, coded_ptr, ptr_own, rawptr_pure, ptr_val}
use denote.Steps.{looks, shuts}
use denote.Struct.Laws.{RawPtr-laws}
use denote.Struct.Lending.{lent_out}
use denote.Struct.Owning.{shape}
use denote.Struct.Struct.{Struct}
use Rattle.rawwords.specs.Owned.{block_lent}
use Rattle.rawwords.specs.declared.block.Block.{Block}
use Rattle.rawwords.specs.contracts.block.Block as C

pub filled_within : (ps : List (Option ℕ)) (i x : ℕ) → get_or ps i None ≡ Some x → i < length ps
filled_within [] i x e = cc
filled_within (p ∷ ps) zero x e = omega arith
filled_within (p ∷ ps) (suc i) x e = omega (arith, filled_within ps i x e)

-- The data field of a block, as a struct without ghost fields.
abbrev Word : RattleType
Word = Struct (shape C.the_type)

pub shown : {M : Type 1} {𝓤 : Ura M} (𝓛 : Logic 𝓤) (κ : Lft) (d : Block) (b o : ℕ)
    → ent 𝓤 (sem 𝓛 (hidden_shr C.the_row κ d b o)) (sep 𝓤 (sem 𝓛 (hidden_shr RawPtr κ d.at b (o + 0))) (sem 𝓛 (block_lent d.at d.places κ)))
shown 𝓛 κ d b o = qed 𝓛 (‵ (hidden_shr C.the_row κ d b o) ∷ []) ∵
    use1 𝓛 (‵ (hidden_shr Word κ (d.at, tt) b o) ⊛ ‵ (fhide (C.the_lent d d.at κ))) (lent_out 𝓛 C.struct C.the_codes C.the_heap C.the_lent κ d b o) $ split ! $
    unhide ! $ fsplit ! $ fsplit ! $ keep ! (0 ∷ 3 ∷ []) $ done !

module _ {M : Type 1} {𝓤 : Ura M} {𝓛 : Logic 𝓤} {K : Type 0} {Γ : List (Item 𝓤)} {G : Goal 𝓤 𝓛.H} where
  -- [the pointer; the closing of the borrow]
  pub pointer_in : K → Soaks G → {κ : Lft} {q : Share} (p : Ptr) (pb po : ℕ) → p ≡ block_ptr pb po → (b at : ℕ)
      → ((q' : Share) → Seq K 𝓛 (‵ (fat q' ty_ptr b at (vptr pb po)) ∷ Shut 𝓛 κ q (part_at RawPtr q' p b at) ∷ Γ) G) → Seq K 𝓛 (‵ (hidden_shr RawPtr κ p b at) ∷ ‵ (flft κ q) ∷ Γ) G
  pointer_in t z p pb po is b at k =
      looks t z RawPtr (plain_Copied 𝓛 Ptr coded_ptr (ty_ptr ∷ []) ptr_own rawptr_pure ptr_val RawPtr-laws.tells).opens p b at (λ q' vs. move t (1 ∷ []) $ feq_l t (λ e.
      rewrite t 0 (λ (us : List Val). ‵ (cell_at q' RawPtr.mir us b at)) (e ∙ ap (λ (r : Ptr). ptr_val r ∷ []) is) refl $ move t (2 ∷ []) $ drop t $ k q'))

  pub pointer_out : K → Soaks G → {κ : Lft} {q q' : Share} (p : Ptr) (pb po : ℕ) → p ≡ block_ptr pb po → (b at : ℕ)
      → Step K 𝓛 (‵ (flft κ q) ∷ Γ) G (‵ (fat q' ty_ptr b at (vptr pb po)) ∷ Shut 𝓛 κ q (part_at RawPtr q' p b at) ∷ Γ) G
  pointer_out t z {q' = q'} p pb po is b at = step (λ s.
      feq_i t (List Val) (vptr pb po ∷ []) (ptr_val p ∷ []) (ap (λ (r : Ptr). ptr_val r ∷ []) (sym is)) $ move t (1 ∷ 0 ∷ []) $ shuts t z RawPtr q' p (vptr pb po ∷ []) b at $ s)
