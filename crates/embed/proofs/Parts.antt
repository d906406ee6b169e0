-- Definitions for the proofs of the methods of a handle. Assumes `Logic`.
--     passed, no_drop      a type as it is passed to a generic function, and the drop glue of a type without a drop
--     boxed                the box of the engine, in the form of the proof steps for boxes
--     Row                  the type of the box of the engine
--     two, handle_in       a machine value of two fields, and the step that makes a handle from the resources it owns
use Rattle.std.proofs.Common.{ℕ, List, [], ◌∷◌, refl, Bool}
use seplogic.Ra.Ura.{Ura}
use mir.Raw.{raw as bare}
use mir.Syntax.{Dict, impl, tcons, tnil, dnil}
use mir.Val.{Val, vptr, vbool, vstruct, vcons, vnil}
use types.Logic.{Logic}
use types.Kit.{Item, Goal, Step, step, ‵, ◌$◌, fjoin, fpack, feq_i}
use denote.RattleType.{RattleType, Valss}
use denote.Builtin.{RawPtr, bool}
use denote.Exit.{no}
use denote.Param.{layout, arg}
use denote.Param.Laws.{arg_laws}
use denote.RawPtr.{block_ptr}
use denote.Steps.{nothing}
use denote.Struct.Struct.{within}
use denote.Struct.Owning.{shape}
use Rattle.std.specs.contracts.alloc.Global as heap
use Rattle.std.specs.contracts.boxed.Box as box
use Rattle.std.proofs.alloc.Global.TheLaws as heap_laws
use Rattle.std.specs.contracts.impls.GlobalAllocator.TheImpl.{ghosts, dict}
use Rattle.std.proofs.BoxSteps.Form.{Bx}
use Rattle.embedded.specs.contracts.engine.Engine as engine
use Rattle.embedded.proofs.engine.Engine.TheLaws as engine_laws
use Rattle.embedded.specs.Classes.{Classes}
use Rattle.embed.specs.Held.{held}
use Rattle.embed.specs.contracts.handle.Handle as handle

-- A type as it is passed to a generic function.
abbrev passed : RattleType → RattleType
passed R = arg (bare (layout R)) no R

abbrev pub no_drop : RattleType → Dict
no_drop R = impl ("embed::Destruct++none::drop" ∷ []) (tcons (layout R) tnil) dnil

abbrev pub boxed : Bx
boxed = record {
  row = passed engine.the_row;
  laws = arg_laws (bare (layout engine.the_row)) no engine.the_row engine_laws.the_row_laws refl;
  al = record { row = passed heap.the_row; laws = arg_laws (bare (layout heap.the_row)) no heap.the_row heap_laws.the_row_laws refl; g = ghosts; d = dict; drops = no_drop (passed heap.the_row) };
}

abbrev pub Row : RattleType
Row = box.the_row engine.the_row heap.the_row ghosts

abbrev pub two : Val → Val → Val
two v w = vstruct (vcons v (vcons w vnil))

module _ {M : Type 1} {𝓤 : Ura M} {𝓛 : Logic 𝓤} {K : Type 0} {Γ : List (Item 𝓤)} {G : Goal 𝓤 𝓛.H} where
  pub handle_in : K → (b o : ℕ) (y : Bool) (e : Classes)
      → Step K 𝓛 (‵ (handle.the_row.own_val (record { at = block_ptr b o; is_open = y; engine = e }) (two (vptr b o) (vbool y) ∷ [])) ∷ Γ) G (‵ (held y (block_ptr b o) e) ∷ Γ) G
  handle_in t b o y e = step (λ s. let w : Val = two (vptr b o) (vbool y) in
      nothing t $ feq_i t (List Val) (vbool y ∷ []) (vbool y ∷ []) refl $ fjoin t $ feq_i t (List Val) (vptr b o ∷ []) (vptr b o ∷ []) refl $ fjoin t $
      feq_i t (List Val) (w ∷ []) (w ∷ []) refl $ fjoin t $
      fpack t (Valss (RawPtr ∷ bool ∷ [])) (within (shape handle.the_type) (block_ptr b o, (y, tt)) (w ∷ [])) (vptr b o ∷ [], (vbool y ∷ [], tt)) $ fjoin t $ s)
