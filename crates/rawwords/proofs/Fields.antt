-- The data fields of a block and of a deed, and the arguments of an allocator.
use Rattle.std.proofs.Common.{◌≡◌, ℕ, ◌*◌, ◌<◌, ◌^◌, List, [], ◌∷◌, ◌++◌, refl, ap, ◌∙◌, w64}
use Rattle.std.proofs.RcSteps.{word}
use Rattle.std.proofs.alloc.Calls.{Al}
use seplogic.Ra.Ura.{Ura}
use mir.Raw.{raw}
use prog.RawLaws.{size-raw, align-raw}
use mir.Syntax.{Ty, Args, a_type, dcons, dnil, ty_int, ty_array}
use mir.Val.{Val, vstruct, vcons, vnil, of_list}
use prog.Capped.{capped_is}
use prog.Memory.{size, align, capped}
use base.Logic.{ent, sep, emp}
use types.Logic.{Logic, sem}
use types.Kit.{‵, ◌$◌, ◌∵◌, !, qed, move, fjoin, fpack, feq_i, done}
use denote.Laws.{Is}
use denote.Param.{bounded}
use denote.RattleType.{RattleType, Valss}
use denote.RawPtr.{Ptr, ptr_val}
use denote.Shadow.{makes_shadow}
use denote.Steps.{nothing}
use denote.Struct.Declared as Declared
use denote.Struct.Owning.{shape}
use denote.Struct.Struct.{Struct, within}
use denote.Struct.Tuple.{Tuple, tuple_type}
use Rattle.std.specs.declared.alloc.Allocator.{Ghosts}
use Rattle.rawwords.specs.contracts.block.Block as Block
use Rattle.rawwords.specs.contracts.block.Deed as Deed

-- ---- the arguments of an allocator

abbrev pub args : Al → Args
args Z = bounded (a_type ∷ []) (Z.row, tt) (dcons Z.d (dcons Z.drops dnil))

abbrev pub block_ty : ℕ → Ty
block_ty n = raw (ty_array (ty_int w64) n)

pub block_size : (n : ℕ) → n * 8 < 2 ^ 64 → capped (size (block_ty n)) ≡ n * 8
block_size n fits = ap capped (size-raw (ty_array (ty_int w64) n)) ∙ capped_is (n * 8) fits

pub block_align : (n : ℕ) → capped (align (block_ty n)) ≡ 8
block_align n = ap capped (align-raw (ty_array (ty_int w64) n))

-- ---- the data fields

abbrev pub Word : RattleType
Word = Struct (shape Block.the_type)

pub word_told : (p : Ptr) (vs : List Val) → Is Word (p, tt) vs → vs ≡ word p ∷ []
word_told p vs is = is.1.0 ∙ ap (λ (ws : List Val). vstruct (of_list (ws ++ [])) ∷ []) is.1.1.0

pub word_made : {M : Type 1} {𝓤 : Ura M} (𝓛 : Logic 𝓤) (p : Ptr) → ent 𝓤 (emp 𝓤) (sem 𝓛 (Word.own_val (p, tt) (word p ∷ [])))
word_made 𝓛 p = makes_shadow 𝓛 (Word.own_val (p, tt) (word p ∷ [])) (λ vss. (tt, (tt, tt))) ((ptr_val p ∷ [], tt), (refl, (refl, tt)))

abbrev pub mark : Val
mark = vstruct (vcons (vstruct vnil) vnil)

module _ (P : RattleType) (g : Ghosts P.Denot) where
  abbrev pub Mark : RattleType
  Mark = Struct (shape (Deed.the_type P g))

  pub mark_told : (vs : List Val) → Is Mark (record {}, tt) vs → vs ≡ mark ∷ []
  mark_told vs is = is.1.0 ∙ ap (λ (ws : List Val). vstruct (of_list (ws ++ [])) ∷ []) is.1.1.0.1.0

  pub mark_made : {M : Type 1} {𝓤 : Ura M} (𝓛 : Logic 𝓤) → ent 𝓤 (emp 𝓤) (sem 𝓛 (Mark.own_val (record {}, tt) (mark ∷ [])))
  mark_made 𝓛 = makes_shadow 𝓛 (Mark.own_val (record {}, tt) (mark ∷ [])) (λ vss. (tt, ((λ uss. (tt, tt)), tt))) ((vstruct vnil ∷ [], tt), (refl, ((tt, (refl, tt)), tt)))

abbrev pub pair_val : Val → Val → Val
pair_val u v = vstruct (vcons u (vcons v vnil))

pub pair_of : {M : Type 1} {𝓤 : Ura M} (𝓛 : Logic 𝓤) (R S : RattleType) (x : R.Denot) (y : S.Denot) (u v : Val)
    → ent 𝓤 (sep 𝓤 (sem 𝓛 (R.own_val x (u ∷ []))) (sem 𝓛 (S.own_val y (v ∷ [])))) (sem 𝓛 ((Tuple (R ∷ S ∷ [])).own_val (x, y) (pair_val u v ∷ [])))
pair_of 𝓛 R S x y u v =
    qed 𝓛 (‵ (R.own_val x (u ∷ [])) ∷ ‵ (S.own_val y (v ∷ [])) ∷ []) ∵ nothing ! $ move ! (2 ∷ 0 ∷ []) $ fjoin ! $ move ! (1 ∷ 0 ∷ []) $ fjoin ! $ feq_i ! (List Val) (pair_val u v ∷ []) (pair_val u v ∷ []) refl $ fjoin ! $
    fpack ! (Valss (R ∷ S ∷ [])) (within (Declared.shape (tuple_type (R ∷ S ∷ []))) (x, (y, tt)) (pair_val u v ∷ [])) (u ∷ [], (v ∷ [], tt)) $ done !
