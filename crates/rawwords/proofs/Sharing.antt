-- A `&` to a block consists of a `&` to each written word.
use Rattle.std.specs.Prelude.{ℕ, ◌+◌, List, [], ◌∷◌, Option, Some, None, refl}
use seplogic.Ra.Ura.{Ura}
use base.Fml.{Lft, ftrue, ffalse}
use contract.BorrowLft.{⊑_static}
use types.Logic.{Logic}
use denote.Builtin.{u64}
use denote.RawPtr.{Ptr, block_ptr, null_ptr}
use denote.Sharing.{ShrLaws, said}
use denote.SharingLaws.{beside_shr_laws, nothing_shr_laws, said_shr_laws}
use denote.Shares.{Shares-less}
use denote.Struct.Field.{u64-field}
use denote.Struct.Laws.{u64-laws, u64-copy}
use denote.Struct.Lending.{Lends, Lends-both, Lends-nothing, Lends-false}
use denote.Param.Laws.{Laws, of_field}
use denote.Param.Shared.{copy_shared}
use Rattle.rawwords.specs.Owned.{place_owned, places_owned, place_lent, places_lent, block_owned, block_lent}

pub word_laws : Laws u64
word_laws = of_field u64-field u64-laws refl (copy_shared u64-field u64-copy)

place_lent_laws : (b o : ℕ) (p : Option ℕ) → ShrLaws (place_lent b o p)
place_lent_laws b o (Some x) = word_laws.shr_laws x b o
place_lent_laws b o None = nothing_shr_laws

places_lent_laws : (b o : ℕ) (ps : List (Option ℕ)) → ShrLaws (places_lent b o ps)
places_lent_laws b o [] = nothing_shr_laws
places_lent_laws b o (p ∷ ps) = beside_shr_laws _ _ (place_lent_laws b o p) (places_lent_laws b (o + 8) ps)

pub block_lent_laws : (at : Ptr) (ps : List (Option ℕ)) → ShrLaws (block_lent at ps)
block_lent_laws (block_ptr b o) ps = places_lent_laws b o ps
block_lent_laws null_ptr ps = said_shr_laws ffalse tt

module _ {M : Type 1} {𝓤 : Ura M} (𝓛 : Logic 𝓤) (l : Lft) where
  Lends-place : (b o : ℕ) (p : Option ℕ) → Lends 𝓛 (place_owned b o p) (place_lent b o p) l
  Lends-place b o (Some x) = λ κ ts. Shares-less 𝓛 u64 u64.lives l (⊑_static l) (word_laws.shares 𝓛) x κ ts b o
  Lends-place b o None = Lends-nothing 𝓛 (place_owned b o None) l

  Lends-places : (b o : ℕ) (ps : List (Option ℕ)) → Lends 𝓛 (places_owned b o ps) (places_lent b o ps) l
  Lends-places b o [] = Lends-nothing 𝓛 ftrue l
  Lends-places b o (p ∷ ps) =
      Lends-both 𝓛 (place_owned b o p) (places_owned b (o + 8) ps) (place_lent b o p) (places_lent b (o + 8) ps) l (Lends-place b o p) (Lends-places b (o + 8) ps)

  pub Lends-block : (at : Ptr) (ps : List (Option ℕ)) → Lends 𝓛 (block_owned at ps) (block_lent at ps) l
  Lends-block (block_ptr b o) ps = Lends-places b o ps
  Lends-block null_ptr ps = Lends-false 𝓛 (said ffalse) l
