-- The resources that a block and its deed own and lend.
use Rattle.std.specs.Prelude.{ℕ, ◌+◌, List, [], ◌∷◌, Option, Some, None}
use base.Fraction.{full_share}
use base.Fml.{Lft, Fml, ftrue, ffalse, fsep, froom}
use mir.Syntax.{Ty, ty_int, ty_array, w64}
use mir.Raw.{raw}
use denote.Builtin.{u64}
use denote.Memory.{part_at, shared_of}
use denote.Sharing.{nothing, said, beside}
use denote.RawPtr.{Ptr, block_ptr, null_ptr}

-- The word at offset `o` bytes in block `b`, written or uninitialized.
abbrev pub place_owned : ℕ → ℕ → Option ℕ → Fml
place_owned b o (Some x) = part_at u64 full_share x b o
place_owned b o None = froom (raw (ty_int w64)) b o

-- Consecutive words.
abbrev pub places_owned : ℕ → ℕ → List (Option ℕ) → Fml
places_owned b o [] = ftrue
places_owned b o (p ∷ ps) = fsep (place_owned b o p) (places_owned b (o + 8) ps)

abbrev pub place_lent : ℕ → ℕ → Option ℕ → Lft → Fml
place_lent b o (Some x) = shared_of u64 x b o
place_lent b o None = nothing

abbrev pub places_lent : ℕ → ℕ → List (Option ℕ) → Lft → Fml
places_lent b o [] = nothing
places_lent b o (p ∷ ps) = beside (place_lent b o p) (places_lent b (o + 8) ps)

abbrev pub block_owned : Ptr → List (Option ℕ) → Fml
block_owned (block_ptr b o) ps = places_owned b o ps
block_owned null_ptr ps = ffalse

abbrev pub block_lent : Ptr → List (Option ℕ) → Lft → Fml
block_lent (block_ptr b o) ps = places_lent b o ps
block_lent null_ptr ps = said ffalse

-- An allocator's token for a block of `n` words.
abbrev pub deed_owned : (Ty → Ptr → Fml) → Ptr → ℕ → Fml
deed_owned token p n = token (raw (ty_array (ty_int w64) n)) p
