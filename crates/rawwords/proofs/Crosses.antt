-- A block is `Send` and `Sync`. A deed is `Send` if its allocator is, and always `Sync`.
use Rattle.std.specs.Prelude.{ℕ, ◌+◌, List, [], ◌∷◌, Option, Some, None}
use base.Fraction.{full_share}
use base.Shift.{Keyless}
use denote.Builtin.{u64}
use denote.Exit.{Exit, unchanged, leaves, hidden, under}
use denote.Param.Send.{IsSend, IsSync, Frees, Quiet, Common, AllSend, part_keyless, owning_send, struct_send, struct_sync, sendable}
use denote.RattleType.{RattleType}
use denote.RawPtr.{Ptr, block_ptr, null_ptr}
use denote.Struct.Owning.{shape, fields, to}
use denote.Struct.Struct.{exits_of}
use Rattle.std.specs.declared.alloc.Allocator.{Ghosts}
use Rattle.rawwords.specs.Owned.{places_owned, places_lent, block_owned, block_lent}
use Rattle.rawwords.specs.contracts.block.Block as Block
use Rattle.rawwords.specs.contracts.block.Deed as Deed

quiet : {D X : Type 0} (to : D → X) (e : Exit X) → Quiet e → Quiet (hidden (under to e))
quiet to unchanged q = λ x w. tt
quiet to (leaves L l S s r₀) q = λ d. q (to d)

word_send : IsSend u64
word_send = search sendable

word_sync : IsSync u64
word_sync = search sendable

places-Keyless : (b o : ℕ) (ps : List (Option ℕ)) → Keyless (places_owned b o ps)
places-Keyless b o [] = tt
places-Keyless b o (Some x ∷ ps) = (part_keyless u64 word_send full_share x b o, places-Keyless b (o + 8) ps)
places-Keyless b o (None ∷ ps) = (tt, places-Keyless b (o + 8) ps)

places_lent-Common : (b o : ℕ) (ps : List (Option ℕ)) → Common (places_lent b o ps)
places_lent-Common b o [] κ = tt
places_lent-Common b o (Some x ∷ ps) κ = (word_sync.shared x b o κ, places_lent-Common b (o + 8) ps κ)
places_lent-Common b o (None ∷ ps) κ = (tt, places_lent-Common b (o + 8) ps κ)

block-Keyless : (at : Ptr) (ps : List (Option ℕ)) → Keyless (block_owned at ps)
block-Keyless (block_ptr b o) ps = places-Keyless b o ps
block-Keyless null_ptr ps = tt

block_lent-Common : (at : Ptr) (ps : List (Option ℕ)) → Common (block_lent at ps)
block_lent-Common (block_ptr b o) ps κ = places_lent-Common b o ps κ
block_lent-Common null_ptr ps κ = tt

pub block_send : IsSend Block.the_row
block_send =
    let O = Block.the_type in let all : AllSend (fields O) = (search sendable, tt) in
    owning_send O all (λ d. block-Keyless d.at d.places) (λ k. quiet (to O) (exits_of k (fields O)) ((struct_send (shape O) all).leaving k))

pub block_sync : IsSync Block.the_row
block_sync = let O = Block.the_type in record { shared = λ d b o κ. ((struct_sync (shape O) (search sendable, tt)).shared (to O d) b o κ, block_lent-Common d.at d.places κ) }

module _ (A : RattleType) (g : Ghosts A.Denot) where
  pub deed_send : Frees g g.dealloc_token → IsSend (Deed.the_row A g)
  deed_send f =
      let O = Deed.the_type A g in let all : AllSend (fields O) = (search sendable, tt) in
      owning_send O all (λ d. f.frees d.alloc _ d.at) (λ k. quiet (to O) (exits_of k (fields O)) ((struct_send (shape O) all).leaving k))

  pub deed_sync : IsSync (Deed.the_row A g)
  deed_sync = let O = Deed.the_type A g in record { shared = λ d b o κ. ((struct_sync (shape O) (search sendable, tt)).shared (to O d) b o κ, tt) }
