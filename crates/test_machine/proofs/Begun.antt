-- The slots at the start of an invocation.
use Rattle.std.proofs.Common.{◌≡◌, ℕ, List, [], Option, None, sym, subst}
use Rattle.jtypes.specs.declared.types.Value.{Value}
use Rattle.jtypes.specs.Lists.{padded}
use Rattle.slots.specs.declared.reference.Reference.{Reference}
use Rattle.slots.specs.declared.slots.Slots.{Slots}
use Rattle.slots.specs.Reads.{Reads, IsRead, given}

-- the local variables of a method with four of them, at its start
abbrev pub own : List (Option Value)
own = padded None 4 given

-- the slots are read in the same way from slices with the same words and kinds
pub begun : (s : Slots) (words : List ℕ) (kinds : List Reference) → words ≡ s.words.items → kinds ≡ s.kinds.items → Reads [] s own [] [] → IsRead [] words kinds s.callers.0 s.base s.top own [] []
begun s words kinds e f r =
    subst (λ ws. IsRead [] ws kinds s.callers.0 s.base s.top own [] []) (sym e)
    (subst (λ ks. IsRead [] s.words.items ks s.callers.0 s.base s.top own [] []) (sym f) r)
