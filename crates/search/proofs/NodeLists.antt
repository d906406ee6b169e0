-- Lists of nodes, and the edge of a stack instruction.
use Rattle.std.proofs.Common.{◌≡◌, ℕ, List, [], ◌∷◌, ◌++◌, Option, Some, None, map, refl}
use Rattle.std.proofs.lemmas.List.{map-append}
use Rattle.std.specs.Prelude.{unwrap_or}
use Rattle.unrolled.specs.Known.{Known}
use Rattle.unrolled.specs.Graph.{Node, at, if_matching}

pub matched : (x : Node) (next : ℕ) (o : Option (List Known)) → if_matching x next o ≡ at x next (unwrap_or o x.operands) ∷ []
matched x next None = refl
matched x next (Some ks) = refl

pub one_more : {A B : Type 0} (f : A → B) (xs : List A) (x : A) → map f (xs ++ x ∷ []) ≡ map f xs ++ f x ∷ []
one_more f xs x = map-append f xs (x ∷ [])
