-- What is followed in a class, by its typed methods.
use Rattle.std.specs.Prelude.{◌≡◌, ℕ, Bool, false, ◌||◌, List, [], ◌∷◌, length, get_or, slice_get, Some}
use Rattle.typecheck.specs.declared.typed.Typed.{Typed}
use Rattle.unrolled.specs.Rules.{leads_back, is_tested}
use Rattle.search.specs.declared.node.Following.{Following}

-- whether some branch of the methods leads back
abbrev pub have_loops : List Typed → Bool
have_loops [] = false
have_loops (row ∷ rows) = leads_back row.code || have_loops rows

-- `IsFollowing rows row f` holds if `f` is what is followed in the method: values if some branch of the methods leads back,
-- and the ints of the local variables that a test looks at
pub record IsFollowing (rows : List Typed) (row : Typed) (f : Following) : Type 0 where
  pub values : f.values ≡ have_loops rows
  pub ints : (n : ℕ) → get_or f.ints.items n false ≡ is_tested n row.code

-- the same for each method
pub record AreFollowings (rows : List Typed) (fs : List Following) : Type 0 where
  pub size : length fs ≡ length rows
  pub each : (i : ℕ) (row : Typed) (f : Following) → slice_get rows i ≡ Some row → slice_get fs i ≡ Some f → IsFollowing rows row f
