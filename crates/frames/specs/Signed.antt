-- The methods of a class with their signatures, as the code stores them.
use Rattle.std.specs.Prelude.{◌≡◌, ◌<◌, ℕ, List, map, Option, Some, option_and_then, option_map, slice_get, All}
use Rattle.classfile.specs.View.{ClassView, MethodView}
use Rattle.frames.specs.declared.signed.SignedMethod.{SignedMethod}
use Rattle.frames.specs.Signatures.{method_signature}
use Rattle.frames.specs.Seen.{method_seen}

abbrev pub method_of : SignedMethod → MethodView
method_of s = method_seen s.method

-- `IsNamesake ms name j` holds if the method at index `j` has this name
abbrev pub IsNamesake : List SignedMethod → List ℕ → ℕ → Type 0
IsNamesake ms name j = (s : SignedMethod) × (slice_get ms j ≡ Some s) × (s.method.name.now ≡ name)

-- `AreNamesakes ms` holds if each namesake is an earlier method with the same name
abbrev pub AreNamesakes : List SignedMethod → Type 0
AreNamesakes ms = (k j : ℕ) (s : SignedMethod) → slice_get ms k ≡ Some s → s.namesake ≡ Some j → (j < k) × IsNamesake ms s.method.name.now j

-- `AreSigned v ms` holds if `ms` are the methods of the class in order, each with its signature
pub record AreSigned (v : ClassView) (ms : List SignedMethod) : Type 0 where
  pub methods : map method_of ms ≡ v.methods
  pub signatures : All (λ s. s.signature ≡ method_signature v (method_of s)) ms
  pub namesakes : AreNamesakes ms

-- the method at the index that a search found, with the index
abbrev pub method_at : List SignedMethod → Option ℕ → Option (ℕ × MethodView)
method_at ms found = option_and_then (λ k. option_map (λ s. (k, method_of s)) (slice_get ms k)) found
