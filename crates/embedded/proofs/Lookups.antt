-- The class with a number, in a list of classes.
use Rattle.std.proofs.Common.{◌≡◌, ℕ, ◌<◌, length, get_or, Option, refl, ap}
use Rattle.std.proofs.lemmas.Option.{slice_get_read}
use Rattle.jtypes.specs.Lists.{◌>>=◌}
use Rattle.typecheck.specs.Typing.{Class}
use Rattle.embedded.specs.Classes.{Classes, class_at}

-- The class with a number is the list's element at that index.
pub class_there : (classes : Classes) (n : ℕ) (x : Option Class) → n < length classes → x ≡ get_or classes n x → class_at classes n ≡ x
class_there classes n x inside is = ap (λ (o : Option (Option Class)). o >>= (λ c. c)) (slice_get_read classes (length classes) n x refl inside is)
