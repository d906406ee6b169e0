-- The uniqueness of the class of given bytes.
use Rattle.std.specs.Prelude.{◌≡◌, ℕ, List}
use Rattle.typecheck.specs.Typing.{Class}
use Rattle.verdict.specs.Verdict.{IsClassOf}
use Rattle.jtypes.specs.Profile.{Profile}

-- The same bytes define at most one class.
abbrev pub EachClassIsOne : Type 0
EachClassIsOne = (profile : Profile) (bytes : List ℕ) (c other : Class) → IsClassOf profile bytes c → IsClassOf profile bytes other → c ≡ other
