-- Ids of classes, as contracts see them.
use Rattle.boxcar.specs.Table.{Shelves, Where, Shows}
use Rattle.typecheck.specs.Typing.{Class}

-- `IsOf` holds if the registry returned this id
abbrev pub IsOf : Shelves → Where Class → Type 0
IsOf registry id = Shows registry id

-- the class with an id
abbrev pub class_of : Where Class → Class
class_of id = id.value
