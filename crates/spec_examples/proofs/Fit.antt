-- A reference that passes a cast fits the cast's type, and one that fits a type fits each type that it is assignable to.
use Rattle.std.proofs.Common.{◌≡◌, true, Option, Some, None, refl}
use Rattle.std.specs.Prelude.{slice_get}
use Rattle.jtypes.specs.declared.types.RefType.{RefType}
use Rattle.jtypes.specs.declared.types.RefType.TheVariants as ref
use Rattle.jtypes.specs.declared.types.RefValue.TheVariants as value
use Rattle.jtypes.specs.declared.operations.ArrayKind.{ArrayKind}
use Rattle.jtypes.specs.declared.operations.ArrayKind.TheVariants as array
use Rattle.jtypes.specs.Types.{ref_assignable}
use Rattle.jtypes.specs.Values.{Array, array_fits, array_passes, found_fits, found_passes}
use Rattle.spec_examples.specs.Statements.{PassedFits, FitsAssignable}

array_case : (k : ArrayKind) (r : RefType) → array_passes k r ≡ true → array_fits k r ≡ true
array_case array.Int ref.IntArray h = refl
array_case array.Int _ h = cc
array_case array.Long ref.LongArray h = refl
array_case array.Long _ h = cc

found_case : (o : Option Array) (r : RefType) → found_passes o r ≡ true → found_fits o r ≡ true
found_case None r h = h
found_case (Some a) r h = array_case a.kind r h

pub passed_fits : PassedFits
passed_fits arrays (value.Array id) r h = found_case (slice_get arrays id) r h
passed_fits arrays value.Null r h = refl
passed_fits arrays (value.Long n) ref.Object h = refl
passed_fits arrays (value.Long n) _ h = cc
passed_fits arrays (value.Integer n) ref.Object h = refl
passed_fits arrays (value.Boolean n) ref.Object h = refl
passed_fits arrays (value.Integer n) _ h = cc
passed_fits arrays (value.Boolean n) _ h = cc
passed_fits arrays value.Entry ref.Object h = refl
passed_fits arrays value.Entry _ h = cc
passed_fits arrays value.This ref.Object h = refl
passed_fits arrays value.This _ h = cc
passed_fits arrays value.Args ref.Object h = refl
passed_fits arrays value.Args _ h = cc

-- An array that fits a type fits each type to which that type is assignable.
array_up : (k : ArrayKind) (q r : RefType) → array_fits k q ≡ true → ref_assignable q r ≡ true → array_fits k r ≡ true
array_up array.Int ref.Number r h e = cc
array_up array.Int q ref.Object h e = refl
array_up array.Int _ _ h e = cc
array_up array.Long ref.Number r h e = cc
array_up array.Long q ref.Object h e = refl
array_up array.Long _ _ h e = cc

found_up : (o : Option Array) (q r : RefType) → found_fits o q ≡ true → ref_assignable q r ≡ true → found_fits o r ≡ true
found_up None q r h e = h
found_up (Some a) q r h e = array_up a.kind q r h e

pub fits_assignable : FitsAssignable
fits_assignable arrays (value.Array id) q r h e = found_up (slice_get arrays id) q r h e
fits_assignable arrays value.Null q r h e = refl
fits_assignable arrays (value.Long n) ref.This r h e = cc
fits_assignable arrays (value.Long n) q ref.Object h e = refl
fits_assignable arrays (value.Long n) _ _ h e = cc
fits_assignable arrays (value.Integer n) ref.This r h e = cc
fits_assignable arrays (value.Boolean n) ref.This r h e = cc
fits_assignable arrays (value.Integer n) q ref.Object h e = refl
fits_assignable arrays (value.Boolean n) q ref.Object h e = refl
fits_assignable arrays (value.Integer n) _ _ h e = cc
fits_assignable arrays (value.Boolean n) _ _ h e = cc
fits_assignable arrays value.Entry ref.This r h e = cc
fits_assignable arrays value.Entry q ref.Object h e = refl
fits_assignable arrays value.Entry _ _ h e = cc
fits_assignable arrays value.This ref.Long r h e = cc
fits_assignable arrays value.This q ref.Object h e = refl
fits_assignable arrays value.This _ _ h e = cc
fits_assignable arrays value.Args ref.This r h e = cc
fits_assignable arrays value.Args q ref.Object h e = refl
fits_assignable arrays value.Args _ _ h e = cc
