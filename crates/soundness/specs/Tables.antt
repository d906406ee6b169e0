-- The frames that the stack map tables of a method declare.
use Rattle.std.specs.Prelude.{◌≡◌, ℕ, List}
use Rattle.classfile.specs.View.{ClassView}
use Rattle.decode.specs.declared.instruction.Placed.{Placed}
use Rattle.frames.specs.Frames.{Frame}
use Rattle.frames.specs.declared.frame.Environment.{Environment}
use Rattle.frames.specs.StackMap.{IsDeclared}

-- The same tables declare at most one list of frames.
abbrev pub EachTableIsOne : Type 0
EachTableIsOne = (v : ClassView) (e : Environment) (code : List Placed) (tables : List (List ℕ)) (ds others : List (ℕ × Frame)) → IsDeclared v e code tables ds → IsDeclared v e code tables others → ds ≡ others
