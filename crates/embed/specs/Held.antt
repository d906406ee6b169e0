-- The resources that a handle owns.
use Rattle.std.specs.Prelude.{Bool, true, false}
use base.Fml.{Fml, ftrue}
use denote.RawPtr.{Ptr}
use Rattle.std.specs.Box.Ownership.{box_owns}
use Rattle.std.specs.declared.alloc.Global.{Global}
use Rattle.std.specs.contracts.impls.GlobalAllocator.TheImpl.{ghosts}
use Rattle.embedded.specs.Classes.{Classes}
use Rattle.embedded.specs.contracts.engine.Engine.{the_row}

-- The heap of the C library, a single one.
abbrev pub heap : Global
heap = record { memory = record { seal = tt } }

-- For an open handle, the engine at the pointer, and the right to free its block.
abbrev pub held : Bool → Ptr → Classes → Fml
held true p classes = box_owns (ghosts.dealloc_token heap) the_row p classes
held false p classes = ftrue
