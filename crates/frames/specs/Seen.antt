-- The models of the code's members, methods, library methods and declared frames.
use Rattle.std.specs.Prelude.{◌≡◌, ◌<◌, ◌^◌, ℕ, List, [], length, map, get_or, slice_index_or, All}
use Rattle.jtypes.specs.declared.types.JType.{JType}
use Rattle.constpool.specs.declared.lookup.MemberRef.{MemberRef}
use Rattle.constpool.specs.Lookup as lookup
use Rattle.classfile.specs.declared.view.MethodView.{MethodView}
use Rattle.classfile.specs.View as view
use Rattle.frames.specs.declared.members.LibraryRow.{LibraryRow}
use Rattle.frames.specs.Frames.{Frame, first_frame}
use Rattle.frames.specs.declared.frame.Environment.{Environment}
use Rattle.frames.specs.declared.frame.Flow.{Flow}
use Rattle.frames.specs.declared.table.Declared.{Declared}
use Rattle.frames.specs.declared.table.Frames.{Frames}
use Rattle.frames.specs.Members as members

abbrev pub member_seen : MemberRef → lookup.MemberRef
member_seen m = record { class = m.class.now; name = m.name.now; descriptor = m.descriptor.now }

abbrev pub method_seen : MethodView → view.MethodView
method_seen m = record { flags = m.flags; name = m.name.now; descriptor = m.descriptor.now }

abbrev pub row_seen : LibraryRow → members.LibraryRow
row_seen r = record { kind = r.kind; class = r.class.now; name = r.name.now; descriptor = r.descriptor.now; native = r.native }

abbrev pub frame_seen : Flow → Frame
frame_seen f = record { locals = f.locals.row; stack = f.stack }

-- the declared frame, with its locals from the kept ones
abbrev pub frame_kept : List (List JType) → Declared → Frame
frame_kept kept d = record { locals = slice_index_or kept d.row []; stack = d.stack }

abbrev pub declared_seen : List (List JType) → List Declared → List (ℕ × Frame)
declared_seen kept ds = map (λ d. (d.place, frame_kept kept d)) ds

abbrev pub frames_seen : Frames → List (ℕ × Frame)
frames_seen fs = declared_seen fs.first.locals.kept fs.declared.items

-- `AreKept kept ds` holds if the locals of each declared frame are among the kept ones
abbrev pub AreKept : List (List JType) → List Declared → Type 0
AreKept kept ds = All (λ d. d.row < length kept) ds

-- `AreInOrder ds` holds if the pcs of the declared frames increase and are below 2 ^ 64
pub record AreInOrder (ds : List Declared) : Type 0 where
  pub rise : (i j : ℕ) (d : Declared) → i < j → j < length ds → (get_or ds i d).place < (get_or ds j d).place
  pub fit : (i : ℕ) (d : Declared) → i < length ds → (get_or ds i d).place < 2 ^ 64

-- `AreRead e fs` holds if `fs` has the method's initial frame, which keeps the locals of the declared ones, and their pcs are below 2 ^ 64
pub record AreRead (e : Environment) (fs : Frames) : Type 0 where
  pub first : frame_seen fs.first ≡ first_frame e
  pub rows : AreKept fs.first.locals.kept fs.declared.items
  pub fit : All (λ d. d.place < 2 ^ 64) fs.declared.items
