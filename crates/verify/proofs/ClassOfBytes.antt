-- Lemmas about the class of the bytes of a class file.
use Rattle.std.proofs.Common.{◌≡◌, ℕ, List, [], length, refl, sym, ap, ◌∙◌, subst}
use Rattle.std.specs.Prelude.{IsSome}
use Rattle.std.proofs.lemmas.Option.{get_or_from_slice_get}
use Rattle.jtypes.specs.Layout.{IsLaidOut}
use Rattle.jtypes.proofs.Laws.{laid_out_once}
use Rattle.constpool.specs.Lookup.{Slot}
use Rattle.classfile.specs.declared.class_file.Parts.{Parts}
use Rattle.classfile.specs.Class.{class_file}
use Rattle.typecheck.specs.Typing.{Class, IsProcessOf}
use Rattle.typecheck.specs.declared.typed.Typed.{Typed}
use Rattle.verdict.specs.Judged.{Judged, IsJudgedAs, process_row}
use Rattle.verdict.specs.Verdict.{IsClassOf, IsClassOfFile}
use Rattle.verify.proofs.Linked.{element, process_stands}
use Rattle.verify.specs.TheClass.{TheClass, TheClass-prop}
use Rattle.jtypes.specs.Profile.{Third}

-- The class of the bytes is the class of the constant pool and the parts that the bytes contain.
pub of_file : (bytes : List ℕ) (c : Class) (pool : List Slot) (parts : Parts) → IsClassOf Third bytes c → IsLaidOut (class_file (length bytes)) bytes (pool, parts) → IsClassOfFile Third pool parts c
of_file bytes c pool parts of laid =
    let same = (laid_out_once (class_file (length bytes)) bytes [] bytes [] (of.pool, of.parts) (pool, parts) of.file.laid_out laid refl).2 in
    subst (λ (x : List Slot × Parts). IsClassOfFile Third x.0 x.1 c) same of.class

abbrev pub the_class : (bytes : List ℕ) (c : Class) (pool : List Slot) (parts : Parts) → IsClassOf Third bytes c → IsLaidOut (class_file (length bytes)) bytes (pool, parts) → TheClass pool parts
the_class bytes c pool parts of laid = (c, ∣ of_file bytes c pool parts of laid ∣₁)

-- The class of that constant pool and those parts is the class of the bytes.
pub is_class : (bytes : List ℕ) (c : Class) (pool : List Slot) (parts : Parts) → IsClassOf Third bytes c → IsLaidOut (class_file (length bytes)) bytes (pool, parts) → (t : TheClass pool parts) → IsClassOf Third bytes t.0
is_class bytes c pool parts of laid t = subst (λ (x : TheClass pool parts). IsClassOf Third bytes x.0) (TheClass-prop pool parts (the_class bytes c pool parts of laid) t) of

-- ---- preconditions of the linker

pub laid_as : (bytes : List ℕ) (pool q : List Slot) (parts p : Parts) → q ≡ pool → p ≡ parts → IsLaidOut (class_file (length bytes)) bytes (pool, parts) → IsLaidOut (class_file (length bytes)) bytes (q, p)
laid_as bytes pool q parts p same alike laid =
    subst (λ (x : List Slot). IsLaidOut (class_file (length bytes)) bytes (x, p)) (sym same) (subst (λ (y : Parts). IsLaidOut (class_file (length bytes)) bytes (pool, y)) (sym alike) laid)

-- The typed methods contain `process`.
pub has_process : (c : Class) (v : Judged) (j : ℕ) → IsJudgedAs c v → IsProcessOf c j → IsSome (process_row v.methods)
has_process c v j judged is =
    let r = judged.process j is in
    let x = element v.methods r.0 r.1 in
    let same = get_or_from_slice_get v.methods r.0 x.0 x.0 x.1 in
    process_stands v.methods r.0 x.0 x.1 (ap (λ (row : Typed). row.is_process) (sym same) ∙ (r.2 x.0).1)
