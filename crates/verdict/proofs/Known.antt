-- The third profile knows all types and library methods of the definitions, so no class names what is beyond it.
use Rattle.std.proofs.Common.{◌≡◌, ℕ, zero, suc, Bool, true, false, List, [], ◌∷◌, Option, Some, None, refl, sym, ap, ◌∙◌}
use Rattle.std.specs.Prelude.{◌&&◌, Any, IsFalse, slice_get}
use Rattle.std.proofs.lemmas.Bool.{and_from, false≢true}
use Rattle.jtypes.specs.declared.refusal.Refusal.{Refusal}
use Rattle.jtypes.specs.declared.refusal.Refusal.TheVariants.{BadDescriptor, UnknownMember, BadStackMap}
use Rattle.jtypes.specs.declared.types.JType.{JType}
use Rattle.jtypes.specs.declared.types.JType.TheVariants as type
use Rattle.jtypes.specs.declared.types.RefType.{RefType}
use Rattle.jtypes.specs.Profile.{Third}
use Rattle.constpool.specs.Lookup.{Slot}
use Rattle.classfile.specs.declared.class_file.Member.{Member}
use Rattle.classfile.specs.declared.class_file.Parts.{Parts}
use Rattle.classfile.specs.View.{ClassView, view_of}
use Rattle.decode.specs.declared.instruction.Instruction.{Instruction}
use Rattle.decode.specs.declared.instruction.Instruction.TheVariants.{Invoke, CheckCast, InstanceOf}
use Rattle.frames.specs.declared.members.Callee.{Callee}
use Rattle.frames.specs.declared.members.Reached.{Reached}
use Rattle.frames.specs.declared.members.Reached.TheVariants.{Library, Own}
use Rattle.frames.specs.Signatures.{constant_type}
use Rattle.frames.specs.Members.{callee_at}
use Rattle.verdict.specs.Known.{knows_type, knows_types, knows_result, knows_reached, knows_callee, knows_constant, knows_named}
use Rattle.verdict.specs.Verdict.{NamesBeyond}
use Rattle.verdict.proofs.Methods.{any_at}

type_known : (t : JType) → knows_type Third t ≡ true
type_known (type.Ref r) = refl
type_known type.Top = refl
type_known type.Int = refl
type_known type.Long = refl
type_known type.Null = refl

types_known : (ts : List JType) → knows_types Third ts ≡ true
types_known [] = refl
types_known (t ∷ ts) = and_from (knows_type Third t) (knows_types Third ts) (type_known t) (types_known ts)

result_known : (t : Option JType) → knows_result Third t ≡ true
result_known None = refl
result_known (Some t) = type_known t

reached_known : (r : Reached) → knows_reached Third r ≡ true
reached_known (Library n) = refl
reached_known (Own k) = refl

callee_known : (c : Option Callee) → knows_callee Third c ≡ true
callee_known None = refl
callee_known (Some c) = reached_known c.reached

constant_known : (r : Option RefType) → knows_constant Third r ≡ true
constant_known None = refl
constant_known (Some r) = refl

named_known : (v : ClassView) (i : Instruction) → knows_named Third v i ≡ true
named_known v (Invoke kind i) = callee_known (callee_at v kind i)
named_known v (CheckCast i) = constant_known (constant_type v i)
named_known v (InstanceOf i) = constant_known (constant_type v i)
named_known v _ = refl

both : (a b : Bool) → a ≡ true → b ≡ true → IsFalse (a && b) → ⊥
both a b e f h = false≢true (sym h ∙ and_from a b e f)

pub none_beyond : (pool : List Slot) (p : Parts) (r : Refusal) → NamesBeyond Third pool p r → ⊥
none_beyond pool p BadDescriptor any =
    let m = any_at _ p.methods any in
    let s = m.3.0 in
    both (knows_types Third s.params) (knows_result Third s.result) (types_known s.params) (result_known s.result) m.3.2
none_beyond pool p UnknownMember any =
    let m = any_at _ p.methods any in
    let q = any_at _ m.3.1.1 m.3.1.4 in
    false≢true (sym q.3 ∙ named_known (view_of pool p) q.1.instruction)
none_beyond pool p BadStackMap any =
    let m = any_at _ p.methods any in
    let d = any_at _ m.3.1.3 m.3.1.6 in
    both (knows_types Third d.1.1.locals) (knows_types Third d.1.1.stack) (types_known d.1.1.locals) (types_known d.1.1.stack) d.3
none_beyond pool p _ h = h
