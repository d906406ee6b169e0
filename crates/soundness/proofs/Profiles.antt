-- A class that a profile accepts is the same class in the one after it, which accepts it too.
use Rattle.std.proofs.Common.{suc, ◌≡◌, ℕ, ◌<◌, ◌≤◌, Bool, true, false, List, [], ◌∷◌, Some, refl, sym, ap, subst, arith, ◌⊎◌, inl, inr}
use Rattle.std.specs.Prelude.{slice_get, IsFalse}
use Rattle.std.proofs.lemmas.Bool.{cases_lt}
use Rattle.std.specs.List.{AllZip}
use Rattle.jtypes.specs.Profile.{Profile, First, Second, Third}
use Rattle.jtypes.specs.declared.refusal.Refusal.{Refusal}
use Rattle.jtypes.specs.declared.refusal.Refusal.TheVariants.{BadDescriptor, UnknownMember, BadStackMap, ConstructorForm, Recursive, StepLimit, WordLimit, FrameLimit}
use Rattle.constpool.specs.Lookup.{Slot}
use Rattle.classfile.specs.declared.class_file.Member.{Member}
use Rattle.classfile.specs.declared.class_file.Parts.{Parts}
use Rattle.classfile.specs.declared.class_file.CodeParts.{CodeParts}
use Rattle.classfile.specs.View.{ClassView, view_of}
use Rattle.decode.specs.declared.instruction.Placed.{Placed}
use Rattle.decode.specs.Code.{IsSequence, StopsWith}
use Rattle.decode.specs.Profiles.{IsNext}
use Rattle.decode.specs.Places.{CodeStands}
use Rattle.decode.proofs.Runs.{sequence_once}
use Rattle.decode.proofs.Profiles.{goes_on, stops_nowhere, reads_the_same}
use Rattle.decode.proofs.Unrefused.{members_unread}
use Rattle.frames.specs.declared.frame.Environment.{Environment}
use Rattle.typecheck.specs.Typing.{Method, Class, IsProcessOf}
use Rattle.bounds.specs.Recursion.{IsRecursive}
use Rattle.bounds.specs.Paths.{AreBounds, SomePathExceeds, step_limit}
use Rattle.verdict.specs.Meaning.{Means}
use Rattle.verdict.specs.Shape.{HasCode, HasConstructor, is_constructor}
use Rattle.verdict.specs.Verdict.{IsClassFile, HasShape, InstructionStands, InstructionsStand, HasInstructions, IsBody, BodyStands, TypesStand, HasTypes, IsMethodOf, IsClassOfFile, ClassStands, by_layout, by_shape, by_instructions, by_types, by_class, by_names, NamesBeyond, IsAccepted}
use Rattle.verdict.proofs.ConstructorCode.{constructor_sequence}
use Rattle.verdict.proofs.Methods.{any_at, any_from}
use Rattle.verdict.proofs.OnlyOne.{the_only}
use Rattle.soundness.specs.Profiles.{AcceptedIsKept, ClassIsKept, ClassGoesOn, BoundsAreKept, MeaningIsKept}
use Rattle.soundness.proofs.Beyond.{signature_beyond, named_beyond, frame_beyond}
use Rattle.soundness.proofs.OneClass.{code_once, one_class}

-- ---- a class of a profile is a class of the one after it

body_goes_on : (old new : Profile) → IsNext old new → (pool : List Slot) (p : Parts) (m : Member) (e : Environment) (code : List Placed) (tables : List (List ℕ)) → IsBody old pool p m e code tables → IsBody new pool p m e code tables
body_goes_on old new next pool p m e code tables b = record {
  parts = b.parts;
  has_code = b.has_code;
  signature = b.signature;
  max_stack = b.max_stack;
  max_locals = b.max_locals;
  sequence = goes_on old new next pool 0 b.parts.code code b.sequence;
  tables_are = b.tables_are;
}

methods_go_on : (old new : Profile) → IsNext old new → (pool : List Slot) (p : Parts) (items : List Member) (ms : List Method) → AllZip (IsMethodOf old pool p) items ms → AllZip (IsMethodOf new pool p) items ms
methods_go_on old new next pool p [] [] h = h
methods_go_on old new next pool p [] (m ∷ ms) h = absurd h
methods_go_on old new next pool p (x ∷ items) [] h = absurd h
methods_go_on old new next pool p (x ∷ items) (m ∷ ms) h = (
  record { tables = h.0.tables; body = body_goes_on old new next pool p x m.environment m.code h.0.tables h.0.body; declared = h.0.declared },
  methods_go_on old new next pool p items ms h.1,
)

pub class_goes_on : ClassGoesOn
class_goes_on old new next bytes c of = record {
  pool = of.pool;
  parts = of.parts;
  file = of.file;
  class = record { view = of.class.view; methods = methods_go_on old new next of.pool of.parts of.parts.methods c.methods of.class.methods };
}

pub class_is_kept : ClassIsKept
class_is_kept old new next bytes c d of other = one_class new bytes c d (class_goes_on old new next bytes c of) other

-- ---- each refusal of the later profile is a refusal of the earlier one

-- A later profile has no smaller limit of steps.
fewer : (old new : Profile) → IsNext old new → (n : ℕ) → step_limit new < n → step_limit old < n
fewer First Second next n h = omega (arith, h)
fewer Second Third next n h = h
fewer First First next n h = absurd next
fewer First Third next n h = absurd next
fewer Second First next n h = absurd next
fewer Second Second next n h = absurd next
fewer Third new next n h = absurd next

code_stands : (old : Profile) (v : ClassView) (bytes : List ℕ) (r : Refusal) → CodeStands old v.pool bytes r → InstructionStands old v bytes r
code_stands old v bytes UnknownMember h = absurd (members_unread old v.pool bytes h)
code_stands old v bytes r h = h

module _ (old new : Profile) (next : IsNext old new) (bytes : List ℕ) (ok : IsAccepted old bytes) (pool : List Slot) (p : Parts) (file : IsClassFile bytes pool p) where
  shape : HasShape pool p
  shape = record { none_stands = λ r s. ok r (by_shape pool p file s) }

  instructions : HasInstructions old pool p
  instructions = record { none_stands = λ r s. ok r (by_instructions pool p file shape s) }

  types : HasTypes old pool p
  types = record { none_stands = λ r s. ok r (by_types pool p file shape instructions s) }

  -- The decoder stops in no method except the constructor.
  never_stops : (k : ℕ) (m : Member) → slice_get p.methods k ≡ Some m → IsFalse (is_constructor pool m) → (c : CodeParts) → HasCode pool m c → (r : Refusal) → StopsWith old pool c.code r → ⊥
  never_stops k m at other c has r s = instructions.none_stands r (any_from _ p.methods k m at (other, (c, has, code_stands old (view_of pool p) c.code r (inl s))))

  new_instructions : (r : Refusal) → InstructionsStand new pool p r → ⊥
  new_instructions r any = go (any_at _ p.methods any)
    where
      go : (k : ℕ) × (m : Member) × (slice_get p.methods k ≡ Some m) × (IsFalse (is_constructor pool m) × ((c : CodeParts) × HasCode pool m c × InstructionStands new (view_of pool p) c.code r)) → ⊥
      go (k, m, at, (other, (c, has, stands))) = refuse r stands
        where
          refuse : (q : Refusal) → InstructionStands new (view_of pool p) c.code q → ⊥
          refuse UnknownMember (code, s, unknown) =
              instructions.none_stands UnknownMember (any_from _ p.methods k m at (other, (c, has, (code, reads_the_same old new next pool c.code code (never_stops k m at other c has) s, unknown))))
          refuse q s = by_code q s
            where
              by_code : (q : Refusal) → CodeStands new pool c.code q → ⊥
              by_code q (inl stops) = stops_nowhere old new next pool c.code (never_stops k m at other c has) q stops
              by_code q (inr (code, s, b)) =
                  instructions.none_stands q (any_from _ p.methods k m at (other, (c, has, code_stands old (view_of pool p) c.code q (inr (code, reads_the_same old new next pool c.code code (never_stops k m at other c has) s, b)))))

  body_back : (k : ℕ) (m : Member) → slice_get p.methods k ≡ Some m → IsFalse (is_constructor pool m) → (e : Environment) (code : List Placed) (tables : List (List ℕ)) → IsBody new pool p m e code tables → IsBody old pool p m e code tables
  body_back k m at other e code tables b = record {
    parts = b.parts;
    has_code = b.has_code;
    signature = b.signature;
    max_stack = b.max_stack;
    max_locals = b.max_locals;
    sequence = reads_the_same old new next pool b.parts.code code (never_stops k m at other b.parts b.has_code) b.sequence;
    tables_are = b.tables_are;
  }

  new_types : (r : Refusal) → TypesStand new pool p r → ⊥
  new_types r any = go (any_at _ p.methods any)
    where
      go : (k : ℕ) × (m : Member) × (slice_get p.methods k ≡ Some m) × (IsFalse (is_constructor pool m) × ((e : Environment) × (code : List Placed) × (tables : List (List ℕ)) × IsBody new pool p m e code tables × BodyStands (view_of pool p) e code tables r)) → ⊥
      go (k, m, at, (other, (e, code, tables, body, stands))) =
          types.none_stands r (any_from _ p.methods k m at (other, (e, code, tables, body_back k m at other e code tables body, stands)))

  -- The constructor has only instructions of the first profile.
  constructor_back : HasConstructor pool p → (k : ℕ) (m : Member) → slice_get p.methods k ≡ Some m → is_constructor pool m ≡ true → (e : Environment) (code : List Placed) (tables : List (List ℕ)) → IsBody new pool p m e code tables → IsBody old pool p m e code tables
  constructor_back has k m at is e code tables b =
      let same : m ≡ has.0 = the_only (is_constructor pool) p.methods has.0 has.1 k m at is in
      let form = has.2 in
      let has_code : HasCode pool m form.parts = subst (λ (x : Member). HasCode pool x form.parts) (sym same) form.has_code in
      let parts : b.parts ≡ form.parts = code_once pool m b.parts form.parts b.has_code has_code in
      let found = constructor_sequence old pool form.code.high form.code.low form.parts.code form.code.bytes form.code.calls in
      let whole : form.parts.code ≡ b.parts.code = ap (λ (x : CodeParts). x.code) (sym parts) in
      let earlier : IsSequence old pool 0 b.parts.code found.0 = subst (λ (t : List ℕ). IsSequence old pool 0 t found.0) whole found.1 in
      let one : found.0 ≡ code = sequence_once new pool 0 b.parts.code b.parts.code found.0 code refl (goes_on old new next pool 0 b.parts.code found.0 earlier) b.sequence in
      record {
        parts = b.parts;
        has_code = b.has_code;
        signature = b.signature;
        max_stack = b.max_stack;
        max_locals = b.max_locals;
        sequence = subst (λ (ps : List Placed). IsSequence old pool 0 b.parts.code ps) one earlier;
        tables_are = b.tables_are;
      }

  each_back : HasConstructor pool p → (k : ℕ) (m : Member) → slice_get p.methods k ≡ Some m → (method : Method) → IsMethodOf new pool p m method → IsMethodOf old pool p m method
  each_back has k m at method is = go (is_constructor pool m) refl
    where
      go : (b : Bool) → is_constructor pool m ≡ b → IsMethodOf old pool p m method
      go true e = record { tables = is.tables; body = constructor_back has k m at e method.environment method.code is.tables is.body; declared = is.declared }
      go false e = record { tables = is.tables; body = body_back k m at e method.environment method.code is.tables is.body; declared = is.declared }

  methods_back : (items : List Member) (ms : List Method) → ((k : ℕ) (m : Member) → slice_get items k ≡ Some m → (method : Method) → IsMethodOf new pool p m method → IsMethodOf old pool p m method)
      → AllZip (IsMethodOf new pool p) items ms → AllZip (IsMethodOf old pool p) items ms
  methods_back [] [] back h = h
  methods_back [] (m ∷ ms) back h = absurd h
  methods_back (x ∷ items) [] back h = absurd h
  methods_back (x ∷ items) (m ∷ ms) back h = (back 0 x refl m h.0, methods_back items ms (λ k y at n is. back (suc k) y at n is) h.1)

  class_back : HasConstructor pool p → (c : Class) → IsClassOfFile new pool p c → IsClassOfFile old pool p c
  class_back has c of = record { view = of.view; methods = methods_back p.methods c.methods (each_back has) of.methods }

  more_steps : (c : Class) (j : ℕ) → SomePathExceeds c j (λ k. k.steps) (step_limit new) → SomePathExceeds c j (λ k. k.steps) (step_limit old)
  more_steps c j (k, path, more) = (k, path, fewer old new next k.steps more)

  class_stands : (c : Class) (r : Refusal) → ClassStands new c r → ClassStands old c r
  class_stands c Recursive h = h
  class_stands c StepLimit (ranked, (j, is, more)) = (ranked, (j, is, more_steps c j more))
  class_stands c WordLimit h = h
  class_stands c FrameLimit h = h
  class_stands c r (ranked, (j, is, none)) = absurd none

  -- What a class names beyond the later profile is beyond the earlier one too.
  names : (r : Refusal) → NamesBeyond new pool p r → ⊥
  names BadDescriptor any =
      let m = any_at _ p.methods any in
      ok BadDescriptor (by_names pool p file tt (any_from _ p.methods m.0 m.1 m.2 (m.3.0, m.3.1, signature_beyond old new next m.3.0 m.3.2)))
  names UnknownMember any =
      let m = any_at _ p.methods any in
      let h = m.3.1 in
      let q = any_at _ h.1 h.4 in
      let sequence = reads_the_same old new next pool h.0.code h.1 (never_stops m.0 m.1 m.2 m.3.0 h.0 h.2) h.3 in
      ok UnknownMember (by_names pool p file shape (any_from _ p.methods m.0 m.1 m.2 (m.3.0, (h.0, h.1, h.2, sequence, any_from _ h.1 q.0 q.1 q.2 (named_beyond old new next (view_of pool p) q.1.instruction q.3)))))
  names BadStackMap any =
      let m = any_at _ p.methods any in
      let h = m.3.1 in
      let d = any_at _ h.3 h.6 in
      let body = body_back m.0 m.1 m.2 m.3.0 h.0 h.1 h.2 h.4 in
      ok BadStackMap (by_names pool p file (shape, instructions) (any_from _ p.methods m.0 m.1 m.2 (m.3.0, (h.0, h.1, h.2, h.3, body, h.5, any_from _ h.3 d.0 d.1 d.2 (frame_beyond old new next d.1.1 d.3)))))
  names r h = absurd h

  new_class : (c : Class) → IsClassOfFile new pool p c → (r : Refusal) → ClassStands new c r → ⊥
  new_class c of r stands =
      shape.none_stands ConstructorForm (λ has. ok r (by_class pool p c file shape instructions types (class_back has c of) (class_stands c r stands)))

pub accepted_is_kept : AcceptedIsKept
accepted_is_kept old new next bytes ok r (by_names pool p file _ s) = names old new next bytes ok pool p file r s
accepted_is_kept old new next bytes ok r (by_layout s) = ok r (by_layout s)
accepted_is_kept old new next bytes ok r (by_shape pool p file s) = ok r (by_shape pool p file s)
accepted_is_kept old new next bytes ok r (by_instructions pool p file _ s) = new_instructions old new next bytes ok pool p file r s
accepted_is_kept old new next bytes ok r (by_types pool p file _ _ s) = new_types old new next bytes ok pool p file r s
accepted_is_kept old new next bytes ok r (by_class pool p c file _ _ _ of s) = new_class old new next bytes ok pool p file c of r s

-- ---- the bounds, and the meaning of invocations

pub bounds_are_kept : BoundsAreKept
bounds_are_kept old new next bytes c d j b ok of other is are = (subst (λ (x : Class). IsProcessOf x j) (sym same) is, bounds, few (cases_lt (step_limit old) b.steps))
  where
    same : c ≡ d
    same = class_is_kept old new next bytes c d of other

    bounds : AreBounds c j b
    bounds = subst (λ (x : Class). AreBounds x j b) (sym same) are

    few : (step_limit old < b.steps) ⊎ (b.steps ≤ step_limit old) → b.steps ≤ step_limit old
    few (inr l) = l
    few (inl l) =
        let file = of.file in
        let shape : HasShape of.pool of.parts = record { none_stands = λ r s. ok r (by_shape of.pool of.parts file s) } in
        let instructions : HasInstructions old of.pool of.parts = record { none_stands = λ r s. ok r (by_instructions of.pool of.parts file shape s) } in
        let types : HasTypes old of.pool of.parts = record { none_stands = λ r s. ok r (by_types of.pool of.parts file shape instructions s) } in
        let recursive : IsRecursive c → ⊥ = λ h. ok Recursive (by_class of.pool of.parts c file shape instructions types of.class h) in
        let path = bounds.steps in
        let more : step_limit old < path.0.steps = omega (arith, l, path.2) in
        let process : IsProcessOf c j = subst (λ (x : Class). IsProcessOf x j) (sym same) is in
        absurd (ok StepLimit (by_class of.pool of.parts c file shape instructions types of.class (recursive, (j, process, (path.0, path.1, more)))))

pub meaning_is_kept : MeaningIsKept
meaning_is_kept old new next bytes c d call f of other =
    let same : c ≡ d = class_is_kept old new next bytes c d of other in
    (subst (λ (x : Class). Means x call f) same, subst (λ (x : Class). Means x call f) (sym same))
