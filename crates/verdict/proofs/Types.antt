-- A reported refusal of the types applies.
use Rattle.std.proofs.Common.{◌≡◌, ℕ, ◌+◌, ◌<◌, ◌≤◌, Bool, true, false, cond, List, [], ◌∷◌, length, length-append, Option, Some, None, refl, sym, ap, ◌∙◌, subst, arith, ◌⊎◌, inl, inr}
use Rattle.std.specs.Prelude.{slice_get, min, ◌==◌, is_some, IsSome}
use Rattle.std.proofs.lemmas.Bool.{eqb-true, eq-eqb, cases_lt}
use Rattle.jtypes.specs.declared.refusal.Refusal.{Refusal}
use Rattle.jtypes.specs.declared.refusal.Refusal.TheVariants.{NoMemory, BadDescriptor, BadCode, BadStackMap, TypeMismatch, FallsOff}
use Rattle.constpool.specs.Lookup.{Slot}
use Rattle.classfile.specs.declared.class_file.Member.{Member}
use Rattle.classfile.specs.declared.class_file.Parts.{Parts}
use Rattle.classfile.specs.declared.class_file.CodeParts.{CodeParts}
use Rattle.classfile.specs.View.{ClassView, MethodView, method_view, view_of}
use Rattle.decode.specs.declared.instruction.Placed.{Placed}
use Rattle.decode.specs.Code.{IsSequence}
use Rattle.decode.specs.Places.{at_place}
use Rattle.decode.proofs.Runs.{takes_one}
use Rattle.frames.specs.declared.frame.Environment.{Environment}
use Rattle.frames.specs.declared.signatures.Signature.{Signature}
use Rattle.frames.specs.Signatures.{method_signature}
use Rattle.typecheck.specs.Typing.{Method, instruction_at}
use Rattle.typecheck.specs.Mismatch.{CheckRefuses, HasMismatch, IsMismatch, at_start, at_place_of}
use Rattle.verdict.specs.declared.spot.Located.{Located}
use Rattle.verdict.specs.Shape.{is_constructor, HasBadCode, empty, long}
use Rattle.verdict.specs.Verdict.{IsBody, TypesStand}
use Rattle.verdict.specs.Judging.{HasInstructionsOf}
use Rattle.verdict.specs.Spots.{StandsIn, IsLocated}
use Rattle.verdict.specs.TypedClasses.{type_spot}
use Rattle.verdict.proofs.Spots.{told}
use Rattle.verdict.proofs.Codes.{has_some}
use Rattle.verdict.proofs.Methods.{any_from}
use Rattle.jtypes.specs.Profile.{Third}

-- ---- pcs

-- The pc of an instruction is less than the end of its bytes.
place_within : (pool : List Slot) (at : ℕ) (text : List ℕ) (code : List Placed) → IsSequence Third pool at text code → (q : ℕ) (x : Placed) → at_place code q ≡ Some x → q < at + length text
place_within pool at text [] s q x e = cc
place_within pool at text (p ∷ code) s q x e = go (p.place == q) refl e (place_within pool (at + length s.1) s.2 code s.6 q x)
  where
    some : 0 < length s.1
    some = takes_one Third pool at s.1 p.instruction s.5

    whole : length text ≡ length s.1 + length s.2
    whole = ap length s.3 ∙ length-append s.1 s.2

    go : (b : Bool) → (p.place == q) ≡ b → cond b (Some p) (at_place code q) ≡ Some x → (at_place code q ≡ Some x → q < at + length s.1 + length s.2) → q < at + length text
    go true is f later = let same = eqb-true p.place q is in let first = s.0 in omega (arith, some, whole, same, first)
    go false is f later = let l = later f in omega (arith, l, whole)

fails_somewhere : (v : ClassView) (m : Method) (q : ℕ) → IsMismatch v m q → (q ≡ 0) ⊎ ((x : Placed) × (instruction_at m q ≡ Some x))
fails_somewhere v m _ (at_start h) = inl refl
fails_somewhere v m _ (at_place_of frames place p f before here at fails) = inr (p, here)

itself : (q : ℕ) → q < 65_536 → min q 4294967295 ≡ q
itself q l = omega (arith, l)

-- ---- members

-- Nonempty code has an instruction at pc 0.
begins : (pool : List Slot) (bytes : List ℕ) (code : List Placed) → IsSequence Third pool 0 bytes code → (code ≡ [] → ⊥) → IsSome (at_place code 0)
begins pool bytes [] s some = absurd (some refl)
begins pool bytes (p ∷ code) s some = ap (λ b. is_some (cond b (Some p) (at_place code 0))) (eq-eqb p.place 0 s.0)

-- ---- a method

-- The descriptor of a checked method has a signature.
pub signature_is : (pool : List Slot) (p : Parts) (number : ℕ) (parts : CodeParts) (code : List Placed) → HasInstructionsOf pool p number parts code → (m : Member) → slice_get p.methods number ≡ Some m → (w : MethodView) → method_view pool m ≡ w → (o : Option Signature) → o ≡ method_signature (view_of pool p) w → ((s : Signature) → o ≡ Some s → ⊥) → ⊥
signature_is pool p number parts code h m there w viewed None is none =
    let both : Some h.member ≡ Some m = sym h.there ∙ there in
    let same : h.member ≡ m = cc both in
    let view : method_view pool h.member ≡ w = ap (method_view pool) same ∙ viewed in
    h.shaped.none_stands BadDescriptor (inl (ap is_some (ap (method_signature (view_of pool p)) view ∙ sym is)))
signature_is pool p number parts code h m there w viewed (Some s) is none = none s refl

module _ (pool : List Slot) (p : Parts) (number : ℕ) (parts : CodeParts) (code : List Placed) (h : HasInstructionsOf pool p number parts code) (m : Member) (there : slice_get p.methods number ≡ Some m) (e : Environment) (tables : List (List ℕ)) (body : IsBody Third pool p m e code tables) where
  bad_code : HasBadCode pool h.member → ⊥
  bad_code bad = h.shaped.none_stands BadCode bad

  -- The code is short enough for the pc that a refusal has.
  short : length parts.code < 65_536
  short = go (cases_lt 65_535 (length parts.code))
    where
      go : (65_535 < length parts.code) ⊎ (length parts.code ≤ 65_535) → length parts.code < 65_536
      go (inl l) = absurd (bad_code (long parts (has_some pool h.member parts h.shaped.has_code) l))
      go (inr l) = omega (arith, l)

  place_is : (q : ℕ) → HasMismatch (view_of pool p) e code tables q → min q 4294967295 ≡ q
  place_is q fails = itself q (go (fails_somewhere (view_of pool p) (record { environment = e; code = code; declared = fails.1.0 }) q fails.1.2))
    where
      go : (q ≡ 0) ⊎ ((x : Placed) × (at_place code q ≡ Some x)) → q < 65_536
      go (inl first) = omega (arith, first)
      go (inr x) = let l = place_within pool 0 parts.code code h.good.sequence q x.0 x.1 in let k = short in omega (arith, l, k)

  not_empty : code ≡ [] → ⊥
  not_empty none =
      let nothing : parts.code ≡ [] = subst (λ (c : List Placed). IsSequence Third pool 0 parts.code c) none h.good.sequence in
      bad_code (empty parts (has_some pool h.member parts h.shaped.has_code) (ap length nothing))

  other : is_constructor pool m ≡ false
  other =
      let both : Some h.member ≡ Some m = sym h.there ∙ there in
      let same : h.member ≡ m = cc both in
      ap (is_constructor pool) (sym same) ∙ h.other

  -- There is an instruction at the pc of a type mismatch.
  stands : (q : ℕ) → HasMismatch (view_of pool p) e code tables q → IsSome (at_place code q)
  stands q fails = go (fails_somewhere (view_of pool p) (record { environment = e; code = code; declared = fails.1.0 }) q fails.1.2)
    where
      go : (q ≡ 0) ⊎ ((x : Placed) × (at_place code q ≡ Some x)) → IsSome (at_place code q)
      go (inl first) = subst (λ (n : ℕ). IsSome (at_place code n)) (sym first) (begins pool parts.code code h.good.sequence not_empty)
      go (inr x) = ap is_some x.1

  located : (r : Refusal) → TypesStand Third pool p r → StandsIn Third pool p r (type_spot number r) → (l : Located) → l.refusal ≡ r → l.spot ≡ type_spot number r → IsLocated (TypesStand Third pool p) pool p l
  located r s at l is spot = told (TypesStand Third pool p) pool p l r (type_spot number r) is spot s at

  -- A refusal of the types of a method applies at the reported spot.
  pub types_located : (r : Refusal) → CheckRefuses (view_of pool p) e code tables r → (l : Located) → l.refusal ≡ r → l.spot ≡ type_spot number r → IsLocated (TypesStand Third pool p) pool p l
  types_located NoMemory s l is spot = inl is
  types_located BadStackMap s l is spot = located BadStackMap (any_from _ p.methods number m there (other, (e, code, tables, body, s))) (m, there, (other, e, code, tables, body, s)) l is spot
  types_located (TypeMismatch place) s l is spot =
      let at : s.0 ≡ place = sym (place_is s.0 s.1) ∙ sym s.2 in
      let fails : HasMismatch (view_of pool p) e code tables place = subst (λ (q : ℕ). HasMismatch (view_of pool p) e code tables q) at s.1 in
      located (TypeMismatch place) (any_from _ p.methods number m there (other, (e, code, tables, body, fails))) (inr (m, there, (other, e, code, tables, body, (refl, stands place fails, fails)))) l is spot
  types_located FallsOff (inl falls) l is spot = located FallsOff (any_from _ p.methods number m there (other, (e, code, tables, body, falls))) (m, there, (other, e, code, tables, body, falls)) l is spot
  types_located FallsOff (inr none) l is spot = absurd (not_empty none)
  types_located r s l is spot = absurd s
