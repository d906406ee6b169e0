-- Lemmas about the spots of refusals.
use Rattle.std.proofs.Common.{◌≡◌, ◌≢◌, ℕ, false, List, length, Some, refl, sym, ap, ◌∙◌, subst, arith, ◌⊎◌, inl, inr}
use Rattle.std.specs.Prelude.{slice_get, Any}
use Rattle.std.specs.List.{AllWithin}
use Rattle.std.proofs.lemmas.Bool.{and_parts, false≢true, false_from_ne_true}
use Rattle.std.proofs.lemmas.Option.{slice_get_within, slice_get-map, get_or_from_slice_get}
use Rattle.std.specs.Prelude.{option_map}
use Rattle.jtypes.specs.declared.refusal.Refusal.{Refusal}
use Rattle.jtypes.specs.declared.refusal.Refusal.TheVariants.{NoMemory, BadDescriptor, ClassInitialiser, DuplicateMethod, NoBody, BadCode, ExceptionTable, UnknownMember}
use Rattle.jtypes.specs.Lists.{same_bytes}
use Rattle.jtypes.specs.Layout.{Stands}
use Rattle.jtypes.specs.Profile.{Third}
use Rattle.constpool.specs.Lookup.{Slot}
use Rattle.constpool.specs.Names.{clinit_name}
use Rattle.classfile.specs.declared.class_file.Member.{Member}
use Rattle.classfile.specs.declared.class_file.Parts.{Parts}
use Rattle.classfile.specs.declared.class_file.CodeParts.{CodeParts}
use Rattle.classfile.specs.View.{ClassView, method_view, text_at, view_of}
use Rattle.decode.specs.declared.fault.Fault.{Fault}
use Rattle.decode.specs.declared.instruction.Placed.{Placed}
use Rattle.decode.specs.Code.{IsSequence}
use Rattle.decode.specs.Places.{at_place}
use Rattle.decode.specs.Faults.{CodeStandsAt}
use Rattle.decode.proofs.Faults as faults
use Rattle.decode.proofs.Unrefused.{members_unread}
use Rattle.verdict.specs.declared.spot.Spot.{Spot}
use Rattle.verdict.specs.declared.spot.Spot.TheVariants.{Whole, InMethod, AtInstruction}
use Rattle.verdict.specs.declared.spot.Located.{Located}
use Rattle.verdict.specs.declared.instructions.Found.{Found}
use Rattle.verdict.specs.Shape.{HasCode, IsInitialiser, ShapeStands, is_constructor}
use Rattle.verdict.specs.Shaping.{HasGoodShape, MethodStands}
use Rattle.verdict.specs.ShapeSpots.{AreGoodUpTo, IsBadAt, IsNamedAt, AreDoublesAt}
use Rattle.verdict.specs.Spots.{InstructionStandsAt, NamesUnknownAt, StandsIn, StandsInMethod, IsAtSpot, IsLocated, IsToldOf}
use Rattle.verdict.specs.Verdict.{InstructionStands, InstructionsStand, TypesStand, IsClassFile, IsRefused, by_shape, by_instructions, by_types}
use Rattle.verdict.specs.Judging.{AreFound, IsUnknownAt}
use Rattle.verdict.proofs.Methods.{any_at, any_from, zip_back}
use Rattle.verdict.proofs.Texts.{same_is, is_same}
use Rattle.verdict.proofs.Verdicts.{instructions_stand}

-- ---- reported spots

pub told : (Stands : Refusal → Type 0) (pool : List Slot) (p : Parts) (l : Located) (r : Refusal) (s : Spot) → l.refusal ≡ r → l.spot ≡ s → Stands r → StandsIn Third pool p r s → IsLocated Stands pool p l
told Stands pool p l r s is at stands there =
    inr (subst Stands (sym is) stands, subst (λ (x : Refusal). StandsIn Third pool p x l.spot) (sym is) (subst (StandsIn Third pool p r) (sym at) there))

-- ---- the shape

pub bad_at : (pool : List Slot) (p : Parts) (j : ℕ) (r : Refusal) → IsBadAt pool p p.methods j r → ShapeStands pool p r × StandsInMethod Third pool p j r
bad_at pool p j BadDescriptor (n, m, at, s) = (any_from _ p.methods j m at s, (m, at, s))
bad_at pool p j NoBody (n, m, at, s) = (any_from _ p.methods j m at s, (m, at, s))
bad_at pool p j BadCode (n, m, at, s) = (any_from _ p.methods j m at s, (m, at, s))
bad_at pool p j ExceptionTable (n, m, at, s) = (any_from _ p.methods j m at s, (m, at, s))
bad_at pool p j r (n, m, at, s) = absurd s

pub is_bad_code : (pool : List Slot) (p : Parts) (r : Refusal) → (r ≡ NoMemory) ⊎ ShapeStands pool p r → r ≡ BadCode → Any (λ m. MethodStands pool p m r) p.methods
is_bad_code pool p r (inl e) is = let never : NoMemory ≡ BadCode = sym e ∙ is in cc never
is_bad_code pool p r (inr s) is = subst (λ (x : Refusal). Any (λ m. MethodStands pool p m x) p.methods) (sym is) (subst (ShapeStands pool p) is s)

pub none_bad : (pool : List Slot) (p : Parts) (r : Refusal) → AreGoodUpTo pool p p.methods (length p.methods) → Any (λ m. MethodStands pool p m r) p.methods → ⊥
none_bad pool p r good any =
    let at = any_at (λ (m : Member). MethodStands pool p m r) p.methods any in
    good at.0 at.1 r (slice_get_within p.methods at.0 at.1 at.2) at.2 at.3

pub initialiser_at : (pool : List Slot) (p : Parts) (j : ℕ) → IsNamedAt pool p.methods clinit_name j → StandsInMethod Third pool p j ClassInitialiser
initialiser_at pool p j (m, at, named) = (m, at, same_is (text_at pool m.name) clinit_name named)

pub no_initialiser : (pool : List Slot) (p : Parts) → AllWithin (λ m. same_bytes (text_at pool m.name) clinit_name ≡ false) p.methods 0 (length p.methods) → Any (IsInitialiser pool) p.methods → ⊥
no_initialiser pool p none any =
    let at = any_at (IsInitialiser pool) p.methods any in
    let within = slice_get_within p.methods at.0 at.1 at.2 in
    let here = none at.0 at.1 (omega arith) within in
    let is = get_or_from_slice_get p.methods at.0 at.1 at.1 at.2 in
    false≢true (sym (subst (λ (m : Member). same_bytes (text_at pool m.name) clinit_name ≡ false) is here) ∙ is_same (text_at pool at.1.name) clinit_name at.3)

pub double_at : (pool : List Slot) (p : Parts) (j : ℕ) → AreDoublesAt pool p.methods j → StandsInMethod Third pool p j DuplicateMethod
double_at pool p j (i, m, n, order, first, second, alike) =
    let same = and_parts (same_bytes (text_at pool m.name) (text_at pool n.name)) (same_bytes (text_at pool m.descriptor) (text_at pool n.descriptor)) alike in (
      i,
      method_view pool m,
      method_view pool n,
      record {
        order = order;
        first = slice_get-map (method_view pool) p.methods i ∙ ap (option_map (method_view pool)) first;
        second = slice_get-map (method_view pool) p.methods j ∙ ap (option_map (method_view pool)) second;
        name = same_is (text_at pool m.name) (text_at pool n.name) same.0;
        descriptor = same_is (text_at pool m.descriptor) (text_at pool n.descriptor) same.1;
      },
    )

-- ---- instructions

pub instruction_stands : (v : ClassView) (bytes : List ℕ) (place : ℕ) (r : Refusal) → InstructionStandsAt Third v bytes place r → InstructionStands Third v bytes r
instruction_stands v bytes place UnknownMember (code, s, q, at, unknown) = let k = faults.element code place q at in (code, s, (k.0, q, k.1, k.2, unknown))
instruction_stands v bytes place r h = faults.code_stands Third v.pool bytes place r h

-- A refusal of the decoder applies at its pc.
pub code_located : (v : ClassView) (bytes : List ℕ) (place : ℕ) (r : Refusal) → (r ≢ NoMemory → CodeStandsAt Third v.pool bytes place r) → (r ≡ NoMemory) ⊎ InstructionStandsAt Third v bytes place r
code_located v bytes place NoMemory h = inl refl
code_located v bytes place UnknownMember h = absurd (members_unread Third v.pool bytes (faults.code_stands Third v.pool bytes place UnknownMember (h (λ e. cc e))))
code_located v bytes place r h = inr (h (λ e. cc e))

-- The refusal of an unknown member applies at its pc.
pub unknown_stands : (v : ClassView) (bytes : List ℕ) (code : List Placed) → IsSequence Third v.pool 0 bytes code → (p : Placed) → at_place code p.place ≡ Some p → (f : Fault) → (f.refusal ≡ NoMemory) ⊎ IsUnknownAt v p f
    → (f.refusal ≡ NoMemory) ⊎ InstructionStandsAt Third v bytes f.place f.refusal
unknown_stands v bytes code sequence p at f (inl none) = inl none
unknown_stands v bytes code sequence p at f (inr u) =
    inr (subst (λ (r : Refusal). InstructionStandsAt Third v bytes f.place r) (sym u.refusal) (subst (λ (n : ℕ). NamesUnknownAt Third v bytes n) (sym u.place) (code, sequence, p, at, u.unknown)))

pub instruction_located : (pool : List Slot) (p : Parts) (n : ℕ) (codes : List CodeParts) → HasGoodShape pool p codes n → (k : ℕ) (parts : CodeParts) → slice_get codes k ≡ Some parts → (k ≡ n → ⊥)
    → (f : Fault) → (f.refusal ≡ NoMemory) ⊎ InstructionStandsAt Third (view_of pool p) parts.code f.place f.refusal → (l : Located) → l.refusal ≡ f.refusal → l.spot ≡ AtInstruction k f.place → IsLocated (InstructionsStand Third pool p) pool p l
instruction_located pool p n codes shape k parts at other f (inl e) l is spot = inl (is ∙ e)
instruction_located pool p n codes shape k parts at other f (inr s) l is spot =
    let m = zip_back (HasCode pool) p.methods codes k parts shape.codes_are at in
    let not_one : is_constructor pool m.0 ≡ false = false_from_ne_true (is_constructor pool m.0) (λ e. other (shape.constructor_is.no_other k m.0 m.1 e)) in
    told (InstructionsStand Third pool p) pool p l f.refusal (AtInstruction k f.place) is spot
    (any_from _ p.methods k m.0 m.1 (not_one, (parts, m.2, instruction_stands (view_of pool p) parts.code f.place f.refusal s)))
    (inl (m.0, m.1, (not_one, parts, m.2, s)))

-- ---- all levels

spot_in : (bytes : List ℕ) (pool : List Slot) (p : Parts) (r : Refusal) (s : Spot) → IsClassFile bytes pool p → StandsIn Third pool p r s → IsAtSpot Third bytes r s
spot_in bytes pool p r Whole file h = inr h
spot_in bytes pool p r (InMethod j) file h = (pool, p, file, h)
spot_in bytes pool p r (AtInstruction j place) file h = (pool, p, file, h)

pub shape_told : (bytes : List ℕ) (pool : List Slot) (p : Parts) (l : Located) → IsClassFile bytes pool p → IsLocated (ShapeStands pool p) pool p l → IsToldOf bytes l
shape_told bytes pool p l file (inl e) = inl e
shape_told bytes pool p l file (inr (s, at)) = inr (by_shape pool p file s, spot_in bytes pool p l.refusal l.spot file at)

pub instructions_told : (bytes : List ℕ) (pool : List Slot) (p : Parts) (n : ℕ) (codes : List CodeParts) (l : Located) → IsClassFile bytes pool p → HasGoodShape pool p codes n → IsLocated (InstructionsStand Third pool p) pool p l → IsToldOf bytes l
instructions_told bytes pool p n codes l file shape (inl e) = inl e
instructions_told bytes pool p n codes l file shape (inr (s, at)) = inr (by_instructions pool p file (record { none_stands = shape.none_stands }) s, spot_in bytes pool p l.refusal l.spot file at)

pub types_told : (bytes : List ℕ) (pool : List Slot) (p : Parts) (n : ℕ) (codes : List CodeParts) (items : List Found) (l : Located) → IsClassFile bytes pool p → HasGoodShape pool p codes n → AreFound (view_of pool p) codes n (length codes) items → IsLocated (TypesStand Third pool p) pool p l → IsToldOf bytes l
types_told bytes pool p n codes items l file shape are_found (inl e) = inl e
types_told bytes pool p n codes items l file shape are_found (inr (s, at)) =
    inr (by_types pool p file (record { none_stands = shape.none_stands }) (record { none_stands = instructions_stand pool p n codes shape items are_found }) s, spot_in bytes pool p l.refusal l.spot file at)

-- A reported refusal applies to the bytes, or is `NoMemory`.
pub refused_is : (bytes : List ℕ) (l : Located) → IsToldOf bytes l → (l.refusal ≡ NoMemory) ⊎ IsRefused Third bytes l.refusal
refused_is bytes l (inl e) = inl e
refused_is bytes l (inr h) = inr h.0
