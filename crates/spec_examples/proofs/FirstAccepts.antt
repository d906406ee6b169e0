-- The first profile accepts the small class: it decodes its two instructions as the third profile does.
use Rattle.std.proofs.Common.{◌≡◌, ℕ, zero, suc, ◌<◌, true, false, List, [], ◌∷◌, ◌++◌, length, Option, Some, Ok, refl, sym, ap, ◌∙◌, subst, arith, inl, inr}
use Rattle.std.specs.Prelude.{slice_get, IsFalse}
use Rattle.std.specs.List.{AllZip}
use Rattle.std.proofs.lemmas.Bool.{false≢true}
use Rattle.std.proofs.lemmas.List.{length-append}
use Rattle.jtypes.specs.Profile.{First, Second, Third}
use Rattle.jtypes.specs.declared.refusal.Refusal.{Refusal}
use Rattle.jtypes.specs.declared.refusal.Refusal.TheVariants.{BadDescriptor, UnknownMember, BadStackMap, Recursive, StepLimit, WordLimit, FrameLimit}
use Rattle.jtypes.specs.declared.operations.Kind.TheVariants as kind
use Rattle.jtypes.specs.declared.operations.Invoke.TheVariants as invoke
use Rattle.jtypes.specs.Layout.{first, operand, Stands}
use Rattle.jtypes.proofs.Laws.{whole_found, first_found, laid_out_once}
use Rattle.constpool.specs.Lookup.{Slot, utf8_at, class_at, pair_at, member_of, method_at}
use Rattle.classfile.specs.declared.class_file.Member.{Member}
use Rattle.classfile.specs.declared.class_file.Parts.{Parts}
use Rattle.classfile.specs.declared.class_file.CodeParts.{CodeParts}
use Rattle.classfile.specs.Code.{contents_named}
use Rattle.classfile.specs.View.{ClassView, view_of, method_view}
use Rattle.decode.specs.declared.instruction.Form.{Form}
use Rattle.decode.specs.declared.instruction.Instruction.TheVariants as instruction
use Rattle.decode.specs.declared.instruction.Placed.{Placed}
use Rattle.decode.specs.Code.{IsSequence, one, by_form, operands}
use Rattle.decode.specs.Table.{form_at}
use Rattle.decode.specs.Places.{CodeStands}
use Rattle.decode.proofs.Profiles.{goes_on}
use Rattle.decode.proofs.Unrefused.{members_unread}
use Rattle.frames.specs.declared.frame.Environment.{Environment}
use Rattle.frames.specs.StackMap.{IsDeclared, without}
use Rattle.typecheck.specs.Typing.{Method, Class, IsProcessOf}
use Rattle.bounds.specs.Paths.{Path, SomePathExceeds, step_limit}
use Rattle.decode.proofs.Runs.{sequence_once}
use Rattle.frames.specs.declared.signatures.Signature.{Signature}
use Rattle.frames.specs.Signatures.{method_signature}
use Rattle.frames.proofs.Declares.{declared_once}
use Rattle.verdict.specs.Known.{knows_signature, knows_named}
use Rattle.verdict.specs.Shape.{is_constructor, HasCode}
use Rattle.verdict.specs.Verdict.{IsClassFile, HasShape, InstructionStands, InstructionsStand, HasInstructions, IsBody, BodyStands, TypesStand, HasTypes, IsMethodOf, IsClassOfFile, ClassStands, by_layout, by_shape, by_instructions, by_types, by_class, by_names, SomeMethod, UsesUnknown, DeclaresUnknown, NamesBeyond, IsAccepted, IsClassOf}
use Rattle.verdict.proofs.Methods.{any_at, any_from}
use Rattle.soundness.specs.Example as example
use Rattle.soundness.specs.Accepted.{small_bytes, small_pool, small_parts, constructor_member, process_member, constructor_code, constructor_method, small_class}
use Rattle.soundness.proofs.OneClass.{code_once, body_once, one_class}
use Rattle.soundness.proofs.SmallBytes.{is_file, same_file, constructor_parts, process_parts, constructor_signed, process_signed, are_good}
use Rattle.soundness.proofs.SmallVerdict.{has_instructions, class_is, process_is, are_bounds, is_accepted}
use Rattle.spec_examples.specs.Profiles.{AcceptsSmall}

first_goes_on : (pool : List Slot) (at : ℕ) (text : List ℕ) (ps : List Placed) → IsSequence First pool at text ps → IsSequence Third pool at text ps
first_goes_on pool at text ps s = goes_on Second Third tt pool at text ps (goes_on First Second tt pool at text ps s)

abbrev view : ClassView
view = view_of small_pool small_parts

-- ---- its class

aload_1 : first (one First small_pool 0) (0x2B ∷ []) ≡ Ok (instruction.Load kind.Reference 1, [])
unfolding one by_form operands form_at operand
aload_1 = refl

areturn : first (one First small_pool 1) (0xB0 ∷ []) ≡ Ok (instruction.Return kind.Reference, [])
unfolding one by_form operands form_at operand
areturn = refl

aload_0 : first (one First small_pool 0) (0x2A ∷ []) ≡ Ok (instruction.Load kind.Reference 0, [])
unfolding one by_form operands form_at operand
aload_0 = refl

invokespecial : first (one First small_pool 1) (0xB7 ∷ 0 ∷ 10 ∷ []) ≡ Ok (instruction.Invoke invoke.Special 10, [])
unfolding one by_form operands form_at operand method_at class_at pair_at member_of utf8_at
invokespecial = refl

returns : first (one First small_pool 4) (0xB1 ∷ []) ≡ Ok (instruction.ReturnVoid, [])
unfolding one by_form operands form_at operand
returns = refl

process_sequence : IsSequence First small_pool 0 process_parts.code example.method.code
process_sequence = (
  refl,
  0x2B ∷ [],
  0xB0 ∷ [],
  refl,
  refl,
  whole_found (one First small_pool 0) (0x2B ∷ []) (instruction.Load kind.Reference 1) aload_1,
  (refl, 0xB0 ∷ [], [], refl, refl, whole_found (one First small_pool 1) (0xB0 ∷ []) (instruction.Return kind.Reference) areturn, refl),
)

constructor_sequence : IsSequence First small_pool 0 constructor_parts.code constructor_code
constructor_sequence = (
  refl,
  0x2A ∷ [],
  0xB7 ∷ 0 ∷ 10 ∷ 0xB1 ∷ [],
  refl,
  refl,
  whole_found (one First small_pool 0) (0x2A ∷ []) (instruction.Load kind.Reference 0) aload_0,
  (
    refl,
    0xB7 ∷ 0 ∷ 10 ∷ [],
    0xB1 ∷ [],
    refl,
    refl,
    whole_found (one First small_pool 1) (0xB7 ∷ 0 ∷ 10 ∷ []) (instruction.Invoke invoke.Special 10) invokespecial,
    (refl, 0xB1 ∷ [], [], refl, refl, whole_found (one First small_pool 4) (0xB1 ∷ []) instruction.ReturnVoid returns, refl),
  ),
)

process_body : IsBody First small_pool small_parts process_member example.method.environment example.method.code []
unfolding contents_named
process_body = record {
  parts = process_parts;
  has_code = are_good.1.0.has_code;
  signature = process_signed;
  max_stack = refl;
  max_locals = refl;
  sequence = process_sequence;
  tables_are = refl;
}

constructor_body : IsBody First small_pool small_parts constructor_member constructor_method.environment constructor_code []
unfolding contents_named
constructor_body = record {
  parts = constructor_parts;
  has_code = are_good.0.has_code;
  signature = constructor_signed;
  max_stack = refl;
  max_locals = refl;
  sequence = constructor_sequence;
  tables_are = refl;
}

first_class : IsClassOf First small_bytes small_class
first_class = record {
  pool = small_pool;
  parts = small_parts;
  file = is_file;
  class = record {
    view = refl;
    methods = (record { tables = []; body = constructor_body; declared = without }, (record { tables = []; body = process_body; declared = without }, tt));
  };
}

-- ---- its instructions

-- If an opcode has the same form in both profiles, a refusal of its instruction by the first one is one by the second.
agrees_at : (x : ℕ) (rest : List ℕ) → first (operand 1) (x ∷ rest) ≡ Ok (x, rest) → form_at First x ≡ form_at Third x
    → (at : ℕ) (r : Refusal) → Stands (one First small_pool at) (x ∷ rest) r → Stands (one Third small_pool at) (x ∷ rest) r
unfolding one
agrees_at x rest reads same at r (inl s) = inl s
agrees_at x rest reads same at r (inr (opcode, f, b, e, h, k)) =
    let y = first_found (operand 1) (x ∷ rest) x rest reads in
    let one_way = laid_out_once (operand 1) f b y.0 rest opcode x h y.2 (sym e ∙ y.1) in
    let form : form_at First opcode ≡ form_at Third opcode = subst (λ (o : ℕ). form_at First o ≡ form_at Third o) (sym one_way.2) same in
    inr (opcode, f, b, e, h, subst (λ (o : Option Form). Stands (by_form small_pool at opcode o) b r) form k)

load_read : first (operand 1) (0x2B ∷ 0xB0 ∷ []) ≡ Ok (0x2B, 0xB0 ∷ [])
unfolding operand
load_read = refl

return_read : first (operand 1) (0xB0 ∷ []) ≡ Ok (0xB0, [])
unfolding operand
return_read = refl

load_form : form_at First 0x2B ≡ form_at Third 0x2B
unfolding form_at
load_form = refl

return_form : form_at First 0xB0 ≡ form_at Third 0xB0
unfolding form_at
return_form = refl

-- A refusal at an instruction of the code by the first profile is one by the second.
stops_both : (front back : List ℕ) → 0x2B ∷ 0xB0 ∷ [] ≡ front ++ back → 0 < length back → (at : ℕ) (r : Refusal) → Stands (one First small_pool at) back r → Stands (one Third small_pool at) back r
stops_both [] back e n at r h =
    subst (λ (t : List ℕ). Stands (one Third small_pool at) t r) e
    (agrees_at 0x2B (0xB0 ∷ []) load_read load_form at r (subst (λ (t : List ℕ). Stands (one First small_pool at) t r) (sym e) h))
stops_both (x ∷ []) back e n at r h =
    let rest : 0xB0 ∷ [] ≡ back = cc e in
    subst (λ (t : List ℕ). Stands (one Third small_pool at) t r) rest
    (agrees_at 0xB0 [] return_read return_form at r (subst (λ (t : List ℕ). Stands (one First small_pool at) t r) (sym rest) h))
stops_both (x ∷ y ∷ zs) back e n at r h = absurd (omega (arith, n, ap (λ (t : List ℕ). length t) e, length-append (x ∷ y ∷ zs) back))

second_stands : (bytes : List ℕ) (r : Refusal) → CodeStands Third small_pool bytes r → InstructionStands Third view bytes r
second_stands bytes UnknownMember h = absurd (members_unread Third small_pool bytes h)
second_stands bytes r h = h

module _ (c : CodeParts) (same : c ≡ process_parts) where
  code_on : (r : Refusal) → CodeStands First small_pool c.code r → CodeStands Third small_pool c.code r
  code_on r (inl (ps, front, back, e, s, n, k)) =
      inl (ps, front, back, e, first_goes_on small_pool 0 front ps s, n, stops_both front back (sym (ap (λ (x : CodeParts). x.code) same) ∙ e) n (length front) r k)
  code_on r (inr (code, s, b)) = inr (code, first_goes_on small_pool 0 c.code code s, b)

  instruction_on : (r : Refusal) → InstructionStands First view c.code r → InstructionStands Third view c.code r
  instruction_on UnknownMember (code, s, unknown) = (code, first_goes_on small_pool 0 c.code code s, unknown)
  instruction_on r h = second_stands c.code r (code_on r h)

abbrev Refused : Refusal → Member → Type 0
Refused r m = IsFalse (is_constructor small_pool m) × ((c : CodeParts) × HasCode small_pool m c × InstructionStands First view c.code r)

process_fine : (r : Refusal) → Refused r process_member → ⊥
process_fine r (other, (c, has, h)) =
    let same : c ≡ process_parts = code_once small_pool process_member c process_parts has are_good.1.0.has_code in
    has_instructions.none_stands r (any_from _ small_parts.methods 1 process_member refl (other, (c, has, instruction_on c same r h)))

no_instruction : (r : Refusal) → InstructionsStand First small_pool small_parts r → ⊥
unfolding utf8_at
no_instruction r any =
    let it = any_at (Refused r) small_parts.methods any in
    go it.0 it.1 it.2 it.3
  where
    go : (n : ℕ) (m : Member) → slice_get small_parts.methods n ≡ Some m → Refused r m → ⊥
    go zero m e h = let same : constructor_member ≡ m = cc e in false≢true (sym (subst (λ (x : Member). is_constructor small_pool x ≡ false) (sym same) h.0))
    go (suc zero) m e h = let same : process_member ≡ m = cc e in process_fine r (subst (Refused r) (sym same) h)
    go (suc (suc n)) m e h = cc e

-- ---- its types and its bounds

pub body_goes_on : (pool : List Slot) (p : Parts) (m : Member) (e : Environment) (code : List Placed) (tables : List (List ℕ)) → IsBody First pool p m e code tables → IsBody Third pool p m e code tables
body_goes_on pool p m e code tables b = record {
  parts = b.parts;
  has_code = b.has_code;
  signature = b.signature;
  max_stack = b.max_stack;
  max_locals = b.max_locals;
  sequence = first_goes_on pool 0 b.parts.code code b.sequence;
  tables_are = b.tables_are;
}

methods_go_on : (pool : List Slot) (p : Parts) (items : List Member) (ms : List Method) → AllZip (IsMethodOf First pool p) items ms → AllZip (IsMethodOf Third pool p) items ms
methods_go_on pool p [] [] h = h
methods_go_on pool p [] (m ∷ ms) h = absurd h
methods_go_on pool p (x ∷ items) [] h = absurd h
methods_go_on pool p (x ∷ items) (m ∷ ms) h = (
  record { tables = h.0.tables; body = body_goes_on pool p x m.environment m.code h.0.tables h.0.body; declared = h.0.declared },
  methods_go_on pool p items ms h.1,
)

class_on : (pool : List Slot) (p : Parts) (c : Class) → IsClassOfFile First pool p c → IsClassOfFile Third pool p c
class_on pool p c of = record { view = of.view; methods = methods_go_on pool p p.methods c.methods of.methods }

types_on : (pool : List Slot) (p : Parts) (r : Refusal) → TypesStand First pool p r → TypesStand Third pool p r
types_on pool p r any = go (any_at _ p.methods any)
  where
    go : (k : ℕ) × (m : Member) × (slice_get p.methods k ≡ Some m) × (IsFalse (is_constructor pool m) × ((e : Environment) × (code : List Placed) × (tables : List (List ℕ)) × IsBody First pool p m e code tables × BodyStands (view_of pool p) e code tables r))
        → TypesStand Third pool p r
    go (k, m, at, (other, (e, code, tables, body, stands))) = any_from _ p.methods k m at (other, (e, code, tables, body_goes_on pool p m e code tables body, stands))

module _ (pool : List Slot) (p : Parts) (file : IsClassFile small_bytes pool p) (shape : HasShape pool p) where
  second_instructions : HasInstructions Third pool p
  second_instructions = record { none_stands = λ r s. is_accepted r (by_instructions pool p file shape s) }

  second_types : HasTypes Third pool p
  second_types = record { none_stands = λ r s. is_accepted r (by_types pool p file shape second_instructions s) }

  few_steps : (c : Class) → IsClassOfFile First pool p c → (j : ℕ) → IsProcessOf c j → SomePathExceeds c j (λ k. k.steps) (step_limit First) → ⊥
  few_steps c of j is more =
      let same : c ≡ small_class = one_class Third small_bytes c small_class (record { pool = pool; parts = p; file = file; class = class_on pool p c of }) class_is in
      let number : Some 1 ≡ Some j = sym process_is ∙ subst (λ (x : Class). IsProcessOf x j) same is in
      let one : j ≡ 1 = cc number in
      let over = subst (λ (x : Class). SomePathExceeds x j (λ k. k.steps) (step_limit First)) same more in
      let within = are_bounds.none_exceeds over.0 (subst (λ (i : ℕ). Path small_class i 0 over.0) one over.1) in
      omega (arith, within.steps, over.2)

  no_class : (c : Class) → IsClassOfFile First pool p c → (r : Refusal) → ClassStands First c r → ⊥
  no_class c of Recursive h = is_accepted Recursive (by_class pool p c file shape second_instructions second_types (class_on pool p c of) h)
  no_class c of StepLimit (calm, (j, is, more)) = few_steps c of j is more
  no_class c of WordLimit h = is_accepted WordLimit (by_class pool p c file shape second_instructions second_types (class_on pool p c of) h)
  no_class c of FrameLimit h = is_accepted FrameLimit (by_class pool p c file shape second_instructions second_types (class_on pool p c of) h)
  no_class c of r (calm, (j, is, none)) = absurd none

-- ---- its names

abbrev Unsigned : Member → Type 0
Unsigned m = (s : Signature) × (method_signature view (method_view small_pool m) ≡ Some s) × IsFalse (knows_signature First s)

signed_fine : (m : Member) (s : Signature) → method_signature view (method_view small_pool m) ≡ Some s → knows_signature First s ≡ true → Unsigned m → ⊥
signed_fine m s is known (t, also, unknown) =
    let both : Some s ≡ Some t = sym is ∙ also in
    let same : s ≡ t = cc both in
    false≢true (sym unknown ∙ ap (knows_signature First) (sym same) ∙ known)

descriptors_fine : NamesBeyond First small_pool small_parts BadDescriptor → ⊥
descriptors_fine any =
    let it = any_at Unsigned small_parts.methods any in
    go it.0 it.1 it.2 it.3
  where
    go : (n : ℕ) (m : Member) → slice_get small_parts.methods n ≡ Some m → Unsigned m → ⊥
    go zero m e h = let same : constructor_member ≡ m = cc e in signed_fine constructor_member _ constructor_signed refl (subst Unsigned (sym same) h)
    go (suc zero) m e h = let same : process_member ≡ m = cc e in signed_fine process_member _ process_signed refl (subst Unsigned (sym same) h)
    go (suc (suc n)) m e h = cc e

-- `process` is the only method that isn't the constructor.
only_process : (P : Member → Type 0) → SomeMethod small_pool small_parts P → P process_member
unfolding utf8_at
only_process P any =
    let it = any_at (λ m. IsFalse (is_constructor small_pool m) × P m) small_parts.methods any in
    go it.0 it.1 it.2 it.3
  where
    go : (n : ℕ) (m : Member) → slice_get small_parts.methods n ≡ Some m → IsFalse (is_constructor small_pool m) × P m → P process_member
    go zero m e h = let same : constructor_member ≡ m = cc e in absurd (false≢true (sym (subst (λ (x : Member). is_constructor small_pool x ≡ false) (sym same) h.0)))
    go (suc zero) m e h = let same : process_member ≡ m = cc e in subst P (sym same) h.1
    go (suc (suc n)) m e h = cc e

none_at : {A : Type 0} (n : ℕ) (x : A) → slice_get [] n ≡ Some x → ⊥
none_at zero x e = cc e
none_at (suc n) x e = cc e

names_fine : (r : Refusal) → NamesBeyond First small_pool small_parts r → ⊥
names_fine BadDescriptor any = descriptors_fine any
names_fine UnknownMember any =
    let h = only_process (UsesUnknown First small_pool small_parts) any in
    let parts : h.0 ≡ process_parts = code_once small_pool process_member h.0 process_parts h.2 are_good.1.0.has_code in
    let is : h.1 ≡ example.method.code = sequence_once First small_pool 0 h.0.code process_parts.code h.1 example.method.code (ap (λ (x : CodeParts). x.code) parts) h.3 process_sequence in
    let some = any_at _ h.1 h.4 in
    no_names some.0 some.1 (subst (λ (ps : List Placed). slice_get ps some.0 ≡ Some some.1) is some.2) some.3
  where
    no_names : (n : ℕ) (q : Placed) → slice_get example.method.code n ≡ Some q → IsFalse (knows_named First view q.instruction) → ⊥
    no_names zero q e h = cc (e, h)
    no_names (suc zero) q e h = cc (e, h)
    no_names (suc (suc n)) q e h = cc e
names_fine BadStackMap any =
    let h = only_process (DeclaresUnknown First small_pool small_parts) any in
    let one = body_once First small_pool small_parts process_member h.0 example.method.environment h.1 example.method.code h.2 [] h.4 process_body in
    let none : h.3 ≡ [] = declared_once view h.0 h.1 [] h.3 [] (subst (λ ts. IsDeclared view h.0 h.1 ts h.3) one.tables h.5) without in
    let some = any_at _ h.3 h.6 in
    none_at some.0 some.1 (subst (λ ds. slice_get ds some.0 ≡ Some some.1) none some.2)
names_fine r h = h

-- ---- the verdict

first_accepts : IsAccepted First small_bytes
first_accepts r (by_layout s) = is_accepted r (by_layout s)
first_accepts r (by_shape pool p file s) = is_accepted r (by_shape pool p file s)
first_accepts r (by_instructions pool p file a s) = no_instruction r (subst (λ (x : List Slot × Parts). InstructionsStand First x.0 x.1 r) (same_file pool p file) s)
first_accepts r (by_types pool p file a b s) = is_accepted r (by_types pool p file a (second_instructions pool p file a) (types_on pool p r s))
first_accepts r (by_class pool p c file a b d of s) = no_class pool p file a c of r s
first_accepts r (by_names pool p file _ s) = names_fine r (subst (λ (x : List Slot × Parts). NamesBeyond First x.0 x.1 r) (same_file pool p file) s)

pub accepts_small : AcceptsSmall
accepts_small = (first_accepts, first_class)
