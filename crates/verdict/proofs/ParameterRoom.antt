-- The parameters of a method fit into its local variables.
use Rattle.std.proofs.Common.{◌≡◌, ℕ, ◌+◌, ◌<◌, ◌≤◌, Bool, true, false, List, [], ◌∷◌, Option, Some, None, refl, sym, ap, ◌∙◌, subst, arith, ◌⊎◌, inl, inr}
use Rattle.std.specs.Prelude.{slice_get, option_map, cond, nat_le, Contains}
use Rattle.std.proofs.lemmas.Bool.{cases_lt, le-leb}
use Rattle.jtypes.specs.declared.refusal.Refusal.TheVariants.{BadCode}
use Rattle.jtypes.specs.Lists.{◌>>=◌}
use Rattle.jtypes.specs.declared.types.RefType.{RefType}
use Rattle.jtypes.specs.declared.types.RefType.TheVariants as ref
use Rattle.jtypes.specs.declared.types.JType.{JType}
use Rattle.jtypes.specs.declared.types.JType.TheVariants.{Ref, Int, Long}
use Rattle.jtypes.specs.Types.{is_long, slots_if, slots_by}
use Rattle.jtypes.proofs.Fit.{then_some_parts}
use Rattle.constpool.specs.Lookup.{Slot}
use Rattle.constpool.specs.declared.descriptor.FieldType.{FieldType}
use Rattle.constpool.specs.declared.descriptor.FieldType.TheVariants as field
use Rattle.constpool.specs.declared.descriptor.Sig.{Sig}
use Rattle.constpool.specs.Descriptor.{sig_of, is_long_type, param_slots}
use Rattle.classfile.specs.View.{ClassView, MethodView, view_of, method_view}
use Rattle.classfile.specs.declared.class_file.Member.{Member}
use Rattle.classfile.specs.declared.class_file.Parts.{Parts}
use Rattle.classfile.specs.declared.class_file.CodeParts.{CodeParts}
use Rattle.decode.specs.declared.instruction.Placed.{Placed}
use Rattle.frames.specs.Signatures.{is_static, class_type, field_type, field_types, result_type, is_boolean, signature_of, as_method, method_signature}
use Rattle.frames.specs.declared.signatures.Signature.{Signature}
use Rattle.frames.specs.declared.frame.Environment.{Environment}
use Rattle.frames.specs.Frames.{HasRoom}
use Rattle.verdict.specs.Shape.{crowded, slots_taken}
use Rattle.verdict.specs.Judging.{HasInstructionsOf}
use Rattle.verdict.proofs.Codes.{has_some}

field_slots : (own : List ℕ) (t : FieldType) (u : JType) → field_type own t ≡ Some u → is_long u ≡ is_long_type t
unfolding field_type
field_slots own field.Int u e = let same : Int ≡ u = cc in subst (λ x. is_long x ≡ false) same refl
field_slots own field.Boolean u e = let same : Int ≡ u = cc in subst (λ x. is_long x ≡ false) same refl
field_slots own field.Long u e = let same : Long ≡ u = cc in subst (λ x. is_long x ≡ true) same refl
field_slots own field.IntArray u e = let same : Ref ref.IntArray ≡ u = cc in subst (λ x. is_long x ≡ false) same refl
field_slots own field.LongArray u e = let same : Ref ref.LongArray ≡ u = cc in subst (λ x. is_long x ≡ false) same refl
field_slots own field.ObjectArray u e = let same : Ref ref.ObjectArray ≡ u = cc in subst (λ x. is_long x ≡ false) same refl
field_slots own (field.Class name) u e = go (class_type own name) e
  where
    go : (o : Option RefType) → option_map (λ r. Ref r) o ≡ Some u → is_long u ≡ false
    go None f = cc
    go (Some r) f = let same : Ref r ≡ u = cc f in subst (λ x. is_long x ≡ false) same refl

fields_slots : (own : List ℕ) (ts : List FieldType) (us : List JType) → field_types own ts ≡ Some us → slots_by is_long us ≡ slots_by is_long_type ts
unfolding field_types
fields_slots own [] us e = let same : [] ≡ us = cc in subst (λ x. slots_by is_long x ≡ 0) same refl
fields_slots own (t ∷ ts) us e =
    let p = then_some_parts (λ u. option_map (λ vs. u ∷ vs) (field_types own ts)) (field_type own t) us e in
    go p.0 (field_slots own t p.0 p.1) (field_types own ts) (fields_slots own ts) p.2
  where
    go : (u : JType) → is_long u ≡ is_long_type t → (o : Option (List JType)) → ((vs : List JType) → o ≡ Some vs → slots_by is_long vs ≡ slots_by is_long_type ts) → option_map (λ vs. u ∷ vs) o ≡ Some us → slots_by is_long us ≡ slots_if (is_long_type t) + slots_by is_long_type ts
    go u n None later f = cc
    go u n (Some vs) later f =
        let same : u ∷ vs ≡ us = cc f in
        let one : slots_if (is_long u) ≡ slots_if (is_long_type t) = ap slots_if n in
        let rest : slots_by is_long vs ≡ slots_by is_long_type ts = later vs refl in
        subst (λ x. slots_by is_long x ≡ slots_if (is_long_type t) + slots_by is_long_type ts) same (ap (λ x. x + slots_by is_long vs) one ∙ ap (λ x. slots_if (is_long_type t) + x) rest)

-- The parameters of a signature take the number of slots that the descriptor has.
signature_slots : (own d : List ℕ) (s : Signature) → signature_of own d ≡ Some s → (x : Sig) × (sig_of d ≡ Some x) × (slots_by is_long s.params ≡ param_slots x)
unfolding signature_of
signature_slots own d s e =
    let x = then_some_parts (λ (x : Sig). field_types own x.params >>= λ ps. result_type own x.result >>= λ r. Some (record { params = ps; result = r; is_boolean = is_boolean x.result })) (sig_of d) s e in
    let p = then_some_parts (λ ps. result_type own x.0.result >>= λ r. Some (record { params = ps; result = r; is_boolean = is_boolean x.0.result })) (field_types own x.0.params) s x.2 in
    let r = then_some_parts (λ r. Some (record { params = p.0; result = r; is_boolean = is_boolean x.0.result })) (result_type own x.0.result) s p.2 in
    let new : Signature = record { params = p.0; result = r.0; is_boolean = is_boolean x.0.result } in
    let same : new ≡ s = cc r.2 in
    (x.0, x.1, subst (λ (y : Signature). slots_by is_long y.params ≡ param_slots x.0) {x = new} same (fields_slots own x.0.params p.0 p.1))

pub signed_slots : (v : ClassView) (w : MethodView) (s : Signature) → method_signature v w ≡ Some s → (x : Sig) × (sig_of w.descriptor ≡ Some x) × (slots_by is_long s.params ≡ slots_taken w.flags x)
unfolding method_signature
signed_slots v w s e = go (signature_of v.name w.descriptor) (signature_slots v.name w.descriptor) e
  where
    received : (y : Signature) (x : Sig) → slots_by is_long y.params ≡ param_slots x → (b : Bool) → slots_by is_long (cond b y.params (Ref ref.This ∷ y.params)) ≡ cond b (param_slots x) (param_slots x + 1)
    received y x n true = n
    received y x n false = let k : slots_by is_long y.params ≡ param_slots x = n in omega (arith, k)

    go : (o : Option Signature) → ((y : Signature) → o ≡ Some y → (x : Sig) × (sig_of w.descriptor ≡ Some x) × (slots_by is_long y.params ≡ param_slots x)) → option_map (as_method w.flags) o ≡ Some s → (x : Sig) × (sig_of w.descriptor ≡ Some x) × (slots_by is_long s.params ≡ slots_taken w.flags x)
    go None n f = cc
    go (Some y) n f =
        let same : as_method w.flags y ≡ s = cc f in
        let known = n y refl in
        (known.0, known.1, subst (λ (z : Signature). slots_by is_long z.params ≡ slots_taken w.flags known.0) same (received y known.0 known.2 (is_static w.flags)))

pub one_contains : (xs : List (List ℕ)) (x : List ℕ) → xs ≡ x ∷ [] → Contains xs x
one_contains xs x e = subst (λ ys. Contains ys x) (sym e) (0, omega arith, refl)

-- The parameters of a method with checked instructions fit into its local variables.
pub judged_room : (pool : List Slot) (p : Parts) (number : ℕ) (parts : CodeParts) (code : List Placed) → HasInstructionsOf pool p number parts code → (m : Member) → slice_get p.methods number ≡ Some m → (e : Environment)
    → method_signature (view_of pool p) (method_view pool m) ≡ Some e.signature → e.max_locals ≡ parts.max_locals → HasRoom e
judged_room pool p number parts code h m there e signed locals = go (cases_lt e.max_locals (slots_by is_long e.signature.params))
  where
    both : Some h.member ≡ Some m
    both = sym h.there ∙ there

    same : h.member ≡ m
    same = cc both

    go : (e.max_locals < slots_by is_long e.signature.params) ⊎ (slots_by is_long e.signature.params ≤ e.max_locals) → HasRoom e
    go (inr l) = l
    go (inl l) =
        let known = signed_slots (view_of pool p) (method_view pool h.member) e.signature (ap (λ (x : Member). method_signature (view_of pool p) (method_view pool x)) same ∙ signed) in
        let slots : slots_by is_long e.signature.params ≡ slots_taken h.member.flags known.0 = known.2 in
        let few : parts.max_locals < slots_taken h.member.flags known.0 = omega (arith, l, slots, locals) in
        absurd (h.shaped.none_stands BadCode (crowded parts known.0 (has_some pool h.member parts h.shaped.has_code) known.1 few))

pub starts_so : (fits : Bool) (e start : Environment) → cond fits (Some e) None ≡ Some start → start ≡ e
starts_so true e start h = cc
starts_so false e start h = cc

pub has_start : (e : Environment) → HasRoom e → cond (nat_le (slots_by is_long e.signature.params) e.max_locals) (Some e) None ≡ None → ⊥
has_start e h none = absurd (cc (none, le-leb (slots_by is_long e.signature.params) e.max_locals h))
