-- An accepted class satisfies the premises of type soundness on its name, on `process` and on the form of its methods.
use Rattle.std.proofs.Common.{◌≡◌, ℕ, suc, ◌<◌, Bool, true, false, List, [], ◌∷◌, length, Option, Some, None, refl, sym, ap, ◌∙◌, subst, arith, ◌⊎◌, inl, inr, ◌≤◌}
use Rattle.std.specs.Prelude.{slice_get, map, option_map, cond, ◌==◌, Any, IsFalse, ℤ, pos, ◌≤ℤ◌, T, negsuc, is_some, IsNone}
use Rattle.std.proofs.lemmas.Bool.{and_parts, false_from_ne_true, false≢true, cases_order, eqb-true, cases_lt, le-leb, leb-true}
use Rattle.std.proofs.lemmas.Option.{slice_get-get_or, slice_get-map}
use Rattle.jtypes.specs.declared.refusal.Refusal.TheVariants.{BadHeader, NoProcess, DuplicateMethod, BackwardBranch, LengthNotConstant, BadCode}
use Rattle.jtypes.specs.Lists.{same_bytes, is_one_of, result_list, ◌>>=◌}
use Rattle.jtypes.specs.declared.types.RefType.{RefType}
use Rattle.jtypes.specs.declared.types.JType.{JType}
use Rattle.jtypes.specs.declared.types.JType.TheVariants.{Top, Ref}
use Rattle.jtypes.specs.declared.operations.ArrayKind.{ArrayKind}
use Rattle.jtypes.specs.Types.{is_long, slots_by}
use Rattle.jtypes.specs.declared.types.RefType.TheVariants as ref
use Rattle.constpool.specs.Names.{process_name, process_descriptor, init_name}
use Rattle.constpool.specs.declared.descriptor.FieldType.{FieldType}
use Rattle.constpool.specs.declared.descriptor.Sig.{Sig}
use Rattle.constpool.specs.Descriptor.{sig_of}
use Rattle.constpool.specs.declared.descriptor.FieldType.TheVariants as field
use Rattle.classfile.specs.View.{ClassView, MethodView, class_name_at, view_of, method_view, text_at, codes_of}
use Rattle.classfile.specs.declared.class_file.Member.{Member}
use Rattle.classfile.specs.declared.class_file.CodeParts.{CodeParts}
use Rattle.decode.specs.declared.instruction.Placed.{Placed}
use Rattle.decode.specs.Places.{at_place, IsTarget, HasBackwardTarget, pushed_before}
use Rattle.decode.specs.declared.instruction.Instruction.TheVariants.{NewArray}
use Rattle.frames.specs.Signatures.{is_static, class_type, field_type, field_types, result_type, is_boolean, signature_of, as_method, method_signature}
use Rattle.frames.specs.declared.signatures.Signature.{Signature}
use Rattle.frames.specs.declared.frame.Environment.{Environment}
use Rattle.typecheck.specs.Typing.{Class, IsProcessOf, Method, instruction_at, declared_at}
use Rattle.typecheck.specs.Mismatch.{HasLength, HasFrame, LacksLength}
use Rattle.verdict.specs.Shape.{reserved_names, reserved, AreDoubles, is_constructor, HasCode, HasBadCode, crowded, slots_taken}
use Rattle.verdict.specs.Verdict.{by_shape, IsAccepted, IsClassOf, IsMethodOf, HasShape, InstructionStands, InstructionsStand, by_instructions, HasInstructions, IsBody, BodyStands, TypesStand, by_types}
use Rattle.verdict.specs.Checked.{NoTop, IsMember, IsFormed}
use Rattle.decode.proofs.Consecutive.{sequence_is_consecutive}
use Rattle.verdict.proofs.Texts.{same_is}
use Rattle.verdict.proofs.Methods.{zip_back, zip_count, any_from}
use Rattle.verdict.proofs.OwnCalls.{process_found}
use Rattle.verdict.proofs.ParameterRoom.{signed_slots, one_contains}
use Rattle.jtypes.proofs.Fit.{then_some_parts}
use Rattle.soundness.proofs.DeclaredFrames.{declared_has_no_top}
use Rattle.jtypes.specs.Profile.{Third}

-- ---- the class's name

pub accepted_is_named : (bytes : List ℕ) (c : Class) → IsAccepted Third bytes → IsClassOf Third bytes c → is_one_of c.view.name reserved_names ≡ false
accepted_is_named bytes c ok of =
    let named : is_one_of (class_name_at of.pool of.parts.this_class) reserved_names ≡ false =
    false_from_ne_true _ (λ e. ok BadHeader (by_shape of.pool of.parts of.file (reserved e)))
    in
    subst (λ (v : ClassView). is_one_of v.name reserved_names ≡ false) (sym of.class.view) named

-- ---- `process`

-- Two methods with the same name and descriptor are the same.
alike : (v : ClassView) (i j : ℕ) (m n : MethodView) → slice_get v.methods i ≡ Some m → slice_get v.methods j ≡ Some n → m.name ≡ n.name → m.descriptor ≡ n.descriptor → ((k l : ℕ) (x y : MethodView) → AreDoubles v k l x y → ⊥) → m ≡ n
alike v i j m n a b name descriptor none = go (cases_order i j)
  where
    go : (i ≡ j) ⊎ ((i < j) ⊎ (j < i)) → m ≡ n
    go (inl e) = let both : Some m ≡ Some n = sym a ∙ ap (slice_get v.methods) e ∙ b in cc both
    go (inr (inl l)) = absurd (none i j m n (record { order = l; first = a; second = b; name = name; descriptor = descriptor }))
    go (inr (inr l)) = absurd (none j i n m (record { order = l; first = b; second = a; name = sym name; descriptor = sym descriptor }))

pub accepted_process_is_instance : (bytes : List ℕ) (c : Class) → IsAccepted Third bytes → IsClassOf Third bytes c → (j : ℕ) (w : MethodView) → IsProcessOf c j → slice_get c.view.methods j ≡ Some w → is_static w.flags ≡ false
accepted_process_is_instance bytes c ok of j w is known = false_from_ne_true (is_static w.flags) static
  where
    view : ClassView
    view = view_of of.pool of.parts

    known' : slice_get view.methods j ≡ Some w
    known' = subst (λ (v : ClassView). slice_get v.methods j ≡ Some w) of.class.view known

    none : (k l : ℕ) (x y : MethodView) → AreDoubles view k l x y → ⊥
    none k l x y d = ok DuplicateMethod (by_shape of.pool of.parts of.file (k, l, x, y, d))

    named : (w.name ≡ process_name) × (w.descriptor ≡ process_descriptor)
    named =
        let p = process_found 0 c.view.methods j is in
        let parts = and_parts (same_bytes p.0.name process_name) (same_bytes p.0.descriptor process_descriptor) p.4 in
        let index : p.1 ≡ j = (let e = p.2 in omega (arith, e)) in
        let both : Some p.0 ≡ Some w = sym p.3 ∙ ap (slice_get c.view.methods) index ∙ known in
        let same : p.0 ≡ w = cc both in
        (subst (λ (x : MethodView). x.name ≡ process_name) same (same_is p.0.name process_name parts.0), subst (λ (x : MethodView). x.descriptor ≡ process_descriptor) same (same_is p.0.descriptor process_descriptor parts.1))

    static : is_static w.flags ≡ true → ⊥
    static e = ok NoProcess (by_shape of.pool of.parts of.file (λ a.
        let there : slice_get view.methods a.0 ≡ Some a.1 = slice_get-get_or view.methods a.0 a.1 a.2 ∙ ap (λ x. Some x) a.3 in
        let same : a.1 ≡ w = alike view a.0 j a.1 w there known' (a.4.name ∙ sym named.0) (a.4.descriptor ∙ sym named.1) none in
        false≢true (sym a.4.instance ∙ ap (λ (x : MethodView). is_static x.flags) same ∙ e)))

-- ---- methods and their signatures

map_length : {A B : Type 0} (f : A → B) (xs : List A) → length (map f xs) ≡ length xs
map_length f [] = refl
map_length f (x ∷ xs) = ap suc (map_length f xs)

pub accepted_count : (bytes : List ℕ) (c : Class) → IsClassOf Third bytes c → length c.methods ≡ length c.view.methods
accepted_count bytes c of =
    sym (zip_count (IsMethodOf Third of.pool of.parts) of.parts.methods c.methods of.class.methods) ∙ sym (map_length (method_view of.pool) of.parts.methods) ∙ ap (λ (v : ClassView). length v.methods) (sym of.class.view)

pub accepted_signed : (bytes : List ℕ) (c : Class) → IsClassOf Third bytes c → (j : ℕ) (w : MethodView) (m : Method) → slice_get c.view.methods j ≡ Some w → slice_get c.methods j ≡ Some m → method_signature c.view w ≡ Some m.environment.signature
accepted_signed bytes c of j w m known found =
    let x = zip_back (IsMethodOf Third of.pool of.parts) of.parts.methods c.methods j m of.class.methods found in
    let viewed : slice_get (view_of of.pool of.parts).methods j ≡ Some (method_view of.pool x.0) = slice_get-map (method_view of.pool) of.parts.methods j ∙ ap (option_map (method_view of.pool)) x.1 in
    let both : Some (method_view of.pool x.0) ≡ Some w = sym viewed ∙ subst (λ (v : ClassView). slice_get v.methods j ≡ Some w) of.class.view known in
    let same : method_view of.pool x.0 ≡ w = cc both in
    subst (λ (v : ClassView). method_signature v w ≡ Some m.environment.signature) (sym of.class.view) (subst (λ y. method_signature (view_of of.pool of.parts) y ≡ Some m.environment.signature) same x.2.body.signature)

-- No type of a descriptor is `Top`.
no_top_field : (own : List ℕ) (t : FieldType) (u : JType) → field_type own t ≡ Some u → u ≡ Top → ⊥
unfolding field_type
no_top_field own field.Int u e k = cc
no_top_field own field.Boolean u e k = cc
no_top_field own field.Long u e k = cc
no_top_field own field.IntArray u e k = cc
no_top_field own field.LongArray u e k = cc
no_top_field own field.ObjectArray u e k = cc
no_top_field own (field.Class name) u e k = go (class_type own name) e
  where
    go : (o : Option RefType) → option_map (λ r. Ref r) o ≡ Some u → ⊥
    go None f = cc
    go (Some r) f = cc

no_top_fields : (own : List ℕ) (ts : List FieldType) (us : List JType) → field_types own ts ≡ Some us → NoTop us
unfolding field_types
no_top_fields own [] us e = let same : [] ≡ us = cc in subst NoTop same tt
no_top_fields own (t ∷ ts) us e =
    let p = then_some_parts (λ u. option_map (λ vs. u ∷ vs) (field_types own ts)) (field_type own t) us e in
    go p.0 (no_top_field own t p.0 p.1) (field_types own ts) (no_top_fields own ts) p.2
  where
    go : (u : JType) → (u ≡ Top → ⊥) → (o : Option (List JType)) → ((vs : List JType) → o ≡ Some vs → NoTop vs) → option_map (λ vs. u ∷ vs) o ≡ Some us → NoTop us
    go u n None later f = cc
    go u n (Some vs) later f = let same : u ∷ vs ≡ us = cc f in subst NoTop same (n, later vs refl)

no_top_result : (own : List ℕ) (t : Option FieldType) (u : Option JType) → result_type own t ≡ Some u → NoTop (result_list u)
unfolding result_type
no_top_result own None u e = let same : None ≡ u = cc in subst (λ x. NoTop (result_list x)) same tt
no_top_result own (Some t) u e = go (field_type own t) (no_top_field own t) e
  where
    go : (o : Option JType) → ((v : JType) → o ≡ Some v → v ≡ Top → ⊥) → option_map (λ v. Some v) o ≡ Some u → NoTop (result_list u)
    go None n f = cc
    go (Some v) n f = let same : Some v ≡ u = cc f in subst (λ x. NoTop (result_list x)) same (n v refl, tt)

no_top_signature : (own d : List ℕ) (s : Signature) → signature_of own d ≡ Some s → NoTop s.params × NoTop (result_list s.result)
unfolding signature_of
no_top_signature own d s e =
    let x = then_some_parts (λ (x : Sig). field_types own x.params >>= λ ps. result_type own x.result >>= λ r. Some (record { params = ps; result = r; is_boolean = is_boolean x.result })) (sig_of d) s e in
    let p = then_some_parts (λ ps. result_type own x.0.result >>= λ r. Some (record { params = ps; result = r; is_boolean = is_boolean x.0.result })) (field_types own x.0.params) s x.2 in
    let r = then_some_parts (λ r. Some (record { params = p.0; result = r; is_boolean = is_boolean x.0.result })) (result_type own x.0.result) s p.2 in
    let new : Signature = record { params = p.0; result = r.0; is_boolean = is_boolean x.0.result } in
    let same : new ≡ s = cc r.2 in
    subst (λ (y : Signature). NoTop y.params × NoTop (result_list y.result)) {x = new} same (no_top_fields own x.0.params p.0 p.1, no_top_result own x.0.result r.0 r.1)

pub signed_has_no_top : (v : ClassView) (w : MethodView) (s : Signature) → method_signature v w ≡ Some s → NoTop s.params × NoTop (result_list s.result)
unfolding method_signature
signed_has_no_top v w s e = go (signature_of v.name w.descriptor) (no_top_signature v.name w.descriptor) e
  where
    received : (x : Signature) → NoTop x.params → (b : Bool) → NoTop (cond b x.params (Ref ref.This ∷ x.params))
    received x n true = n
    received x n false = (λ k. cc k, n)

    go : (o : Option Signature) → ((x : Signature) → o ≡ Some x → NoTop x.params × NoTop (result_list x.result)) → option_map (as_method w.flags) o ≡ Some s → NoTop s.params × NoTop (result_list s.result)
    go None n f = cc
    go (Some x) n f =
        let same : as_method w.flags x ≡ s = cc f in
        let known = n x refl in
        subst (λ (y : Signature). NoTop y.params × NoTop (result_list y.result)) same (received x known.0 (is_static w.flags), known.1)

-- ---- the methods except the constructor

placed_at : (code : List Placed) (q : ℕ) (p : Placed) → at_place code q ≡ Some p → (k : ℕ) × (slice_get code k ≡ Some p) × (p.place ≡ q)
placed_at [] q p e = cc
placed_at (x ∷ code) q p e = go (placed_at code q p) (x.place == q) refl e
  where
    go : (at_place code q ≡ Some p → (k : ℕ) × (slice_get code k ≡ Some p) × (p.place ≡ q)) → (b : Bool) → (x.place == q) ≡ b → cond b (Some x) (at_place code q) ≡ Some p → (k : ℕ) × (slice_get (x ∷ code) k ≡ Some p) × (p.place ≡ q)
    go later true is f =
        let same : x ≡ p = cc f in
        (0, f, sym (ap (λ (y : Placed). y.place) same) ∙ eqb-true x.place q is)
    go later false is f = let r = later f in (suc r.0, r.1, r.2)

-- The member of the class file for a method of the class.
pub record InFile (bytes : List ℕ) (c : Class) (of : IsClassOf Third bytes c) (m : Method) : Type 0 where
  pub number : ℕ
  pub item : Member
  pub there : slice_get of.parts.methods number ≡ Some item
  pub is : IsMethodOf Third of.pool of.parts item m
  pub other : is_constructor of.pool item ≡ false

pub in_file : (bytes : List ℕ) (c : Class) (of : IsClassOf Third bytes c) (j : ℕ) (w : MethodView) (m : Method) → IsMember c j w m → InFile bytes c of m
in_file bytes c of j w m member =
    let x = zip_back (IsMethodOf Third of.pool of.parts) of.parts.methods c.methods j m of.class.methods member.method in
    let viewed : slice_get (view_of of.pool of.parts).methods j ≡ Some (method_view of.pool x.0) = slice_get-map (method_view of.pool) of.parts.methods j ∙ ap (option_map (method_view of.pool)) x.1 in
    let both : Some (method_view of.pool x.0) ≡ Some w = sym viewed ∙ subst (λ (v : ClassView). slice_get v.methods j ≡ Some w) of.class.view member.view in
    let same : method_view of.pool x.0 ≡ w = cc both in
    record {
      number = j;
      item = x.0;
      there = x.1;
      is = x.2;
      other = false_from_ne_true (is_constructor of.pool x.0) (λ e. member.other (sym (ap (λ (y : MethodView). y.name) same) ∙ same_is (text_at of.pool x.0.name) init_name e));
    }

pub accepted_forward : (bytes : List ℕ) (c : Class) → IsAccepted Third bytes → (of : IsClassOf Third bytes c) (j : ℕ) (w : MethodView) (m : Method) → IsMember c j w m → (q r : ℕ) (p : Placed) → instruction_at m q ≡ Some p → IsTarget p.instruction (pos r) → q < r
accepted_forward bytes c ok of j w m member q r p e to = go (cases_lt q r)
  where
    file : InFile bytes c of m
    file = in_file bytes c of j w m member

    shape : HasShape of.pool of.parts
    shape = record { none_stands = λ x s. ok x (by_shape of.pool of.parts of.file s) }

    go : (q < r) ⊎ (r ≤ q) → q < r
    go (inl l) = l
    go (inr l) =
        let x = placed_at m.code q p e in
        let below : r ≤ p.place = (let k = x.2 in omega (arith, l, k)) in
        let low : pos r ≤ℤ pos p.place = record { le = subst T (sym (le-leb r p.place below)) tt } in
        let branch : Any HasBackwardTarget m.code = any_from HasBackwardTarget m.code x.0 p x.1 (pos r, to, low) in
        let stands : InstructionsStand Third of.pool of.parts BackwardBranch = any_from (λ y. IsFalse (is_constructor of.pool y) × ((z : CodeParts) × HasCode of.pool y z × InstructionStands Third (view_of of.pool of.parts) z.code BackwardBranch)) of.parts.methods file.number file.item file.there (file.other, (file.is.body.parts, file.is.body.has_code, inr (m.code, file.is.body.sequence, branch))) in
        absurd (ok BackwardBranch (by_instructions of.pool of.parts of.file shape stands))

test_true : (t : Bool) → T t → t ≡ true
test_true true h = refl
test_true false h = absurd h

-- ---- lengths of arrays

pub accepted_lengths : (bytes : List ℕ) (c : Class) → IsAccepted Third bytes → (of : IsClassOf Third bytes c) (j : ℕ) (w : MethodView) (m : Method) → IsMember c j w m → (q : ℕ) (p : Placed) (k : ArrayKind) → instruction_at m q ≡ Some p → p.instruction ≡ NewArray k → IsNone (declared_at m q) × HasLength m.code q
accepted_lengths bytes c ok of j w m member q p k e is = (false_from_ne_true (is_some (declared_at m q)) (λ h. refuse (inr (m.declared, file.is.declared, h))), go (pushed_before m.code q) refl)
  where
    file : InFile bytes c of m
    file = in_file bytes c of j w m member

    shape : HasShape of.pool of.parts
    shape = record { none_stands = λ x s. ok x (by_shape of.pool of.parts of.file s) }

    instructions : HasInstructions Third of.pool of.parts
    instructions = record { none_stands = λ x s. ok x (by_instructions of.pool of.parts of.file shape s) }

    refuse : ((HasLength m.code q → ⊥) ⊎ HasFrame (view_of of.pool of.parts) m.environment m.code file.is.tables q) → ⊥
    refuse h =
        let lacks : LacksLength (view_of of.pool of.parts) m.environment m.code file.is.tables = (q, p, k, e, is, h) in
        let stands : TypesStand Third of.pool of.parts LengthNotConstant = any_from (λ y. IsFalse (is_constructor of.pool y) × ((x : Environment) × (code : List Placed) × (tables : List (List ℕ)) × IsBody Third of.pool of.parts y x code tables × BodyStands (view_of of.pool of.parts) x code tables LengthNotConstant)) of.parts.methods file.number file.item file.there (file.other, (m.environment, m.code, file.is.tables, file.is.body, lacks)) in
        ok LengthNotConstant (by_types of.pool of.parts of.file shape instructions stands)

    sized : (n : ℕ) → pushed_before m.code q ≡ Some (pos n) → (n < 65536) ⊎ (65536 ≤ n) → HasLength m.code q
    sized n h (inl l) = let small : n ≤ 65535 = omega (arith, l) in let least : 0 ≤ n = omega arith in (pos n, h, (record { le = subst T (sym (le-leb 0 n least)) tt }, record { le = subst T (sym (le-leb n 65535 small)) tt }))
    sized n h (inr l) = absurd (refuse (inl (λ x.
        let same : x.0 ≡ pos n = cc (h, x.1) in
        let most : pos n ≤ℤ pos 65535 = subst (λ z. z ≤ℤ pos 65535) same x.2.1 in
        let small : n ≤ 65535 = leb-true n 65535 (test_true _ most.le) in
        omega (arith, l, small))))

    go : (o : Option ℤ) → pushed_before m.code q ≡ o → HasLength m.code q
    go None h = absurd (refuse (inl (λ x. cc (h, x.1))))
    go (Some (pos n)) h = sized n h (cases_lt n 65536)
    go (Some (negsuc n)) h = absurd (refuse (inl (λ x.
        let same : x.0 ≡ negsuc n = cc (h, x.1) in
        let low : pos 0 ≤ℤ negsuc n = subst (λ z. pos 0 ≤ℤ z) same x.2.0 in
        absurd low.le)))

-- ---- local variables for the parameters

pub accepted_room : (bytes : List ℕ) (c : Class) → IsAccepted Third bytes → (of : IsClassOf Third bytes c) (j : ℕ) (w : MethodView) (m : Method) → IsMember c j w m → slots_by is_long m.environment.signature.params ≤ m.environment.max_locals
accepted_room bytes c ok of j w m member = go (cases_lt m.environment.max_locals (slots_by is_long m.environment.signature.params))
  where
    file : InFile bytes c of m
    file = in_file bytes c of j w m member

    go : (m.environment.max_locals < slots_by is_long m.environment.signature.params) ⊎ (slots_by is_long m.environment.signature.params ≤ m.environment.max_locals) → slots_by is_long m.environment.signature.params ≤ m.environment.max_locals
    go (inr l) = l
    go (inl l) =
        let body = file.is.body in
        let code = body.has_code in
        let known = signed_slots (view_of of.pool of.parts) (method_view of.pool file.item) m.environment.signature body.signature in
        let slots : slots_by is_long m.environment.signature.params ≡ slots_taken file.item.flags known.0 = known.2 in
        let locals : m.environment.max_locals ≡ body.parts.max_locals = body.max_locals in
        let few : body.parts.max_locals < slots_taken file.item.flags known.0 = subst (λ n. n < slots_taken file.item.flags known.0) locals (subst (λ n. m.environment.max_locals < n) slots l) in
        let bad : HasBadCode of.pool file.item = crowded body.parts known.0 (code.0, one_contains (codes_of of.pool file.item) code.0 code.1, code.2) known.1 few in
        absurd (ok BadCode (by_shape of.pool of.parts of.file (any_from (HasBadCode of.pool) of.parts.methods file.number file.item file.there bad)))

-- ---- all of these premises

pub accepted_is_formed : (bytes : List ℕ) (c : Class) → IsAccepted Third bytes → IsClassOf Third bytes c → (j : ℕ) (w : MethodView) (m : Method) → IsMember c j w m → IsFormed m
accepted_is_formed bytes c ok of j w m member =
    let file = in_file bytes c of j w m member in
    let signed = signed_has_no_top (view_of of.pool of.parts) (method_view of.pool file.item) m.environment.signature file.is.body.signature in
    record {
      params = signed.0;
      result = signed.1;
      room = accepted_room bytes c ok of j w m member;
      declared = declared_has_no_top (view_of of.pool of.parts) m.environment m.code file.is.tables m.declared file.is.declared;
      forward = accepted_forward bytes c ok of j w m member;
      consecutive = sequence_is_consecutive of.pool 0 file.is.body.parts.code m.code file.is.body.sequence;
      lengths = accepted_lengths bytes c ok of j w m member;
    }
