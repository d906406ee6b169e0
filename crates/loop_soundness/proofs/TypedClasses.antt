-- The methods of a class file without refusals of its shape and its types are well typed and formed, whatever its branches.
use Rattle.std.proofs.Common.{◌≡◌, ℕ, ◌<◌, ◌≤◌, Bool, true, false, List, [], ◌∷◌, length, Option, Some, None, refl, sym, ap, subst, arith, ◌⊎◌, inl, inr}
use Rattle.std.specs.Prelude.{IsFalse, IsNone, IsSome, is_some, ℤ, pos, negsuc, ◌≤ℤ◌, T}
use Rattle.std.proofs.lemmas.Bool.{false_from_ne_true, cases_lt, le-leb, leb-true}
use Rattle.jtypes.specs.Profile.{Third}
use Rattle.jtypes.specs.declared.refusal.Refusal.{Refusal}
use Rattle.jtypes.specs.declared.refusal.Refusal.TheVariants.{BadCode, BadStackMap, TypeMismatch, FallsOff, LengthNotConstant}
use Rattle.jtypes.specs.declared.operations.ArrayKind.{ArrayKind}
use Rattle.jtypes.specs.Lists.{last}
use Rattle.jtypes.specs.Types.{is_long, slots_by}
use Rattle.constpool.specs.Lookup.{Slot}
use Rattle.classfile.specs.View.{ClassView, MethodView, method_view, view_of, codes_of}
use Rattle.decode.specs.declared.instruction.Instruction.TheVariants.{NewArray}
use Rattle.decode.specs.declared.instruction.Placed.{Placed}
use Rattle.decode.specs.Code.{IsSequence}
use Rattle.decode.specs.Places.{pushed_before}
use Rattle.decode.proofs.Consecutive.{sequence_is_consecutive}
use Rattle.frames.specs.declared.frame.Environment.{Environment}
use Rattle.typecheck.specs.Typing.{Method, Class, IsWellTyped, instruction_at, declared_at}
use Rattle.typecheck.specs.Mismatch.{IsMismatch, HasLength, HasFrame, LacksLength}
use Rattle.typecheck.specs.Pass.{failure_of, IsReady}
use Rattle.typecheck.proofs.DeclaredPlaces.{declared_stands}
use Rattle.typecheck.proofs.Passes.{fails_at_mismatch, passes_typed}
use Rattle.verdict.specs.Shape.{is_constructor, HasBadCode, empty, crowded, slots_taken}
use Rattle.verdict.specs.Verdict.{IsClassOf, HasShape, HasTypes, IsBody, BodyStands, TypesStand}
use Rattle.verdict.specs.Checked.{IsMember}
use Rattle.verdict.proofs.Methods.{any_from}
use Rattle.verdict.proofs.ParameterRoom.{signed_slots, one_contains}
use Rattle.soundness.proofs.AcceptedClasses.{signed_has_no_top, InFile, in_file}
use Rattle.soundness.proofs.DeclaredFrames.{declared_has_no_top}
use Rattle.loop_soundness.specs.Checked.{IsFormedWithLoops}

-- Nonempty code has a last instruction.
last_of_some : (x : Placed) (xs : List Placed) → IsSome (last (x ∷ xs))
last_of_some x [] = refl
last_of_some x (y ∷ xs) = last_of_some y xs

has_last : (pool : List Slot) (text : List ℕ) (code : List Placed) → IsSequence Third pool 0 text code → (length text ≡ 0 → ⊥) → IsSome (last code)
has_last pool text [] h some = absurd (some (ap length h))
has_last pool text (x ∷ xs) h some = last_of_some x xs

test_true : (t : Bool) → T t → t ≡ true
test_true true h = refl
test_true false h = absurd h

module _ (bytes : List ℕ) (c : Class) (of : IsClassOf Third bytes c) (shape : HasShape of.pool of.parts) where
  abbrev file_view : ClassView
  file_view = view_of of.pool of.parts

  -- The parameters of a method fit into its local variables.
  pub shaped_room : (j : ℕ) (w : MethodView) (m : Method) → IsMember c j w m → slots_by is_long m.environment.signature.params ≤ m.environment.max_locals
  shaped_room j w m member = go (cases_lt m.environment.max_locals (slots_by is_long m.environment.signature.params))
    where
      file : InFile bytes c of m
      file = in_file bytes c of j w m member

      go : (m.environment.max_locals < slots_by is_long m.environment.signature.params) ⊎ (slots_by is_long m.environment.signature.params ≤ m.environment.max_locals) → slots_by is_long m.environment.signature.params ≤ m.environment.max_locals
      go (inr l) = l
      go (inl l) =
          let body = file.is.body in
          let code = body.has_code in
          let known = signed_slots file_view (method_view of.pool file.item) m.environment.signature body.signature in
          let slots : slots_by is_long m.environment.signature.params ≡ slots_taken file.item.flags known.0 = known.2 in
          let locals : m.environment.max_locals ≡ body.parts.max_locals = body.max_locals in
          let few : body.parts.max_locals < slots_taken file.item.flags known.0 = subst (λ n. n < slots_taken file.item.flags known.0) locals (subst (λ n. m.environment.max_locals < n) slots l) in
          let bad : HasBadCode of.pool file.item = crowded body.parts known.0 (code.0, one_contains (codes_of of.pool file.item) code.0 code.1, code.2) known.1 few in
          absurd (shape.none_stands BadCode (any_from (HasBadCode of.pool) of.parts.methods file.number file.item file.there bad))

  module _ (types : HasTypes Third of.pool of.parts) where
    -- No refusal of the types applies to a method other than the constructor.
    no_refusal : (m : Method) (file : InFile bytes c of m) (r : Refusal) → BodyStands file_view m.environment m.code file.is.tables r → ⊥
    no_refusal m file r s =
        let stands : TypesStand Third of.pool of.parts r = any_from (λ y. IsFalse (is_constructor of.pool y) × ((x : Environment) × (code : List Placed) × (tables : List (List ℕ)) × IsBody Third of.pool of.parts y x code tables × BodyStands file_view x code tables r)) of.parts.methods file.number file.item file.there (file.other, (m.environment, m.code, file.is.tables, file.is.body, s)) in
        types.none_stands r stands

    pub typed : (j : ℕ) (w : MethodView) (m : Method) → IsMember c j w m → IsWellTyped c.view m
    typed j w m member = subst (λ v. IsWellTyped v m) (sym of.class.view) (go (failure_of file_view m) refl)
      where
        file : InFile bytes c of m
        file = in_file bytes c of j w m member

        ready : IsReady m
        ready = record {
          consecutive = sequence_is_consecutive of.pool 0 file.is.body.parts.code m.code file.is.body.sequence;
          declared = declared_stands file_view m.environment m.code file.is.tables m.declared file.is.declared;
          whole = λ l. no_refusal m file BadStackMap (inr (m.declared, file.is.declared, l));
        }

        ends : IsSome (last m.code)
        ends =
            let body = file.is.body in
            let code = body.has_code in
            has_last of.pool body.parts.code m.code body.sequence (λ n.
            shape.none_stands BadCode (any_from _ of.parts.methods file.number file.item file.there (empty body.parts (code.0, one_contains _ code.0 code.1, code.2) n)))

        go : (o : Option ℕ) → failure_of file_view m ≡ o → IsWellTyped file_view m
        go None e = (passes_typed file_view m ready ends (λ f. no_refusal m file FallsOff f)).0 e
        go (Some q) e =
            let mismatch : IsMismatch file_view m q = (fails_at_mismatch file_view m q ready).0 e in
            absurd (no_refusal m file (TypeMismatch q) (λ b. no_refusal m file BadStackMap b, (m.declared, file.is.declared, mismatch)))

    -- The length of a new array is the constant before it.
    lengths : (j : ℕ) (w : MethodView) (m : Method) → IsMember c j w m → (q : ℕ) (p : Placed) (k : ArrayKind) → instruction_at m q ≡ Some p → p.instruction ≡ NewArray k → IsNone (declared_at m q) × HasLength m.code q
    lengths j w m member q p k e is = (false_from_ne_true (is_some (declared_at m q)) (λ h. refuse (inr (m.declared, file.is.declared, h))), go (pushed_before m.code q) refl)
      where
        file : InFile bytes c of m
        file = in_file bytes c of j w m member

        refuse : ((HasLength m.code q → ⊥) ⊎ HasFrame file_view m.environment m.code file.is.tables q) → ⊥
        refuse h =
            let lacks : LacksLength file_view m.environment m.code file.is.tables = (q, p, k, e, is, h) in
            no_refusal m file LengthNotConstant lacks

        sized : (n : ℕ) → pushed_before m.code q ≡ Some (pos n) → (n < 65536) ⊎ (65536 ≤ n) → HasLength m.code q
        sized n h (inl l) = let small : n ≤ 65535 = omega (arith, l) in let least : 0 ≤ n = omega arith in (pos n, h, (record { le = subst T (sym (le-leb 0 n least)) tt }, record { le = subst T (sym (le-leb n 65535 small)) tt }))
        sized n h (inr l) = absurd (refuse (inl (λ x.
            let same : x.0 ≡ pos n = cc (h, x.1) in
            let most : pos n ≤ℤ pos 65535 = subst (λ z. z ≤ℤ pos 65535) same x.2.1 in
            let small : n ≤ 65535 = leb-true n 65535 (test_true _ most.le) in
            omega (arith, l, small))))

        go : (o : Option ℤ) → pushed_before m.code q ≡ o → HasLength m.code q
        go None h = absurd (refuse (inl (λ x. cc (h, x.1))))
        go (Some (pos n)) h = sized n h (cases_lt n 65536)
        go (Some (negsuc n)) h = absurd (refuse (inl (λ x.
            let same : x.0 ≡ negsuc n = cc (h, x.1) in
            let low : pos 0 ≤ℤ negsuc n = subst (λ z. pos 0 ≤ℤ z) same x.2.0 in
            absurd low.le)))

    pub formed : (j : ℕ) (w : MethodView) (m : Method) → IsMember c j w m → IsFormedWithLoops m
    formed j w m member =
        let file = in_file bytes c of j w m member in
        let signed = signed_has_no_top file_view (method_view of.pool file.item) m.environment.signature file.is.body.signature in
        record {
          params = signed.0;
          result = signed.1;
          declared = declared_has_no_top file_view m.environment m.code file.is.tables m.declared file.is.declared;
          consecutive = sequence_is_consecutive of.pool 0 file.is.body.parts.code m.code file.is.body.sequence;
          lengths = lengths j w m member;
        }
