-- What the shape of a class file says of its class: the class's name, and `process`.
use Rattle.std.proofs.Common.{◌≡◌, ℕ, ◌<◌, true, false, List, Option, Some, None, refl, sym, ap, ◌∙◌, subst, arith, ◌⊎◌, inl, inr}
use Rattle.std.specs.Prelude.{slice_get}
use Rattle.std.proofs.lemmas.Bool.{and_parts, and_from, false_from_ne_true, false≢true, cases_order}
use Rattle.std.proofs.lemmas.Option.{slice_get-get_or}
use Rattle.jtypes.specs.Profile.{Third}
use Rattle.jtypes.specs.declared.refusal.Refusal.TheVariants.{BadHeader, NoProcess, DuplicateMethod}
use Rattle.jtypes.specs.Lists.{same_bytes, is_one_of}
use Rattle.constpool.specs.Names.{process_name, process_descriptor}
use Rattle.classfile.specs.View.{ClassView, MethodView, class_name_at, view_of}
use Rattle.frames.specs.Signatures.{is_static}
use Rattle.typecheck.specs.Typing.{Method, Class, process_from, number_of_process, IsProcessOf}
use Rattle.verdict.specs.Shape.{reserved_names, reserved, AreDoubles, IsProcess}
use Rattle.verdict.specs.Verdict.{IsClassOf, HasShape}
use Rattle.verdict.proofs.Texts.{same_is, same_refl}
use Rattle.verdict.proofs.OwnCalls.{none_is_process, process_found}
use Rattle.soundness.proofs.Callees.{HasSignatures, method_at_number}
use Rattle.soundness.proofs.AcceptedClasses.{accepted_count, accepted_signed}

-- Two methods with the same name and descriptor are the same.
alike : (v : ClassView) (i j : ℕ) (m n : MethodView) → slice_get v.methods i ≡ Some m → slice_get v.methods j ≡ Some n → m.name ≡ n.name → m.descriptor ≡ n.descriptor → ((k l : ℕ) (x y : MethodView) → AreDoubles v k l x y → ⊥) → m ≡ n
alike v i j m n a b name descriptor none = go (cases_order i j)
  where
    go : (i ≡ j) ⊎ ((i < j) ⊎ (j < i)) → m ≡ n
    go (inl e) = let both : Some m ≡ Some n = sym a ∙ ap (slice_get v.methods) e ∙ b in cc both
    go (inr (inl l)) = absurd (none i j m n (record { order = l; first = a; second = b; name = name; descriptor = descriptor }))
    go (inr (inr l)) = absurd (none j i n m (record { order = l; first = b; second = a; name = sym name; descriptor = sym descriptor }))

-- The view of `process`.
pub record HasProcessView (c : Class) (j : ℕ) : Type 0 where
  pub view : MethodView
  pub there : slice_get c.view.methods j ≡ Some view
  pub name : view.name ≡ process_name
  pub descriptor : view.descriptor ≡ process_descriptor

process_view : (c : Class) (j : ℕ) → IsProcessOf c j → HasProcessView c j
process_view c j is =
    let p = process_found 0 c.view.methods j is in
    let parts = and_parts (same_bytes p.0.name process_name) (same_bytes p.0.descriptor process_descriptor) p.4 in
    let index : p.1 ≡ j = (let e = p.2 in omega (arith, e)) in
    record {
      view = p.0;
      there = subst (λ x. slice_get c.view.methods x ≡ Some p.0) index p.3;
      name = same_is p.0.name process_name parts.0;
      descriptor = same_is p.0.descriptor process_descriptor parts.1;
    }

module _ (bytes : List ℕ) (c : Class) (of : IsClassOf Third bytes c) (shape : HasShape of.pool of.parts) where
  abbrev file_view : ClassView
  file_view = view_of of.pool of.parts

  named : is_one_of c.view.name reserved_names ≡ false
  named =
      let free : is_one_of (class_name_at of.pool of.parts.this_class) reserved_names ≡ false = false_from_ne_true _ (λ e. shape.none_stands BadHeader (reserved e)) in
      subst (λ (v : ClassView). is_one_of v.name reserved_names ≡ false) (sym of.class.view) free

  no_doubles : (k l : ℕ) (x y : MethodView) → AreDoubles file_view k l x y → ⊥
  no_doubles k l x y d = shape.none_stands DuplicateMethod (k, l, x, y, d)

  instance : (j : ℕ) (w : MethodView) → IsProcessOf c j → slice_get c.view.methods j ≡ Some w → is_static w.flags ≡ false
  instance j w is known = false_from_ne_true (is_static w.flags) static
    where
      known' : slice_get file_view.methods j ≡ Some w
      known' = subst (λ (v : ClassView). slice_get v.methods j ≡ Some w) of.class.view known

      it : HasProcessView c j
      it = process_view c j is

      same : it.view ≡ w
      same = let both : Some it.view ≡ Some w = sym it.there ∙ known in cc both

      static : is_static w.flags ≡ true → ⊥
      static e = shape.none_stands NoProcess (λ a.
          let there : slice_get file_view.methods a.0 ≡ Some a.1 = slice_get-get_or file_view.methods a.0 a.1 a.2 ∙ ap (λ x. Some x) a.3 in
          let name : a.1.name ≡ w.name = a.4.name ∙ sym it.name ∙ ap (λ (x : MethodView). x.name) same in
          let descriptor : a.1.descriptor ≡ w.descriptor = a.4.descriptor ∙ sym it.descriptor ∙ ap (λ (x : MethodView). x.descriptor) same in
          let one : a.1 ≡ w = alike file_view a.0 j a.1 w there known' name descriptor no_doubles in
          false≢true (sym a.4.instance ∙ ap (λ (x : MethodView). is_static x.flags) one ∙ e))

  pub shaped_signatures : HasSignatures c
  shaped_signatures = record { named = named; instance = instance; count = accepted_count bytes c of; signed = accepted_signed bytes c of }

  pub shaped_process : (j : ℕ) × IsProcessOf c j
  shaped_process = go (number_of_process c) refl
    where
      absent : number_of_process c ≡ None → ⊥
      absent e = shape.none_stands NoProcess (λ a.
          let is : IsProcess a.1 = a.4 in
          let found : slice_get file_view.methods a.0 ≡ Some a.1 = slice_get-get_or file_view.methods a.0 a.1 a.2 ∙ ap (λ x. Some x) a.3 in
          let none : process_from 0 file_view.methods ≡ None = subst (λ (v : ClassView). process_from 0 v.methods ≡ None) of.class.view e in
          let not_it = none_is_process 0 file_view.methods a.0 a.1 none found in
          let name : same_bytes a.1.name process_name ≡ true = ap (λ x. same_bytes x process_name) is.name ∙ same_refl process_name in
          let descriptor : same_bytes a.1.descriptor process_descriptor ≡ true = ap (λ x. same_bytes x process_descriptor) is.descriptor ∙ same_refl process_descriptor in
          false≢true (sym not_it ∙ and_from _ _ name descriptor))

      go : (o : Option ℕ) → number_of_process c ≡ o → (j : ℕ) × IsProcessOf c j
      go None e = absurd (absent e)
      go (Some j) e = (j, e)

  pub method_of_process : (j : ℕ) → IsProcessOf c j → (m : Method) × (slice_get c.methods j ≡ Some m)
  method_of_process j is = let it = process_view c j is in method_at_number c.view.methods c.methods j it.view (accepted_count bytes c of) it.there
