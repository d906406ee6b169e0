-- Stack instructions move what is known as they move values.
use Rattle.std.proofs.Common.{◌≡◌, ℕ, zero, suc, Bool, true, false, List, [], ◌∷◌, Option, Some, None, refl, ap, ◌∙◌, subst}
use Rattle.std.specs.Prelude.{slice_get}
use Rattle.std.specs.Bool.{beq}
use Rattle.jtypes.specs.declared.types.Value.{Value}
use Rattle.jtypes.specs.declared.operations.Rearrangement.{Rearrangement}
use Rattle.jtypes.specs.Lists.{only_if}
use Rattle.jtypes.specs.Values.{Arrays, is_long_value}
use Rattle.transfer.specs.Forms.{Form, forms_of, below_form, onto, picked, by_form, by_forms, rearranged}
use Rattle.unrolled.specs.Known.{Known, is_wide}
use Rattle.loop_soundness.proofs.Agreement.{Agrees, AllAgree, wide_agrees}

module _ (args : ℕ) (arrays : Arrays) where
  abbrev Like : List Known → List Value → Type 0
  Like ks vs = AllAgree arrays args ks vs

  pub record Found (o : Option (List Known)) (us : List Value) : Type 0 where
    pub items : List Known
    pub is : o ≡ Some items
    pub agree : AllAgree arrays args items us

  below_found : (bs : List Bool) (ks : List Known) (vs us : List Value) → Like ks vs → below_form is_long_value bs vs ≡ Some us → Found (below_form is_wide bs ks) us
  below_found [] ks vs us h e = let same : vs ≡ us = cc in record { items = ks; is = refl; agree = subst (Like ks) same h }
  below_found (b ∷ bs) [] [] us h e = cc
  below_found (b ∷ bs) [] (v ∷ vs) us h e = absurd h
  below_found (b ∷ bs) (k ∷ ks) [] us h e = absurd h
  below_found (b ∷ bs) (k ∷ ks) (v ∷ vs) us h e = go (below_found bs ks vs us h.1) (beq b (is_long_value v)) refl e
    where
      go : (below_form is_long_value bs vs ≡ Some us → Found (below_form is_wide bs ks) us) → (t : Bool) → beq b (is_long_value v) ≡ t → only_if t (below_form is_long_value bs vs) ≡ Some us → Found (only_if (beq b (is_wide k)) (below_form is_wide bs ks)) us
      go later true is f =
          let r = later f in
          record { items = r.items; is = ap (λ x. only_if (beq b x) (below_form is_wide bs ks)) (wide_agrees args arrays k v h.0) ∙ ap (λ x. only_if x (below_form is_wide bs ks)) is ∙ r.is; agree = r.agree }
      go later false is f = cc

  below_none : (bs : List Bool) (ks : List Known) (vs : List Value) → Like ks vs → below_form is_long_value bs vs ≡ None → below_form is_wide bs ks ≡ None
  below_none [] ks vs h e = cc
  below_none (b ∷ bs) [] [] h e = refl
  below_none (b ∷ bs) [] (v ∷ vs) h e = absurd h
  below_none (b ∷ bs) (k ∷ ks) [] h e = absurd h
  below_none (b ∷ bs) (k ∷ ks) (v ∷ vs) h e = go (below_none bs ks vs h.1) (beq b (is_long_value v)) refl e
    where
      go : (below_form is_long_value bs vs ≡ None → below_form is_wide bs ks ≡ None) → (t : Bool) → beq b (is_long_value v) ≡ t → only_if t (below_form is_long_value bs vs) ≡ None → only_if (beq b (is_wide k)) (below_form is_wide bs ks) ≡ None
      go later true is f = ap (λ x. only_if (beq b x) (below_form is_wide bs ks)) (wide_agrees args arrays k v h.0) ∙ ap (λ x. only_if x (below_form is_wide bs ks)) is ∙ later f
      go later false is f = ap (λ x. only_if (beq b x) (below_form is_wide bs ks)) (wide_agrees args arrays k v h.0) ∙ ap (λ x. only_if x (below_form is_wide bs ks)) is

  item_at : (ks : List Known) (vs : List Value) (n : ℕ) (v : Value) → Like ks vs → slice_get vs n ≡ Some v → (k : Known) × (slice_get ks n ≡ Some k) × Agrees arrays args k v
  item_at [] [] n v h e = cc
  item_at [] (w ∷ vs) n v h e = absurd h
  item_at (k ∷ ks) [] n v h e = absurd h
  item_at (k ∷ ks) (w ∷ vs) zero v h e = let same : w ≡ v = cc in (k, refl, subst (Agrees arrays args k) same h.0)
  item_at (k ∷ ks) (w ∷ vs) (suc n) v h e = item_at ks vs n v h.1 e

  onto_parts : {A : Type 0} (o : Option A) (l : Option (List A)) (us : List A) → onto o l ≡ Some us → (x : A) × (xs : List A) × (o ≡ Some x) × (l ≡ Some xs) × (x ∷ xs ≡ us)
  onto_parts (Some x) (Some xs) us e = (x, xs, refl, refl, cc)
  onto_parts None l us e = cc
  onto_parts (Some x) None us e = cc

  picked_found : (ns : List ℕ) (ks js : List Known) (vs ws us : List Value) → Like ks vs → Like js ws → picked ns vs ws ≡ Some us → Found (picked ns ks js) us
  picked_found [] ks js vs ws us h g e = let same : ws ≡ us = cc in record { items = js; is = refl; agree = subst (Like js) same g }
  picked_found (n ∷ ns) ks js vs ws us h g e =
      let p = onto_parts (slice_get vs n) (picked ns vs ws) us e in
      let k = item_at ks vs n p.0 h p.2 in
      let r = picked_found ns ks js vs ws p.1 h g p.3 in
      record {
        items = k.0 ∷ r.items;
        is = ap (λ o. onto o (picked ns ks js)) k.1 ∙ ap (onto (Some k.0)) r.is;
        agree = subst (Like (k.0 ∷ r.items)) p.4 (k.2, r.agree);
      }

  forms_found : (forms : List Form) (ks : List Known) (vs us : List Value) → Like ks vs → by_forms is_long_value forms vs ≡ Some us → Found (by_forms is_wide forms ks) us
  forms_found [] ks vs us h e = cc
  forms_found (first ∷ forms) ks vs us h e = go (forms_found forms ks vs us h) (below_form is_long_value first.longs vs) refl e
    where
      go : (by_forms is_long_value forms vs ≡ Some us → Found (by_forms is_wide forms ks) us) → (o : Option (List Value)) → below_form is_long_value first.longs vs ≡ o → by_form first.picks vs o (by_forms is_long_value forms vs) ≡ Some us → Found (by_form first.picks ks (below_form is_wide first.longs ks) (by_forms is_wide forms ks)) us
      go later None is f =
          let r = later f in
          record { items = r.items; is = ap (λ o. by_form first.picks ks o (by_forms is_wide forms ks)) (below_none first.longs ks vs h is) ∙ r.is; agree = r.agree }
      go later (Some rest) is f =
          let b = below_found first.longs ks vs rest h is in
          let r = picked_found first.picks ks b.items vs rest us h b.agree f in
          record { items = r.items; is = ap (λ o. by_form first.picks ks o (by_forms is_wide forms ks)) b.is ∙ r.is; agree = r.agree }

  pub rearranged_found : (r : Rearrangement) (ks : List Known) (vs us : List Value) → AllAgree arrays args ks vs → rearranged is_long_value r vs ≡ Some us → Found (rearranged is_wide r ks) us
  rearranged_found r ks vs us h e = forms_found (forms_of r) ks vs us h e
