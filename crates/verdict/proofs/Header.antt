-- Lemmas about the check of the header.
use Rattle.std.proofs.Common.{◌≡◌, ℕ, Bool, true, false, not, ◌&&◌, List, Some, refl, sym, ◌∙◌}
use Rattle.std.specs.Prelude.{Any}
use Rattle.std.specs.List.{list_any}
use Rattle.std.proofs.lemmas.Bool.{false≢true}
use Rattle.std.proofs.lemmas.List.Folds.{Any-from_list_any, list_any-from_Any}
use Rattle.jtypes.specs.Lists.{is_one_of}
use Rattle.constpool.specs.Lookup.{Slot, class_at}
use Rattle.constpool.specs.Names.{object_name, entry_processor_name}
use Rattle.classfile.specs.declared.class_file.Parts.{Parts}
use Rattle.classfile.specs.Code.{is_text}
use Rattle.classfile.specs.View.{class_name_at}
use Rattle.verdict.specs.Shape.{has_other_kind, reserved_names, HasBadHeader, of_other_kind, not_below_object, no_processor, reserved}
use Rattle.verdict.specs.Shaping.{has_header}
use Rattle.verdict.proofs.Texts.{text_is, is_the_text}

four_hold : (a b c d : Bool) → (not a && b && c && not d) ≡ true → (a ≡ false) × (b ≡ true) × (c ≡ true) × (d ≡ false)
four_hold false true true false h = (refl, refl, refl, refl)
four_hold true b c d h = absurd cc
four_hold false false c d h = absurd cc
four_hold false true false d h = absurd cc
four_hold false true true true h = absurd cc

one_fails : (a b c d : Bool) (P : Type 0) → (not a && b && c && not d) ≡ false → (a ≡ true → P) → (b ≡ false → P) → (c ≡ false → P) → (d ≡ true → P) → P
one_fails true b c d P h w x y z = w refl
one_fails false false c d P h w x y z = x refl
one_fails false true false d P h w x y z = y refl
one_fails false true true true P h w x y z = z refl
one_fails false true true false P h w x y z = absurd cc

abbrev names_processor : List Slot → ℕ → Bool
names_processor pool i = is_text entry_processor_name (class_at pool i)

abbrev ImplementsIt : List Slot → Parts → Type 0
ImplementsIt pool p = Any (λ i. class_at pool i ≡ Some entry_processor_name) p.interfaces

any_is : (pool : List Slot) (p : Parts) → list_any (names_processor pool) p.interfaces ≡ true → ImplementsIt pool p
any_is pool p h =
    let any = Any-from_list_any (names_processor pool) p.interfaces h in
    (any.0, any.1, any.2, any.3, text_is entry_processor_name (class_at pool any.1) any.4)

is_any : (pool : List Slot) (p : Parts) → ImplementsIt pool p → list_any (names_processor pool) p.interfaces ≡ true
is_any pool p any = list_any-from_Any (names_processor pool) p.interfaces (any.0, any.1, any.2, any.3, is_the_text entry_processor_name (class_at pool any.1) any.4)

pub good_header : (pool : List Slot) (p : Parts) → has_header pool p ≡ true → HasBadHeader pool p → ⊥
good_header pool p h bad = go (four_hold (has_other_kind p.flags) (is_text object_name (class_at pool p.super_class)) (list_any (names_processor pool) p.interfaces) (is_one_of (class_name_at pool p.this_class) reserved_names) h) bad
  where
    go : (has_other_kind p.flags ≡ false) × (is_text object_name (class_at pool p.super_class) ≡ true) × (list_any (names_processor pool) p.interfaces ≡ true) × (is_one_of (class_name_at pool p.this_class) reserved_names ≡ false) → HasBadHeader pool p → ⊥
    go all (of_other_kind e) = false≢true (sym all.0 ∙ e)
    go all (not_below_object n) = n (text_is object_name (class_at pool p.super_class) all.1)
    go all (no_processor n) = n (any_is pool p all.2)
    go all (reserved e) = false≢true (sym all.3 ∙ e)

pub bad_header : (pool : List Slot) (p : Parts) → has_header pool p ≡ false → HasBadHeader pool p
bad_header pool p h =
    one_fails (has_other_kind p.flags) (is_text object_name (class_at pool p.super_class)) (list_any (names_processor pool) p.interfaces) (is_one_of (class_name_at pool p.this_class) reserved_names) (HasBadHeader pool p) h
    (λ e. of_other_kind e)
    (λ e. not_below_object (λ q. false≢true (sym e ∙ is_the_text object_name (class_at pool p.super_class) q)))
    (λ e. no_processor (λ any. false≢true (sym e ∙ is_any pool p any)))
    (λ e. reserved e)
