-- Lemmas about the constructor that passes the check.
use Rattle.std.proofs.Common.{◌≡◌, ℕ, ◌+◌, ◌*◌, ◌<◌, ◌≤◌, Bool, true, false, not, ◌&&◌, List, [], ◌∷◌, length, get_or, Option, Some, None, refl, sym, ap, ◌∙◌, subst, arith}
use Rattle.std.specs.Prelude.{slice_get, codes, nat_le, nat_eq, ◌==◌}
use Rattle.std.specs.List.{AllZip}
use Rattle.std.proofs.lemmas.Bool.{eqb-true, eq-eqb, leb-true, le-leb, false≢true}
use Rattle.std.proofs.lemmas.Option.{slice_get-get_or, slice_get_within}
use Rattle.jtypes.specs.Lists.{same_bytes}
use Rattle.constpool.specs.Lookup.{Slot, MemberRef, method_at}
use Rattle.constpool.specs.Names.{object_name, init_name}
use Rattle.classfile.specs.declared.class_file.Member.{Member}
use Rattle.classfile.specs.declared.class_file.Parts.{Parts}
use Rattle.classfile.specs.declared.class_file.CodeParts.{CodeParts}
use Rattle.classfile.specs.View.{text_at, tables_of}
use Rattle.frames.specs.Signatures.{is_static}
use Rattle.verdict.specs.Shape.{HasCode, HasConstructor, IsConstructor, IsConstructorCode, is_constructor, object_init}
use Rattle.verdict.specs.Shaping.{is_object_init, calls_object_init, has_constructor_code, has_constructor_type, IsOnlyAt, IsTheConstructor}
use Rattle.verdict.proofs.Texts.{same_is, is_same}
use Rattle.verdict.proofs.Codes.{some_is_only, has_some}
use Rattle.verdict.proofs.Methods.{zip_at, zip_has}
use Rattle.verdict.proofs.OnlyOne.{only_passes, no_other_place}

-- ---- conjunctions

two : (a b : Bool) → (not a && b) ≡ true → (a ≡ false) × (b ≡ true)
two false true h = (refl, refl)
two false false h = absurd cc
two true b h = absurd cc

both : (a b : Bool) → a ≡ false → b ≡ true → (not a && b) ≡ true
both false true h k = refl
both false false h k = absurd cc
both true b h k = absurd cc

four : (a b c d : Bool) → (a && b && c && d) ≡ true → (a ≡ true) × (b ≡ true) × (c ≡ true) × (d ≡ true)
four true true true true h = (refl, refl, refl, refl)
four false b c d h = absurd cc
four true false c d h = absurd cc
four true true false d h = absurd cc
four true true true false h = absurd cc

all_four : (a b c d : Bool) → a ≡ true → b ≡ true → c ≡ true → d ≡ true → (a && b && c && d) ≡ true
all_four true true true true h i j k = refl
all_four false b c d h i j k = absurd cc
all_four true false c d h i j k = absurd cc
all_four true true false d h i j k = absurd cc
all_four true true true false h i j k = absurd cc

three : (a b c : Bool) → (a && b && c) ≡ true → (a ≡ true) × (b ≡ true) × (c ≡ true)
three true true true h = (refl, refl, refl)
three false b c h = absurd cc
three true false c h = absurd cc
three true true false h = absurd cc

-- ---- the code of a constructor

abbrev reference : List ℕ → List ℕ → List ℕ → MemberRef
reference class name descriptor = record { class = class; name = name; descriptor = descriptor }

same_reference : (a b c x y z : List ℕ) → a ≡ x → b ≡ y → c ≡ z → reference a b c ≡ reference x y z
same_reference a b c x y z p q r = ap (λ (t : List ℕ). reference t b c) p ∙ ap (λ (t : List ℕ). reference x t c) q ∙ ap (λ (t : List ℕ). reference x y t) r

object_init_is : (found : Option MemberRef) → is_object_init found ≡ true → found ≡ Some object_init
object_init_is None h = absurd cc
object_init_is (Some m) h =
    let p = three (same_bytes m.class object_name) (same_bytes m.name init_name) (same_bytes m.descriptor (codes "()V")) h in
    let class : m.class ≡ object_name = same_is m.class object_name p.0 in
    let name : m.name ≡ init_name = same_is m.name init_name p.1 in
    let descriptor : m.descriptor ≡ codes "()V" = same_is m.descriptor (codes "()V") p.2 in
    let same : m ≡ object_init = same_reference m.class m.name m.descriptor object_name init_name (codes "()V") class name descriptor in
    ap (λ (x : MemberRef). Some x) same

record Calls (pool : List Slot) (code : List ℕ) : Type 0 where
  high : ℕ
  low : ℕ
  bytes : code ≡ 0x2A ∷ 0xB7 ∷ high ∷ low ∷ 0xB1 ∷ []
  calls : method_at pool (high * 256 + low) ≡ Some object_init

calls_it : (pool : List Slot) (code : List ℕ) → calls_object_init pool code ≡ true → Calls pool code
calls_it pool [] h = absurd cc
calls_it pool (a ∷ []) h = absurd cc
calls_it pool (a ∷ b ∷ []) h = absurd cc
calls_it pool (a ∷ b ∷ c ∷ []) h = absurd cc
calls_it pool (a ∷ b ∷ c ∷ d ∷ []) h = absurd cc
calls_it pool (a ∷ b ∷ c ∷ d ∷ e ∷ f ∷ g) h = absurd cc
calls_it pool (a ∷ b ∷ c ∷ d ∷ e ∷ []) h =
    let p = four (a == 0x2A) (b == 0xB7) (e == 0xB1) (is_object_init (method_at pool (c * 256 + d))) h in
    let first : a ≡ 0x2A = eqb-true a 0x2A p.0 in
    let second : b ≡ 0xB7 = eqb-true b 0xB7 p.1 in
    let last : e ≡ 0xB1 = eqb-true e 0xB1 p.2 in
    record { high = c; low = d; bytes = cc (first, second, last); calls = object_init_is (method_at pool (c * 256 + d)) p.3 }

code_is : (pool : List Slot) (c : CodeParts) → has_constructor_code pool c ≡ true → IsConstructorCode pool c
code_is pool c h =
    let p = four (calls_object_init pool c.code) (nat_le 1 c.max_stack) (nat_le 1 c.max_locals) (nat_eq (length (tables_of pool c)) 0) h in
    let k = calls_it pool c.code p.0 in
    record { high = k.high; low = k.low; bytes = k.bytes; calls = k.calls; stack = leb-true 1 c.max_stack p.1; locals = leb-true 1 c.max_locals p.2; no_table = nothing (tables_of pool c) (eqb-true (length (tables_of pool c)) 0 p.3) }
  where
    nothing : (xs : List (List ℕ)) → length xs ≡ 0 → xs ≡ []
    nothing [] e = refl
    nothing (x ∷ xs) e = absurd (omega (arith, e))

is_code : (pool : List Slot) (c : CodeParts) → IsConstructorCode pool c → has_constructor_code pool c ≡ true
is_code pool c h =
    let called : calls_object_init pool c.code ≡ true = ap (calls_object_init pool) h.bytes ∙ ap is_object_init h.calls in
    all_four (calls_object_init pool c.code) (nat_le 1 c.max_stack) (nat_le 1 c.max_locals) (nat_eq (length (tables_of pool c)) 0)
    called (le-leb 1 c.max_stack h.stack) (le-leb 1 c.max_locals h.locals) (eq-eqb (length (tables_of pool c)) 0 (ap length h.no_table))

-- ---- the constructor

pub item_at : {X : Type 0} (xs : List X) (n : ℕ) (x : X) → (n < length xs) × ((d : X) → x ≡ get_or xs n d) → slice_get xs n ≡ Some x
item_at {X = X} xs n x h = slice_get-get_or xs n x h.0 ∙ ap (λ (z : X). Some z) (sym (h.1 x))

found_is : (pool : List Slot) (p : Parts) (n : ℕ) (m : Member) (one : IsOnlyAt (is_constructor pool) p.methods n) → slice_get p.methods n ≡ Some m → (h : HasConstructor pool p) → h.0 ≡ m
found_is pool p n m one at h =
    let same : Some h.0 ≡ Some one.found = sym h.1 ∙ one.only_is in
    let here : Some one.found ≡ Some m = sym one.is ∙ at in
    cc (same, here)

pub no_code : (pool : List Slot) (p : Parts) (cs : List CodeParts) (n : ℕ) (m : Member) → AllZip (HasCode pool) p.methods cs → slice_get p.methods n ≡ Some m → length cs ≤ n → ⊥
no_code pool p cs n m zip at le =
    let it = zip_has (HasCode pool) p.methods cs n m zip at in
    omega (arith, slice_get_within cs n it.0 it.1, le)

pub wrong_type : (pool : List Slot) (p : Parts) (n : ℕ) (m : Member) → IsOnlyAt (is_constructor pool) p.methods n → slice_get p.methods n ≡ Some m → has_constructor_type pool m ≡ false → HasConstructor pool p → ⊥
wrong_type pool p n m one at f h =
    let it = subst (λ (x : Member). IsConstructor pool x) (found_is pool p n m one at h) h.2 in
    false≢true (sym f ∙ both (is_static m.flags) (same_bytes (text_at pool m.descriptor) (codes "()V")) it.instance (is_same (text_at pool m.descriptor) (codes "()V") it.descriptor))

pub wrong_code : (pool : List Slot) (p : Parts) (cs : List CodeParts) (n : ℕ) (m : Member) (c : CodeParts) → IsOnlyAt (is_constructor pool) p.methods n → slice_get p.methods n ≡ Some m → AllZip (HasCode pool) p.methods cs → slice_get cs n ≡ Some c
    → has_constructor_code pool c ≡ false → HasConstructor pool p → ⊥
wrong_code pool p cs n m c one at zip here f h =
    let it = subst (λ (x : Member). IsConstructor pool x) (found_is pool p n m one at h) h.2 in
    let has = zip_at (HasCode pool) p.methods cs n m c zip at here in
    let same : it.parts ≡ c = some_is_only pool m c it.parts has (has_some pool m it.parts it.has_code) in
    false≢true (sym f ∙ is_code pool c (subst (IsConstructorCode pool) same it.code))

pub the_constructor : (pool : List Slot) (p : Parts) (cs : List CodeParts) (n : ℕ) (m : Member) (c : CodeParts) → IsOnlyAt (is_constructor pool) p.methods n → slice_get p.methods n ≡ Some m → AllZip (HasCode pool) p.methods cs → slice_get cs n ≡ Some c
    → has_constructor_type pool m ≡ true → has_constructor_code pool c ≡ true → IsTheConstructor pool p n
the_constructor pool p cs n m c one at zip here t f =
    let kind = two (is_static m.flags) (same_bytes (text_at pool m.descriptor) (codes "()V")) t in
    let has = zip_at (HasCode pool) p.methods cs n m c zip at here in
    let form : IsConstructor pool m = record { instance = kind.0; descriptor = same_is (text_at pool m.descriptor) (codes "()V") kind.1; parts = c; has_code = has; code = code_is pool c f } in
    let both_are : Some one.found ≡ Some m = sym one.is ∙ at in
    let same : one.found ≡ m = cc both_are in
    record {
      has = (m, one.only_is ∙ both_are, form);
      is = at;
      named = ap (is_constructor pool) (sym same) ∙ only_passes (is_constructor pool) p.methods n one;
      no_other = no_other_place (is_constructor pool) p.methods n one;
    }
