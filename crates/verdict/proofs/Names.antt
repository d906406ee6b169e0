-- Lemmas about the check of method names.
use Rattle.std.proofs.Common.{◌≡◌, ℕ, zero, suc, ◌<◌, Bool, true, false, not, ◌&&◌, List, [], ◌∷◌, length, Option, Some, None, refl, sym, ap, ◌∙◌, subst, arith, ◌⊎◌, inl, inr}
use Rattle.std.specs.Prelude.{Any, slice_get, map, option_map}
use Rattle.std.specs.List.{list_any}
use Rattle.std.proofs.Math.ListN.{get_or-map}
use Rattle.std.proofs.lemmas.Bool.{and_parts, cases_Bool, false≢true}
use Rattle.std.proofs.lemmas.List.{length-map}
use Rattle.std.proofs.lemmas.List.Folds.{Any-from_list_any, list_any-from_Any, list_any_at}
use Rattle.std.proofs.lemmas.Option.{slice_get-map, slice_get_within, get_or_from_slice_get}
use Rattle.jtypes.specs.Lists.{same_bytes}
use Rattle.constpool.specs.Lookup.{Slot}
use Rattle.constpool.specs.Names.{clinit_name, process_name, process_descriptor}
use Rattle.classfile.specs.declared.class_file.Member.{Member}
use Rattle.classfile.specs.declared.class_file.Parts.{Parts}
use Rattle.classfile.specs.View.{MethodView, method_view, text_at, view_of}
use Rattle.frames.specs.Signatures.{is_public, is_static}
use Rattle.verdict.specs.Shape.{IsInitialiser, IsProcess, AreDoubles}
use Rattle.verdict.specs.Shaping.{is_initialiser, is_good_process, are_doubles, has_doubles}
use Rattle.verdict.proofs.Methods.{any_at}
use Rattle.verdict.proofs.Texts.{same_is, is_same}

-- ---- the class initialiser

pub initialiser_is : (pool : List Slot) (ms : List Member) → list_any (is_initialiser pool) ms ≡ true → Any (IsInitialiser pool) ms
initialiser_is pool ms h =
    let a = Any-from_list_any (is_initialiser pool) ms h in
    (a.0, a.1, a.2, a.3, same_is (text_at pool a.1.name) clinit_name a.4)

pub no_initialiser : (pool : List Slot) (ms : List Member) → list_any (is_initialiser pool) ms ≡ false → Any (IsInitialiser pool) ms → ⊥
no_initialiser pool ms h a =
    false≢true (sym h ∙ list_any-from_Any (is_initialiser pool) ms (a.0, a.1, a.2, a.3, is_same (text_at pool a.1.name) clinit_name a.4))

-- ---- `process`

four_hold : (a b c d : Bool) → ((a && b) && c && not d) ≡ true → (a ≡ true) × (b ≡ true) × (c ≡ true) × (d ≡ false)
four_hold true true true false h = (refl, refl, refl, refl)
four_hold false b c d h = absurd cc
four_hold true false c d h = absurd cc
four_hold true true false d h = absurd cc
four_hold true true true true h = absurd cc

hold_four : (a b c d : Bool) → a ≡ true → b ≡ true → c ≡ true → d ≡ false → ((a && b) && c && not d) ≡ true
hold_four true true true false h i j k = refl
hold_four false b c d h i j k = absurd cc
hold_four true false c d h i j k = absurd cc
hold_four true true false d h i j k = absurd cc
hold_four true true true true h i j k = absurd cc

process_seen : (pool : List Slot) (m : Member) → is_good_process pool m ≡ true → IsProcess (method_view pool m)
process_seen pool m h =
    let p = four_hold (same_bytes (text_at pool m.name) process_name) (same_bytes (text_at pool m.descriptor) process_descriptor) (is_public m.flags) (is_static m.flags) h in
    record { name = same_is (text_at pool m.name) process_name p.0; descriptor = same_is (text_at pool m.descriptor) process_descriptor p.1; public = p.2; instance = p.3 }

seen_process : (pool : List Slot) (m : Member) → IsProcess (method_view pool m) → is_good_process pool m ≡ true
seen_process pool m p =
    hold_four (same_bytes (text_at pool m.name) process_name) (same_bytes (text_at pool m.descriptor) process_descriptor) (is_public m.flags) (is_static m.flags)
    (is_same (text_at pool m.name) process_name p.name) (is_same (text_at pool m.descriptor) process_descriptor p.descriptor) p.public p.instance

pub process_is : (pool : List Slot) (ms : List Member) → list_any (is_good_process pool) ms ≡ true → Any IsProcess (map (method_view pool) ms)
process_is pool ms h =
    let a = Any-from_list_any (is_good_process pool) ms h in
    let within : a.0 < length (map (method_view pool) ms) = omega (arith, a.2, length-map ms (method_view pool)) in
    (a.0, method_view pool a.1, within, get_or-map (method_view pool) ms a.0 a.1 ∙ ap (method_view pool) a.3, process_seen pool a.1 a.4)

-- The view at an index of the views is that of the method at this index.
at_views : (pool : List Slot) (ms : List Member) (k : ℕ) (v : MethodView) → slice_get (map (method_view pool) ms) k ≡ Some v → (m : Member) × (slice_get ms k ≡ Some m) × (method_view pool m ≡ v)
at_views pool ms k v h = go (slice_get ms k) refl
  where
    go : (o : Option Member) → slice_get ms k ≡ o → (m : Member) × (slice_get ms k ≡ Some m) × (method_view pool m ≡ v)
    go None e = let none : None ≡ Some v = sym (slice_get-map (method_view pool) ms k ∙ ap (option_map (method_view pool)) e) ∙ h in absurd (cc none)
    go (Some m) e =
        let some : Some (method_view pool m) ≡ Some v = sym (slice_get-map (method_view pool) ms k ∙ ap (option_map (method_view pool)) e) ∙ h in
        (m, e, cc some)

any_is : {A : Type 0} (test : A → Bool) (xs : List A) (k : ℕ) (x : A) → slice_get xs k ≡ Some x → test x ≡ true → list_any test xs ≡ true
any_is test xs k x at t = list_any_at test xs k x (slice_get_within xs k x at) (ap test (get_or_from_slice_get xs k x x at) ∙ t)

pub no_process : (pool : List Slot) (ms : List Member) → list_any (is_good_process pool) ms ≡ false → Any IsProcess (map (method_view pool) ms) → ⊥
no_process pool ms h any =
    let a = any_at IsProcess (map (method_view pool) ms) any in
    let it = at_views pool ms a.0 a.1 a.2 in
    let good = seen_process pool it.0 (subst IsProcess (sym it.2) a.3) in
    false≢true (sym h ∙ any_is (is_good_process pool) ms a.0 it.0 it.1 good)

-- ---- duplicate methods

record Pair (pool : List Slot) (ms : List Member) : Type 0 where
  i : ℕ
  j : ℕ
  m : Member
  n : Member
  order : i < j
  first : slice_get ms i ≡ Some m
  second : slice_get ms j ≡ Some n
  alike : are_doubles pool m n ≡ true

pair_from : (pool : List Slot) (ms : List Member) → has_doubles pool ms ≡ true → Pair pool ms
pair_from pool [] h = absurd cc
pair_from pool (x ∷ ms) h = go (cases_Bool (list_any (are_doubles pool x) ms)) (pair_from pool ms)
  where
    go : (list_any (are_doubles pool x) ms ≡ true) ⊎ (list_any (are_doubles pool x) ms ≡ false) → (has_doubles pool ms ≡ true → Pair pool ms) → Pair pool (x ∷ ms)
    go (inl e) others =
        let a = any_at (λ (y : Member). are_doubles pool x y ≡ true) ms (Any-from_list_any (are_doubles pool x) ms e) in
        record { i = 0; j = suc a.0; m = x; n = a.1; order = omega arith; first = refl; second = a.2; alike = a.3 }
    go (inr e) others =
        let p = others (rw e at h) in
        record { i = suc p.i; j = suc p.j; m = p.m; n = p.n; order = omega (arith, p.order); first = p.first; second = p.second; alike = p.alike }

from_pair : (pool : List Slot) (ms : List Member) (i j : ℕ) (m n : Member) → i < j → slice_get ms i ≡ Some m → slice_get ms j ≡ Some n → are_doubles pool m n ≡ true → has_doubles pool ms ≡ true
from_pair pool [] i j m n lt a b h = absurd cc
from_pair pool (x ∷ ms) i zero m n lt a b h = absurd (omega arith)
from_pair pool (x ∷ ms) zero (suc j) m n lt a b h =
    let same : x ≡ m = cc a in
    let here : list_any (are_doubles pool x) ms ≡ true = any_is (are_doubles pool x) ms j n b (ap (λ (y : Member). are_doubles pool y n) same ∙ h) in
    rw here refl
from_pair pool (x ∷ ms) (suc i) (suc j) m n lt a b h = go (cases_Bool (list_any (are_doubles pool x) ms)) (from_pair pool ms i j m n (omega arith) a b h)
  where
    go : (list_any (are_doubles pool x) ms ≡ true) ⊎ (list_any (are_doubles pool x) ms ≡ false) → has_doubles pool ms ≡ true → has_doubles pool (x ∷ ms) ≡ true
    go (inl e) others = rw e refl
    go (inr e) others = rw e others

pub doubles_are : (pool : List Slot) (p : Parts) → has_doubles pool p.methods ≡ true → (i j : ℕ) × (m : MethodView) × (n : MethodView) × AreDoubles (view_of pool p) i j m n
doubles_are pool p h =
    let a = pair_from pool p.methods h in
    let same = and_parts (same_bytes (text_at pool a.m.name) (text_at pool a.n.name)) (same_bytes (text_at pool a.m.descriptor) (text_at pool a.n.descriptor)) a.alike in (
      a.i,
      a.j,
      method_view pool a.m,
      method_view pool a.n,
      record {
        order = a.order;
        first = slice_get-map (method_view pool) p.methods a.i ∙ ap (option_map (method_view pool)) a.first;
        second = slice_get-map (method_view pool) p.methods a.j ∙ ap (option_map (method_view pool)) a.second;
        name = same_is (text_at pool a.m.name) (text_at pool a.n.name) same.0;
        descriptor = same_is (text_at pool a.m.descriptor) (text_at pool a.n.descriptor) same.1;
      },
    )

pub no_doubles : (pool : List Slot) (p : Parts) (i j : ℕ) (m n : MethodView) → has_doubles pool p.methods ≡ false → AreDoubles (view_of pool p) i j m n → ⊥
no_doubles pool p i j m n h d =
    let a = at_views pool p.methods i m d.first in
    let b = at_views pool p.methods j n d.second in
    let name : text_at pool a.0.name ≡ text_at pool b.0.name = ap (λ (v : MethodView). v.name) a.2 ∙ d.name ∙ sym (ap (λ (v : MethodView). v.name) b.2) in
    let descriptor : text_at pool a.0.descriptor ≡ text_at pool b.0.descriptor = ap (λ (v : MethodView). v.descriptor) a.2 ∙ d.descriptor ∙ sym (ap (λ (v : MethodView). v.descriptor) b.2) in
    let alike : are_doubles pool a.0 b.0 ≡ true = rw (is_same (text_at pool a.0.name) (text_at pool b.0.name) name) (is_same (text_at pool a.0.descriptor) (text_at pool b.0.descriptor) descriptor) in
    false≢true (sym h ∙ from_pair pool p.methods i j a.0 b.0 d.order a.1 b.1 alike)
