-- Lemmas about the whole shape.
use Rattle.std.proofs.Common.{◌≡◌, ℕ, List, [], length, refl, sym, ap, subst, ◌⊎◌, inl, inr}
use Rattle.std.specs.Prelude.{Any}
use Rattle.std.specs.List.{AllZip}
use Rattle.jtypes.specs.declared.refusal.Refusal.{Refusal}
use Rattle.jtypes.specs.declared.refusal.Refusal.TheVariants.{NoMemory, BadDescriptor, BadHeader, ConstructorForm, ClassInitialiser, NoProcess, DuplicateMethod, NoBody, BadCode, ExceptionTable}
use Rattle.jtypes.specs.Layout.{IsLaidOut}
use Rattle.jtypes.proofs.Laws.{laid_out_once}
use Rattle.constpool.specs.Lookup.{Slot}
use Rattle.classfile.specs.declared.class_file.Parts.{Parts}
use Rattle.classfile.specs.declared.class_file.CodeParts.{CodeParts}
use Rattle.classfile.specs.Class.{class_file}
use Rattle.verdict.specs.Shape.{HasBadHeader, HasConstructor, ShapeStands}
use Rattle.verdict.specs.Shaping.{HasGoodMethod, MethodStands, IsTheConstructor, AreNamesGood, NamesStand, HasGoodShape}
use Rattle.verdict.specs.Verdict.{IsClassFile}
use Rattle.verdict.proofs.Methods.{codes_of_good, good_methods}
use Rattle.verdict.proofs.Names.{initialiser_is, no_initialiser, process_is, no_process, doubles_are, no_doubles}

pub header_refuses : (pool : List Slot) (p : Parts) (r : Refusal) → (r ≡ BadHeader) × HasBadHeader pool p → (r ≡ NoMemory) ⊎ ShapeStands pool p r
header_refuses pool p r h = inr (subst (ShapeStands pool p) (sym h.0) h.1)

some_method : (pool : List Slot) (p : Parts) (r : Refusal) → Any (λ m. MethodStands pool p m r) p.methods → ShapeStands pool p r
some_method pool p BadDescriptor h = h
some_method pool p NoBody h = h
some_method pool p BadCode h = h
some_method pool p ExceptionTable h = h
some_method pool p r h = absurd h.4

pub method_refuses : (pool : List Slot) (p : Parts) (r : Refusal) → (r ≡ NoMemory) ⊎ Any (λ m. MethodStands pool p m r) p.methods → (r ≡ NoMemory) ⊎ ShapeStands pool p r
method_refuses pool p r (inl e) = inl e
method_refuses pool p r (inr h) = inr (some_method pool p r h)

pub constructor_refuses : (pool : List Slot) (p : Parts) (r : Refusal) → (r ≡ NoMemory) ⊎ ((r ≡ ConstructorForm) × (HasConstructor pool p → ⊥)) → (r ≡ NoMemory) ⊎ ShapeStands pool p r
constructor_refuses pool p r (inl e) = inl e
constructor_refuses pool p r (inr h) = inr (subst (ShapeStands pool p) (sym h.0) h.1)

some_name : (pool : List Slot) (p : Parts) (r : Refusal) → NamesStand pool p.methods r → ShapeStands pool p r
some_name pool p ClassInitialiser h = initialiser_is pool p.methods h
some_name pool p NoProcess h = no_process pool p.methods h
some_name pool p DuplicateMethod h = doubles_are pool p h
some_name pool p r h = absurd h

pub names_refuse : (pool : List Slot) (p : Parts) (r : Refusal) → (r ≡ NoMemory) ⊎ NamesStand pool p.methods r → (r ≡ NoMemory) ⊎ ShapeStands pool p r
names_refuse pool p r (inl e) = inl e
names_refuse pool p r (inr h) = inr (some_name pool p r h)

pub good_shape : (pool : List Slot) (p : Parts) (cs : List CodeParts) (n : ℕ) → (HasBadHeader pool p → ⊥) → AllZip (HasGoodMethod pool p) p.methods cs → IsTheConstructor pool p n → AreNamesGood pool p.methods → HasGoodShape pool p cs n
good_shape pool p cs n header methods constructor names =
    record { none_stands = none; codes_are = codes_of_good pool p p.methods cs methods; constructor_is = constructor }
  where
    none : (r : Refusal) → ShapeStands pool p r → ⊥
    none BadHeader h = header h
    none ConstructorForm h = h constructor.has
    none ClassInitialiser h = no_initialiser pool p.methods names.no_initialiser h
    none NoProcess h = h (process_is pool p.methods names.process)
    none DuplicateMethod h = no_doubles pool p h.0 h.1 h.2 h.3 names.no_doubles h.4
    none BadDescriptor h = good_methods pool p p.methods cs BadDescriptor methods h
    none NoBody h = good_methods pool p p.methods cs NoBody methods h
    none BadCode h = good_methods pool p p.methods cs BadCode methods h
    none ExceptionTable h = good_methods pool p p.methods cs ExceptionTable methods h
    none r h = h

-- ---- the shape of the class of given bytes

pub the_file : (bytes : List ℕ) (a pool : List Slot) (b p : Parts) → IsLaidOut (class_file (length bytes)) bytes (a, b) → IsClassFile bytes pool p → (a ≡ pool) × (b ≡ p)
the_file bytes a pool b p h file =
    let same = laid_out_once (class_file (length bytes)) bytes [] bytes [] (a, b) (pool, p) h file.laid_out refl in
    (ap (λ (x : List Slot × Parts). x.0) same.2, ap (λ (x : List Slot × Parts). x.1) same.2)

pub none_of_file : (bytes : List ℕ) (a : List Slot) (b : Parts) (cs : List CodeParts) (n : ℕ) → IsLaidOut (class_file (length bytes)) bytes (a, b) → HasGoodShape a b cs n → (pool : List Slot) (p : Parts) (q : Refusal) → IsClassFile bytes pool p → ShapeStands pool p q → ⊥
none_of_file bytes a b cs n h good pool p q file stands =
    let same = the_file bytes a pool b p h file in
    good.none_stands q (subst (λ (x : List Slot). ShapeStands x b q) (sym same.0) (subst (λ (x : Parts). ShapeStands pool x q) (sym same.1) stands))
