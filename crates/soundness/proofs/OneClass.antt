-- The same bytes define at most one class.
use Rattle.std.proofs.Common.{◌≡◌, ℕ, List, [], ◌∷◌, ◌++◌, Some, length, refl, sym, ap, ◌∙◌, subst}
use Rattle.std.specs.Coded.{Coded, Coded-set, codes}
use Rattle.std.specs.List.{AllZip}
use Rattle.std.proofs.Math.Logic.{∥∥₁_elim, ∥∥₁_prop}
use mathlib.Core.HLevel.{Σ_prop_path}
use Rattle.jtypes.proofs.Laws.{laid_out_once}
use Rattle.constpool.specs.Lookup.{Slot}
use Rattle.classfile.specs.declared.class_file.Member.{Member}
use Rattle.classfile.specs.declared.class_file.Parts.{Parts}
use Rattle.classfile.specs.declared.class_file.CodeParts.{CodeParts}
use Rattle.classfile.specs.Class.{class_file}
use Rattle.classfile.specs.Code.{code_parts}
use Rattle.classfile.specs.View.{ClassView, view_of, tables_of}
use Rattle.decode.proofs.Runs.{sequence_once}
use Rattle.decode.specs.declared.instruction.Placed.{Placed}
use Rattle.frames.specs.declared.frame.Environment.{Environment}
use Rattle.frames.specs.Frames.{Frame}
use Rattle.frames.specs.declared.signatures.Signature.{Signature}
use Rattle.frames.specs.StackMap.{IsDeclared}
use Rattle.typecheck.specs.Typing.{Method, Class}
use Rattle.verdict.specs.Shape.{HasCode}
use Rattle.verdict.specs.Verdict.{IsBody, IsMethodOf, IsClassOfFile}
use Rattle.soundness.specs.Once.{EachClassIsOne}
use Rattle.frames.proofs.Declares.{declared_once}
use Rattle.jtypes.specs.Profile.{Profile}

pub code_once : (pool : List Slot) (m : Member) (c d : CodeParts) → HasCode pool m c → HasCode pool m d → c ≡ d
code_once pool m c d h k =
    let both : h.0 ∷ [] ≡ k.0 ∷ [] = sym h.1 ∙ k.1 in
    let same : h.0 ≡ k.0 = cc both in
    (laid_out_once code_parts h.0 [] k.0 [] c d h.2 k.2 (ap (λ (t : List ℕ). t ++ []) same)).2

environments : (s t : Signature) (a b x y : ℕ) → s ≡ t → a ≡ b → x ≡ y → (let e : Environment = record { signature = s; max_stack = a; max_locals = x } in e ≡ record { signature = t; max_stack = b; max_locals = y })
environments s t a b x y h k l = rw (h, k, l) refl

pub record AreOne (e f : Environment) (ps qs : List Placed) (ts us : List (List ℕ)) : Type 0 where
  pub environment : e ≡ f
  pub code : ps ≡ qs
  pub tables : ts ≡ us

pub body_once : (profile : Profile) (pool : List Slot) (p : Parts) (m : Member) (e f : Environment) (code other : List Placed) (tables others : List (List ℕ)) → IsBody profile pool p m e code tables → IsBody profile pool p m f other others → AreOne e f code other tables others
body_once profile pool p m e f code other tables others a b =
    let parts : a.parts ≡ b.parts = code_once pool m a.parts b.parts a.has_code b.has_code in
    let both : Some e.signature ≡ Some f.signature = sym a.signature ∙ b.signature in
    let signatures : e.signature ≡ f.signature = cc both in
    record {
      environment = environments e.signature f.signature e.max_stack f.max_stack e.max_locals f.max_locals signatures
          (a.max_stack ∙ ap (λ (c : CodeParts). c.max_stack) parts ∙ sym b.max_stack)
          (a.max_locals ∙ ap (λ (c : CodeParts). c.max_locals) parts ∙ sym b.max_locals);
      code = sequence_once profile pool 0 a.parts.code b.parts.code code other (ap (λ (c : CodeParts). c.code) parts) a.sequence b.sequence;
      tables = a.tables_are ∙ ap (tables_of pool) parts ∙ sym b.tables_are;
    }

methods : (e f : Environment) (code other : List Placed) (ds others : List (ℕ × Frame)) → e ≡ f → code ≡ other → ds ≡ others → (let m : Method = record { environment = e; code = code; declared = ds } in m ≡ record { environment = f; code = other; declared = others })
methods e f code other ds others h k l = rw (h, k, l) refl

method_once : (profile : Profile) (pool : List Slot) (p : Parts) (item : Member) (m n : Method) → IsMethodOf profile pool p item m → IsMethodOf profile pool p item n → m ≡ n
method_once profile pool p item m n a b =
    let one = body_once profile pool p item m.environment n.environment m.code n.code a.tables b.tables a.body b.body in
    let declared = subst (λ ts. IsDeclared (view_of pool p) n.environment n.code ts m.declared) one.tables
    (subst (λ c. IsDeclared (view_of pool p) n.environment c a.tables m.declared) one.code
    (subst (λ e. IsDeclared (view_of pool p) e m.code a.tables m.declared) one.environment a.declared)) in
    methods m.environment n.environment m.code n.code m.declared n.declared one.environment one.code (declared_once (view_of pool p) n.environment n.code b.tables m.declared n.declared declared b.declared)

zip_once : (profile : Profile) (pool : List Slot) (p : Parts) (items : List Member) (ms ns : List Method) → AllZip (IsMethodOf profile pool p) items ms → AllZip (IsMethodOf profile pool p) items ns → ms ≡ ns
zip_once profile pool p [] [] [] a b = refl
zip_once profile pool p [] [] (n ∷ ns) a b = absurd b
zip_once profile pool p [] (m ∷ ms) ns a b = absurd a
zip_once profile pool p (x ∷ items) [] ns a b = absurd a
zip_once profile pool p (x ∷ items) (m ∷ ms) [] a b = absurd b
zip_once profile pool p (x ∷ items) (m ∷ ms) (n ∷ ns) a b =
    let head : m ≡ n = method_once profile pool p x m n a.0 b.0 in
    let tail : ms ≡ ns = zip_once profile pool p items ms ns a.1 b.1 in
    ap (λ y. y ∷ ms) head ∙ ap (λ ys. n ∷ ys) tail

pub class_once : (profile : Profile) (pool : List Slot) (p : Parts) (c other : Class) → IsClassOfFile profile pool p c → IsClassOfFile profile pool p other → c ≡ other
class_once profile pool p c other a b = go c.view other.view c.methods other.methods (a.view ∙ sym b.view) (zip_once profile pool p p.methods c.methods other.methods a.methods b.methods)
  where
    go : (v w : ClassView) (ms ns : List Method) → v ≡ w → ms ≡ ns → (let x : Class = record { view = v; methods = ms } in x ≡ record { view = w; methods = ns })
    go v w ms ns h k = rw (h, k) refl

-- If at most one value has a property, there is at most one pair of a value and its property.
one_prop : {A : Type 0} {P : A → Type 0} → IsSet A → ((x y : A) → P x → P y → x ≡ y) → IsProp ((x : A) × ∥ P x ∥₁)
one_prop set once x y = Σ_prop_path (λ _. ∥∥₁_prop) (∥∥₁_elim x.1 (set x.0 y.0) (λ p. ∥∥₁_elim y.1 (set x.0 y.0) (λ q. once x.0 y.0 p q)))

class_code : Coded Class
class_code = Prim.hlevel codes

-- The constant pool and the parts determine the class.
pub class_prop : (profile : Profile) (pool : List Slot) (p : Parts) → IsProp ((c : Class) × ∥ IsClassOfFile profile pool p c ∥₁)
class_prop profile pool p = one_prop (Coded-set class_code) (class_once profile pool p)

pub one_class : EachClassIsOne
one_class profile bytes c other a b =
    let same = (laid_out_once (class_file (length bytes)) bytes [] bytes [] (a.pool, a.parts) (b.pool, b.parts) a.file.laid_out b.file.laid_out refl).2 in
    let class : IsClassOfFile profile b.pool b.parts c = subst (λ (x : List Slot × Parts). IsClassOfFile profile x.0 x.1 c) same a.class in
    class_once profile b.pool b.parts c other class b.class
