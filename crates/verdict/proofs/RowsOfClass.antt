-- The typed methods that the check found are those of the class.
use Rattle.std.proofs.Common.{◌≡◌, ℕ, ◌+◌, ◌<◌, ◌≤◌, true, false, not, List, length, get_or, Option, Some, None, refl, sym, ap, ◌∙◌, subst, arith, ◌⊎◌, inl, inr}
use Rattle.std.specs.Prelude.{slice_get, option_map}
use Rattle.std.proofs.lemmas.Bool.{and_parts, false≢true, false_from_ne_true, cases_lt}
use Rattle.std.proofs.lemmas.Option.{slice_get-map, slice_get_within}
use Rattle.jtypes.specs.declared.refusal.Refusal.TheVariants.{DuplicateMethod}
use Rattle.jtypes.specs.Lists.{same_bytes}
use Rattle.constpool.specs.Lookup.{Slot}
use Rattle.constpool.specs.Names.{init_name, process_name, process_descriptor}
use Rattle.classfile.specs.declared.class_file.Member.{Member}
use Rattle.classfile.specs.declared.class_file.Parts.{Parts}
use Rattle.classfile.specs.declared.class_file.CodeParts.{CodeParts}
use Rattle.classfile.specs.View.{ClassView, MethodView, method_view, view_of, tables_of, text_at}
use Rattle.decode.specs.declared.instruction.Instruction.{Instruction}
use Rattle.decode.specs.declared.instruction.Instruction.TheVariants as instruction
use Rattle.decode.specs.declared.instruction.Placed.{Placed}
use Rattle.decode.proofs.Runs.{sequence_once}
use Rattle.decode.proofs.Consecutive.{sequence_is_consecutive}
use Rattle.frames.specs.Frames.{Frame}
use Rattle.frames.specs.declared.frame.Environment.{Environment}
use Rattle.frames.specs.declared.signatures.Signature.{Signature}
use Rattle.frames.specs.StackMap.{IsDeclared}
use Rattle.typecheck.specs.Typing.{Method, Class, IsWellTyped, IsProcessOf, call_of, own_of, is_process}
use Rattle.typecheck.specs.Calls.{called_by}
use Rattle.typecheck.specs.Pass.{IsReady}
use Rattle.typecheck.specs.declared.typed.Typed.{Typed}
use Rattle.frames.proofs.Declares.{declared_once}
use Rattle.typecheck.proofs.TypedOnly.{typed_is_ready}
use Rattle.bounds.specs.Rows.{IsRowOf, AreRowsOf}
use Rattle.verdict.specs.Shape.{HasCode, is_constructor}
use Rattle.verdict.specs.Shaping.{HasGoodShape}
use Rattle.verdict.specs.Verdict.{IsBody, IsMethodOf, IsClassOfFile}
use Rattle.verdict.specs.Checked.{is_other, members}
use Rattle.verdict.specs.Judging.{AreTyped, IsTypedRow}
use Rattle.verdict.proofs.Texts.{same_is, is_same}
use Rattle.verdict.proofs.Codes.{some_is_only, has_some}
use Rattle.verdict.proofs.Methods.{zip_has, zip_count}
use Rattle.verdict.proofs.Numbered.{not_the_one, each_has_one}
use Rattle.verdict.proofs.OwnCalls.{process_found, first_process}
use Rattle.jtypes.specs.Profile.{Third}

-- ---- a method has at most one body

abbrev environment_of : Signature → (stack locals : ℕ) → Environment
environment_of s stack locals = record { signature = s; max_stack = stack; max_locals = locals }

same_environment : (e f : Environment) → e.signature ≡ f.signature → e.max_stack ≡ f.max_stack → e.max_locals ≡ f.max_locals → e ≡ f
same_environment e f s k l = ap (λ x. environment_of x e.max_stack e.max_locals) s ∙ ap (λ n. environment_of f.signature n e.max_locals) k ∙ ap (λ n. environment_of f.signature f.max_stack n) l

pub one_body : (pool : List Slot) (p : Parts) (m : Member) (e f : Environment) (code other : List Placed) (tables others : List (List ℕ)) → IsBody Third pool p m e code tables → IsBody Third pool p m f other others → (e ≡ f) × (code ≡ other) × (tables ≡ others)
one_body pool p m e f code other tables others a b =
    let parts : a.parts ≡ b.parts = some_is_only pool m b.parts a.parts b.has_code (has_some pool m a.parts a.has_code) in
    let both : Some e.signature ≡ Some f.signature = sym a.signature ∙ b.signature in
    let signature : e.signature ≡ f.signature = cc both in
    let stack : e.max_stack ≡ f.max_stack = a.max_stack ∙ ap (λ (x : CodeParts). x.max_stack) parts ∙ sym b.max_stack in
    let locals : e.max_locals ≡ f.max_locals = a.max_locals ∙ ap (λ (x : CodeParts). x.max_locals) parts ∙ sym b.max_locals in
    (same_environment e f signature stack locals, sequence_once Third pool 0 a.parts.code b.parts.code code other (ap (λ (x : CodeParts). x.code) parts) a.sequence b.sequence, a.tables_are ∙ ap (tables_of pool) parts ∙ sym b.tables_are)

abbrev pub method_of : Environment → List Placed → List (ℕ × Frame) → Method
method_of e code ds = record { environment = e; code = code; declared = ds }

pub same_method : (e f : Environment) (code other : List Placed) (ds others : List (ℕ × Frame)) → e ≡ f → code ≡ other → ds ≡ others → method_of e code ds ≡ method_of f other others
same_method e f code other ds others a b c = ap (λ x. method_of x code ds) a ∙ ap (λ x. method_of f x ds) b ∙ ap (λ x. method_of f other x) c

-- The method of the class that `row` describes.
pub record RowMethod (c : Class) (row : Typed) : Type 0 where
  pub method : Method
  pub there : slice_get c.methods row.number ≡ Some method
  pub environment : method.environment ≡ row.environment
  pub code : method.code ≡ row.code
  pub typed : IsWellTyped c.view method
  pub ready : IsReady method

pub calls_are : (v : ClassView) (i : Instruction) → call_of v i ≡ own_of (called_by v i)
calls_are v (instruction.Invoke kind i) = refl
calls_are v _ = refl

module _ (pool : List Slot) (p : Parts) (n : ℕ) (codes : List CodeParts) (shape : HasGoodShape pool p codes n) (rows : List Typed) (are : AreTyped pool p n (length codes) rows) where
  abbrev view : ClassView
  view = view_of pool p

  abbrev pub row_at : (i : ℕ) (d : Typed) → i < length rows → IsTypedRow pool p (get_or rows i d)
  row_at i d l = are.each i d l

  view_at : (k : ℕ) (m : Member) → slice_get p.methods k ≡ Some m → slice_get view.methods k ≡ Some (method_view pool m)
  view_at k m e = slice_get-map (method_view pool) p.methods k ∙ ap (option_map (method_view pool)) e

  -- A view in the class view is that of a member of the class file.
  file_at : (k : ℕ) (w : MethodView) → slice_get view.methods k ≡ Some w → (m : Member) × (slice_get p.methods k ≡ Some m) × (method_view pool m ≡ w)
  file_at k w e = go (slice_get p.methods k) refl (sym (slice_get-map (method_view pool) p.methods k) ∙ e)
    where
      go : (o : Option Member) → slice_get p.methods k ≡ o → option_map (method_view pool) o ≡ Some w → (m : Member) × (slice_get p.methods k ≡ Some m) × (method_view pool m ≡ w)
      go None a f = cc
      go (Some m) a f = let same : method_view pool m ≡ w = cc f in (m, a, same)

  -- Each method other than a constructor has a `Typed`.
  pub row_of : (k : ℕ) (m : Member) → slice_get p.methods k ≡ Some m → is_constructor pool m ≡ false → (i : ℕ) × (i < length rows) × ((d : Typed) → (get_or rows i d).number ≡ k)
  row_of k m e other =
      let below : k < length codes = (let inside = slice_get_within p.methods k m e in let count = zip_count (HasCode pool) p.methods codes shape.codes_are in omega (arith, inside, count)) in
      let one = shape.constructor_is in
      each_has_one (λ (t : Typed). t.number) (IsTypedRow pool p) n (length codes) rows are k below (λ same. constructor same)
    where
      constructor : k ≡ n → ⊥
      constructor same =
          let both : Some m ≡ Some shape.constructor_is.has.0 = sym e ∙ ap (slice_get p.methods) same ∙ shape.constructor_is.is in
          let it : m ≡ shape.constructor_is.has.0 = cc both in
          false≢true (sym other ∙ ap (is_constructor pool) it ∙ shape.constructor_is.named)

  pub not_constructor : (i : ℕ) (d : Typed) → (l : i < length rows) → is_constructor pool (row_at i d l).member ≡ false
  not_constructor i d l = false_from_ne_true _ (λ e. not_the_one (λ (t : Typed). t.number) (IsTypedRow pool p) n (length codes) rows are i d l (shape.constructor_is.no_other (get_or rows i d).number (row_at i d l).member (row_at i d l).there e))

  -- No two methods have the name and the descriptor of `process`.
  one_process : (i j : ℕ) (v w : MethodView) → slice_get view.methods i ≡ Some v → slice_get view.methods j ≡ Some w → is_process v ≡ true → is_process w ≡ true → i < j → ⊥
  one_process i j v w a b e f l =
      let x = and_parts (same_bytes v.name process_name) (same_bytes v.descriptor process_descriptor) e in
      let y = and_parts (same_bytes w.name process_name) (same_bytes w.descriptor process_descriptor) f in
      shape.none_stands DuplicateMethod
      (i, j, v, w, record { order = l; first = a; second = b; name = same_is v.name process_name x.0 ∙ sym (same_is w.name process_name y.0); descriptor = same_is v.descriptor process_descriptor x.1 ∙ sym (same_is w.descriptor process_descriptor y.1) })

  module _ (c : Class) (class : IsClassOfFile Third pool p c) where
    pub method_at : (row : Typed) → IsTypedRow pool p row → RowMethod c row
    method_at row t =
        let x = zip_has (IsMethodOf Third pool p) p.methods c.methods row.number t.member class.methods t.there in
        let m = x.0 in
        let is = x.2 in
        let same = one_body pool p t.member m.environment row.environment m.code row.code is.tables t.tables is.body t.body in
        let declared : IsDeclared view row.environment row.code t.tables m.declared =
        subst (λ (e : Environment). IsDeclared view e row.code t.tables m.declared) same.0 (subst (λ (code : List Placed). IsDeclared view m.environment code t.tables m.declared) same.1 (subst (λ (ts : List (List ℕ)). IsDeclared view m.environment m.code ts m.declared) same.2 is.declared))
        in
        let frames : m.declared ≡ t.typed.0 = declared_once view row.environment row.code t.tables m.declared t.typed.0 declared t.typed.1 in
        let whole : method_of row.environment row.code t.typed.0 ≡ m = sym (same_method m.environment row.environment m.code row.code m.declared t.typed.0 same.0 same.1 frames) in
        let typed : IsWellTyped c.view m = subst (λ (v : ClassView). IsWellTyped v m) (sym class.view) (subst (IsWellTyped view) whole t.typed.2) in
        record {
          method = m;
          there = x.1;
          environment = same.0;
          code = same.1;
          typed = typed;
          ready = typed_is_ready c.view view m is.tables (sequence_is_consecutive pool 0 is.body.parts.code m.code is.body.sequence) is.declared typed;
        }

    viewed : (k : ℕ) (w : MethodView) → slice_get c.view.methods k ≡ Some w → slice_get view.methods k ≡ Some w
    viewed k w e = subst (λ (v : ClassView). slice_get v.methods k ≡ Some w) class.view e

    in_class : (k : ℕ) (w : MethodView) → slice_get view.methods k ≡ Some w → slice_get c.view.methods k ≡ Some w
    in_class k w e = subst (λ (v : ClassView). slice_get v.methods k ≡ Some w) (sym class.view) e

    -- Each method other than the constructor has a `Typed`, by its view.
    pub row_of_view : (k : ℕ) (w : MethodView) → slice_get c.view.methods k ≡ Some w → (w.name ≡ init_name → ⊥) → (i : ℕ) × (i < length rows) × ((d : Typed) → (get_or rows i d).number ≡ k)
    row_of_view k w e other =
        let m = file_at k w (viewed k w e) in
        row_of k m.0 m.1 (false_from_ne_true _ (λ is. other (sym (ap (λ (x : MethodView). x.name) m.2) ∙ same_is (text_at pool m.0.name) init_name is)))

    pub row_of_member : (k : ℕ) → members c k ≡ true → (i : ℕ) × (i < length rows) × ((d : Typed) → (get_or rows i d).number ≡ k)
    row_of_member k e = go (slice_get c.view.methods k) refl e
      where
        go : (o : Option MethodView) → slice_get c.view.methods k ≡ o → is_other o ≡ true → (i : ℕ) × (i < length rows) × ((d : Typed) → (get_or rows i d).number ≡ k)
        go None a b = cc
        go (Some w) a b = row_of_view k w a (λ init. false≢true (sym (ap not (is_same w.name init_name init)) ∙ b))

    pub member_of_view : (k : ℕ) (w : MethodView) → slice_get c.view.methods k ≡ Some w → (w.name ≡ init_name → ⊥) → members c k ≡ true
    member_of_view k w e other = ap is_other e ∙ ap not (false_from_ne_true (same_bytes w.name init_name) (λ is. other (same_is w.name init_name is)))

    -- The view of the method that a `Typed` describes.
    pub view_of_row : (i : ℕ) (d : Typed) (l : i < length rows) → slice_get c.view.methods (get_or rows i d).number ≡ Some (method_view pool (row_at i d l).member)
    view_of_row i d l = in_class (get_or rows i d).number (method_view pool (row_at i d l).member) (view_at (get_or rows i d).number (row_at i d l).member (row_at i d l).there)

    pub row_is_member : (i : ℕ) (d : Typed) → i < length rows → members c (get_or rows i d).number ≡ true
    row_is_member i d l = ap is_other (view_of_row i d l) ∙ ap not (not_constructor i d l)

    -- A `Typed` that is marked as `process` describes `process`.
    pub process_is : (i : ℕ) (d : Typed) → i < length rows → (get_or rows i d).is_process ≡ true → IsProcessOf c (get_or rows i d).number
    process_is i d l e =
        let k = (get_or rows i d).number in
        let w = method_view pool (row_at i d l).member in
        let is : is_process w ≡ true = sym (row_at i d l).process ∙ e in
        let first = first_process 0 c.view.methods k w (view_of_row i d l) is in
        let f = process_found 0 c.view.methods (0 + first.0) first.1 in
        let at : first.0 ≡ f.1 = (let same = f.2 in omega (arith, same)) in
        let low = first.2 in
        let none : f.1 < k → ⊥ = one_process f.1 k f.0 w (viewed f.1 f.0 f.3) (viewed k w (view_of_row i d l)) f.4 is in
        let same : 0 + first.0 ≡ k = either first.0 k low (λ less. none (omega (arith, less, at))) in
        first.1 ∙ ap (λ (x : ℕ). Some x) same
      where
        either : (a b : ℕ) → a ≤ b → (a < b → ⊥) → 0 + a ≡ b
        either a b le not_less = go (cases_lt a b)
          where
            go : (a < b) ⊎ (b ≤ a) → 0 + a ≡ b
            go (inl less) = absurd (not_less less)
            go (inr more) = omega (arith, le, more)

    pub row_is : (i : ℕ) (d : Typed) → i < length rows → IsRowOf c (get_or rows i d)
    row_is i d l =
        let row = get_or rows i d in
        let t = row_at i d l in
        let m = method_at row t in
        record {
          method = (m.method, m.there, m.environment, m.code);
          starts = t.starts;
          rising = t.calls.rising;
          calls = λ place x e. calls_are c.view x.instruction ∙ ap (λ (v : ClassView). own_of (called_by v x.instruction)) class.view ∙ ap own_of (sym (t.calls.reached place x e));
          process = process_is i d l;
        }

    pub are_rows : AreRowsOf c (members c) rows
    are_rows = record { each = row_is; within = row_is_member }
