-- A class that passes the checks is accepted, and the typed methods are those of the class.
use Rattle.std.proofs.Common.{◌≡◌, ℕ, zero, suc, ◌<◌, ◌≤◌, Bool, true, false, List, [], ◌∷◌, length, get_or, Option, Some, None, refl, sym, ap, ◌∙◌, subst, arith, ◌⊎◌, inl, inr}
use Rattle.std.specs.Prelude.{slice_get, map, is_some, IsSome, Any, Contains, ℤ, pos, T}
use Rattle.std.proofs.lemmas.Bool.{and_parts, false≢true, cases_lt, le-leb}
use Rattle.std.proofs.lemmas.Option.{slice_get-get_or, slice_get_within}
use Rattle.jtypes.specs.declared.refusal.Refusal.{Refusal}
use Rattle.jtypes.specs.declared.refusal.Refusal.TheVariants.{BadDescriptor, BackwardBranch, BadStackMap, TypeMismatch, FallsOff, LengthNotConstant}
use Rattle.jtypes.specs.Lists.{same_bytes}
use Rattle.constpool.specs.Lookup.{Slot}
use Rattle.constpool.specs.Names.{init_name, process_name, process_descriptor}
use Rattle.classfile.specs.declared.class_file.Member.{Member}
use Rattle.classfile.specs.declared.class_file.Parts.{Parts}
use Rattle.classfile.specs.declared.class_file.CodeParts.{CodeParts}
use Rattle.classfile.specs.View.{ClassView, MethodView, method_view, view_of, tables_of}
use Rattle.decode.specs.declared.instruction.Placed.{Placed}
use Rattle.decode.specs.Places.{at_place, IsTarget, falls_through, HasBackwardTarget}
use Rattle.decode.proofs.Consecutive.{sequence_is_consecutive}
use Rattle.frames.specs.declared.frame.Environment.{Environment}
use Rattle.frames.specs.declared.signatures.Signature.{Signature}
use Rattle.frames.specs.Frames.{Frame, frame_in}
use Rattle.frames.specs.Signatures.{method_signature}
use Rattle.frames.specs.StackMap.{IsDeclared, without}
use Rattle.typecheck.specs.Typing.{Method, Class, IsWellTyped, IsProcessOf, instruction_at, call_of, is_process}
use Rattle.typecheck.specs.Calls.{AreCallsOf}
use Rattle.typecheck.specs.Mismatch.{LacksFrame, IsMismatch, HasLength, HasFrame}
use Rattle.typecheck.specs.Pass.{IsReady}
use Rattle.typecheck.specs.declared.typed.Typed.{Typed}
use Rattle.frames.proofs.Declares.{declared_once}
use Rattle.typecheck.proofs.TypedOnly.{typed_is_ready, typed_is_whole, typed_fails_nowhere, typed_ends, next_stands, target_stands, among_places}
use Rattle.typecheck.proofs.LackingFrames.{standing_is}
use Rattle.typecheck.proofs.Consecutive.{found}
use Rattle.bounds.specs.declared.limits.Bounds as declared
use Rattle.bounds.specs.Lengths.{HaveLengths}
use Rattle.bounds.specs.Paths.{StandsAt}
use Rattle.bounds.specs.Recursion.{IsRecursive}
use Rattle.bounds.specs.Rows.{AreNotRecursive}
use Rattle.bounds.specs.Table.{LeadsOn}
use Rattle.bounds.proofs.Ranks.{not_recursive_has_ranks}
use Rattle.verdict.specs.Shape.{HasCode, HasBadDescriptor, IsConstructor, is_constructor}
use Rattle.verdict.specs.Shaping.{HasGoodShape}
use Rattle.verdict.specs.Verdict.{IsBody, IsMethodOf, IsClassOfFile, InstructionStands, InstructionsStand, BodyStands, TypesStand}
use Rattle.verdict.specs.Checked.{members}
use Rattle.verdict.specs.Judged.{IsRowIn, IsJudgedAs}
use Rattle.verdict.specs.Judging.{AreTyped, AreFound, IsTypedRow, IsFoundIn}
use Rattle.verdict.specs.declared.instructions.Found.{Found}
use Rattle.verdict.proofs.Texts.{same_is, same_refl, is_same}
use Rattle.verdict.proofs.Codes.{some_is_only, has_some}
use Rattle.verdict.proofs.ConstructorCode.{constructor_sequence}
use Rattle.verdict.proofs.Methods.{any_from, zip_at, zip_of, zip_count}
use Rattle.verdict.proofs.Numbered.{each_has_one, numbers_rise}
use Rattle.verdict.proofs.OwnCalls.{own_call, process_found}
use Rattle.verdict.proofs.RowsOfClass.{one_body, method_of, row_of, not_constructor, method_at, row_of_view, row_of_member, member_of_view, view_of_row, process_is, are_rows}
use Rattle.jtypes.specs.Profile.{Third}

-- The element at an index of a list.
pub item_of : {A : Type 0} (xs : List A) (i : ℕ) → i < length xs → (x : A) × ((d : A) → get_or xs i d ≡ x)
item_of [] i l = absurd (omega (arith, l))
item_of (x ∷ xs) zero l = (x, λ d. refl)
item_of (x ∷ xs) (suc i) l = item_of xs i (omega (arith, l))

-- ---- the instructions

module _ (pool : List Slot) (p : Parts) (n : ℕ) (codes : List CodeParts) (shape : HasGoodShape pool p codes n) (items : List Found) (are_found : AreFound (view_of pool p) codes n (length codes) items) where
  pub instructions_stand : (r : Refusal) → InstructionsStand Third pool p r → ⊥
  instructions_stand r any =
      let k = any.0 in
      let m = any.1 in
      let h = any.4 in
      let at : slice_get p.methods k ≡ Some m = slice_get-get_or p.methods k m any.2 ∙ ap (λ (x : Member). Some x) any.3 in
      let i = found_of k m at h.0 in
      let item = item_of items i.0 i.1 in
      let f = are_found.each i.0 item.0 i.1 in
      let there : slice_get codes k ≡ Some f.parts = ap (slice_get codes) (sym (i.2 item.0)) ∙ f.there in
      let has = zip_at (HasCode pool) p.methods codes k m f.parts shape.codes_are at there in
      let b = h.1 in
      let same : b.0 ≡ f.parts = some_is_only pool m f.parts b.0 has (has_some pool m b.0 b.1) in
      f.good.none_stands r (subst (λ (x : CodeParts). InstructionStands Third (view_of pool p) x.code r) same b.2)
    where
      found_of : (k : ℕ) (m : Member) → slice_get p.methods k ≡ Some m → is_constructor pool m ≡ false → (i : ℕ) × (i < length items) × ((d : Found) → (get_or items i d).number ≡ k)
      found_of k m e other =
          let below : k < length codes = (let inside = slice_get_within p.methods k m e in let count = zip_count (HasCode pool) p.methods codes shape.codes_are in omega (arith, inside, count)) in
          each_has_one (λ (f : Found). f.number) (IsFoundIn (view_of pool p) codes) n (length codes) items are_found k below (λ same.
          let both : Some m ≡ Some shape.constructor_is.has.0 = sym e ∙ ap (slice_get p.methods) same ∙ shape.constructor_is.is in
          let it : m ≡ shape.constructor_is.has.0 = cc both in
          false≢true (sym other ∙ ap (is_constructor pool) it ∙ shape.constructor_is.named))

module _ (pool : List Slot) (p : Parts) (n : ℕ) (codes : List CodeParts) (shape : HasGoodShape pool p codes n) (rows : List Typed) (are : AreTyped pool p n (length codes) rows) where
  abbrev view : ClassView
  view = view_of pool p

  -- ---- the types

  module _ (lengths : HaveLengths rows) where
    -- No refusal of the types applies to the method of a `Typed`.
    row_stands : (i : ℕ) (d : Typed) (l : i < length rows) (r : Refusal) → BodyStands view (get_or rows i d).environment (get_or rows i d).code (are.each i d l).tables r → ⊥
    row_stands i d l = stands
      where
        row : Typed
        row = get_or rows i d

        t : IsTypedRow pool p (get_or rows i d)
        t = are.each i d l

        m : Method
        m = method_of (get_or rows i d).environment (get_or rows i d).code (are.each i d l).typed.0

        ready : IsReady (method_of (get_or rows i d).environment (get_or rows i d).code (are.each i d l).typed.0)
        ready = typed_is_ready view view (method_of (get_or rows i d).environment (get_or rows i d).code (are.each i d l).typed.0) (are.each i d l).tables (sequence_is_consecutive pool 0 (are.each i d l).body.parts.code (get_or rows i d).code (are.each i d l).body.sequence) (are.each i d l).typed.1 (are.each i d l).typed.2

        one : (ds others : List (ℕ × Frame)) → IsDeclared view (get_or rows i d).environment (get_or rows i d).code (are.each i d l).tables ds → IsDeclared view (get_or rows i d).environment (get_or rows i d).code (are.each i d l).tables others → ds ≡ others
        one ds others a b = declared_once view (get_or rows i d).environment (get_or rows i d).code (are.each i d l).tables ds others a b

        stands : (r : Refusal) → BodyStands view (get_or rows i d).environment (get_or rows i d).code (are.each i d l).tables r → ⊥
        stands BadStackMap (inl none) = none (are.each i d l).typed.0 (are.each i d l).typed.1
        stands BadStackMap (inr h) = typed_is_whole view (method_of (get_or rows i d).environment (get_or rows i d).code (are.each i d l).typed.0) (are.each i d l).typed.2
            (subst (λ (ds : List (ℕ × Frame)). LacksFrame (method_of (get_or rows i d).environment (get_or rows i d).code ds)) (one h.0 (are.each i d l).typed.0 h.1 (are.each i d l).typed.1) h.2)
        stands (TypeMismatch place) h = typed_fails_nowhere view (method_of (get_or rows i d).environment (get_or rows i d).code (are.each i d l).typed.0) place ready (are.each i d l).typed.2
            (subst (λ (ds : List (ℕ × Frame)). IsMismatch view (method_of (get_or rows i d).environment (get_or rows i d).code ds) place) (one h.1.0 (are.each i d l).typed.0 h.1.1 (are.each i d l).typed.1) h.1.2)
        stands FallsOff h = typed_ends view (method_of (get_or rows i d).environment (get_or rows i d).code (are.each i d l).typed.0) (are.each i d l).typed.2 h
        stands LengthNotConstant h =
            let places = (are.each i d l).places in
            let has = lengths i d l places.2.rising h.0 h.1 h.2 h.3 h.4 in
            either has h.5
          where
            either : HasLength (get_or rows i d).code h.0 × (Contains (get_or rows i d).declared.items h.0 → ⊥) → (HasLength (get_or rows i d).code h.0 → ⊥) ⊎ HasFrame view (get_or rows i d).environment (get_or rows i d).code (are.each i d l).tables h.0 → ⊥
            either has (inl none) = none has.0
            either has (inr f) =
                let places = (are.each i d l).places in
                let same : f.0 ≡ places.0 = one f.0 places.0 f.1 places.1 in
                let there : Contains (map (λ (d : ℕ × Frame). d.0) places.0) h.0 = among_places places.0 h.0 (subst (λ (ds : List (ℕ × Frame)). IsSome (frame_in ds h.0)) same f.2) in
                has.1 (subst (λ (xs : List ℕ). Contains xs h.0) (sym places.2.are) there)
        stands r h = h

    pub types_stand : (r : Refusal) → TypesStand Third pool p r → ⊥
    types_stand r any =
        let k = any.0 in
        let m = any.1 in
        let h = any.4 in
        let b = h.1 in
        let at : slice_get p.methods k ≡ Some m = slice_get-get_or p.methods k m any.2 ∙ ap (λ (x : Member). Some x) any.3 in
        let i = row_of pool p n codes shape rows are k m at h.0 in
        let item = item_of rows i.0 i.1 in
        let row = get_or rows i.0 item.0 in
        let t = are.each i.0 item.0 i.1 in
        let both : Some t.member ≡ Some m = sym t.there ∙ ap (slice_get p.methods) (i.2 item.0) ∙ at in
        let same : t.member ≡ m = cc both in
        let one = one_body pool p m b.0 row.environment b.1 row.code b.2 t.tables b.3 (subst (λ (x : Member). IsBody Third pool p x row.environment row.code t.tables) same t.body) in
        row_stands i.0 item.0 i.1 r (subst (λ (ts : List (List ℕ)). BodyStands view row.environment row.code ts r) one.2 (subst (λ (c : List Placed). BodyStands view row.environment c b.2 r) one.1 (subst (λ (e : Environment). BodyStands view e b.1 b.2 r) one.0 b.4)))

  -- ---- the class

  module _ (c : Class) (class : IsClassOfFile Third pool p c) where
    -- The `Typed` of method `j`.
    record RowOf (j : ℕ) (m : Method) : Type 0 where
      index : ℕ
      default : Typed
      within : index < length rows
      number : (get_or rows index default).number ≡ j
      typed : IsWellTyped c.view m
      ready : IsReady m
      code : m.code ≡ (get_or rows index default).code

    row_found : (j : ℕ) (m : Method) → members c j ≡ true → slice_get c.methods j ≡ Some m → RowOf j m
    row_found j m e there =
        let i = row_of_member pool p n codes shape rows are c class j e in
        let item = item_of rows i.0 i.1 in
        let row = get_or rows i.0 item.0 in
        let r = method_at pool p n codes shape rows are c class row (are.each i.0 item.0 i.1) in
        let both : Some r.method ≡ Some m = sym r.there ∙ ap (slice_get c.methods) (i.2 item.0) ∙ there in
        let same : r.method ≡ m = cc both in
        record {
          index = i.0;
          default = item.0;
          within = i.1;
          number = i.2 item.0;
          typed = subst (IsWellTyped c.view) same r.typed;
          ready = subst IsReady same r.ready;
          code = ap (λ (x : Method). x.code) (sym same) ∙ r.code;
        }

    pub class_not_recursive : AreNotRecursive rows → IsRecursive c → ⊥
    class_not_recursive none r =
        let next = r.2 r.1.0 r.1.1 in
        let call = next.1 in
        let to = own_call c.view call.2.instruction next.0 call.5 in
        let i = row_of_view pool p n codes shape rows are c class next.0 to.0 to.1 to.2 in
        let item = item_of rows i.0 i.1 in
        none c (members c) r.0 (are_rows pool p n codes shape rows are c class) r.2 i.0 item.0 i.1 (ap r.0 (i.2 item.0) ∙ next.2)

    -- ---- successors of instructions

    module _ (instructions : (r : Refusal) → InstructionsStand Third pool p r → ⊥) where
      forward : (i : ℕ) (d : Typed) → i < length rows → (q t : ℕ) (x : Placed) → at_place (get_or rows i d).code q ≡ Some x → x.place ≡ q → IsTarget x.instruction (pos t) → t ≤ q → ⊥
      forward i d l q t x e place to le =
          let row = get_or rows i d in
          let is = are.each i d l in
          let below : t ≤ x.place = omega (arith, le, place) in
          let back : HasBackwardTarget x = (pos t, to, record { le = subst T (sym (le-leb t x.place below)) tt }) in
          let k = standing_is row.code q x e in
          let any : Any HasBackwardTarget row.code = (k.0, x, k.1, k.2 x, back) in
          instructions BackwardBranch (any_from _ p.methods row.number is.member is.there (not_constructor pool p n codes shape rows are i d l, (is.body.parts, is.body.has_code, inr (row.code, is.body.sequence, any))))

      pub class_leads_on : AreNotRecursive rows → LeadsOn c (members c)
      class_leads_on none = record { next = next; target = target; callee = callee; ranks = not_recursive_has_ranks c (class_not_recursive none) }
        where
          next : (j q : ℕ) (m : Method) (x : Placed) → members c j ≡ true → StandsAt c j q m x → falls_through x.instruction ≡ true → (q < x.next) × IsSome (instruction_at m x.next)
          next j q m x e s falls = let r = row_found j m e s.method in next_stands c.view m r.ready r.typed q x s.instruction falls

          target : (j q : ℕ) (m : Method) (x : Placed) (z : ℤ) → members c j ≡ true → StandsAt c j q m x → IsTarget x.instruction z → (t : ℕ) × (z ≡ pos t) × (q < t) × IsSome (instruction_at m t)
          target j q m x z e s to =
              let r = row_found j m e s.method in
              let t = target_stands c.view m r.ready r.typed q x z s.instruction to in
              let here : at_place (get_or rows r.index r.default).code q ≡ Some x = ap (λ (code : List Placed). at_place code q) (sym r.code) ∙ s.instruction in
              let place : x.place ≡ q = (found 0 m.code r.ready.consecutive q x s.instruction).0 in
              let back : t.0 ≤ q → ⊥ = forward r.index r.default r.within q t.0 x here place (subst (λ (y : ℤ). IsTarget x.instruction y) t.1 to) in
              (t.0, t.1, ahead q t.0 back, t.2)
            where
              ahead : (a b : ℕ) → (b ≤ a → ⊥) → a < b
              ahead a b not_below = go (cases_lt a b)
                where
                  go : (a < b) ⊎ (b ≤ a) → a < b
                  go (inl l) = l
                  go (inr l) = absurd (not_below l)

          callee : (j q k : ℕ) (m : Method) (x : Placed) → members c j ≡ true → StandsAt c j q m x → call_of c.view x.instruction ≡ Some k → (members c k ≡ true) × ((y : Method) × (slice_get c.methods k ≡ Some y) × IsSome (instruction_at y 0))
          callee j q k m x e s call =
              let to = own_call c.view x.instruction k call in
              let i = row_of_view pool p n codes shape rows are c class k to.0 to.1 to.2 in
              let item = item_of rows i.0 i.1 in
              let row = get_or rows i.0 item.0 in
              let is = are.each i.0 item.0 i.1 in
              let r = method_at pool p n codes shape rows are c class row is in
              (member_of_view pool p n codes shape rows are c class k to.0 to.1 to.2, (r.method, ap (slice_get c.methods) (sym (i.2 item.0)) ∙ r.there, subst (λ (code : List Placed). IsSome (at_place code 0)) (sym r.code) is.starts))

    -- ---- the typed methods are those of the class

    pub class_judged : (b : declared.Bounds) → IsJudgedAs c (record { pool = pool; parts = p; methods = rows; bounds = b })
    class_judged b = record {
      view = class.view;
      each = λ i d l. row_in i d l;
      rising = λ i j d less l. numbers_rise (λ (t : Typed). t.number) (IsTypedRow pool p) n (length codes) rows are i j d less l;
      other = λ i d m l e init. other i d m l e init;
      each_has_one = λ k m e init. row_of_view pool p n codes shape rows are c class k m e init;
      process = λ k is. process k is;
    }
      where
        row_in : (i : ℕ) (d : Typed) → i < length rows → IsRowIn c (get_or rows i d)
        row_in i d l =
            let row = get_or rows i d in
            let is = are.each i d l in
            let r = method_at pool p n codes shape rows are c class row is in
            record {
              method = (r.method, r.there, r.environment, r.code);
              starts = is.starts;
              calls = subst (λ (v : ClassView). AreCallsOf v row.code row.calls.items) (sym class.view) is.calls;
              process = process_is pool p n codes shape rows are c class i d l;
            }

        other : (i : ℕ) (d : Typed) (m : MethodView) → i < length rows → slice_get c.view.methods (get_or rows i d).number ≡ Some m → m.name ≡ init_name → ⊥
        other i d m l e init =
            let is = are.each i d l in
            let both : Some (method_view pool is.member) ≡ Some m = sym (view_of_row pool p n codes shape rows are c class i d l) ∙ e in
            let same : method_view pool is.member ≡ m = cc both in
            let named : (method_view pool is.member).name ≡ init_name = ap (λ (x : MethodView). x.name) same ∙ init in
            false≢true (sym (not_constructor pool p n codes shape rows are i d l) ∙ is_same (method_view pool is.member).name init_name named)

        process : (k : ℕ) → IsProcessOf c k → (i : ℕ) × (i < length rows) × ((d : Typed) → ((get_or rows i d).number ≡ k) × ((get_or rows i d).is_process ≡ true))
        process k is =
            let f = process_found 0 c.view.methods k is in
            let at : f.1 ≡ k = (let e = f.2 in omega (arith, e)) in
            let there : slice_get c.view.methods k ≡ Some f.0 = ap (slice_get c.view.methods) (sym at) ∙ f.3 in
            let names = and_parts (same_bytes f.0.name process_name) (same_bytes f.0.descriptor process_descriptor) f.4 in
            let named : f.0.name ≡ process_name = same_is f.0.name process_name names.0 in
            let i = row_of_view pool p n codes shape rows are c class k f.0 there (λ init. false≢true (ap (λ x. same_bytes x init_name) (sym named ∙ init) ∙ same_refl init_name)) in
            (i.0, i.1, λ d. (i.2 d, says i.0 d i.1 k f.0 (i.2 d) there f.4))
          where
            says : (i : ℕ) (d : Typed) (l : i < length rows) (k : ℕ) (w : MethodView) → (get_or rows i d).number ≡ k → slice_get c.view.methods k ≡ Some w → is_process w ≡ true → (get_or rows i d).is_process ≡ true
            says i d l k w number e is =
                let both : Some (method_view pool (are.each i d l).member) ≡ Some w = sym (view_of_row pool p n codes shape rows are c class i d l) ∙ ap (slice_get c.view.methods) number ∙ e in
                let same : method_view pool (are.each i d l).member ≡ w = cc both in
                (are.each i d l).process ∙ ap is_process same ∙ is

  -- ---- the existence of the class

  signed : (k : ℕ) (m : Member) → slice_get p.methods k ≡ Some m → (s : Signature) × (method_signature view (method_view pool m) ≡ Some s)
  signed k m e = go (method_signature view (method_view pool m)) refl
    where
      go : (o : Option Signature) → method_signature view (method_view pool m) ≡ o → (s : Signature) × (method_signature view (method_view pool m) ≡ Some s)
      go None f = absurd (shape.none_stands BadDescriptor (any_from (λ (x : Member). HasBadDescriptor view (method_view pool x)) p.methods k m e (inl (ap is_some f))))
      go (Some s) f = (s, f)

  constructor_method : (k : ℕ) (m : Member) → slice_get p.methods k ≡ Some m → IsConstructor pool m → (y : Method) × IsMethodOf Third pool p m y
  constructor_method k m e form =
      let s = signed k m e in
      let code = constructor_sequence Third pool form.code.high form.code.low form.parts.code form.code.bytes form.code.calls in
      let environment : Environment = record { signature = s.0; max_stack = form.parts.max_stack; max_locals = form.parts.max_locals } in (
        method_of environment code.0 [],
        record {
          tables = tables_of pool form.parts;
          body = record { parts = form.parts; has_code = form.has_code; signature = s.1; max_stack = refl; max_locals = refl; sequence = code.1; tables_are = refl };
          declared = subst (λ (ts : List (List ℕ)). IsDeclared view environment code.0 ts []) (sym form.code.no_table) without;
        },
      )

  row_method : (k : ℕ) (m : Member) → slice_get p.methods k ≡ Some m → is_constructor pool m ≡ false → (y : Method) × IsMethodOf Third pool p m y
  row_method k m e other =
      let i = row_of pool p n codes shape rows are k m e other in
      let item = item_of rows i.0 i.1 in
      let row = get_or rows i.0 item.0 in
      let t = are.each i.0 item.0 i.1 in
      let both : Some t.member ≡ Some m = sym t.there ∙ ap (slice_get p.methods) (i.2 item.0) ∙ e in
      let same : t.member ≡ m = cc both in
      (method_of row.environment row.code t.typed.0, record { tables = t.tables; body = subst (λ (x : Member). IsBody Third pool p x row.environment row.code t.tables) same t.body; declared = t.typed.1 })

  pub class_exists : (c : Class) × IsClassOfFile Third pool p c
  class_exists =
      let methods = zip_of (IsMethodOf Third pool p) p.methods (λ k m e. go k m e (is_constructor pool m) refl) in
      (record { view = view; methods = methods.0 }, record { view = refl; methods = methods.1 })
    where
      go : (k : ℕ) (m : Member) → slice_get p.methods k ≡ Some m → (b : Bool) → is_constructor pool m ≡ b → (y : Method) × IsMethodOf Third pool p m y
      go k m e false other = row_method k m e other
      go k m e true is =
          let one = shape.constructor_is in
          let at : k ≡ n = one.no_other k m e is in
          let both : Some one.has.0 ≡ Some m = sym one.is ∙ ap (slice_get p.methods) (sym at) ∙ e in
          let same : one.has.0 ≡ m = cc both in
          constructor_method k m e (subst (IsConstructor pool) same one.has.2)
