-- Classes with one method, without branches and own calls.
use Rattle.std.proofs.Common.{◌≡◌, ℕ, zero, suc, ◌==◌, Bool, true, false, cond, List, [], ◌∷◌, length, Option, Some, None, refl, sym, ap, ◌∙◌, subst, ◌⊎◌, inl, inr}
use Rattle.std.specs.Prelude.{slice_get, ℤ, pos}
use Rattle.std.proofs.lemmas.Bool.{eqb-true}
use Rattle.classfile.specs.View.{ClassView, MethodView}
use Rattle.decode.specs.declared.instruction.Placed.{Placed}
use Rattle.decode.specs.Places.{at_place, target_of, falls_through, is_return}
use Rattle.decode.proofs.Targets.{no_target}
use Rattle.frames.specs.Frames.{Frame}
use Rattle.typecheck.specs.Typing.{Method, Class, HasOutcome, IsTyping, instruction_at, frame_of, call_of}
use Rattle.bounds.specs.Recursion.{IsOrdered}
use Rattle.bounds.specs.Paths.{Cost, StandsAt, Path, ends, jumps, falls, calls, last_cost, after_one, words_at}
use Rattle.constpool.specs.Names.{process_name, process_descriptor}
use Rattle.decode.specs.declared.instruction.Instruction.{Instruction}
use Rattle.frames.specs.Signatures.{is_static, method_signature}
use Rattle.verdict.specs.Checked.{IsMember}
use Rattle.verdict.specs.Machine.{Invocation, State, Next, Goes}
use Rattle.soundness.specs.Premises.{HasTypedMethods}

pub one_at : {A : Type 0} (x : A) (j : ℕ) (y : A) → slice_get (x ∷ []) j ≡ Some y → x ≡ y
one_at x zero y h = cc
one_at x (suc j) y h = cc

-- `Each` holds if `P` holds of each instruction.
abbrev pub Each : (Placed → Type 0) → List Placed → Type 0
Each P [] = Unit {0}
Each P (p ∷ code) = P p × Each P code

pub each_at : (P : Placed → Type 0) (code : List Placed) → Each P code → (q : ℕ) (p : Placed) → at_place code q ≡ Some p → P p
each_at P [] h q p e = absurd cc
each_at P (x ∷ code) h q p e = go (each_at P code h.1 q p) (x.place == q) e
  where
    go : (at_place code q ≡ Some p → P p) → (b : Bool) → cond b (Some x) (at_place code q) ≡ Some p → P p
    go later true f = let same : x ≡ p = cc f in subst P same h.0
    go later false f = later f

pub at_its_place : (code : List Placed) (q : ℕ) (p : Placed) → at_place code q ≡ Some p → p.place ≡ q
at_its_place [] q p e = cc
at_its_place (x ∷ code) q p e = go (at_its_place code q p) (x.place == q) refl e
  where
    go : (at_place code q ≡ Some p → p.place ≡ q) → (b : Bool) → (x.place == q) ≡ b → cond b (Some x) (at_place code q) ≡ Some p → p.place ≡ q
    go later true is f =
        let same : x ≡ p = cc f in
        sym (ap (λ (y : Placed). y.place) same) ∙ eqb-true x.place q is
    go later false is f = later f

-- `IsStraight` holds if the instruction has no branch target.
abbrev pub IsStraight : Placed → Type 0
IsStraight p = target_of p.instruction ≡ None

-- Such an instruction has no target.
pub nowhere : (t : ℤ) → (None ≡ Some t) ⊎ ((k : ℕ) × (None ≡ Some t)) → ⊥
nowhere t (inl e) = cc e
nowhere t (inr (k, e)) = cc e

-- `EachOutcome` holds if each instruction has an outcome from its frame.
abbrev pub EachOutcome : ClassView → Method → List Frame → List Placed → List Frame → Type 0
EachOutcome v m all (p ∷ code) (f ∷ frames) = HasOutcome v m all p f × EachOutcome v m all code frames
EachOutcome v m all _ _ = Unit {0}

pub outcome_at : (v : ClassView) (m : Method) (all : List Frame) (code : List Placed) (frames : List Frame) → EachOutcome v m all code frames → (q : ℕ) (p : Placed) (f : Frame) → at_place code q ≡ Some p → frame_of code frames q ≡ Some f → HasOutcome v m all p f
outcome_at v m all [] frames h q p f e k = absurd cc
outcome_at v m all (x ∷ code) [] h q p f e k = absurd cc
outcome_at v m all (x ∷ code) (g ∷ frames) h q p f e k = go (outcome_at v m all code frames h.1 q p f) (x.place == q) e k
  where
    go : (at_place code q ≡ Some p → frame_of code frames q ≡ Some f → HasOutcome v m all p f) → (b : Bool) → cond b (Some x) (at_place code q) ≡ Some p → cond b (Some g) (frame_of code frames q) ≡ Some f → HasOutcome v m all p f
    go later true a b =
        let same : x ≡ p = cc a in
        let frame : g ≡ f = cc b in
        subst (λ y. HasOutcome v m all y f) same (subst (λ y. HasOutcome v m all x y) frame h.0)
    go later false a b = later a b

-- `GoesOn` holds if the instruction falls through, and is neither a branch nor an own call.
pub record GoesOn (v : ClassView) (p : Placed) : Type 0 where
  pub stays : is_return p.instruction ≡ false
  pub straight : target_of p.instruction ≡ None
  pub lone : call_of v p.instruction ≡ None

pub record Leaves (v : ClassView) (p : Placed) : Type 0 where
  pub over : falls_through p.instruction ≡ false
  pub straight : target_of p.instruction ≡ None
  pub lone : call_of v p.instruction ≡ None

abbrev pub only_method : ClassView → Method → Class
only_method v m = record { view = v; methods = m ∷ [] }

-- Without own calls, constant ranks are valid.
pub without_calls : (v : ClassView) (m : Method) → Each (λ p. call_of v p.instruction ≡ None) m.code → IsOrdered (only_method v m) (λ j. 0)
without_calls v m h j k call =
    let same : m ≡ call.0 = one_at m j call.0 call.3 in
    let at : instruction_at m call.1 ≡ Some call.2 = subst (λ x. instruction_at x call.1 ≡ Some call.2) (sym same) call.4 in
    let none : call_of v call.2.instruction ≡ None = each_at (λ p. call_of v p.instruction ≡ None) m.code h call.1 call.2 at in
    let some = call.5 in
    absurd (cc (none, some))

module _ (v : ClassView) (m : Method) where
  -- The instruction at the pc is `q`.
  stands : (j place n : ℕ) (x : Method) (p q : Placed) → place ≡ n → instruction_at m n ≡ Some q → StandsAt (only_method v m) j place x p → (m ≡ x) × (q ≡ p)
  stands j place n x p q e at s =
      let same : m ≡ x = one_at m j x s.method in
      let here : instruction_at m place ≡ Some p = subst (λ y. instruction_at y place ≡ Some p) (sym same) s.instruction in
      let there : instruction_at m n ≡ Some p = subst (λ y. instruction_at m y ≡ Some p) e here in
      let both : Some q ≡ Some p = sym at ∙ there in
      (same, cc both)

  -- The cost of a path from an instruction that leaves the method.
  pub from_last : (n : ℕ) (q : Placed) → instruction_at m n ≡ Some q → Leaves v q → (j place : ℕ) (k : Cost) → place ≡ n → Path (only_method v m) j place k → k ≡ last_cost m
  from_last n q at is j place k e (ends x p s r) = ap last_cost (sym (stands j place n x p q e at s).0)
  from_last n q at is j place k e (jumps x p r s to rest) =
      let same = (stands j place n x p q e at s).1 in
      absurd (no_target p.instruction (pos r) (subst (λ (y : Placed). target_of y.instruction ≡ None) same is.straight) to)
  from_last n q at is j place k e (falls x p s on none rest) =
      let same = (stands j place n x p q e at s).1 in
      let no : false ≡ true = sym (subst (λ (y : Placed). falls_through y.instruction ≡ false) same is.over) ∙ on in
      cc no
  from_last n q at is j place k e (calls x p callee s to inner rest) =
      let same = (stands j place n x p q e at s).1 in
      let no : None ≡ Some callee = sym (subst (λ (y : Placed). call_of v y.instruction ≡ None) same is.lone) ∙ to in
      cc no

  -- The cost of a path from an instruction that falls through.
  pub from_before : (n : ℕ) (q : Placed) → instruction_at m n ≡ Some q → GoesOn v q → (later : Cost) → ((j place : ℕ) (k : Cost) → place ≡ q.next → Path (only_method v m) j place k → k ≡ later) → (j place : ℕ) (k : Cost) → place ≡ n → Path (only_method v m) j place k → k ≡ after_one (words_at m n q.instruction) later
  from_before n q at is later then j place k e (ends x p s r) =
      let same = (stands j place n x p q e at s).1 in
      let no : false ≡ true = sym (subst (λ (y : Placed). is_return y.instruction ≡ false) same is.stays) ∙ r in
      cc no
  from_before n q at is later then j place k e (jumps x p r s to rest) =
      let same = (stands j place n x p q e at s).1 in
      absurd (no_target p.instruction (pos r) (subst (λ (y : Placed). target_of y.instruction ≡ None) same is.straight) to)
  from_before n q at is later then j place k e (falls {k = tail} x p s on none rest) =
      let same = stands j place n x p q e at s in
      let next : p.next ≡ q.next = ap (λ (y : Placed). y.next) (sym same.1) in
      let words : words_at x place p.instruction ≡ words_at m n q.instruction = ap (λ y. words_at y place p.instruction) (sym same.0) ∙ ap (λ y. words_at m y p.instruction) e ∙ ap (λ (y : Placed). words_at m n y.instruction) (sym same.1) in
      ap (λ w. after_one w tail) words ∙ ap (after_one (words_at m n q.instruction)) (then j p.next tail next rest)
  from_before n q at is later then j place k e (calls x p callee s to inner rest) =
      let same = (stands j place n x p q e at s).1 in
      let no : None ≡ Some callee = sym (subst (λ (y : Placed). call_of v y.instruction ≡ None) same is.lone) ∙ to in
      cc no

-- ---- small classes

abbrev pub placed : ℕ → ℕ → Instruction → Placed
placed at next i = record { place = at; next = next; instruction = i }

abbrev pub process_with : ℕ → MethodView
process_with flags = record { flags = flags; name = process_name; descriptor = process_descriptor }

-- An invocation without arguments, on an entry that doesn't exist.
abbrev pub plain_call : Invocation
plain_call = record { key = pos 0; args = []; before = None; loads = false }

-- The state after a step.
abbrev pub gone_to : State → Option Next → State
gone_to s (Some (Goes u)) = u
gone_to s _ = s

-- A class with one method has typed methods if that method is well typed.
pub typed_methods : (v : ClassView) (w : MethodView) (m : Method) → v.methods ≡ w ∷ [] → method_signature v w ≡ Some m.environment.signature → (frames : List Frame) → IsTyping v m frames → Each (λ p. call_of v p.instruction ≡ None) m.code → HasTypedMethods (only_method v m)
typed_methods v w m one signed frames typing lone = record {
  count = subst (λ (xs : List MethodView). 1 ≡ length xs) (sym one) refl;
  signed = λ j x y h k. subst (λ (z : Method). method_signature v x ≡ Some z.environment.signature) (one_at m j y k) (subst (λ z. method_signature v z ≡ Some m.environment.signature) (one_at w j x (subst (λ xs. slice_get xs j ≡ Some x) one h)) signed);
  typed = λ j x y h. subst (λ z. (fs : List Frame) × IsTyping v z fs) (one_at m j y h.method) (frames, typing);
  ordered = ((λ j. 0), without_calls v m lone);
}

pub only_member : (P : Method → Type 0) (v : ClassView) (m : Method) → P m → (j : ℕ) (w : MethodView) (x : Method) → IsMember (only_method v m) j w x → P x
only_member P v m h j w x is = subst P (one_at m j x is.method) h

-- The only method is an instance method if its flags say so.
pub only_instance : (v : ClassView) (w : MethodView) → v.methods ≡ w ∷ [] → is_static w.flags ≡ false → (j : ℕ) (x : MethodView) → slice_get v.methods j ≡ Some x → is_static x.flags ≡ false
only_instance v w one h j x e = subst (λ (y : MethodView). is_static y.flags ≡ false) (one_at w j x (subst (λ xs. slice_get xs j ≡ Some x) one e)) h
