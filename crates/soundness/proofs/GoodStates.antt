-- States that are typed and within the remaining bounds.
use Rattle.std.proofs.Common.{◌≡◌, ℕ, suc, ◌+◌, ◌<◌, ◌≤◌, max, Bool, true, false, ◌&&◌, List, [], ◌∷◌, ◌++◌, length, Option, Some, None, refl, sym, ap, ◌∙◌, subst, arith}
use Rattle.std.specs.Prelude.{slice_get, pos, nat_le, ◌==◌, cond, is_some}
use Rattle.std.proofs.lemmas.Bool.{and_from, le-leb, eqb-true, eq-eqb, ne_eqb, false≢true}
use Rattle.jtypes.specs.declared.types.JType.{JType}
use Rattle.jtypes.specs.declared.types.Value.{Value}
use Rattle.jtypes.specs.declared.types.Value.TheVariants.{Int as IntValue}
use Rattle.jtypes.specs.declared.operations.ArrayKind.{ArrayKind}
use Rattle.jtypes.specs.Types.{slots_by}
use Rattle.jtypes.specs.Values.{Arrays, is_long_value}
use Rattle.jtypes.specs.Lists.{only_if, result_list, ◌>>=◌}
use Rattle.jtypes.proofs.Fit.{not_top, NoneTop, EachFit, EachSlotFits, IsKept, kept_trans, fit_assignable, slots_assignable, only_if_true}
use Rattle.classfile.specs.View.{MethodView}
use Rattle.decode.specs.declared.instruction.Instruction.TheVariants.{NewArray}
use Rattle.decode.specs.declared.instruction.Placed.{Placed}
use Rattle.decode.specs.Places.{at_place, before_place, pushed_by, pushed_before, int_of, AreConsecutive}
use Rattle.frames.specs.Frames.{Frame, FrameAssignable}
use Rattle.typecheck.specs.Typing.{Method, Class, instruction_at, declared_at, frame_of, frame_at, Enters, IsTyping}
use Rattle.bounds.specs.Paths.{Cost, Path, Bounds, own_slots, last_cost, after_one, after_call}
use Rattle.verdict.specs.Checked.{NoTop, IsMember}
use Rattle.soundness.specs.Room.{IsFormedButForRoom}
use Rattle.jtypes.specs.declared.loader.LoadAnswer.{LoadAnswer}
use Rattle.verdict.specs.Machine.{Invocation, Activation, State, Next, Goes, Ends, goes_on}
use Rattle.verdict.specs.Sound.{slots_of_method, slots_of}

pub none_top : (ts : List JType) → NoTop ts → NoneTop ts
none_top [] h = tt
none_top (t ∷ ts) h = (not_top t h.0, none_top ts h.1)

-- ---- frames exist exactly at instructions

abbrev pub IsInside : Method → ℕ → Type 0
IsInside m place = (p : Placed) × (instruction_at m place ≡ Some p)

framed_inside : (code : List Placed) (frames : List Frame) (place : ℕ) (f : Frame) → frame_of code frames place ≡ Some f → (p : Placed) × (at_place code place ≡ Some p)
framed_inside [] frames place f e = cc
framed_inside (x ∷ code) [] place f e = cc
framed_inside (x ∷ code) (g ∷ frames) place f e = go (framed_inside code frames place f) (x.place == place) e
  where
    go : (frame_of code frames place ≡ Some f → (p : Placed) × (at_place code place ≡ Some p)) → (b : Bool) → cond b (Some g) (frame_of code frames place) ≡ Some f → (p : Placed) × (cond b (Some x) (at_place code place) ≡ Some p)
    go later true h = (x, refl)
    go later false h = later h

pub has_frame : (code : List Placed) (frames : List Frame) (place : ℕ) (p : Placed) → length frames ≡ length code → at_place code place ≡ Some p → (f : Frame) × (frame_of code frames place ≡ Some f)
has_frame [] frames place p l e = cc
has_frame (x ∷ code) [] place p l e = absurd (omega (arith, l))
has_frame (x ∷ code) (g ∷ frames) place p l e = go (has_frame code frames place p (omega (arith, l))) (x.place == place) e
  where
    go : (at_place code place ≡ Some p → (f : Frame) × (frame_of code frames place ≡ Some f)) → (b : Bool) → cond b (Some x) (at_place code place) ≡ Some p → (f : Frame) × (cond b (Some g) (frame_of code frames place) ≡ Some f)
    go later true h = (g, refl)
    go later false h = later h

-- ---- instructions are consecutive

pub onward : (code : List Placed) (start q : ℕ) (p : Placed) → AreConsecutive start code → at_place code q ≡ Some p → (start ≤ q) × (q < p.next)
onward [] start q p h e = cc
onward (x ∷ code) start q p h e = go (onward code x.next q p h.2) (x.place == q) refl e
  where
    go : (at_place code q ≡ Some p → (x.next ≤ q) × (q < p.next)) → (b : Bool) → (x.place == q) ≡ b → cond b (Some x) (at_place code q) ≡ Some p → (start ≤ q) × (q < p.next)
    go later true is f =
        let same : x ≡ p = cc f in
        let here : x.place ≡ q = eqb-true x.place q is in
        let next : x.next ≡ p.next = ap (λ (y : Placed). y.next) same in
        (omega (arith, here, h.0), omega (arith, here, h.1, next))
    go later false is f = let r = later f in (omega (arith, r.0, h.0, h.1), r.1)

-- The instruction before the next pc is this one.
pub alone : (code : List Placed) (start q : ℕ) (p : Placed) → AreConsecutive start code → at_place code q ≡ Some p → before_place code p.next ≡ Some p
alone [] start q p h e = cc
alone (x ∷ code) start q p h e = go (alone code x.next q p h.2) (onward code x.next q p h.2) (x.place == q) e
  where
    go : (at_place code q ≡ Some p → before_place code p.next ≡ Some p) → (at_place code q ≡ Some p → (x.next ≤ q) × (q < p.next)) → (b : Bool) → cond b (Some x) (at_place code q) ≡ Some p → cond (x.next == p.next) (Some x) (before_place code p.next) ≡ Some p
    go later far true f =
        let same : x ≡ p = cc f in
        let next : x.next ≡ p.next = ap (λ (y : Placed). y.next) same in
        ap (λ b. cond b (Some x) (before_place code p.next)) (eq-eqb x.next p.next next) ∙ f
    go later far false f =
        let r = far f in
        ap (λ b. cond b (Some x) (before_place code p.next)) (ne_eqb x.next p.next (λ e. omega (arith, e, r.0, r.1))) ∙ later f

-- There is no instruction before the start.
pub none_before : (code : List Placed) (start q : ℕ) → q ≤ start → AreConsecutive start code → before_place code q ≡ None
none_before [] start q l h = refl
none_before (x ∷ code) start q l h =
    ap (λ b. cond b (Some x) (before_place code q)) (ne_eqb x.next q (λ e. omega (arith, e, h.0, h.1))) ∙ none_before code x.next q (omega (arith, h.0, h.1)) h.2

-- ---- typed activations

-- `HasCount` holds if the topmost operand is the constant that the instruction before pushes.
pub record HasCount (m : Method) (place : ℕ) (operands : List Value) : Type 0 where
  pub count : ℕ
  pub rest : List Value
  pub before : pushed_before m.code place ≡ Some (pos count)
  pub top : operands ≡ IntValue (pos count) ∷ rest

-- `IsCounted` holds if `HasCount` holds, or the instruction makes no array.
abbrev pub IsCounted : Method → ℕ → List Value → Type 0
IsCounted m place operands = (p : Placed) (k : ArrayKind) → instruction_at m place ≡ Some p → p.instruction ≡ NewArray k → HasCount m place operands

-- `IsAt` holds if the activation of method `m` is well typed at its pc.
pub record IsAt (c : Class) (arrays : Arrays) (m : Method) (a : Activation) : Type 0 where
  pub view : MethodView
  pub member : IsMember c a.method view m
  pub frames : List Frame
  pub typing : IsTyping c.view m frames
  pub frame : Frame
  pub stands : frame_at m frames a.place ≡ Some frame
  pub locals : EachSlotFits arrays a.locals frame.locals
  pub operands : EachFit arrays a.operands frame.stack
  pub room : slots_by is_long_value a.operands ≤ m.environment.max_stack
  pub counted : IsCounted m a.place a.operands

pub is_inside : {c : Class} {arrays : Arrays} {m : Method} {a : Activation} → IsAt c arrays m a → IsInside m a.place
is_inside {c} {arrays} {m} {a} h = framed_inside m.code h.frames a.place h.frame h.stands

abbrev pub with_result : List Value → Activation → Activation
with_result vs a = record { method = a.method; place = a.place; locals = a.locals; operands = vs ++ a.operands }

-- A caller that is well typed once its callee returns a result of this type, for all later arrays.
pub record Awaits (c : Class) (arrays : Arrays) (result : Option JType) (a : Activation) : Type 0 where
  pub m : Method
  pub view : MethodView
  pub member : IsMember c a.method view m
  pub inside : IsInside m a.place
  pub resumes : (new : Arrays) → IsKept arrays new → (vs : List Value) → EachFit new vs (result_list result) → IsAt c new m (with_result vs a)

-- `AllAwait` holds if each caller awaits the result of its callee; the bottom activation has a result.
abbrev pub AllAwait : Class → Arrays → Option JType → List Activation → Type 0
AllAwait c arrays result [] = (t : JType) × (result ≡ Some t)
AllAwait c arrays result (a ∷ below) = (w : Awaits c arrays result a) × AllAwait c arrays w.m.environment.signature.result below

pub all_await_kept : (c : Class) (old new : Arrays) → IsKept old new → (result : Option JType) (below : List Activation) → AllAwait c old result below → AllAwait c new result below
all_await_kept c old new k result [] h = h
all_await_kept c old new k result (a ∷ below) h =
    let w = h.0 in
    (record { m = w.m; view = w.view; member = w.member; inside = w.inside; resumes = λ later l vs f. w.resumes later (kept_trans old new later k l) vs f }, all_await_kept c old new k w.m.environment.signature.result below h.1)

-- ---- the remaining bounds

-- A path for the rest of each activation.
abbrev pub RestOf : Class → List Activation → Type 0
RestOf c [] = Unit {0}
RestOf c (a ∷ below) = (k : Cost) × Path c a.method a.place k × RestOf c below

abbrev pub steps_of_rest : (c : Class) (stack : List Activation) → RestOf c stack → ℕ
steps_of_rest c [] r = 0
steps_of_rest c (a ∷ below) r = r.0.steps + steps_of_rest c below r.2

abbrev pub words_of_rest : (c : Class) (stack : List Activation) → RestOf c stack → ℕ
words_of_rest c [] r = 0
words_of_rest c (a ∷ below) r = r.0.words + words_of_rest c below r.2

abbrev pub slots_of_rest : (c : Class) (stack : List Activation) → RestOf c stack → ℕ
slots_of_rest c [] r = 0
slots_of_rest c (a ∷ below) r = max (r.0.slots + slots_of c below) (slots_of_rest c below r.2)

abbrev pub depth_of_rest : (c : Class) (stack : List Activation) → RestOf c stack → ℕ
depth_of_rest c [] r = 0
depth_of_rest c (a ∷ below) r = max (r.0.depth + length below) (depth_of_rest c below r.2)

-- `HasBudget` holds if the activations stay within the bounds on all paths.
pub record HasBudget (c : Class) (b : Bounds) (stack : List Activation) (steps words : ℕ) : Type 0 where
  pub steps_left : (r : RestOf c stack) → steps + steps_of_rest c stack r ≤ b.steps
  pub words_left : (r : RestOf c stack) → words + words_of_rest c stack r ≤ b.words
  pub slots_left : (r : RestOf c stack) → slots_of_rest c stack r ≤ b.slots
  pub depth_left : (r : RestOf c stack) → depth_of_rest c stack r ≤ b.depth

module _ (c : Class) (b : Bounds) where
  pub budget_on : (a a' : Activation) (below : List Activation) (steps words w : ℕ) → ((k : Cost) → Path c a'.method a'.place k → Path c a.method a.place (after_one w k)) → HasBudget c b (a ∷ below) steps words → HasBudget c b (a' ∷ below) (suc steps) (words + w)
  budget_on a a' below steps words w path h = record {
    steps_left = λ r. let o = h.steps_left (after_one w r.0, path r.0 r.1, r.2) in omega (arith, o);
    words_left = λ r. let o = h.words_left (after_one w r.0, path r.0 r.1, r.2) in omega (arith, o);
    slots_left = λ r. h.slots_left (after_one w r.0, path r.0 r.1, r.2);
    depth_left = λ r. h.depth_left (after_one w r.0, path r.0 r.1, r.2);
  }

  pub budget_same : (stack : List Activation) (steps words words' : ℕ) → words' ≡ words → HasBudget c b stack steps words → HasBudget c b stack steps words'
  budget_same stack steps words words' e h = subst (HasBudget c b stack steps) (sym e) h

  max_call : (own e k below rest limit : ℕ) → max (max (own + e) k + below) rest ≤ limit → max (e + (own + below)) (max (k + below) rest) ≤ limit
  max_call own e k below rest limit h = omega (arith, h)

  pub budget_call : (m : Method) (a a' callee : Activation) (below : List Activation) (steps words : ℕ) → slice_get c.methods a'.method ≡ Some m → ((e k : Cost) → Path c callee.method callee.place e → Path c a'.method a'.place k → Path c a.method a.place (after_call m e k)) → HasBudget c b (a ∷ below) steps words → HasBudget c b (callee ∷ a' ∷ below) (suc steps) words
  budget_call m a a' callee below steps words known path h =
      let all = λ (r : RestOf c (callee ∷ a' ∷ below)). let o : RestOf c (a ∷ below) = (after_call m r.0 r.2.0, path r.0 r.2.0 r.1 r.2.1, r.2.2) in o in
      record {
        steps_left = λ r. let o = h.steps_left (all r) in omega (arith, o);
        words_left = λ r. let o = h.words_left (all r) in omega (arith, o);
        slots_left = λ r. subst (λ x. max (r.0.slots + (slots_of_method x + slots_of c below)) (max (r.2.0.slots + slots_of c below) (slots_of_rest c below r.2.2)) ≤ b.slots) (sym known) (max_call (own_slots m) r.0.slots r.2.0.slots (slots_of c below) (slots_of_rest c below r.2.2) b.slots (h.slots_left (all r)));
        depth_left = λ r. let o = h.depth_left (all r) in omega (arith, o);
      }

  pub budget_return : (m : Method) (a caller caller' : Activation) (below : List Activation) (steps words : ℕ) → Path c a.method a.place (last_cost m) → ((k : Cost) → Path c caller'.method caller'.place k → Path c caller.method caller.place k) → HasBudget c b (a ∷ caller ∷ below) steps words → HasBudget c b (caller' ∷ below) (suc steps) words
  budget_return m a caller caller' below steps words end path h =
      let all = λ (r : RestOf c (caller' ∷ below)). let o : RestOf c (a ∷ caller ∷ below) = (last_cost m, end, (r.0, path r.0 r.1, r.2)) in o in
      record {
        steps_left = λ r. let o = h.steps_left (all r) in omega (arith, o);
        words_left = λ r. let o = h.words_left (all r) in omega (arith, o);
        slots_left = λ r. let o = h.slots_left (all r) in omega (arith, o);
        depth_left = λ r. let o = h.depth_left (all r) in omega (arith, o);
      }

  -- ---- safe steps

  pub record IsGood (s : State) : Type 0 where
    pub top : Activation
    pub below : List Activation
    pub m : Method
    pub activations : s.activations ≡ top ∷ below
    pub here : IsAt c s.arrays m top
    pub awaits : AllAwait c s.arrays m.environment.signature.result below
    pub budget : HasBudget c b (top ∷ below) s.steps s.words

  abbrev pub SafeNext : ℕ → Option LoadAnswer → Invocation → Option Next → Type 0
  SafeNext steps asked call None = ⊥
  SafeNext steps asked call (Some (Goes u)) = IsGood u × (u.steps ≡ suc steps) × (u.now.asked ≡ asked) × (u.call ≡ call)
  SafeNext steps asked call (Some (Ends f)) = (f.steps ≤ b.steps) × (f.words ≤ b.words)

  pub goes_safe : (s : State) (a : Activation) (below : List Activation) (m : Method) → IsAt c s.arrays m a → AllAwait c s.arrays m.environment.signature.result below → HasBudget c b (a ∷ below) (suc s.steps) s.words → SafeNext s.steps s.now.asked s.call (goes_on c s a below)
  goes_safe s a below m h w budget =
      let u : State = record s { activations = a ∷ below; steps = suc s.steps } in
      let goes = λ (x : Method). only_if (nat_le (slots_by is_long_value a.operands) x.environment.max_stack && is_some (instruction_at x a.place)) (Some (Goes u)) in
      let e : goes_on c s a below ≡ Some (Goes u) =
      ap (λ o. o >>= goes) h.member.method ∙ only_if_true _ _ (and_from _ _ (le-leb _ _ h.room) (ap is_some (is_inside h).1)) in
      subst (SafeNext s.steps s.now.asked s.call) (sym e) (record { top = a; below = below; m = m; activations = refl; here = h; awaits = w; budget = budget }, refl, refl, refl)

-- ---- control flow to a pc

pub arrive : (c : Class) (arrays : Arrays) (m : Method) (view : MethodView) (frames : List Frame) (a : Activation) (g : Frame) → IsFormedButForRoom m → IsMember c a.method view m → IsTyping c.view m frames → Enters m frames a.place g (declared_at m a.place) → EachSlotFits arrays a.locals g.locals → EachFit arrays a.operands g.stack → slots_by is_long_value a.operands ≤ m.environment.max_stack → IsCounted m a.place a.operands → IsAt c arrays m a
arrive c arrays m view frames a g formed member typing enters locals operands room counted = go (declared_at m a.place) refl enters
  where
    go : (o : Option Frame) → declared_at m a.place ≡ o → Enters m frames a.place g o → IsAt c arrays m a
    go None e h = record {
      view = view;
      member = member;
      frames = frames;
      typing = typing;
      frame = g;
      stands = h;
      locals = locals;
      operands = operands;
      room = room;
      counted = counted;
    }
    go (Some d) e h = record {
      view = view;
      member = member;
      frames = frames;
      typing = typing;
      frame = d;
      stands = typing.stands a.place d e;
      locals = slots_assignable arrays a.locals g.locals d.locals locals h.locals;
      operands = fit_assignable arrays a.operands g.stack d.stack operands h.stack (none_top d.stack (formed.declared a.place d e));
      room = room;
      counted = counted;
    }

-- A pc that control flow enters has an instruction.
pub enters_inside : (c : Class) (m : Method) (frames : List Frame) (q : ℕ) (g : Frame) → IsTyping c.view m frames → Enters m frames q g (declared_at m q) → IsInside m q
enters_inside c m frames q g typing enters = go (declared_at m q) refl enters
  where
    go : (o : Option Frame) → declared_at m q ≡ o → Enters m frames q g o → IsInside m q
    go None e h = framed_inside m.code frames q g h
    go (Some d) e h = framed_inside m.code frames q d (typing.stands q d e)

pub enters_target : (m : Method) (frames : List Frame) (q : ℕ) (g d : Frame) → declared_at m q ≡ Some d → FrameAssignable g d → Enters m frames q g (declared_at m q)
enters_target m frames q g d e h = subst (Enters m frames q g) (sym e) h

-- No `newarray` follows an instruction that pushes no int constant.
pub no_length : (m : Method) (q : ℕ) (p : Placed) (operands : List Value) → IsFormedButForRoom m → instruction_at m q ≡ Some p → int_of p.instruction ≡ None → IsCounted m p.next operands
no_length m q p operands formed code none x k e is =
    let l = (formed.lengths p.next x k e is).1 in
    let same : pushed_before m.code p.next ≡ None = ap pushed_by (alone m.code 0 q p formed.consecutive code) ∙ none in
    cc (same, l.1)

pub no_length_target : (m : Method) (q : ℕ) (d : Frame) (operands : List Value) → IsFormedButForRoom m → declared_at m q ≡ Some d → IsCounted m q operands
no_length_target m q d operands formed e x k code is =
    let none : is_some (declared_at m q) ≡ false = (formed.lengths q x k code is).0 in
    let some : is_some (declared_at m q) ≡ true = ap is_some e in
    absurd (false≢true (sym none ∙ some))

-- No `newarray` is at the start of a method, because no instruction precedes it.
pub no_length_first : (m : Method) (operands : List Value) → IsFormedButForRoom m → IsCounted m 0 operands
no_length_first m operands formed x k code is =
    let l = (formed.lengths 0 x k code is).1 in
    let same : pushed_before m.code 0 ≡ None = ap pushed_by (none_before m.code 0 0 (omega arith) formed.consecutive) in
    cc (same, l.1)
