-- States that are typed, without paths and bounds.
use Rattle.std.proofs.Common.{◌≡◌, ℕ, suc, ◌≤◌, true, false, ◌&&◌, List, ◌∷◌, Option, Some, None, refl, sym, ap, ◌∙◌, subst, arith}
use Rattle.std.specs.Prelude.{nat_le, is_some}
use Rattle.std.proofs.lemmas.Bool.{and_from, le-leb, false≢true}
use Rattle.jtypes.specs.declared.types.Value.{Value}
use Rattle.jtypes.specs.declared.loader.LoadAnswer.{LoadAnswer}
use Rattle.jtypes.specs.Types.{slots_by}
use Rattle.jtypes.specs.Values.{Arrays, is_long_value}
use Rattle.jtypes.specs.Lists.{only_if, ◌>>=◌}
use Rattle.jtypes.proofs.Fit.{EachFit, EachSlotFits, fit_assignable, slots_assignable, only_if_true}
use Rattle.classfile.specs.View.{MethodView}
use Rattle.decode.specs.declared.instruction.Instruction.{Instruction}
use Rattle.decode.specs.declared.instruction.Placed.{Placed}
use Rattle.decode.specs.Places.{pushed_by, pushed_before, int_of}
use Rattle.frames.specs.Frames.{Frame}
use Rattle.transfer.specs.Transfer.{transfer}
use Rattle.typecheck.specs.Typing.{Method, Class, instruction_at, declared_at, Enters, IsTyping, IsFlow}
use Rattle.verdict.specs.Checked.{IsMember}
use Rattle.verdict.specs.Machine.{Invocation, Activation, State, Next, Goes, Ends, goes_on}
use Rattle.soundness.proofs.GoodStates.{none_top, alone, none_before, IsCounted, IsAt, is_inside, AllAwait}
use Rattle.loop_soundness.specs.Checked.{IsFormedWithLoops}

module _ (c : Class) (b : ℕ) where
  -- ---- safe steps

  pub record IsGood (s : State) : Type 0 where
    pub top : Activation
    pub below : List Activation
    pub m : Method
    pub activations : s.activations ≡ top ∷ below
    pub here : IsAt c s.arrays m top
    pub awaits : AllAwait c s.arrays m.environment.signature.result below

  abbrev pub SafeNext : ℕ → Option LoadAnswer → Invocation → Option Next → Type 0
  SafeNext steps asked call None = ⊥
  SafeNext steps asked call (Some (Goes u)) = IsGood u × (u.steps ≡ suc steps) × (u.now.asked ≡ asked) × (u.call ≡ call)
  SafeNext steps asked call (Some (Ends f)) = (f.steps ≡ suc steps) × (f.words ≡ b)

  pub goes_safe : (s : State) (a : Activation) (below : List Activation) (m : Method) → IsAt c s.arrays m a → AllAwait c s.arrays m.environment.signature.result below → SafeNext s.steps s.now.asked s.call (goes_on c s a below)
  goes_safe s a below m h w =
      let u : State = record s { activations = a ∷ below; steps = suc s.steps } in
      let goes = λ (x : Method). only_if (nat_le (slots_by is_long_value a.operands) x.environment.max_stack && is_some (instruction_at x a.place)) (Some (Goes u)) in
      let e : goes_on c s a below ≡ Some (Goes u) =
      ap (λ o. o >>= goes) h.member.method ∙ only_if_true _ _ (and_from _ _ (le-leb _ _ h.room) (ap is_some (is_inside h).1)) in
      subst (SafeNext s.steps s.now.asked s.call) (sym e) (record { top = a; below = below; m = m; activations = refl; here = h; awaits = w }, refl, refl, refl)

-- ---- control flow to a pc

pub arrive : (c : Class) (arrays : Arrays) (m : Method) (view : MethodView) (frames : List Frame) (a : Activation) (g : Frame) → IsFormedWithLoops m → IsMember c a.method view m → IsTyping c.view m frames → Enters m frames a.place g (declared_at m a.place) → EachSlotFits arrays a.locals g.locals → EachFit arrays a.operands g.stack → slots_by is_long_value a.operands ≤ m.environment.max_stack → IsCounted m a.place a.operands → IsAt c arrays m a
arrive c arrays m view frames a g formed member typing enters locals operands room counted = go (declared_at m a.place) refl enters
  where
    go : (o : Option Frame) → declared_at m a.place ≡ o → Enters m frames a.place g o → IsAt c arrays m a
    go None e h = record {
      view = view;
      member = member;
      frames = frames;
      typing = typing;
      frame = g;
      stands = h;
      locals = locals;
      operands = operands;
      room = room;
      counted = counted;
    }
    go (Some d) e h = record {
      view = view;
      member = member;
      frames = frames;
      typing = typing;
      frame = d;
      stands = typing.stands a.place d e;
      locals = slots_assignable arrays a.locals g.locals d.locals locals h.locals;
      operands = fit_assignable arrays a.operands g.stack d.stack operands h.stack (none_top d.stack (formed.declared a.place d e));
      room = room;
      counted = counted;
    }

-- No `newarray` follows an instruction that pushes no int constant.
pub no_length : (m : Method) (q : ℕ) (p : Placed) (operands : List Value) → IsFormedWithLoops m → instruction_at m q ≡ Some p → int_of p.instruction ≡ None → IsCounted m p.next operands
no_length m q p operands formed code none x k e is =
    let l = (formed.lengths p.next x k e is).1 in
    let same : pushed_before m.code p.next ≡ None = ap pushed_by (alone m.code 0 q p formed.consecutive code) ∙ none in
    cc (same, l.1)

pub no_length_target : (m : Method) (q : ℕ) (d : Frame) (operands : List Value) → IsFormedWithLoops m → declared_at m q ≡ Some d → IsCounted m q operands
no_length_target m q d operands formed e x k code is =
    let none : is_some (declared_at m q) ≡ false = (formed.lengths q x k code is).0 in
    let some : is_some (declared_at m q) ≡ true = ap is_some e in
    absurd (false≢true (sym none ∙ some))

-- No `newarray` is at the start of a method, because no instruction precedes it.
pub no_length_first : (m : Method) (operands : List Value) → IsFormedWithLoops m → IsCounted m 0 operands
no_length_first m operands formed x k code is =
    let l = (formed.lengths 0 x k code is).1 in
    let same : pushed_before m.code 0 ≡ None = ap pushed_by (none_before m.code 0 0 (omega arith) formed.consecutive) in
    cc (same, l.1)

-- ---- a step

-- `IsHere` holds if the topmost activation is well typed, and its instruction has this outcome.
pub record IsHere (c : Class) (s : State) (a : Activation) (below : List Activation) (m : Method) (p : Placed) (i : Instruction) (g : Frame) : Type 0 where
  pub formed : IsFormedWithLoops m
  pub here : IsAt c s.arrays m a
  pub awaits : AllAwait c s.arrays m.environment.signature.result below
  pub code : instruction_at m a.place ≡ Some p
  pub is : p.instruction ≡ i
  pub moved : transfer c.view m.environment i here.frame ≡ Some g
  pub flow : IsFlow m here.frames p g
