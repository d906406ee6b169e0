-- Each instruction is safe in a good state.
use Rattle.std.proofs.Common.{◌≡◌, ℕ, ◌+◌, ◌≤◌, Bool, true, false, ◌&&◌, List, [], ◌∷◌, ◌++◌, length, reverse, Option, Some, None, refl, sym, ap, ◌∙◌, subst, arith, ◌⊎◌, inl, inr}
use Rattle.std.specs.Prelude.{slice_get, slice_set, ℤ, pos, negsuc, ◌≤ℤ◌, nat_le, cond, option_and_then, option_map, is_some}
use Rattle.std.specs.Int.{w32, int_wrapping_add}
use Rattle.std.proofs.lemmas.Bool.{and_from, and_parts}
use Rattle.std.proofs.lemmas.List.{reverse-reverse, length-reverse}
use Rattle.jtypes.specs.declared.types.RefType.{RefType}
use Rattle.jtypes.specs.declared.types.RefType.TheVariants as ref
use Rattle.jtypes.specs.declared.types.JType.{JType}
use Rattle.jtypes.specs.declared.types.JType.TheVariants.{Int, Ref}
use Rattle.jtypes.specs.declared.types.RefValue.{RefValue}
use Rattle.jtypes.specs.declared.types.RefValue.TheVariants as reference
use Rattle.jtypes.specs.declared.types.Value.{Value}
use Rattle.jtypes.specs.declared.types.Value.TheVariants as value
use Rattle.jtypes.specs.declared.types.Arg.{Arg}
use Rattle.jtypes.specs.declared.types.JavaFault.{JavaFault}
use Rattle.jtypes.specs.declared.types.JavaFault.TheVariants as fault
use Rattle.jtypes.specs.declared.types.Outcome.{Outcome}
use Rattle.jtypes.specs.declared.types.Outcome.TheVariants.{Returned, Threw}
use Rattle.jtypes.specs.declared.operations.Kind.{Kind}
use Rattle.jtypes.specs.declared.operations.ArrayKind.{ArrayKind}
use Rattle.jtypes.specs.declared.operations.Pushed.{Pushed}
use Rattle.jtypes.specs.declared.operations.Pushed.TheVariants as pushed
use Rattle.jtypes.specs.declared.operations.Operation.{Operation}
use Rattle.jtypes.specs.declared.operations.Rearrangement.{Rearrangement}
use Rattle.jtypes.specs.declared.operations.Test.{Test}
use Rattle.jtypes.specs.declared.operations.Invoke.{Invoke}
use Rattle.jtypes.specs.declared.operations.Native.{Native}
use Rattle.jtypes.specs.Lists.{only_if, result_list, change}
use Rattle.jtypes.specs.Types.{assignable, is_long, slots_if, slots_by, type_of_kind, element_type, array_type}
use Rattle.jtypes.specs.Values.{Arrays, new_array, words_of, is_long_value, found_fits, fits, all_fit, passes, value_of_arg, item_at, arg_of_value}
use Rattle.jtypes.specs.Arithmetic.{Answer, Leaves, Throws, Lacks, operate, takes_of, puts_of, tested, takes_of_test}
use Rattle.jtypes.specs.Loading.{EntryNow, left_by}
use Rattle.jtypes.specs.Library.{Reply, Gives, Faults, Misses, library, flag}
use Rattle.jtypes.proofs.Fit.{is_top, NoneTop, EachFit, EachSlotFits, SlotFits, IsKept, same_kept, one_more_kept, last_is, change_kept, fit_kept, slots_kept, slots_fit, long_fits, append_fit, fit_reverse, fit_from_all, no_top_reverse, only_if_true, only_if_some, then_some_parts, fits_int, fits_ref, fits_assignable}
use Rattle.jtypes.proofs.OperationsFit.{AnswerFits, one_int, operation_fits, test_fits}
use Rattle.jtypes.proofs.LibraryCalls.{ReplyFits}
use Rattle.decode.specs.declared.instruction.Instruction.{Instruction}
use Rattle.decode.specs.declared.instruction.Instruction.TheVariants as instruction
use Rattle.decode.specs.declared.instruction.Placed.{Placed}
use Rattle.decode.specs.Places.{IsTarget, chosen, falls_through, is_return, int_of, pushed_by, pushed_before}
use Rattle.decode.specs.declared.instruction.Cases.{Cases}
use Rattle.unrolled.proofs.Switches.{chosen_is_target}
use Rattle.frames.specs.Signatures.{constant_type}
use Rattle.frames.specs.declared.members.Callee.{Callee}
use Rattle.frames.specs.declared.members.Reached.{Reached}
use Rattle.frames.specs.declared.members.Reached.TheVariants.{Library, Own}
use Rattle.frames.specs.Members.{callee_at}
use Rattle.frames.specs.Frames.{Frame, first_frame}
use Rattle.transfer.specs.Forms.{forms_of, rearranged}
use Rattle.transfer.specs.Transfer.{take_types, with_stack, type_of_pushed, loaded, store_type, stored, incremented, returned, returned_void, called, element_of, reference_loaded, has_length, measured, cast as cast_frame, asked}
use Rattle.transfer.proofs.RearrangedFit.{took, by_forms_fit}
use Rattle.typecheck.specs.Typing.{Method, Class, own_number, own_of, call_of}
use Rattle.bounds.specs.Paths.{StandsAt, length_of, words_at}
use Rattle.loop_soundness.specs.Checked.{IsCheckedWithLoops}
use Rattle.loop_soundness.proofs.Signatures.{signatures_of}
use Rattle.verdict.specs.Machine.{Activation, State, ends, throws, goes_on, with_operands, with_place, next_with, jump_with, load, store, store_value, increment, value_of_pushed, after_answer, after_test, switch, make_array, element_value, push_item, load_from, load_item, with_element, store_to, store_number, store_item, load_reference, push_length, measure, may_cast, cast, ask, split, activation_of, is_on_null, enter, after_reply, reach, invoke, end_with, return_to, narrowed, return_value, return_void, act}
use Rattle.soundness.proofs.Locals.{slot_at, slots_length, slots_store, slots_keep, first_locals, split_took}
use Rattle.soundness.proofs.Callees.{IsOwn, CalleeFits, callee_fits_by}
use Rattle.soundness.proofs.GoodStates.{none_top, alone, IsCounted, with_result, Awaits, AllAwait, all_await_kept, enters_inside, enters_target}
use Rattle.loop_soundness.proofs.GoodStates.{SafeNext, goes_safe, arrive, no_length, no_length_target, no_length_first, IsHere}
use Rattle.soundness.proofs.StepValues.{HasStack, stack_parts, take_put_parts, pushed_fits, pushed_not_top, kind_not_top, narrowed_fits, own_array, IsArray, array_ref, args_ref, number_is, element_fits, element_not_top, arg_fits, args_element, IsMeasured, length_fits, cast_fits, flag_fits}

module _ (c : Class) (b : ℕ) (ok : IsCheckedWithLoops c) (s : State) (same_words : s.words ≡ b) (a : Activation) (below : List Activation) (m : Method) (p : Placed) where
  abbrev beyond : Activation
  beyond = with_place a p.next

  stands : (i : Instruction) (g : Frame) → IsHere c s a below m p i g → StandsAt c a.method a.place m p
  stands i g h = record { method = h.here.member.method; instruction = h.code }

  -- A step to the next instruction is safe.
  next_safe : (i : Instruction) (g : Frame) (w words : ℕ) (arrays : Arrays) (now : EntryNow) (locals : List (Option Value)) (operands : List Value) → IsHere c s a below m p i g → falls_through i ≡ true → call_of c.view i ≡ None → words_at m a.place i ≡ w → words ≡ s.words + w → IsKept s.arrays arrays → EachSlotFits arrays locals g.locals → EachFit arrays operands g.stack → slots_by is_long_value operands ≤ m.environment.max_stack → IsCounted m p.next operands → SafeNext c b s.steps now.asked s.call (goes_on c (record { call = s.call; activations = s.activations; arrays = arrays; now = now; steps = s.steps; words = words }) (record { method = a.method; place = p.next; locals = locals; operands = operands }) below)
  next_safe i g w words arrays now locals operands h falling no_call takes total kept fit_locals fit_operands room counted =
      let s' : State = record { call = s.call; activations = s.activations; arrays = arrays; now = now; steps = s.steps; words = words } in
      let a' : Activation = record { method = a.method; place = p.next; locals = locals; operands = operands } in
      let typed = arrive c arrays m h.here.view h.here.frames a' g h.formed h.here.member h.here.typing (h.flow.falls (ap falls_through h.is ∙ falling)) fit_locals fit_operands room counted in
      goes_safe c b s' a' below m typed (all_await_kept c s.arrays arrays kept m.environment.signature.result below h.awaits)

  -- The same for an instruction that makes no array and pushes no int constant.
  plain_safe : (i : Instruction) (g : Frame) (arrays : Arrays) (now : EntryNow) (locals : List (Option Value)) (operands : List Value) → IsHere c s a below m p i g → falls_through i ≡ true → call_of c.view i ≡ None → words_at m a.place i ≡ 0 → int_of i ≡ None → IsKept s.arrays arrays → EachSlotFits arrays locals g.locals → EachFit arrays operands g.stack → slots_by is_long_value operands ≤ m.environment.max_stack → SafeNext c b s.steps now.asked s.call (goes_on c (record { call = s.call; activations = s.activations; arrays = arrays; now = now; steps = s.steps; words = s.words }) (record { method = a.method; place = p.next; locals = locals; operands = operands }) below)
  plain_safe i g arrays now locals operands h falling no_call takes none kept fit_locals fit_operands room =
      next_safe i g 0 s.words arrays now locals operands h falling no_call takes (omega arith) kept fit_locals fit_operands room (no_length m a.place p operands h.formed h.code (ap int_of h.is ∙ none))

  -- The same with other operands and the same local variables.
  change_safe : (i : Instruction) (g : Frame) (stack : List JType) (arrays : Arrays) (now : EntryNow) (operands : List Value) (h : IsHere c s a below m p i g) → HasStack m.environment h.here.frame stack g → falls_through i ≡ true → call_of c.view i ≡ None → words_at m a.place i ≡ 0 → int_of i ≡ None → IsKept s.arrays arrays → EachFit arrays operands stack → SafeNext c b s.steps now.asked s.call (goes_on c (record { call = s.call; activations = s.activations; arrays = arrays; now = now; steps = s.steps; words = s.words }) (record { method = a.method; place = p.next; locals = a.locals; operands = operands }) below)
  change_safe i g stack arrays now operands h t falling no_call takes none kept fit =
      plain_safe i g arrays now a.locals operands h falling no_call takes none kept (subst (EachSlotFits arrays a.locals) t.locals (slots_kept s.arrays arrays kept a.locals h.here.frame.locals h.here.locals)) (subst (EachFit arrays operands) t.operands fit) (let e = slots_fit arrays operands stack fit in let r = t.room in omega (arith, e, r))

  put_safe : (i : Instruction) (g : Frame) (stack : List JType) (operands : List Value) (h : IsHere c s a below m p i g) → HasStack m.environment h.here.frame stack g → falls_through i ≡ true → call_of c.view i ≡ None → words_at m a.place i ≡ 0 → int_of i ≡ None → EachFit s.arrays operands stack → SafeNext c b s.steps s.now.asked s.call (next_with c s beyond below operands)
  put_safe i g stack operands h t falling no_call takes none fit = change_safe i g stack s.arrays s.now operands h t falling no_call takes none (same_kept s.arrays) fit

  -- A step to a branch target is safe.
  jump_safe : (i : Instruction) (g : Frame) (target : ℤ) (operands : List Value) → IsHere c s a below m p i g → IsTarget i target → EachSlotFits s.arrays a.locals g.locals → EachFit s.arrays operands g.stack → slots_by is_long_value operands ≤ m.environment.max_stack → SafeNext c b s.steps s.now.asked s.call (jump_with c s beyond below target operands)
  jump_safe i g target operands h to fit_locals fit_operands room =
      let leads : IsTarget p.instruction target = subst (λ (x : Instruction). IsTarget x target) (sym h.is) to in
      let d = h.flow.branches target leads in
      let q = d.0 in
      let a' : Activation = record { method = a.method; place = q; locals = a.locals; operands = operands } in
      let typed = arrive c s.arrays m h.here.view h.here.frames a' g h.formed h.here.member h.here.typing (enters_target m h.here.frames q g d.1 d.3 d.4) fit_locals fit_operands room (no_length_target m q d.1 operands h.formed d.3) in
      subst (λ x. SafeNext c b s.steps s.now.asked s.call (jump_with c s beyond below x operands)) (sym d.2) (goes_safe c b s a' below m typed h.awaits)

  -- A step that ends the invocation is safe.
  ends_safe : (i : Instruction) (g : Frame) (o : Outcome) → IsHere c s a below m p i g → SafeNext c b s.steps s.now.asked s.call (Some (ends s o))
  ends_safe i g o h = (refl, same_words)

  throws_safe : (i : Instruction) (g : Frame) (fault : JavaFault) → IsHere c s a below m p i g → SafeNext c b s.steps s.now.asked s.call (throws s fault)
  throws_safe i g fault h = ends_safe i g (Threw fault) h

  nop_safe : (g : Frame) → IsHere c s a below m p instruction.Nop g → SafeNext c b s.steps s.now.asked s.call (next_with c s beyond below a.operands)
  nop_safe g h =
      let same : h.here.frame ≡ g = cc h.moved in
      plain_safe instruction.Nop g s.arrays s.now a.locals a.operands h refl refl refl refl (same_kept s.arrays) (subst (λ (x : Frame). EachSlotFits s.arrays a.locals x.locals) same h.here.locals) (subst (λ (x : Frame). EachFit s.arrays a.operands x.stack) same h.here.operands) h.here.room

  push_safe : (k : Pushed) (g : Frame) → IsHere c s a below m p (instruction.Push k) g → SafeNext c b s.steps s.now.asked s.call (next_with c s beyond below (value_of_pushed k ∷ a.operands))
  push_safe k g h =
      let x = take_put_parts m.environment h.here.frame g [] (type_of_pushed k ∷ []) h.moved in
      let t = x.2 in
      let old = took s.arrays [] h.here.frame.stack x.0 a.operands x.1 h.here.operands in
      let fit : EachFit s.arrays (value_of_pushed k ∷ a.operands) (type_of_pushed k ∷ x.0) = (pushed_fits s.arrays k, pushed_not_top k, old) in
      next_safe (instruction.Push k) g 0 s.words s.arrays s.now a.locals (value_of_pushed k ∷ a.operands) h refl refl refl (omega arith) (same_kept s.arrays) (subst (EachSlotFits s.arrays a.locals) t.locals h.here.locals) (subst (EachFit s.arrays (value_of_pushed k ∷ a.operands)) t.operands fit) (let e = slots_fit s.arrays (value_of_pushed k ∷ a.operands) (type_of_pushed k ∷ x.0) fit in let r = t.room in omega (arith, e, r)) (counted k h.is)
    where
      counted : (k : Pushed) → p.instruction ≡ instruction.Push k → IsCounted m p.next (value_of_pushed k ∷ a.operands)
      counted (pushed.Int (pos n)) is = λ x k e y. record { count = n; rest = a.operands; before = ap pushed_by (alone m.code 0 a.place p h.formed.consecutive h.code) ∙ ap int_of is; top = refl }
      counted (pushed.Int (negsuc n)) is = λ x k e y.
          let l = (h.formed.lengths p.next x k e y).1 in
          let before : pushed_before m.code p.next ≡ Some (negsuc n) = ap pushed_by (alone m.code 0 a.place p h.formed.consecutive h.code) ∙ ap int_of is in
          let same : l.0 ≡ negsuc n = cc (before, l.1) in
          let bad : pos 0 ≤ℤ negsuc n = subst (λ z. pos 0 ≤ℤ z) same l.2.0 in
          absurd bad.le
      counted (pushed.Long n) is = no_length m a.place p _ h.formed h.code (ap int_of is)
      counted pushed.Null is = no_length m a.place p _ h.formed h.code (ap int_of is)
      counted (pushed.Boolean b) is = no_length m a.place p _ h.formed h.code (ap int_of is)

  load_safe : (k : Kind) (n : ℕ) (g : Frame) → IsHere c s a below m p (instruction.Load k n) g → SafeNext c b s.steps s.now.asked s.call (load c s beyond below k n (slice_get a.locals n))
  load_safe k n g h = go (slice_get h.here.frame.locals n) refl h.moved
    where
      found : (t : JType) (o : Option Value) → SlotFits s.arrays o t → assignable t (type_of_kind k) ≡ true → is_top t ≡ false → nat_le (n + slots_if (is_long t)) (length h.here.frame.locals) ≡ true → HasStack m.environment h.here.frame (t ∷ h.here.frame.stack) g → SafeNext c b s.steps s.now.asked s.call (load c s beyond below k n (Some o))
      found t None f u top r t' = cc
      found t (Some v) f u top r t' =
          let fit = fits_assignable s.arrays v t (type_of_kind k) f u in
          let longs = long_fits s.arrays v t f top in
          let lengths = slots_length s.arrays a.locals h.here.frame.locals h.here.locals in
          let room : nat_le (n + slots_if (is_long_value v)) (length a.locals) ≡ true =
          ap (λ x. nat_le (n + slots_if x) (length a.locals)) longs ∙ ap (λ x. nat_le (n + slots_if (is_long t)) x) lengths ∙ r in
          subst (SafeNext c b s.steps s.now.asked s.call) (sym (only_if_true _ (next_with c s beyond below (v ∷ a.operands)) (and_from _ _ fit room))) (put_safe (instruction.Load k n) g (t ∷ h.here.frame.stack) (v ∷ a.operands) h t' refl refl refl refl (f, top, h.here.operands))

      go : (o : Option JType) → slice_get h.here.frame.locals n ≡ o → loaded m.environment h.here.frame k n o ≡ Some g → SafeNext c b s.steps s.now.asked s.call (load c s beyond below k n (slice_get a.locals n))
      go None e f = cc
      go (Some t) e f =
          let x = only_if_some (assignable t (type_of_kind k) && nat_le (n + slots_if (is_long t)) (length h.here.frame.locals)) (with_stack m.environment h.here.frame (t ∷ h.here.frame.stack)) g f in
          let tests = and_parts (assignable t (type_of_kind k)) _ x.0 in
          let o = slot_at s.arrays a.locals h.here.frame.locals n t h.here.locals e in
          subst (λ y. SafeNext c b s.steps s.now.asked s.call (load c s beyond below k n y)) (sym o.1) (found t o.0 o.2 tests.0 (kind_not_top k t tests.0) tests.1 (stack_parts m.environment h.here.frame (t ∷ h.here.frame.stack) g x.1))

  store_safe : (k : Kind) (n : ℕ) (g : Frame) → IsHere c s a below m p (instruction.Store k n) g → SafeNext c b s.steps s.now.asked s.call (store c s beyond below k n a.operands)
  store_safe k n g h = go h.here.frame.stack a.operands h.here.operands h.here.room h.moved
    where
      go : (stack : List JType) (operands : List Value) → EachFit s.arrays operands stack → slots_by is_long_value operands ≤ m.environment.max_stack → stored h.here.frame k n stack ≡ Some g → SafeNext c b s.steps s.now.asked s.call (store c s beyond below k n operands)
      go [] operands f r e = cc
      go (t ∷ stack) [] f r e = absurd f
      go (t ∷ stack) (v ∷ operands) f r e =
          let new : Frame = record { locals = store_type h.here.frame.locals n t; stack = stack } in
          let x = only_if_some (assignable t (type_of_kind k) && nat_le (n + slots_if (is_long t)) (length h.here.frame.locals)) (Some new) g e in
          let same : new ≡ g = cc x.1 in
          let tests = and_parts (assignable t (type_of_kind k)) _ x.0 in
          let fit = fits_assignable s.arrays v t (type_of_kind k) f.0 tests.0 in
          let longs = long_fits s.arrays v t f.0 f.1 in
          let lengths = slots_length s.arrays a.locals h.here.frame.locals h.here.locals in
          let room : nat_le (n + slots_if (is_long_value v)) (length a.locals) ≡ true =
          ap (λ x. nat_le (n + slots_if x) (length a.locals)) longs ∙ ap (λ x. nat_le (n + slots_if (is_long t)) x) lengths ∙ tests.1 in
          subst (SafeNext c b s.steps s.now.asked s.call) (sym (only_if_true _ _ (and_from _ _ fit room))) (plain_safe (instruction.Store k n) g s.arrays s.now (store_value a.locals n v) operands h refl refl refl refl (same_kept s.arrays) (subst (λ (x : Frame). EachSlotFits s.arrays (store_value a.locals n v) x.locals) same (slots_store s.arrays a.locals h.here.frame.locals n v t h.here.locals f.0 f.1)) (subst (λ (x : Frame). EachFit s.arrays operands x.stack) same f.2) (omega (arith, r)))

  increment_safe : (n : ℕ) (by : ℤ) (g : Frame) → IsHere c s a below m p (instruction.Increment n by) g → SafeNext c b s.steps s.now.asked s.call (increment c s beyond below n by (slice_get a.locals n))
  increment_safe n by g h = go (slice_get h.here.frame.locals n) refl h.moved
    where
      found : (o : Option Value) → SlotFits s.arrays o Int → h.here.frame ≡ g → slice_get h.here.frame.locals n ≡ Some Int → SafeNext c b s.steps s.now.asked s.call (increment c s beyond below n by (Some o))
      found None f same e = cc
      found (Some v) f same e =
          let x = fits_int s.arrays v f in
          subst (λ y. SafeNext c b s.steps s.now.asked s.call (increment c s beyond below n by (Some (Some y)))) (sym x.1) (plain_safe (instruction.Increment n by) g s.arrays s.now (slice_set a.locals n (Some (value.Int (int_wrapping_add w32 x.0 by)))) a.operands h refl refl refl refl (same_kept s.arrays) (subst (λ (y : Frame). EachSlotFits s.arrays (slice_set a.locals n (Some (value.Int (int_wrapping_add w32 x.0 by)))) y.locals) same (slots_keep s.arrays a.locals h.here.frame.locals n (Some (value.Int (int_wrapping_add w32 x.0 by))) Int h.here.locals e refl)) (subst (λ (y : Frame). EachFit s.arrays a.operands y.stack) same h.here.operands) h.here.room)

      go : (o : Option JType) → slice_get h.here.frame.locals n ≡ o → incremented h.here.frame o ≡ Some g → SafeNext c b s.steps s.now.asked s.call (increment c s beyond below n by (slice_get a.locals n))
      go None e f = cc
      go (Some Int) e f =
          let same : h.here.frame ≡ g = cc f in
          let o = slot_at s.arrays a.locals h.here.frame.locals n Int h.here.locals e in
          subst (λ y. SafeNext c b s.steps s.now.asked s.call (increment c s beyond below n by y)) (sym o.1) (found o.0 o.2 same e)
      go (Some _) e f = cc

  operate_safe : (o : Operation) (g : Frame) → IsHere c s a below m p (instruction.Operate o) g → SafeNext c b s.steps s.now.asked s.call (after_answer c s beyond below (operate o a.operands))
  operate_safe o g h = go (operate o a.operands) (operation_fits s.arrays o x.0 a.operands (took s.arrays (takes_of o) h.here.frame.stack x.0 a.operands x.1 h.here.operands))
    where
      x : (rest : List JType) × (take_types (takes_of o) h.here.frame.stack ≡ Some rest) × HasStack m.environment h.here.frame (puts_of o ∷ rest) g
      x = take_put_parts m.environment h.here.frame g (takes_of o) (puts_of o ∷ []) h.moved

      go : (e : Answer) → AnswerFits s.arrays (puts_of o ∷ x.0) e → SafeNext c b s.steps s.now.asked s.call (after_answer c s beyond below e)
      go (Leaves operands) f = put_safe (instruction.Operate o) g (puts_of o ∷ x.0) operands h x.2 refl refl refl refl f
      go (Throws fault) f = throws_safe (instruction.Operate o) g fault h
      go Lacks f = absurd f

  rearrange_safe : (r : Rearrangement) (g : Frame) → IsHere c s a below m p (instruction.Rearrange r) g → SafeNext c b s.steps s.now.asked s.call (option_and_then (next_with c s beyond below) (rearranged is_long_value r a.operands))
  rearrange_safe r g h =
      let x = then_some_parts (with_stack m.environment h.here.frame) (rearranged is_long r h.here.frame.stack) g h.moved in
      let v = by_forms_fit s.arrays (forms_of r) a.operands h.here.frame.stack x.0 h.here.operands x.1 in
      subst (λ y. SafeNext c b s.steps s.now.asked s.call (option_and_then (next_with c s beyond below) y)) (sym v.1) (put_safe (instruction.Rearrange r) g x.0 v.0 h (stack_parts m.environment h.here.frame x.0 g x.2) refl refl refl refl v.2)

  branch_safe : (test : Test) (target : ℤ) (g : Frame) → IsHere c s a below m p (instruction.Branch test target) g → SafeNext c b s.steps s.now.asked s.call (after_test c s beyond below target (tested test a.operands))
  branch_safe test target g h =
      let x = take_put_parts m.environment h.here.frame g (takes_of_test test) [] h.moved in
      let v = test_fits s.arrays test x.0 a.operands (took s.arrays (takes_of_test test) h.here.frame.stack x.0 a.operands x.1 h.here.operands) in
      subst (λ y. SafeNext c b s.steps s.now.asked s.call (after_test c s beyond below target y)) (sym v.2) (go v.0 v.1 x.0 x.2 v.3)
    where
      go : (yes : Bool) (operands : List Value) (rest : List JType) → HasStack m.environment h.here.frame rest g → EachFit s.arrays operands rest → SafeNext c b s.steps s.now.asked s.call (after_test c s beyond below target (Some (yes, operands)))
      go true operands rest t f =
          jump_safe (instruction.Branch test target) g target operands h (inl refl) (subst (EachSlotFits s.arrays a.locals) t.locals h.here.locals) (subst (EachFit s.arrays operands) t.operands f) (let e = slots_fit s.arrays operands rest f in let r = t.room in omega (arith, e, r))
      go false operands rest t f = put_safe (instruction.Branch test target) g rest operands h t refl refl refl refl f

  goto_safe : (target : ℤ) (g : Frame) → IsHere c s a below m p (instruction.Goto target) g → SafeNext c b s.steps s.now.asked s.call (jump_with c s beyond below target a.operands)
  goto_safe target g h =
      let same : h.here.frame ≡ g = cc h.moved in
      jump_safe (instruction.Goto target) g target a.operands h (inl refl) (subst (λ (x : Frame). EachSlotFits s.arrays a.locals x.locals) same h.here.locals) (subst (λ (x : Frame). EachFit s.arrays a.operands x.stack) same h.here.operands) h.here.room

  switch_safe : (default : ℤ) (cases : Cases) (g : Frame) → IsHere c s a below m p (instruction.Switch default cases) g → SafeNext c b s.steps s.now.asked s.call (switch c s beyond below default cases a.operands)
  switch_safe default cases g h =
      let x = take_put_parts m.environment h.here.frame g (Int ∷ []) [] h.moved in
      let v = one_int s.arrays x.0 a.operands (took s.arrays (Int ∷ []) h.here.frame.stack x.0 a.operands x.1 h.here.operands) in
      subst (λ y. SafeNext c b s.steps s.now.asked s.call (switch c s beyond below default cases y)) (sym v.2) (go v.0 v.1 x.0 x.2 v.3)
    where
      go : (n : ℤ) (operands : List Value) (rest : List JType) → HasStack m.environment h.here.frame rest g → EachFit s.arrays operands rest → SafeNext c b s.steps s.now.asked s.call (switch c s beyond below default cases (value.Int n ∷ operands))
      go n operands rest t f =
          jump_safe (instruction.Switch default cases) g (chosen default cases n) operands h (chosen_is_target default cases n) (subst (EachSlotFits s.arrays a.locals) t.locals h.here.locals) (subst (EachFit s.arrays operands) t.operands f) (let e = slots_fit s.arrays operands rest f in let r = t.room in omega (arith, e, r))

  make_array_safe : (k : ArrayKind) (g : Frame) → IsHere c s a below m p (instruction.NewArray k) g → SafeNext c b s.steps s.now.asked s.call (make_array c s beyond below k a.operands)
  make_array_safe k g h =
      let x = take_put_parts m.environment h.here.frame g (Int ∷ []) (Ref (array_type k) ∷ []) h.moved in
      let v = one_int s.arrays x.0 a.operands (took s.arrays (Int ∷ []) h.here.frame.stack x.0 a.operands x.1 h.here.operands) in
      let n = h.here.counted p k h.code h.is in
      let same : v.1 ≡ n.rest = cc (v.2, n.top) in
      subst (λ y. SafeNext c b s.steps s.now.asked s.call (make_array c s beyond below k y)) (sym n.top) (go n.count n.rest x.0 x.2 n.before (subst (λ y. EachFit s.arrays y x.0) same v.3))
    where
      go : (n : ℕ) (operands : List Value) (rest : List JType) → HasStack m.environment h.here.frame (Ref (array_type k) ∷ rest) g → pushed_before m.code a.place ≡ Some (pos n) → EachFit s.arrays operands rest → SafeNext c b s.steps s.now.asked s.call (make_array c s beyond below k (value.Int (pos n) ∷ operands))
      go n operands rest t before f =
          let new = new_array k n in
          let arrays = s.arrays ++ new ∷ [] in
          let kept = one_more_kept s.arrays new in
          let v = value.Ref (reference.Array (length s.arrays)) in
          let it : fits arrays v (Ref (array_type k)) ≡ true = ap (λ o. found_fits o (array_type k)) (last_is s.arrays new) ∙ own_array k in
          let fit : EachFit arrays (v ∷ operands) (Ref (array_type k) ∷ rest) = (it, refl, fit_kept s.arrays arrays kept operands rest f) in
          next_safe (instruction.NewArray k) g (words_of n) (s.words + words_of n) arrays s.now a.locals (v ∷ operands) h refl refl (ap (λ o. words_of (length_of o)) before) refl kept (subst (EachSlotFits arrays a.locals) t.locals (slots_kept s.arrays arrays kept a.locals h.here.frame.locals h.here.locals)) (subst (EachFit arrays (v ∷ operands)) t.operands fit) (let e = slots_fit arrays (v ∷ operands) (Ref (array_type k) ∷ rest) fit in let r = t.room in omega (arith, e, r)) (no_length m a.place p (v ∷ operands) h.formed h.code (ap int_of h.is))

  load_item_safe : (k : ArrayKind) (g : Frame) → IsHere c s a below m p (instruction.ArrayLoad k) g → SafeNext c b s.steps s.now.asked s.call (load_item c s beyond below k a.operands)
  load_item_safe k g h =
      let x = take_put_parts m.environment h.here.frame g (Int ∷ Ref (array_type k) ∷ []) (element_type k ∷ []) h.moved in
      let v = took s.arrays (Int ∷ Ref (array_type k) ∷ []) h.here.frame.stack x.0 a.operands x.1 h.here.operands in
      let i = fits_int s.arrays v.0 v.3 in
      let w = fits_ref s.arrays v.4.0 (array_type k) v.4.3 in
      let is : a.operands ≡ value.Int i.0 ∷ value.Ref w.0 ∷ v.4.1 = cc (v.2, i.1, v.4.2, w.1) in
      subst (λ y. SafeNext c b s.steps s.now.asked s.call (load_item c s beyond below k y)) (sym is) (go i.0 w.0 v.4.1 x.0 x.2 v.4.4 (array_ref s.arrays k w.0 w.2))
    where
      item : (operands : List Value) (rest : List JType) → HasStack m.environment h.here.frame (element_type k ∷ rest) g → EachFit s.arrays operands rest → (o : Option ℤ) → SafeNext c b s.steps s.now.asked s.call (push_item c s beyond below operands (option_map (element_value k) o))
      item operands rest t f None = throws_safe (instruction.ArrayLoad k) g fault.ArrayIndexOutOfBounds h
      item operands rest t f (Some n) = put_safe (instruction.ArrayLoad k) g (element_type k ∷ rest) (element_value k n ∷ operands) h t refl refl refl refl (element_fits s.arrays k n, element_not_top k, f)

      go : (i : ℤ) (w : RefValue) (operands : List Value) (rest : List JType) → HasStack m.environment h.here.frame (element_type k ∷ rest) g → EachFit s.arrays operands rest → (w ≡ reference.Null) ⊎ IsArray s.arrays k w → SafeNext c b s.steps s.now.asked s.call (load_item c s beyond below k (value.Int i ∷ value.Ref w ∷ operands))
      go i w operands rest t f (inl e) = subst (λ y. SafeNext c b s.steps s.now.asked s.call (load_item c s beyond below k (value.Int i ∷ value.Ref y ∷ operands))) (sym e) (throws_safe (instruction.ArrayLoad k) g fault.NullPointer h)
      go i w operands rest t f (inr x) =
          let is : load_item c s beyond below k (value.Int i ∷ value.Ref w ∷ operands) ≡ push_item c s beyond below operands (option_map (element_value k) (item_at x.1.items i)) =
          ap (λ y. load_item c s beyond below k (value.Int i ∷ value.Ref y ∷ operands)) x.2 ∙ ap (load_from c s beyond below k i operands) x.3 ∙ only_if_true _ _ x.4 in
          subst (SafeNext c b s.steps s.now.asked s.call) (sym is) (item operands rest t f (item_at x.1.items i))

  store_item_safe : (k : ArrayKind) (g : Frame) → IsHere c s a below m p (instruction.ArrayStore k) g → SafeNext c b s.steps s.now.asked s.call (store_item c s beyond below k a.operands)
  store_item_safe k g h =
      let x = take_put_parts m.environment h.here.frame g (element_type k ∷ Int ∷ Ref (array_type k) ∷ []) [] h.moved in
      let v = took s.arrays (element_type k ∷ Int ∷ Ref (array_type k) ∷ []) h.here.frame.stack x.0 a.operands x.1 h.here.operands in
      let n = number_is s.arrays k v.0 v.3 in
      let i = fits_int s.arrays v.4.0 v.4.3 in
      let w = fits_ref s.arrays v.4.4.0 (array_type k) v.4.4.3 in
      let rest : v.1 ≡ value.Int i.0 ∷ value.Ref w.0 ∷ v.4.4.1 = cc (v.4.2, i.1, v.4.4.2, w.1) in
      let is : store_item c s beyond below k a.operands ≡ store_number c s beyond below k (Some n.0) (value.Int i.0 ∷ value.Ref w.0 ∷ v.4.4.1) =
      ap (store_item c s beyond below k) v.2 ∙ ap (λ o. store_number c s beyond below k o v.1) n.1 ∙ ap (store_number c s beyond below k (Some n.0)) rest in
      subst (SafeNext c b s.steps s.now.asked s.call) (sym is) (go n.0 i.0 w.0 v.4.4.1 x.0 x.2 v.4.4.4 (array_ref s.arrays k w.0 w.2))
    where
      to : (n i : ℤ) (id : ℕ) (operands : List Value) (rest : List JType) → HasStack m.environment h.here.frame rest g → EachFit s.arrays operands rest → (inside : Bool) → SafeNext c b s.steps s.now.asked s.call (cond inside (next_with c (record s { arrays = change (with_element i n) s.arrays id }) beyond below operands) (throws s fault.ArrayIndexOutOfBounds))
      to n i id operands rest t f true =
          let kept = change_kept (with_element i n) (λ y. refl) s.arrays id in
          change_safe (instruction.ArrayStore k) g rest (change (with_element i n) s.arrays id) s.now operands h t refl refl refl refl kept (fit_kept s.arrays (change (with_element i n) s.arrays id) kept operands rest f)
      to n i id operands rest t f false = throws_safe (instruction.ArrayStore k) g fault.ArrayIndexOutOfBounds h

      go : (n i : ℤ) (w : RefValue) (operands : List Value) (rest : List JType) → HasStack m.environment h.here.frame rest g → EachFit s.arrays operands rest → (w ≡ reference.Null) ⊎ IsArray s.arrays k w → SafeNext c b s.steps s.now.asked s.call (store_number c s beyond below k (Some n) (value.Int i ∷ value.Ref w ∷ operands))
      go n i w operands rest t f (inl e) = subst (λ y. SafeNext c b s.steps s.now.asked s.call (store_number c s beyond below k (Some n) (value.Int i ∷ value.Ref y ∷ operands))) (sym e) (throws_safe (instruction.ArrayStore k) g fault.NullPointer h)
      go n i w operands rest t f (inr x) =
          let is : store_number c s beyond below k (Some n) (value.Int i ∷ value.Ref w ∷ operands) ≡ cond (is_some (item_at x.1.items i)) (next_with c (record s { arrays = change (with_element i n) s.arrays x.0 }) beyond below operands) (throws s fault.ArrayIndexOutOfBounds) =
          ap (λ y. store_number c s beyond below k (Some n) (value.Int i ∷ value.Ref y ∷ operands)) x.2 ∙ ap (store_to c s beyond below k x.0 i n operands) x.3 ∙ only_if_true _ _ x.4 in
          subst (SafeNext c b s.steps s.now.asked s.call) (sym is) (to n i x.0 operands rest t f (is_some (item_at x.1.items i)))

  load_reference_safe : (g : Frame) → IsHere c s a below m p instruction.ReferenceLoad g → SafeNext c b s.steps s.now.asked s.call (load_reference c s beyond below a.operands)
  load_reference_safe g h = go h.here.frame.stack a.operands h.here.operands h.moved
    where
      item : (t : JType) (operands : List Value) (rest : List JType) → fits s.arrays (value.Ref reference.Args) t ≡ true → is_top t ≡ false → HasStack m.environment h.here.frame (element_of t ∷ rest) g → EachFit s.arrays operands rest → (o : Option Arg) → SafeNext c b s.steps s.now.asked s.call (push_item c s beyond below operands (option_map value_of_arg o))
      item t operands rest u n k f None = throws_safe instruction.ReferenceLoad g fault.ArrayIndexOutOfBounds h
      item t operands rest u n k f (Some x) =
          let is = args_element s.arrays t u n in
          put_safe instruction.ReferenceLoad g (element_of t ∷ rest) (value_of_arg x ∷ operands) h k refl refl refl refl (subst (λ y. EachFit s.arrays (value_of_arg x ∷ operands) (y ∷ rest)) (sym is) (arg_fits s.arrays x, refl, f))

      of : (i : ℤ) (u : Value) (t : JType) (w : RefValue) (operands : List Value) (rest : List JType) → u ≡ value.Ref w → fits s.arrays u t ≡ true → is_top t ≡ false → HasStack m.environment h.here.frame (element_of t ∷ rest) g → EachFit s.arrays operands rest → (w ≡ reference.Null) ⊎ (w ≡ reference.Args) → SafeNext c b s.steps s.now.asked s.call (load_reference c s beyond below (value.Int i ∷ u ∷ operands))
      of i u t w operands rest e fit n k f (inl x) = subst (λ y. SafeNext c b s.steps s.now.asked s.call (load_reference c s beyond below (value.Int i ∷ y ∷ operands))) (sym (e ∙ ap (λ y. value.Ref y) x)) (throws_safe instruction.ReferenceLoad g fault.NullPointer h)
      of i u t w operands rest e fit n k f (inr x) =
          let is : u ≡ value.Ref reference.Args = e ∙ ap (λ y. value.Ref y) x in
          subst (λ y. SafeNext c b s.steps s.now.asked s.call (load_reference c s beyond below (value.Int i ∷ y ∷ operands))) (sym is) (item t operands rest (subst (λ y. fits s.arrays y t ≡ true) is fit) n k f (item_at s.call.args i))

      go : (stack : List JType) (operands : List Value) → EachFit s.arrays operands stack → reference_loaded m.environment h.here.frame stack ≡ Some g → SafeNext c b s.steps s.now.asked s.call (load_reference c s beyond below operands)
      go [] operands f e = cc
      go (t ∷ []) operands f e = cc
      go (t ∷ u ∷ stack) [] f e = absurd f
      go (t ∷ u ∷ stack) (v ∷ []) f e = absurd f.2
      go (t ∷ u ∷ stack) (v ∷ w ∷ operands) f e =
          let x = only_if_some (assignable t Int && assignable u (Ref ref.ObjectArray)) (with_stack m.environment h.here.frame (element_of u ∷ stack)) g e in
          let tests = and_parts (assignable t Int) (assignable u (Ref ref.ObjectArray)) x.0 in
          let i = fits_int s.arrays v (fits_assignable s.arrays v t Int f.0 tests.0) in
          let r = fits_ref s.arrays w ref.ObjectArray (fits_assignable s.arrays w u (Ref ref.ObjectArray) f.2.0 tests.1) in
          subst (λ y. SafeNext c b s.steps s.now.asked s.call (load_reference c s beyond below (y ∷ w ∷ operands))) (sym i.1) (of i.0 w u r.0 operands stack r.1 f.2.0 f.2.1 (stack_parts m.environment h.here.frame (element_of u ∷ stack) g x.1) f.2.2 (args_ref s.arrays r.0 r.2))

  measure_safe : (g : Frame) → IsHere c s a below m p instruction.ArrayLength g → SafeNext c b s.steps s.now.asked s.call (measure c s beyond below a.operands)
  measure_safe g h = go h.here.frame.stack a.operands h.here.operands h.moved
    where
      of : (v : Value) (operands : List Value) (stack : List JType) → HasStack m.environment h.here.frame (Int ∷ stack) g → EachFit s.arrays operands stack → IsMeasured s.arrays v → SafeNext c b s.steps s.now.asked s.call (measure c s beyond below (v ∷ operands))
      of v operands stack t f (inl e) = subst (λ y. SafeNext c b s.steps s.now.asked s.call (measure c s beyond below (y ∷ operands))) (sym e) (throws_safe instruction.ArrayLength g fault.NullPointer h)
      of v operands stack t f (inr (inl e)) = subst (λ y. SafeNext c b s.steps s.now.asked s.call (measure c s beyond below (y ∷ operands))) (sym e) (put_safe instruction.ArrayLength g (Int ∷ stack) (value.Int (pos (length s.call.args)) ∷ operands) h t refl refl refl refl (refl, refl, f))
      of v operands stack t f (inr (inr x)) =
          let is : measure c s beyond below (v ∷ operands) ≡ next_with c s beyond below (value.Int (pos (length x.1.items)) ∷ operands) =
          ap (λ y. measure c s beyond below (y ∷ operands)) x.2 ∙ ap (push_length c s beyond below operands) x.3 in
          subst (SafeNext c b s.steps s.now.asked s.call) (sym is) (put_safe instruction.ArrayLength g (Int ∷ stack) (value.Int (pos (length x.1.items)) ∷ operands) h t refl refl refl refl (refl, refl, f))

      go : (stack : List JType) (operands : List Value) → EachFit s.arrays operands stack → measured m.environment h.here.frame stack ≡ Some g → SafeNext c b s.steps s.now.asked s.call (measure c s beyond below operands)
      go [] operands f e = cc
      go (t ∷ stack) [] f e = absurd f
      go (t ∷ stack) (v ∷ operands) f e =
          let x = only_if_some (has_length t) (with_stack m.environment h.here.frame (Int ∷ stack)) g e in
          of v operands stack (stack_parts m.environment h.here.frame (Int ∷ stack) g x.1) f.2 (length_fits s.arrays v t f.0 x.0)

  cast_safe : (n : ℕ) (g : Frame) → IsHere c s a below m p (instruction.CheckCast n) g → SafeNext c b s.steps s.now.asked s.call (cast c s beyond below (constant_type c.view n) a.operands)
  cast_safe n g h = go (constant_type c.view n) h.moved
    where
      passed : (r : RefType) (w : RefValue) (operands : List Value) (rest : List JType) → HasStack m.environment h.here.frame (Ref r ∷ rest) g → EachFit s.arrays operands rest → (yes : Bool) → may_cast s.arrays w r ≡ yes → SafeNext c b s.steps s.now.asked s.call (cond yes (next_with c s beyond below (value.Ref w ∷ operands)) (throws s fault.ClassCast))
      passed r w operands rest t f true e = put_safe (instruction.CheckCast n) g (Ref r ∷ rest) (value.Ref w ∷ operands) h t refl refl refl refl (cast_fits s.arrays w r e, refl, f)
      passed r w operands rest t f false e = throws_safe (instruction.CheckCast n) g fault.ClassCast h

      go : (o : Option RefType) → cast_frame m.environment h.here.frame o ≡ Some g → SafeNext c b s.steps s.now.asked s.call (cast c s beyond below o a.operands)
      go None e = cc
      go (Some r) e =
          let x = take_put_parts m.environment h.here.frame g (Ref ref.Object ∷ []) (Ref r ∷ []) e in
          let v = took s.arrays (Ref ref.Object ∷ []) h.here.frame.stack x.0 a.operands x.1 h.here.operands in
          let w = fits_ref s.arrays v.0 ref.Object v.3 in
          let is : cast c s beyond below (Some r) a.operands ≡ cond (may_cast s.arrays w.0 r) (next_with c s beyond below (value.Ref w.0 ∷ v.1)) (throws s fault.ClassCast) =
          ap (cast c s beyond below (Some r)) (v.2 ∙ ap (λ y. y ∷ v.1) w.1) ∙ only_if_true _ _ w.2 in
          subst (SafeNext c b s.steps s.now.asked s.call) (sym is) (passed r w.0 v.1 x.0 x.2 v.4 (may_cast s.arrays w.0 r) refl)

  ask_safe : (n : ℕ) (g : Frame) → IsHere c s a below m p (instruction.InstanceOf n) g → SafeNext c b s.steps s.now.asked s.call (ask c s beyond below (constant_type c.view n) a.operands)
  ask_safe n g h = go (constant_type c.view n) h.moved
    where
      go : (o : Option RefType) → asked m.environment h.here.frame o ≡ Some g → SafeNext c b s.steps s.now.asked s.call (ask c s beyond below o a.operands)
      go None e = cc
      go (Some r) e =
          let x = take_put_parts m.environment h.here.frame g (Ref ref.Object ∷ []) (Int ∷ []) e in
          let v = took s.arrays (Ref ref.Object ∷ []) h.here.frame.stack x.0 a.operands x.1 h.here.operands in
          let w = fits_ref s.arrays v.0 ref.Object v.3 in
          let is : ask c s beyond below (Some r) a.operands ≡ next_with c s beyond below (flag (passes s.arrays w.0 r) ∷ v.1) =
          ap (ask c s beyond below (Some r)) (v.2 ∙ ap (λ y. y ∷ v.1) w.1) ∙ only_if_true _ _ w.2 in
          subst (SafeNext c b s.steps s.now.asked s.call) (sym is) (put_safe (instruction.InstanceOf n) g (Int ∷ x.0) (flag (passes s.arrays w.0 r) ∷ v.1) h x.2 refl refl refl refl (flag_fits s.arrays (passes s.arrays w.0 r), refl, v.4))

  -- A return of a result of the declared type is safe.
  return_to_safe : (i : Instruction) (g : Frame) (result : List Value) → IsHere c s a below m p i g → is_return i ≡ true → EachFit s.arrays result (result_list m.environment.signature.result) → SafeNext c b s.steps s.now.asked s.call (return_to c s result below)
  return_to_safe i g result h is fit = go below h.awaits
    where
      end : (o : Option Arg) → SafeNext c b s.steps s.now.asked s.call (Some (end_with s o))
      end None = ends_safe i g (Threw fault.ClassCast) h
      end (Some x) = ends_safe i g (Returned x) h

      last : (t : JType) (vs : List Value) → EachFit s.arrays vs (t ∷ []) → SafeNext c b s.steps s.now.asked s.call (return_to c s vs [])
      last t [] f = absurd f
      last t (v ∷ []) f = end (arg_of_value v)
      last t (v ∷ w ∷ vs) f = absurd f.2

      go : (below : List Activation) → AllAwait c s.arrays m.environment.signature.result below → SafeNext c b s.steps s.now.asked s.call (return_to c s result below)
      go [] awaits = last awaits.0 result (subst (λ x. EachFit s.arrays result (result_list x)) awaits.1 fit)
      go (caller ∷ rest) awaits =
          let w = awaits.0 in
          let a' = with_result result caller in
          goes_safe c b s a' rest w.m (w.resumes s.arrays (same_kept s.arrays) result fit) awaits.1

  return_safe : (k : Kind) (g : Frame) → IsHere c s a below m p (instruction.Return k) g → SafeNext c b s.steps s.now.asked s.call (return_value c s below k m.environment.signature m.environment.signature.result a.operands)
  return_safe k g h = go m.environment.signature.result refl h.moved
    where
      go : (o : Option JType) → m.environment.signature.result ≡ o → returned h.here.frame k o ≡ Some g → SafeNext c b s.steps s.now.asked s.call (return_value c s below k m.environment.signature o a.operands)
      go None e f = cc
      go (Some t) e f =
          let x = then_some_parts {A = List JType} (λ rest. Some h.here.frame) (only_if (assignable t (type_of_kind k)) (take_types (t ∷ []) h.here.frame.stack)) g f in
          let q = only_if_some (assignable t (type_of_kind k)) (take_types (t ∷ []) h.here.frame.stack) x.0 x.1 in
          let v = took s.arrays (t ∷ []) h.here.frame.stack x.0 a.operands q.1 h.here.operands in
          let result = narrowed m.environment.signature.is_boolean v.0 ∷ [] in
          let top : NoneTop (result_list (Some t)) = subst (λ y. NoneTop (result_list y)) e (none_top (result_list m.environment.signature.result) h.formed.result) in
          let fit : EachFit s.arrays result (result_list (Some t)) = (narrowed_fits s.arrays m.environment.signature.is_boolean v.0 t v.3, top.0, tt) in
          subst (λ y. SafeNext c b s.steps s.now.asked s.call (return_value c s below k m.environment.signature (Some t) y)) (sym v.2) (subst (SafeNext c b s.steps s.now.asked s.call) (sym (only_if_true _ _ (and_from _ _ (fits_assignable s.arrays v.0 t (type_of_kind k) v.3 q.0) v.3))) (return_to_safe (instruction.Return k) g result h refl (subst (λ y. EachFit s.arrays result (result_list y)) (sym e) fit)))

  return_void_safe : (g : Frame) → IsHere c s a below m p instruction.ReturnVoid g → SafeNext c b s.steps s.now.asked s.call (return_void c s below m.environment.signature.result)
  return_void_safe g h = go m.environment.signature.result refl h.moved
    where
      go : (o : Option JType) → m.environment.signature.result ≡ o → returned_void h.here.frame o ≡ Some g → SafeNext c b s.steps s.now.asked s.call (return_void c s below o)
      go None e f = return_to_safe instruction.ReturnVoid g [] h refl (subst (λ x. EachFit s.arrays [] (result_list x)) (sym e) tt)
      go (Some t) e f = cc

  -- A library call is safe.
  library_safe : (k : Invoke) (n : ℕ) (g : Frame) (callee : Callee) (l : Native) (taken operands : List Value) (rest : List JType) (h : IsHere c s a below m p (instruction.Invoke k n) g) → call_of c.view (instruction.Invoke k n) ≡ None → CalleeFits c callee (Library l) → HasStack m.environment h.here.frame (result_list callee.result ++ rest) g → all_fit s.arrays taken (reverse callee.params) ≡ true → EachFit s.arrays operands rest → SafeNext c b s.steps s.now.asked s.call (reach c s beyond below k callee (Library l) taken operands)
  library_safe k n g callee l taken operands rest h no_call known t args f =
      go (library l s.call.key s.now.entry (reverse taken)) (known.2 s.arrays s.call.key s.now.entry (reverse taken) fit)
    where
      fit : EachFit s.arrays (reverse taken) callee.params
      fit = subst (EachFit s.arrays (reverse taken)) (reverse-reverse callee.params) (fit_reverse s.arrays taken (reverse callee.params) (fit_from_all s.arrays taken (reverse callee.params) args (no_top_reverse callee.params known.0)))

      go : (r : Reply) → ReplyFits s.arrays callee.result r → SafeNext c b s.steps s.now.asked s.call (after_reply c s beyond below l callee.result operands r)
      go (Gives v now) e =
          let all = append_fit s.arrays (result_list v) operands (result_list callee.result) rest (fit_from_all s.arrays (result_list v) (result_list callee.result) e known.1) f in
          subst (SafeNext c b s.steps s.now.asked s.call) (sym (only_if_true _ _ e)) (change_safe (instruction.Invoke k n) g (result_list callee.result ++ rest) s.arrays (left_by l s.now now) (result_list v ++ operands) h t refl no_call refl refl (same_kept s.arrays) all)
      go (Faults x) e = throws_safe (instruction.Invoke k n) g x h
      go Misses e = absurd e

  -- A call of a method of the class is safe.
  own_safe : (k : Invoke) (n : ℕ) (g : Frame) (callee : Callee) (j : ℕ) (taken operands : List Value) (rest : List JType) (h : IsHere c s a below m p (instruction.Invoke k n) g) → call_of c.view (instruction.Invoke k n) ≡ Some j → IsOwn c callee j → HasStack m.environment h.here.frame (result_list callee.result ++ rest) g → all_fit s.arrays taken (reverse callee.params) ≡ true → EachFit s.arrays operands rest → SafeNext c b s.steps s.now.asked s.call (reach c s beyond below k callee (Own j) taken operands)
  own_safe k n g callee j taken operands rest h to own t args f = go (is_on_null k (reverse taken))
    where
      entered : SafeNext c b s.steps s.now.asked s.call (enter c s (with_operands beyond operands) below j taken (slice_get c.methods j))
      entered =
          let m' = own.method in
          let a' = with_operands beyond operands in
          let new = activation_of j m' taken in
          let typed = ok.typed j own.view m' own.member in
          let formed = ok.formed j own.view m' own.member in
          let params : NoneTop callee.params = subst NoneTop (sym own.params) (none_top m'.environment.signature.params formed.params) in
          let fit : EachFit s.arrays (reverse taken) callee.params = subst (EachFit s.arrays (reverse taken)) (reverse-reverse callee.params) (fit_reverse s.arrays taken (reverse callee.params) (fit_from_all s.arrays taken (reverse callee.params) args (no_top_reverse callee.params params))) in
          let fit' : EachFit s.arrays (reverse taken) m'.environment.signature.params = subst (EachFit s.arrays (reverse taken)) own.params fit in
          let callee_typed = arrive c s.arrays m' own.view typed.0 new (first_frame m'.environment) formed own.member typed.1 typed.1.first (first_locals s.arrays m'.environment.max_locals (reverse taken) m'.environment.signature.params fit') tt (omega arith) (no_length_first m' [] formed) in
          let enters = h.flow.falls (ap falls_through h.is) in
          let resumes = λ (arrays : Arrays) (kept : IsKept s.arrays arrays) (vs : List Value) (fit : EachFit arrays vs (result_list callee.result)).
          let all = append_fit arrays vs operands (result_list callee.result) rest fit (fit_kept s.arrays arrays kept operands rest f) in
          arrive c arrays m h.here.view h.here.frames (with_result vs a') g h.formed h.here.member h.here.typing enters (subst (EachSlotFits arrays a.locals) t.locals (slots_kept s.arrays arrays kept a.locals h.here.frame.locals h.here.locals)) (subst (EachFit arrays (vs ++ operands)) t.operands all) (let q = slots_fit arrays (vs ++ operands) (result_list callee.result ++ rest) all in let r = t.room in omega (arith, q, r)) (no_length m a.place p (vs ++ operands) h.formed h.code (ap int_of h.is))
          in
          let waits : Awaits c s.arrays m'.environment.signature.result a' = record { m = m; view = h.here.view; member = h.here.member; inside = enters_inside c m h.here.frames p.next g h.here.typing enters; resumes = λ arrays kept vs fit. resumes arrays kept vs (subst (λ x. EachFit arrays vs (result_list x)) (sym own.result) fit) } in
          subst (SafeNext c b s.steps s.now.asked s.call) (sym (ap (enter c s a' below j taken) own.member.method)) (goes_safe c b s new (a' ∷ below) m' callee_typed (waits, h.awaits))

      go : (null : Bool) → SafeNext c b s.steps s.now.asked s.call (cond null (throws s fault.NullPointer) (enter c s (with_operands beyond operands) below j taken (slice_get c.methods j)))
      go true = throws_safe (instruction.Invoke k n) g fault.NullPointer h
      go false = entered

  invoke_safe : (k : Invoke) (n : ℕ) (g : Frame) → IsHere c s a below m p (instruction.Invoke k n) g → SafeNext c b s.steps s.now.asked s.call (invoke c s beyond below k (callee_at c.view k n))
  invoke_safe k n g h = go (callee_at c.view k n) refl h.moved
    where
      reached : (callee : Callee) (r : Reached) → CalleeFits c callee r → call_of c.view (instruction.Invoke k n) ≡ own_number r → (taken operands : List Value) (rest : List JType) → HasStack m.environment h.here.frame (result_list callee.result ++ rest) g → all_fit s.arrays taken (reverse callee.params) ≡ true → EachFit s.arrays operands rest → SafeNext c b s.steps s.now.asked s.call (reach c s beyond below k callee r taken operands)
      reached callee (Library l) known to taken operands rest t args f = library_safe k n g callee l taken operands rest h to known t args f
      reached callee (Own j) known to taken operands rest t args f = own_safe k n g callee j taken operands rest h to known t args f

      go : (o : Option Callee) → callee_at c.view k n ≡ o → called m.environment h.here.frame o ≡ Some g → SafeNext c b s.steps s.now.asked s.call (invoke c s beyond below k o)
      go None e f = cc
      go (Some callee) e f =
          let x = take_put_parts m.environment h.here.frame g (reverse callee.params) (result_list callee.result) f in
          let sp = split_took s.arrays (reverse callee.params) x.0 a.operands (took s.arrays (reverse callee.params) h.here.frame.stack x.0 a.operands x.1 h.here.operands) in
          let parts : split (length callee.params) a.operands ≡ Some (sp.taken, sp.below) = subst (λ y. split y a.operands ≡ Some (sp.taken, sp.below)) (length-reverse callee.params) sp.parts in
          let onto = λ (q : List Value × List Value). only_if (all_fit s.arrays q.0 (reverse callee.params)) (reach c s beyond below k callee callee.reached q.0 q.1) in
          let is : invoke c s beyond below k (Some callee) ≡ reach c s beyond below k callee callee.reached sp.taken sp.below = ap (option_and_then onto) parts ∙ only_if_true _ _ sp.fit in
          subst (SafeNext c b s.steps s.now.asked s.call) (sym is) (reached callee callee.reached (callee_fits_by c (signatures_of c ok) k n callee e) (ap own_of e) sp.taken sp.below x.0 x.2 sp.fit sp.rest_fit)

  pub act_safe : (i : Instruction) (g : Frame) → IsHere c s a below m p i g → SafeNext c b s.steps s.now.asked s.call (act c s m.environment beyond below i)
  act_safe instruction.Nop g h = nop_safe g h
  act_safe (instruction.Push k) g h = push_safe k g h
  act_safe (instruction.Load k n) g h = load_safe k n g h
  act_safe (instruction.Store k n) g h = store_safe k n g h
  act_safe (instruction.Increment n by) g h = increment_safe n by g h
  act_safe (instruction.Operate o) g h = operate_safe o g h
  act_safe (instruction.Rearrange r) g h = rearrange_safe r g h
  act_safe (instruction.Branch test target) g h = branch_safe test target g h
  act_safe (instruction.Goto target) g h = goto_safe target g h
  act_safe (instruction.Switch default cases) g h = switch_safe default cases g h
  act_safe (instruction.Return k) g h = return_safe k g h
  act_safe instruction.ReturnVoid g h = return_void_safe g h
  act_safe (instruction.Invoke k n) g h = invoke_safe k n g h
  act_safe (instruction.NewArray k) g h = make_array_safe k g h
  act_safe (instruction.ArrayLoad k) g h = load_item_safe k g h
  act_safe (instruction.ArrayStore k) g h = store_item_safe k g h
  act_safe instruction.ReferenceLoad g h = load_reference_safe g h
  act_safe instruction.ArrayLength g h = measure_safe g h
  act_safe (instruction.CheckCast n) g h = cast_safe n g h
  act_safe (instruction.InstanceOf n) g h = ask_safe n g h
  act_safe (instruction.Throw t text) g h = throws_safe (instruction.Throw t text) g (fault.Thrown t text) h
