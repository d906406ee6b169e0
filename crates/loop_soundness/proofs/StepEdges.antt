-- Each step of an activation goes along an edge of its node.
use Rattle.std.proofs.Common.{◌≡◌, ℕ, suc, ◌+◌, ◌≤◌, Bool, true, false, ◌&&◌, List, [], ◌∷◌, ◌++◌, length, take, drop, reverse, Option, Some, None, refl, sym, ap, ◌∙◌, subst, arith, inl, inr, get_or}
use Rattle.std.specs.Prelude.{slice_get, slice_set, map, ℤ, pos, negsuc, nat_le, option_and_then, option_map, is_some, if◌then◌else◌}
use Rattle.std.specs.Int.{w32, int_wrapping_add}
use Rattle.std.proofs.lemmas.Bool.{and_parts}
use Rattle.std.proofs.lemmas.List.{length-set}
use Rattle.jtypes.specs.declared.types.RefValue.TheVariants as reference
use Rattle.jtypes.specs.declared.types.RefValue.{RefValue}
use Rattle.jtypes.specs.declared.types.RefType.{RefType}
use Rattle.jtypes.specs.declared.types.Value.{Value}
use Rattle.jtypes.specs.declared.types.Value.TheVariants.{Int, Long, Ref}
use Rattle.jtypes.specs.declared.types.Arg.{Arg}
use Rattle.jtypes.specs.declared.types.JavaFault.TheVariants as fault
use Rattle.jtypes.specs.declared.operations.Kind.{Kind}
use Rattle.jtypes.specs.declared.operations.ArrayKind.{ArrayKind}
use Rattle.jtypes.specs.declared.operations.Operation.{Operation}
use Rattle.jtypes.specs.declared.operations.Rearrangement.{Rearrangement}
use Rattle.jtypes.specs.declared.operations.Test.{Test}
use Rattle.jtypes.specs.declared.operations.Invoke.{Invoke}
use Rattle.jtypes.specs.declared.operations.Native.{Native}
use Rattle.jtypes.specs.Lists.{only_if, result_list, change, ◌>>=◌}
use Rattle.jtypes.specs.Types.{slots_by, type_of_kind, element_type}
use Rattle.jtypes.specs.Values.{Array, Arrays, is_long_value, new_array, words_of, fits, all_fit, passes, value_of_arg, item_at, with_item}
use Rattle.jtypes.specs.Arithmetic.{Answer, Leaves, Throws, Lacks, operate, tested}
use Rattle.jtypes.specs.Loading.{EntryNow, left_by}
use Rattle.jtypes.specs.Library.{Reply, Gives, Faults, Misses, library, flag}
use Rattle.decode.specs.declared.instruction.Instruction.{Instruction}
use Rattle.decode.specs.declared.instruction.Instruction.TheVariants as instruction
use Rattle.decode.specs.declared.instruction.Cases.{Cases}
use Rattle.decode.specs.declared.instruction.Placed.{Placed}
use Rattle.decode.specs.Places.{IsTarget, chosen, targets_in, is_return}
use Rattle.frames.specs.Signatures.{constant_type}
use Rattle.frames.specs.declared.frame.Environment.{Environment}
use Rattle.frames.specs.declared.members.Callee.{Callee}
use Rattle.frames.specs.declared.members.Reached.{Reached}
use Rattle.frames.specs.declared.members.Reached.TheVariants.{Library, Own}
use Rattle.frames.specs.Members.{callee_at}
use Rattle.transfer.specs.Forms.{rearranged}
use Rattle.typecheck.specs.Typing.{Method, Class, instruction_at, call_of, own_of, own_number}
use Rattle.verdict.specs.Machine.{Activation, State, Next, Goes, Ends, throws, goes_on, with_operands, with_place, next_with, jump_with, has_local, load, store, store_value, increment, value_of_pushed, after_answer, after_test, switch, make_array, element_value, same_kind, push_item, load_from, load_item, with_element, store_to, store_number, number_of, store_item, load_reference, push_length, measure, may_cast, cast, ask, after_reply, reach, invoke, act}
use Rattle.bounds.specs.Paths.{words_at}
use Rattle.unrolled.specs.Known.{Known, Wide, Narrow, Number, Count, Sized, Arguments, unknown_of, known_local}
use Rattle.unrolled.specs.Graph.{Node, Following, kept, loaded, stored, incremented, known_pushed, operated, with_array, on_top, length_known, called, decided, tested_rest, at, to_target, to_targets, by_answer, by_key, if_matching, edges}
use Rattle.loop_soundness.specs.Runs.{HasPlainCalls}
use Rattle.loop_soundness.proofs.Agreement.{AllAgree, LocalsAgree, KeepsLengths, same_lengths, one_more_array, change_array, all_drop, all_append, all_later, locals_later, locals_stored, locals_set, load_agrees}
use Rattle.loop_soundness.proofs.Rearranged.{rearranged_found}
use Rattle.loop_soundness.proofs.KnownValues.{top_agrees, operated_agree, pushed_agrees, incremented_agrees, array_agrees, element_agrees, arg_agrees, flag_agrees, args_measured, array_measured, narrow_top, results_agree, test_agrees}
use Rattle.unrolled.proofs.Edges.{targets_found}
use Rattle.unrolled.proofs.Switches.{chosen_is_target}

-- ---- nodes and activations

pub record IsAt (arrays : Arrays) (args : ℕ) (x : Node) (a : Activation) : Type 0 where
  pub place : x.place ≡ a.place
  pub locals : LocalsAgree arrays args x.locals a.locals
  pub operands : AllAgree arrays args x.operands a.operands

-- ---- targets of a switch

switch_found : (x : Node) (default : ℤ) (cases : Cases) (n : ℤ) (q : ℕ) (ks : List Known) → chosen default cases n ≡ pos q → (i : ℕ) × (slice_get (to_targets x (default ∷ targets_in cases) ks) i ≡ Some (at x q ks))
switch_found x default cases n q ks e = go (chosen_is_target default cases n)
  where
    go : IsTarget (instruction.Switch default cases) (chosen default cases n) → (i : ℕ) × (slice_get (to_targets x (default ∷ targets_in cases) ks) i ≡ Some (at x q ks))
    go (inl f) = targets_found x (default ∷ targets_in cases) 0 q ks (f ∙ ap (λ y. Some y) e)
    go (inr (k, f)) = targets_found x (default ∷ targets_in cases) (suc k) q ks (f ∙ ap (λ y. Some y) e)

key_found : (args : ℕ) (arrays : Arrays) (x : Node) (default : ℤ) (cases : Cases) (n : ℤ) (q : ℕ) (ks : List Known) (vs : List Value) → AllAgree arrays args ks (Int n ∷ vs) → chosen default cases n ≡ pos q → (i : ℕ) × (slice_get (by_key x default cases ks) i ≡ Some (at x q (drop 1 ks)))
key_found args arrays x default cases n q [] vs h e = absurd h
key_found args arrays x default cases n q (Wide ∷ ks) vs h e = switch_found x default cases n q ks e
key_found args arrays x default cases n q (Narrow ∷ ks) vs h e = switch_found x default cases n q ks e
key_found args arrays x default cases n q (Count ∷ ks) vs h e = switch_found x default cases n q ks e
key_found args arrays x default cases n q ((Sized y) ∷ ks) vs h e = switch_found x default cases n q ks e
key_found args arrays x default cases n q (Arguments ∷ ks) vs h e = switch_found x default cases n q ks e
key_found args arrays x default cases n q (Number y ∷ ks) vs h e = let same : n ≡ y = cc h.0 in (0, ap (λ z. slice_get (to_target x z ks) 0) (ap (chosen default cases) (sym same) ∙ e))

answer_found : (x : Node) (next q : ℕ) (ks : List Known) (b : Bool) (o : Option Bool) → ((d : Bool) → o ≡ Some d → d ≡ b) → b ≡ true → (i : ℕ) × (slice_get (by_answer x next (pos q) ks o) i ≡ Some (at x q ks))
answer_found x next q ks b None h e = (1, refl)
answer_found x next q ks b (Some true) h e = (0, refl)
answer_found x next q ks b (Some false) h e = let bad : false ≡ true = h false refl ∙ e in cc

fall_found : (x : Node) (next : ℕ) (target : ℤ) (ks : List Known) (b : Bool) (o : Option Bool) → ((d : Bool) → o ≡ Some d → d ≡ b) → b ≡ false → (i : ℕ) × (slice_get (by_answer x next target ks o) i ≡ Some (at x next ks))
fall_found x next target ks b None h e = (0, refl)
fall_found x next target ks b (Some false) h e = (0, refl)
fall_found x next target ks b (Some true) h e = let bad : true ≡ false = h true refl ∙ e in cc

module _ (c : Class) (f : Following) (s : State) (a : Activation) (below : List Activation) (p : Placed) (x : Node) (few : length s.call.args ≤ 8) (here : IsAt s.arrays (length s.call.args) x a) where
  abbrev args : ℕ
  args = length s.call.args

  abbrev beyond : Activation
  beyond = with_place a p.next

  -- A step within the activation goes along an edge of the node.
  pub record Moved (i : Instruction) (words : ℕ) (u : State) : Type 0 where
    pub to : Node
    pub number : ℕ
    pub is : slice_get (edges c.view f x p.next i) number ≡ Some to
    pub top : Activation
    pub activations : u.activations ≡ top ∷ below
    pub method : top.method ≡ a.method
    pub now_at : IsAt u.arrays args to top
    pub steps : u.steps ≡ suc s.steps
    pub words_are : u.words ≡ s.words + words
    pub call : u.call ≡ s.call
    pub lengths : KeepsLengths s.arrays u.arrays

  abbrev pub Fine : Instruction → ℕ → Option Next → Type 0
  Fine i words None = Unit {0}
  Fine i words (Some (Ends z)) = Unit {0}
  Fine i words (Some (Goes u)) = Moved i words u

  fine_if : (i : Instruction) (words : ℕ) (b : Bool) (o : Option Next) → (b ≡ true → Fine i words o) → Fine i words (only_if b o)
  fine_if i words true o h = h refl
  fine_if i words false o h = tt

  go_fine : (i : Instruction) (words : ℕ) (s' : State) (a' : Activation) (to : Node) (number : ℕ) → slice_get (edges c.view f x p.next i) number ≡ Some to → s'.call ≡ s.call → s'.steps ≡ s.steps → s'.words ≡ s.words + words → KeepsLengths s.arrays s'.arrays → a'.method ≡ a.method → IsAt s'.arrays args to a' → Fine i words (goes_on c s' a' below)
  go_fine i words s' a' to number is call steps total l method h = go (slice_get c.methods a'.method)
    where
      u : State
      u = record s' { activations = a' ∷ below; steps = suc s'.steps }

      go : (o : Option Method) → Fine i words (o >>= λ m. only_if (nat_le (slots_by is_long_value a'.operands) m.environment.max_stack && is_some (instruction_at m a'.place)) (Some (Goes u)))
      go None = tt
      go (Some m) = fine_if i words _ (Some (Goes u)) (λ e. record { to = to; number = number; is = is; top = a'; activations = refl; method = method; now_at = h; steps = ap suc steps; words_are = total; call = call; lengths = l })

  -- The same with the operands alone changed, in arrays of the same lengths.
  put_fine : (i : Instruction) (s' : State) (ks : List Known) (vs : List Value) → edges c.view f x p.next i ≡ at x p.next ks ∷ [] → s'.call ≡ s.call → s'.steps ≡ s.steps → s'.words ≡ s.words → KeepsLengths s.arrays s'.arrays → AllAgree s'.arrays args ks vs → Fine i 0 (next_with c s' beyond below vs)
  put_fine i s' ks vs e call steps total l h =
      go_fine i 0 s' (with_operands beyond vs) (at x p.next ks) 0 (ap (λ y. slice_get y 0) e) call steps (omega (arith, total)) l refl (record { place = refl; locals = locals_later args s.arrays s'.arrays l x.locals a.locals here.locals; operands = h })

  same_fine : (i : Instruction) (ks : List Known) (vs : List Value) → edges c.view f x p.next i ≡ at x p.next ks ∷ [] → AllAgree s.arrays args ks vs → Fine i 0 (next_with c s beyond below vs)
  same_fine i ks vs e h = put_fine i s ks vs e refl refl refl (same_lengths s.arrays) h

  jump_fine : (i : Instruction) (target : ℤ) (ks : List Known) (vs : List Value) → ((q : ℕ) → target ≡ pos q → (n : ℕ) × (slice_get (edges c.view f x p.next i) n ≡ Some (at x q ks))) → AllAgree s.arrays args ks vs → Fine i 0 (jump_with c s beyond below target vs)
  jump_fine i (negsuc n) ks vs e h = tt
  jump_fine i (pos q) ks vs e h = let n = e q refl in go_fine i 0 s (with_operands (with_place beyond q) vs) (at x q ks) n.0 n.1 refl refl (omega arith) (same_lengths s.arrays) refl (record { place = refl; locals = here.locals; operands = h })

  -- ---- each instruction

  load_fine : (k : Kind) (n : ℕ) → Fine (instruction.Load k n) 0 (load c s beyond below k n (slice_get a.locals n))
  load_fine k n = go (slice_get a.locals n) refl
    where
      go : (o : Option (Option Value)) → slice_get a.locals n ≡ o → Fine (instruction.Load k n) 0 (load c s beyond below k n o)
      go None e = tt
      go (Some None) e = tt
      go (Some (Some v)) e = fine_if (instruction.Load k n) 0 (has_local s beyond k n v) (next_with c s beyond below (v ∷ a.operands)) (λ t. same_fine (instruction.Load k n) (loaded k (known_local x.locals n) ∷ x.operands) (v ∷ a.operands) refl (load_agrees args s.arrays k (known_local x.locals n) v (and_parts (fits s.arrays v (type_of_kind k)) _ t).0 (here.locals n v e), here.operands))

  store_fine : (k : Kind) (n : ℕ) → Fine (instruction.Store k n) 0 (store c s beyond below k n a.operands)
  store_fine k n = go a.operands here.operands
    where
      go : (vs : List Value) → AllAgree s.arrays args x.operands vs → Fine (instruction.Store k n) 0 (store c s beyond below k n vs)
      go [] h = tt
      go (v ∷ vs) h = fine_if (instruction.Store k n) 0 (has_local s beyond k n v) _ (λ t. go_fine (instruction.Store k n) 0 s (record { method = a.method; place = p.next; locals = store_value a.locals n v; operands = vs }) (record { place = p.next; locals = stored k n (kept (f.ints n) (get_or x.operands 0 Narrow)) x.locals; operands = drop 1 x.operands }) 0 refl refl refl (omega arith) (same_lengths s.arrays) refl (record { place = refl; locals = locals_stored args s.arrays x.locals a.locals k n (f.ints n) (get_or x.operands 0 Narrow) v here.locals (top_agrees args s.arrays x.operands v vs h); operands = all_drop args s.arrays 1 x.operands (v ∷ vs) h }))

  increment_fine : (n : ℕ) (by : ℤ) → Fine (instruction.Increment n by) 0 (increment c s beyond below n by (slice_get a.locals n))
  increment_fine n by = go (slice_get a.locals n) refl
    where
      go : (o : Option (Option Value)) → slice_get a.locals n ≡ o → Fine (instruction.Increment n by) 0 (increment c s beyond below n by o)
      go None e = tt
      go (Some None) e = tt
      go (Some (Some (Long v))) e = tt
      go (Some (Some (Ref v))) e = tt
      go (Some (Some (Int v))) e = go_fine (instruction.Increment n by) 0 s (record { method = a.method; place = p.next; locals = slice_set a.locals n (Some (Int (int_wrapping_add w32 v by))); operands = a.operands }) (record { place = p.next; locals = slice_set x.locals n (incremented by (known_local x.locals n)); operands = x.operands }) 0 refl refl refl (omega arith) (same_lengths s.arrays) refl (record { place = refl; locals = locals_set args s.arrays x.locals a.locals n (incremented by (known_local x.locals n)) (Int (int_wrapping_add w32 v by)) here.locals (incremented_agrees args s.arrays (known_local x.locals n) v by (here.locals n (Int v) e)); operands = here.operands })

  operate_fine : (o : Operation) → Fine (instruction.Operate o) 0 (after_answer c s beyond below (operate o a.operands))
  operate_fine o = go (operate o a.operands) refl
    where
      go : (r : Answer) → operate o a.operands ≡ r → Fine (instruction.Operate o) 0 (after_answer c s beyond below r)
      go Lacks e = tt
      go (Throws z) e = tt
      go (Leaves us) e = same_fine (instruction.Operate o) (operated o x.operands) us refl (operated_agree args s.arrays o x.operands a.operands us here.operands e)

  rearrange_fine : (r : Rearrangement) → Fine (instruction.Rearrange r) 0 (option_and_then (next_with c s beyond below) (rearranged is_long_value r a.operands))
  rearrange_fine r = go (rearranged is_long_value r a.operands) refl
    where
      go : (o : Option (List Value)) → rearranged is_long_value r a.operands ≡ o → Fine (instruction.Rearrange r) 0 (option_and_then (next_with c s beyond below) o)
      go None e = tt
      go (Some us) e = let q = rearranged_found args s.arrays r x.operands a.operands us here.operands e in same_fine (instruction.Rearrange r) q.items us (ap (if_matching x p.next) q.is) q.agree

  branch_fine : (t : Test) (target : ℤ) → Fine (instruction.Branch t target) 0 (after_test c s beyond below target (tested t a.operands))
  branch_fine t target = go (tested t a.operands) refl
    where
      go : (o : Option (Bool × List Value)) → tested t a.operands ≡ o → Fine (instruction.Branch t target) 0 (after_test c s beyond below target o)
      go None e = tt
      go (Some (true, rest)) e =
          let q = test_agrees args few s.arrays t x.operands a.operands rest true here.operands e in
          jump_fine (instruction.Branch t target) target (tested_rest t x.operands) rest (λ place is. subst (λ z. (n : ℕ) × (slice_get (by_answer x p.next z (tested_rest t x.operands) (decided t x.operands)) n ≡ Some (at x place (tested_rest t x.operands)))) (sym is) (answer_found x p.next place (tested_rest t x.operands) true (decided t x.operands) q.answer refl)) q.agree
      go (Some (false, rest)) e =
          let q = test_agrees args few s.arrays t x.operands a.operands rest false here.operands e in
          let n = fall_found x p.next target (tested_rest t x.operands) false (decided t x.operands) q.answer refl in
          go_fine (instruction.Branch t target) 0 s (with_operands beyond rest) (at x p.next (tested_rest t x.operands)) n.0 n.1 refl refl (omega arith) (same_lengths s.arrays) refl (record { place = refl; locals = here.locals; operands = q.agree })

  goto_fine : (target : ℤ) → Fine (instruction.Goto target) 0 (jump_with c s beyond below target a.operands)
  goto_fine target = jump_fine (instruction.Goto target) target x.operands a.operands (λ q is. (0, ap (λ z. slice_get (to_target x z x.operands) 0) is)) here.operands

  switch_fine : (default : ℤ) (cases : Cases) → Fine (instruction.Switch default cases) 0 (switch c s beyond below default cases a.operands)
  switch_fine default cases = go a.operands here.operands
    where
      go : (vs : List Value) → AllAgree s.arrays args x.operands vs → Fine (instruction.Switch default cases) 0 (switch c s beyond below default cases vs)
      go [] h = tt
      go (Long n ∷ vs) h = tt
      go (Ref n ∷ vs) h = tt
      go (Int n ∷ vs) h = jump_fine (instruction.Switch default cases) (chosen default cases n) (drop 1 x.operands) vs (λ q is. key_found args s.arrays x default cases n q x.operands vs h is) (all_drop args s.arrays 1 x.operands (Int n ∷ vs) h)

  make_array_fine : (k : ArrayKind) (words : ℕ) → ((n : ℕ) (vs : List Value) → a.operands ≡ Int (pos n) ∷ vs → words_of n ≡ words) → Fine (instruction.NewArray k) words (make_array c s beyond below k a.operands)
  make_array_fine k words counted = go a.operands refl here.operands
    where
      go : (vs : List Value) → a.operands ≡ vs → AllAgree s.arrays args x.operands vs → Fine (instruction.NewArray k) words (make_array c s beyond below k vs)
      go [] e h = tt
      go (Long n ∷ vs) e h = tt
      go (Ref n ∷ vs) e h = tt
      go (Int (negsuc n) ∷ vs) e h = tt
      go (Int (pos n) ∷ vs) e h =
          let l = one_more_array s.arrays (new_array k n) in
          let total = counted n vs e in
          go_fine (instruction.NewArray k) words (record s { arrays = s.arrays ++ new_array k n ∷ []; words = s.words + words_of n }) (with_operands beyond (Ref (reference.Array (length s.arrays)) ∷ vs)) (at x p.next (with_array x.operands)) 0 refl refl refl (omega (arith, total)) l refl (record { place = refl; locals = locals_later args s.arrays (s.arrays ++ new_array k n ∷ []) l x.locals a.locals here.locals; operands = array_agrees args s.arrays k n x.operands vs h l })

  load_item_fine : (k : ArrayKind) → Fine (instruction.ArrayLoad k) 0 (load_item c s beyond below k a.operands)
  load_item_fine k = go a.operands here.operands
    where
      item : (i v : Value) (vs : List Value) → AllAgree s.arrays args x.operands (i ∷ v ∷ vs) → (o : Option ℤ) → Fine (instruction.ArrayLoad k) 0 (push_item c s beyond below vs (option_map (element_value k) o))
      item i v vs h None = tt
      item i v vs h (Some n) = same_fine (instruction.ArrayLoad k) (unknown_of (element_type k) ∷ drop 2 x.operands) (element_value k n ∷ vs) refl (element_agrees args s.arrays k n, all_drop args s.arrays 2 x.operands (i ∷ v ∷ vs) h)

      from : (i : ℤ) (v : Value) (vs : List Value) → AllAgree s.arrays args x.operands (Int i ∷ v ∷ vs) → (o : Option Array) → Fine (instruction.ArrayLoad k) 0 (load_from c s beyond below k i vs o)
      from i v vs h None = tt
      from i v vs h (Some y) = fine_if (instruction.ArrayLoad k) 0 (same_kind k y.kind) _ (λ t. item (Int i) v vs h (item_at y.items i))

      go : (vs : List Value) → AllAgree s.arrays args x.operands vs → Fine (instruction.ArrayLoad k) 0 (load_item c s beyond below k vs)
      go [] h = tt
      go (Long n ∷ vs) h = tt
      go (Ref n ∷ vs) h = tt
      go (Int i ∷ []) h = tt
      go (Int i ∷ Int n ∷ vs) h = tt
      go (Int i ∷ Long n ∷ vs) h = tt
      go (Int i ∷ Ref reference.Null ∷ vs) h = tt
      go (Int i ∷ Ref (reference.Long z) ∷ vs) h = tt
      go (Int i ∷ Ref (reference.Integer z) ∷ vs) h = tt
      go (Int i ∷ Ref (reference.Boolean z) ∷ vs) h = tt
      go (Int i ∷ Ref (reference.Array id) ∷ vs) h = from i (Ref (reference.Array id)) vs h (slice_get s.arrays id)
      go (Int i ∷ Ref reference.Entry ∷ vs) h = tt
      go (Int i ∷ Ref reference.This ∷ vs) h = tt
      go (Int i ∷ Ref reference.Args ∷ vs) h = tt

  items_kept : (xs : List ℤ) (i n : ℤ) → length (with_item xs i n) ≡ length xs
  items_kept xs (pos i) n = length-set xs i n
  items_kept xs (negsuc i) n = refl

  store_item_fine : (k : ArrayKind) → Fine (instruction.ArrayStore k) 0 (store_item c s beyond below k a.operands)
  store_item_fine k = go a.operands here.operands
    where
      inside : (v r : Value) (i n : ℤ) (id : ℕ) (vs : List Value) → AllAgree s.arrays args x.operands (v ∷ Int i ∷ r ∷ vs) → (b : Bool) → Fine (instruction.ArrayStore k) 0 (if b then next_with c (record s { arrays = change (with_element i n) s.arrays id }) beyond below vs else throws s fault.ArrayIndexOutOfBounds)
      inside v r i n id vs h false = tt
      inside v r i n id vs h true =
          let l = change_array (with_element i n) (λ y. items_kept y.items i n) s.arrays id in
          put_fine (instruction.ArrayStore k) (record s { arrays = change (with_element i n) s.arrays id }) (drop 3 x.operands) vs refl refl refl refl l (all_later args s.arrays (change (with_element i n) s.arrays id) l (drop 3 x.operands) vs (all_drop args s.arrays 3 x.operands (v ∷ Int i ∷ r ∷ vs) h))

      to : (v r : Value) (i n : ℤ) (id : ℕ) (vs : List Value) → AllAgree s.arrays args x.operands (v ∷ Int i ∷ r ∷ vs) → (o : Option Array) → Fine (instruction.ArrayStore k) 0 (store_to c s beyond below k id i n vs o)
      to v r i n id vs h None = tt
      to v r i n id vs h (Some y) = fine_if (instruction.ArrayStore k) 0 (same_kind k y.kind) _ (λ t. inside v r i n id vs h (is_some (item_at y.items i)))

      number : (v : Value) (vs : List Value) → AllAgree s.arrays args x.operands (v ∷ vs) → (o : Option ℤ) → Fine (instruction.ArrayStore k) 0 (store_number c s beyond below k o vs)
      number v vs h None = tt
      number v [] h (Some n) = tt
      number v (Long i ∷ vs) h (Some n) = tt
      number v (Ref i ∷ vs) h (Some n) = tt
      number v (Int i ∷ []) h (Some n) = tt
      number v (Int i ∷ Int m ∷ vs) h (Some n) = tt
      number v (Int i ∷ Long m ∷ vs) h (Some n) = tt
      number v (Int i ∷ Ref reference.Null ∷ vs) h (Some n) = tt
      number v (Int i ∷ Ref (reference.Long z) ∷ vs) h (Some n) = tt
      number v (Int i ∷ Ref (reference.Integer z) ∷ vs) h (Some n) = tt
      number v (Int i ∷ Ref (reference.Boolean z) ∷ vs) h (Some n) = tt
      number v (Int i ∷ Ref (reference.Array id) ∷ vs) h (Some n) = to v (Ref (reference.Array id)) i n id vs h (slice_get s.arrays id)
      number v (Int i ∷ Ref reference.Entry ∷ vs) h (Some n) = tt
      number v (Int i ∷ Ref reference.This ∷ vs) h (Some n) = tt
      number v (Int i ∷ Ref reference.Args ∷ vs) h (Some n) = tt

      go : (vs : List Value) → AllAgree s.arrays args x.operands vs → Fine (instruction.ArrayStore k) 0 (store_item c s beyond below k vs)
      go [] h = tt
      go (v ∷ vs) h = number v vs h (number_of k v)

  load_reference_fine : Fine instruction.ReferenceLoad 0 (load_reference c s beyond below a.operands)
  load_reference_fine = go a.operands here.operands
    where
      item : (i v : Value) (vs : List Value) → AllAgree s.arrays args x.operands (i ∷ v ∷ vs) → (o : Option Arg) → Fine instruction.ReferenceLoad 0 (push_item c s beyond below vs (option_map value_of_arg o))
      item i v vs h None = tt
      item i v vs h (Some y) = same_fine instruction.ReferenceLoad (Narrow ∷ drop 2 x.operands) (value_of_arg y ∷ vs) refl (arg_agrees args s.arrays y, all_drop args s.arrays 2 x.operands (i ∷ v ∷ vs) h)

      go : (vs : List Value) → AllAgree s.arrays args x.operands vs → Fine instruction.ReferenceLoad 0 (load_reference c s beyond below vs)
      go [] h = tt
      go (Long n ∷ vs) h = tt
      go (Ref n ∷ vs) h = tt
      go (Int i ∷ []) h = tt
      go (Int i ∷ Int n ∷ vs) h = tt
      go (Int i ∷ Long n ∷ vs) h = tt
      go (Int i ∷ Ref reference.Null ∷ vs) h = tt
      go (Int i ∷ Ref (reference.Long z) ∷ vs) h = tt
      go (Int i ∷ Ref (reference.Integer z) ∷ vs) h = tt
      go (Int i ∷ Ref (reference.Boolean z) ∷ vs) h = tt
      go (Int i ∷ Ref (reference.Array id) ∷ vs) h = tt
      go (Int i ∷ Ref reference.Entry ∷ vs) h = tt
      go (Int i ∷ Ref reference.This ∷ vs) h = tt
      go (Int i ∷ Ref reference.Args ∷ vs) h = item (Int i) (Ref reference.Args) vs h (item_at s.call.args i)

  measure_fine : Fine instruction.ArrayLength 0 (measure c s beyond below a.operands)
  measure_fine = go a.operands here.operands
    where
      of : (id : ℕ) (vs : List Value) → AllAgree s.arrays args x.operands (Ref (reference.Array id) ∷ vs) → (o : Option Array) → slice_get s.arrays id ≡ o → Fine instruction.ArrayLength 0 (push_length c s beyond below vs o)
      of id vs h None e = tt
      of id vs h (Some y) e = same_fine instruction.ArrayLength (on_top length_known x.operands) (Int (pos (length y.items)) ∷ vs) refl (array_measured args s.arrays x.operands id y vs e h)

      go : (vs : List Value) → AllAgree s.arrays args x.operands vs → Fine instruction.ArrayLength 0 (measure c s beyond below vs)
      go [] h = tt
      go (Int n ∷ vs) h = tt
      go (Long n ∷ vs) h = tt
      go (Ref reference.Null ∷ vs) h = tt
      go (Ref (reference.Long z) ∷ vs) h = tt
      go (Ref (reference.Integer z) ∷ vs) h = tt
      go (Ref (reference.Boolean z) ∷ vs) h = tt
      go (Ref (reference.Array id) ∷ vs) h = of id vs h (slice_get s.arrays id) refl
      go (Ref reference.Entry ∷ vs) h = tt
      go (Ref reference.This ∷ vs) h = tt
      go (Ref reference.Args ∷ vs) h = same_fine instruction.ArrayLength (on_top length_known x.operands) (Int (pos (length s.call.args)) ∷ vs) refl (args_measured args s.arrays x.operands vs h)

  cast_fine : (i : ℕ) → Fine (instruction.CheckCast i) 0 (cast c s beyond below (constant_type c.view i) a.operands)
  cast_fine i = go (constant_type c.view i) a.operands here.operands
    where
      may : (v : RefValue) (vs : List Value) → AllAgree s.arrays args x.operands (Ref v ∷ vs) → (b : Bool) → Fine (instruction.CheckCast i) 0 (if b then next_with c s beyond below (Ref v ∷ vs) else throws s fault.ClassCast)
      may v vs h true = same_fine (instruction.CheckCast i) x.operands (Ref v ∷ vs) refl h
      may v vs h false = tt

      go : (o : Option RefType) (vs : List Value) → AllAgree s.arrays args x.operands vs → Fine (instruction.CheckCast i) 0 (cast c s beyond below o vs)
      go None vs h = tt
      go (Some r) [] h = tt
      go (Some r) (Int n ∷ vs) h = tt
      go (Some r) (Long n ∷ vs) h = tt
      go (Some r) (Ref v ∷ vs) h = fine_if (instruction.CheckCast i) 0 _ _ (λ t. may v vs h (may_cast s.arrays v r))

  ask_fine : (i : ℕ) → Fine (instruction.InstanceOf i) 0 (ask c s beyond below (constant_type c.view i) a.operands)
  ask_fine i = go (constant_type c.view i) a.operands here.operands
    where
      go : (o : Option RefType) (vs : List Value) → AllAgree s.arrays args x.operands vs → Fine (instruction.InstanceOf i) 0 (ask c s beyond below o vs)
      go None vs h = tt
      go (Some r) [] h = tt
      go (Some r) (Int n ∷ vs) h = tt
      go (Some r) (Long n ∷ vs) h = tt
      go (Some r) (Ref v ∷ vs) h = fine_if (instruction.InstanceOf i) 0 _ _ (λ t. same_fine (instruction.InstanceOf i) (on_top (λ k. Narrow) x.operands) (flag (passes s.arrays v r) ∷ vs) refl (narrow_top args s.arrays x.operands (Ref v) (flag (passes s.arrays v r)) vs (flag_agrees args s.arrays (passes s.arrays v r)) h))

  -- A library call.
  library_fine : (plain : HasPlainCalls c) (kind : Invoke) (i : ℕ) → call_of c.view (instruction.Invoke kind i) ≡ None → Fine (instruction.Invoke kind i) 0 (invoke c s beyond below kind (callee_at c.view kind i))
  library_fine plain kind i outside = go (callee_at c.view kind i) refl
    where
      go : (o : Option Callee) → callee_at c.view kind i ≡ o → Fine (instruction.Invoke kind i) 0 (invoke c s beyond below kind o)
      go None e = tt
      go (Some callee) e = pick (nat_le (length callee.params) (length a.operands))
        where
          given : (v : Option Value) (now : EntryNow) → all_fit s.arrays (result_list v) (result_list callee.result) ≡ true → Fine (instruction.Invoke kind i) 0 (next_with c (record s { now = now }) beyond below (result_list v ++ drop (length callee.params) a.operands))
          given v now t =
              put_fine (instruction.Invoke kind i) (record s { now = now }) (map unknown_of (result_list callee.result) ++ drop (length callee.params) x.operands) (result_list v ++ drop (length callee.params) a.operands) (ap (λ o. at x p.next (called o x.operands) ∷ []) e) refl refl refl (same_lengths s.arrays) (all_append args s.arrays (map unknown_of (result_list callee.result)) (drop (length callee.params) x.operands) (result_list v) (drop (length callee.params) a.operands) (results_agree args s.arrays callee.result v (plain.plain kind i callee e) t) (all_drop args s.arrays (length callee.params) x.operands a.operands here.operands))

          reply : (n : Native) (r : Reply) → Fine (instruction.Invoke kind i) 0 (after_reply c s beyond below n callee.result (drop (length callee.params) a.operands) r)
          reply n Misses = tt
          reply n (Faults z) = tt
          reply n (Gives v now) = fine_if (instruction.Invoke kind i) 0 (all_fit s.arrays (result_list v) (result_list callee.result)) _ (λ t. given v (left_by n s.now now) t)

          reached : (r : Reached) → callee.reached ≡ r → Fine (instruction.Invoke kind i) 0 (reach c s beyond below kind callee r (take (length callee.params) a.operands) (drop (length callee.params) a.operands))
          reached (Library n) g = reply n (library n s.call.key s.now.entry (reverse (take (length callee.params) a.operands)))
          reached (Own k) g = let bad : Some k ≡ None = sym (ap own_of e ∙ ap own_number g) ∙ outside in cc

          pick : (b : Bool) → Fine (instruction.Invoke kind i) 0 (option_and_then (λ (parts : List Value × List Value). only_if (all_fit s.arrays parts.0 (reverse callee.params)) (reach c s beyond below kind callee callee.reached parts.0 parts.1)) (only_if b (Some (take (length callee.params) a.operands, drop (length callee.params) a.operands))))
          pick false = tt
          pick true = fine_if (instruction.Invoke kind i) 0 (all_fit s.arrays (take (length callee.params) a.operands) (reverse callee.params)) _ (λ t. reached callee.reached refl)

  -- Each step but an own call and a return.
  pub act_fine : (plain : HasPlainCalls c) (e : Environment) (m : Method) (i : Instruction) → is_return i ≡ false → call_of c.view i ≡ None → ((k : ArrayKind) (n : ℕ) (vs : List Value) → i ≡ instruction.NewArray k → a.operands ≡ Int (pos n) ∷ vs → words_of n ≡ words_at m a.place (instruction.NewArray k)) → Fine i (words_at m a.place i) (act c s e beyond below i)
  act_fine plain e m instruction.Nop r outside counted = same_fine instruction.Nop x.operands a.operands refl here.operands
  act_fine plain e m (instruction.Push q) r outside counted = same_fine (instruction.Push q) (known_pushed q ∷ x.operands) (value_of_pushed q ∷ a.operands) refl (pushed_agrees args s.arrays q, here.operands)
  act_fine plain e m (instruction.Load k n) r outside counted = load_fine k n
  act_fine plain e m (instruction.Store k n) r outside counted = store_fine k n
  act_fine plain e m (instruction.Increment n by) r outside counted = increment_fine n by
  act_fine plain e m (instruction.Operate o) r outside counted = operate_fine o
  act_fine plain e m (instruction.Rearrange q) r outside counted = rearrange_fine q
  act_fine plain e m (instruction.Branch t target) r outside counted = branch_fine t target
  act_fine plain e m (instruction.Goto target) r outside counted = goto_fine target
  act_fine plain e m (instruction.Switch default cases) r outside counted = switch_fine default cases
  act_fine plain e m (instruction.Return k) r outside counted = cc
  act_fine plain e m instruction.ReturnVoid r outside counted = cc
  act_fine plain e m (instruction.Throw t text) r outside counted = cc
  act_fine plain e m (instruction.Invoke k i) r outside counted = library_fine plain k i outside
  act_fine plain e m (instruction.NewArray k) r outside counted = make_array_fine k (words_at m a.place (instruction.NewArray k)) (λ n vs g. counted k n vs refl g)
  act_fine plain e m (instruction.ArrayLoad k) r outside counted = load_item_fine k
  act_fine plain e m (instruction.ArrayStore k) r outside counted = store_item_fine k
  act_fine plain e m instruction.ReferenceLoad r outside counted = load_reference_fine
  act_fine plain e m instruction.ArrayLength r outside counted = measure_fine
  act_fine plain e m (instruction.CheckCast i) r outside counted = cast_fine i
  act_fine plain e m (instruction.InstanceOf i) r outside counted = ask_fine i
