-- An instruction keeps the call and the recorded answer of the loader.
use Rattle.std.specs.Prelude.{◌≡◌, ℕ, suc, ◌+◌, ℤ, pos, negsuc, nat_le, ◌&&◌, Bool, true, false, List, [], ◌∷◌, ◌++◌, length, reverse, Option, Some, None, option_and_then, option_map, slice_get, slice_set, is_some, if◌then◌else◌, refl}
use Rattle.jtypes.specs.declared.types.RefType.{RefType}
use Rattle.jtypes.specs.declared.types.RefValue.TheVariants as reference
use Rattle.jtypes.specs.declared.types.Value.{Value}
use Rattle.jtypes.specs.declared.types.Value.TheVariants.{Int, Long, Ref}
use Rattle.jtypes.specs.declared.types.JType.{JType}
use Rattle.jtypes.specs.declared.types.Arg.{Arg}
use Rattle.jtypes.specs.declared.operations.Kind.{Kind}
use Rattle.jtypes.specs.declared.operations.ArrayKind.{ArrayKind}
use Rattle.jtypes.specs.declared.operations.Invoke.{Invoke}
use Rattle.jtypes.specs.declared.operations.Native.{Native}
use Rattle.jtypes.specs.Lists.{only_if, change, result_list}
use Rattle.jtypes.specs.Loading.{left_by}
use Rattle.jtypes.specs.declared.types.JavaFault.TheVariants.{ArrayIndexOutOfBounds, NullPointer, ClassCast}
use Rattle.jtypes.specs.declared.operations.Kind.TheVariants as kind
use Rattle.transfer.specs.Forms.{rearranged}
use Rattle.std.specs.Int.{w32, int_wrapping_add}
use Rattle.frames.specs.Members.{callee_at}
use Rattle.frames.specs.Signatures.{constant_type}
use Rattle.jtypes.specs.Types.{slots_by, type_of_kind}
use Rattle.jtypes.specs.Values.{Array, new_array, words_of, fits, all_fit, passes, is_long_value, value_of_arg, arg_of_value, item_at}
use Rattle.jtypes.specs.Arithmetic.{Answer, Leaves, Throws, Lacks, operate, tested}
use Rattle.jtypes.specs.Library.{Reply, Gives, Faults, Misses, library, flag}
use Rattle.decode.specs.declared.instruction.Instruction.{Instruction}
use Rattle.decode.specs.declared.instruction.Instruction.TheVariants as instruction
use Rattle.decode.specs.declared.instruction.Cases.{Cases}
use Rattle.decode.specs.declared.instruction.Placed.{Placed}
use Rattle.decode.specs.Places.{chosen}
use Rattle.frames.specs.declared.frame.Environment.{Environment}
use Rattle.frames.specs.declared.signatures.Signature.{Signature}
use Rattle.frames.specs.declared.members.Callee.{Callee}
use Rattle.frames.specs.declared.members.Reached.{Reached}
use Rattle.frames.specs.declared.members.Reached.TheVariants.{Own, Library}
use Rattle.typecheck.specs.Typing.{Method, Class, instruction_at}
use Rattle.verdict.specs.Machine.{Activation, State, Next, Goes, Ends, throws, goes_on, next_with, with_operands, with_place, jump_with, has_local, load, store, store_value, increment, value_of_pushed, after_answer, after_test, switch, make_array, same_kind, element_value, number_of, with_element, push_item, load_from, load_item, store_to, store_number, store_item, load_reference, push_length, measure, may_cast, cast, ask, split, activation_of, is_on_null, enter, after_reply, reach, invoke, end_with, narrowed, return_to, return_value, return_void, act, act_at, step, step_top}

abbrev pub Keeps : State → Option Next → Type 0
Keeps s None = Unit {0}
Keeps s (Some (Goes u)) = (u.call ≡ s.call) × (u.now.asked ≡ s.now.asked)
Keeps s (Some (Ends f)) = f.asked ≡ s.now.asked

bound : {A : Type 0} (s : State) (go : A → Option Next) (o : Option A) → ((x : A) → Keeps s (go x)) → Keeps s (option_and_then go o)
bound s go None h = tt
bound s go (Some x) h = h x

only : (s : State) (b : Bool) (o : Option Next) → Keeps s o → Keeps s (only_if b o)
only s true o h = h
only s false o h = tt

either : (s : State) (b : Bool) (x y : Option Next) → Keeps s x → Keeps s y → Keeps s (if b then x else y)
either s true x y h k = h
either s false x y h k = k

module _ (c : Class) (s : State) where
  -- A step from a state with the call and the answer keeps them.
  goes : (t : State) (a : Activation) (below : List Activation) → t.call ≡ s.call → t.now.asked ≡ s.now.asked → Keeps s (goes_on c t a below)
  goes t a below e f =
      let to : Next = Goes (record t { activations = a ∷ below; steps = suc t.steps }) in
      let kept : Keeps s (Some to) = (e, f) in
      let fits : Method → Bool = λ m. nat_le (slots_by is_long_value a.operands) m.environment.max_stack && is_some (instruction_at m a.place) in
      bound s (λ m. only_if (fits m) (Some to)) (slice_get c.methods a.method) (λ m. only s (fits m) (Some to) kept)

  -- The same with other operands.
  next : (t : State) (a : Activation) (below : List Activation) (operands : List Value) → t.call ≡ s.call → t.now.asked ≡ s.now.asked → Keeps s (next_with c t a below operands)
  next t a below operands e f = goes t (with_operands a operands) below e f

  jumps : (a : Activation) (below : List Activation) (target : ℤ) (operands : List Value) → Keeps s (jump_with c s a below target operands)
  jumps a below (pos place) operands = goes s (with_operands (with_place a place) operands) below refl refl
  jumps a below (negsuc n) operands = tt

  loads : (a : Activation) (below : List Activation) (k : Kind) (n : ℕ) (o : Option (Option Value)) → Keeps s (load c s a below k n o)
  loads a below k n (Some (Some v)) = only s (has_local s a k n v) (next_with c s a below (v ∷ a.operands)) (next s a below (v ∷ a.operands) refl refl)
  loads a below k n (Some None) = tt
  loads a below k n None = tt

  stores : (a : Activation) (below : List Activation) (k : Kind) (n : ℕ) (vs : List Value) → Keeps s (store c s a below k n vs)
  stores a below k n [] = tt
  stores a below k n (v ∷ rest) =
      let b : Activation = record { method = a.method; place = a.place; locals = store_value a.locals n v; operands = rest } in
      only s (has_local s a k n v) (goes_on c s b below) (goes s b below refl refl)

  increments : (a : Activation) (below : List Activation) (n : ℕ) (by : ℤ) (o : Option (Option Value)) → Keeps s (increment c s a below n by o)
  increments a below n by (Some (Some (Int v))) =
      goes s (record { method = a.method; place = a.place; locals = slice_set a.locals n (Some (Int (int_wrapping_add w32 v by))); operands = a.operands }) below refl refl
  increments a below n by (Some (Some (Long v))) = tt
  increments a below n by (Some (Some (Ref v))) = tt
  increments a below n by (Some None) = tt
  increments a below n by None = tt

  answers : (a : Activation) (below : List Activation) (x : Answer) → Keeps s (after_answer c s a below x)
  answers a below (Leaves operands) = next s a below operands refl refl
  answers a below (Throws fault) = refl
  answers a below Lacks = tt

  tests : (a : Activation) (below : List Activation) (target : ℤ) (o : Option (Bool × List Value)) → Keeps s (after_test c s a below target o)
  tests a below target None = tt
  tests a below target (Some (true, rest)) = jumps a below target rest
  tests a below target (Some (false, rest)) = next s a below rest refl refl

  switches : (a : Activation) (below : List Activation) (default : ℤ) (cases : Cases) (vs : List Value) → Keeps s (switch c s a below default cases vs)
  switches a below default cases (Int n ∷ rest) = jumps a below (chosen default cases n) rest
  switches a below default cases (Long n ∷ rest) = tt
  switches a below default cases (Ref v ∷ rest) = tt
  switches a below default cases [] = tt

  makes : (a : Activation) (below : List Activation) (k : ArrayKind) (vs : List Value) → Keeps s (make_array c s a below k vs)
  makes a below k (Int (pos n) ∷ rest) =
      next (record s { arrays = s.arrays ++ new_array k n ∷ []; words = s.words + words_of n }) a below (Ref (reference.Array (length s.arrays)) ∷ rest) refl refl
  makes a below k (Int (negsuc n) ∷ rest) = tt
  makes a below k (Long n ∷ rest) = tt
  makes a below k (Ref v ∷ rest) = tt
  makes a below k [] = tt

  items : (a : Activation) (below : List Activation) (rest : List Value) (o : Option Value) → Keeps s (push_item c s a below rest o)
  items a below rest (Some v) = next s a below (v ∷ rest) refl refl
  items a below rest None = refl

  loads_from : (a : Activation) (below : List Activation) (k : ArrayKind) (i : ℤ) (rest : List Value) (o : Option Array) → Keeps s (load_from c s a below k i rest o)
  loads_from a below k i rest None = tt
  loads_from a below k i rest (Some x) =
      let item : Option Value = option_map (element_value k) (item_at x.items i) in
      only s (same_kind k x.kind) (push_item c s a below rest item) (items a below rest item)

  loads_items : (a : Activation) (below : List Activation) (k : ArrayKind) (vs : List Value) → Keeps s (load_item c s a below k vs)
  loads_items a below k (Int i ∷ Ref reference.Null ∷ rest) = refl
  loads_items a below k (Int i ∷ Ref (reference.Array id) ∷ rest) = loads_from a below k i rest (slice_get s.arrays id)
  loads_items a below k (Int i ∷ Ref (reference.Long n) ∷ rest) = tt
  loads_items a below k (Int i ∷ Ref (reference.Integer n) ∷ rest) = tt
  loads_items a below k (Int i ∷ Ref (reference.Boolean n) ∷ rest) = tt
  loads_items a below k (Int i ∷ Ref reference.Entry ∷ rest) = tt
  loads_items a below k (Int i ∷ Ref reference.This ∷ rest) = tt
  loads_items a below k (Int i ∷ Ref reference.Args ∷ rest) = tt
  loads_items a below k (Int i ∷ Int n ∷ rest) = tt
  loads_items a below k (Int i ∷ Long n ∷ rest) = tt
  loads_items a below k (Int i ∷ []) = tt
  loads_items a below k (Long n ∷ rest) = tt
  loads_items a below k (Ref v ∷ rest) = tt
  loads_items a below k [] = tt

  stores_to : (a : Activation) (below : List Activation) (k : ArrayKind) (id : ℕ) (i n : ℤ) (rest : List Value) (o : Option Array) → Keeps s (store_to c s a below k id i n rest o)
  stores_to a below k id i n rest None = tt
  stores_to a below k id i n rest (Some x) =
      let t : State = record s { arrays = change (with_element i n) s.arrays id } in
      let inside : Option Next = next_with c t a below rest in
      let outside : Option Next = throws s ArrayIndexOutOfBounds in
      let there : Bool = is_some (item_at x.items i) in
      only s (same_kind k x.kind) (if there then inside else outside) (either s there inside outside (next t a below rest refl refl) refl)

  stores_numbers : (a : Activation) (below : List Activation) (k : ArrayKind) (o : Option ℤ) (vs : List Value) → Keeps s (store_number c s a below k o vs)
  stores_numbers a below k None vs = tt
  stores_numbers a below k (Some n) (Int i ∷ Ref reference.Null ∷ rest) = refl
  stores_numbers a below k (Some n) (Int i ∷ Ref (reference.Array id) ∷ rest) = stores_to a below k id i n rest (slice_get s.arrays id)
  stores_numbers a below k (Some n) (Int i ∷ Ref (reference.Long x) ∷ rest) = tt
  stores_numbers a below k (Some n) (Int i ∷ Ref (reference.Integer x) ∷ rest) = tt
  stores_numbers a below k (Some n) (Int i ∷ Ref (reference.Boolean x) ∷ rest) = tt
  stores_numbers a below k (Some n) (Int i ∷ Ref reference.Entry ∷ rest) = tt
  stores_numbers a below k (Some n) (Int i ∷ Ref reference.This ∷ rest) = tt
  stores_numbers a below k (Some n) (Int i ∷ Ref reference.Args ∷ rest) = tt
  stores_numbers a below k (Some n) (Int i ∷ Int x ∷ rest) = tt
  stores_numbers a below k (Some n) (Int i ∷ Long x ∷ rest) = tt
  stores_numbers a below k (Some n) (Int i ∷ []) = tt
  stores_numbers a below k (Some n) (Long x ∷ rest) = tt
  stores_numbers a below k (Some n) (Ref v ∷ rest) = tt
  stores_numbers a below k (Some n) [] = tt

  stores_items : (a : Activation) (below : List Activation) (k : ArrayKind) (vs : List Value) → Keeps s (store_item c s a below k vs)
  stores_items a below k [] = tt
  stores_items a below k (v ∷ rest) = stores_numbers a below k (number_of k v) rest

  loads_references : (a : Activation) (below : List Activation) (vs : List Value) → Keeps s (load_reference c s a below vs)
  loads_references a below (Int i ∷ Ref reference.Null ∷ rest) = refl
  loads_references a below (Int i ∷ Ref reference.Args ∷ rest) = items a below rest (option_map value_of_arg (item_at s.call.args i))
  loads_references a below (Int i ∷ Ref (reference.Array id) ∷ rest) = tt
  loads_references a below (Int i ∷ Ref (reference.Long n) ∷ rest) = tt
  loads_references a below (Int i ∷ Ref (reference.Integer n) ∷ rest) = tt
  loads_references a below (Int i ∷ Ref (reference.Boolean n) ∷ rest) = tt
  loads_references a below (Int i ∷ Ref reference.Entry ∷ rest) = tt
  loads_references a below (Int i ∷ Ref reference.This ∷ rest) = tt
  loads_references a below (Int i ∷ Int n ∷ rest) = tt
  loads_references a below (Int i ∷ Long n ∷ rest) = tt
  loads_references a below (Int i ∷ []) = tt
  loads_references a below (Long n ∷ rest) = tt
  loads_references a below (Ref v ∷ rest) = tt
  loads_references a below [] = tt

  lengths : (a : Activation) (below : List Activation) (rest : List Value) (o : Option Array) → Keeps s (push_length c s a below rest o)
  lengths a below rest None = tt
  lengths a below rest (Some x) = next s a below (Int (pos (length x.items)) ∷ rest) refl refl

  measures : (a : Activation) (below : List Activation) (vs : List Value) → Keeps s (measure c s a below vs)
  measures a below (Ref reference.Null ∷ rest) = refl
  measures a below (Ref reference.Args ∷ rest) = next s a below (Int (pos (length s.call.args)) ∷ rest) refl refl
  measures a below (Ref (reference.Array id) ∷ rest) = lengths a below rest (slice_get s.arrays id)
  measures a below (Ref (reference.Long n) ∷ rest) = tt
  measures a below (Ref (reference.Integer n) ∷ rest) = tt
  measures a below (Ref (reference.Boolean n) ∷ rest) = tt
  measures a below (Ref reference.Entry ∷ rest) = tt
  measures a below (Ref reference.This ∷ rest) = tt
  measures a below (Int n ∷ rest) = tt
  measures a below (Long n ∷ rest) = tt
  measures a below [] = tt

  casts : (a : Activation) (below : List Activation) (o : Option RefType) (vs : List Value) → Keeps s (cast c s a below o vs)
  casts a below (Some r) (Ref v ∷ rest) =
      let passed : Option Next = next_with c s a below (Ref v ∷ rest) in
      let thrown : Option Next = throws s ClassCast in
      let may : Bool = may_cast s.arrays v r in
      only s (fits s.arrays (Ref v) (type_of_kind kind.Reference)) (if may then passed else thrown) (either s may passed thrown (next s a below (Ref v ∷ rest) refl refl) refl)
  casts a below (Some r) (Int n ∷ rest) = tt
  casts a below (Some r) (Long n ∷ rest) = tt
  casts a below (Some r) [] = tt
  casts a below None vs = tt

  asks_type : (a : Activation) (below : List Activation) (o : Option RefType) (vs : List Value) → Keeps s (ask c s a below o vs)
  asks_type a below (Some r) (Ref v ∷ rest) =
      let operands : List Value = flag (passes s.arrays v r) ∷ rest in
      only s (fits s.arrays (Ref v) (type_of_kind kind.Reference)) (next_with c s a below operands) (next s a below operands refl refl)
  asks_type a below (Some r) (Int n ∷ rest) = tt
  asks_type a below (Some r) (Long n ∷ rest) = tt
  asks_type a below (Some r) [] = tt
  asks_type a below None vs = tt

  enters : (a : Activation) (below : List Activation) (k : ℕ) (taken : List Value) (o : Option Method) → Keeps s (enter c s a below k taken o)
  enters a below k taken None = tt
  enters a below k taken (Some m) = goes s (activation_of k m taken) (a ∷ below) refl refl

  replies : (a : Activation) (below : List Activation) (n : Native) (result : Option JType) (rest : List Value) (r : Reply) → Keeps s (after_reply c s a below n result rest r)
  replies a below n result rest (Gives v now) =
      let t : State = record s { now = left_by n s.now now } in
      let operands : List Value = result_list v ++ rest in
      only s (all_fit s.arrays (result_list v) (result_list result)) (next_with c t a below operands) (next t a below operands refl refl)
  replies a below n result rest (Faults fault) = refl
  replies a below n result rest Misses = tt

  reaches : (a : Activation) (below : List Activation) (kind : Invoke) (callee : Callee) (to : Reached) (taken rest : List Value) → Keeps s (reach c s a below kind callee to taken rest)
  reaches a below kind callee (Library n) taken rest = replies a below n callee.result rest (library n s.call.key s.now.entry (reverse taken))
  reaches a below kind callee (Own k) taken rest =
      let thrown : Option Next = throws s NullPointer in
      let entered : Option Next = enter c s (with_operands a rest) below k taken (slice_get c.methods k) in
      either s (is_on_null kind (reverse taken)) thrown entered refl (enters (with_operands a rest) below k taken (slice_get c.methods k))

  invokes : (a : Activation) (below : List Activation) (kind : Invoke) (o : Option Callee) → Keeps s (invoke c s a below kind o)
  invokes a below kind None = tt
  invokes a below kind (Some callee) =
      let fit : List Value × List Value → Bool = λ parts. all_fit s.arrays parts.0 (reverse callee.params) in
      let to : List Value × List Value → Option Next = λ parts. reach c s a below kind callee callee.reached parts.0 parts.1 in
      bound s (λ parts. only_if (fit parts) (to parts)) (split (length callee.params) a.operands) (λ parts. only s (fit parts) (to parts) (reaches a below kind callee callee.reached parts.0 parts.1))

  end_kept : (o : Option Arg) → Keeps s (Some (end_with s o))
  end_kept (Some r) = refl
  end_kept None = refl

  returns_to : (result : List Value) (below : List Activation) → Keeps s (return_to c s result below)
  returns_to result (a ∷ below) = next s a below (result ++ a.operands) refl refl
  returns_to (v ∷ []) [] = end_kept (arg_of_value v)
  returns_to [] [] = tt
  returns_to (v ∷ w ∷ vs) [] = tt

  returns_value : (below : List Activation) (k : Kind) (e : Signature) (o : Option JType) (vs : List Value) → Keeps s (return_value c s below k e o vs)
  returns_value below k e (Some t) (v ∷ rest) =
      let result : List Value = narrowed e.is_boolean v ∷ [] in
      only s (fits s.arrays v (type_of_kind k) && fits s.arrays v t) (return_to c s result below) (returns_to result below)
  returns_value below k e (Some t) [] = tt
  returns_value below k e None vs = tt

  returns_void : (below : List Activation) (o : Option JType) → Keeps s (return_void c s below o)
  returns_void below None = returns_to ([]) below
  returns_void below (Some t) = tt

  acts : (e : Environment) (a : Activation) (below : List Activation) (i : Instruction) → Keeps s (act c s e a below i)
  acts e a below instruction.Nop = next s a below a.operands refl refl
  acts e a below (instruction.Push p) = next s a below (value_of_pushed p ∷ a.operands) refl refl
  acts e a below (instruction.Load k n) = loads a below k n (slice_get a.locals n)
  acts e a below (instruction.Store k n) = stores a below k n a.operands
  acts e a below (instruction.Increment n by) = increments a below n by (slice_get a.locals n)
  acts e a below (instruction.Operate o) = answers a below (operate o a.operands)
  acts e a below (instruction.Rearrange r) = bound s (next_with c s a below) (rearranged is_long_value r a.operands) (λ vs. next s a below vs refl refl)
  acts e a below (instruction.Branch test target) = tests a below target (tested test a.operands)
  acts e a below (instruction.Goto target) = jumps a below target a.operands
  acts e a below (instruction.Switch default cases) = switches a below default cases a.operands
  acts e a below (instruction.Return k) = returns_value below k e.signature e.signature.result a.operands
  acts e a below instruction.ReturnVoid = returns_void below e.signature.result
  acts e a below (instruction.Throw x text) = refl
  acts e a below (instruction.Invoke kind i) = invokes a below kind (callee_at c.view kind i)
  acts e a below (instruction.NewArray k) = makes a below k a.operands
  acts e a below (instruction.ArrayLoad k) = loads_items a below k a.operands
  acts e a below (instruction.ArrayStore k) = stores_items a below k a.operands
  acts e a below instruction.ReferenceLoad = loads_references a below a.operands
  acts e a below instruction.ArrayLength = measures a below a.operands
  acts e a below (instruction.CheckCast i) = casts a below (constant_type c.view i) a.operands
  acts e a below (instruction.InstanceOf i) = asks_type a below (constant_type c.view i) a.operands

  acts_at : (m : Method) (a : Activation) (below : List Activation) (o : Option Placed) → Keeps s (act_at c s m a below o)
  acts_at m a below None = tt
  acts_at m a below (Some p) = acts m.environment (with_place a p.next) below p.instruction

  steps_top : (activations : List Activation) → Keeps s (step_top c s activations)
  steps_top [] = tt
  steps_top (a ∷ below) =
      bound s (λ m. act_at c s m a below (instruction_at m a.place)) (slice_get c.methods a.method) (λ m. acts_at m a below (instruction_at m a.place))

  pub step_keeps : Keeps s (step c s)
  step_keeps = steps_top s.activations
