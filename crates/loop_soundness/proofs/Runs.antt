-- Runs of a class with a cover stay within bounds that no path exceeds.
use Rattle.std.proofs.Common.{◌≡◌, ℕ, zero, suc, ◌<◌, ◌≤◌, Bool, true, false, ◌&&◌, List, [], ◌∷◌, ◌++◌, length, take, drop, reverse, Option, Some, None, refl, sym, ap, ◌∙◌, subst, arith}
use Rattle.std.specs.Prelude.{slice_get, map, pos, nat_le, option_and_then, option_map, is_some, if◌then◌else◌}
use Rattle.std.proofs.lemmas.Bool.{and_parts}
use Rattle.jtypes.specs.declared.types.RefValue.TheVariants as reference
use Rattle.jtypes.specs.declared.types.JType.{JType}
use Rattle.jtypes.specs.declared.types.JType.TheVariants as type
use Rattle.jtypes.specs.declared.types.Value.{Value}
use Rattle.jtypes.specs.declared.types.Value.TheVariants.{Int, Long, Ref}
use Rattle.jtypes.specs.declared.types.JavaFault.TheVariants as fault
use Rattle.jtypes.specs.declared.operations.Kind.{Kind}
use Rattle.jtypes.specs.declared.operations.ArrayKind.{ArrayKind}
use Rattle.jtypes.specs.declared.operations.Invoke.{Invoke}
use Rattle.jtypes.specs.declared.loader.LoadAnswer.{LoadAnswer}
use Rattle.jtypes.specs.declared.loader.LoadAnswer.TheVariants as load
use Rattle.jtypes.specs.Lists.{only_if, result_list, ◌>>=◌}
use Rattle.jtypes.specs.Types.{slots_by, type_of_kind}
use Rattle.jtypes.specs.Values.{Arrays, is_long_value, words_of, fits, all_fit, arg_of_value}
use Rattle.decode.specs.declared.instruction.Instruction.{Instruction}
use Rattle.decode.specs.declared.instruction.Instruction.TheVariants as instruction
use Rattle.decode.specs.declared.instruction.Placed.{Placed}
use Rattle.decode.specs.Places.{is_return}
use Rattle.frames.specs.declared.members.Callee.{Callee}
use Rattle.frames.specs.declared.members.Reached.{Reached}
use Rattle.frames.specs.declared.members.Reached.TheVariants.{Library, Own}
use Rattle.frames.specs.Members.{callee_at}
use Rattle.typecheck.specs.Typing.{Method, Class, instruction_at, call_of, own_of, own_number}
use Rattle.bounds.specs.Paths.{Cost, Bounds, StandsAt, last_cost, after_one, after_call, words_at, length_of}
use Rattle.verdict.specs.Machine.{Invocation, Activation, State, Next, Goes, Ends, throws, goes_on, with_operands, with_place, next_with, step, step_top, act_at, act, split, activation_of, is_on_null, enter, reach, invoke, return_to, narrowed, return_value, return_void, asks, informed, after_load, step_with, start_of, start, Reaches, here, onward}
use Rattle.verdict.specs.Sound.{slots_of_method, slots_of, StaysWithin}
use Rattle.unrolled.specs.Known.{Known, forgotten, unknown_of}
use Rattle.unrolled.specs.Graph.{Node, Following, arrive, called, taken, edges, successors, arguments_by, process_arguments}
use Rattle.unrolled.specs.Rules.{Rules}
use Rattle.unrolled.specs.Paths.{Path, ends, leads, calls, callee_node, start_node}
use Rattle.unrolled.specs.Certificates.{Point}
use Rattle.unrolled.specs.Cover.{IsCover}
use Rattle.loop_soundness.specs.Runs.{HasPlainCalls, IsCountedAt, RunsStayWithin}
use Rattle.unrolled.proofs.Lists.{map_one}
use Rattle.loop_soundness.proofs.Agreement.{AllAgree, LocalsAgree, KeepsLengths, all_drop, all_take, all_append, all_forget, all_later, locals_later}
use Rattle.loop_soundness.proofs.KnownValues.{unknown_agrees, long_as_type}
use Rattle.loop_soundness.proofs.StepEdges.{IsAt, Moved, act_fine}
use Rattle.loop_soundness.proofs.Entering.{arrived, entered_at}
use Rattle.loop_soundness.proofs.Budgets.{RestOf, slots_at, HasBudget, budget_on, budget_call, budget_return, path_steps, path_depth, path_slots}

-- ---- good states

-- A caller that waits for a result of this type, and its node after the return.
record Waits (arrays : Arrays) (args : ℕ) (result : Option JType) (y : Node) (a : Activation) : Type 0 where
  plain : result ≡ Some type.Top → ⊥
  place : y.place ≡ a.place
  locals : LocalsAgree arrays args y.locals a.locals
  rest : List Known
  is : y.operands ≡ map unknown_of (result_list result) ++ rest
  agree : AllAgree arrays args rest a.operands

unknown_stays : (result : Option JType) (ks : List Known) → map forgotten (map unknown_of (result_list result) ++ ks) ≡ map unknown_of (result_list result) ++ map forgotten ks
unknown_stays None ks = refl
unknown_stays (Some type.Long) ks = refl
unknown_stays (Some type.Int) ks = refl
unknown_stays (Some type.Top) ks = refl
unknown_stays (Some type.Null) ks = refl
unknown_stays (Some (type.Ref r)) ks = refl

waits_arrived : (arrays : Arrays) (args : ℕ) (f : Following) (result : Option JType) (y : Node) (a : Activation) → Waits arrays args result y a → Waits arrays args result (arrive f y) a
waits_arrived arrays args f result y a h = go f.values
  where
    go : (b : Bool) → Waits arrays args result (if b then y else record { place = y.place; locals = []; operands = map forgotten y.operands }) a
    go true = h
    go false = record { plain = h.plain; place = h.place; locals = λ n v e. tt; rest = map forgotten h.rest; is = ap (map forgotten) h.is ∙ unknown_stays result h.rest; agree = all_forget args arrays h.rest a.operands h.agree }

module _ (c : Class) (rules : Rules) (inside : ℕ → Node → Bool) (rank : ℕ → Node → ℕ) (cover : IsCover c rules inside rank) (plain : HasPlainCalls c) (b : Bounds) where
  abbrev AllWait : Arrays → ℕ → Option JType → List Point → List Activation → Type 0
  AllWait arrays args result [] [] = Unit {0}
  AllWait arrays args result (k ∷ ks) (a ∷ below) = (m : Method) × (k.method ≡ a.method) × (slice_get c.methods k.method ≡ Some m) × (inside k.method k.node ≡ true) × Waits arrays args result k.node a × AllWait arrays args m.environment.signature.result ks below
  AllWait arrays args result _ _ = ⊥

  all_wait_later : (old new : Arrays) (args : ℕ) → KeepsLengths old new → (result : Option JType) (ks : List Point) (below : List Activation) → AllWait old args result ks below → AllWait new args result ks below
  all_wait_later old new args l result [] [] h = tt
  all_wait_later old new args l result [] (a ∷ below) h = absurd h
  all_wait_later old new args l result (k ∷ ks) [] h = absurd h
  all_wait_later old new args l result (k ∷ ks) (a ∷ below) (m, same, known, within, w, more) =
      (m, same, known, within, record { plain = w.plain; place = w.place; locals = locals_later args old new l k.node.locals a.locals w.locals; rest = w.rest; is = w.is; agree = all_later args old new l w.rest a.operands w.agree }, all_wait_later old new args l m.environment.signature.result ks below more)

  record IsGood (s : State) : Type 0 where
    top : Activation
    below : List Activation
    point : Point
    points : List Point
    m : Method
    activations : s.activations ≡ top ∷ below
    method : point.method ≡ top.method
    known : slice_get c.methods point.method ≡ Some m
    within : inside point.method point.node ≡ true
    now_at : IsAt s.arrays (length s.call.args) point.node top
    waits : AllWait s.arrays (length s.call.args) m.environment.signature.result points below
    budget : HasBudget c rules b (point ∷ points) s.steps s.words

  -- ---- paths exist

  abbrev HasPath : ℕ → Node → Type 0
  HasPath j x = (k : Cost) × Path c rules j x k

  paths_below : (limit j : ℕ) (x : Node) → inside j x ≡ true → rank j x < limit → HasPath j x
  paths_below zero j x h l = absurd (omega (arith, l))
  paths_below (suc limit) j x h l = let at = cover.stands j x h in go at.0 at.1 at.2 (λ i y g low. paths_below limit i y g (omega (arith, low, l))) (is_return at.1.instruction) refl
    where
      further : (m : Method) (p : Placed) → StandsAt c j x.place m p → ((i : ℕ) (y : Node) → inside i y ≡ true → rank i y < rank j x → HasPath i y) → (y : Node) → slice_get (successors c.view (rules j) p x) 0 ≡ Some y → (o : Option ℕ) → call_of c.view p.instruction ≡ o → HasPath j x
      further m p s later y w None e =
          let q = cover.closed j x y m p 0 h s w in
          let r = later j y q.0 q.1 in
          (after_one (words_at m x.place p.instruction) r.0, leads m p 0 y s e w r.1)
      further m p s later y w (Some k) e =
          let q = cover.closed j x y m p 0 h s w in
          let r = later j y q.0 q.1 in
          let n = cover.calls j k x m p h s e in
          let inner = later k (callee_node c rules k n.0 p x) n.2 n.3 in
          (after_call m inner.0 r.0, calls m p k n.0 0 y s e n.1 w inner.1 r.1)

      go : (m : Method) (p : Placed) → StandsAt c j x.place m p → ((i : ℕ) (y : Node) → inside i y ≡ true → rank i y < rank j x → HasPath i y) → (t : Bool) → is_return p.instruction ≡ t → HasPath j x
      go m p s later true e = (last_cost m, ends m p s e)
      go m p s later false e = let y = cover.leads j x m p h s e in further m p s later y.0 y.1 (call_of c.view p.instruction) refl

  has_path : (j : ℕ) (x : Node) → inside j x ≡ true → HasPath j x
  has_path j x h = paths_below (suc (rank j x)) j x h (omega arith)

  has_rest : (arrays : Arrays) (args : ℕ) (result : Option JType) (ks : List Point) (below : List Activation) → AllWait arrays args result ks below → RestOf c rules ks
  has_rest arrays args result [] [] h = tt
  has_rest arrays args result [] (a ∷ below) h = absurd h
  has_rest arrays args result (k ∷ ks) [] h = absurd h
  has_rest arrays args result (k ∷ ks) (a ∷ below) (m, same, known, within, w, more) =
      let p = has_path k.method k.node within in
      (p.0, p.1, has_rest arrays args m.environment.signature.result ks below more)

  same_slots : (arrays : Arrays) (args : ℕ) (result : Option JType) (ks : List Point) (below : List Activation) → AllWait arrays args result ks below → (slots_of c below ≡ slots_at c rules ks) × (length below ≡ length ks)
  same_slots arrays args result [] [] h = (refl, refl)
  same_slots arrays args result [] (a ∷ below) h = absurd h
  same_slots arrays args result (k ∷ ks) [] h = absurd h
  same_slots arrays args result (k ∷ ks) (a ∷ below) (m, same, known, within, w, more) =
      let r = same_slots arrays args m.environment.signature.result ks below more in
      let one : slots_of_method (slice_get c.methods k.method) ≡ slots_of_method (slice_get c.methods a.method) = ap (λ y. slots_of_method (slice_get c.methods y)) same in
      (omega (arith, one, r.0), omega (arith, r.1))

  stays_within : (s : State) → IsGood s → StaysWithin c s b × (s.steps < b.steps)
  stays_within s h =
      let p = has_path h.point.method h.point.node h.within in
      let r : RestOf c rules (h.point ∷ h.points) = (p.0, p.1, has_rest s.arrays (length s.call.args) h.m.environment.signature.result h.points h.below h.waits) in
      let few = h.budget.steps_left r in
      let few_words = h.budget.words_left r in
      let few_slots = h.budget.slots_left r in
      let low = h.budget.depth_left r in
      let own = path_slots c rules p.1 in
      let one = path_depth c rules p.1 in
      let same = same_slots s.arrays (length s.call.args) h.m.environment.signature.result h.points h.below h.waits in
      let here_too : slots_of_method (slice_get c.methods h.point.method) ≡ slots_of_method (slice_get c.methods h.top.method) = ap (λ y. slots_of_method (slice_get c.methods y)) h.method in
      let slots : slots_of c (h.top ∷ h.below) ≤ b.slots = omega (arith, few_slots, own, same.0, here_too) in
      let depth : length (h.top ∷ h.below) ≤ b.depth = omega (arith, low, one, same.1) in
      let least = path_steps c rules p.1 in (
        record {
          steps = omega (arith, few);
          words = omega (arith, few_words);
          slots = subst (λ x. slots_of c x ≤ b.slots) (sym h.activations) slots;
          depth = subst (λ x. length x ≤ b.depth) (sym h.activations) depth;
        },
        omega (arith, few, least),
      )

  -- ---- steps

  abbrev NextGood : Invocation → Option Next → Type 0
  NextGood call None = Unit {0}
  NextGood call (Some (Ends z)) = Unit {0}
  NextGood call (Some (Goes u)) = IsGood u × (u.call ≡ call)

  good_if : (call : Invocation) (t : Bool) (o : Option Next) → (t ≡ true → NextGood call o) → NextGood call (only_if t o)
  good_if call true o h = h refl
  good_if call false o h = tt

  good_goes : (s : State) (a : Activation) (below : List Activation) → ((u : State) → u ≡ record s { activations = a ∷ below; steps = suc s.steps } → IsGood u) → NextGood s.call (goes_on c s a below)
  good_goes s a below h = go (slice_get c.methods a.method)
    where
      u : State
      u = record s { activations = a ∷ below; steps = suc s.steps }

      go : (o : Option Method) → NextGood s.call (o >>= λ m. only_if (nat_le (slots_by is_long_value a.operands) m.environment.max_stack && is_some (instruction_at m a.place)) (Some (Goes u)))
      go None = tt
      go (Some m) = good_if s.call _ (Some (Goes u)) (λ e. (h u refl, refl))

  module _ (s : State) (h : IsGood s) (few : length s.call.args ≤ 8) (counted : IsCountedAt c s) (m : Method) (p : Placed) (at : StandsAt c h.point.method h.point.node.place m p) where
    abbrev a : Activation
    a = h.top

    abbrev x : Node
    x = h.point.node

    abbrev args : ℕ
    args = length s.call.args

    abbrev beyond : Activation
    beyond = with_place a p.next

    one_method : h.m ≡ m
    one_method = cc (h.known, at.method)

    -- ---- returns

    returned : (vs : List Value) → ((k : Point) (ks : List Point) (caller : Activation) (below : List Activation) → h.points ≡ k ∷ ks → h.below ≡ caller ∷ below → AllWait s.arrays args m.environment.signature.result (k ∷ ks) (caller ∷ below) → AllAgree s.arrays args (map unknown_of (result_list m.environment.signature.result)) vs) → is_return p.instruction ≡ true → NextGood s.call (return_to c s vs h.below)
    returned vs agree e = go h.below h.points refl refl (subst (λ y. AllWait s.arrays args y.environment.signature.result h.points h.below) one_method h.waits) h.budget
      where
        end : Path c rules h.point.method h.point.node (last_cost m)
        end = ends m p at e

        none : (ws : List Value) → NextGood s.call (return_to c s ws [])
        none [] = tt
        none (v ∷ []) = go_end (arg_of_value v)
          where
            go_end : (o : _) → NextGood s.call (Some (Rattle.verdict.specs.Machine.end_with s o))
            go_end None = tt
            go_end (Some r) = tt
        none (v ∷ w ∷ ws) = tt

        go : (below : List Activation) (points : List Point) → h.below ≡ below → h.points ≡ points → AllWait s.arrays args m.environment.signature.result points below → HasBudget c rules b (h.point ∷ points) s.steps s.words → NextGood s.call (return_to c s vs below)
        go [] [] f g w budget = none vs
        go [] (k ∷ ks) f g w budget = absurd w
        go (caller ∷ below) [] f g w budget = absurd w
        go (caller ∷ below) (k ∷ ks) f g (n, same, known, within, wait, more) budget =
            good_goes s (with_operands caller (vs ++ caller.operands)) below (λ u is. subst IsGood (sym is) (record {
              top = with_operands caller (vs ++ caller.operands);
              below = below;
              point = k;
              points = ks;
              m = n;
              activations = refl;
              method = same;
              known = known;
              within = within;
              now_at = record {
                place = wait.place;
                locals = wait.locals;
                operands = subst (λ y. AllAgree s.arrays args y (vs ++ caller.operands)) (sym wait.is) (all_append args s.arrays (map unknown_of (result_list m.environment.signature.result)) wait.rest vs caller.operands (agree k ks caller below g f (n, same, known, within, wait, more)) wait.agree);
              };
              waits = more;
              budget = budget_return c rules b m h.point k ks s.steps s.words end budget;
            }))

    narrowed_long : (t : Bool) (v : Value) → is_long_value (narrowed t v) ≡ is_long_value v
    narrowed_long true (Int n) = refl
    narrowed_long true (Long n) = refl
    narrowed_long true (Ref n) = refl
    narrowed_long false v = refl

    value_returned : (k : Kind) → is_return p.instruction ≡ true → (o : Option JType) → m.environment.signature.result ≡ o → (vs : List Value) → NextGood s.call (return_value c s h.below k m.environment.signature o vs)
    value_returned k e None f vs = tt
    value_returned k e (Some t) f [] = tt
    value_returned k e (Some t) f (v ∷ vs) = good_if s.call (fits s.arrays v (type_of_kind k) && fits s.arrays v t) _ (λ g. returned (narrowed m.environment.signature.is_boolean v ∷ []) (λ i is caller below q r w. subst (λ y. AllAgree s.arrays args (map unknown_of (result_list y)) (narrowed m.environment.signature.is_boolean v ∷ [])) (sym f) (unknown_agrees args s.arrays t (narrowed m.environment.signature.is_boolean v) (narrowed_long m.environment.signature.is_boolean v ∙ long_as_type args s.arrays v t (and_parts (fits s.arrays v (type_of_kind k)) _ g).1 (λ top. w.4.plain (f ∙ ap (λ y. Some y) top))), tt)) e)

    void_returned : is_return p.instruction ≡ true → (o : Option JType) → m.environment.signature.result ≡ o → NextGood s.call (return_void c s h.below o)
    void_returned e None f = returned [] (λ i is caller below q r w. subst (λ y. AllAgree s.arrays args (map unknown_of (result_list y)) []) (sym f) tt) e
    void_returned e (Some t) f = tt

    return_good : (i : Instruction) → p.instruction ≡ i → is_return i ≡ true → NextGood s.call (act c s m.environment beyond h.below i)
    return_good (instruction.Return k) is e = value_returned k (ap is_return is ∙ e) m.environment.signature.result refl a.operands
    return_good instruction.ReturnVoid is e = void_returned (ap is_return is ∙ e) m.environment.signature.result refl
    return_good (instruction.Throw t text) is e = tt
    return_good _ is e = cc

    -- ---- calls of own methods

    call_good : (kind : Invoke) (i k : ℕ) → p.instruction ≡ instruction.Invoke kind i → call_of c.view (instruction.Invoke kind i) ≡ Some k → NextGood s.call (invoke c s beyond h.below kind (callee_at c.view kind i))
    call_good kind i k is own = go (callee_at c.view kind i) refl
      where
        go : (o : Option Callee) → callee_at c.view kind i ≡ o → NextGood s.call (invoke c s beyond h.below kind o)
        go None e = tt
        go (Some callee) e = pick (nat_le (length callee.params) (length a.operands))
          where
            vs : List Value
            vs = take (length callee.params) a.operands

            left : List Value
            left = drop (length callee.params) a.operands

            after : Node
            after = at_after
              where
                at_after : Node
                at_after = record { place = p.next; locals = x.locals; operands = map unknown_of (result_list callee.result) ++ drop (length callee.params) x.operands }

            way : slice_get (successors c.view (rules h.point.method) p x) 0 ≡ Some (arrive (rules h.point.method) after)
            way = ap (λ y. slice_get (map (arrive (rules h.point.method)) (edges c.view (rules h.point.method) x p.next y)) 0) is ∙ ap (λ o. Some (arrive (rules h.point.method) (record { place = p.next; locals = x.locals; operands = called o x.operands }))) e

            given : arguments_by c.view p.instruction x.operands ≡ take (length callee.params) x.operands
            given = ap (λ y. arguments_by c.view y x.operands) is ∙ ap (λ o. taken o x.operands) e

            entering : (n : Method) → slice_get c.methods k ≡ Some n → callee.reached ≡ Own k → NextGood s.call (goes_on c s (activation_of k n vs) (with_operands beyond left ∷ h.below))
            entering n known reached =
                let j = h.point.method in
                let called_own : call_of c.view p.instruction ≡ Some k = ap (call_of c.view) is ∙ own in
                let there = cover.calls j k x m p h.within at called_own in
                let same : there.0 ≡ n = cc (there.1, known) in
                let within = subst (λ y. inside k (callee_node c rules k y p x) ≡ true) same there.2 in
                let closed = cover.closed j x (arrive (rules j) after) m p 0 h.within at way in
                let result = plain.own kind i k callee n e reached known in
                let agree : AllAgree s.arrays args (arguments_by c.view p.instruction x.operands) vs = subst (λ y. AllAgree s.arrays args y vs) (sym given) (all_take args s.arrays (length callee.params) x.operands a.operands h.now_at.operands) in
                good_goes s (activation_of k n vs) (with_operands beyond left ∷ h.below) (λ u is_u. subst IsGood (sym is_u) (record {
                  top = activation_of k n vs;
                  below = with_operands beyond left ∷ h.below;
                  point = record { method = k; node = callee_node c rules k n p x };
                  points = record { method = j; node = arrive (rules j) after } ∷ h.points;
                  m = n;
                  activations = refl;
                  method = refl;
                  known = known;
                  within = within;
                  now_at = entered_at s.arrays args (rules k) k n (arguments_by c.view p.instruction x.operands) vs agree;
                  waits = (
                    m,
                    h.method,
                    at.method,
                    closed.0,
                    waits_arrived s.arrays args (rules j) n.environment.signature.result after (with_operands beyond left) (record {
                      plain = λ top. plain.plain kind i callee e (sym result ∙ top);
                      place = refl;
                      locals = h.now_at.locals;
                      rest = drop (length callee.params) x.operands;
                      is = ap (λ y. map unknown_of (result_list y) ++ drop (length callee.params) x.operands) (sym result);
                      agree = all_drop args s.arrays (length callee.params) x.operands a.operands h.now_at.operands;
                    }),
                    subst (λ y. AllWait s.arrays args y.environment.signature.result h.points h.below) one_method h.waits,
                  );
                  budget = budget_call c rules b m h.point (record { method = j; node = arrive (rules j) after }) (record { method = k; node = callee_node c rules k n p x }) h.points s.steps s.words at.method (λ d o inner rest. calls m p k n 0 (arrive (rules j) after) at called_own known way inner rest) h.budget;
                }))

            entered_good : callee.reached ≡ Own k → (o : Option Method) → slice_get c.methods k ≡ o → NextGood s.call (enter c s (with_operands beyond left) h.below k vs o)
            entered_good reached None f = tt
            entered_good reached (Some n) f = entering n f reached

            null_or : callee.reached ≡ Own k → (t : Bool) → NextGood s.call (if t then throws s fault.NullPointer else enter c s (with_operands beyond left) h.below k vs (slice_get c.methods k))
            null_or reached true = tt
            null_or reached false = entered_good reached (slice_get c.methods k) refl

            reach_good : (r : Reached) → callee.reached ≡ r → NextGood s.call (reach c s beyond h.below kind callee r vs left)
            reach_good (Library n) f = let bad : None ≡ Some k = sym (ap own_of e ∙ ap own_number f) ∙ own in cc
            reach_good (Own n) f =
                let same : n ≡ k = cc (sym (ap own_of e ∙ ap own_number f) ∙ own) in
                subst (λ y. NextGood s.call (reach c s beyond h.below kind callee (Own y) vs left)) (sym same) (null_or (f ∙ ap (λ y. Own y) same) (is_on_null kind (reverse vs)))

            pick : (t : Bool) → NextGood s.call (option_and_then (λ (parts : List Value × List Value). only_if (all_fit s.arrays parts.0 (reverse callee.params)) (reach c s beyond h.below kind callee callee.reached parts.0 parts.1)) (only_if t (Some (vs, left))))
            pick false = tt
            pick true = good_if s.call (all_fit s.arrays vs (reverse callee.params)) _ (λ g. reach_good callee.reached refl)

    own_call_good : (i : Instruction) (k : ℕ) → p.instruction ≡ i → call_of c.view i ≡ Some k → NextGood s.call (act c s m.environment beyond h.below i)
    own_call_good (instruction.Invoke kind i) k is e = call_good kind i k is e
    own_call_good _ k is e = cc

    -- ---- other instructions

    moved_good : (i : Instruction) → p.instruction ≡ i → call_of c.view i ≡ None → (o : Option Next) → Rattle.loop_soundness.proofs.StepEdges.Fine c (rules h.point.method) s a h.below p x few h.now_at i (words_at m a.place i) o → NextGood s.call o
    moved_good i is outside None f = tt
    moved_good i is outside (Some (Ends z)) f = tt
    moved_good i is outside (Some (Goes u)) q =
        let j = h.point.method in
        let y = arrive (rules j) q.to in
        let way : slice_get (successors c.view (rules j) p x) q.number ≡ Some y = map_one (arrive (rules j)) (edges c.view (rules j) x p.next p.instruction) q.number q.to (ap (λ z. slice_get (edges c.view (rules j) x p.next z) q.number) is ∙ q.is) in
        let closed = cover.closed j x y m p q.number h.within at way in
        let w = words_at m a.place i in
        let same_words : words_at m x.place p.instruction ≡ w = ap (λ z. words_at m z p.instruction) h.now_at.place ∙ ap (words_at m a.place) is in
        let path = λ (e : Cost) (r : Path c rules j y e). subst (λ n. Path c rules j x (after_one n e)) same_words (leads m p q.number y at (ap (call_of c.view) is ∙ outside) way r) in
        let budget = budget_on c rules b h.point (record { method = j; node = y }) h.points s.steps s.words w path h.budget in
        let args_same : length s.call.args ≡ length u.call.args = ap (λ (z : Invocation). length z.args) (sym q.call) in (
          record {
            top = q.top;
            below = h.below;
            point = record { method = j; node = y };
            points = h.points;
            m = m;
            activations = q.activations;
            method = h.method ∙ sym q.method;
            known = at.method;
            within = closed.0;
            now_at = subst (λ z. IsAt u.arrays z y q.top) args_same (arrived u.arrays args (rules j) q.to q.top q.now_at);
            waits = subst (λ z. AllWait u.arrays z m.environment.signature.result h.points h.below) args_same (all_wait_later s.arrays u.arrays args q.lengths m.environment.signature.result h.points h.below (subst (λ z. AllWait s.arrays args z.environment.signature.result h.points h.below) one_method h.waits));
            budget = subst (λ z. HasBudget c rules b (record { method = j; node = y } ∷ h.points) z u.words) (sym q.steps) (subst (HasBudget c rules b (record { method = j; node = y } ∷ h.points) (suc s.steps)) (sym q.words_are) budget);
          },
          q.call,
        )

    counts_words : (i : Instruction) → p.instruction ≡ i → (k : ArrayKind) (n : ℕ) (vs : List Value) → i ≡ instruction.NewArray k → a.operands ≡ Int (pos n) ∷ vs → words_of n ≡ words_at m a.place (instruction.NewArray k)
    counts_words i is k n vs e f =
        let here_now : StandsAt c a.method a.place m p = subst (λ y. StandsAt c y a.place m p) h.method (subst (λ y. StandsAt c h.point.method y m p) h.now_at.place at) in
        let q = counted.counted a h.below m p k h.activations here_now (is ∙ e) in
        let same : n ≡ q.0 = cc (sym f ∙ q.1.1) in
        ap words_of same ∙ sym (ap (λ o. words_of (length_of o)) q.2)

    step_good : (i : Instruction) → p.instruction ≡ i → NextGood s.call (act c s m.environment beyond h.below i)
    step_good i is = go (is_return i) refl (call_of c.view i) refl
      where
        go : (t : Bool) → is_return i ≡ t → (o : Option ℕ) → call_of c.view i ≡ o → NextGood s.call (act c s m.environment beyond h.below i)
        go true e o f = return_good i is e
        go false e (Some k) f = own_call_good i k is f
        go false e None f = moved_good i is f (act c s m.environment beyond h.below i) (act_fine c (rules h.point.method) s a h.below p x few h.now_at plain m.environment m i e f (counts_words i is))

  good_step : (s : State) → IsGood s → length s.call.args ≤ 8 → IsCountedAt c s → NextGood s.call (step c s)
  good_step s h few counted =
      let j = h.point.method in
      let x = h.point.node in
      let at = cover.stands j x h.within in
      let m = at.0 in
      let p = at.1 in
      let a = h.top in
      let known : slice_get c.methods a.method ≡ Some m = ap (slice_get c.methods) (sym h.method) ∙ at.2.method in
      let code : instruction_at m a.place ≡ Some p = ap (instruction_at m) (sym h.now_at.place) ∙ at.2.instruction in
      let is : step c s ≡ act c s m.environment (with_place a p.next) h.below p.instruction =
      ap (step_top c s) h.activations ∙ ap (λ y. y >>= λ z. act_at c s z a h.below (instruction_at z a.place)) known ∙ ap (act_at c s m a h.below) code in
      subst (NextGood s.call) (sym is) (step_good s h few counted m p at.2 p.instruction refl)

  -- The answer of the loader changes none of it.
  good_informed : (x : LoadAnswer) (s : State) → IsGood s → IsGood (informed x s)
  good_informed x s h = record { top = h.top; below = h.below; point = h.point; points = h.points; m = h.m; activations = h.activations; method = h.method; known = h.known; within = h.within; now_at = h.now_at; waits = h.waits; budget = h.budget }

  counted_informed : (x : LoadAnswer) (s : State) → IsCountedAt c s → IsCountedAt c (informed x s)
  counted_informed x s h = record { counted = h.counted }

  good_with : (s : State) (x : LoadAnswer) → IsGood s → length s.call.args ≤ 8 → IsCountedAt c s → NextGood s.call (step_with c x s)
  good_with s x h few counted = go (asks c s)
    where
      told : (y : LoadAnswer) → NextGood s.call (after_load c s y)
      told load.Failed = tt
      told (load.Value v) = good_step (informed (load.Value v) s) (good_informed (load.Value v) s h) few (counted_informed (load.Value v) s counted)
      told load.None = good_step (informed load.None s) (good_informed load.None s h) few (counted_informed load.None s counted)

      go : (asked : Bool) → NextGood s.call (if asked then after_load c s x else step c s)
      go true = told x
      go false = good_step s h few counted

  good_reached : (s t : State) → IsGood s → length s.call.args ≤ 8 → ((u : State) → Reaches c s u → IsCountedAt c u) → Reaches c s t → IsGood t × (t.call ≡ s.call)
  good_reached s t h few counted here = (h, refl)
  good_reached s t h few counted (onward {t = u} x r e) =
      let g = good_reached s u h few counted r in
      let few_now : length u.call.args ≤ 8 = subst (λ (z : Invocation). length z.args ≤ 8) (sym g.1) few in
      let n = subst (NextGood u.call) e (good_with u x g.0 few_now (counted u r)) in
      (n.0, n.1 ∙ g.1)

pub runs_stay_within : RunsStayWithin
runs_stay_within c rules inside rank j m b call s t cover plain is known within bounded few e counted reached = go (slice_get c.methods j) refl (sym (ap (λ o. o >>= λ i. option_map (λ n. start_of i n call) (slice_get c.methods i)) is) ∙ e)
  where
    given : List Value
    given = Ref reference.Args ∷ Ref reference.Entry ∷ Ref reference.This ∷ []

    good : IsGood c rules inside rank cover plain b (start_of j m call)
    good = record {
      top = activation_of j m given;
      below = [];
      point = record { method = j; node = start_node rules j m };
      points = [];
      m = m;
      activations = refl;
      method = refl;
      known = known;
      within = within;
      now_at = entered_at [] (length call.args) (rules j) j m process_arguments given (refl, (refl, (refl, tt)));
      waits = tt;
      budget = record {
        steps_left = λ r. let w = (bounded r.0 r.1).steps in omega (arith, w);
        words_left = λ r. let w = (bounded r.0 r.1).words in omega (arith, w);
        slots_left = λ r. let w = (bounded r.0 r.1).slots in omega (arith, w);
        depth_left = λ r. let w = (bounded r.0 r.1).depth in omega (arith, w);
      };
    }

    go : (o : Option Method) → slice_get c.methods j ≡ o → option_map (λ n. start_of j n call) o ≡ Some s → StaysWithin c t b × (t.steps < b.steps) × ((u : State) → step c t ≡ Some (Goes u) → StaysWithin c u b)
    go None f g = cc
    go (Some n) f g =
        let one : n ≡ m = cc (f, known) in
        let same : start_of j m call ≡ s = ap (λ y. start_of j y call) (sym one) ∙ cc g in
        let begun : IsGood c rules inside rank cover plain b s = subst (IsGood c rules inside rank cover plain b) same good in
        let few_now : length s.call.args ≤ 8 = subst (λ (z : State). length z.call.args ≤ 8) same few in
        let g = good_reached c rules inside rank cover plain b s t begun few_now (λ u q. counted u q) reached in
        let few_here : length t.call.args ≤ 8 = subst (λ (z : Invocation). length z.args ≤ 8) (sym g.1) few_now in
        let w = stays_within c rules inside rank cover plain b t g.0 in
        (w.0, w.1, λ u f. (stays_within c rules inside rank cover plain b u (subst (NextGood c rules inside rank cover plain b t.call) f (good_step c rules inside rank cover plain b t g.0 few_here (counted t reached))).0).0)
