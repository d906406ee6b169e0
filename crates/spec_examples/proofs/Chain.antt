-- The bounds of the chain class, which exceed the step limit of the first profile but no limit of the second one.
use Rattle.std.proofs.Common.{◌≡◌, ℕ, zero, suc, ◌+◌, ◌*◌, ◌-◌, ◌<◌, ◌≤◌, ◌==◌, Bool, true, false, cond, Some, None, refl, sym, ap, ◌∙◌, subst, arith, ◌⊎◌, inl, inr}
use Rattle.std.specs.Prelude.{slice_get, IsSome, ℤ, pos}
use Rattle.std.proofs.lemmas.Bool.{cases_lt}
use Rattle.jtypes.specs.declared.operations.Invoke.TheVariants as invoke
use Rattle.jtypes.specs.declared.refusal.Refusal.{Refusal}
use Rattle.jtypes.specs.declared.refusal.Refusal.TheVariants.{Recursive, StepLimit, WordLimit, FrameLimit}
use Rattle.jtypes.specs.Profile.{First, Third}
use Rattle.constpool.specs.Descriptor.{sig_of, read_params, read_type}
use Rattle.constpool.specs.Lookup.{utf8_at, class_at, pair_at, member_of, method_at}
use Rattle.decode.specs.declared.instruction.Instruction.TheVariants as instruction
use Rattle.decode.specs.declared.instruction.Placed.{Placed}
use Rattle.decode.specs.Places.{at_place, target_of, IsTarget, falls_through}
use Rattle.decode.proofs.Targets.{no_target}
use Rattle.frames.specs.Members.{library_rows, callee_at}
use Rattle.frames.specs.Signatures.{class_type, field_type, field_types, result_type, signature_of, method_signature}
use Rattle.typecheck.specs.Typing.{Method, IsProcessOf, instruction_at, call_of}
use Rattle.bounds.specs.Paths.{Cost, Path, StandsAt, AreBounds, IsWithin, SomePathExceeds, after_call, step_limit, word_limit, slot_limit, depth_limit}
use Rattle.bounds.specs.Recursion.{IsOrdered, IsRecursive}
use Rattle.bounds.specs.Table.{Costs, IsTable, LeadsOn, cost_by, cost_through}
use Rattle.bounds.proofs.Greatest.{tables_are_bounds}
use Rattle.bounds.proofs.Ranks.{ranked_is_not_recursive}
use Rattle.verdict.specs.Verdict.{ClassStands, BoundStands}
use Rattle.soundness.specs.Accepted.{constructor_code, constructor_method}
use Rattle.soundness.proofs.StraightCode.{Each, each_at, at_its_place}
use Rattle.spec_examples.specs.Plain.{placed}
use Rattle.spec_examples.specs.Chain.{chain, chain_bounds, process, link, end, links_from, reference_of, HasChainBounds}
use Rattle.spec_examples.proofs.FirstRefuses.{refuses_more_steps}

-- ---- the calls

abbrev pub Below : (ℕ → Type 0) → ℕ → Type 0
Below P zero = Unit {0}
Below P (suc n) = Below P n × P n

pub below_at : (P : ℕ → Type 0) (n k : ℕ) → Below P n → k < n → P k
below_at P zero k h l = absurd (omega (arith, l))
below_at P (suc n) k h l = go (below_at P n k h.0) (cases_lt k n)
  where
    go : (k < n → P k) → (k < n) ⊎ (n ≤ k) → P k
    go later (inl less) = later less
    go later (inr more) = let same : n ≡ k = omega (arith, l, more) in subst P same h.1

-- A call of method `k` of the chain is one of method `k + 2` of the class.
abbrev Calls : ℕ → Type 0
Calls k = call_of chain.view (instruction.Invoke invoke.Static (reference_of k)) ≡ Some (suc (suc k))

all_call : Below Calls 19
unfolding callee_at library_rows method_at class_at pair_at member_of utf8_at sig_of read_params read_type class_type field_type field_types result_type signature_of method_signature
all_call = (((((((((((((((((((tt, refl), refl), refl), refl), refl), refl), refl), refl), refl), refl), refl), refl), refl), refl), refl), refl), refl), refl), refl)

calls : (k : ℕ) → k < 19 → Calls k
calls k l = below_at Calls 19 k all_call l

constructor_lone : Each (λ p. call_of chain.view p.instruction ≡ None) constructor_code
unfolding callee_at library_rows method_at class_at pair_at member_of utf8_at
constructor_lone = (refl, (refl, (refl, tt)))

-- ---- the methods other than the constructor

data Which : ℕ → Method → Type 0 where
  at_process : Which 1 process
  at_link : (k : ℕ) → k < 18 → Which (suc (suc k)) (link k)
  at_end : Which 20 end

links_at : (k n i : ℕ) (m : Method) → k + n ≡ 18 → slice_get (links_from k n) i ≡ Some m → Which (suc (suc (k + i))) m
links_at k zero zero m s e =
    let same : end ≡ m = cc e in
    let number : 20 ≡ suc (suc (k + 0)) = omega (arith, s) in
    subst (λ x. Which x m) number (subst (λ x. Which 20 x) same at_end)
links_at k zero (suc i) m s e = cc e
links_at k (suc n) zero m s e =
    let same : link k ≡ m = cc e in
    let number : suc (suc k) ≡ suc (suc (k + 0)) = omega arith in
    subst (λ x. Which x m) number (subst (λ x. Which (suc (suc k)) x) same (at_link k (omega (arith, s))))
links_at k (suc n) (suc i) m s e =
    let number : suc (suc (suc k + i)) ≡ suc (suc (k + suc i)) = omega arith in
    subst (λ x. Which x m) number (links_at (suc k) n i m (omega (arith, s)) e)

abbrev is_in : ℕ → Bool
is_in zero = false
is_in (suc j) = true

which : (j : ℕ) (m : Method) → is_in j ≡ true → slice_get chain.methods j ≡ Some m → Which j m
which zero m h e = absurd cc
which (suc zero) m h e = let same : process ≡ m = cc e in subst (λ x. Which 1 x) same at_process
which (suc (suc i)) m h e =
    let number : suc (suc (0 + i)) ≡ suc (suc i) = omega arith in
    subst (λ x. Which x m) number (links_at 0 18 i m refl e)

links_there : (k n i : ℕ) → i < suc n → (m : Method) × (slice_get (links_from k n) i ≡ Some m) × IsSome (instruction_at m 0)
links_there k zero zero l = (end, refl, refl)
links_there k zero (suc i) l = absurd (omega (arith, l))
links_there k (suc n) zero l = (link k, refl, refl)
links_there k (suc n) (suc i) l = links_there (suc k) n i (omega (arith, l))

there : (j : ℕ) → j < 20 → (m : Method) × (slice_get chain.methods (suc j) ≡ Some m) × IsSome (instruction_at m 0)
there zero l = (process, refl, refl)
there (suc i) l = links_there 0 18 i (omega (arith, l))

-- ---- the successors of their instructions

-- An instruction continues with the next one, and calls only the next method.
record Leads (j : ℕ) (m : Method) (p : Placed) : Type 0 where
  straight : target_of p.instruction ≡ None
  next : falls_through p.instruction ≡ true → (p.place < p.next) × IsSome (instruction_at m p.next)
  callee : (k : ℕ) → call_of chain.view p.instruction ≡ Some k → (k ≡ suc j) × (j < 20)

called : (j i : ℕ) → i < 19 → j ≡ suc i → (k : ℕ) → call_of chain.view (instruction.Invoke invoke.Static (reference_of i)) ≡ Some k → (k ≡ suc j) × (j < 20)
called j i l e k c =
    let both : Some (suc (suc i)) ≡ Some k = sym (calls i l) ∙ c in
    let same : suc (suc i) ≡ k = cc both in
    (omega (arith, same, e), omega (arith, l, e))

each_leads : (j : ℕ) (m : Method) → Which j m → Each (Leads j m) m.code
each_leads j m at_process = (
  record { straight = refl; next = λ h. (omega arith, refl); callee = called 1 0 (omega arith) refl },
  (record { straight = refl; next = λ h. (omega arith, refl); callee = λ k e. cc e }, (record { straight = refl; next = λ h. cc h; callee = λ k e. cc e }, tt)),
)
each_leads j m (at_link k l) = (
  record { straight = refl; next = λ h. (omega arith, refl); callee = called (suc (suc k)) (suc k) (omega (arith, l)) refl },
  (
    record { straight = refl; next = λ h. (omega arith, refl); callee = called (suc (suc k)) (suc k) (omega (arith, l)) refl },
    (record { straight = refl; next = λ h. cc h; callee = λ i e. cc e }, tt),
  ),
)
each_leads j m at_end = (record { straight = refl; next = λ h. cc h; callee = λ k e. cc e }, tt)

leads_at : (j q : ℕ) (m : Method) (p : Placed) → is_in j ≡ true → StandsAt chain j q m p → Leads j m p
leads_at j q m p h s = each_at (Leads j m) m.code (each_leads j m (which j m h s.method)) q p s.instruction

ordered : IsOrdered chain (λ j. 21 - j)
ordered zero k (m, q, p, known, at, call) =
    let same : constructor_method ≡ m = cc known in
    let here : at_place constructor_code q ≡ Some p = subst (λ (x : Method). instruction_at x q ≡ Some p) (sym same) at in
    cc (each_at (λ x. call_of chain.view x.instruction ≡ None) constructor_code constructor_lone q p here, call)
ordered (suc j) k (m, q, p, known, at, call) =
    let it = (leads_at (suc j) q m p refl (record { method = known; instruction = at })).callee k call in
    let same = it.0 in
    let few = it.1 in
    omega (arith, same, few)

leads : LeadsOn chain is_in
leads = record { next = next; target = target; callee = callee; ranks = ((λ j. 21 - j), ordered) }
  where
    next : (j q : ℕ) (m : Method) (p : Placed) → is_in j ≡ true → StandsAt chain j q m p → falls_through p.instruction ≡ true → (q < p.next) × IsSome (instruction_at m p.next)
    next j q m p h s falls =
        let it = (leads_at j q m p h s).next falls in
        (subst (λ k. k < p.next) (at_its_place m.code q p s.instruction) it.0, it.1)

    target : (j q : ℕ) (m : Method) (p : Placed) (z : ℤ) → is_in j ≡ true → StandsAt chain j q m p → IsTarget p.instruction z → (r : ℕ) × (z ≡ pos r) × (q < r) × IsSome (instruction_at m r)
    target j q m p z h s to = absurd (no_target p.instruction z (leads_at j q m p h s).straight to)

    callee : (j q k : ℕ) (m : Method) (p : Placed) → is_in j ≡ true → StandsAt chain j q m p → call_of chain.view p.instruction ≡ Some k → (is_in k ≡ true) × ((n : Method) × (slice_get chain.methods k ≡ Some n) × IsSome (instruction_at n 0))
    callee j q k m p h s call =
        let it = (leads_at j q m p h s).callee k call in
        subst (λ x. (is_in x ≡ true) × ((n : Method) × (slice_get chain.methods x ≡ Some n) × IsSome (instruction_at n 0))) (sym it.0) (refl, there j it.1)

-- ---- their costs

-- The steps of a method of the chain with `n` methods after it.
abbrev steps_of : ℕ → ℕ
steps_of zero = 1
steps_of (suc n) = 2 * steps_of n + 3

abbrev whole : ℕ → Cost
whole n = record { steps = steps_of n; words = 0; slots = 0; depth = suc n }

-- The cost from its second call on.
abbrev half : ℕ → Cost
half zero = whole 0
half (suc n) = record { steps = steps_of n + 2; words = 0; slots = 0; depth = suc (suc n) }

abbrev costs_in : ℕ → ℕ → Cost
costs_in n place = cond (place == 0) (whole n) (cond (place == 3) (half n) (whole 0))

abbrev costs_in_process : ℕ → Cost
costs_in_process place =
    cond (place == 0) (record { steps = 1_048_576; words = 0; slots = 4; depth = 20 })
    (cond (place == 3) (record { steps = 2; words = 0; slots = 4; depth = 1 }) (record { steps = 1; words = 0; slots = 4; depth = 1 }))

abbrev costs : Costs
costs zero place = whole 0
costs (suc zero) place = costs_in_process place
costs (suc (suc k)) place = costs_in (18 - k) place

same_cost : (a b : Cost) → a.steps ≡ b.steps → a.words ≡ b.words → a.slots ≡ b.slots → a.depth ≡ b.depth → a ≡ b
same_cost a b s w x d = λ k. record { steps = s k; words = w k; slots = x k; depth = d k }

from_first : (k a b n : ℕ) → a ≡ suc n → b ≡ n → whole a ≡ after_call (link k) (whole b) (half a)
from_first k a b n e f =
    subst (λ x. whole x ≡ after_call (link k) (whole b) (half x)) (sym e)
    (subst (λ x. whole (suc n) ≡ after_call (link k) (whole x) (half (suc n))) (sym f)
    (same_cost (whole (suc n)) (after_call (link k) (whole n) (half (suc n))) (omega arith) refl refl (omega arith)))

from_second : (k a b n : ℕ) → a ≡ suc n → b ≡ n → half a ≡ after_call (link k) (whole b) (whole 0)
from_second k a b n e f =
    subst (λ x. half x ≡ after_call (link k) (whole b) (whole 0)) (sym e)
    (subst (λ x. half (suc n) ≡ after_call (link k) (whole x) (whole 0)) (sym f)
    (same_cost (half (suc n)) (after_call (link k) (whole n) (whole 0)) (omega arith) refl refl (omega arith)))

abbrev Row : ℕ → Method → Placed → Type 0
Row j m p = costs j p.place ≡ cost_by chain costs m j p.place p p.instruction

each_row : (j : ℕ) (m : Method) → Which j m → Each (Row j m) m.code
each_row j m at_process = (sym (ap (cost_through costs process 1 0 (placed 0 3 (instruction.Invoke invoke.Static (reference_of 0)))) (calls 0 (omega arith))), (refl, (refl, tt)))
each_row j m (at_link k l) = (
  from_first k (18 - k) (18 - suc k) (17 - k) (omega (arith, l)) (omega (arith, l)) ∙ sym (ap (cost_through costs (link k) (suc (suc k)) 0 (placed 0 3 (instruction.Invoke invoke.Static (reference_of (suc k))))) (calls (suc k) (omega (arith, l)))),
  (
    from_second k (18 - k) (18 - suc k) (17 - k) (omega (arith, l)) (omega (arith, l)) ∙ sym (ap (cost_through costs (link k) (suc (suc k)) 3 (placed 3 6 (instruction.Invoke invoke.Static (reference_of (suc k))))) (calls (suc k) (omega (arith, l)))),
    (refl, tt),
  ),
)
each_row j m at_end = (refl, tt)

is_table : IsTable chain is_in costs
is_table j place m p h s =
    let here : Row j m p = each_at (Row j m) m.code (each_row j m (which j m h s.method)) place p s.instruction in
    subst (λ n. costs j n ≡ cost_by chain costs m j n p p.instruction) (at_its_place m.code place p s.instruction) here

are_bounds : AreBounds chain 1 chain_bounds
are_bounds = tables_are_bounds chain is_in costs 1 process leads is_table refl refl refl

-- ---- the verdicts of the profiles

process_is : IsProcessOf chain 1
unfolding utf8_at
process_is = refl

pub has_bounds : HasChainBounds
has_bounds = (process_is, are_bounds)

not_recursive : IsRecursive chain → ⊥
not_recursive h = ranked_is_not_recursive chain ((λ j. 21 - j), ordered) h

pub steps_exceed : ClassStands First chain StepLimit
steps_exceed = refuses_more_steps chain 1 chain_bounds not_recursive process_is are_bounds (omega arith)

few : (measure : Cost → ℕ) (limit : ℕ) → ((k : Cost) → IsWithin k chain_bounds → measure k ≤ limit) → (j : ℕ) → IsProcessOf chain j → SomePathExceeds chain j measure limit → ⊥
few measure limit most j is (k, path, more) =
    let both : Some 1 ≡ Some j = sym process_is ∙ is in
    let one : j ≡ 1 = cc both in
    let within = are_bounds.none_exceeds k (subst (λ i. Path chain i 0 k) one path) in
    omega (arith, most k within, more)

within_limits : (j : ℕ) (r : Refusal) → IsProcessOf chain j → BoundStands Third chain j r → ⊥
within_limits j StepLimit is h = few (λ k. k.steps) (step_limit Third) (λ k w. omega (arith, w.steps)) j is h
within_limits j WordLimit is h = few (λ k. k.words) word_limit (λ k w. omega (arith, w.words)) j is h
within_limits j FrameLimit is (inl h) = few (λ k. k.slots) slot_limit (λ k w. omega (arith, w.slots)) j is h
within_limits j FrameLimit is (inr h) = few (λ k. k.depth) depth_limit (λ k w. omega (arith, w.depth)) j is h
within_limits j r is h = h

pub allows : (r : Refusal) → ClassStands Third chain r → ⊥
allows Recursive h = not_recursive h
allows r (calm, (j, is, h)) = within_limits j r is h
