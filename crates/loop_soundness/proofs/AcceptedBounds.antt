-- A class that is accepted with loops has bounds over nodes, within the limits, and is safe within them.
use Rattle.std.proofs.Common.{◌≡◌, ℕ, ◌<◌, ◌≤◌, Bool, true, false, List, Some, refl, ap, ◌∙◌, arith, ◌⊎◌, inl, inr}
use Rattle.std.specs.Prelude.{slice_get, not, is_some, IsSome}
use Rattle.std.proofs.lemmas.Bool.{false_from_ne_true, cases_lt}
use Rattle.jtypes.specs.Profile.{Third}
use Rattle.jtypes.specs.declared.refusal.Refusal.TheVariants.{StepLimit, WordLimit, FrameLimit}
use Rattle.jtypes.specs.Lists.{same_bytes}
use Rattle.constpool.specs.Names.{init_name}
use Rattle.typecheck.specs.Typing.{Method, Class, IsProcessOf, instruction_at}
use Rattle.bounds.specs.Paths.{Cost, Bounds, step_limit, word_limit, slot_limit, depth_limit}
use Rattle.bounds.specs.Paths as places
use Rattle.bounds.specs.Table.{bounds_of}
use Rattle.bounds.proofs.Greatest.{tables_are_bounds}
use Rattle.bounds.proofs.FilledTables.{each_has_table}
use Rattle.verdict.specs.Verdict.{IsClassOf}
use Rattle.verdict.specs.Checked.{IsChecked, is_other, members}
use Rattle.verdict.specs.Sound.{IsSafe}
use Rattle.verdict.proofs.Texts.{same_is}
use Rattle.soundness.proofs.Callees.{HasSignatures, entry_by}
use Rattle.soundness.proofs.PathsExist.{starts_inside}
use Rattle.soundness.proofs.BoundsExist.{checked_leads_on}
use Rattle.soundness.proofs.SafeRuns.{without_room, type_soundness}
use Rattle.unrolled.specs.Rules.{has_loops, rules_of}
use Rattle.unrolled.specs.Paths.{start_node, AreBounds, SomePathTakes}
use Rattle.unrolled.proofs.SameBounds.{bounds_are_kept}
use Rattle.unrolled.proofs.Unrolled.{unrolled_has_bounds}
use Rattle.loop_soundness.specs.Sound.{IsSafeWithArguments}
use Rattle.loop_soundness.specs.Accepted.{AreListed, SomePathExceeds, IsAcceptedWithLoops, by_class}
use Rattle.loop_soundness.specs.Promise.{AreWithinLimits, HasBoundsWithin, AcceptedHasBounds, AcceptedIsSafe}
use Rattle.loop_soundness.proofs.ShapedClasses.{shaped_process, method_of_process}
use Rattle.loop_soundness.proofs.AcceptedClasses.{shape, instructions, types, not_recursive, checked_with_loops, checked_forward}
use Rattle.loop_soundness.proofs.Safe.{sound_unrolled}

-- ---- safety

with_arguments : (c : Class) (b : Bounds) → IsSafe c b → IsSafeWithArguments c b
with_arguments c b safe = record {
  never_stuck = λ call s t few e r. safe.never_stuck call s t e r;
  alone = λ call s t few e r. safe.alone call s t e r;
  stays = λ call s t few e r. safe.stays call s t e r;
  finishes = λ call a s few e. safe.finishes call a s e;
}

pub accepted_is_safe : AcceptedIsSafe
accepted_is_safe bytes c j m b ok of is known are = go (has_loops c.methods) refl
  where
    go : (loops : Bool) → has_loops c.methods ≡ loops → IsSafeWithArguments c b
    go true e = let u = ok.listed c j m of is known e in sound_unrolled c j m u.0 b (checked_with_loops bytes ok c of) u.1 is known are
    go false e =
        let same = (bounds_are_kept c j m b e known).0 are in
        with_arguments c b (type_soundness c j b (checked_forward bytes ok c of e) is same.none_exceeds)

-- ---- bounds

-- The start of `process` in a checked class.
pub record HasStart (c : Class) (j : ℕ) (m : Method) : Type 0 where
  pub member : members c j ≡ true
  pub starts : IsSome (instruction_at m 0)

pub process_starts : (c : Class) (j : ℕ) (m : Method) → IsChecked c → IsProcessOf c j → slice_get c.methods j ≡ Some m → HasStart c j m
process_starts c j m ok is known =
    let signed : HasSignatures c = record { named = ok.named; instance = ok.instance; count = ok.count; signed = ok.signed } in
    let entry = entry_by c signed j m is known in
    let other = false_from_ne_true (same_bytes entry.view.name init_name) (λ e. entry.member.other (same_is entry.view.name init_name e)) in
    record {
      member = ap is_other entry.member.view ∙ ap not other;
      starts = ap is_some (starts_inside c (without_room c ok) j entry.view m entry.member).1;
    }

forward_bounds : (c : Class) (j : ℕ) (m : Method) → IsChecked c → IsProcessOf c j → slice_get c.methods j ≡ Some m → (b : Bounds) × places.AreBounds c j b
forward_bounds c j m ok is known =
    let start = process_starts c j m ok is known in
    let on = checked_leads_on c ok in
    let table = each_has_table c (members c) on in
    (bounds_of (table.0 j 0), tables_are_bounds c (members c) table.0 j m on table.1 start.member known start.starts)

-- A measure that no path exceeds is within the limit.
within_limit : (c : Class) (j : ℕ) (m : Method) (measure : Cost → ℕ) (limit n : ℕ) → SomePathTakes c (rules_of c) j (start_node (rules_of c) j m) measure n → (SomePathExceeds c j m measure limit → ⊥) → n ≤ limit
within_limit c j m measure limit n path none = go (cases_lt limit n)
  where
    go : (limit < n) ⊎ (n ≤ limit) → n ≤ limit
    go (inr l) = l
    go (inl l) = let more : limit < measure path.0 = (let same = path.2 in omega (arith, l, same)) in absurd (none (path.0, path.1, more))

module _ (bytes : List ℕ) (c : Class) (ok : IsAcceptedWithLoops bytes) (of : IsClassOf Third bytes c) (j : ℕ) (m : Method) (is : IsProcessOf c j) (known : slice_get c.methods j ≡ Some m) where
  listed : AreListed c j m
  listed = ok.listed c j m of is known

  some_bounds : (loops : Bool) → has_loops c.methods ≡ loops → (b : Bounds) × AreBounds c (rules_of c) j (start_node (rules_of c) j m) b
  some_bounds true e = let u = listed e in unrolled_has_bounds c j m u.0 u.1
  some_bounds false e =
      let b = forward_bounds c j m (checked_forward bytes ok c of e) is known in
      (b.0, (bounds_are_kept c j m b.0 e known).1 b.1)

  no_steps : SomePathExceeds c j m (λ k. k.steps) (step_limit Third) → ⊥
  no_steps more = ok.none_stands StepLimit (by_class of.pool of.parts c of.file (shape bytes ok c of) (instructions bytes ok c of) (types bytes ok c of) of.class (not_recursive bytes ok c of, (j, m, is, known, (listed, more))))

  no_words : SomePathExceeds c j m (λ k. k.words) word_limit → ⊥
  no_words more = ok.none_stands WordLimit (by_class of.pool of.parts c of.file (shape bytes ok c of) (instructions bytes ok c of) (types bytes ok c of) of.class (not_recursive bytes ok c of, (j, m, is, known, (listed, more))))

  no_frames : SomePathExceeds c j m (λ k. k.slots) slot_limit ⊎ SomePathExceeds c j m (λ k. k.depth) depth_limit → ⊥
  no_frames more = ok.none_stands FrameLimit (by_class of.pool of.parts c of.file (shape bytes ok c of) (instructions bytes ok c of) (types bytes ok c of) of.class (not_recursive bytes ok c of, (j, m, is, known, (listed, more))))

  bounds_within : (b : Bounds) → AreBounds c (rules_of c) j (start_node (rules_of c) j m) b → AreWithinLimits b
  bounds_within b are = record {
    steps = within_limit c j m (λ k. k.steps) (step_limit Third) b.steps are.steps no_steps;
    words = within_limit c j m (λ k. k.words) word_limit b.words are.words no_words;
    slots = within_limit c j m (λ k. k.slots) slot_limit b.slots are.slots (λ more. no_frames (inl more));
    depth = within_limit c j m (λ k. k.depth) depth_limit b.depth are.depth (λ more. no_frames (inr more));
  }

  has_bounds : HasBoundsWithin c
  has_bounds =
      let b = some_bounds (has_loops c.methods) refl in
      record { number = j; method = m; bounds = b.0; process = is; known = known; are = b.1; within = bounds_within b.0 b.1 }

pub accepted_has_bounds : AcceptedHasBounds
accepted_has_bounds bytes c ok of =
    let process = shaped_process bytes c of (shape bytes ok c of) in
    let m = method_of_process bytes c of (shape bytes ok c of) process.0 process.1 in
    has_bounds bytes c ok of process.0 m.0 process.1 m.1
