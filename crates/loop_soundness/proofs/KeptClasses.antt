-- A class that the third profile accepts has no branch that leads back, and is accepted with loops.
use Rattle.std.proofs.Common.{◌≡◌, ℕ, false, List, Some, sym, ◌∙◌, subst, inl, inr}
use Rattle.std.specs.Prelude.{slice_get}
use Rattle.std.proofs.lemmas.Bool.{false≢true}
use Rattle.jtypes.specs.Profile.{Third}
use Rattle.jtypes.specs.declared.refusal.Refusal.{Refusal}
use Rattle.jtypes.specs.declared.refusal.Refusal.TheVariants.{BackwardBranch, Recursive, StepLimit, WordLimit, FrameLimit}
use Rattle.constpool.specs.Lookup.{Slot}
use Rattle.classfile.specs.declared.class_file.Parts.{Parts}
use Rattle.typecheck.specs.Typing.{Method, Class, IsProcessOf}
use Rattle.bounds.specs.Paths.{Cost, step_limit, word_limit, slot_limit, depth_limit}
use Rattle.bounds.specs.Paths as places
use Rattle.verdict.specs.Verdict.{IsAccepted, IsClassOf, IsClassFile, HasShape, HasInstructions, InstructionStands, InstructionsStand, HasTypes, IsMethodOf, IsClassOfFile, BoundStands, ClassStands}
use Rattle.verdict.specs.Verdict as verdict
use Rattle.verdict.specs.Checked.{IsChecked, members}
use Rattle.soundness.proofs.AcceptedRanks.{accepted_has_ranks}
use Rattle.soundness.proofs.TypedMethods.{accepted_is_checked}
use Rattle.soundness.proofs.BoundsExist.{checked_leads_on}
use Rattle.unrolled.specs.Rules.{has_loops, rules_of}
use Rattle.unrolled.specs.Paths.{start_node}
use Rattle.unrolled.specs.Limits.{start_point, IsTooLarge, by_nodes, by_values}
use Rattle.unrolled.specs.Circles.{IsCircle}
use Rattle.unrolled.proofs.Edges.{arrive_place}
use Rattle.unrolled.proofs.Forward.{forward_is_covered}
use Rattle.unrolled.proofs.SameBounds.{to_places, bounds_are_kept}
use Rattle.loop_soundness.specs.Accepted.{SomePathExceeds, NodesStand, ClassStandsWithLoops, IsRefusedWithLoops, as_before, by_types, by_class}
use Rattle.loop_soundness.specs.Promise.{AcceptedIsKept, AcceptedKeepsBounds}
use Rattle.loop_soundness.proofs.NoLoops.{file_has_no_loops}
use Rattle.loop_soundness.proofs.CoverExcludes.{cover_has_no_circle}
use Rattle.loop_soundness.proofs.AcceptedBounds.{process_starts}

module _ (bytes : List ℕ) (ok : IsAccepted Third bytes) (pool : List Slot) (p : Parts) (file : IsClassFile bytes pool p) where
  shape : HasShape pool p
  shape = record { none_stands = λ r s. ok r (verdict.by_shape pool p file s) }

  instructions : HasInstructions Third pool p
  instructions = record { none_stands = λ r s. ok r (verdict.by_instructions pool p file shape s) }

  types : HasTypes Third pool p
  types = record { none_stands = λ r s. ok r (verdict.by_types pool p file shape instructions s) }

  class_of : (c : Class) → IsClassOfFile Third pool p c → IsClassOf Third bytes c
  class_of c of = record { pool = pool; parts = p; file = file; class = of }

  checked : (c : Class) → IsClassOfFile Third pool p c → IsChecked c
  checked c of = let ranks = accepted_has_ranks bytes c ok (class_of c of) in accepted_is_checked bytes c ranks.0 ok (class_of c of) ranks.1

  no_circle : (c : Class) → IsClassOfFile Third pool p c → (j : ℕ) (m : Method) → IsProcessOf c j → slice_get c.methods j ≡ Some m → IsCircle c (rules_of c) (start_point c j m) → ⊥
  no_circle c of j m is known =
      let start = process_starts c j m (checked c of) is known in
      let w = forward_is_covered c (rules_of c) (members c) (checked_leads_on c (checked c of)) in
      cover_has_no_circle c (rules_of c) w.inside w.rank w.cover (start_point c j m) (w.starts j m start.member known start.starts)

  no_loops : (c : Class) → IsClassOfFile Third pool p c → has_loops c.methods ≡ false
  no_loops c of = file_has_no_loops pool p shape instructions c of

  not_large : (c : Class) → IsClassOfFile Third pool p c → (j : ℕ) (m : Method) → IsTooLarge c j m → ⊥
  not_large c of j m (by_nodes xs loops reached more) = false≢true (sym (no_loops c of) ∙ loops)
  not_large c of j m (by_values xs loops reached more) = false≢true (sym (no_loops c of) ∙ loops)

  over_places : (c : Class) (j : ℕ) (m : Method) (measure : Cost → ℕ) (limit : ℕ) → SomePathExceeds c j m measure limit → places.SomePathExceeds c j measure limit
  over_places c j m measure limit (k, path, more) =
      let at_start : (start_node (rules_of c) j m).place ≡ 0 = arrive_place (rules_of c j) _ in
      (k, subst (λ q. places.Path c j q k) at_start (to_places c (rules_of c) path), more)

  nodes_stand : (c : Class) → IsClassOfFile Third pool p c → (j : ℕ) (m : Method) → IsProcessOf c j → slice_get c.methods j ≡ Some m → (r : Refusal) → NodesStand c j m r → BoundStands Third c j r
  nodes_stand c of j m is known BackwardBranch (inl h) = absurd (no_circle c of j m is known h)
  nodes_stand c of j m is known BackwardBranch (inr h) = absurd (not_large c of j m h)
  nodes_stand c of j m is known StepLimit h = over_places c j m (λ k. k.steps) (step_limit Third) h.1
  nodes_stand c of j m is known WordLimit h = over_places c j m (λ k. k.words) word_limit h.1
  nodes_stand c of j m is known FrameLimit (listed, inl h) = inl (over_places c j m (λ k. k.slots) slot_limit h)
  nodes_stand c of j m is known FrameLimit (listed, inr h) = inr (over_places c j m (λ k. k.depth) depth_limit h)
  nodes_stand c of j m is known r h = absurd h

  class_stands : (c : Class) → IsClassOfFile Third pool p c → (r : Refusal) → ClassStandsWithLoops c r → ClassStands Third c r
  class_stands c of Recursive h = h
  class_stands c of r (ranked, (j, m, is, known, h)) = (ranked, (j, is, nodes_stand c of j m is known r h))

pub kept_has_no_loops : (bytes : List ℕ) (c : Class) → IsAccepted Third bytes → IsClassOf Third bytes c → has_loops c.methods ≡ false
kept_has_no_loops bytes c ok of = no_loops bytes ok of.pool of.parts of.file c of.class

not_refused : (bytes : List ℕ) → IsAccepted Third bytes → (r : Refusal) → IsRefusedWithLoops bytes r → ⊥
not_refused bytes ok r (as_before s other) = ok r s
not_refused bytes ok r (by_types pool p file _ _ s) = (types bytes ok pool p file).none_stands r s
not_refused bytes ok r (by_class pool p c file _ _ _ of s) =
    ok r (verdict.by_class pool p c file (shape bytes ok pool p file) (instructions bytes ok pool p file) (types bytes ok pool p file) of (class_stands bytes ok pool p file c of r s))

pub accepted_is_kept : AcceptedIsKept
accepted_is_kept bytes ok = record {
  none_stands = not_refused bytes ok;
  listed = λ c j m of is known loops. absurd (false≢true (sym (kept_has_no_loops bytes c ok of) ∙ loops));
}

pub accepted_keeps_bounds : AcceptedKeepsBounds
accepted_keeps_bounds bytes c j m b ok of known = bounds_are_kept c j m b (kept_has_no_loops bytes c ok of) known
