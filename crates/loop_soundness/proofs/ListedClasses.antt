-- A class whose nodes have a list is accepted with loops if no refusal applies before those of the nodes, and its bounds are within the limits.
use Rattle.std.proofs.Common.{◌≡◌, ◌≢◌, ℕ, ◌<◌, ◌≤◌, false, List, [], Some, refl, sym, ap, ◌∙◌, subst, arith, inl, inr}
use Rattle.std.specs.Prelude.{length, slice_get}
use Rattle.jtypes.specs.Profile.{Third}
use Rattle.jtypes.specs.declared.refusal.Refusal.{Refusal}
use Rattle.jtypes.specs.declared.refusal.Refusal.TheVariants.{BackwardBranch, Recursive, StepLimit, WordLimit, FrameLimit}
use Rattle.jtypes.proofs.Laws.{laid_out_once}
use Rattle.constpool.specs.Lookup.{Slot}
use Rattle.classfile.specs.declared.class_file.Parts.{Parts}
use Rattle.classfile.specs.Class.{class_file}
use Rattle.typecheck.specs.Typing.{Method, Class, IsProcessOf}
use Rattle.bounds.specs.Paths.{Cost, Bounds, IsWithin, step_limit, word_limit, slot_limit, depth_limit}
use Rattle.bounds.specs.Paths as places
use Rattle.verdict.specs.Shape.{ShapeStands}
use Rattle.verdict.specs.Verdict.{IsRefused, IsClassOf, IsClassFile, HasInstructions, InstructionsStand, TypesStand, IsClassOfFile, BoundStands, ClassStands}
use Rattle.verdict.specs.Verdict as verdict
use Rattle.verdict.proofs.Known.{none_beyond}
use Rattle.soundness.proofs.OneClass.{class_once}
use Rattle.unrolled.specs.Rules.{has_loops, rules_of}
use Rattle.unrolled.specs.Paths.{start_node, AreBounds}
use Rattle.unrolled.specs.Certificates.{Point}
use Rattle.unrolled.specs.Limits.{IsUnrolled}
use Rattle.unrolled.proofs.SameBounds.{bounds_are_kept}
use Rattle.unrolled.proofs.Unrolled.{unrolled_excludes}
use Rattle.loop_soundness.specs.Accepted.{AreListed, SomePathExceeds, NodesStand, ClassStandsWithLoops, IsRefusedWithLoops, as_before, by_types, by_class}
use Rattle.loop_soundness.specs.Promise.{AreWithinLimits, IsReadyForNodes, ListedIsAccepted}
use Rattle.loop_soundness.proofs.NoLoops.{file_has_no_loops}

module _ (bytes : List ℕ) (c : Class) (j : ℕ) (m : Method) (ks : List Point) (b : Bounds) (ready : IsReadyForNodes bytes c) (is : IsProcessOf c j) (known : slice_get c.methods j ≡ Some m) (u : IsUnrolled c j m ks) (are : AreBounds c (rules_of c) j (start_node (rules_of c) j m) b) (within : AreWithinLimits b) where
  -- ---- the bytes have one class

  one_file : (pool : List Slot) (p : Parts) → IsClassFile bytes pool p → (let x : List Slot × Parts = (pool, p) in x ≡ (ready.pool, ready.parts))
  one_file pool p file = (laid_out_once (class_file (length bytes)) bytes [] bytes [] (pool, p) (ready.pool, ready.parts) file.laid_out ready.file.laid_out refl).2

  same_class : (pool : List Slot) (p : Parts) (d : Class) → IsClassFile bytes pool p → IsClassOfFile Third pool p d → d ≡ c
  same_class pool p d file of =
      let here : IsClassOfFile Third ready.pool ready.parts d = subst (λ (x : List Slot × Parts). IsClassOfFile Third x.0 x.1 d) (one_file pool p file) of in
      class_once Third ready.pool ready.parts d c here ready.class

  same_index : (i : ℕ) → IsProcessOf c i → i ≡ j
  same_index i other = let both : Some i ≡ Some j = sym other ∙ is in cc both

  -- ---- no refusal of the nodes applies

  not_more : (limit n : ℕ) (k : ℕ) → limit < k → k ≤ n → n ≤ limit → ⊥
  not_more limit n k more few low = omega (arith, more, few, low)

  no_more_steps : SomePathExceeds c j m (λ k. k.steps) (step_limit Third) → ⊥
  no_more_steps (k, path, more) = not_more (step_limit Third) b.steps k.steps more (are.none_exceeds k path).steps within.steps

  no_more_words : SomePathExceeds c j m (λ k. k.words) word_limit → ⊥
  no_more_words (k, path, more) = not_more word_limit b.words k.words more (are.none_exceeds k path).words within.words

  no_more_slots : SomePathExceeds c j m (λ k. k.slots) slot_limit → ⊥
  no_more_slots (k, path, more) = not_more slot_limit b.slots k.slots more (are.none_exceeds k path).slots within.slots

  no_more_depth : SomePathExceeds c j m (λ k. k.depth) depth_limit → ⊥
  no_more_depth (k, path, more) = not_more depth_limit b.depth k.depth more (are.none_exceeds k path).depth within.depth

  no_node : (r : Refusal) → NodesStand c j m r → ⊥
  no_node BackwardBranch (inl circle) = (unrolled_excludes c j m ks u).0 circle
  no_node BackwardBranch (inr large) = (unrolled_excludes c j m ks u).1 large
  no_node StepLimit h = no_more_steps h.1
  no_node WordLimit h = no_more_words h.1
  no_node FrameLimit (listed, inl h) = no_more_slots h
  no_node FrameLimit (listed, inr h) = no_more_depth h
  no_node r h = h

  no_node_of : (i : ℕ) (n : Method) → IsProcessOf c i → slice_get c.methods i ≡ Some n → (r : Refusal) → NodesStand c i n r → ⊥
  no_node_of i n other there r h =
      let index : i ≡ j = same_index i other in
      let both : Some n ≡ Some m = sym there ∙ ap (slice_get c.methods) index ∙ known in
      let method : n ≡ m = cc both in
      no_node r (subst (λ (x : Method). NodesStand c j x r) method (subst (λ x. NodesStand c x n r) index h))

  no_class : (r : Refusal) → ClassStandsWithLoops c r → ⊥
  no_class Recursive h = ready.not_recursive h
  no_class r (ranked, (i, n, other, there, h)) = no_node_of i n other there r h

  -- ---- nor one of the third profile, except that of a branch that leads back

  module _ (instructions : HasInstructions Third ready.pool ready.parts) where
    no_loops : has_loops c.methods ≡ false
    no_loops = file_has_no_loops ready.pool ready.parts ready.shape instructions c ready.class

    over_places : (k : Cost) → places.Path c j 0 k → IsWithin k b
    over_places = ((bounds_are_kept c j m b no_loops known).0 are).none_exceeds

    no_bound : (r : Refusal) → BoundStands Third c j r → ⊥
    no_bound StepLimit (k, path, more) = not_more (step_limit Third) b.steps k.steps more (over_places k path).steps within.steps
    no_bound WordLimit (k, path, more) = not_more word_limit b.words k.words more (over_places k path).words within.words
    no_bound FrameLimit (inl (k, path, more)) = not_more slot_limit b.slots k.slots more (over_places k path).slots within.slots
    no_bound FrameLimit (inr (k, path, more)) = not_more depth_limit b.depth k.depth more (over_places k path).depth within.depth
    no_bound r h = h

    no_class_before : (r : Refusal) → ClassStands Third c r → ⊥
    no_class_before Recursive h = ready.not_recursive h
    no_class_before r (ranked, (i, other, h)) = no_bound r (subst (λ x. BoundStands Third c x r) (same_index i other) h)

  not_before : (r : Refusal) → r ≢ BackwardBranch → IsRefused Third bytes r → ⊥
  not_before r other (verdict.by_layout s) = ready.file.none_stands r s
  not_before r other (verdict.by_shape pool p file s) = ready.shape.none_stands r (subst (λ (x : List Slot × Parts). ShapeStands x.0 x.1 r) (one_file pool p file) s)
  not_before r other (verdict.by_instructions pool p file shape s) = ready.instructions.none_else r other (subst (λ (x : List Slot × Parts). InstructionsStand Third x.0 x.1 r) (one_file pool p file) s)
  not_before r other (verdict.by_types pool p file shape instructions s) = ready.types.none_stands r (subst (λ (x : List Slot × Parts). TypesStand Third x.0 x.1 r) (one_file pool p file) s)
  not_before r other (verdict.by_class pool p d file shape instructions types of s) =
      let here : HasInstructions Third ready.pool ready.parts = subst (λ (x : List Slot × Parts). HasInstructions Third x.0 x.1) (one_file pool p file) instructions in
      no_class_before here r (subst (λ (x : Class). ClassStands Third x r) (same_class pool p d file of) s)
  not_before r other (verdict.by_names pool p file before s) = none_beyond pool p r s

  none_stands : (r : Refusal) → IsRefusedWithLoops bytes r → ⊥
  none_stands r (as_before s other) = not_before r other s
  none_stands r (by_types pool p file shape instructions s) = ready.types.none_stands r (subst (λ (x : List Slot × Parts). TypesStand Third x.0 x.1 r) (one_file pool p file) s)
  none_stands r (by_class pool p d file shape instructions types of s) = no_class r (subst (λ (x : Class). ClassStandsWithLoops x r) (same_class pool p d file of) s)

  listed : (d : Class) (i : ℕ) (n : Method) → IsClassOf Third bytes d → IsProcessOf d i → slice_get d.methods i ≡ Some n → AreListed d i n
  listed d i n of other there =
      let same : d ≡ c = same_class of.pool of.parts d of.file of.class in
      subst (λ (x : Class). IsProcessOf x i → slice_get x.methods i ≡ Some n → AreListed x i n) (sym same) here other there
    where
      here : IsProcessOf c i → slice_get c.methods i ≡ Some n → AreListed c i n
      here at method loops =
          let index : i ≡ j = same_index i at in
          let both : Some n ≡ Some m = sym method ∙ ap (slice_get c.methods) index ∙ known in
          let one : n ≡ m = cc both in
          (ks, subst (λ x. IsUnrolled c x n ks) (sym index) (subst (λ (x : Method). IsUnrolled c j x ks) (sym one) u))

pub listed_is_accepted : ListedIsAccepted
listed_is_accepted bytes c j m ks b ready is known u are within = record {
  none_stands = none_stands bytes c j m ks b ready is known u are within;
  listed = listed bytes c j m ks b ready is known u are within;
}
