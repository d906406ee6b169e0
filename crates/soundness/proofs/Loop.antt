-- A branch to itself never ends, and has no path that bounds it.
use Rattle.std.proofs.Common.{◌≡◌, ℕ, suc, ◌==◌, Bool, true, false, cond, List, [], ◌∷◌, Some, None, refl, sym, ap, ◌∙◌, subst, arith, inl, inr}
use Rattle.std.specs.Prelude.{ℤ, pos}
use Rattle.classfile.specs.View.{ClassView}
use Rattle.decode.specs.declared.instruction.Instruction.TheVariants as instruction
use Rattle.decode.specs.declared.instruction.Placed.{Placed}
use Rattle.decode.specs.Places.{IsTarget, is_return, AreConsecutive}
use Rattle.frames.specs.Frames.{Frame}
use Rattle.typecheck.specs.Typing.{Method, Class, IsTyping, IsFlow, instruction_at}
use Rattle.bounds.specs.Paths.{Bounds, Cost, Path, ends, jumps, falls, calls}
use Rattle.verdict.specs.Checked.{NoTop}
use Rattle.jtypes.specs.declared.loader.LoadAnswer.{LoadAnswer}
use Rattle.jtypes.specs.declared.loader.LoadAnswer.TheVariants as load
use Rattle.verdict.specs.Machine.{State, Goes, Ends, step, step_top, step_with, is_get_next, start_of, ReachesBy, here_by, onward_by}
use Rattle.soundness.proofs.Unasked.{unasked}
use Rattle.verdict.specs.Sound.{IsSafe}
use Rattle.soundness.specs.Example.{process, signature}
use Rattle.soundness.specs.Premises.{SoundnessOver}
use Rattle.soundness.specs.OtherPremises.{SomeIsNeverSafe, IsCheckedButForDirection, HasPlainSignature, HasRoom, DeclaresNoTop, HasLengths}
use Rattle.soundness.proofs.StraightCode.{placed, plain_call, each_at, one_at, EachOutcome, outcome_at, only_method, typed_methods, only_member, only_instance}
use Rattle.soundness.proofs.SmallClasses.{view_with, method_with, signed, frame, plain_params, plain_result, fits_frame, nothing}

abbrev again : Placed
again = placed 0 3 (instruction.Goto (pos 0))

abbrev view : ClassView
view = view_with []

abbrev method : Method
method = method_with signature 0 (again ∷ []) ((0, frame []) ∷ [])

abbrev class : Class
class = only_method view method

abbrev frames : List Frame
frames = frame [] ∷ []

to_start : (t : ℤ) → IsTarget again.instruction t → t ≡ pos 0
to_start t (inl e) = cc e
to_start t (inr (k, e)) = cc e

flow : IsFlow method frames again (frame [])
flow = record {
  branches = λ t h. (0, frame [], to_start t h, refl, fits_frame [] [] tt);
  falls = λ h. absurd cc;
  after = λ h k. absurd cc;
}

outcomes : EachOutcome view method frames method.code frames
outcomes = ((frame [], refl, flow), tt)

typing : IsTyping view method frames
typing = record {
  each_has_one = refl;
  first = fits_frame [] [] tt;
  stands = λ p d h. h;
  outcome = λ q p f h k. outcome_at view method frames method.code frames outcomes q p f h k;
  last = (again, refl, refl);
}

declares : DeclaresNoTop method
declares p d h = go (0 == p) h
  where
    go : (b : Bool) → cond b (Some (frame [])) None ≡ Some d → NoTop d.stack
    go true e = let is : [] ≡ d.stack = cc e in subst NoTop is tt
    go false e = absurd cc

formed : HasPlainSignature method × HasRoom method × DeclaresNoTop method × HasLengths method × AreConsecutive 0 method.code
formed = (
  (plain_params, plain_result),
  omega arith,
  declares,
  (λ q p k h e. absurd (each_at (λ p. p.instruction ≡ instruction.NewArray k → ⊥) method.code ((λ e. cc e), tt) q p h e)),
  (refl, omega arith, tt),
)

-- There is no path.
no_path : (j place : ℕ) (k : Cost) → Path class j place k → ⊥
no_path j place k (ends m p s r) =
    each_at (λ p. is_return p.instruction ≡ true → ⊥) method.code ((λ e. absurd cc), tt) place p (subst (λ (x : Method). instruction_at x place ≡ Some p) (sym (one_at method j m s.method)) s.instruction) r
no_path j place k (jumps {k = rest} m p q s to path) = no_path j q rest path
no_path j place k (falls {k = rest} m p s on none path) = no_path j p.next rest path
no_path j place k (calls {k = rest} m p callee s to inner path) = no_path j p.next rest path

abbrev first : State
first = start_of 0 method plain_call

-- The state after the branch is at the branch again.
abbrev after : State → State
after s = record { call = s.call; activations = first.activations; arrays = s.arrays; now = s.now; steps = suc s.steps; words = s.words }

goes_on : (s : State) → s.activations ≡ first.activations → step class s ≡ Some (Goes (after s))
goes_on s e = subst (λ a. step_top class s a ≡ Some (Goes (after s))) (sym e) refl

goes_with : (s : State) (a : LoadAnswer) → s.activations ≡ first.activations → step_with class a s ≡ Some (Goes (after s))
goes_with s a e = unasked class a s (ap (is_get_next class) e) ∙ goes_on s e

same_place : (s : State) → ReachesBy class load.None first s → s.activations ≡ first.activations
same_place s here_by = refl
same_place s (onward_by {t = t} r e) =
    let both : Some (Goes (after t)) ≡ Some (Goes s) = sym (goes_with t load.None (same_place t r)) ∙ e in
    let same : after t ≡ s = cc both in
    ap (λ (x : State). x.activations) (sym same)

never_ends : (b : Bounds) → IsSafe class b → ⊥
never_ends b h =
    let f = h.finishes plain_call load.None first refl in
    let no : Some (Goes (after f.last)) ≡ Some (Ends f.final) = sym (goes_with f.last load.None (same_place f.last f.reached)) ∙ f.ends in
    cc no

checked : IsCheckedButForDirection class
checked = (typed_methods view process method refl (signed []) frames typing (refl, tt), refl, (λ j w is. only_instance view process refl refl j w), only_member (λ m. HasPlainSignature m × HasRoom m × DeclaresNoTop m × HasLengths m × AreConsecutive 0 m.code) view method formed)

pub direction_is_needed : SoundnessOver IsCheckedButForDirection → ⊥
direction_is_needed law = never_ends nothing (law class 0 nothing checked refl (λ k p. absurd (no_path 0 0 k p)))

pub never_safe : SomeIsNeverSafe IsCheckedButForDirection
never_safe = (class, checked, never_ends)
