-- What the code follows is what the definitions follow, and the calls of instructions.
use Rattle.std.proofs.Common.{◌≡◌, ℕ, Bool, List, Option, Some, refl, sym, ap, ◌∙◌}
use Rattle.std.proofs.Math.Path.{fun_ext}
use Rattle.std.specs.Prelude.{slice_get}
use Rattle.classfile.specs.View.{ClassView}
use Rattle.decode.specs.declared.instruction.Instruction.{Instruction}
use Rattle.decode.specs.declared.instruction.Instruction.TheVariants as instruction
use Rattle.frames.specs.declared.members.Callee.{Callee}
use Rattle.transfer.specs.Transfer.{IsCalleeOf}
use Rattle.typecheck.specs.Typing.{Class, call_of, own_of}
use Rattle.typecheck.specs.Calls.{called_by}
use Rattle.typecheck.specs.declared.typed.Typed.{Typed}
use Rattle.unrolled.specs.Known.{Known}
use Rattle.unrolled.specs.Graph.{Following, taken, arguments_by}
use Rattle.unrolled.specs.Rules.{rules_of, tested_in, is_tested}
use Rattle.search.specs.declared.node.Following as plain
use Rattle.search.specs.Seen.{following_seen}
use Rattle.search.specs.Followed.{AreFollowings}
use Rattle.loop_bounds.specs.Methods.{AreMethodsOf}

following_by : (v w : Bool) (f g : ℕ → Bool) → v ≡ w → f ≡ g → ◌≡◌ {A = Following} (record { values = v; ints = f }) (record { values = w; ints = g })
following_by v w f g e h = cc (e, h)

pub followed : (c : Class) (rows : List Typed) (fs : List plain.Following) (i : ℕ) (row : Typed) (f : plain.Following) → AreMethodsOf c rows → AreFollowings rows fs
    → slice_get rows i ≡ Some row → slice_get fs i ≡ Some f → rules_of c row.number ≡ following_seen f
followed c rows fs i row f are follow r g =
    let is = follow.each i row f r g in
    let m = (are.each i row r).method in
    following_by _ _ _ _ (are.loops ∙ sym is.values) (fun_ext (λ n. ap (tested_in n) m.1 ∙ ap (is_tested n) m.3 ∙ sym (is.ints n)))

-- what a call reaches and takes, by the method that it resolves to
pub record IsByCall (v : ClassView) (i : Instruction) : Type 0 where
  pub own : call_of v i ≡ own_of (called_by v i)
  pub taken : (ks : List Known) → arguments_by v i ks ≡ taken (called_by v i) ks
  pub is : (o : Option Callee) → o ≡ called_by v i → IsCalleeOf v i o

pub by_call : (v : ClassView) (i : Instruction) → IsByCall v i
by_call v instruction.Nop = record { own = refl; taken = λ ks. refl; is = λ o e. tt }
by_call v (instruction.Push p) = record { own = refl; taken = λ ks. refl; is = λ o e. tt }
by_call v (instruction.Load k n) = record { own = refl; taken = λ ks. refl; is = λ o e. tt }
by_call v (instruction.Store k n) = record { own = refl; taken = λ ks. refl; is = λ o e. tt }
by_call v (instruction.Increment n by) = record { own = refl; taken = λ ks. refl; is = λ o e. tt }
by_call v (instruction.Operate o) = record { own = refl; taken = λ ks. refl; is = λ o e. tt }
by_call v (instruction.Rearrange r) = record { own = refl; taken = λ ks. refl; is = λ o e. tt }
by_call v (instruction.Branch t z) = record { own = refl; taken = λ ks. refl; is = λ o e. tt }
by_call v (instruction.Goto z) = record { own = refl; taken = λ ks. refl; is = λ o e. tt }
by_call v (instruction.Switch z cases) = record { own = refl; taken = λ ks. refl; is = λ o e. tt }
by_call v (instruction.Return k) = record { own = refl; taken = λ ks. refl; is = λ o e. tt }
by_call v instruction.ReturnVoid = record { own = refl; taken = λ ks. refl; is = λ o e. tt }
by_call v (instruction.Throw e text) = record { own = refl; taken = λ ks. refl; is = λ o e. tt }
by_call v (instruction.Invoke k i) = record { own = refl; taken = λ ks. refl; is = λ o e. e }
by_call v (instruction.NewArray k) = record { own = refl; taken = λ ks. refl; is = λ o e. tt }
by_call v (instruction.ArrayLoad k) = record { own = refl; taken = λ ks. refl; is = λ o e. tt }
by_call v (instruction.ArrayStore k) = record { own = refl; taken = λ ks. refl; is = λ o e. tt }
by_call v instruction.ReferenceLoad = record { own = refl; taken = λ ks. refl; is = λ o e. tt }
by_call v instruction.ArrayLength = record { own = refl; taken = λ ks. refl; is = λ o e. tt }
by_call v (instruction.CheckCast i) = record { own = refl; taken = λ ks. refl; is = λ o e. tt }
by_call v (instruction.InstanceOf i) = record { own = refl; taken = λ ks. refl; is = λ o e. tt }
