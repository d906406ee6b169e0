use Rattle.std.proofs.Common.{◌≡◌, ◌<◌, ◌+◌, ◌++◌, ◌∷◌, [], length, Some, sym, ap, subst, ◌∙◌, arith, rules}
use Rattle.std.specs.Prelude.{slice_get, IfSome}
use Rattle.frames.specs.declared.signed.SignedMethod.{SignedMethod}
use Rattle.frames.specs.Signatures.{method_signature}
use Rattle.frames.specs.Signed.{method_of, IsNamesake}
use Rattle.frames.proofs.Methods.{none_within}
use Rattle.frames.proofs.Named.{AreSignedTo, one_more}
use Rattle.frames.proofs.signed.signed.Goals.{in-Some+in_ok-method_signature+in_ok-push, in_default}
use Rattle.frames.proofs.signed.signed.Goals as goal

pub loop-k-preserved : goal.loop-k-preserved
loop-k-preserved c =
    elim c.match-method.branch [
      | in-Some+in_ok-method_signature+in_ok-push w ↦
          let v = c.args.class.now in
          let s : SignedMethod = record { method = w.in-Some.method; signature = w.in_ok-method_signature.field-0; namesake = w.namesake.result } in
          let at : slice_get v.methods c.loop-k.k ≡ Some (method_of s) = search rules in
          let signature : s.signature ≡ method_signature v (method_of s) = search rules in
          let namesake : IfSome s.namesake (IsNamesake c.loop-k.methods.items s.method.name.now) = subst (λ ms. IfSome s.namesake (IsNamesake ms s.method.name.now)) w.deref.ensures.value w.namesake.ensures in
          let pushed : c.match-method.methods.items ≡ c.loop-k.methods.items ++ s ∷ [] = search rules in
          subst (AreSignedTo v (c.loop-k.k + 1)) (sym pushed) (one_more v c.loop-k.k c.loop-k.methods.items s c.loop-k.invariant at signature namesake)
      | in_default w ↦
          let within : c.loop-k.k < length c.args.class.now.methods = omega (arith, c.method_count-k-end.ensures) in
          absurd (none_within c.args.class.now.methods c.loop-k.k within (sym w.in_default.ensures))
    ]
