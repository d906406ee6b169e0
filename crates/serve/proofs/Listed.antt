-- A list of outcomes is at most as long as the list of its keys.
use Rattle.std.proofs.Common.{◌≤◌, List, [], ◌∷◌, ℤ, Option, Some, None, length, length-append, arith}
use Rattle.jtypes.specs.declared.types.Arg.TheVariants as arg
use Rattle.jtypes.specs.declared.types.Outcome.TheVariants.{Returned, Threw}
use Rattle.stripe.specs.declared.call.Reply.{Reply as Answer}
use Rattle.stripe.specs.declared.call.Reply.TheVariants as answer
use Rattle.serve.specs.Rounds.{listed, all_listed}

one_listed : (k : ℤ) (a : Option Answer) → length (listed k a) ≤ 1
one_listed k None = omega arith
one_listed k (Some (answer.Result (Returned arg.Null))) = omega arith
one_listed k (Some (answer.Result (Returned (arg.Long n)))) = omega arith
one_listed k (Some (answer.Result (Returned (arg.Integer n)))) = omega arith
one_listed k (Some (answer.Result (Returned (arg.Boolean n)))) = omega arith
one_listed k (Some (answer.Result (Threw f))) = omega arith
one_listed k (Some answer.Done) = omega arith
one_listed k (Some (answer.Value v)) = omega arith
one_listed k (Some (answer.Flag b)) = omega arith

pub few_listed : (answers : List (Option Answer)) (keys : List ℤ) → length (all_listed answers keys) ≤ length keys
few_listed answers [] = omega arith
few_listed [] (k ∷ ks) = omega (arith, few_listed [] ks, one_listed k None, length-append (listed k None) (all_listed [] ks))
few_listed (a ∷ answers) (k ∷ ks) = omega (arith, few_listed answers ks, one_listed k a, length-append (listed k a) (all_listed answers ks))
