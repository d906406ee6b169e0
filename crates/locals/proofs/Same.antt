-- Equality of types.
use Rattle.std.proofs.Common.{◌≡◌, ◌≢◌, Bool, true, false, List, length, take, drop, refl, sym, ap, ◌∙◌, MatchBool, rules}
use Rattle.std.specs.Prelude.{◌+◌, ◌≤◌, ℕ, Decides}
use Rattle.std.specs.Cmp.Lexicographic.{pointwise}
use Rattle.std.proofs.lemmas.Bool.Decides.{not_from_Decides}
use Rattle.std.proofs.lemmas.Slice.Eq.{slice_eq-Decides}
use denote.Enum.Bare.{same_true, true_same}
use Rattle.jtypes.specs.declared.types.RefType.{RefType}
use Rattle.jtypes.specs.contracts.types.RefType.{the_type}
use Rattle.jtypes.specs.declared.types.JType.{JType}
use Rattle.jtypes.specs.declared.types.JType.TheVariants.{Top, Int, Long, Null, Ref}
use Rattle.jtypes.specs.contracts.types.JTypePartialEq.TheImpl.{eq-value}
use Rattle.locals.specs.Written.{written}
use Rattle.locals.proofs.Writing.{has_written, written_there}

ref_same : (r s : RefType) → eq-value.it (Ref r) (Ref s) ≡ true → Ref r ≡ Ref s
ref_same r s e = ap Ref (same_true the_type (search rules) r s e)

one_same : (t u : JType) → eq-value.it t u ≡ true → t ≡ u
one_same Top Top e = refl
one_same Int Int e = refl
one_same Long Long e = refl
one_same Null Null e = refl
one_same (Ref r) (Ref s) e = ref_same r s e
one_same Top Int e = absurd (cc)
one_same Top Long e = absurd (cc)
one_same Top Null e = absurd (cc)
one_same Top (Ref s) e = absurd (cc)
one_same Int Top e = absurd (cc)
one_same Int Long e = absurd (cc)
one_same Int Null e = absurd (cc)
one_same Int (Ref s) e = absurd (cc)
one_same Long Top e = absurd (cc)
one_same Long Int e = absurd (cc)
one_same Long Null e = absurd (cc)
one_same Long (Ref s) e = absurd (cc)
one_same Null Top e = absurd (cc)
one_same Null Int e = absurd (cc)
one_same Null Long e = absurd (cc)
one_same Null (Ref s) e = absurd (cc)
one_same (Ref r) Top e = absurd (cc)
one_same (Ref r) Int e = absurd (cc)
one_same (Ref r) Long e = absurd (cc)
one_same (Ref r) Null e = absurd (cc)

type_same_self : (t : JType) → eq-value.it t t ≡ true
type_same_self Top = refl
type_same_self Int = refl
type_same_self Long = refl
type_same_self Null = refl
type_same_self (Ref r) = true_same the_type r r refl

type_decides : (t u : JType) → Decides (eq-value.it t u) (t ≡ u)
type_decides t u = (one_same t u, λ e. ap (λ x. eq-value.it t x) (sym e) ∙ type_same_self t)

-- the types from an index on equal these types exactly if a write of them there changes nothing
pub part_same : (row types : List JType) (at n : ℕ) (b : Bool) → at + length types ≤ length row → n ≡ length types → b ≡ pointwise eq-value.it (take n (drop at row)) types → MatchBool b (written row at types ≡ row) (written row at types ≢ row)
part_same row types at n b l k e = go b (slice_eq-Decides type_decides (take n (drop at row)) types b e)
  where
    go : (b : Bool) → Decides b (take n (drop at row) ≡ types) → MatchBool b (written row at types ≡ row) (written row at types ≢ row)
    go true d = has_written row types at (ap (λ m. take m (drop at row)) (sym k) ∙ d.0 refl)
    go false d = λ same. not_from_Decides false d refl (ap (λ m. take m (drop at row)) k ∙ ap (λ r. take (length types) (drop at r)) (sym same) ∙ written_there row types at l)
