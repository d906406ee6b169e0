-- The example round is done, and a round with a value that no call stored isn't.
use Rattle.std.proofs.Common.{arith, ◌≡◌, ℕ, zero, suc, pos, Bool, true, false, List, [], ◌∷◌, All, Option, Some, None, unwrap_or, if◌then◌else◌, IsPermutation, refl, sym, ap, subst}
use Rattle.std.proofs.lemmas.List.Elements.{All-cons, All-nil, All-head}
use Rattle.std.proofs.lemmas.List.Sorted.{IsPermutation-middle, All-permutation, length_permutation}
use Rattle.std.specs.Ordering.{int_eq}
use Rattle.stripe.specs.declared.call.Reply.{Reply}
use Rattle.stripe.specs.declared.call.Reply.TheVariants.{Done, Value, Flag}
use Rattle.stripe.specs.History.{Call, Get, Put, Contains, Record, Answers, IsLegal, AreGiven}
use Rattle.stripe.specs.Kept.{may_make}
use Rattle.round_outcome.specs.Outcome.{IsDone, AreRefused, calls_in}
use Rattle.round_outcome.specs.Example.{no_answers, no_entries, round, replies, round_history, left_by_round, NoValueFromNowhere}

pub round_is_done : IsDone false no_answers no_entries round replies left_by_round
round_is_done =
    record {
      count = refl;
      refused = put_refused;
      history = round_history;
      is = record {
        legal = ((refl, refl, refl), ((refl, refl, refl), ((refl, refl, refl), tt)));
        given = none_asked;
        once = IsPermutation-middle ((Get (pos 1), Value (Some (pos 7))) ∷ []) (Put (pos 1) (pos 7), Done) ((Contains (pos 1), Flag true) ∷ []);
        left = λ k. by (int_eq (pos 1) k);
      };
    }
  where
    -- Only the second `put` has no reply.
    put_refused : AreRefused false round replies
    put_refused zero call is none = absurd (cc)
    put_refused (suc zero) call is none = absurd (cc)
    put_refused (suc (suc zero)) call is none = ap (λ (c : Option Call). may_make false (unwrap_or c (Put (pos 2) (pos 5)))) (sym is)
    put_refused (suc (suc (suc zero))) call is none = absurd (cc)
    put_refused (suc (suc (suc (suc k)))) call is none = absurd (cc)

    none_asked : AreGiven no_answers round_history
    none_asked zero d h = tt
    none_asked (suc zero) d h = tt
    none_asked (suc (suc zero)) d h = tt
    none_asked (suc (suc (suc k))) d h = absurd (omega (arith, h))

    by : (b : Bool) → (if b then Some (pos 7) else None) ≡ (if b then Some (pos 7) else (if b then Some (pos 7) else (if b then Some (pos 7) else None)))
    by true = refl
    by false = refl

-- The call and its reply.
abbrev told : Call × Reply
told = (Get (pos 1), Value (Some (pos 7)))

pub no_value_from_nowhere : NoValueFromNowhere
no_value_from_nowhere after d = by d.history d.is.legal d.is.once
  where
    wrong : Value (Some (pos 7)) ≡ Value None → ⊥
    wrong e = absurd (cc)

    none_short : ◌≡◌ {A = ℕ} 0 1 → ⊥
    none_short e = absurd (omega (arith, e))

    by : (rs : List Record) → IsLegal false no_entries rs → IsPermutation (told ∷ []) (calls_in rs) → ⊥
    by [] legal once = none_short (length_permutation (told ∷ []) [] once)
    by (r ∷ rs) legal once =
        let one : All (λ (x : Call × Reply). x ≡ told) (calls_in (r ∷ rs)) =
        All-permutation (λ (x : Call × Reply). x ≡ told) (told ∷ []) (calls_in (r ∷ rs)) once
        (All-cons (λ (x : Call × Reply). x ≡ told) told [] refl (All-nil (λ (x : Call × Reply). x ≡ told))) in
        let is : (r.call, r.reply) ≡ told = All-head (λ (x : Call × Reply). x ≡ told) (r.call, r.reply) (calls_in rs) one in
        let answers : Answers false None (Get (pos 1)) (Value (Some (pos 7))) r.after r.asked = subst (λ (x : Call × Reply). Answers false None x.0 x.1 r.after r.asked) is legal.0 in
        wrong answers.0
