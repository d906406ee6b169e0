-- The loader gives each of its recorded answers in a world.
use Rattle.std.proofs.Common.{arith, ◌≡◌, ℕ, zero, suc, ℤ, List, [], ◌∷◌, ◌++◌, map, All, inl, inr, Option, Some, None, slice_get, slice_set, refl, sym, ap, subst, ◌∙◌}
use Rattle.std.proofs.lemmas.Option.{slice_get_within}
use Rattle.std.proofs.lemmas.List.Elements.{All-append}
use Rattle.jtypes.specs.declared.loader.LoadAnswer.{LoadAnswer}
use Rattle.jtypes.specs.Loading.{IsGiven}
use Rattle.stripe.specs.History.{Record, key_of}
use Rattle.world.specs.World.{World, Running, Progress, Settled, AnswersAreGiven, answer_to}
use Rattle.world.specs.Seated.{Seated, AnswerIsGiven, IsEnded}
use Rattle.world.specs.Inside.{Parts, running_on, world_of}
use Rattle.world.proofs.Places.{get_set_cases, get_map, map_get}
use Rattle.world.proofs.Steady.{with_seat}
use Rattle.world.proofs.Ending.{with_end}

module _ (gives : ℤ → LoadAnswer → Type 0) (p : Parts) (h : AnswersAreGiven gives (world_of p)) (i : ℕ) (x : Seated) (there : slice_get p.seats i ≡ Some x) where
  pub given_at : AnswerIsGiven gives x.running
  given_at = by x.running refl
    where
      by : (o : Option Running) → x.running ≡ o → AnswerIsGiven gives o
      by None e = tt
      by (Some r) e = h.running i r (map_get running_on p.seats i x there ∙ ap Some e)

  -- The same for the running calls with another seat at index `i`.
  running_with : (y : Seated) → AnswerIsGiven gives y.running → (j : ℕ) (r : Running) → slice_get (map running_on (slice_set p.seats i y)) j ≡ Some (Some r) → IsGiven gives (key_of r.call) (answer_to r.progress)
  running_with y given j r e =
      let f = get_map running_on (slice_set p.seats i y) j (Some r) e in
      elim (get_set_cases p.seats i j y f.0 (slice_get_within p.seats i x there) f.1) [
        | inl a ↦ let is : y.running ≡ Some r = ap (λ (z : Seated). z.running) (sym a.1) ∙ f.2 in subst (AnswerIsGiven gives) is given
        | inr b ↦ h.running j r (map_get running_on p.seats j f.0 b.1 ∙ ap Some f.2)
      ]

  pub given_seat : (y : Seated) (starts : List ℕ) → AnswerIsGiven gives y.running → AnswersAreGiven gives (world_of (with_seat p i y starts))
  given_seat y starts given = record { finished = h.finished; running = running_with y given }

  module _ (y : Seated) (r : Record) (is : IsEnded x r y) where
    its_answer : IsGiven gives (key_of r.call) r.asked
    its_answer =
        let at : IsGiven gives (key_of is.running.call) (answer_to is.running.progress) = subst (AnswerIsGiven gives) is.runs given_at in
        let told : IsGiven gives (key_of is.running.call) is.asked = subst (λ (q : Progress). IsGiven gives (key_of is.running.call) (answer_to q)) is.settled at in
        subst (λ (z : Record). IsGiven gives (key_of z.call) z.asked) (sym is.told) told

    one : All (λ (z : Record). IsGiven gives (key_of z.call) z.asked) (r ∷ [])
    one zero d k = its_answer
    one (suc n) d k = absurd (omega (arith, k))

    pub given_ended : (reserved : ℕ) → AnswersAreGiven gives (world_of (with_end p i y r reserved))
    given_ended reserved =
        record {
          finished = All-append (λ (z : Record). IsGiven gives (key_of z.call) z.asked) p.finished (r ∷ []) h.finished one;
          running = running_with y (subst (AnswerIsGiven gives) (sym is.idle) tt);
        }
