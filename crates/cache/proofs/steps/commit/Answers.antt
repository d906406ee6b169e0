use Rattle.std.proofs.Common.{◌≡◌, ◌∷◌, List, ℕ, length, get_or, ap, sym, subst, ◌∙◌}
use Rattle.std.proofs.lemmas.List.{length-map}
use Rattle.atomic_table.specs.Table.{rest}
use Rattle.stripe.specs.History.{Record, key_of}
use Rattle.stripe.specs.Kept.{Kept, IsKept, IsRecord, entry_of, committed}
use Rattle.stripe.specs.Seen.{record_of}
use Rattle.cache.proofs.steps.commit.Goals as goal

pub slot_mut-stripe-requires : goal.slot_mut-stripe-requires
slot_mut-stripe-requires g c = let h = c.requires.held in (c.requires.table, (h.0, h.1 ∙ (λ t. (c.args.index, h.0) ∷ sym (ap rest h.1) t)))

pub returns-clause-committed : goal.returns-clause-committed
returns-clause-committed g c = λ y b is running.
    let same : c.slot_mut-stripe.result.now ≡ y = ap (λ (l : List (ℕ × Kept)). (get_or l 0 (0, y)).1) (sym c.slot_mut-stripe.ensures.value ∙ is) in
    let none_left = ap rest is in
    let r : Record = record_of c.commit.result in
    let now : c.commit.new.self ≡ committed y r = c.commit.ensures.committed ∙ ap (λ (x : Kept). committed x r) same in
    record {
      is = λ t. (c.args.index, now t) ∷ none_left t;
      made = subst (λ (x : Kept). IsRecord b (entry_of x (key_of b.call)) r) same (c.commit.ensures.record b (ap (λ (x : Kept). x.running) same ∙ running));
      place_is = sym (length-map c.history-place.result.now record_of) ∙ ap (λ (l : List Record). length l) c.history-place.ensures.records ∙ ap (λ (x : Kept). length x.records) same;
      asked = c.commit.ensures.asked;
      kept = λ opening k.
          let before : IsKept b.loads opening c.slot_mut-stripe.result.now = subst (λ (x : Kept). IsKept b.loads opening x) (sym same) k in
          subst (λ (x : Kept). IsKept b.loads opening x) now (c.commit.ensures.kept b opening (ap (λ (x : Kept). x.running) same ∙ running) before);
    }
