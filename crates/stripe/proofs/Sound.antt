-- The steps of a call preserve the invariant of a stripe.
use Rattle.std.proofs.Common.{arith, ◌≡◌, ℤ, ◌+◌, ◌<◌, ◌≤◌, true, All, IsSome, List, [], ◌∷◌, ◌++◌, length, map, vec_capacity, Option, Some, None, option_map, refl, sym, ap, subst, ◌∙◌, length-append}
use Rattle.std.proofs.lemmas.List.{map-append, length-map}
use Rattle.std.specs.Global.{Vec}
use Rattle.std.specs.FinMap as map
use Rattle.stripe.specs.declared.stripe.Stripe.TheInside.{Inside}
use Rattle.stripe.specs.declared.call.OpenCall.{OpenCall}
use Rattle.stripe.specs.declared.call.Record.{Record as RecordKept}
use Rattle.stripe.specs.History.{Call, Record, Answers, key_of}
use Rattle.stripe.specs.Seen.{begun_of, record_of}
use Rattle.stripe.specs.Stored.{Stored, HasValues, left, entry_in}
use Rattle.stripe.specs.Kept.{IsOf, IsHeld, IsRecord, may_make, held, entry_of}
use Rattle.stripe.specs.Inside.{IsSound, IsOpen, kept}
use Rattle.stripe.proofs.Keeps.{entry_held, held_stored, values_held, values_left, are_of_more}

idle_values : (s : Inside) → IsSound s → s.running ≡ None → HasValues s.table
idle_values s h none k g = subst (λ (r : Option OpenCall). IsHeld (option_map begun_of r) k) none (h.values k g)

same_some : (c d : OpenCall) → Some c ≡ Some d → c ≡ d
same_some c d e = cc

pub no_call : (o : Option OpenCall) → option_map begun_of o ≡ None → o ≡ None
no_call None e = refl
no_call (Some c) e = absurd (cc)

abbrev pub with_call : Inside → Stored → OpenCall → Inside
with_call s table c = record { stripes = s.stripes; place = s.place; table = table; records = s.records; journal = s.journal; running = Some c }

pub sound_begun : (s : Inside) (table : Stored) (c : OpenCall) → IsSound s → s.running ≡ None → IsOf (kept s) (key_of (begun_of c).call) → ¬ (length s.records.items ≡ s.journal)
    → table ≡ held c.loads s.table (begun_of c).call → c.before ≡ entry_in s.table (key_of (begun_of c).call)
    → IsSound (with_call s table c)
sound_begun s table c h none of room is before =
    let call = (begun_of c).call in
    let fits : length (map record_of s.records.items) < s.journal = omega (arith, length-map s.records.items record_of, h.few, room) in
    let found : c.before ≡ entry_in table (key_of call) = before ∙ sym (ap (λ m. entry_in m (key_of call)) is ∙ entry_held c.loads s.table call (key_of call)) in
    let has : may_make c.loads call ≡ true → IsSome (map.get table (key_of call)) = λ makes. subst (λ (m : Stored). IsSome (map.get m (key_of call))) (sym is) (held_stored c.loads s.table call makes) in
    let opened : IsOpen (kept (with_call s table c)) c = record { room = fits; of = of; before = found; held = has } in
    record {
      inside = h.inside;
      few = h.few;
      room = h.room;
      of = h.of;
      going = λ x same. subst (IsOpen (kept (with_call s table c))) (same_some c x same) opened;
      values = λ k g. values_held c.loads s.table call (idle_values s h none) k (subst (λ (m : Stored). map.get m k ≡ Some None) is g);
    }

pub map_more : (rs : List RecordKept) (r : RecordKept) → map record_of (rs ++ r ∷ []) ≡ map record_of rs ++ record_of r ∷ []
map_more rs r = map-append record_of rs (r ∷ [])

module _ (s : Inside) (c : OpenCall) (r : RecordKept) (h : IsSound s) (some : s.running ≡ Some c) (told : IsRecord (begun_of c) c.before (record_of r)) where
  pub of_record : IsOf (kept s) (key_of (record_of r).call)
  of_record = subst (λ (x : Call). IsOf (kept s) (key_of x)) (sym told.call) (h.going c some).of

  pub record_answers : Answers c.loads (entry_of (kept s) (key_of (record_of r).call)) (record_of r).call r.reply r.after r.asked
  record_answers =
      subst (λ (x : Call). Answers c.loads (entry_of (kept s) (key_of x)) x r.reply r.after r.asked) (sym told.call)
      (subst (λ e. Answers c.loads e (begun_of c).call r.reply r.after r.asked) (h.going c some).before told.answers)

  others : (q : ℤ) → map.get s.table q ≡ Some None → q ≡ key_of (record_of r).call
  others q g = (subst (λ (o : Option OpenCall). IsHeld (option_map begun_of o) q) some (h.values q g)).1 ∙ ap key_of (sym told.call)

  pub sound_committed : (table : Stored) (records : Vec RecordKept) → table ≡ left s.table (key_of (record_of r).call) r.after → records.items ≡ s.records.items ++ r ∷ []
      → vec_capacity s.records ≤ vec_capacity records
      → IsSound (record { stripes = s.stripes; place = s.place; table = table; records = records; journal = s.journal; running = None })
  sound_committed table records is more room =
      let one : length records.items ≡ length s.records.items + 1 = omega (arith, ap length more, length-append s.records.items (r ∷ [])) in
      record {
        inside = h.inside;
        few = omega (arith, one, (h.going c some).room, length-map s.records.items record_of);
        room = omega (arith, h.room, room);
        of = subst (λ rs. All (λ (x : Record). IsOf (kept s) (key_of x.call)) rs) (sym (ap (map record_of) more ∙ map_more s.records.items r)) (are_of_more (kept s) (record_of r) h.of of_record);
        going = λ x none. absurd (cc);
        values = λ k g. values_left s.table (key_of (record_of r).call) r.after others k (subst (λ (m : Stored). map.get m k ≡ Some None) is g);
      }
