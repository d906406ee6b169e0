-- New stripes.
use Rattle.std.proofs.Common.{arith, ◌≡◌, ℕ, suc, ◌+◌, ◌<◌, ◌≤◌, List, [], ◌∷◌, ◌++◌, length, vec_capacity, All, Option, Some, None, refl, sym, ap, subst, ◌∙◌}
use Rattle.std.proofs.lemmas.List.{length-append}
use Rattle.std.proofs.lemmas.List.Elements.{All-nil, All-push, All-pop}
use Rattle.std.specs.Prelude as Prelude
use Rattle.std.specs.Global.{Vec}
use Rattle.std.specs.Ordering.{int_cmp}
use Rattle.std.specs.FinMap as map
use Rattle.jtypes.specs.Entry.{Entry}
use Rattle.stripe.specs.declared.call.Record.{Record}
use Rattle.stripe.specs.History.{Record as Told, key_of, stripe_of}
use Rattle.stripe.specs.Stored.{Stored, HasValues}
use Rattle.stripe.specs.Kept.{fresh}
use Rattle.stripe.specs.Inside.{IsSound}
use Rattle.stripe.specs.Room.{AreEmpty}
use Rattle.stripe.specs.Seen.{record_of}
use Rattle.stripe.specs.Tables.{fresh_from}

-- ---- empty histories

pub none_empty : (j : ℕ) (hs : List (Vec Record)) → hs ≡ [] → AreEmpty 0 j hs
none_empty j hs e = record { count = ap length e; none = subst (All (λ (h : Vec Record). h.items ≡ [])) (sym e) (All-nil _); room = subst (All (λ (h : Vec Record). j ≤ vec_capacity h)) (sym e) (All-nil _) }

pub one_more_empty : (n j : ℕ) (hs new : List (Vec Record)) (h : Vec Record) → AreEmpty n j hs → new ≡ hs ++ h ∷ [] → h.items ≡ [] → j ≤ vec_capacity h → AreEmpty (n + 1) j new
one_more_empty n j hs new h are is none room =
    record {
      count = omega (arith, are.count, ap length is, length-append hs (h ∷ []));
      none = subst (All (λ (x : Vec Record). x.items ≡ [])) (sym is) (All-push (λ (x : Vec Record). x.items ≡ []) hs h are.none none);
      room = subst (All (λ (x : Vec Record). j ≤ vec_capacity x)) (sym is) (All-push (λ (x : Vec Record). j ≤ vec_capacity x) hs h are.room room);
    }

module _ (n j : ℕ) (hs new : List (Vec Record)) (h : Vec Record) (are : AreEmpty (suc n) j hs) (is : hs ≡ new ++ h ∷ []) where
  pub one_less_empty : AreEmpty n j new
  one_less_empty =
      record {
        count = omega (arith, are.count, ap length is, length-append new (h ∷ []));
        none = (All-pop (λ (x : Vec Record). x.items ≡ []) hs new (Some h) is are.none).0;
        room = (All-pop (λ (x : Vec Record). j ≤ vec_capacity x) hs new (Some h) is are.room).0;
      }

  pub popped_none : h.items ≡ []
  popped_none = (All-pop (λ (x : Vec Record). x.items ≡ []) hs new (Some h) is are.none).1

  pub popped_room : j ≤ vec_capacity h
  popped_room = (All-pop (λ (x : Vec Record). j ≤ vec_capacity x) hs new (Some h) is are.room).1

-- ---- stripes

pub fresh_more : (n j p : ℕ) (ms : List Stored) (m : Stored) → fresh_from n j p (ms ++ m ∷ []) ≡ fresh_from n j p ms ++ fresh n j (p + length ms) m ∷ []
fresh_more n j p [] m = ap (λ q. fresh n j q m ∷ []) (omega arith)
fresh_more n j p (x ∷ xs) m =
    let at : suc p + length xs ≡ p + suc (length xs) = omega arith in
    ap (λ ss. fresh n j p x ∷ ss) (fresh_more n j (suc p) xs m ∙ ap (λ q. fresh_from n j (suc p) xs ++ fresh n j q m ∷ []) at)

pub length_fresh : (n j p : ℕ) (ms : List Stored) → length (fresh_from n j p ms) ≡ length ms
length_fresh n j p [] = refl
length_fresh n j p (x ∷ xs) = ap suc (length_fresh n j (suc p) xs)

mapped : {rs : List Record} → rs ≡ [] → Prelude.map record_of rs ≡ []
mapped e = ap (Prelude.map record_of) e

pub sound_fresh : (n j p : ℕ) (m : Stored) (records : Vec Record) → p < n → records.items ≡ [] → j ≤ vec_capacity records → HasValues m
    → IsSound (record { stripes = n; place = p; table = m; records = records; journal = j; running = None })
sound_fresh n j p m records below none room values =
    record {
      inside = below;
      few = omega (arith, ap length none);
      room = room;
      of = subst (All (λ (r : Told). stripe_of n (key_of r.call) ≡ p)) (sym (mapped none)) (All-nil (λ (r : Told). stripe_of n (key_of r.call) ≡ p));
      going = λ c is. absurd (cc);
      values = values;
    }

pub nothing : {X : Type 0} (xs : List X) → length xs ≡ 0 → xs ≡ []
nothing [] e = refl
nothing (x ∷ xs) e = absurd (omega (arith, e))

pub no_values : HasValues map.empty
no_values k g = by (map.get-empty {X = Entry} int_cmp k) g
  where
    by : {o : Option Entry} → o ≡ None → o ≡ Some None → ⊥
    by none some = absurd (cc)
