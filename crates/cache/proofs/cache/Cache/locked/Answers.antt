use Rattle.std.proofs.Common.{All, Option, Some, refl, ap, sym, subst, ◌∙◌, ◌≡◌, ◌≤◌, ◌++◌, [], ◌∷◌, List, ℕ, ℤ, length, Err, true, set, arith, length-append, length-set}
use Rattle.std.proofs.lemmas.Grind.{common_steps}
use Rattle.std.proofs.lemmas.List.{length-map, map-append}
use Rattle.std.proofs.lemmas.List.Elements.{All-append}
use Rattle.atomic_table.specs.Seated.{TableId}
use Rattle.jtypes.specs.declared.loader.LoadAnswer.{LoadAnswer}
use Rattle.jtypes.specs.Loading.{IsGiven}
use Rattle.stripe.specs.History.{Call, Begun, Record, key_of, stripe_of}
use Rattle.stripe.specs.Kept.{Kept, IsEnd, asked_by, begun, committed}
use Rattle.stripe.specs.Seen.{call_of, record_of}
use Rattle.jtypes.specs.Entry.{Entry}
use Rattle.cache.specs.Receipts.{Receipt, receipt_of, receipts_of, receipt_behind}
use Rattle.cache.specs.declared.receipt.Receipt.{Receipt as ReceiptKept}
use Rattle.cache.specs.Views.{Part, part, seat_view, told_part}
use Rattle.cache.specs.Opened.{Opened, Sitting, with_receipt}
use Rattle.cache.specs.Plays.{Sat}
use Rattle.cache.specs.Steps.{IsKnown}
use Rattle.cache.proofs.Moves.{one_of}
use Rattle.cache.proofs.cache.Cache.locked.Goals as goal

pub hold-requires-clause-known : goal.hold-requires-clause-known
hold-requires-clause-known g c =
    let s = c.seat.inside in
    let home : s.pass.table_id ≡ c.self.inside.table.shared.table_id = ap (λ (x : Sitting). x.table) c.seat.view_is ∙ c.requires.seat ∙ ap (λ (d : Opened _). d.table) (sym c.self.view_is) in
    let p : Part = part s.caller (receipts_of s.receipts.items) s.full in
    (s.made, p, subst (λ (x : TableId). IsKnown x.slots s.made p s.held s.pass.me) home c.seat.invariant.known)

pub overflow_cast-number : goal.overflow_cast-number
overflow_cast-number g c =
    let s = c.seat.inside in
    let p : Part = part s.caller (receipts_of s.receipts.items) s.full in
    let home : s.pass.table_id ≡ c.self.inside.table.shared.table_id = ap (λ (x : Sitting). x.table) c.seat.view_is ∙ c.requires.seat ∙ ap (λ (d : Opened _). d.table) (sym c.self.view_is) in
    let t = c.hold.ensures.holds s.made p (subst (λ (x : TableId). IsKnown x.slots s.made p s.held s.pass.me) home c.seat.invariant.known) in
    let few : length (receipts_of s.receipts.items) ≤ 262144 = t.free.receipts p refl in
    let same : c.len-number.result ≡ length s.receipts.items = let e = ap (λ (l : List ReceiptKept). length l) c.reserve_one.ensures.items in grind (arith, common_steps) in
    omega (arith, few, same, length-map s.receipts.items receipt_of)

pub begin-requires-clause-held : goal.begin-requires-clause-held
begin-requires-clause-held g c =
    let s = c.seat.inside in
    let home : s.pass.table_id ≡ c.self.inside.table.shared.table_id = ap (λ (x : Sitting). x.table) c.seat.view_is ∙ c.requires.seat ∙ ap (λ (d : Opened _). d.table) (sym c.self.view_is) in
    let p : Part = part s.caller (receipts_of s.receipts.items) s.full in
    let t = c.hold.ensures.holds s.made p (subst (λ (x : TableId). IsKnown x.slots s.made p s.held s.pass.me) home c.seat.invariant.known) in
    let key : ℤ = key_of (call_of c.args.call) in
    let index : c.place_of-index.result ≡ stripe_of c.self.inside.stripes key = c.place_of-index.ensures.place in
    let count = t.free.stripes ∙ c.self.invariant.board.slots ∙ sym c.self.invariant.stripes in
    record {
      stripe = t.stripe;
      is = ap (λ (m : Sat). m.1) t.is;
      idle = t.free.idle;
      of = ap (λ (n : ℕ). stripe_of n key) count ∙ sym index ∙ sym t.free.place;
    }

pub commit-place-requires-clause-held : goal.commit-place-requires-clause-held
commit-place-requires-clause-held g c =
    let s = c.seat.inside in
    let home : s.pass.table_id ≡ c.self.inside.table.shared.table_id = ap (λ (x : Sitting). x.table) c.seat.view_is ∙ c.requires.seat ∙ ap (λ (d : Opened _). d.table) (sym c.self.view_is) in
    let p : Part = part s.caller (receipts_of s.receipts.items) s.full in
    let t = c.hold.ensures.holds s.made p (subst (λ (x : TableId). IsKnown x.slots s.made p s.held s.pass.me) home c.seat.invariant.known) in
    let b : Begun = record { caller = s.caller; number = c.len-number.result; call = call_of c.args.call; loads = g.L.Loader.ASKS } in
    let u = c.in-Ok.ensures.ok t.stripe (ap (λ (m : Sat). m.1) t.is) in
    let ended = c.end-done.result in
    let ends = (c.requires.ends c.in-Ok.before ended c.end-done.ensures).0 in
    (begun t.stripe b, u.is, record { begun = b; running = refl; ends = subst (λ (e : Entry). IsEnd g.L.Loader.ASKS e (call_of c.args.call) ended.0 ended.1) (u.found ∙ sym (u.same (key_of b.call))) ends })

pub note-requires-clause-held : goal.note-requires-clause-held
note-requires-clause-held g c =
    let s = c.seat.inside in
    let p : Part = part s.caller (receipts_of s.receipts.items) s.full in
    let home : s.pass.table_id ≡ c.self.inside.table.shared.table_id = ap (λ (x : Sitting). x.table) c.seat.view_is ∙ c.requires.seat ∙ ap (λ (d : Opened _). d.table) (sym c.self.view_is) in
    let t = c.hold.ensures.holds s.made p (subst (λ (x : TableId). IsKnown x.slots s.made p s.held s.pass.me) home c.seat.invariant.known) in
    let b : Begun = record { caller = s.caller; number = c.len-number.result; call = call_of c.args.call; loads = g.L.Loader.ASKS } in
    let u = c.in-Ok.ensures.ok t.stripe (ap (λ (m : Sat). m.1) t.is) in
    let r : Record = record_of c.commit-place.result.0 in
    let w = c.commit-place.ensures.committed (begun t.stripe b) b u.is refl in
    let view = c.commit-place.ensures.view ∙ c.begin.ensures.view ∙ ap (λ (m : Sat). m.0) t.is in
    let same : c.len-number.result ≡ length s.receipts.items = let e = ap (λ (l : List ReceiptKept). length l) c.reserve_one.ensures.items in grind (arith, common_steps) in
    let ended = c.end-done.result in
    let gives : ℤ → LoadAnswer → Type 0 = g.L.Loader.gives c.self.inside.table.shared.key.loader.value in
    let loader = c.self.invariant.loader ∙ ap (λ (d : Opened _). d.loader) c.self.view_is in
    let Given : Record → Type 0 = λ x. IsGiven gives (key_of x.call) x.asked in
    let answer : IsGiven gives (key_of (call_of c.args.call)) (asked_by ended.0 ended.1) =
    subst (λ l. IsGiven (g.L.Loader.gives l) (key_of (call_of c.args.call)) (asked_by ended.0 ended.1)) (sym loader) (c.requires.ends c.in-Ok.before ended c.end-done.ensures).1 in
    let its : Given r = subst (λ (x : Call × Option LoadAnswer). IsGiven gives (key_of x.0) x.1) (λ i. (sym w.made.call i, sym w.asked i)) answer in
    let one : All Given (r ∷ []) = one_of Given r its in
    record {
      made = s.made;
      part = p;
      before = t.stripe;
      stripe = committed (begun t.stripe b) r;
      one = r;
      is = λ k. (view k, w.is k);
      later = record { stripes = refl; place = refl; journal = refl; idle = refl; kept = λ opening h. w.kept opening (u.kept opening h); given = λ h. All-append Given t.stripe.records (r ∷ []) h one };
      more = refl;
      few = let whole = u.room in let few = t.free.few in omega (arith, few, whole, length-append t.stripe.records (r ∷ []));
      caller = w.made.caller;
      number = w.made.number ∙ same ∙ sym (length-map s.receipts.items receipt_of);
    }

pub invariant_of-seat-in-Ok : goal.invariant_of-seat-in-Ok
invariant_of-seat-in-Ok g c =
    let s = c.seat.inside in
    let p : Part = part s.caller (receipts_of s.receipts.items) s.full in
    let home : s.pass.table_id ≡ c.self.inside.table.shared.table_id = ap (λ (x : Sitting). x.table) c.seat.view_is ∙ c.requires.seat ∙ ap (λ (d : Opened _). d.table) (sym c.self.view_is) in
    let t = c.hold.ensures.holds s.made p (subst (λ (x : TableId). IsKnown x.slots s.made p s.held s.pass.me) home c.seat.invariant.known) in
    let b : Begun = record { caller = s.caller; number = c.len-number.result; call = call_of c.args.call; loads = g.L.Loader.ASKS } in
    let u = c.in-Ok.ensures.ok t.stripe (ap (λ (m : Sat). m.1) t.is) in
    let r0 = c.commit-place.result.0 in
    let r : Record = record_of r0 in
    let w = c.commit-place.ensures.committed (begun t.stripe b) b u.is refl in
    let view = c.commit-place.ensures.view ∙ c.begin.ensures.view ∙ ap (λ (m : Sat). m.0) t.is in
    let given = c.note.ensures.noted s.made p t.stripe (committed (begun t.stripe b) r) r (λ k. (view k, w.is k)) refl in
    let x : ReceiptKept = record { stripe = c.place_of-index.result; place = c.commit-place.result.1; call = r0.call; reply = r0.reply } in
    let items : c.push_reserved.new.self.items ≡ s.receipts.items ++ x ∷ [] = c.push_reserved.ensures.items ∙ ap (λ (l : List ReceiptKept). l ++ x ∷ []) c.reserve_one.ensures.items in
    let all : receipts_of c.push_reserved.new.self.items ≡ receipts_of s.receipts.items ++ receipt_behind c.place_of-index.result t.stripe.records r ∷ []
    = ap receipts_of items ∙ map-append receipt_of s.receipts.items (x ∷ []) ∙ ap (λ (q : ℕ). receipts_of s.receipts.items ++ record { stripe = c.place_of-index.result; place = q; call = r.call; reply = r.reply } ∷ []) w.place_is in
    let z : Kept = committed (begun t.stripe b) r in
    let table = c.note.ensures.table ∙ c.commit-place.ensures.table ∙ c.begin.ensures.table ∙ c.hold.ensures.table in
    let few : length z.records ≤ z.journal = let whole = u.room in let few = t.free.few in omega (arith, few, whole, length-append t.stripe.records (r ∷ [])) in
    let mine : IsKnown c.self.inside.table.shared.table_id.slots s.made (told_part p (receipt_behind c.place_of-index.result t.stripe.records r)) (Some c.place_of-index.result) c.note.new.pass.me
    = (omega (arith, c.place_of-index.ensures.within, c.self.invariant.stripes, c.self.invariant.board.slots), record { stripe = z; is = given.0; free = record { stripes = t.free.stripes; place = t.free.place; idle = refl; few = few; receipts = given.1 } }) in
    record {
      known = subst (λ (x : TableId × List Receipt × Option ℕ). IsKnown x.0.slots s.made (part s.caller x.1 s.full) x.2 c.note.new.pass.me) (λ k. (sym (table ∙ home) k, sym all k, sym c.hold.ensures.held k)) mine;
      full = c.seat.invariant.full;
      room = let before = c.seat.invariant.room in let some_room = c.reserve_one.ensures.room c.if-not-reserve_one.false in omega (arith, before, some_room, c.reserve_one.ensures.len, c.reserve_one.ensures.capacity, c.push_reserved.ensures.len, c.push_reserved.ensures.capacity, c.saturating_sub-seat-inside.ensures);
    }

pub returns-in-Ok-clause-ok : goal.returns-in-Ok-clause-ok
returns-in-Ok-clause-ok g c =
    let s = c.seat.inside in
    let p : Part = part s.caller (receipts_of s.receipts.items) s.full in
    let home : s.pass.table_id ≡ c.self.inside.table.shared.table_id = ap (λ (x : Sitting). x.table) c.seat.view_is ∙ c.requires.seat ∙ ap (λ (d : Opened _). d.table) (sym c.self.view_is) in
    let t = c.hold.ensures.holds s.made p (subst (λ (x : TableId). IsKnown x.slots s.made p s.held s.pass.me) home c.seat.invariant.known) in
    let b : Begun = record { caller = s.caller; number = c.len-number.result; call = call_of c.args.call; loads = g.L.Loader.ASKS } in
    let u = c.in-Ok.ensures.ok t.stripe (ap (λ (m : Sat). m.1) t.is) in
    let r0 = c.commit-place.result.0 in
    let r : Record = record_of r0 in
    let w = c.commit-place.ensures.committed (begun t.stripe b) b u.is refl in
    let one : Receipt = receipt_behind c.place_of-index.result t.stripe.records r in
    let x : ReceiptKept = record { stripe = c.place_of-index.result; place = c.commit-place.result.1; call = r0.call; reply = r0.reply } in
    let items : c.push_reserved.new.self.items ≡ s.receipts.items ++ x ∷ [] = c.push_reserved.ensures.items ∙ ap (λ (l : List ReceiptKept). l ++ x ∷ []) c.reserve_one.ensures.items in
    let all : receipts_of c.push_reserved.new.self.items ≡ receipts_of s.receipts.items ++ one ∷ []
    = ap receipts_of items ∙ map-append receipt_of s.receipts.items (x ∷ []) ∙ ap (λ (q : ℕ). receipts_of s.receipts.items ++ record { stripe = c.place_of-index.result; place = q; call = r.call; reply = r.reply } ∷ []) w.place_is in
    let table = c.note.ensures.table ∙ c.commit-place.ensures.table ∙ c.begin.ensures.table ∙ c.hold.ensures.table in
    let key : ℤ = key_of (call_of c.args.call) in
    let index : c.place_of-index.result ≡ stripe_of c.self.inside.stripes key = c.place_of-index.ensures.place in
    record {
      receipt = one;
      call_is = w.made.call;
      reply_is = refl;
      stripe_is = index ∙ ap (λ (n : ℕ). stripe_of n key) (c.self.invariant.stripes ∙ ap (λ (d : Opened _). length d.tables) c.self.view_is);
      left = (λ k. record { table = table k; caller = s.caller; made = s.made; receipts = all k; full = s.full; room = c.saturating_sub-seat-inside.ensures k }) ∙ ap (λ (y : Sitting). with_receipt y one) c.seat.view_is;
    }

pub give_full-requires-clause-held : goal.give_full-requires-clause-held
give_full-requires-clause-held g c =
    let s = c.seat.inside in
    let p : Part = part s.caller (receipts_of s.receipts.items) s.full in
    let home : s.pass.table_id ≡ c.self.inside.table.shared.table_id = ap (λ (x : Sitting). x.table) c.seat.view_is ∙ c.requires.seat ∙ ap (λ (d : Opened _). d.table) (sym c.self.view_is) in
    let t = c.hold.ensures.holds s.made p (subst (λ (x : TableId). IsKnown x.slots s.made p s.held s.pass.me) home c.seat.invariant.known) in
    let view = c.begin.ensures.view ∙ ap (λ (m : Sat). m.0) t.is in
    let kept = c.in-Err-JournalFull.ensures.err ∙ ap (λ (m : Sat). m.1) t.is in
    record {
      held = record { made = s.made; part = p; stripe = t.stripe; is = λ k. (view k, kept k); idle = t.free.idle };
      whole = c.begin.ensures.full (c.in-Err-JournalFull.is ∙ ap Err c.in-Err-JournalFull.field-0-is) t.stripe (ap (λ (m : Sat). m.1) t.is);
    }

pub invariant_of-seat-in-Err-JournalFull : goal.invariant_of-seat-in-Err-JournalFull
invariant_of-seat-in-Err-JournalFull g c =
    let s = c.seat.inside in
    let p : Part = part s.caller (receipts_of s.receipts.items) s.full in
    let home : s.pass.table_id ≡ c.self.inside.table.shared.table_id = ap (λ (x : Sitting). x.table) c.seat.view_is ∙ c.requires.seat ∙ ap (λ (d : Opened _). d.table) (sym c.self.view_is) in
    let t = c.hold.ensures.holds s.made p (subst (λ (x : TableId). IsKnown x.slots s.made p s.held s.pass.me) home c.seat.invariant.known) in
    let view = c.begin.ensures.view ∙ ap (λ (m : Sat). m.0) t.is in
    record {
      known = c.give_full.ensures.given s.made p t.stripe view ∙ ap (λ (l : List ReceiptKept). (seat_view s.made (part s.caller (receipts_of l) (set s.full c.place_of-index.result true)), [])) (sym c.reserve_one.ensures.items);
      full = length-set s.full c.place_of-index.result true ∙ c.seat.invariant.full;
      room = let before = c.seat.invariant.room in omega (arith, before, c.reserve_one.ensures.len, c.reserve_one.ensures.capacity);
    }

pub invariant_of-seat-in-Err-NoMemory : goal.invariant_of-seat-in-Err-NoMemory
invariant_of-seat-in-Err-NoMemory g c =
    let s = c.seat.inside in
    let p : Part = part s.caller (receipts_of s.receipts.items) s.full in
    let home : s.pass.table_id ≡ c.self.inside.table.shared.table_id = ap (λ (x : Sitting). x.table) c.seat.view_is ∙ c.requires.seat ∙ ap (λ (d : Opened _). d.table) (sym c.self.view_is) in
    let t = c.hold.ensures.holds s.made p (subst (λ (x : TableId). IsKnown x.slots s.made p s.held s.pass.me) home c.seat.invariant.known) in
    let view = c.begin.ensures.view ∙ ap (λ (m : Sat). m.0) t.is in
    let kept = c.in-Err-NoMemory.ensures.err ∙ ap (λ (m : Sat). m.1) t.is in
    let table = c.begin.ensures.table ∙ c.hold.ensures.table in
    let mine : IsKnown c.self.inside.table.shared.table_id.slots s.made p (Some c.place_of-index.result) c.begin.new.pass.me
    = (omega (arith, c.place_of-index.ensures.within, c.self.invariant.stripes, c.self.invariant.board.slots), record { stripe = t.stripe; is = λ k. (view k, kept k); free = t.free }) in
    record {
      known = subst (λ (x : TableId × List ReceiptKept × Option ℕ). IsKnown x.0.slots s.made (part s.caller (receipts_of x.1) s.full) x.2 c.begin.new.pass.me) (λ k. (sym (table ∙ home) k, sym c.reserve_one.ensures.items k, sym c.hold.ensures.held k)) mine;
      full = c.seat.invariant.full;
      room = let before = c.seat.invariant.room in omega (arith, before, c.reserve_one.ensures.len, c.reserve_one.ensures.capacity);
    }

pub returns-clause-memory : goal.returns-clause-memory
returns-clause-memory g c = λ e room. c.begin.ensures.memory (c.in-Err-NoMemory.is ∙ ap Err c.in-Err-NoMemory.field-0-is)
