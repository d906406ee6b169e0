use Rattle.std.proofs.Common.{rules, arith, ◌≡◌, ◌++◌, ◌∷◌, [], Some, None, option_map, map, sym, ap, subst, ◌∙◌, w64}
use Rattle.std.proofs.lemmas.Int.{to_z-of_z}
use Rattle.stripe.specs.History.{Begun, Answers, key_of}
use Rattle.stripe.specs.Seen.{call_of, begun_of, record_of}
use Rattle.stripe.specs.Stored.{entry_in, left}
use Rattle.stripe.specs.Kept.{Kept, IsOf, IsKept, entry_of, committed}
use Rattle.stripe.specs.Inside.{kept}
use Rattle.stripe.proofs.Keeps.{entry_left_there, entry_left_elsewhere, kept_committed}
use Rattle.stripe.proofs.Sound.{map_more, of_record, record_answers, sound_committed}
use Rattle.stripe.proofs.stripe.Stripe.commit.Goals as goal

table : (c : goal.After-self-1) → c.leave.new.self ≡ left c.self.inside.table (key_of (call_of c.record-record.result.call)) c.record-record.result.after
table c = rw (to_z-of_z w64 c.key.result (search rules), c.key.ensures) at c.leave.ensures

pub invariant_of-self : goal.invariant_of-self
invariant_of-self c =
    sound_committed c.self.inside c.in-Some.begun c.record-record.result c.self.invariant c.in-Some.is c.record-record.ensures.is
    c.leave.new.self c.push_reserved.new.self (table c) c.push_reserved.ensures.items (omega (arith, c.push_reserved.ensures.capacity))

pub returns-clause-committed : goal.returns-clause-committed
returns-clause-committed c =
    let records : map record_of c.push_reserved.new.self.items ≡ map record_of c.self.inside.records.items ++ record_of c.record-record.result ∷ [] =
    ap (map record_of) c.push_reserved.ensures.items ∙ map_more c.self.inside.records.items c.record-record.result in
    (λ i. record (kept c.self.inside) { stored = table c i; records = records i; running = None }) ∙ ap (λ s. committed s (record_of c.record-record.result)) c.self.view_is

pub returns-clause-entry : goal.returns-clause-entry
returns-clause-entry c =
    ap (λ m. entry_in m (key_of (call_of c.record-record.result.call))) (table c)
    ∙ entry_left_there c.self.inside.table (key_of (call_of c.record-record.result.call)) c.record-record.result.after

pub returns-clause-others : goal.returns-clause-others
returns-clause-others c k other =
    ap (λ m. entry_in m k) (table c)
    ∙ entry_left_elsewhere c.self.inside.table (key_of (call_of c.record-record.result.call)) c.record-record.result.after k other
    ∙ ap (λ s. entry_of s k) c.self.view_is

pub returns-clause-kept : goal.returns-clause-kept
returns-clause-kept c b opening running h =
    let r = c.record-record.result in
    let call = c.in-Some.begun in
    let same : begun_of call ≡ b = this (begun_of call) b (sym (ap (option_map begun_of) c.in-Some.is) ∙ ap (λ (s : Kept). s.running) c.self.view_is ∙ running) in
    let of = subst (λ (s : Kept). IsOf s (key_of (record_of r).call)) c.self.view_is (of_record c.self.inside call r c.self.invariant c.in-Some.is c.record-record.ensures.is) in
    let answers = subst (λ (s : Kept). Answers b.loads (entry_of s (key_of (record_of r).call)) (record_of r).call r.reply r.after r.asked) c.self.view_is
    (subst (λ (x : Begun). Answers x.loads (entry_of (kept c.self.inside) (key_of (record_of r).call)) (record_of r).call r.reply r.after r.asked) same
    (record_answers c.self.inside call r c.self.invariant c.in-Some.is c.record-record.ensures.is)) in
    subst (IsKept b.loads opening) (sym (returns-clause-committed c)) (kept_committed b.loads opening c.args.self.now (record_of r) of answers h)
  where
    this : (x y : Begun) → Some x ≡ Some y → x ≡ y
    this x y e = cc e
