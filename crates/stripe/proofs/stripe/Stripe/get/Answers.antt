use Rattle.std.proofs.Common.{◌≡◌, ℤ, w64, refl, sym, ap, subst, ◌∙◌}
use Rattle.std.proofs.lemmas.Int.{to_z-of_z}
use Rattle.stripe.specs.History.{Begun, Get}
use Rattle.stripe.specs.Seen.{record_of}
use Rattle.stripe.specs.Kept.{Kept, IsAsked, begun, entry_of}
use Rattle.stripe.proofs.Keeps.{made_of, kept_made}
use Rattle.stripe.proofs.stripe.Stripe.get.Goals as goal

pub commit-requires : goal.commit-requires
commit-requires g c =
    let key = to_z-of_z w64 c.args.key c.ranges.key in
    let b : ℤ → Begun = λ k. record { caller = c.args.caller; number = c.args.number; call = Get k; loads = g.L.Loader.ASKS } in
    let is : c.begin.new.self ≡ begun c.args.self.now (b c.args.key) = subst (λ k. c.begin.new.self ≡ begun c.args.self.now (b k)) key c.in_ok-before.ensures.begun in
    let entry : c.in_ok-before.before ≡ entry_of c.args.self.now c.args.key = subst (λ k. c.in_ok-before.before ≡ entry_of c.args.self.now k) key c.in_ok-before.ensures.entry in
    record {
      begun = b c.args.key;
      running = ap (λ (s : Kept). s.running) is;
      ends = subst (λ e. IsAsked g.L.Loader.ASKS e c.ask.result) (entry ∙ sym (c.in_ok-before.ensures.entries c.args.key)) c.ask.ensures.asked;
    }

pub returns-clause-ok : goal.returns-clause-ok
returns-clause-ok g c =
    let key = to_z-of_z w64 c.args.key c.ranges.key in
    let b : ℤ → Begun = λ k. record { caller = c.args.caller; number = c.args.number; call = Get k; loads = g.L.Loader.ASKS } in
    let is : c.begin.new.self ≡ begun c.args.self.now (b c.args.key) = subst (λ k. c.begin.new.self ≡ begun c.args.self.now (b k)) key c.in_ok-before.ensures.begun in
    made_of c.args.self.now c.begin.new.self c.commit.new.self (b c.args.key) (record_of c.commit.result) is c.in_ok-before.ensures.entries
    (c.commit.ensures.«record» (b c.args.key) (ap (λ (s : Kept). s.running) is)) c.commit.ensures.committed

pub returns-clause-kept : goal.returns-clause-kept
returns-clause-kept g c opening h =
    kept_made g.L.Loader.ASKS opening c.args.self.now (record { caller = c.args.caller; number = c.args.number; call = Get c.args.key; loads = g.L.Loader.ASKS }) (record_of c.commit.result) c.commit.new.self c.requires.of
    (returns-clause-ok g c) refl h
