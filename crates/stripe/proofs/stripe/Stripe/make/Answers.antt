use Rattle.std.proofs.Common.{false, refl, ap}
use Rattle.stripe.specs.History.{Begun, key_of}
use Rattle.stripe.specs.Seen.{call_of, record_of}
use Rattle.stripe.specs.Kept.{Kept, entry_of}
use Rattle.stripe.proofs.Keeps.{made_of, plain_ends, kept_plain}
use Rattle.stripe.proofs.stripe.Stripe.make.Goals as goal

pub commit-requires : goal.commit-requires
commit-requires c =
    let call = call_of c.args.call in
    record {
      begun = record { caller = c.args.caller; number = c.args.number; call = call; loads = false };
      running = ap (λ (s : Kept). s.running) c.in_ok-begin.ensures.begun;
      ends = plain_ends false (entry_of c.begin.new.self (key_of call)) call c.requires.plain;
    }

pub returns-clause-ok : goal.returns-clause-ok
returns-clause-ok c =
    let b : Begun = record { caller = c.args.caller; number = c.args.number; call = call_of c.args.call; loads = false } in
    let is = c.in_ok-begin.ensures.begun in
    made_of c.args.self.now c.begin.new.self c.commit.new.self b (record_of c.commit.result) is c.in_ok-begin.ensures.entries (c.commit.ensures.«record» b (ap (λ (s : Kept). s.running) is)) c.commit.ensures.committed

pub returns-clause-kept : goal.returns-clause-kept
returns-clause-kept c loads opening h =
    let b : Begun = record { caller = c.args.caller; number = c.args.number; call = call_of c.args.call; loads = false } in
    kept_plain loads opening c.args.self.now b (record_of c.commit.result) c.commit.new.self c.requires.of (returns-clause-ok c) refl c.requires.plain h
