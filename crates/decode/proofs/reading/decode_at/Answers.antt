use Rattle.std.proofs.Common.{List, length, ◌+◌, ◌<◌, ◌^◌, arith, inl, inr, subst, refl, sym, ◌∙◌}
use Rattle.decode.specs.declared.instruction.Placed.{Placed}
use Rattle.decode.specs.Places.{BranchStands}
use Rattle.decode.specs.Faults.{BranchStandsAt}
use Rattle.decode.proofs.Runs.{sequence_once, sequence_rises}
use Rattle.decode.proofs.RisingKeys.{sequence_keys}
use Rattle.jtypes.specs.Profile.{Third}
use Rattle.decode.proofs.reading.decode_at.Goals as goal

pub new-code-requires-clause-rising : goal.new-code-requires-clause-rising
new-code-requires-clause-rising c =
    let small : 0 + length c.args.bytes.now < 2 ^ 64 = omega arith in
    sequence_rises c.args.pool.now 0 c.args.bytes.now c.in_ok-read_sequence.field-0.items small c.in_ok-read_sequence.ensures.0

pub new-code-requires-clause-keys : goal.new-code-requires-clause-keys
new-code-requires-clause-keys c = sequence_keys Third c.args.pool.now 0 c.args.bytes.now c.in_ok-read_sequence.field-0.items c.in_ok-read_sequence.ensures.0

pub returns-in-None-clause-accepted : goal.returns-in-None-clause-accepted
returns-in-None-clause-accepted c = λ r.
    elim [
      | inl s ↦ c.in_ok-read_sequence.ensures.1 r s
      | inr (code, q, b) ↦
          let same = sequence_once Third c.args.pool.now 0 c.args.bytes.now c.args.bytes.now code c.in_ok-read_sequence.field-0.items refl q c.in_ok-read_sequence.ensures.0 in
          c.in-None.ensures.none r (subst (λ (ps : List Placed). BranchStands ps r) (same ∙ sym c.new-code.ensures) b)
    ]

pub returns-in-Some-clause-refused : goal.returns-in-Some-clause-refused
returns-in-Some-clause-refused c = λ n. inr (c.in_ok-read_sequence.field-0.items, c.in_ok-read_sequence.ensures.0, subst (λ (ps : List Placed). BranchStandsAt ps c.in-Some.fault.place c.in-Some.fault.refusal) c.new-code.ensures c.in-Some.ensures.some.1)
