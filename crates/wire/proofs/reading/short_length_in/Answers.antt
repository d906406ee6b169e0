use Rattle.std.proofs.Common.{◌⊎◌, ◌≡◌, ◌<◌, ◌+◌, ℕ, length, arith, inl, inr}
use Rattle.wire.proofs.Parsed.{other_frame}
use Rattle.wire.proofs.reading.short_length_in.Goals.{then-length-eq0-via-then-length-eq0, then-length-eq0-via-else-length-eq0+then-length-gt-SHORT, then-length-eq0-via-else-length-eq0+else-length-gt-SHORT+then-length-bytes}
use Rattle.wire.proofs.reading.short_length_in.Goals as goal

pub returns-then-length-eq0-clause-none : goal.returns-then-length-eq0-clause-none
returns-then-length-eq0-clause-none c =
    let n : ℕ = c.in_ok-length.field-0 in
    let h = c.in_ok-length.ensures.some in
    let other : (n ≡ 0) ⊎ ((86 < n) ⊎ (length c.args.bytes.now < 4 + n)) = elim c.then-length-eq0.branch [
      | then-length-eq0-via-then-length-eq0 w ↦ inl (omega (arith, w.if-length-eq0.true))
      | then-length-eq0-via-else-length-eq0+then-length-gt-SHORT w ↦ inr (inl (omega (arith, w.if-length-gt-SHORT.true)))
      | then-length-eq0-via-else-length-eq0+else-length-gt-SHORT+then-length-bytes w ↦ inr (inr (omega (arith, w.if-length-bytes.true, h.2)))
    ] in
    other_frame c.args.bytes.now n h.0 h.1 other
