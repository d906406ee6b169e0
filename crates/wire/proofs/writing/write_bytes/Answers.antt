use Rattle.std.proofs.Common.{◌≡◌, ℕ, ◌-◌, List, ◌++◌, length, take, drop, sym, ap, ◌∙◌, append_assoc, take-append-drop, arith, inl}
use Rattle.std.proofs.lemmas.List.{take_rest}
use Rattle.std.proofs.KnownBytes.{Appends-trans}
use Rattle.wire.proofs.writing.write_bytes.Goals as goal

moves_front : (all gone rest : List ℕ) (n : ℕ) → all ≡ gone ++ rest → all ≡ (gone ++ take n rest) ++ take (length rest - n) (drop n rest)
moves_front all gone rest n e =
    e ∙ ap (λ l. gone ++ l) (sym (take-append-drop n rest)) ∙ sym (append_assoc gone (take n rest) (drop n rest)) ∙ ap (λ l. (gone ++ take n rest) ++ l) (sym (take_rest rest n))

pub loop-rest-preserved : goal.loop-rest-preserved
loop-rest-preserved g c =
    let i = c.loop-rest.invariant in
    let rest = c.loop-rest.rest.now in
    let n : ℕ = c.in-Ok.n in
    let kept = c.in-Ok.ensures.kept (inl (omega (arith, c.in-Ok.n-test))) in
    record {
      gone = i.gone ++ take n rest;
      split = moves_front _ i.gone rest n i.split;
      appended = Appends-trans _ _ _ _ _ i.appended c.in-Ok.ensures.bytes;
      kept = (kept.0 ∙ i.kept.0, kept.1 ∙ i.kept.1);
    }
