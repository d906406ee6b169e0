use Rattle.std.proofs.Common.{◌≡◌, ℕ, List, [], ◌∷◌, ◌++◌, Result, Ok, Err, if◌then◌else◌, is_ok, ap, ◌∙◌, append_assoc}
use Rattle.std.specs.Prelude.{OnOk}
use Rattle.std.specs.Int.{w64, to_be_bytes}
use Rattle.std.proofs.lemmas.Int.{to_z-of_z}
use Rattle.wire.proofs.Streams.{on_ok_map}
use Rattle.wire.proofs.writing.add_returned_long.Goals as goal

on_ok_grown : {A E : Type 0} (r : Result A E) (new old more : List ℕ) → new ≡ (if is_ok r then old ++ more else old) → OnOk r (new ≡ old ++ more)
on_ok_grown (Ok x) new old more h = h
on_ok_grown (Err e) new old more h = tt

pub returns : goal.returns
returns c =
    let bytes : List ℕ = c.args.bytes.now.items in
    let head : List ℕ = 0 ∷ 0 ∷ 0 ∷ 11 ∷ 6 ∷ 0 ∷ 1 ∷ [] in
    let long : List ℕ = c.to_be_bytes.result in
    let old : List ℕ = c.extend_from_slice.new.self.items in
    let first : old ≡ bytes ++ head = c.in_ok-extend_from_slice.ensures.items in
    on_ok_map c.extend_from_slice-2.result (λ (e : c.extend_from_slice-2.new.self.items ≡ old ++ long). e ∙ ap (λ (l : List ℕ). l ++ long) first ∙ append_assoc bytes head long ∙ ap (λ (l : List ℕ). bytes ++ (head ++ l)) (c.to_be_bytes.ensures ∙ ap (to_be_bytes w64) (rw (to_z-of_z w64 c.args.n c.ranges.n) at c.cast_unsigned.ensures)))
    (on_ok_grown c.extend_from_slice-2.result c.extend_from_slice-2.new.self.items old long c.extend_from_slice-2.ensures.items)
