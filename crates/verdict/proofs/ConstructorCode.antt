-- The code of a constructor decodes to three instructions.
use Rattle.std.proofs.Common.{◌≡◌, ℕ, ◌+◌, ◌*◌, Bool, true, false, List, [], ◌∷◌, Some, refl, sym, ap, ◌∙◌, subst, arith}
use Rattle.std.specs.Prelude.{is_some}
use Rattle.byteorder.specs.Endian.{big_number}
use Rattle.jtypes.specs.declared.refusal.Refusal.TheVariants.{BadOperand}
use Rattle.jtypes.specs.declared.operations.Kind.TheVariants as kind
use Rattle.jtypes.specs.declared.operations.Invoke.TheVariants as invoke
use Rattle.jtypes.specs.Layout.{IsLaidOut, operand, needed}
use Rattle.constpool.specs.Lookup.{Slot, method_at}
use Rattle.decode.specs.declared.instruction.Instruction.TheVariants as instruction
use Rattle.decode.specs.declared.instruction.Placed.{Placed}
use Rattle.decode.specs.Code.{one, by_form, operands, IsSequence}
use Rattle.decode.specs.Table.{form_at}
use Rattle.verdict.specs.Shape.{object_init}
use Rattle.jtypes.specs.Profile.{Profile, First, Second, Third}

load_laid_out : (p : Profile) (pool : List Slot) → IsLaidOut (one p pool 0) (0x2A ∷ []) (instruction.Load kind.Reference 0)
unfolding one operand by_form operands form_at
load_laid_out First pool = (0x2A, 0x2A ∷ [], [], refl, (0x2A ∷ [], 0x2A ∷ [], [], refl, (refl, refl), (refl, refl)), (refl, refl))
load_laid_out Second pool = (0x2A, 0x2A ∷ [], [], refl, (0x2A ∷ [], 0x2A ∷ [], [], refl, (refl, refl), (refl, refl)), (refl, refl))
load_laid_out Third pool = (0x2A, 0x2A ∷ [], [], refl, (0x2A ∷ [], 0x2A ∷ [], [], refl, (refl, refl), (refl, refl)), (refl, refl))

return_laid_out : (p : Profile) (pool : List Slot) → IsLaidOut (one p pool 4) (0xB1 ∷ []) instruction.ReturnVoid
unfolding one operand by_form operands form_at
return_laid_out First pool = (0xB1, 0xB1 ∷ [], [], refl, (0xB1 ∷ [], 0xB1 ∷ [], [], refl, (refl, refl), (refl, refl)), (refl, refl))
return_laid_out Second pool = (0xB1, 0xB1 ∷ [], [], refl, (0xB1 ∷ [], 0xB1 ∷ [], [], refl, (refl, refl), (refl, refl)), (refl, refl))
return_laid_out Third pool = (0xB1, 0xB1 ∷ [], [], refl, (0xB1 ∷ [], 0xB1 ∷ [], [], refl, (refl, refl), (refl, refl)), (refl, refl))

needed_met : (b : Bool) → b ≡ true → IsLaidOut (needed BadOperand b) [] tt
needed_met true e = (refl, refl)
needed_met false e = cc

call_laid_out : (p : Profile) (pool : List Slot) (high low : ℕ) → is_some (method_at pool (big_number 2 (high ∷ low ∷ []))) ≡ true → IsLaidOut (one p pool 1) (0xB7 ∷ high ∷ low ∷ []) (instruction.Invoke invoke.Special (big_number 2 (high ∷ low ∷ [])))
unfolding one operand by_form operands form_at
call_laid_out First pool high low e = (
  0xB7,
  0xB7 ∷ [],
  high ∷ low ∷ [],
  refl,
  (0xB7 ∷ [], 0xB7 ∷ [], [], refl, (refl, refl), (refl, refl)),
  (
    big_number 2 (high ∷ low ∷ []),
    high ∷ low ∷ [],
    [],
    refl,
    (high ∷ low ∷ [], high ∷ low ∷ [], [], refl, (refl, refl), (refl, refl)),
    (tt, [], [], refl, needed_met (is_some (method_at pool (big_number 2 (high ∷ low ∷ [])))) e, (refl, refl)),
  ),
)
call_laid_out Second pool high low e = (
  0xB7,
  0xB7 ∷ [],
  high ∷ low ∷ [],
  refl,
  (0xB7 ∷ [], 0xB7 ∷ [], [], refl, (refl, refl), (refl, refl)),
  (
    big_number 2 (high ∷ low ∷ []),
    high ∷ low ∷ [],
    [],
    refl,
    (high ∷ low ∷ [], high ∷ low ∷ [], [], refl, (refl, refl), (refl, refl)),
    (tt, [], [], refl, needed_met (is_some (method_at pool (big_number 2 (high ∷ low ∷ [])))) e, (refl, refl)),
  ),
)
call_laid_out Third pool high low e = (
  0xB7,
  0xB7 ∷ [],
  high ∷ low ∷ [],
  refl,
  (0xB7 ∷ [], 0xB7 ∷ [], [], refl, (refl, refl), (refl, refl)),
  (
    big_number 2 (high ∷ low ∷ []),
    high ∷ low ∷ [],
    [],
    refl,
    (high ∷ low ∷ [], high ∷ low ∷ [], [], refl, (refl, refl), (refl, refl)),
    (tt, [], [], refl, needed_met (is_some (method_at pool (big_number 2 (high ∷ low ∷ [])))) e, (refl, refl)),
  ),
)

abbrev code_of : ℕ → List Placed
code_of i =
    record { place = 0; next = 1; instruction = instruction.Load kind.Reference 0 } ∷ record { place = 1; next = 4; instruction = instruction.Invoke invoke.Special i } ∷ record { place = 4; next = 5; instruction = instruction.ReturnVoid } ∷ []

pub constructor_sequence : (p : Profile) (pool : List Slot) (high low : ℕ) (text : List ℕ) → text ≡ 0x2A ∷ 0xB7 ∷ high ∷ low ∷ 0xB1 ∷ [] → method_at pool (high * 256 + low) ≡ Some object_init → (code : List Placed) × IsSequence p pool 0 text code
constructor_sequence p pool high low text is calls =
    let index : big_number 2 (high ∷ low ∷ []) ≡ high * 256 + low = omega arith in
    let some : is_some (method_at pool (big_number 2 (high ∷ low ∷ []))) ≡ true = ap (λ (i : ℕ). is_some (method_at pool i)) index ∙ ap is_some calls in
    let rest : IsSequence p pool 4 (0xB1 ∷ []) (record { place = 4; next = 5; instruction = instruction.ReturnVoid } ∷ []) = (refl, 0xB1 ∷ [], [], refl, refl, return_laid_out p pool, refl) in
    let all : IsSequence p pool 0 (0x2A ∷ 0xB7 ∷ high ∷ low ∷ 0xB1 ∷ []) (code_of (big_number 2 (high ∷ low ∷ []))) =
    (refl, 0x2A ∷ [], 0xB7 ∷ high ∷ low ∷ 0xB1 ∷ [], refl, refl, load_laid_out p pool, (refl, 0xB7 ∷ high ∷ low ∷ [], 0xB1 ∷ [], refl, refl, call_laid_out p pool high low some, rest))
    in
    (code_of (big_number 2 (high ∷ low ∷ [])), subst (λ (t : List ℕ). IsSequence p pool 0 t (code_of (big_number 2 (high ∷ low ∷ [])))) (sym is) all)
