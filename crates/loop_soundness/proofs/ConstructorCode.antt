-- No branch of a constructor leads back, since its code is three instructions without branches.
use Rattle.std.proofs.Common.{◌≡◌, ℕ, ◌+◌, ◌*◌, Bool, true, false, List, [], ◌∷◌, refl, sym, ap, ◌∙◌, subst, arith}
use Rattle.std.specs.Prelude.{is_some}
use Rattle.byteorder.specs.Endian.{big_number}
use Rattle.jtypes.specs.Profile.{Third}
use Rattle.jtypes.specs.declared.refusal.Refusal.TheVariants.{BadOperand}
use Rattle.jtypes.specs.declared.operations.Kind.TheVariants as kind
use Rattle.jtypes.specs.declared.operations.Invoke.TheVariants as invoke
use Rattle.jtypes.specs.Layout.{IsLaidOut, operand, needed}
use Rattle.constpool.specs.Lookup.{Slot, method_at}
use Rattle.classfile.specs.declared.class_file.CodeParts.{CodeParts}
use Rattle.decode.specs.declared.instruction.Instruction.TheVariants as instruction
use Rattle.decode.specs.declared.instruction.Placed.{Placed}
use Rattle.decode.specs.Code.{one, by_form, operands, IsSequence}
use Rattle.decode.specs.Table.{form_at}
use Rattle.decode.proofs.Runs.{sequence_once}
use Rattle.verdict.specs.Shape.{IsConstructorCode}
use Rattle.unrolled.specs.Rules.{leads_back}

load_laid_out : (pool : List Slot) → IsLaidOut (one Third pool 0) (0x2A ∷ []) (instruction.Load kind.Reference 0)
unfolding one operand by_form operands form_at
load_laid_out pool = (0x2A, 0x2A ∷ [], [], refl, (0x2A ∷ [], 0x2A ∷ [], [], refl, (refl, refl), (refl, refl)), (refl, refl))

return_laid_out : (pool : List Slot) → IsLaidOut (one Third pool 4) (0xB1 ∷ []) instruction.ReturnVoid
unfolding one operand by_form operands form_at
return_laid_out pool = (0xB1, 0xB1 ∷ [], [], refl, (0xB1 ∷ [], 0xB1 ∷ [], [], refl, (refl, refl), (refl, refl)), (refl, refl))

needed_met : (b : Bool) → b ≡ true → IsLaidOut (needed BadOperand b) [] tt
needed_met true e = (refl, refl)
needed_met false e = cc

call_laid_out : (pool : List Slot) (high low : ℕ) → is_some (method_at pool (big_number 2 (high ∷ low ∷ []))) ≡ true → IsLaidOut (one Third pool 1) (0xB7 ∷ high ∷ low ∷ []) (instruction.Invoke invoke.Special (big_number 2 (high ∷ low ∷ [])))
unfolding one operand by_form operands form_at
call_laid_out pool high low e = (
  0xB7,
  0xB7 ∷ [],
  high ∷ low ∷ [],
  refl,
  (0xB7 ∷ [], 0xB7 ∷ [], [], refl, (refl, refl), (refl, refl)),
  (
    big_number 2 (high ∷ low ∷ []),
    high ∷ low ∷ [],
    [],
    refl,
    (high ∷ low ∷ [], high ∷ low ∷ [], [], refl, (refl, refl), (refl, refl)),
    (tt, [], [], refl, needed_met (is_some (method_at pool (big_number 2 (high ∷ low ∷ [])))) e, (refl, refl)),
  ),
)

abbrev code_with : ℕ → List Placed
code_with i =
    record { place = 0; next = 1; instruction = instruction.Load kind.Reference 0 }
    ∷ record { place = 1; next = 4; instruction = instruction.Invoke invoke.Special i }
    ∷ record { place = 4; next = 5; instruction = instruction.ReturnVoid } ∷ []

pub sequence_with : (pool : List Slot) (high low : ℕ) → is_some (method_at pool (big_number 2 (high ∷ low ∷ []))) ≡ true → IsSequence Third pool 0 (0x2A ∷ 0xB7 ∷ high ∷ low ∷ 0xB1 ∷ []) (code_with (big_number 2 (high ∷ low ∷ [])))
sequence_with pool high low some =
    let rest : IsSequence Third pool 4 (0xB1 ∷ []) (record { place = 4; next = 5; instruction = instruction.ReturnVoid } ∷ []) = (refl, 0xB1 ∷ [], [], refl, refl, return_laid_out pool, refl) in
    (refl, 0x2A ∷ [], 0xB7 ∷ high ∷ low ∷ 0xB1 ∷ [], refl, refl, load_laid_out pool, (refl, 0xB7 ∷ high ∷ low ∷ [], 0xB1 ∷ [], refl, refl, call_laid_out pool high low some, rest))

pub constructor_leads_on : (pool : List Slot) (c : CodeParts) (code : List Placed) → IsConstructorCode pool c → IsSequence Third pool 0 c.code code → leads_back code ≡ false
constructor_leads_on pool c code form is =
    let index : big_number 2 (form.high ∷ form.low ∷ []) ≡ form.high * 256 + form.low = omega arith in
    let some : is_some (method_at pool (big_number 2 (form.high ∷ form.low ∷ []))) ≡ true = ap (λ (i : ℕ). is_some (method_at pool i)) index ∙ ap is_some form.calls in
    let it = code_with (big_number 2 (form.high ∷ form.low ∷ [])) in
    let same : it ≡ code = sequence_once Third pool 0 (0x2A ∷ 0xB7 ∷ form.high ∷ form.low ∷ 0xB1 ∷ []) c.code it code (sym form.bytes) (sequence_with pool form.high form.low some) is in
    let forward : leads_back it ≡ false = refl in
    subst (λ (ps : List Placed). leads_back ps ≡ false) same forward
