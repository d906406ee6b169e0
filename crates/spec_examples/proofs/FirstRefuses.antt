-- The first profile refuses the small class with a switch, and each class whose step bound exceeds its limit.
use Rattle.std.proofs.Common.{◌≡◌, false, List, [], ◌∷◌, Ok, refl, arith, inl, inr}
use Rattle.std.specs.Prelude.{ℕ, pos}
use Rattle.jtypes.specs.Profile.{First}
use Rattle.jtypes.specs.Layout.{first, operand, Stands}
use Rattle.jtypes.specs.declared.refusal.Refusal.TheVariants.{OutsideProfile}
use Rattle.jtypes.specs.declared.operations.Pushed.TheVariants as pushed
use Rattle.jtypes.proofs.Laws.{whole_found}
use Rattle.constpool.specs.Lookup.{utf8_at}
use Rattle.decode.specs.declared.instruction.Instruction.TheVariants as instruction
use Rattle.decode.specs.declared.instruction.Placed.{Placed}
use Rattle.decode.specs.Code.{IsSequence, one, by_form, operands}
use Rattle.decode.specs.Table.{form_at}
use Rattle.decode.specs.Places.{CodeStands}
use Rattle.verdict.specs.Shape.{is_constructor}
use Rattle.verdict.specs.Verdict.{InstructionsStand, by_instructions}
use Rattle.verdict.proofs.Methods.{any_from}
use Rattle.soundness.specs.Accepted.{small_pool}
use Rattle.spec_examples.specs.Profiles.{RefusesSwitch, RefusesMoreSteps}
use Rattle.spec_examples.specs.SmallSwitch.{switch_code, switch_member, switch_parts}
use Rattle.spec_examples.proofs.SwitchShape.{is_file, has_shape, process_parts, are_good}

-- The instructions before the switch.
abbrev before : List Placed
before = record { place = 0; next = 1; instruction = instruction.Push (pushed.Int (pos 0)) } ∷ []

-- The operands of the switch, and the bytes after it.
abbrev operands_and_rest : List ℕ
operands_and_rest = 0 ∷ 0 ∷ 0 ∷ 0 ∷ 0 ∷ 19 ∷ 0 ∷ 0 ∷ 0 ∷ 0 ∷ 0 ∷ 0 ∷ 0 ∷ 0 ∷ 0 ∷ 0 ∷ 0 ∷ 19 ∷ 0x01 ∷ 0xB0 ∷ []

iconst_0 : first (one First small_pool 0) (0x03 ∷ []) ≡ Ok (instruction.Push (pushed.Int (pos 0)), [])
unfolding one by_form operands form_at operand
iconst_0 = refl

before_read : IsSequence First small_pool 0 (0x03 ∷ []) before
before_read = (refl, 0x03 ∷ [], [], refl, refl, whole_found (one First small_pool 0) (0x03 ∷ []) (instruction.Push (pushed.Int (pos 0))) iconst_0, refl)

opcode : first (operand 1) (0xAA ∷ []) ≡ Ok (0xAA, [])
unfolding operand
opcode = refl

-- The first profile has no form for this opcode.
switch_stands : Stands (one First small_pool 1) (0xAA ∷ operands_and_rest) (OutsideProfile 0xAA)
unfolding one by_form form_at
switch_stands = inr (0xAA, 0xAA ∷ [], operands_and_rest, refl, whole_found (operand 1) (0xAA ∷ []) 0xAA opcode, refl)

code_stands : CodeStands First small_pool switch_code (OutsideProfile 0xAA)
code_stands = inl (before, 0x03 ∷ [], 0xAA ∷ operands_and_rest, refl, before_read, omega arith, switch_stands)

is_process : is_constructor small_pool switch_member ≡ false
unfolding utf8_at
is_process = refl

pub switch_applies : InstructionsStand First small_pool switch_parts (OutsideProfile 0xAA)
switch_applies = any_from _ switch_parts.methods 1 switch_member refl (is_process, (process_parts, are_good.1.0.has_code, code_stands))

pub refuses_switch : RefusesSwitch
refuses_switch = by_instructions small_pool switch_parts is_file has_shape switch_applies

pub refuses_more_steps : RefusesMoreSteps
refuses_more_steps c j b calm is are over = let path = are.steps in (calm, (j, is, (path.0, path.1, omega (arith, over, path.2))))
