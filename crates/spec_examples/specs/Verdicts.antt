-- The verdicts of small classes, with their bounds.
use Rattle.std.specs.Prelude.{◌≡◌, refl, [], ◌∷◌}
use Rattle.jtypes.specs.Profile.{First, Second}
use Rattle.spec_examples.specs.Judge.{judge, judge_by, Accepted, Refused}
use Rattle.spec_examples.specs.Opened.{opened}
use Rattle.spec_examples.specs.SwitchBytes.{table_bytes, look_bytes, far_bytes, inc_bytes, jump_bytes}
use Rattle.spec_examples.specs.BooleanBytes.{opposite_bytes, flag_bytes}
use Rattle.spec_examples.specs.ThrownBytes.{full_bytes}
use Rattle.spec_examples.specs.Bytes.{plus_bytes, counter_bytes, nest_fault_bytes, unbox_bytes, set_remove_bytes, div_least_bytes, rem_least_bytes, shift64_bytes, shift_neg_bytes, bridge_bytes, loose_bytes, arr_zero_bytes, ratio_bytes, give_entry_bytes}

pub plus_verdict : judge plus_bytes ≡ Accepted 14 0 9 1
unfolding opened plus_bytes
plus_verdict = refl

pub counter_verdict : judge counter_bytes ≡ Accepted 24 0 11 1
unfolding opened counter_bytes
counter_verdict = refl

pub nest_fault_verdict : judge nest_fault_bytes ≡ Accepted 13 0 12 2
unfolding opened nest_fault_bytes
nest_fault_verdict = refl

pub unbox_verdict : judge unbox_bytes ≡ Accepted 6 0 5 1
unfolding opened unbox_bytes
unbox_verdict = refl

pub set_remove_verdict : judge set_remove_bytes ≡ Accepted 21 0 7 1
unfolding opened set_remove_bytes
set_remove_verdict = refl

pub div_least_verdict : judge div_least_bytes ≡ Accepted 6 0 7 1
unfolding opened div_least_bytes
div_least_verdict = refl

pub rem_least_verdict : judge rem_least_bytes ≡ Accepted 6 0 7 1
unfolding opened rem_least_bytes
rem_least_verdict = refl

pub shift64_verdict : judge shift64_bytes ≡ Accepted 5 0 6 1
unfolding opened shift64_bytes
shift64_verdict = refl

pub shift_neg_verdict : judge shift_neg_bytes ≡ Accepted 5 0 6 1
unfolding opened shift_neg_bytes
shift_neg_verdict = refl

pub bridge_verdict : judge bridge_bytes ≡ Accepted 8 0 11 2
unfolding opened bridge_bytes
bridge_verdict = refl

pub loose_verdict : judge loose_bytes ≡ Accepted 5 0 5 1
unfolding opened loose_bytes
loose_verdict = refl

pub arr_zero_verdict : judge arr_zero_bytes ≡ Accepted 6 1 5 1
unfolding opened arr_zero_bytes
arr_zero_verdict = refl

pub ratio_verdict : judge ratio_bytes ≡ Accepted 14 0 9 1
unfolding opened ratio_bytes
ratio_verdict = refl

pub give_entry_verdict : judge give_entry_bytes ≡ Accepted 2 0 4 1
unfolding opened give_entry_bytes
give_entry_verdict = refl

-- ---- with the instructions that the second profile adds

pub table_verdict : judge table_bytes ≡ Accepted 9 0 5 1
unfolding opened table_bytes
table_verdict = refl

pub look_verdict : judge look_bytes ≡ Accepted 9 0 5 1
unfolding opened look_bytes
look_verdict = refl

pub far_verdict : judge far_bytes ≡ Accepted 5 0 260 1
unfolding opened far_bytes
far_verdict = refl

pub inc_verdict : judge inc_bytes ≡ Accepted 7 0 6 1
unfolding opened inc_bytes
inc_verdict = refl

pub jump_verdict : judge jump_bytes ≡ Accepted 3 0 4 1
unfolding opened jump_bytes
jump_verdict = refl

-- ---- by the first profile

pub plus_by_first : judge_by First plus_bytes ≡ Accepted 14 0 9 1
unfolding opened plus_bytes
plus_by_first = refl

pub counter_by_first : judge_by First counter_bytes ≡ Accepted 24 0 11 1
unfolding opened counter_bytes
counter_by_first = refl

pub table_by_first : judge_by First table_bytes ≡ Refused (17 ∷ [])
unfolding opened table_bytes
table_by_first = refl

pub look_by_first : judge_by First look_bytes ≡ Refused (17 ∷ [])
unfolding opened look_bytes
look_by_first = refl

pub far_by_first : judge_by First far_bytes ≡ Refused (17 ∷ [])
unfolding opened far_bytes
far_by_first = refl

pub inc_by_first : judge_by First inc_bytes ≡ Refused (17 ∷ [])
unfolding opened inc_bytes
inc_by_first = refl

pub jump_by_first : judge_by First jump_bytes ≡ Refused (17 ∷ [])
unfolding opened jump_bytes
jump_by_first = refl

-- ---- with the type and the instructions that the third profile adds

pub opposite_verdict : judge opposite_bytes ≡ Accepted 10 0 5 1
unfolding opened opposite_bytes
opposite_verdict = refl

pub opposite_by_second : judge_by Second opposite_bytes ≡ Refused (24 ∷ [])
unfolding opened opposite_bytes
opposite_by_second = refl

pub flag_verdict : judge flag_bytes ≡ Accepted 5 0 6 2
unfolding opened flag_bytes
flag_verdict = refl

pub flag_by_second : judge_by Second flag_bytes ≡ Refused (7 ∷ [])
unfolding opened flag_bytes
flag_by_second = refl

pub full_verdict : judge full_bytes ≡ Accepted 8 0 6 1
unfolding opened full_bytes
full_verdict = refl

pub full_by_second : judge_by Second full_bytes ≡ Refused (17 ∷ [])
unfolding opened full_bytes
full_by_second = refl
