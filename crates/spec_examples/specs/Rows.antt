-- Small classes, from their bytes to the final states of their calls.
use Rattle.std.specs.Prelude.{◌≡◌, ℕ, true, false, [], ◌∷◌, Some, None, pos, negsuc, refl}
use Rattle.jtypes.specs.declared.types.Arg.TheVariants as arg
use Rattle.jtypes.specs.declared.types.Exception.TheVariants as exception
use Rattle.jtypes.specs.declared.types.JavaFault.TheVariants as fault
use Rattle.jtypes.specs.declared.types.Outcome.{Outcome}
use Rattle.jtypes.specs.declared.types.Outcome.TheVariants.{Returned, Threw}
use Rattle.jtypes.specs.declared.loader.LoadAnswer.{LoadAnswer}
use Rattle.jtypes.specs.declared.loader.LoadAnswer.TheVariants as load
use Rattle.jtypes.specs.Entry.{Entry}
use Rattle.verdict.specs.Machine.{Final}
use Rattle.spec_examples.specs.Plain.{class_of, outcome_of, outcome_by, the_call, the_asking_call}
use Rattle.spec_examples.specs.Opened.{opened}
use Rattle.spec_examples.specs.SwitchBytes.{table_bytes, look_bytes, far_bytes, inc_bytes, jump_bytes}
use Rattle.spec_examples.specs.BooleanBytes.{opposite_bytes}
use Rattle.spec_examples.specs.ThrownBytes.{full_bytes}
use Rattle.spec_examples.specs.Bytes.{arr_zero_bytes, bridge_bytes, counter_bytes, div_least_bytes, give_entry_bytes, loose_bytes, nest_fault_bytes, plus_bytes, ratio_bytes, rem_least_bytes, set_remove_bytes, shift64_bytes, shift_neg_bytes, unbox_bytes}

-- The final state if neither `setValue` nor `remove` was called, or an exception undid their effect.
abbrev pub final : Outcome → Entry → ℕ → ℕ → Final
final o e steps words = record { outcome = o; entry = e; untouched = true; asked = None; steps = steps; words = words }

-- The same if the loader was asked and gave this answer.
abbrev pub final_by : LoadAnswer → Outcome → Entry → ℕ → Final
final_by a o e steps = record { outcome = o; entry = e; untouched = true; asked = Some a; steps = steps; words = 0 }

-- The same if `setValue` or `remove` was called and took effect.
abbrev pub changed : Final → Final
changed f = record { outcome = f.outcome; entry = f.entry; untouched = false; asked = f.asked; steps = f.steps; words = f.words }

pub plus_1 : outcome_of 30 (class_of plus_bytes) (the_call (pos 7) (Some (pos 41)) []) ≡ Some (changed (final (Returned (arg.Long (pos 42))) (Some (pos 42)) 14 0))
unfolding opened plus_bytes
plus_1 = refl

pub plus_2 : outcome_of 30 (class_of plus_bytes) (the_call (pos 7) None []) ≡ Some (final (Threw fault.NullPointer) None 4 0)
unfolding opened plus_bytes
plus_2 = refl

pub plus_3 : outcome_of 30 (class_of plus_bytes) (the_call (pos 7) (Some (pos 9223372036854775807)) []) ≡ Some (changed (final (Returned (arg.Long (negsuc 9223372036854775807))) (Some (negsuc 9223372036854775807)) 14 0))
unfolding opened plus_bytes
plus_3 = refl

pub counter_1 : outcome_of 30 (class_of counter_bytes) (the_call (pos 7) (Some (pos 41)) (arg.Long (pos 1) ∷ [])) ≡ Some (changed (final (Returned (arg.Long (pos 42))) (Some (pos 42)) 24 0))
unfolding opened counter_bytes
counter_1 = refl

pub counter_2 : outcome_of 30 (class_of counter_bytes) (the_call (pos 7) None (arg.Long (pos 1) ∷ [])) ≡ Some (changed (final (Returned (arg.Long (pos 1))) (Some (pos 1)) 20 0))
unfolding opened counter_bytes
counter_2 = refl

pub counter_3 : outcome_of 30 (class_of counter_bytes) (the_call (pos 7) (Some (pos 41)) []) ≡ Some (final (Threw fault.ArrayIndexOutOfBounds) (Some (pos 41)) 13 0)
unfolding opened counter_bytes
counter_3 = refl

pub counter_4 : outcome_of 30 (class_of counter_bytes) (the_call (pos 7) (Some (pos 41)) (arg.Integer (pos 1) ∷ [])) ≡ Some (final (Threw fault.ClassCast) (Some (pos 41)) 14 0)
unfolding opened counter_bytes
counter_4 = refl

pub counter_5 : outcome_of 30 (class_of counter_bytes) (the_call (pos 7) (Some (pos 9223372036854775807)) (arg.Long (pos 1) ∷ [])) ≡ Some (changed (final (Returned (arg.Long (negsuc 9223372036854775807))) (Some (negsuc 9223372036854775807)) 24 0))
unfolding opened counter_bytes
counter_5 = refl

pub nest_fault_1 : outcome_of 30 (class_of nest_fault_bytes) (the_call (pos 7) (Some (pos 41)) []) ≡ Some (final (Threw fault.Arithmetic) (Some (pos 41)) 10 0)
unfolding opened nest_fault_bytes
nest_fault_1 = refl

pub unbox_1 : outcome_of 30 (class_of unbox_bytes) (the_call (pos 7) None []) ≡ Some (final (Threw fault.NullPointer) None 4 0)
unfolding opened unbox_bytes
unbox_1 = refl

pub unbox_2 : outcome_of 30 (class_of unbox_bytes) (the_call (pos 7) (Some (pos 5)) []) ≡ Some (final (Returned (arg.Long (pos 5))) (Some (pos 5)) 6 0)
unfolding opened unbox_bytes
unbox_2 = refl

pub set_remove_1 : outcome_of 30 (class_of set_remove_bytes) (the_call (pos 7) None []) ≡ Some (changed (final (Returned (arg.Long (pos 2))) None 21 0))
unfolding opened set_remove_bytes
set_remove_1 = refl

pub set_remove_2 : outcome_of 30 (class_of set_remove_bytes) (the_call (pos 7) (Some (pos 5)) []) ≡ Some (changed (final (Returned (arg.Long (pos 3))) None 21 0))
unfolding opened set_remove_bytes
set_remove_2 = refl

pub div_least_1 : outcome_of 30 (class_of div_least_bytes) (the_call (pos 7) None []) ≡ Some (final (Returned (arg.Long (negsuc 9223372036854775807))) None 6 0)
unfolding opened div_least_bytes
div_least_1 = refl

pub rem_least_1 : outcome_of 30 (class_of rem_least_bytes) (the_call (pos 7) None []) ≡ Some (final (Returned (arg.Long (pos 0))) None 6 0)
unfolding opened rem_least_bytes
rem_least_1 = refl

pub shift64_1 : outcome_of 30 (class_of shift64_bytes) (the_call (pos 7) None []) ≡ Some (final (Returned (arg.Long (pos 1))) None 5 0)
unfolding opened shift64_bytes
shift64_1 = refl

pub shift_neg_1 : outcome_of 30 (class_of shift_neg_bytes) (the_call (pos 7) None []) ≡ Some (final (Returned (arg.Long (negsuc 9223372036854775807))) None 5 0)
unfolding opened shift_neg_bytes
shift_neg_1 = refl

pub bridge_1 : outcome_of 30 (class_of bridge_bytes) (the_call (pos 7) None []) ≡ Some (final (Returned (arg.Long (pos 1))) None 8 0)
unfolding opened bridge_bytes
bridge_1 = refl

pub loose_1 : outcome_of 30 (class_of loose_bytes) (the_call (pos 7) None (arg.Long (pos 4) ∷ [])) ≡ Some (final (Threw fault.IncompatibleClassChange) None 4 0)
unfolding opened loose_bytes
loose_1 = refl

pub loose_2 : outcome_of 30 (class_of loose_bytes) (the_call (pos 7) None (arg.Null ∷ [])) ≡ Some (final (Threw fault.NullPointer) None 4 0)
unfolding opened loose_bytes
loose_2 = refl

pub loose_3 : outcome_of 30 (class_of loose_bytes) (the_call (pos 7) None []) ≡ Some (final (Threw fault.ArrayIndexOutOfBounds) None 3 0)
unfolding opened loose_bytes
loose_3 = refl

pub arr_zero_1 : outcome_of 30 (class_of arr_zero_bytes) (the_call (pos 7) None []) ≡ Some (final (Returned (arg.Long (pos 0))) None 6 1)
unfolding opened arr_zero_bytes
arr_zero_1 = refl

pub ratio_1 : outcome_of 30 (class_of ratio_bytes) (the_call (pos 7) (Some (pos 2)) []) ≡ Some (final (Returned (arg.Long (pos 0))) (Some (pos 2)) 14 0)
unfolding opened ratio_bytes
ratio_1 = refl

pub ratio_2 : outcome_of 30 (class_of ratio_bytes) (the_call (pos 7) (Some (pos 1)) []) ≡ Some (final (Returned arg.Null) (Some (pos 1)) 11 0)
unfolding opened ratio_bytes
ratio_2 = refl

pub ratio_3 : outcome_of 30 (class_of ratio_bytes) (the_call (pos 7) (Some (pos 0)) []) ≡ Some (final (Threw fault.Arithmetic) (Some (pos 0)) 12 0)
unfolding opened ratio_bytes
ratio_3 = refl

pub give_entry_1 : outcome_of 30 (class_of give_entry_bytes) (the_call (pos 7) (Some (pos 41)) []) ≡ Some (final (Threw fault.ClassCast) (Some (pos 41)) 2 0)
unfolding opened give_entry_bytes
give_entry_1 = refl

-- ---- with the instructions that the second profile adds

pub table_1 : outcome_of 30 (class_of table_bytes) (the_call (pos 7) (Some (pos 1)) []) ≡ Some (final (Returned (arg.Long (pos 1))) (Some (pos 1)) 9 0)
unfolding opened table_bytes
table_1 = refl

pub table_2 : outcome_of 30 (class_of table_bytes) (the_call (pos 7) (Some (pos 2)) []) ≡ Some (final (Returned arg.Null) (Some (pos 2)) 8 0)
unfolding opened table_bytes
table_2 = refl

pub table_3 : outcome_of 30 (class_of table_bytes) (the_call (pos 7) (Some (pos 3)) []) ≡ Some (final (Returned (arg.Long (pos 0))) (Some (pos 3)) 9 0)
unfolding opened table_bytes
table_3 = refl

pub table_4 : outcome_of 30 (class_of table_bytes) (the_call (pos 7) (Some (pos 4294967297)) []) ≡ Some (final (Returned (arg.Long (pos 1))) (Some (pos 4294967297)) 9 0)
unfolding opened table_bytes
table_4 = refl

pub look_1 : outcome_of 30 (class_of look_bytes) (the_call (pos 7) (Some (pos 4294967291)) []) ≡ Some (final (Returned (arg.Long (pos 1))) (Some (pos 4294967291)) 9 0)
unfolding opened look_bytes
look_1 = refl

pub look_2 : outcome_of 30 (class_of look_bytes) (the_call (pos 7) (Some (pos 9)) []) ≡ Some (final (Returned arg.Null) (Some (pos 9)) 8 0)
unfolding opened look_bytes
look_2 = refl

pub look_3 : outcome_of 30 (class_of look_bytes) (the_call (pos 7) (Some (pos 5)) []) ≡ Some (final (Returned (arg.Long (pos 0))) (Some (pos 5)) 9 0)
unfolding opened look_bytes
look_3 = refl

pub far_1 : outcome_of 30 (class_of far_bytes) (the_call (pos 7) None []) ≡ Some (final (Returned (arg.Long (pos 1))) None 5 0)
unfolding opened far_bytes
far_1 = refl

pub inc_1 : outcome_of 30 (class_of inc_bytes) (the_call (pos 7) None []) ≡ Some (final (Returned (arg.Long (negsuc 300))) None 7 0)
unfolding opened inc_bytes
inc_1 = refl

pub jump_1 : outcome_of 30 (class_of jump_bytes) (the_call (pos 7) None []) ≡ Some (final (Returned arg.Null) None 3 0)
unfolding opened jump_bytes
jump_1 = refl

-- ---- with an argument and a result of type Boolean

pub opposite_1 : outcome_of 30 (class_of opposite_bytes) (the_call (pos 7) (Some (pos 41)) (arg.Boolean true ∷ [])) ≡ Some (final (Returned (arg.Boolean false)) (Some (pos 41)) 9 0)
unfolding opened opposite_bytes
opposite_1 = refl

pub opposite_2 : outcome_of 30 (class_of opposite_bytes) (the_call (pos 7) None (arg.Boolean false ∷ [])) ≡ Some (final (Returned (arg.Boolean true)) None 10 0)
unfolding opened opposite_bytes
opposite_2 = refl

pub opposite_3 : outcome_of 30 (class_of opposite_bytes) (the_call (pos 7) None (arg.Integer (pos 1) ∷ [])) ≡ Some (final (Threw fault.ClassCast) None 4 0)
unfolding opened opposite_bytes
opposite_3 = refl

pub opposite_4 : outcome_of 30 (class_of opposite_bytes) (the_call (pos 7) None (arg.Null ∷ [])) ≡ Some (final (Threw fault.NullPointer) None 5 0)
unfolding opened opposite_bytes
opposite_4 = refl

-- ---- with an exception of the processor, whose text is constant 27: `setValue` has no effect

pub full_1 : outcome_of 30 (class_of full_bytes) (the_call (pos 7) (Some (pos 41)) []) ≡ Some (final (Threw (fault.Thrown exception.IllegalState 27)) (Some (pos 41)) 8 0)
unfolding opened full_bytes
full_1 = refl

pub full_2 : outcome_of 30 (class_of full_bytes) (the_call (pos 7) None []) ≡ Some (final (Returned (arg.Boolean true)) None 5 0)
unfolding opened full_bytes
full_2 = refl

-- ---- with a loader, on absent keys

pub plus_loaded : outcome_by 30 (class_of plus_bytes) (load.Value (pos 41)) (the_asking_call (pos 7) ([])) ≡ Some (changed (final_by (load.Value (pos 41)) (Returned (arg.Long (pos 42))) (Some (pos 42)) 14))
unfolding opened plus_bytes
plus_loaded = refl

pub plus_none : outcome_by 30 (class_of plus_bytes) load.None (the_asking_call (pos 8) ([])) ≡ Some (final_by load.None (Threw fault.NullPointer) None 4)
unfolding opened plus_bytes
plus_none = refl

pub plus_failed : outcome_by 30 (class_of plus_bytes) load.Failed (the_asking_call (pos 13) ([])) ≡ Some (final_by load.Failed (Threw fault.CacheLoader) None 2)
unfolding opened plus_bytes
plus_failed = refl

pub unbox_loaded : outcome_by 30 (class_of unbox_bytes) (load.Value (pos 41)) (the_asking_call (pos 7) ([])) ≡ Some (final_by (load.Value (pos 41)) (Returned (arg.Long (pos 41))) (Some (pos 41)) 6)
unfolding opened unbox_bytes
unbox_loaded = refl

pub counter_unasked : outcome_by 30 (class_of counter_bytes) (load.Value (pos 41)) (the_asking_call (pos 7) (arg.Long (pos 1) ∷ [])) ≡ Some (changed (final (Returned (arg.Long (pos 1))) (Some (pos 1)) 20 0))
unfolding opened counter_bytes
counter_unasked = refl

pub set_remove_unasked : outcome_by 30 (class_of set_remove_bytes) (load.Value (pos 41)) (the_asking_call (pos 7) ([])) ≡ Some (changed (final (Returned (arg.Long (pos 2))) None 21 0))
unfolding opened set_remove_bytes
set_remove_unasked = refl

pub ratio_loaded : outcome_by 30 (class_of ratio_bytes) (load.Value (pos 0)) (the_asking_call (pos 9) ([])) ≡ Some (final_by (load.Value (pos 0)) (Threw fault.Arithmetic) None 12)
unfolding opened ratio_bytes
ratio_loaded = refl
