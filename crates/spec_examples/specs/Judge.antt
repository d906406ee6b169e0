-- A program that computes the verdict of a profile: the numbers of the refusals of the first level that has any, or the bounds.
use Rattle.std.specs.Prelude.{ℕ, zero, suc, ◌+◌, ◌-◌, ◌*◌, ◌==◌, max, nat_lt, nat_le, Bool, true, false, not, ◌&&◌, ◌||◌, List, [], ◌∷◌, ◌++◌, length, map, filter, take, drop, flat_map, Option, Some, None, is_some, is_none, Result, Ok, Err, option_map, slice_get, if◌then◌else◌, ℤ, pos, negsuc, int_le, codes}
use Rattle.std.specs.List.{list_all}
use Rattle.jtypes.specs.declared.refusal.Refusal.{Refusal}
use Rattle.jtypes.specs.declared.types.JType.{JType}
use Rattle.jtypes.specs.Refusals.{number}
use Rattle.jtypes.specs.Layout.{Layout, known, part_or, followed, judged, stopped, chosen, ended, first}
use Rattle.jtypes.specs.Lists.{only, last, only_if, same_bytes, is_one_of, ◌>>=◌}
use Rattle.jtypes.specs.Types.{assignable, is_long, slots_by}
use Rattle.constpool.specs.Lookup.{Slot, MemberRef, class_at, method_at}
use Rattle.constpool.specs.Names.{object_name, entry_processor_name, clinit_name, process_name, process_descriptor}
use Rattle.constpool.specs.Descriptor.{sig_of}
use Rattle.classfile.specs.declared.class_file.Member.{Member}
use Rattle.classfile.specs.declared.class_file.Parts.{Parts}
use Rattle.classfile.specs.declared.class_file.CodeParts.{CodeParts}
use Rattle.classfile.specs.Code.{parts_of_code}
use Rattle.classfile.specs.Class.{class_file}
use Rattle.classfile.specs.View.{MethodView, ClassView, view_of, method_view, codes_of, tables_of, text_at, class_name_at}
use Rattle.decode.specs.declared.instruction.Instruction.{Instruction}
use Rattle.decode.specs.declared.instruction.Instruction.TheVariants.{NewArray}
use Rattle.decode.specs.declared.instruction.Placed.{Placed}
use Rattle.decode.specs.Code.{one}
use Rattle.decode.specs.Places.{at_place, target_of, cases_of, falls_through, pushed_before}
use Rattle.frames.specs.Signatures.{method_signature, is_static, is_public, is_native, is_abstract}
use Rattle.frames.specs.declared.frame.Environment.{Environment}
use Rattle.frames.specs.Frames.{Frame, first_frame, frame_in}
use Rattle.frames.specs.StackMap.{Listed, table, frames_from, declared_of}
use Rattle.transfer.specs.Transfer.{transfer}
use Rattle.typecheck.specs.Typing.{Method, Class, call_of, number_of_process}
use Rattle.bounds.specs.Paths.{Cost, last_cost, after_one, after_call, words_at, step_limit, word_limit, slot_limit, depth_limit}
use Rattle.verdict.specs.Shape.{reserved_names, has_other_kind, is_constructor, slots_taken, object_init}
use Rattle.verdict.specs.Known.{knows_signature, knows_named, knows_frame}
use Rattle.verdict.specs.Verdict.{is_known}
use Rattle.spec_examples.specs.Plain.{placed, all_read, environment_of, the_method, class_in}
use Rattle.jtypes.specs.Profile.{Profile, Third}

-- ---- layouts

-- The result of a reading, regardless of its checks.
unfoldable pub found : {A : Type 0} → Layout A → List ℕ → Option (A × List ℕ)
found (known x) bytes = Some (x, bytes)
found (part_or q n) bytes = if nat_lt (length bytes) n then None else Some (take n bytes, drop n bytes)
found (followed l f) bytes = found l bytes >>= λ x. found (f x.0) x.1
found (judged r b) bytes = Some (tt, bytes)
found (stopped r) bytes = None
found (chosen b l m) bytes = if b then found l bytes else found m bytes
found ended bytes = Some (tt, bytes)

abbrev pub list_from : {A B : Type 0} → Option A → (A → List B) → List B
list_from None f = []
list_from (Some x) f = f x

-- The numbers of the refusals of a reading.
unfoldable pub standing : {A : Type 0} → Layout A → List ℕ → List ℕ
standing (known x) bytes = []
standing (part_or q n) bytes = if nat_lt (length bytes) n then number q ∷ [] else []
standing (followed l f) bytes = standing l bytes ++ list_from (found l bytes) (λ x. standing (f x.0) x.1)
standing (judged r b) bytes = if b then [] else number r ∷ []
standing (stopped r) bytes = number r ∷ []
standing (chosen b l m) bytes = if b then standing l bytes else standing m bytes
standing ended bytes = if length bytes == 0 then [] else 6 ∷ []

abbrev pub flag : ℕ → Bool → List ℕ
flag n true = n ∷ []
flag n false = []

abbrev pub any : {A : Type 0} → (A → Bool) → List A → Bool
any f [] = false
any f (x ∷ xs) = f x || any f xs

abbrev pub holds : {A : Type 0} → (A → Bool) → Option A → Bool
holds f None = false
holds f (Some x) = f x

-- ---- level B

abbrev pub has_bad_header : List Slot → Parts → Bool
has_bad_header pool p =
    has_other_kind p.flags || not (holds (same_bytes object_name) (class_at pool p.super_class))
    || not (any (λ i. holds (same_bytes entry_processor_name) (class_at pool i)) p.interfaces)
    || is_one_of (class_name_at pool p.this_class) reserved_names

abbrev pub same_member : MemberRef → MemberRef → Bool
same_member m n = same_bytes m.class n.class && same_bytes m.name n.name && same_bytes m.descriptor n.descriptor

abbrev pub is_init_code : List Slot → List ℕ → Bool
is_init_code pool (a ∷ b ∷ high ∷ low ∷ e ∷ []) =
    a == 0x2A && b == 0xB7 && e == 0xB1 && holds (same_member object_init) (method_at pool (high * 256 + low))
is_init_code pool _ = false

abbrev pub is_init_parts : List Slot → CodeParts → Bool
is_init_parts pool c = is_init_code pool c.code && nat_le 1 c.max_stack && nat_le 1 c.max_locals && length (tables_of pool c) == 0

abbrev pub has_init_form : List Slot → Member → Bool
has_init_form pool m =
    not (is_static m.flags) && same_bytes (text_at pool m.descriptor) (codes "()V")
    && holds (is_init_parts pool) (only (codes_of pool m) >>= parts_of_code)

abbrev pub is_entry_method : MethodView → Bool
is_entry_method m = same_bytes m.name process_name && same_bytes m.descriptor process_descriptor && is_public m.flags && not (is_static m.flags)

abbrev pub has_double : List MethodView → Bool
has_double [] = false
has_double (m ∷ ms) = any (λ n. same_bytes m.name n.name && same_bytes m.descriptor n.descriptor) ms || has_double ms

abbrev pub crowded : List Slot → Member → CodeParts → Bool
crowded pool m c = holds (λ s. nat_lt c.max_locals (slots_taken m.flags s)) (sig_of (text_at pool m.descriptor))

abbrev pub is_bad_content : List Slot → Member → Option CodeParts → Bool
is_bad_content pool m None = true
is_bad_content pool m (Some c) = length c.code == 0 || nat_lt 65535 (length c.code) || crowded pool m c

abbrev pub has_bad_code : List Slot → Member → Bool
has_bad_code pool m = nat_lt 1 (length (codes_of pool m)) || any (λ x. is_bad_content pool m (parts_of_code x)) (codes_of pool m)

abbrev pub has_exceptions : List Slot → Member → Bool
has_exceptions pool m = any (λ x. holds (λ c. nat_lt 0 c.exceptions) (parts_of_code x)) (codes_of pool m)

abbrev pub has_bad_descriptor : Profile → ClassView → MethodView → Bool
has_bad_descriptor profile v m =
    is_none (method_signature v m) || holds (λ s. not (knows_signature profile s)) (method_signature v m) || holds (λ s. nat_lt 255 (slots_taken m.flags s)) (sig_of m.descriptor)

abbrev pub has_no_body : List Slot → Member → Bool
has_no_body pool m = is_abstract m.flags || is_native m.flags || length (codes_of pool m) == 0

unfoldable pub shape_refusals : Profile → List Slot → Parts → List ℕ
shape_refusals profile pool p =
    flag 7 (any (has_bad_descriptor profile (view_of pool p)) (view_of pool p).methods)
    ++ flag 8 (has_bad_header pool p)
    ++ flag 9 (not (holds (has_init_form pool) (only (filter (is_constructor pool) p.methods))))
    ++ flag 10 (any (λ m. same_bytes (text_at pool m.name) clinit_name) p.methods)
    ++ flag 11 (not (any is_entry_method (view_of pool p).methods))
    ++ flag 12 (has_double (view_of pool p).methods)
    ++ flag 13 (any (has_no_body pool) p.methods)
    ++ flag 14 (any (has_bad_code pool) p.methods)
    ++ flag 15 (any (has_exceptions pool) p.methods)

-- ---- level C

-- The instructions of a code array, at most `most`, or the refusal at which decoding stops.
unfoldable pub decoded : Profile → ℕ → List Slot → ℕ → List ℕ → Result (List Placed) Refusal
decoded profile most pool at [] = Ok []
decoded profile zero pool at (b ∷ bytes) = Ok []
decoded profile (suc most) pool at (b ∷ bytes) =
    then_decoded at (length (b ∷ bytes)) (first (one profile pool at) (b ∷ bytes)) (decoded profile most pool)
  where
    onto_rest : Placed → Result (List Placed) Refusal → Result (List Placed) Refusal
    onto_rest p (Ok ps) = Ok (p ∷ ps)
    onto_rest p (Err r) = Err r

    then_decoded : ℕ → ℕ → Result (Instruction × List ℕ) Refusal → (ℕ → List ℕ → Result (List Placed) Refusal) → Result (List Placed) Refusal
    then_decoded at left (Err r) go = Err r
    then_decoded at left (Ok (i, rest)) go = onto_rest (placed at (at + (left - length rest)) i) (go (at + (left - length rest)) rest)

abbrev pub is_bad_target : List Placed → ℤ → Bool
is_bad_target code (pos q) = is_none (at_place code q)
is_bad_target code (negsuc n) = true

-- The branch targets of an instruction, without the next instruction after it.
abbrev pub targets_of : Instruction → List ℤ
targets_of i = list_from (target_of i) (λ t. t ∷ []) ++ cases_of i

abbrev pub names_known : Profile → ClassView → Instruction → Bool
names_known profile v i = is_known v i && knows_named profile v i

abbrev pub code_refusals : Profile → ClassView → Result (List Placed) Refusal → List ℕ
code_refusals profile v (Err r) = number r ∷ []
code_refusals profile v (Ok code) =
    flag 19 (any (λ p. any (is_bad_target code) (targets_of p.instruction)) code)
    ++ flag 20 (any (λ p. any (λ t. int_le t (pos p.place)) (targets_of p.instruction)) code)
    ++ flag 24 (any (λ p. not (names_known profile v p.instruction)) code)

abbrev pub method_code : List Slot → Member → Option CodeParts
method_code pool m = only (codes_of pool m) >>= parts_of_code

abbrev pub others : List Slot → Parts → List Member
others pool p = filter (λ m. not (is_constructor pool m)) p.methods

unfoldable pub instruction_refusals : Profile → List Slot → Parts → List ℕ
instruction_refusals profile pool p =
    flat_map (λ m. list_from (method_code pool m) (λ c. code_refusals profile (view_of pool p) (decoded profile (length c.code) pool 0 c.code))) (others pool p)

-- ---- level D

abbrev pub is_roomy : Environment → List Placed → Listed → Bool
is_roomy e code x = is_some (at_place code x.place) && nat_le (slots_by is_long x.locals) e.max_locals && nat_le (slots_by is_long x.stack) e.max_stack

abbrev pub frames_declared : ClassView → Environment → List Placed → List (List ℕ) → Option (List (ℕ × Frame))
frames_declared v e code [] = Some []
frames_declared v e code (content ∷ []) =
    all_read (first (table v) content) >>= λ entries. frames_from None e.signature.params entries >>= λ xs. only_if (list_all (is_roomy e code) xs) (Some (map (declared_of e) xs))
frames_declared v e code _ = None

abbrev pub lacks_target : Method → Placed → Bool
lacks_target m p = any (λ t. lacks m t) (targets_of p.instruction)
  where
    lacks : Method → ℤ → Bool
    lacks m (pos q) = is_none (frame_in m.declared q)
    lacks m (negsuc n) = true

abbrev pub lacks_after : Method → Placed → Bool
lacks_after m p = not (falls_through p.instruction) && is_some (at_place m.code p.next) && is_none (frame_in m.declared p.next)

abbrev pub lacks_frame : Method → Bool
lacks_frame m = any (λ p. lacks_target m p || lacks_after m p) m.code

abbrev pub each_assignable : List JType → List JType → Bool
each_assignable [] [] = true
each_assignable (t ∷ ts) (u ∷ us) = assignable t u && each_assignable ts us
each_assignable _ _ = false

abbrev pub frame_fits : Frame → Option Frame → Bool
frame_fits g None = true
frame_fits g (Some d) = each_assignable g.locals d.locals && each_assignable g.stack d.stack

abbrev pub place_in : ℤ → Option ℕ
place_in (pos q) = Some q
place_in (negsuc n) = None

abbrev pub flows : Method → Placed → Frame → Bool
flows m p g =
    list_all (λ t. frame_fits g (place_in t >>= frame_in m.declared)) (targets_of p.instruction)
    && (not (falls_through p.instruction) || frame_fits g (frame_in m.declared p.next))

abbrev pub declared_or : Option Frame → Option Frame → Option Frame
declared_or (Some d) o = Some d
declared_or None o = o

abbrev pub after_outcome : Method → Placed → (Option Frame → Option ℕ) → Option Frame → Option ℕ
after_outcome m p go None = Some p.place
after_outcome m p go (Some g) = if flows m p g then go (Some g) else Some p.place

abbrev pub judged_at : ClassView → Method → Placed → Option Frame → (Option Frame → Option ℕ) → Option ℕ
judged_at v m p None go = Some p.place
judged_at v m p (Some f) go = after_outcome m p go (transfer v m.environment p.instruction f)

-- The pc of the first instruction that fails.
-- Each instruction is checked with its declared frame, or else with the outcome of the instruction before.
unfoldable pub mismatch : ClassView → Method → Option Frame → List Placed → Option ℕ
mismatch v m current [] = None
mismatch v m current (p ∷ ps) =
    judged_at v m p (declared_or (frame_in m.declared p.place) current) (λ after. mismatch v m after ps)

abbrev pub first_mismatch : ClassView → Method → Option ℕ
first_mismatch v m =
    if frame_fits (first_frame m.environment) (frame_in m.declared 0) then mismatch v m (Some (first_frame m.environment)) m.code else Some 0

abbrev pub is_length : ℤ → Bool
is_length (pos n) = nat_le n 65535
is_length (negsuc n) = false

abbrev pub is_new_array : Instruction → Bool
is_new_array (NewArray k) = true
is_new_array _ = false

abbrev pub lacks_length : List Placed → List (ℕ × Frame) → Bool
lacks_length code declared = any (λ p. is_new_array p.instruction && (not (holds is_length (pushed_before code p.place)) || is_some (frame_in declared p.place))) code

-- Mismatches as numbers: 1000 plus the pc.
abbrev pub mismatch_number : Option ℕ → List ℕ
mismatch_number None = []
mismatch_number (Some p) = (1000 + p) ∷ []

abbrev pub declares_unknown : Profile → List (ℕ × Frame) → Bool
declares_unknown profile ds = any (λ d. not (knows_frame profile d.1)) ds

abbrev pub typed_refusals : Profile → ClassView → Environment → List Placed → Option (List (ℕ × Frame)) → List ℕ
typed_refusals profile v e code None = 21 ∷ flag 26 (lacks_length code [])
typed_refusals profile v e code (Some ds) =
    (if declares_unknown profile ds || lacks_frame (the_method e code ds) then 21 ∷ [] else mismatch_number (first_mismatch v (the_method e code ds)))
    ++ flag 26 (lacks_length code ds)

abbrev pub body_refusals : Profile → ClassView → Environment → List (List ℕ) → Result (List Placed) Refusal → List ℕ
body_refusals profile v e tables (Err r) = []
body_refusals profile v e tables (Ok code) =
    flag 23 (holds (λ p. falls_through p.instruction) (last code)) ++ typed_refusals profile v e code (frames_declared v e code tables)

abbrev pub member_refusals : Profile → ClassView → Member → List ℕ
member_refusals profile v m =
    list_from (method_code v.pool m) (λ c. list_from (method_signature v (method_view v.pool m)) (λ s. body_refusals profile v (environment_of c s) (tables_of v.pool c) (decoded profile (length c.code) v.pool 0 c.code)))

unfoldable pub type_refusals : Profile → List Slot → Parts → List ℕ
type_refusals profile pool p = flat_map (member_refusals profile (view_of pool p)) (others pool p)

-- ---- level E

abbrev pub greatest : Cost → Cost → Cost
greatest a b = record { steps = max a.steps b.steps; words = max a.words b.words; slots = max a.slots b.slots; depth = max a.depth b.depth }

abbrev pub greater : Option Cost → Option Cost → Option Cost
greater None o = o
greater (Some a) None = Some a
greater (Some a) (Some b) = Some (greatest a b)

-- The greatest cost over the paths from a pc of method `j`, among those that are within `most` recursion steps;
-- `None` if there are none.
unfoldable pub cost : ℕ → Class → ℕ → ℕ → Option Cost
cost zero c j place = None
cost (suc most) c j place = slice_get c.methods j >>= λ m. at_place m.code place >>= λ p. through m p (cost most c)
  where
    onward : Method → Placed → (ℕ → ℕ → Option Cost) → Option ℕ → Option Cost
    onward m p go None = option_map (after_one (words_at m place p.instruction)) (go j p.next)
    onward m p go (Some k) = go k 0 >>= λ e. option_map (after_call m e) (go j p.next)

    aside : (ℕ → ℕ → Option Cost) → List ℤ → Option Cost
    aside go [] = None
    aside go (t ∷ ts) = greater (place_in t >>= λ q. option_map (after_one 0) (go j q)) (aside go ts)

    through : Method → Placed → (ℕ → ℕ → Option Cost) → Option Cost
    through m p go =
        if falls_through p.instruction then greater (aside go (targets_of p.instruction)) (onward m p go (call_of c.view p.instruction))
        else (if is_some (target_of p.instruction) then aside go (targets_of p.instruction) else Some (last_cost m))

abbrev pub limit_refusals : Profile → Cost → List ℕ
limit_refusals profile k =
    flag 27 (nat_lt (step_limit profile) k.steps) ++ flag 28 (nat_lt word_limit k.words) ++ flag 29 (nat_lt slot_limit k.slots || nat_lt depth_limit k.depth)

-- The result for a class: the numbers of its refusals, or its bounds.
pub data Answered : Type 0 where
  Refused : List ℕ → Answered
  Accepted : (steps words slots depth : ℕ) → Answered

abbrev pub accepted : Cost → Answered
accepted k = Accepted k.steps k.words k.slots k.depth

abbrev pub unless : List ℕ → Answered → Answered
unless [] a = a
unless (n ∷ ns) a = Refused (n ∷ ns)

abbrev pub by_cost : Profile → Option Cost → Answered
by_cost profile None = Refused (25 ∷ [])
by_cost profile (Some k) = unless (limit_refusals profile k) (accepted k)

-- Whether each method from index `j` on, reachable or not, has a cost within 120 recursion steps.
abbrev pub each_has_cost : Class → ℕ → List Method → Bool
each_has_cost c j [] = true
each_has_cost c j (m ∷ ms) = is_some (cost 120 c j 0) && each_has_cost c (suc j) ms

abbrev pub by_class : Profile → Option Class → Answered
by_class profile None = Refused []
by_class profile (Some c) = if each_has_cost c 0 c.methods then by_cost profile (number_of_process c >>= λ j. cost 120 c j 0) else Refused (25 ∷ [])

-- The class is read with the second profile, which reads the classes of the first profile in the same way.
abbrev pub by_parts : Profile → Option ((List Slot × Parts) × List ℕ) → Answered
by_parts profile None = Refused []
by_parts profile (Some (p, rest)) =
    unless (shape_refusals profile p.0 p.1) (let i : List ℕ = instruction_refusals profile p.0 p.1 in unless i (let t : List ℕ = type_refusals profile p.0 p.1 in unless t (let c : Option Class = class_in p in by_class profile c)))

unfoldable pub judge_by : Profile → List ℕ → Answered
judge_by profile bytes = unless (standing (class_file (length bytes)) bytes) (by_parts profile (found (class_file (length bytes)) bytes))

abbrev pub judge : List ℕ → Answered
judge bytes = judge_by Third bytes

-- ---- comparison

abbrev pub is_in : List ℕ → ℕ → Bool
is_in xs n = any (λ m. m == n) xs

-- The class is refused; all of `sure` are among its refusals, and its refusals are all among `allowed`.
abbrev pub agrees : Answered → List ℕ → List ℕ → Bool
agrees (Refused found) sure allowed = nat_lt 0 (length found) && list_all (is_in found) sure && list_all (is_in allowed) found
agrees (Accepted steps words slots depth) sure allowed = false
