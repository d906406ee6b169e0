-- The bytes of the small class with a loop are accepted.
use Rattle.std.proofs.Common.{◌≡◌, ℕ, zero, suc, Bool, true, [], ◌∷◌, Some, refl, subst, sym, arith}
use Rattle.std.specs.Prelude.{is_some}
use Rattle.jtypes.specs.Profile.{Third}
use Rattle.constpool.specs.Lookup.{utf8_at, class_at, pair_at, member_of, method_at}
use Rattle.classfile.specs.Code.{is_named, contents_named}
use Rattle.decode.specs.Code.{IsSequence}
use Rattle.decode.specs.Places.{at_place}
use Rattle.frames.specs.Members.{library_rows, callee_at}
use Rattle.frames.specs.StackMap.{without}
use Rattle.typecheck.specs.Typing.{Method, IsProcessOf, instruction_at}
use Rattle.bounds.specs.Paths.{Bounds, Cost}
use Rattle.bounds.specs.Recursion.{HasCall, IsOrdered, IsRecursive}
use Rattle.bounds.proofs.Ranks.{ranked_is_not_recursive}
use Rattle.verdict.specs.Verdict.{IsBody, IsClassOfFile, IsClassOf}
use Rattle.verdict.specs.Verdict as verdict
use Rattle.soundness.specs.Accepted.{constructor_member, constructor_code, constructor_method}
use Rattle.soundness.proofs.SmallBytes.{constructor_parts}
use Rattle.soundness.proofs.StraightCode.{Each, each_at}
use Rattle.unrolled.specs.Graph.{Node}
use Rattle.unrolled.specs.Rules.{rules_of}
use Rattle.unrolled.specs.Paths.{start_node, AreBounds, Path}
use Rattle.unrolled.specs.Cover.{IsCover}
use Rattle.unrolled.specs.Certificates.{is_in, rank_in}
use Rattle.unrolled.specs.Limits.{IsUnrolled}
use Rattle.unrolled.specs.Example.{loop_code, loop_method}
use Rattle.unrolled.proofs.Certificates.{certificates_cover}
use Rattle.unrolled.proofs.Unrolled.{unrolled_has_bounds}
use Rattle.loop_soundness.specs.ExampleBytes.{table_content, loop_bytes, loop_pool, loop_parts, loop_file_class, loop_file_points, LoopIsAccepted}
use Rattle.loop_soundness.specs.Promise.{AreWithinLimits, IsReadyForNodes}
use Rattle.loop_soundness.proofs.ConstructorCode.{sequence_with}
use Rattle.loop_soundness.proofs.ListedClasses.{listed_is_accepted}
use Rattle.loop_soundness.proofs.LonePaths.{IsLone, IsDry, IsShort, short_path}
use Rattle.loop_soundness.proofs.LoopBytes.{is_file, has_shape, constructor_signed, are_good}
use Rattle.loop_soundness.proofs.LoopInstructions.{has_instructions, leads_back_somewhere}
use Rattle.loop_soundness.proofs.LoopTypes.{process_body, process_declared, has_types}

-- ---- the class

calls_object : is_some (method_at loop_pool 10) ≡ true
unfolding method_at class_at pair_at member_of utf8_at
calls_object = refl

constructor_sequence : IsSequence Third loop_pool 0 constructor_parts.code constructor_code
constructor_sequence = sequence_with loop_pool 0 10 calls_object

constructor_body : IsBody Third loop_pool loop_parts constructor_member constructor_method.environment constructor_code []
unfolding contents_named is_named utf8_at
constructor_body = record {
  parts = constructor_parts;
  has_code = are_good.0.has_code;
  signature = constructor_signed;
  max_stack = refl;
  max_locals = refl;
  sequence = constructor_sequence;
  tables_are = refl;
}

is_class : IsClassOfFile Third loop_pool loop_parts loop_file_class
is_class = record {
  view = refl;
  methods = (record { tables = []; body = constructor_body; declared = without }, (record { tables = table_content ∷ []; body = process_body; declared = process_declared }, tt));
}

class_is : IsClassOf Third loop_bytes loop_file_class
class_is = record { pool = loop_pool; parts = loop_parts; file = is_file; class = is_class }

process_is : IsProcessOf loop_file_class 1
unfolding utf8_at
process_is = refl

-- ---- its calls

constructor_lone : Each (IsLone loop_file_class) constructor_code
unfolding callee_at library_rows method_at class_at pair_at member_of utf8_at
constructor_lone = (refl, (refl, (refl, tt)))

process_lone : Each (IsLone loop_file_class) loop_code
process_lone = (refl, (refl, (refl, (refl, (refl, (refl, (refl, (refl, (refl, tt)))))))))

no_calls : (j k : ℕ) → HasCall loop_file_class j k → ⊥
no_calls zero k (m, q, p, known, at, call) =
    let same : constructor_method ≡ m = cc known in
    let here : at_place constructor_code q ≡ Some p = subst (λ (x : Method). instruction_at x q ≡ Some p) (sym same) at in
    cc (each_at (IsLone loop_file_class) constructor_code constructor_lone q p here, call)
no_calls (suc zero) k (m, q, p, known, at, call) =
    let same : loop_method ≡ m = cc known in
    let here : at_place loop_code q ≡ Some p = subst (λ (x : Method). instruction_at x q ≡ Some p) (sym same) at in
    cc (each_at (IsLone loop_file_class) loop_code process_lone q p here, call)
no_calls (suc (suc j)) k (m, q, p, known, at, call) = cc known

ordered : IsOrdered loop_file_class (λ j. 0)
ordered j k call = absurd (no_calls j k call)

not_recursive : IsRecursive loop_file_class → ⊥
not_recursive h = ranked_is_not_recursive loop_file_class ((λ j. 0), ordered) h

-- ---- its nodes and bounds

is_unrolled : IsUnrolled loop_file_class 1 loop_method loop_file_points
is_unrolled = record { passes = refl; starts = refl; nodes = λ e. omega arith; values = λ e. omega arith }

inside : ℕ → Node → Bool
inside i x = is_in (record { method = i; node = x }) loop_file_points

rank : ℕ → Node → ℕ
rank i x = rank_in (record { method = i; node = x }) loop_file_points

cover : IsCover loop_file_class (rules_of loop_file_class) inside rank
unfolding inside rank
cover = certificates_cover loop_file_class (rules_of loop_file_class) loop_file_points is_unrolled.passes

process_dry : Each (IsDry loop_method) loop_code
process_dry = ((λ q. refl), ((λ q. refl), ((λ q. refl), ((λ q. refl), ((λ q. refl), ((λ q. refl), ((λ q. refl), ((λ q. refl), ((λ q. refl), tt)))))))))

start : Node
start = start_node (rules_of loop_file_class) 1 loop_method

starts_inside : inside 1 start ≡ true
unfolding inside start
starts_inside = is_unrolled.starts

start_rank : rank 1 start ≡ 17
unfolding rank start
start_rank = refl

short : (k : Cost) → Path loop_file_class (rules_of loop_file_class) 1 start k → IsShort loop_method 18 k
short k path = subst (λ n. IsShort loop_method (suc n) k) start_rank (short_path loop_file_class (rules_of loop_file_class) inside rank cover 1 loop_method refl process_lone process_dry path refl starts_inside)

within : (b : Bounds) → AreBounds loop_file_class (rules_of loop_file_class) 1 (start_node (rules_of loop_file_class) 1 loop_method) b → AreWithinLimits b
unfolding start
within b are = record {
  steps = (let few = (short are.steps.0 are.steps.1).steps in let same = are.steps.2 in omega (arith, few, same));
  words = (let none = (short are.words.0 are.words.1).words in let same = are.words.2 in omega (arith, none, same));
  slots = (let own = (short are.slots.0 are.slots.1).slots in let same = are.slots.2 in omega (arith, own, same));
  depth = (let one = (short are.depth.0 are.depth.1).depth in let same = are.depth.2 in omega (arith, one, same));
}

-- ---- the verdict

is_ready : IsReadyForNodes loop_bytes loop_file_class
is_ready = record {
  pool = loop_pool;
  parts = loop_parts;
  file = is_file;
  shape = has_shape;
  instructions = has_instructions;
  types = has_types;
  class = is_class;
  not_recursive = not_recursive;
}

pub loop_is_accepted : LoopIsAccepted
loop_is_accepted =
    let b = unrolled_has_bounds loop_file_class 1 loop_method loop_file_points is_unrolled in
    record {
      accepted = listed_is_accepted loop_bytes loop_file_class 1 loop_method loop_file_points b.0 is_ready process_is refl is_unrolled b.1 (within b.0 b.1);
      class = class_is;
      process = process_is;
      method = refl;
      loops = refl;
      refused_before = verdict.by_instructions loop_pool loop_parts is_file has_shape leads_back_somewhere;
    }
