use Rattle.std.proofs.Common.{◌≡◌, ◌++◌, length}
use Rattle.std.specs.Prelude.{map, All}
use Rattle.std.specs.Vec.Iter.{into_iter_items, into_iter_len}
use Rattle.classfile.specs.View.{view_of}
use Rattle.verdict.specs.Judging.{IsFoundIn, IsTypedRow, numbers_but}
use Rattle.verdict.proofs.typed_class.judge_types.Given as goal

abbrev pub invariant-loop-number : goal.invariant-loop-number
invariant-loop-number l = record {
  numbers : map (λ t. t.number) l.methods.items ++ map (λ f. f.number) (into_iter_items l.number-iterator) ≡ numbers_but l.fn.constructor (length l.codes);
  each : All (IsTypedRow l.class.pool l.class.parts) l.methods.items;
  rest : All (IsFoundIn (view_of l.class.pool l.class.parts) l.codes) (into_iter_items l.number-iterator);
  count : into_iter_len l.number-iterator ≡ length (into_iter_items l.number-iterator);
}
