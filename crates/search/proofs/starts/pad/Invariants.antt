use Rattle.std.proofs.Common.{◌≡◌, ◌≤◌, ◌++◌, replicate, ◌-◌, vec_len, max}
use Rattle.search.specs.declared.known.Known.TheVariants.{Narrow}
use Rattle.search.proofs.starts.pad.Given as goal

abbrev pub invariant-loop-locals : goal.invariant-loop-locals
invariant-loop-locals l = record {
  same : l.locals.items ≡ l.initial.locals.items ++ replicate (vec_len l.locals - vec_len l.initial.locals) Narrow;
  within : vec_len l.locals ≤ max l.count (vec_len l.initial.locals);
  grows : vec_len l.initial.locals ≤ vec_len l.locals;
}

abbrev pub decreases-loop-locals : goal.decreases-loop-locals
decreases-loop-locals l = l.count - vec_len l.locals
