use Rattle.std.proofs.lemmas.Result.{err_from_is_err_and}
use Rattle.jtypes.proofs.Laws.{rest_is, gives_rest, found_from_gives, first_stands, stands_from_fails}
use Rattle.constpool.specs.Pool.{pool}
use Rattle.constpool.proofs.pool.read_pool.Goals as goal

pub returns-in_err-pool-clause-refused : goal.returns-in_err-pool-clause-refused
returns-in_err-pool-clause-refused c =
    let p = err_from_is_err_and c.from_residual.result c.from_residual.ensures.1 in
    rw (p.1, p.2) (λ n. stands_from_fails pool c.args.bytes.now c.in_err-pool.field-0.0 n (rw c.new-cursor.ensures at c.in_err-pool.ensures))

pub overflow_sub-result : goal.overflow_sub-result
overflow_sub-result c = rw c.rest.ensures ((rest_is pool c.args.bytes.now _ _ (rw c.new-cursor.ensures at c.in_ok-pool.ensures)).0)

pub returns-clause-found : goal.returns-clause-found
returns-clause-found c = rw c.rest.ensures (found_from_gives pool c.args.bytes.now _ _ (gives_rest pool c.args.bytes.now _ _ (rw c.new-cursor.ensures at c.in_ok-pool.ensures)))

pub returns-clause-accepted : goal.returns-clause-accepted
returns-clause-accepted c = λ r. first_stands pool c.args.bytes.now _ _ r (rw c.new-cursor.ensures at c.in_ok-pool.ensures)

pub returns-clause-exact : goal.returns-clause-exact
returns-clause-exact c = rw c.rest.ensures (gives_rest pool c.args.bytes.now _ _ (rw c.new-cursor.ensures at c.in_ok-pool.ensures))
