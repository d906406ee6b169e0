use Rattle.std.proofs.Common.{sym, []}
use Rattle.slots.proofs.Leaving.{left}
use Rattle.slots.proofs.window.Window.leave_void.Goals as goal

pub returns-in-Some-clause-reads : goal.returns-in-Some-clause-reads
returns-in-Some-clause-reads c arrays ls vs below r =
    let e = c.in-Some.ensures.items in
    left arrays _ _ _ _ _ _ _ _ _ _ [] c.in-Some.caller.place ls vs below e.0 (sym e.1) (λ a rest caller. caller) r
