use Rattle.std.proofs.Common.{rules, Option, None, IsSome, w64, refl, sym, ap, subst, ◌∙◌}
use Rattle.std.proofs.lemmas.Int.{to_z-of_z}
use Rattle.machine.specs.Running.{IsStarted}
use Rattle.stripe.specs.History.{Begun, invocation, key_of}
use Rattle.jtypes.specs.Loading.{IsGiven}
use Rattle.stripe.specs.Kept.{IsAsked, IsPlain, entry_of}
use Rattle.stripe.specs.Rows.{arguments}
use Rattle.stripe.specs.Seen.{call_of}
use Rattle.world.specs.World.{Running}
use Rattle.world.specs.Seated.{Seated, Starts}
use Rattle.world.specs.Seating.{running_in}
use Rattle.world.proofs.Seats.{busy_open, start_going, start_starts}
use Rattle.world.proofs.Starts.{get_going, get_starts, other_goes}
use Rattle.world.proofs.seat.Seat.start.Given.{Over}
use Rattle.world.proofs.seat.Seat.start.Goals as goal

pub returns-then-is_some-clause-ignored : goal.returns-then-is_some-clause-ignored
returns-then-is_some-clause-ignored g c = (
  λ _. subst (λ (r : Option Running). IsSome r) (ap (λ (x : Seated). x.running) c.self.view_is)
      (busy_open c.self.inside.stripe c.self.inside.workspace c.self.inside.done c.self.inside.asked c.self.invariant c.open.result (sym c.is_some.ensures ∙ c.if-is_some.true) c.open.ensures.running),
  λ _. refl,
)

-- The invocation is started on the entry that the seat found.
started : (g : Over) (c : goal.After-start g) → IsStarted c.in-Invoke.class.now (invocation g.L.Loader.ASKS c.in-Invoke.key (arguments c.in-Invoke.args) (entry_of c.self.inside.stripe (key_of (call_of c.args.call)))) c.start.new.self
started g c =
    let key = to_z-of_z w64 c.in-Invoke.key (search rules) in
    let loads = g.L.Loader.ASKS in
    subst (λ e. IsStarted c.in-Invoke.class.now (invocation loads c.in-Invoke.key (arguments c.in-Invoke.args) e) c.start.new.self) c.in-Ok.ensures.entry
    (subst (λ a. IsStarted c.in-Invoke.class.now (invocation loads c.in-Invoke.key a c.in-Ok.before) c.start.new.self) c.args-in-Invoke.ensures
    (subst (λ k. IsStarted c.in-Invoke.class.now (invocation loads k c.args-in-Invoke.result c.in-Ok.before) c.start.new.self) key (c.start.ensures.started loads)))

abbrev starting : (g : Over) (c : goal.After-start g) → Begun
starting g c = record { caller = c.args.caller; number = c.args.number; call = call_of c.args.call; loads = g.L.Loader.ASKS }

pub invariant_of-self : goal.invariant_of-self
invariant_of-self g c =
    start_going c.self.inside.stripe c.begin.new.self (starting g c) c.in-Ok.ensures.begun c.in-Ok.ensures.entries c.in-Invoke.class.now c.in-Invoke.key (arguments c.in-Invoke.args) (ap call_of c.in-Invoke.is) c.start.new.self (started g c)

pub returns-in-Invoke-clause-done : goal.returns-in-Invoke-clause-done
returns-in-Invoke-clause-done g c _ =
    let gives = g.L.Loader.gives c.args.loader.now in
    let running = running_in c.self.inside.stripe c.self.inside.workspace c.self.inside.done c.self.inside.asked c.self.inside.stripe.running in
    subst (λ (x : Seated). Starts gives x (starting g c) (record { stripe = c.begin.new.self; running = running_in c.begin.new.self c.start.new.self None None c.begin.new.self.running })) c.self.view_is
    (start_starts c.self.inside.stripe c.begin.new.self (starting g c) c.in-Ok.ensures.begun c.in-Ok.ensures.entries c.in-Invoke.class.now c.in-Invoke.key (arguments c.in-Invoke.args) (ap call_of c.in-Invoke.is) c.start.new.self (started g c)
    gives c.start.ensures.unasked running)

-- ---- a get

pub invariant_of-self-in-Get : goal.invariant_of-self-in-Get
invariant_of-self-in-Get g c =
    let gives = g.L.Loader.gives c.args.loader.now in
    let found = c.ask-self-inside.result in
    let given = subst (λ k. IsGiven gives k found) (to_z-of_z w64 c.in-Get.key (search rules)) c.ask-self-inside.ensures.given in
    let told = subst (λ e. IsAsked g.L.Loader.ASKS e found) c.in-Ok.ensures.entry c.ask-self-inside.ensures.asked in
    let b : Begun = record { caller = c.args.caller; number = c.args.number; call = call_of c.args.call; loads = g.L.Loader.ASKS } in
    get_going gives c.self.inside.stripe c.begin.new.self b c.in-Ok.ensures.begun c.in-Ok.ensures.entries c.self.inside.workspace None c.in-Get.key (ap call_of c.in-Get.is) found told given

pub returns-in-Get-clause-done : goal.returns-in-Get-clause-done
returns-in-Get-clause-done g c _ =
    let gives = g.L.Loader.gives c.args.loader.now in
    let found = c.ask-self-inside.result in
    let given = subst (λ k. IsGiven gives k found) (to_z-of_z w64 c.in-Get.key (search rules)) c.ask-self-inside.ensures.given in
    let told = subst (λ e. IsAsked g.L.Loader.ASKS e found) c.in-Ok.ensures.entry c.ask-self-inside.ensures.asked in
    let b : Begun = record { caller = c.args.caller; number = c.args.number; call = call_of c.args.call; loads = g.L.Loader.ASKS } in
    let running = running_in c.self.inside.stripe c.self.inside.workspace c.self.inside.done c.self.inside.asked c.self.inside.stripe.running in
    subst (λ (x : Seated). Starts gives x b (record { stripe = c.begin.new.self; running = running_in c.begin.new.self c.self.inside.workspace None found c.begin.new.self.running })) c.self.view_is
    (get_starts gives c.self.inside.stripe c.begin.new.self b c.in-Ok.ensures.begun c.in-Ok.ensures.entries c.self.inside.workspace running c.in-Get.key (ap call_of c.in-Get.is) found told given)

-- ---- put

pub invariant_of-self-in-Put : goal.invariant_of-self-in-Put
invariant_of-self-in-Put g c =
    other_goes (g.L.Loader.gives c.args.loader.now) c.self.inside.stripe c.begin.new.self (record { caller = c.args.caller; number = c.args.number; call = call_of c.args.call; loads = g.L.Loader.ASKS }) c.in-Ok.ensures.begun
    c.in-Ok.ensures.entries c.self.inside.workspace None (subst IsPlain (sym (ap call_of c.in-Put.is)) tt)

-- ---- remove

pub invariant_of-self-in-Remove : goal.invariant_of-self-in-Remove
invariant_of-self-in-Remove g c =
    other_goes (g.L.Loader.gives c.args.loader.now) c.self.inside.stripe c.begin.new.self (record { caller = c.args.caller; number = c.args.number; call = call_of c.args.call; loads = g.L.Loader.ASKS }) c.in-Ok.ensures.begun
    c.in-Ok.ensures.entries c.self.inside.workspace None (subst IsPlain (sym (ap call_of c.in-Remove.is)) tt)

-- ---- contains

pub invariant_of-self-in-Contains : goal.invariant_of-self-in-Contains
invariant_of-self-in-Contains g c =
    other_goes (g.L.Loader.gives c.args.loader.now) c.self.inside.stripe c.begin.new.self (record { caller = c.args.caller; number = c.args.number; call = call_of c.args.call; loads = g.L.Loader.ASKS }) c.in-Ok.ensures.begun
    c.in-Ok.ensures.entries c.self.inside.workspace None (subst IsPlain (sym (ap call_of c.in-Contains.is)) tt)
