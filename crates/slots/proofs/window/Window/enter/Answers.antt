use Rattle.std.proofs.Common.{sym, ◌+◌, ◌≡◌, ◌-◌, ◌∷◌, [], arith, subst}
use Rattle.std.specs.Prelude.{reverse, None}
use Rattle.jtypes.specs.Lists.{padded}
use Rattle.slots.specs.Reads.{IsRead}
use Rattle.slots.proofs.Passing.{entered, locals_of}
use Rattle.slots.proofs.window.Window.enter.Goals as goal

pub returns-clause-reads : goal.returns-clause-reads
returns-clause-reads c arrays a taken below r e few =
    let s = c.args.self.now in
    let n : c.from.result ≡ c.args.params = c.from.ensures in
    let n' : c.from-2.result ≡ c.args.locals = c.from-2.ensures in
    let inside = c.requires.params in
    let callers : c.push.new.self.0 ≡ record { place = c.args.place; base = s.base } ∷ c.args.callers.now.0 = c.push.ensures.items in
    subst (λ callers. IsRead arrays s.words.now s.kinds.now callers (s.top - c.from.result) (s.top - c.from.result + c.from-2.result) (padded None c.args.locals (locals_of (reverse taken))) [] (a ∷ below)) (sym callers)
    (entered arrays s.words.now s.kinds.now c.args.callers.now.0 s.base s.top (s.top - c.from.result) (s.top - c.from.result + c.from-2.result) c.args.place c.args.locals a taken below
    (omega (arith, n, e, inside)) (omega (arith, e, few)) (omega (arith, n')) r)
