use Rattle.std.proofs.Common.{rules, sym, ◌-◌, [], ◌∷◌}
use Rattle.jtypes.specs.declared.types.Value.TheVariants.{Ref}
use Rattle.slots.specs.declared.reference.Reference.TheVariants as kind
use Rattle.slots.proofs.Kept.{read_at, top_at, top_under, word_at, kind_at, pushed_reference, base_inside, kinds_inside, above_base}
use Rattle.slots.proofs.Leaving.{left}
use Rattle.slots.proofs.window.Window.leave_reference.Goals as goal

pub offset_bounds-self-self-in-Some : goal.offset_bounds-self-self-in-Some
offset_bounds-self-self-in-Some c =
    let (arrays, callers, ls, v, vs, below, r) = c.requires in let h = base_inside arrays _ _ _ _ _ ls (Ref v) vs below r in search (rules, h)

pub bounds-self-self-in-Some : goal.bounds-self-self-in-Some
bounds-self-self-in-Some c =
    let (arrays, callers, ls, v, vs, below, r) = c.requires in let h = base_inside arrays _ _ _ _ _ ls (Ref v) vs below r in search (rules, h)

pub bounds-self-self-in-Some-2 : goal.bounds-self-self-in-Some-2
bounds-self-self-in-Some-2 c =
    let (arrays, callers, ls, v, vs, below, r) = c.requires in let h = kinds_inside arrays _ _ _ _ _ ls v vs below r in search (rules, h)

pub bounds-self-self-in-Some-3 : goal.bounds-self-self-in-Some-3
bounds-self-self-in-Some-3 c =
    let (arrays, callers, ls, v, vs, below, r) = c.requires in let h = kinds_inside arrays _ _ _ _ _ ls v vs below r in search (rules, h)

pub overflow_add-self : goal.overflow_add-self
overflow_add-self c =
    let (arrays, callers, ls, v, vs, below, r) = c.requires in let h = above_base arrays _ _ _ _ _ ls (Ref v) vs below r in search (rules, h)

pub returns-in-Some-clause-reads : goal.returns-in-Some-clause-reads
returns-in-Some-clause-reads c arrays ls v vs below r =
    let e = c.in-Some.ensures.items in
    let s = c.args.self.now in
    let there = top_at arrays _ _ _ _ _ _ ls vs below (Ref v) (top_under arrays _ _ _ _ _ ls vs below (Ref v) r) r in
    let word = word_at arrays s.words.now s.kinds.now (s.top - 1) (Ref v) _ there (read_at s.words.now (s.top - 1) 0) in
    let mark = kind_at arrays s.words.now s.kinds.now (s.top - 1) (Ref v) _ there (read_at s.kinds.now (s.top - 1) kind.Null) in
    left arrays _ _ _ _ _ _ _ _ _ _
    (Ref v ∷ []) c.in-Some.caller.place ls (Ref v ∷ vs) below e.0 (sym e.1)
    (λ a rest caller. pushed_reference arrays _ _ _ _ _ a.locals a.operands rest v _ _ (base_inside arrays _ _ _ _ _ ls (Ref v) vs below r) word mark caller) r
