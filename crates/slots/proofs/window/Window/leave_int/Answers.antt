use Rattle.std.proofs.Common.{rules, refl, sym, ◌-◌, [], ◌∷◌}
use Rattle.jtypes.specs.declared.types.Value.TheVariants.{Int}
use Rattle.slots.proofs.Kept.{read_at, top_at, top_under, word_at, pushed_word, base_inside, above_base}
use Rattle.slots.proofs.Leaving.{left}
use Rattle.slots.proofs.window.Window.leave_int.Goals as goal

pub offset_bounds-self-self-in-Some : goal.offset_bounds-self-self-in-Some
offset_bounds-self-self-in-Some c =
    let (arrays, callers, ls, i, vs, below, r) = c.requires in let h = base_inside arrays _ _ _ _ _ ls (Int i) vs below r in search (rules, h)

pub bounds-self-self-in-Some : goal.bounds-self-self-in-Some
bounds-self-self-in-Some c =
    let (arrays, callers, ls, i, vs, below, r) = c.requires in let h = base_inside arrays _ _ _ _ _ ls (Int i) vs below r in search (rules, h)

pub overflow_add-self : goal.overflow_add-self
overflow_add-self c =
    let (arrays, callers, ls, i, vs, below, r) = c.requires in let h = above_base arrays _ _ _ _ _ ls (Int i) vs below r in search (rules, h)

pub returns-in-Some-clause-reads : goal.returns-in-Some-clause-reads
returns-in-Some-clause-reads c arrays ls i vs below r =
    let e = c.in-Some.ensures.items in
    let s = c.args.self.now in
    let there = top_at arrays _ _ _ _ _ _ ls vs below (Int i) (top_under arrays _ _ _ _ _ ls vs below (Int i) r) r in
    let word = word_at arrays s.words.now s.kinds.now (s.top - 1) (Int i) _ there (read_at s.words.now (s.top - 1) 0) in
    left arrays _ _ _ _ _ _ _ _ _ _
    (Int i ∷ []) c.in-Some.caller.place ls (Int i ∷ vs) below e.0 (sym e.1)
    (λ a rest caller. pushed_word arrays _ _ _ _ _ a.locals a.operands rest (Int i) _ _ (base_inside arrays _ _ _ _ _ ls (Int i) vs below r) refl
    word (λ k. tt) caller) r
