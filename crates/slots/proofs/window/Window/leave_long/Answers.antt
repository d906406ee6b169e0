use Rattle.std.proofs.Common.{rules, refl, sym, ◌-◌, [], ◌∷◌}
use Rattle.jtypes.specs.declared.types.Value.TheVariants.{Long}
use Rattle.slots.proofs.Kept.{read_at, top_at, top_under, word_at, pushed_word, base_inside, above_base}
use Rattle.slots.proofs.Leaving.{left}
use Rattle.slots.proofs.window.Window.leave_long.Goals as goal

pub offset_bounds-self-self-in-Some : goal.offset_bounds-self-self-in-Some
offset_bounds-self-self-in-Some c =
    let (arrays, callers, ls, i, vs, below, r) = c.requires in let h = base_inside arrays _ _ _ _ _ ls (Long i) vs below r in search (rules, h)

pub bounds-self-self-in-Some : goal.bounds-self-self-in-Some
bounds-self-self-in-Some c =
    let (arrays, callers, ls, i, vs, below, r) = c.requires in let h = base_inside arrays _ _ _ _ _ ls (Long i) vs below r in search (rules, h)

pub overflow_add-self : goal.overflow_add-self
overflow_add-self c =
    let (arrays, callers, ls, i, vs, below, r) = c.requires in let h = above_base arrays _ _ _ _ _ ls (Long i) vs below r in search (rules, h)

pub returns-in-Some-clause-reads : goal.returns-in-Some-clause-reads
returns-in-Some-clause-reads c arrays ls i vs below r =
    let e = c.in-Some.ensures.items in
    let s = c.args.self.now in
    let there = top_at arrays _ _ _ _ _ _ ls vs below (Long i) (top_under arrays _ _ _ _ _ ls vs below (Long i) r) r in
    let word = word_at arrays s.words.now s.kinds.now (s.top - 2) (Long i) _ there (read_at s.words.now (s.top - 2) 0) in
    left arrays _ _ _ _ _ _ _ _ _ _
    (Long i ∷ []) c.in-Some.caller.place ls (Long i ∷ vs) below e.0 (sym e.1)
    (λ a rest caller. pushed_word arrays _ _ _ _ _ a.locals a.operands rest (Long i) _ _ (base_inside arrays _ _ _ _ _ ls (Long i) vs below r) refl
    word (λ k. tt) caller) r
