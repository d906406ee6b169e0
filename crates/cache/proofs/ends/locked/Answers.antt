use Rattle.std.proofs.Common.{◌≡◌, arith, sym, ℕ, length, ◌∙◌}
use Rattle.std.proofs.lemmas.Grind.{common_steps}
use Rattle.cache.proofs.Starts.{begins_at, long, zeros_long}
use Rattle.cache.proofs.ends.locked.Goals as goal

pub slice_bounds-words-end : goal.slice_bounds-words-end
slice_bounds-words-end g c =
    let k = c.args.terms.now in
    let count : c.len-count.result ≡ length c.args.stripes.items = c.len-count.ensures ∙ grind (arith, common_steps) in
    omega (arith, count, long k.journal k.tables.value c.args.stripes.items c.requires.fresh, c.requires.count.1)

pub slice_bounds-new-end : goal.slice_bounds-new-end
slice_bounds-new-end g c =
    let k = c.args.terms.now in
    let count : c.len-count.result ≡ length c.args.stripes.items = c.len-count.ensures ∙ grind (arith, common_steps) in
    sym (zeros_long c.len-count.result 64 (omega (arith, count, long k.journal k.tables.value c.args.stripes.items c.requires.fresh, c.requires.count.1)))

pub new-requires : goal.new-requires
new-requires g c =
    let k = c.args.terms.now in
    let n : ℕ = c.len-count.result in
    let many = long k.journal k.tables.value c.args.stripes.items c.requires.fresh in
    let count : n ≡ length c.args.stripes.items = c.len-count.ensures ∙ grind (arith, common_steps) in
    begins_at g.L.Loader.ASKS (g.L.Loader.gives k.loader.value) k n c.args.stripes.items (sym c.requires.fresh) (count ∙ many) (omega (arith, count, many, c.requires.count.1))

pub returns-in-Ok-clause-words : goal.returns-in-Ok-clause-words
returns-in-Ok-clause-words g c =
    let k = c.args.terms.now in
    let n : ℕ = c.len-count.result in
    let many = long k.journal k.tables.value c.args.stripes.items c.requires.fresh in
    let count : n ≡ length c.args.stripes.items = c.len-count.ensures ∙ grind (arith, common_steps) in
    c.in-Ok.ensures.ok.0 ∙ zeros_long n 64 (omega (arith, count, many, c.requires.count.1)) ∙ count ∙ many

pub returns-in-Ok-clause-slots : goal.returns-in-Ok-clause-slots
returns-in-Ok-clause-slots g c = let k = c.args.terms.now in c.in-Ok.ensures.ok.1 ∙ long k.journal k.tables.value c.args.stripes.items c.requires.fresh
