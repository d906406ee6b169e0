use Rattle.std.proofs.Common.{ℕ, List, ◌++◌, drop, arith, ap}
use Rattle.embedded.specs.Classes.{text_at}
use Rattle.embedded.proofs.Copying.{copied}
use Rattle.embedded.proofs.answers.write_text.Goals as goal

pub returns-in-Some : goal.returns-in-Some
returns-in-Some c =
    let room : List ℕ = c.args.room.now in
    let count : ℕ = c.min-count.result in
    let least = c.min-count.ensures in
    copied (text_at c.args.engine.now c.args.number c.args.index) c.in-Some.whole.now room _ count c.in-Some.ensures
    (record { short = λ few. omega (arith, few, least); long = λ many. omega (arith, many, least) }) (ap (λ (l : List ℕ). l ++ drop count room) c.copy_from_slice.ensures.after)
