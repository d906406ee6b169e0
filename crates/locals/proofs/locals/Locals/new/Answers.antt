use Rattle.std.proofs.Common.{ap, ◌∙◌}
use Rattle.locals.specs.Held.{row_of, blank_pages}
use Rattle.locals.proofs.Blank.{blank_row}
use Rattle.locals.proofs.locals.Locals.new.Goals as goal

pub returns-clause-row : goal.returns-clause-row
returns-clause-row c =
    ap (λ ps. row_of ps c.in_ok-row.row.items) c.in_ok-pages.ensures ∙ ap (λ row. row_of (blank_pages c.args.count) row) c.in_ok-row.ensures ∙ blank_row c.args.count
