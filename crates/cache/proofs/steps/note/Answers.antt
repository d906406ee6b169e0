use Rattle.std.proofs.Common.{rules, ◌≡◌, ◌∙◌, ◌∷◌, [], List, ap, subst}
use Rattle.stripe.specs.History.{Record}
use Rattle.cache.specs.Receipts.{receipt_behind}
use Rattle.cache.specs.Views.{Part, holding, told_part}
use Rattle.cache.specs.Plays.{Sat, HaveFew, noted, told_last}
use Rattle.cache.proofs.Moves.{may_note_as, told_snoc}
use Rattle.cache.proofs.steps.note.Goals as goal

pub load-requires : goal.load-requires
load-requires g c = let board = c.requires.board in (search rules, search rules, may_note_as g.L.Loader.ASKS (g.L.Loader.gives c.args.board.now.key.loader.value) c.args.board.now.key c.args.board.now.table_id.slots c.args.pass.now.id c.args.index c.args.pass.now.me c.requires.held board.count board.journal)

pub returns-clause-noted : goal.returns-clause-noted
returns-clause-noted g c = λ made p y z r is more.
    let i = c.args.index in
    let is_so : c.load.new.seat.me ≡ (holding made (told_part p (receipt_behind i y.records r)) i z, (i, z) ∷ []) = c.load.ensures.2.0 ∙ ap (λ (m : Sat). noted i m.0 m.1) is ∙ ap (λ (l : List Record). (holding made (told_last i l p) i z, (i, z) ∷ [])) more ∙ ap (λ (q : Part). (holding made q i z, (i, z) ∷ [])) (told_snoc i y.records r p) in
    (is_so, subst (λ (m : Sat). HaveFew m.0.parts) is_so c.load.ensures.2.1)
