use Rattle.std.proofs.Common.{◌≡◌, ◌+◌, ◌-◌, ◌++◌, length, take, drop, ap, sym, ◌∙◌}
use Rattle.std.proofs.lemmas.List.{length-drop}
use Rattle.std.proofs.Math.Seq.{take-length}
use Rattle.locals.proofs.Writing.{written_parts}
use Rattle.locals.proofs.pages.page_with.Goals as goal

pub returns : goal.returns
returns c =
    let page = c.args.page.now in
    let types = c.args.types.now in
    let front = take c.args.at page in
    let end = c.args.at + length types in
    let behind : take (length page - end) (drop end page) ≡ drop end page = ap (λ m. take m (drop end page)) (sym (length-drop end page)) ∙ take-length (drop end page) in
    let first : c.extend_from_slice.new.self.items ≡ front = c.in_ok-extend_from_slice.ensures.items ∙ ap (λ l. l ++ front) c.in_ok-new.ensures.items in
    let second : c.extend_from_slice-2.new.self.items ≡ front ++ types = c.in_ok-extend_from_slice-2.ensures.items ∙ ap (λ l. l ++ types) first in
    c.new.ensures ∙ c.in_ok-extend_from_slice-3.ensures.items ∙ ap (λ l. l ++ take (length page - end) (drop end page)) second ∙ ap (λ l. (front ++ types) ++ l) behind
    ∙ sym (written_parts page types c.args.at c.requires)
