use Rattle.std.proofs.Common.{◌≡◌, ◌%◌, ◌∷◌, ◌++◌, [], false, replicate, sym, ap, ◌∙◌, arith, rules}
use Rattle.std.specs.Prelude.{nat_lt, if◌then◌else◌}
use Rattle.jtypes.specs.declared.types.JType.TheVariants.{Top}
use Rattle.locals.proofs.Blank.{not_small}
use Rattle.locals.proofs.pages.blank_pages.Goals as goal

pub returns : goal.returns
returns c =
    let last = replicate (c.args.count % 256) Top in
    let wide = replicate 256 Top in
    let first : c.new.result ≡ last = search rules in
    let other : c.new-2.result ≡ wide = search rules in
    let one : c.push.new.self.items ≡ last ∷ [] = c.in_ok-push.ensures.items ∙ ap (λ l. l ++ c.new.result ∷ []) c.new-pages.ensures.items ∙ ap (λ p. p ∷ []) first in
    let two : c.push-2.new.self.items ≡ last ∷ wide ∷ [] = c.in_ok-push-2.ensures.items ∙ ap (λ l. l ++ c.new-2.result ∷ []) one ∙ ap (λ p. last ∷ p ∷ []) other in
    let large : nat_lt c.args.count 256 ≡ false = not_small c.args.count (omega arith) in
    two ∙ ap (λ b. last ∷ (if b then [] else wide ∷ [])) (sym large)
