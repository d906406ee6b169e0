use Rattle.std.proofs.Common.{◌≡◌, List, sym, ap, ◌∙◌}
use Rattle.constpool.specs.Lookup.{Slot}
use Rattle.typecheck.specs.Typing.{Class}
use Rattle.verify.specs.Texts.{string_at}
use Rattle.verify.proofs.PoolOf.{pool_is}
use Rattle.verify.proofs.verified.Verified.text.Goals as goal

pub returns : goal.returns
returns c =
    let file = c.self.inside.file in
    let same = sym (pool_is file.pool file.parts c.self.inside.class) ∙ ap (λ (k : Class). k.view.pool) c.self.view_is in
    c.string.ensures ∙ ap (λ (pool : List Slot). string_at pool c.args.index) same
