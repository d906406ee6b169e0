use Rattle.std.proofs.Common.{length, refl, sym, ◌∙◌, arith}
use Rattle.std.proofs.lemmas.Option.{slice_get_read}
use Rattle.frames.proofs.Named.{bytes_are}
use Rattle.frames.proofs.signed.namesake.Goals as goal

pub returns-then-same_bytes : goal.returns-then-same_bytes
returns-then-same_bytes c =
    let s = c.index-methods-j.result in
    let here = slice_get_read c.args.methods.now (length c.args.methods.now) c.loop-j.j s refl (omega arith) c.index-methods-j.is in
    (s, here, bytes_are s.method.name.now c.args.name.now (sym c.same_bytes.ensures ∙ c.if-same_bytes.true))
