use Rattle.std.proofs.Common.{◌≡◌, ◌∷◌, ◌++◌, [], length, false, true, ◌&&◌, refl, sym, ap, ◌∙◌, arith, rules}
use Rattle.std.specs.Prelude.{slice_get}
use Rattle.std.proofs.lemmas.Option.{slice_get_read}
use Rattle.jtypes.specs.Lists.{same_bytes}
use Rattle.frames.specs.Seen.{member_seen}
use Rattle.frames.specs.Signed.{method_of}
use Rattle.frames.proofs.Named.{asked_before, asked_more, found_at, later_than}
use Rattle.frames.proofs.members.numbered.Goals.{else-is-via-then-is+else-same_bytes, else-is-via-else-is}
use Rattle.frames.proofs.members.numbered.Goals as goal

pub is_named-is-requires : goal.is_named-is-requires
is_named-is-requires c j is =
    let ms = c.args.methods.now in
    let s = c.index-methods-k.result in
    let at = slice_get_read ms (length ms) c.loop-k.k s refl (omega arith) c.index-methods-k.is in
    ap (λ l. slice_get l j) (c.deref.ensures.value ∙ c.loop-k.invariant.1) ∙ asked_before c.args.member.now.name.now ms c.loop-k.k j s c.requires at is

pub returns-then-same_bytes : goal.returns-then-same_bytes
returns-then-same_bytes c =
    let ms = c.args.methods.now in
    let s = c.index-methods-k.result in
    let at = slice_get_read ms (length ms) c.loop-k.k s refl (omega arith) c.index-methods-k.is in
    let m = member_seen c.args.member.now in
    let name : same_bytes m.name s.method.name.now ≡ true = sym c.is_named-is.ensures ∙ c.if-is.true in
    let descriptor : same_bytes m.descriptor s.method.descriptor.now ≡ true = sym c.same_bytes.ensures ∙ c.if-same_bytes.true in
    found_at ms m c.loop-k.k s _ at (ap (λ b. b && same_bytes m.descriptor s.method.descriptor.now) name ∙ descriptor) c.loop-k.invariant.0

pub loop-k-preserved : goal.loop-k-preserved
loop-k-preserved c =
    let ms = c.args.methods.now in
    let m = member_seen c.args.member.now in
    let k = c.loop-k.k in
    let s = c.index-methods-k.result in
    let at = slice_get_read ms (length ms) k s refl (omega arith) c.index-methods-k.is in
    let named : c.is_named-is.result ≡ same_bytes m.name s.method.name.now = c.is_named-is.ensures in
    let isnt : (same_bytes m.name s.method.name.now && same_bytes m.descriptor s.method.descriptor.now) ≡ false =
    elim c.else-is.branch [
      | else-is-via-then-is+else-same_bytes w ↦ cc
      | else-is-via-else-is w ↦ cc
    ] in
    let more = asked_more m.name ms k s c.loop-k.named.items at c.loop-k.invariant.1 in
    (later_than ms m k s _ at isnt c.loop-k.invariant.0, c.in_ok-push.ensures.items ∙ ap (λ b. c.loop-k.named.items ++ b ∷ []) named ∙ more)
