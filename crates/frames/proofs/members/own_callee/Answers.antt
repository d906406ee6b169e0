use Rattle.std.proofs.Common.{◌≡◌, List, Option, None, Some, false, true, length, refl, sym, ap, ◌∙◌, rules}
use Rattle.std.specs.Prelude.{option_map, map, slice_get}
use Rattle.std.proofs.lemmas.Option.{slice_get_read}
use Rattle.jtypes.specs.declared.types.JType.{JType}
use Rattle.jtypes.specs.Lists.{same_bytes, only_if}
use Rattle.constpool.specs.Names.{init_name}
use Rattle.frames.specs.Signed.{method_of, method_at}
use Rattle.frames.specs.declared.members.Reached.TheVariants.{Own}
use Rattle.frames.specs.declared.signed.SignedMethod.{SignedMethod}
use Rattle.frames.specs.Members.{pairs_with, callee_of, own_callee, numbered}
use Rattle.frames.specs.Seen.{member_seen}
use Rattle.frames.proofs.Named.{own_is}
use Rattle.frames.proofs.members.own_callee.Goals as goal

pub returns-then-not-pairs_with : goal.returns-then-not-pairs_with
returns-then-not-pairs_with c =
    let m = member_seen c.args.member.now in
    let ms = c.methods-methods.result.now in
    let s = c.in-Some-get.found.now in
    let class : same_bytes m.class c.args.view.now.name ≡ true = search rules in
    let init : same_bytes m.name init_name ≡ false = search rules in
    let at : slice_get ms c.in-Some.k ≡ Some s = slice_get_read ms (length ms) c.in-Some.k s refl c.in-Some-get.ensures.lookup.3.0 c.in-Some-get.ensures.lookup.1 in
    let found : method_at ms (Some c.in-Some.k) ≡ numbered 0 (map method_of ms) m = search rules in
    let own : own_callee c.args.view.now c.args.kind m ≡ only_if (pairs_with c.args.kind s.method.flags) (option_map (callee_of c.in-Some.k) s.signature) =
    own_is c.args.view.now c.args.kind m ms c.in-Some.k s c.methods-methods.ensures class init found at in
    let pairs : pairs_with c.args.kind s.method.flags ≡ false = sym c.pairs_with.ensures ∙ c.if-not-pairs_with.true in
    sym (own ∙ ap (λ b. only_if b (option_map (callee_of c.in-Some.k) s.signature)) pairs)

pub returns-in_default-signature : goal.returns-in_default-signature
returns-in_default-signature c =
    let m = member_seen c.args.member.now in
    let ms = c.methods-methods.result.now in
    let s = c.in-Some-get.found.now in
    let class : same_bytes m.class c.args.view.now.name ≡ true = search rules in
    let init : same_bytes m.name init_name ≡ false = search rules in
    let at : slice_get ms c.in-Some.k ≡ Some s = slice_get_read ms (length ms) c.in-Some.k s refl c.in-Some-get.ensures.lookup.3.0 c.in-Some-get.ensures.lookup.1 in
    let found : method_at ms (Some c.in-Some.k) ≡ numbered 0 (map method_of ms) m = search rules in
    let own : own_callee c.args.view.now c.args.kind m ≡ only_if (pairs_with c.args.kind s.method.flags) (option_map (callee_of c.in-Some.k) s.signature) =
    own_is c.args.view.now c.args.kind m ms c.in-Some.k s c.methods-methods.ensures class init found at in
    let pairs : pairs_with c.args.kind s.method.flags ≡ true = sym c.pairs_with.ensures ∙ c.if-not-pairs_with.false in
    sym (own ∙ ap (λ b. only_if b (option_map (callee_of c.in-Some.k) s.signature)) pairs ∙ ap (option_map (callee_of c.in-Some.k)) c.in_default-signature.is)

pub returns : goal.returns
returns c =
    let m = member_seen c.args.member.now in
    let ms = c.methods-methods.result.now in
    let s = c.in-Some-get.found.now in
    let class : same_bytes m.class c.args.view.now.name ≡ true = search rules in
    let init : same_bytes m.name init_name ≡ false = search rules in
    let at : slice_get ms c.in-Some.k ≡ Some s = slice_get_read ms (length ms) c.in-Some.k s refl c.in-Some-get.ensures.lookup.3.0 c.in-Some-get.ensures.lookup.1 in
    let found : method_at ms (Some c.in-Some.k) ≡ numbered 0 (map method_of ms) m = search rules in
    let own : own_callee c.args.view.now c.args.kind m ≡ only_if (pairs_with c.args.kind s.method.flags) (option_map (callee_of c.in-Some.k) s.signature) =
    own_is c.args.view.now c.args.kind m ms c.in-Some.k s c.methods-methods.ensures class init found at in
    let pairs : pairs_with c.args.kind s.method.flags ≡ true = sym c.pairs_with.ensures ∙ c.if-not-pairs_with.false in
    let signed : option_map (callee_of c.in-Some.k) s.signature ≡ Some (callee_of c.in-Some.k c.in-Some-signature.s) = ap (option_map (callee_of c.in-Some.k)) c.in-Some-signature.is in
    let params : c.in_ok-from_slice.field-0 ≡ c.in-Some-signature.s.params = search rules in
    sym (own ∙ ap (λ b. only_if b (option_map (callee_of c.in-Some.k) s.signature)) pairs ∙ signed ∙ ap (λ (ps : List JType). Some (record { reached = Own c.in-Some.k; params = ps; result = c.in-Some-signature.s.result })) (sym params))
