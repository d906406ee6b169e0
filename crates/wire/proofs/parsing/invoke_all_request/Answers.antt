use Rattle.std.proofs.Common.{◌≡◌, ℕ, List, ◌∷◌, ◌++◌, subst, sym, ap, ◌∙◌, append_assoc, take, take-append-drop}
use Rattle.byteorder.specs.Endian.{big_bytes}
use Rattle.wire.specs.Frames.{IsNoRequest}
use Rattle.wire.proofs.Parsed.{other_length}
use Rattle.wire.proofs.parsing.invoke_all_request.Goals as goal

pub returns-then-not-may_hold : goal.returns-then-not-may_hold
returns-then-not-may_hold c =
    let class : ℕ = c.class_and_count-class.result.0 in
    let keys : ℕ = c.class_and_count-class.result.1 in
    let head : List ℕ = c.split_at.result.0.now in
    let rest : List ℕ = c.split_at.result.1.now in
    let body : List ℕ = c.args.body.now in
    let parts : head ++ rest ≡ body = ap (λ h. h ++ rest) c.split_at.ensures.front ∙ ap (λ t. take 6 body ++ t) c.split_at.ensures.back ∙ take-append-drop 6 body in
    let is : big_bytes 4 class ++ big_bytes 2 keys ++ rest ≡ body = sym (append_assoc (big_bytes 4 class) (big_bytes 2 keys) rest) ∙ ap (λ h. h ++ rest) (sym c.class_and_count-class.ensures.bytes) ∙ parts in
    subst IsNoRequest (ap (λ t. 7 ∷ t) is) (other_length class keys rest c.class_and_count-class.ensures.small.0 c.class_and_count-class.ensures.small.1 (c.may_hold.ensures.no c.if-not-may_hold.true))
