use Rattle.std.proofs.Common.{◌≡◌, ◌<◌, ℕ, List, [], ◌∷◌, ◌++◌, length, Option, Some, arith, sym, ap, ◌∙◌, subst, inl, inr}
use Rattle.std.specs.Prelude.{option_map}
use Rattle.std.proofs.lemmas.List.{map-append, length-map}
use Rattle.boxcar.specs.Table.{Where}
use Rattle.typecheck.specs.Typing.{Class, IsProcessOf}
use Rattle.bounds.specs.Paths.{AreBounds}
use Rattle.bounds.specs.Rows.{bounds_in}
use Rattle.registry.specs.Ids.{class_of}
use Rattle.jtypes.specs.declared.refusal.Refusal.TheVariants as refusal
use Rattle.wire.specs.Requests.{Define}
use Rattle.wire.specs.declared.reply.Reply.TheVariants as reply
use Rattle.serve.specs.Classes.{Classes, HasRoom, held, most_numbers, most_classes}
use Rattle.serve.specs.Rounds.{Adds, told, lacks_memory, too_many}
use Rattle.serve.specs.Kept.{classes_of}
use Rattle.serve.proofs.Plans.{refused_as, defined_as}
use Rattle.serve.proofs.classes.define.Goals as goal

-- The stream may define one more class.
room : (ids : List (Option (Where Class))) (seen : List (Option (Where Class))) (count many : ℕ) → count ≡ length ids → count < most_numbers → many ≡ held (classes_of seen) → seen ≡ ids → many < most_classes → HasRoom (classes_of ids)
room ids seen count many all numbers is same few =
    let as_many = length-map ids (option_map class_of) in
    let holds : many ≡ held (classes_of ids) = is ∙ ap (λ (l : List (Option (Where Class))). held (classes_of l)) same in
    record { few = omega (arith, few, holds); numbers = omega (arith, numbers, all, as_many) }

pub returns-then-count-ge-MOST_NUMBERS-clause-adds : goal.returns-then-count-ge-MOST_NUMBERS-clause-adds
returns-then-count-ge-MOST_NUMBERS-clause-adds g c at =
    too_many c.args.bytes.now (inr (omega (arith, c.if-count-ge-MOST_NUMBERS.true, c.len-count.ensures, c.args.ids.now.ok.0, length-map c.args.ids.now.items (option_map class_of))))

pub returns-then-held-ge-MOST_CLASSES-clause-adds : goal.returns-then-held-ge-MOST_CLASSES-clause-adds
returns-then-held-ge-MOST_CLASSES-clause-adds g c at =
    let holds : c.count_held-held.result ≡ held (classes_of c.args.ids.now.items) = c.count_held-held.ensures ∙ ap (λ (l : List (Option (Where Class))). held (classes_of l)) c.as_slice.ensures.value in
    too_many c.args.bytes.now (inl (omega (arith, c.if-held-ge-MOST_CLASSES.true, holds)))

pub returns-then-is_err-clause-adds : goal.returns-then-is_err-clause-adds
returns-then-is_err-clause-adds g c at =
    let ids = c.args.ids.now.items in
    let few = room ids c.as_slice.result.now c.len-count.result c.count_held-held.result (omega (arith, c.len-count.ensures, c.args.ids.now.ok.0)) (omega (arith, c.if-count-ge-MOST_NUMBERS.false)) c.count_held-held.ensures c.as_slice.ensures.value (omega (arith, c.if-held-ge-MOST_CLASSES.false)) in
    subst (λ (l : Classes). Adds (classes_of ids) at (Define c.args.bytes.now) (told (reply.Refused refusal.NoMemory)) l) (sym (ap classes_of c.reserve.ensures.items)) (lacks_memory c.args.bytes.now few)

pub returns-in-Ok-clause-adds : goal.returns-in-Ok-clause-adds
returns-in-Ok-clause-adds g c at =
    let ids = c.args.ids.now.items in
    let id : Where Class = c.in-Ok.id in
    let count : c.len-count.result ≡ length ids = omega (arith, c.len-count.ensures, c.args.ids.now.ok.0) in
    let few = room ids c.as_slice.result.now c.len-count.result c.count_held-held.result count (omega (arith, c.if-count-ge-MOST_NUMBERS.false)) c.count_held-held.ensures c.as_slice.ensures.value (omega (arith, c.if-held-ge-MOST_CLASSES.false)) in
    let items : classes_of c.push_reserved.new.self.items ≡ classes_of ids ++ Some id.value ∷ [] =
    ap classes_of c.push_reserved.ensures.items ∙ map-append (option_map class_of) c.reserve.new.self.items (Some id ∷ []) ∙ ap (λ (l : List (Option (Where Class))). classes_of l ++ Some id.value ∷ []) c.reserve.ensures.items in
    let bounds = subst (λ (x : Class). (j : ℕ) → IsProcessOf x j → AreBounds x j (bounds_in c.bounds-bounds.result)) c.class.ensures c.bounds-bounds.ensures.bounds in
    defined_as (classes_of ids) (classes_of c.push_reserved.new.self.items) at c.len-count.result c.args.bytes.now id.value (bounds_in c.bounds-bounds.result) few (count ∙ sym (length-map ids (option_map class_of))) items c.in-Ok.ensures.accepted c.in-Ok.ensures.class bounds

pub returns-in-Err-clause-adds : goal.returns-in-Err-clause-adds
returns-in-Err-clause-adds g c at =
    let ids = c.args.ids.now.items in
    let few = room ids c.as_slice.result.now c.len-count.result c.count_held-held.result (omega (arith, c.len-count.ensures, c.args.ids.now.ok.0)) (omega (arith, c.if-count-ge-MOST_NUMBERS.false)) c.count_held-held.ensures c.as_slice.ensures.value (omega (arith, c.if-held-ge-MOST_CLASSES.false)) in
    subst (λ (l : Classes). Adds (classes_of ids) at (Define c.args.bytes.now) (told (reply.Refused c.in-Err.refusal)) l) (sym (ap classes_of c.reserve.ensures.items))
    (refused_as (classes_of ids) at c.args.bytes.now c.in-Err.refusal few c.in-Err.ensures.refused)
