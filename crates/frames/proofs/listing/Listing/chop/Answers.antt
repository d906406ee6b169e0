use Rattle.std.proofs.Common.{rules, ◌≡◌, ◌≤◌, ◌-◌, ◌+◌, List, length, take, drop, replicate, ap, ◌∙◌, arith, refl}
use Rattle.jtypes.specs.declared.types.JType.{JType}
use Rattle.jtypes.specs.declared.types.JType.TheVariants.{Top}
use Rattle.locals.specs.Written.{written}
use Rattle.frames.proofs.Room.{slots}
use Rattle.frames.proofs.Listed.{tail_length, slots_cut, row_length, is_chopped}
use Rattle.frames.proofs.listing.Listing.chop.Goals as goal

pub overflow_sub-self : goal.overflow_sub-self
overflow_sub-self c =
    let l = c.args.self.now in
    let k = c.len-2.result - c.from-count.result in
    let len = tail_length l.types.items c.deref.result.now c.in_ok-as_locals.field-0.items k c.deref.ensures.value c.in_ok-as_locals.ensures in
    let sum : slots (take k l.types.items) + slots (drop k l.types.items) ≡ slots l.types.items = slots_cut l.types.items k in
    omega (arith, len, sum, c.requires.slots, c.len-gone.ensures)

pub put-requires-clause-there : goal.put-requires-clause-there
put-requires-clause-there c =
    let l = c.args.self.now in
    let k = c.len-2.result - c.from-count.result in
    let len = tail_length l.types.items c.deref.result.now c.in_ok-as_locals.field-0.items k c.deref.ensures.value c.in_ok-as_locals.ensures in
    let sum : slots (take k l.types.items) + slots (drop k l.types.items) ≡ slots l.types.items = slots_cut l.types.items k in
    let blank : length c.deref-2.result.now ≡ c.len-gone.result = search rules in
    let all : length l.locals.row ≡ l.max_locals = row_length l.max_locals l.types.items l.locals.row c.requires.row (omega (arith, c.requires.slots, c.requires.room)) in
    omega (arith, len, sum, blank, all, c.requires.slots, c.requires.room, c.len-gone.ensures)

pub returns : goal.returns
returns c =
    let l = c.args.self.now in
    let k = c.len-2.result - c.from-count.result in
    let len = tail_length l.types.items c.deref.result.now c.in_ok-as_locals.field-0.items k c.deref.ensures.value c.in_ok-as_locals.ensures in
    let gone : c.len-gone.result ≡ slots (drop k l.types.items) = omega (arith, len, c.len-gone.ensures) in
    let blank : c.deref-2.result.now ≡ replicate c.len-gone.result Top = search rules in
    let row = c.in_ok-put.ensures.ok ∙ ap (λ (x : List JType). written l.locals.row (l.slots - c.len-gone.result) x) blank in
    let le : c.args.count ≤ length l.types.items = search rules in
    let is : k ≡ length l.types.items - c.args.count = search rules in
    let types = c.truncate.ensures.items in
    is_chopped l _ c.args.count k c.len-gone.result c.requires le is gone types row refl c.in_ok-put.ensures.kept refl
