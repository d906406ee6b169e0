use Rattle.std.proofs.Common.{◌≡◌, ◌≤◌, ◌+◌, ◌++◌, List, length, ap, ◌∙◌, arith, refl}
use Rattle.jtypes.specs.declared.types.JType.{JType}
use Rattle.locals.specs.Written.{written}
use Rattle.frames.proofs.Room.{slots}
use Rattle.frames.proofs.Listed.{append_overflows, append_fits, spread_written, row_length, row_longer, slots_append, is_after, not_after}
use Rattle.frames.proofs.listing.Listing.append.Goals as goal

pub returns-then-not-have_room : goal.returns-then-not-have_room
returns-then-not-have_room c =
    let l = c.args.self.now in
    not_after l _ _ (append_overflows l.max_locals l.slots l.types.items c.args.types.now _ c.requires.slots c.requires.room c.have_room.ensures cc) refl refl

pub put-requires-clause-there : goal.put-requires-clause-there
put-requires-clause-there c =
    let l = c.args.self.now in
    let fits : slots l.types.items + slots c.args.types.now ≤ l.max_locals = append_fits l.max_locals l.slots l.types.items c.args.types.now _ c.requires.slots c.requires.room c.have_room.ensures cc in
    let len : length c.deref.result.now ≡ slots c.args.types.now = spread_written c.args.types.now c.deref.result.now (c.deref.ensures.value ∙ c.in_ok-listed.ensures) in
    let all : length l.locals.row ≡ l.max_locals = row_length l.max_locals l.types.items l.locals.row c.requires.row (omega (arith, fits)) in
    omega (arith, c.requires.slots, fits, len, all)

pub put-requires-clause-fits : goal.put-requires-clause-fits
put-requires-clause-fits c =
    let l = c.args.self.now in
    let fits : slots l.types.items + slots c.args.types.now ≤ l.max_locals = append_fits l.max_locals l.slots l.types.items c.args.types.now _ c.requires.slots c.requires.room c.have_room.ensures cc in
    let len : length c.deref.result.now ≡ slots c.args.types.now = spread_written c.args.types.now c.deref.result.now (c.deref.ensures.value ∙ c.in_ok-listed.ensures) in
    omega (arith, c.requires.slots, fits, len, c.fits-self)

pub overflow_add-self : goal.overflow_add-self
overflow_add-self c =
    let l = c.args.self.now in
    let fits : slots l.types.items + slots c.args.types.now ≤ l.max_locals = append_fits l.max_locals l.slots l.types.items c.args.types.now _ c.requires.slots c.requires.room c.have_room.ensures cc in
    let len : length c.in_ok-listed.listed.items ≡ slots c.args.types.now = spread_written c.args.types.now c.in_ok-listed.listed.items c.in_ok-listed.ensures in
    omega (arith, c.requires.slots, fits, len, c.fits-self, c.len.ensures)

pub returns : goal.returns
returns c =
    let l = c.args.self.now in
    let us = c.args.types.now in
    let fits : slots l.types.items + slots us ≤ l.max_locals = append_fits l.max_locals l.slots l.types.items us _ c.requires.slots c.requires.room c.have_room.ensures cc in
    let listed = c.deref.ensures.value ∙ c.in_ok-listed.ensures in
    let len : length c.in_ok-listed.listed.items ≡ slots us = spread_written us c.in_ok-listed.listed.items c.in_ok-listed.ensures in
    let row = row_longer l.max_locals l.types.items us l.locals.row c.put.new.self.row l.slots c.requires.row c.requires.slots fits (c.in_ok-put.ensures.ok ∙ ap (λ (x : List JType). written l.locals.row l.slots x) listed) in
    let sum : slots (l.types.items ++ us) ≡ slots l.types.items + slots us = slots_append l.types.items us in
    let count : l.slots + c.len.result ≡ slots (l.types.items ++ us) = omega (arith, c.requires.slots, len, sum, c.len.ensures) in
    is_after l _ (l.types.items ++ us) (omega (arith, fits, sum)) c.in_ok-extend_from_slice.ensures.items row count c.in_ok-put.ensures.kept refl
