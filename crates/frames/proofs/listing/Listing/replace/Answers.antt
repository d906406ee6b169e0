use Rattle.std.proofs.Common.{rules, ◌≡◌, ◌≤◌, length, arith, refl}
use Rattle.jtypes.specs.Lists.{padded}
use Rattle.jtypes.specs.declared.types.JType.TheVariants.{Top}
use Rattle.frames.proofs.Rows.{locals_of_types}
use Rattle.frames.proofs.Room.{slots}
use Rattle.frames.proofs.Listed.{front_fits, overflows, fits_room, spread_written, row_length, row_replaced, is_after, not_after}
use Rattle.frames.proofs.listing.Listing.replace.Goals as goal

pub returns-then-not-have_room : goal.returns-then-not-have_room
returns-then-not-have_room c =
    let l = c.args.self.now in
    not_after l _ _ (overflows c.args.types.now l.max_locals _ c.have_room.ensures cc) refl refl

pub put-requires-clause-there : goal.put-requires-clause-there
put-requires-clause-there c =
    let l = c.args.self.now in
    let us = c.args.types.now in
    let fits : slots us ≤ l.max_locals = fits_room us l.max_locals _ c.have_room.ensures cc in
    let new : c.deref.result.now ≡ padded Top l.slots (locals_of_types us) = search rules in
    let all : length l.locals.row ≡ l.max_locals = row_length l.max_locals l.types.items l.locals.row c.requires.row (omega (arith, c.requires.slots, c.requires.room)) in
    let short : length c.deref.result.now ≤ l.max_locals = front_fits us _ l.slots l.max_locals new fits c.requires.room in
    omega (arith, all, short)

pub returns : goal.returns
returns c =
    let l = c.args.self.now in
    let us = c.args.types.now in
    let fits : slots us ≤ l.max_locals = fits_room us l.max_locals _ c.have_room.ensures cc in
    let new : c.deref.result.now ≡ padded Top l.slots (locals_of_types us) = search rules in
    let row = row_replaced l.max_locals l.types.items us l.locals.row c.put.new.self.row _ l.slots c.requires.row c.requires.slots (omega (arith, c.requires.slots, c.requires.room)) fits new c.in_ok-put.ensures.ok in
    let types : c.extend_from_slice.new.self.items ≡ us = search rules in
    let count : c.len-slots.result ≡ slots us = omega (arith, spread_written us _ c.in_ok-listed.ensures, c.len-slots.ensures) in
    is_after l _ us fits types row count c.in_ok-put.ensures.kept refl
