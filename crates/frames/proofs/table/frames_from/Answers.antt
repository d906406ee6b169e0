use Rattle.std.proofs.Common.{◌≡◌, ◌<◌, ◌^◌, ◌++◌, ◌∷◌, [], List, Some, ℕ, refl, length, ap, ◌∙◌, arith}
use Rattle.std.specs.Prelude.{slice_index_or}
use Rattle.std.proofs.lemmas.List.Elements.{All-push}
use Rattle.jtypes.specs.declared.types.JType.{JType}
use Rattle.frames.specs.declared.table.Declared.{Declared}
use Rattle.frames.specs.Frames.{Frame, row_with}
use Rattle.frames.specs.Reading.{frame_with}
use Rattle.frames.specs.Seen.{declared_seen, frame_kept}
use Rattle.frames.proofs.Framed.{frames_more, frames_all, seen_more}
use Rattle.frames.proofs.Listed.{begins_more, rows_more, seen_grown}
use Rattle.frames.proofs.table.frames_from.Goals as goal

pub loop-entry-preserved : goal.loop-entry-preserved
loop-entry-preserved c =
    let e = c.args.start.now in
    let code = c.args.code.now in
    let es = c.args.entries.now in
    let before = c.loop-entry in
    let ds = before.declared.items in
    let entry = c.entry-item.result in
    let now = c.next_frame.new.listing in
    let kept = now.locals.kept in
    let stack = c.in-Some.next.stack in
    let d : Declared = record { place = c.in-Some.next.place; row = c.number-row.result; stack = stack } in
    let g = rw c.in-Some.is at c.in_ok-next.ensures.frame in
    let f = rw c.environment-environment.ensures.same at g in
    let fits : c.in-Some.next.place < 2 ^ 64 = rw c.in-Some.is at c.in_ok-next.ensures.fits in
    let change = rw c.in-Some.is at c.in_ok-next.ensures.changed in
    let listing = change.listing refl in
    let is_kept = change.is_kept refl in
    let max : now.max_locals ≡ e.max_locals = change.max ∙ before.invariant.max in
    let rows = rows_more before.listing.locals.kept kept ds before.invariant.rows change.grows in
    let here : d.row < length kept = omega (arith, c.number-row.ensures, is_kept.inside) in
    let row : slice_index_or kept d.row [] ≡ row_with e.max_locals now.types.items =
    ap (λ (n : ℕ). slice_index_or kept n []) c.number-row.ensures ∙ is_kept.is ∙ listing.row ∙ ap (λ (n : ℕ). row_with n now.types.items) max in
    let made : frame_kept kept d ≡ frame_with e.max_locals now.types.items stack = cc row in
    let seen : declared_seen kept c.push.new.self.items ≡ declared_seen before.listing.locals.kept ds ++ (d.place, frame_kept kept d) ∷ [] =
    seen_more kept ds c.push.new.self.items d c.in_ok-push.ensures.items
    ∙ ap (λ (fs : List (ℕ × Frame)). fs ++ (d.place, frame_kept kept d) ∷ []) (seen_grown before.listing.locals.kept kept ds before.invariant.rows change.grows) in
    record {
      listing = listing;
      is_kept = is_kept;
      max = max;
      first = begins_more e before.listing.locals.kept kept before.invariant.first change.grows;
      rows = rw c.in_ok-push.ensures.items (All-push (λ (d : Declared). d.row < length kept) ds d rows here);
      fit = rw c.in_ok-push.ensures.items (All-push (λ (d : Declared). d.place < 2 ^ 64) ds d before.invariant.fit fits);
      frames = rw seen
          (frames_more e code (declared_seen before.listing.locals.kept ds) es before.entry-index entry before.before before.listing.types.items now.types.items stack d.place (frame_kept kept d) _ c.loop-entry-test.true c.entry-item.is f made before.invariant.frames);
    }

pub returns-clause-frames : goal.returns-clause-frames
returns-clause-frames c =
    let e = c.args.start.now in
    let l = c.loop-entry in
    ap (λ (kept : List (List JType)). Some (declared_seen kept l.declared.items)) c.into_first-first.ensures.kept
    ∙ frames_all e c.args.code.now (declared_seen l.listing.locals.kept l.declared.items) c.args.entries.now l.entry-index l.before l.listing.types.items _ c.loop-entry-test.false l.invariant.frames
