-- The locals of the entries, and the kept ones.
use Rattle.std.proofs.Common.{◌≡◌, ℕ, zero, suc, ◌+◌, ◌-◌, ◌<◌, ◌≤◌, Bool, true, false, List, [], ◌∷◌, ◌++◌, length, take, drop, replicate, Option, Some, None, refl, sym, ap, ◌∙◌, append_assoc, arith}
use Rattle.std.specs.Prelude.{nat_le, slice_index_or, option_and_then}
use Rattle.std.proofs.lemmas.Bool.{le-leb, lt-leb, leb-true, leb-false}
use Rattle.std.proofs.lemmas.List.{length-append, length-replicate, get_or_append_left, get_or_push, take-append-drop}
use Rattle.jtypes.specs.declared.types.JType.{JType}
use Rattle.jtypes.specs.declared.types.JType.TheVariants.{Top, Int, Long, Null, Ref}
use Rattle.jtypes.specs.Lists.{padded}
use Rattle.locals.specs.Written.{written}
use Rattle.locals.proofs.Writing.{append_written, chop_written}
use Rattle.frames.specs.declared.frame.Environment.{Environment}
use Rattle.frames.specs.declared.table.Declared.{Declared}
use Rattle.frames.specs.Frames.{Frame, row_with, locals_of}
use Rattle.frames.specs.declared.listing.Listing.{Listing}
use Rattle.frames.specs.Listing.{IsListing, IsAfter, Grows}
use Rattle.frames.specs.Seen.{declared_seen, frame_kept, AreKept}
use Rattle.frames.specs.declared.entries.Change.TheVariants.{Chop}
use Rattle.frames.specs.Reading.{within, locals_after}
use Rattle.frames.proofs.Rows.{locals_of_types}
use Rattle.frames.proofs.Room.{slots}

-- ---- types as locals

pub slots_append : (ts us : List JType) → slots (ts ++ us) ≡ slots ts + slots us
slots_append [] us = omega arith
slots_append (t ∷ ts) us = let rest = slots_append ts us in omega (arith, rest)

pub spread_append : (ts us : List JType) → locals_of_types (ts ++ us) ≡ locals_of_types ts ++ locals_of_types us
spread_append [] us = refl
spread_append (Long ∷ ts) us = ap (λ (l : List JType). Long ∷ Top ∷ l) (spread_append ts us)
spread_append (Top ∷ ts) us = ap (λ (l : List JType). Top ∷ l) (spread_append ts us)
spread_append (Int ∷ ts) us = ap (λ (l : List JType). Int ∷ l) (spread_append ts us)
spread_append (Null ∷ ts) us = ap (λ (l : List JType). Null ∷ l) (spread_append ts us)
spread_append (Ref r ∷ ts) us = ap (λ (l : List JType). Ref r ∷ l) (spread_append ts us)

pub spread_length : (ts : List JType) → length (locals_of_types ts) ≡ slots ts
spread_length [] = refl
spread_length (Long ∷ ts) = let rest = spread_length ts in omega (arith, rest)
spread_length (Top ∷ ts) = let rest = spread_length ts in omega (arith, rest)
spread_length (Int ∷ ts) = let rest = spread_length ts in omega (arith, rest)
spread_length (Null ∷ ts) = let rest = spread_length ts in omega (arith, rest)
spread_length (Ref r ∷ ts) = let rest = spread_length ts in omega (arith, rest)

pub spread_written : (ts listed : List JType) → listed ≡ locals_of_types ts → length listed ≡ slots ts
spread_written ts listed e = ap (λ (l : List JType). length l) e ∙ spread_length ts

pub slots_cut : (ts : List JType) (k : ℕ) → slots (take k ts) + slots (drop k ts) ≡ slots ts
slots_cut ts k = sym (slots_append (take k ts) (drop k ts)) ∙ ap slots (take-append-drop k ts)

take_all : (ts : List JType) → take (length ts) ts ≡ ts
take_all [] = refl
take_all (t ∷ ts) = ap (λ (l : List JType). t ∷ l) (take_all ts)

tail_whole : (ts : List JType) (k : ℕ) → take (length ts - k) (drop k ts) ≡ drop k ts
tail_whole ts zero = ap (λ (n : ℕ). take n ts) (let e : length ts - 0 ≡ length ts = omega arith in e) ∙ take_all ts
tail_whole [] (suc k) = ap (λ (n : ℕ). take n []) (let e : length {A = JType} [] - suc k ≡ 0 = omega arith in e)
tail_whole (t ∷ ts) (suc k) = ap (λ (n : ℕ). take n (drop k ts)) (let e : length (t ∷ ts) - suc k ≡ length ts - k = omega arith in e) ∙ tail_whole ts k

-- the number of locals that the types from index `k` on fill
pub tail_length : (ts now listed : List JType) (k : ℕ) → now ≡ ts → listed ≡ locals_of_types (take (length now - k) (drop k now)) → length listed ≡ slots (drop k ts)
tail_length ts now listed k e h =
    spread_written (drop k ts) listed (h ∙ ap locals_of_types (tail_whole now k ∙ ap (λ (l : List JType). drop k l) e))

-- ---- padded locals

-- a write of the first types to blank locals gives their padded locals
pub row_started : (max : ℕ) (ts listed row : List JType) → listed ≡ locals_of_types ts → slots ts ≤ max → row ≡ written (replicate max Top) 0 listed → row ≡ row_with max ts
row_started max ts listed row e h w =
    let all : max - 0 ≡ max = omega arith in
    let bare : padded Top max [] ≡ replicate max Top = ap (λ (n : ℕ). replicate n Top) all in
    w ∙ ap (written (replicate max Top) 0) e ∙ ap (λ (r : List JType). written r 0 (locals_of_types ts)) (sym bare) ∙ append_written [] (locals_of_types ts) max (omega (arith, h, spread_length ts))

-- a write of more types after the listed ones gives the padded locals of all
pub row_longer : (max : ℕ) (ts us row next : List JType) (at : ℕ) → row ≡ row_with max ts → at ≡ slots ts → slots ts + slots us ≤ max → next ≡ written row at (locals_of_types us) → next ≡ row_with max (ts ++ us)
row_longer max ts us row next at e f h w =
    let place : at ≡ length (locals_of_types ts) = f ∙ sym (spread_length ts) in
    w ∙ ap (λ (r : List JType). written r at (locals_of_types us)) e ∙ ap (λ (n : ℕ). written (row_with max ts) n (locals_of_types us)) place
    ∙ append_written (locals_of_types ts) (locals_of_types us) max (omega (arith, h, spread_length ts, spread_length us))
    ∙ ap (padded Top max) (sym (spread_append ts us))

-- a write of `Top` over the last types gives the padded locals of the remaining ones
pub row_shorter : (max : ℕ) (ts us row next : List JType) (at gone : ℕ) → row ≡ row_with max (ts ++ us) → at ≡ slots ts → gone ≡ slots us → slots ts + slots us ≤ max → next ≡ written row at (replicate gone Top) → next ≡ row_with max ts
row_shorter max ts us row next at gone e f g h w =
    let place : at ≡ length (locals_of_types ts) = f ∙ sym (spread_length ts) in
    let count : gone ≡ length (locals_of_types us) = g ∙ sym (spread_length us) in
    w ∙ ap (λ (r : List JType). written r at (replicate gone Top)) (e ∙ ap (padded Top max) (spread_append ts us))
    ∙ ap (λ (n : ℕ). written (padded Top max (locals_of_types ts ++ locals_of_types us)) n (replicate gone Top)) place
    ∙ ap (λ (n : ℕ). written (padded Top max (locals_of_types ts ++ locals_of_types us)) (length (locals_of_types ts)) (replicate n Top)) count
    ∙ chop_written (locals_of_types ts) (locals_of_types us) max (omega (arith, h, spread_length ts, spread_length us))

blanks : (a b : ℕ) → replicate a Top ++ replicate b Top ≡ replicate (a + b) Top
blanks zero b = ap (λ (n : ℕ). replicate n Top) (let e : b ≡ 0 + b = omega arith in e)
blanks (suc a) b = ap (λ (r : List JType). Top ∷ r) (blanks a b) ∙ ap (λ (n : ℕ). replicate n Top) (let e : suc (a + b) ≡ suc a + b = omega arith in e)

-- a write at index 0 replaces the front and keeps the rest
written_front : (row types : List JType) → length types ≤ length row → written row 0 types ≡ types ++ drop (length types) row
written_front [] [] h = refl
written_front [] (t ∷ types) h = absurd (omega (arith, h))
written_front (x ∷ row) [] h = refl
written_front (x ∷ row) (t ∷ types) h = ap (λ (r : List JType). t ∷ r) (written_front row types (omega (arith, h)))

drop_blanks : (n m : ℕ) → drop n (replicate m Top) ≡ replicate (m - n) Top
drop_blanks zero m = ap (λ (n : ℕ). replicate n Top) (let e : m ≡ m - 0 = omega arith in e)
drop_blanks (suc n) zero = ap (λ (k : ℕ). replicate k Top) (let e : 0 ≡ 0 - suc n = omega arith in e)
drop_blanks (suc n) (suc m) = drop_blanks n m ∙ ap (λ (k : ℕ). replicate k Top) (let e : m - n ≡ suc m - suc n = omega arith in e)

drop_padded : (xs : List JType) (n m : ℕ) → length xs ≤ n → drop n (xs ++ replicate m Top) ≡ replicate (m - (n - length xs)) Top
drop_padded [] n m h = drop_blanks n m ∙ ap (λ (k : ℕ). replicate k Top) (let e : m - n ≡ m - (n - length {A = JType} []) = omega arith in e)
drop_padded (x ∷ xs) zero m h = absurd (omega (arith, h))
drop_padded (x ∷ xs) (suc n) m h = drop_padded xs n m (omega (arith, h)) ∙ ap (λ (k : ℕ). replicate k Top) (let e : m - (n - length xs) ≡ m - (suc n - length (x ∷ xs)) = omega arith in e)

replaced : (xs ys : List JType) (max : ℕ) → length xs ≤ max → length ys ≤ max → written (padded Top max xs) 0 (padded Top (length xs) ys) ≡ padded Top max ys
replaced xs ys max h k =
    let new = padded Top (length xs) ys in
    let len : length new ≡ length ys + (length xs - length ys) = length-append ys (replicate (length xs - length ys) Top) ∙ ap (λ (n : ℕ). length ys + n) (length-replicate (length xs - length ys) Top) in
    let all : length (padded Top max xs) ≡ max = omega (arith, h, length-append xs (replicate (max - length xs) Top), length-replicate (max - length xs) Top) in
    let behind = (max - length xs) - (length new - length xs) in
    let sum : (length xs - length ys) + behind ≡ max - length ys = omega (arith, h, k, len) in
    written_front (padded Top max xs) new (omega (arith, h, k, len, all))
    ∙ ap (λ (r : List JType). new ++ r) (drop_padded xs (length new) (max - length xs) (omega (arith, len)))
    ∙ append_assoc ys (replicate (length xs - length ys) Top) (replicate behind Top)
    ∙ ap (λ (r : List JType). ys ++ r) (blanks (length xs - length ys) behind ∙ ap (λ (n : ℕ). replicate n Top) sum)

-- a write of other types, padded to the old length, gives their padded locals
pub row_replaced : (max : ℕ) (ts us row next new : List JType) (at : ℕ) → row ≡ row_with max ts → at ≡ slots ts → slots ts ≤ max → slots us ≤ max → new ≡ padded Top at (locals_of_types us) → next ≡ written row 0 new → next ≡ row_with max us
row_replaced max ts us row next new at e f h k g w =
    let place : at ≡ length (locals_of_types ts) = f ∙ sym (spread_length ts) in
    w ∙ ap (λ (r : List JType). written r 0 new) e ∙ ap (written (row_with max ts) 0) (g ∙ ap (λ (n : ℕ). padded Top n (locals_of_types us)) place)
    ∙ replaced (locals_of_types ts) (locals_of_types us) max (omega (arith, h, spread_length ts)) (omega (arith, k, spread_length us))

-- ---- limits

pub roomy : (ts : List JType) (max : ℕ) → slots ts ≤ max → within max ts ≡ Some ts
roomy ts max h = rw (le-leb (slots ts) max h) refl

pub not_roomy : (ts : List JType) (max : ℕ) → max < slots ts → within max ts ≡ None
not_roomy ts max h = rw (lt-leb (slots ts) max h) refl

pub overflows : (us : List JType) (max : ℕ) (b : Bool) → b ≡ nat_le (slots us) max → b ≡ false → within max us ≡ None
overflows us max b f g = not_roomy us max (leb-false (slots us) max (sym f ∙ g))

pub fits_room : (us : List JType) (max : ℕ) (b : Bool) → b ≡ nat_le (slots us) max → b ≡ true → slots us ≤ max
fits_room us max b f g = leb-true (slots us) max (sym f ∙ g)

-- types padded to the old number of locals fit in `max`
pub front_fits : (us new : List JType) (at max : ℕ) → new ≡ padded Top at (locals_of_types us) → slots us ≤ max → at ≤ max → length new ≤ max
front_fits us new at max e h k =
    let len : length new ≡ length (locals_of_types us) + (at - length (locals_of_types us)) =
    ap (λ (l : List JType). length l) e ∙ length-append (locals_of_types us) (replicate (at - length (locals_of_types us)) Top) ∙ ap (λ (n : ℕ). length (locals_of_types us) + n) (length-replicate (at - length (locals_of_types us)) Top) in
    omega (arith, len, h, k, spread_length us)

-- if appended types don't fit in the remaining slots, all types together exceed `max`
pub append_overflows : (max at : ℕ) (ts us : List JType) (b : Bool) → at ≡ slots ts → at ≤ max → b ≡ nat_le (slots us) (max - at) → b ≡ false → within max (ts ++ us) ≡ None
append_overflows max at ts us b e h f g =
    let over : max - at < slots us = leb-false (slots us) (max - at) (sym f ∙ g) in
    not_roomy (ts ++ us) max (omega (arith, e, h, over, slots_append ts us))

pub append_fits : (max at : ℕ) (ts us : List JType) (b : Bool) → at ≡ slots ts → at ≤ max → b ≡ nat_le (slots us) (max - at) → b ≡ true → slots ts + slots us ≤ max
append_fits max at ts us b e h f g =
    let under : slots us ≤ max - at = leb-true (slots us) (max - at) (sym f ∙ g) in
    omega (arith, e, h, under)

pub row_length : (max : ℕ) (ts row : List JType) → row ≡ row_with max ts → slots ts ≤ max → length row ≡ max
row_length max ts row e h =
    ap (λ (r : List JType). length r) e ∙ omega (arith, h, spread_length ts, length-append (locals_of_types ts) (replicate (max - length (locals_of_types ts)) Top), length-replicate (max - length (locals_of_types ts)) Top)

pub is_listing : (l : Listing) (ts : List JType) → slots ts ≤ l.max_locals → l.types.items ≡ ts → l.locals.row ≡ row_with l.max_locals ts → l.slots ≡ slots ts → IsListing l
is_listing l ts h e row count = record {
  row = row ∙ ap (row_with l.max_locals) (sym e);
  slots = count ∙ ap slots (sym e);
  room = omega (arith, h, count);
}

-- types that fit satisfy `IsAfter`
pub is_after : (l next : Listing) (ts : List JType) → slots ts ≤ l.max_locals → next.types.items ≡ ts → next.locals.row ≡ row_with l.max_locals ts → next.slots ≡ slots ts → next.locals.kept ≡ l.locals.kept → next.max_locals ≡ l.max_locals
    → IsAfter l (within l.max_locals ts) true next
is_after l next ts h e row count kept max = record {
  types = roomy ts l.max_locals h ∙ ap (λ (us : List JType). Some us) (sym e);
  listing = λ u. is_listing next ts (omega (arith, h, max)) e (row ∙ ap (λ (n : ℕ). row_with n ts) (sym max)) count;
  kept = kept;
  max = max;
}

-- dropped types satisfy `IsAfter` for `Chop`
pub is_chopped : (l next : Listing) (n k gone : ℕ) → IsListing l → n ≤ length l.types.items → k ≡ length l.types.items - n → gone ≡ slots (drop k l.types.items) → next.types.items ≡ take k l.types.items
    → next.locals.row ≡ written l.locals.row next.slots (replicate gone Top) → next.slots ≡ l.slots - gone → next.locals.kept ≡ l.locals.kept → next.max_locals ≡ l.max_locals
    → IsAfter l (option_and_then (within l.max_locals) (locals_after l.types.items (Chop n))) true next
is_chopped l next n k gone h le e g types row count kept max =
    let ts = l.types.items in
    let front = take k ts in
    let sum : slots front + slots (drop k ts) ≡ slots ts = slots_cut ts k in
    let at : next.slots ≡ slots front = omega (arith, sum, count, g, h.slots) in
    let fits : slots front ≤ l.max_locals = omega (arith, sum, h.slots, h.room) in
    let all : slots front + slots (drop k ts) ≤ l.max_locals = omega (arith, sum, h.slots, h.room) in
    let shorter : next.locals.row ≡ row_with l.max_locals front = row_shorter l.max_locals front (drop k ts) l.locals.row next.locals.row next.slots gone (h.row ∙ ap (row_with l.max_locals) (sym (take-append-drop k ts))) at g all row in
    let after : option_and_then (within l.max_locals) (locals_after ts (Chop n)) ≡ within l.max_locals front = rw (le-leb n (length ts) le) (ap (λ (m : ℕ). within l.max_locals (take m ts)) (sym e)) in
    let done = is_after l next front fits types shorter at kept max in
    record { types = after ∙ done.types; listing = done.listing; kept = done.kept; max = done.max }

-- without types to list, `IsAfter` holds with `false`
pub not_after : (l next : Listing) (listed : Option (List JType)) → listed ≡ None → next.locals.kept ≡ l.locals.kept → next.max_locals ≡ l.max_locals → IsAfter l listed false next
not_after l next listed e kept max = record { types = e; listing = λ u. cc; kept = kept; max = max }

-- ---- kept locals

-- the last kept locals are at the index `length kept`
pub kept_last : (kept next : List (List JType)) (row : List JType) (n : ℕ) → next ≡ kept ++ row ∷ [] → n ≡ length kept → (n < length next) × (slice_index_or next n [] ≡ row)
kept_last kept next row n e f =
    let len : length next ≡ length kept + 1 = ap (λ (l : List (List JType)). length l) e ∙ length-append kept (row ∷ []) in
    (omega (arith, f, len), ap (λ (l : List (List JType)). slice_index_or l n []) e ∙ get_or_push kept row [] n (sym f))

-- `BeginsWith e kept` holds if the locals kept first are those of the initial frame
pub record BeginsWith (e : Environment) (kept : List (List JType)) : Type 0 where
  pub there : 0 < length kept
  pub is : slice_index_or kept 0 [] ≡ locals_of e e.signature.params

pub begins_more : (e : Environment) (kept next : List (List JType)) → BeginsWith e kept → Grows kept next → BeginsWith e next
begins_more e kept next h g =
    let len : length next ≡ length kept + length g.0 = ap (λ (l : List (List JType)). length l) g.1 ∙ length-append kept g.0 in
    record {
      there = omega (arith, h.there, len);
      is = ap (λ (l : List (List JType)). slice_index_or l 0 []) g.1 ∙ get_or_append_left kept g.0 [] 0 h.there ∙ h.is;
    }

pub rows_more : (kept next : List (List JType)) (ds : List Declared) → AreKept kept ds → Grows kept next → AreKept next ds
rows_more kept next ds h g k d l =
    let len : length next ≡ length kept + length g.0 = ap (λ (l : List (List JType)). length l) g.1 ∙ length-append kept g.0 in
    omega (arith, h k d l, len)

pub seen_grown : (kept next : List (List JType)) (ds : List Declared) → AreKept kept ds → Grows kept next → declared_seen next ds ≡ declared_seen kept ds
seen_grown kept next [] h g = refl
seen_grown kept next (d ∷ ds) h g =
    let same : slice_index_or next d.row [] ≡ slice_index_or kept d.row [] = ap (λ (l : List (List JType)). slice_index_or l d.row []) g.1 ∙ get_or_append_left kept g.0 [] d.row (h zero d (omega arith)) in
    let here : frame_kept next d ≡ frame_kept kept d = cc same in
    ap (λ (f : Frame). (d.place, f) ∷ declared_seen next ds) here ∙ ap (λ (l : List (ℕ × Frame)). (d.place, frame_kept kept d) ∷ l) (seen_grown kept next ds (λ i c l. h (suc i) c (omega (arith, l))) g)
