-- The frames of a table's entries.
use Rattle.std.proofs.Common.{◌≡◌, ℕ, zero, suc, ◌+◌, ◌-◌, ◌≤◌, ◌<◌, Bool, true, false, List, [], ◌∷◌, ◌++◌, length, drop, take, Option, Some, None, refl, sym, ap, subst, ◌∙◌, append_assoc, arith}
use Rattle.std.specs.Prelude.{nat_le, map, option_map, option_and_then, is_some, IsSome, slice_index_or, All}
use Rattle.std.proofs.lemmas.Bool.{le-leb, leb-true}
use Rattle.std.proofs.lemmas.List.{append-nil}
use Rattle.jtypes.specs.declared.types.JType.{JType}
use Rattle.jtypes.specs.Lists.{only_if}
use Rattle.jtypes.specs.Types.{is_long, slots_by}
use Rattle.jtypes.proofs.Fit.{only_if_some, only_if_true, then_some_parts}
use Rattle.decode.specs.declared.instruction.Placed.{Placed}
use Rattle.decode.specs.Places.{at_place}
use Rattle.frames.specs.Frames.{Frame}
use Rattle.frames.specs.declared.frame.Environment.{Environment}
use Rattle.frames.specs.declared.table.Declared.{Declared}
use Rattle.frames.specs.Seen.{declared_seen, frame_kept}
use Rattle.frames.specs.declared.entries.Change.{Change}
use Rattle.frames.specs.declared.entries.Change.TheVariants.{Same, OneItem, Chop, Append, Full}
use Rattle.frames.specs.declared.entries.Entry.{Entry}
use Rattle.frames.specs.StackMap.{Listed, place_after, frame_of_change, then_rest, frames_from, IsRoomy, declared_of}
use Rattle.frames.specs.Reading.{standing, within, locals_after, stack_after, frame_with, next_listed, Reached, reached, framed}
use Rattle.frames.proofs.Rows.{drop_at_item, drop_past}

-- ---- one entry

abbrev listed_with : ℕ → List JType → List JType → Listed
listed_with place stack locals = record { place = place; locals = locals; stack = stack }

-- the frame of a change has the locals `locals_after` and the stack `stack_after`
by_change : (place : ℕ) (locals : List JType) (c : Change) → frame_of_change place locals c ≡ option_map (listed_with place (stack_after c)) (locals_after locals c)
by_change place locals Same = refl
by_change place locals (OneItem t) = refl
by_change place locals (Chop n) = go (nat_le n (length locals))
  where
    go : (b : Bool) → only_if b (Some (listed_with place [] (take (length locals - n) locals))) ≡ option_map (listed_with place []) (only_if b (Some (take (length locals - n) locals)))
    go true = refl
    go false = refl
by_change place locals (Append types) = refl
by_change place locals (Full new stack) = refl

-- the intermediate results when `chained` gives a frame
record Links (s : Option ℕ) (l : Option (List JType)) (w : List JType → Option (List JType)) (k : Option (List JType)) (x : Listed) : Type 0 where
  place : ℕ
  after : List JType
  roomy : List JType
  stack : List JType
  place_is : s ≡ Some place
  after_is : l ≡ Some after
  roomy_is : w after ≡ Some roomy
  stack_is : k ≡ Some stack
  is : x ≡ listed_with place stack roomy

abbrev chained : Option ℕ → Option (List JType) → (List JType → Option (List JType)) → Option (List JType) → Option Listed
chained s l w k = option_and_then (λ place. option_and_then (λ after. option_and_then (λ roomy. option_and_then (λ stack. Some (listed_with place stack roomy)) k) (w after)) l) s

-- `chained` with the new locals and their check as one step
by_links : (s : Option ℕ) (l : Option (List JType)) (w : List JType → Option (List JType)) (k : Option (List JType))
    → option_and_then (λ place. option_and_then (λ roomy. option_and_then (λ stack. Some (listed_with place stack roomy)) k) (option_and_then w l)) s ≡ chained s l w k
by_links None l w k = refl
by_links (Some place) None w k = refl
by_links (Some place) (Some after) w k = refl

links : (s : Option ℕ) (l : Option (List JType)) (w : List JType → Option (List JType)) (k : Option (List JType)) (x : Listed) → chained s l w k ≡ Some x → Links s l w k x
links None l w k x h = cc
links (Some place) None w k x h = cc
links (Some place) (Some after) w k x h = roomy (w after) refl k refl h
  where
    roomy : (o : Option (List JType)) → w after ≡ o → (q : Option (List JType)) → k ≡ q → option_and_then (λ r. option_and_then (λ t. Some (listed_with place t r)) q) o ≡ Some x → Links (Some place) (Some after) w k x
    roomy None f q g e = cc
    roomy (Some r) f None g e = cc
    roomy (Some r) f (Some t) g e = record { place = place; after = after; roomy = r; stack = t; place_is = refl; after_is = refl; roomy_is = f; stack_is = g; is = cc }

kept : (max : ℕ) (ts us : List JType) → within max ts ≡ Some us → (us ≡ ts) × (slots_by is_long ts ≤ max)
kept max ts us h =
    let p = only_if_some (nat_le (slots_by is_long ts) max) (Some ts) us h in
    let e : Some ts ≡ Some us = p.1 in
    (cc, leb-true (slots_by is_long ts) max p.0)

roomy_listed : (e : Environment) (code : List Placed) (place : ℕ) (stack locals : List JType) (x : Listed) → x ≡ listed_with place stack locals → IsSome (at_place code place) → slots_by is_long locals ≤ e.max_locals → slots_by is_long stack ≤ e.max_stack
    → IsRoomy e code x
roomy_listed e code place stack locals x h s l k = subst (λ (y : Listed). IsRoomy e code y) (sym h) (record { stands = s; locals = l; stack = k })

pub listed_is : (e : Environment) (code : List Placed) (p : Option ℕ) (locals : List JType) (a : Entry) (x : Listed) → next_listed e code p locals a ≡ Some x
    → (frame_of_change (place_after p a.delta) locals a.change ≡ Some x) × IsRoomy e code x
unfolding next_listed
listed_is e code p locals a x h =
    let at = place_after p a.delta in
    let four = by_links (standing code at) (locals_after locals a.change) (within e.max_locals) (within e.max_stack (stack_after a.change)) in
    let l = links (standing code at) (locals_after locals a.change) (within e.max_locals) (within e.max_stack (stack_after a.change)) x (sym four ∙ h) in
    let stands = only_if_some (is_some (at_place code at)) (Some at) l.place l.place_is in
    let same : Some at ≡ Some l.place = stands.1 in
    let roomy = kept e.max_locals l.after l.roomy l.roomy_is in
    let stack = kept e.max_stack (stack_after a.change) l.stack l.stack_is in
    let place : l.place ≡ at = cc same in
    let locals_are : l.roomy ≡ l.after = roomy.0 in
    let stack_is : l.stack ≡ stack_after a.change = stack.0 in
    let here : x ≡ listed_with at (stack_after a.change) l.after = l.is ∙ cc (place, locals_are, stack_is) in
    let made : frame_of_change at locals a.change ≡ Some x = by_change at locals a.change ∙ ap (option_map (listed_with at (stack_after a.change))) l.after_is ∙ ap (λ (y : Listed). Some y) (sym here) in
    (made, roomy_listed e code at (stack_after a.change) l.after x here stands.0 roomy.1 stack.1)

keeps : (max : ℕ) (ts : List JType) → slots_by is_long ts ≤ max → within max ts ≡ Some ts
keeps max ts h = only_if_true (nat_le (slots_by is_long ts) max) (Some ts) (le-leb (slots_by is_long ts) max h)

pub mapped : {A B : Type 0} (f : A → B) (o : Option A) (y : B) → option_map f o ≡ Some y → (x : A) × (o ≡ Some x) × (f x ≡ y)
mapped f None y h = cc
mapped f (Some x) y h = (x, refl, cc)

pub listed_again : (e : Environment) (code : List Placed) (p : Option ℕ) (locals : List JType) (a : Entry) (x : Listed) → frame_of_change (place_after p a.delta) locals a.change ≡ Some x → IsRoomy e code x
    → next_listed e code p locals a ≡ Some x
unfolding next_listed
listed_again e code p locals a x h r =
    let at = place_after p a.delta in
    let stack = stack_after a.change in
    let m = mapped (listed_with at stack) (locals_after locals a.change) x (sym (by_change at locals a.change) ∙ h) in
    let q = subst (λ (y : Listed). IsRoomy e code y) (sym m.2) r in
    let stands : standing code at ≡ Some at = only_if_true (is_some (at_place code at)) (Some at) q.stands in
    rw (stands, m.1, keeps e.max_locals m.0 q.locals, keeps e.max_stack stack q.stack) (ap (λ (y : Listed). Some y) m.2)

pub place_is : (place : ℕ) (locals : List JType) (c : Change) (x : Listed) → frame_of_change place locals c ≡ Some x → x.place ≡ place
place_is place locals c x h =
    let m = mapped (listed_with place (stack_after c)) (locals_after locals c) x (sym (by_change place locals c) ∙ h) in
    sym (ap (λ (y : Listed). y.place) m.2)

unmapped : {A B : Type 0} (f : A → B) (o : Option A) → option_map f o ≡ None → o ≡ None
unmapped f None h = refl
unmapped f (Some x) h = cc

-- the frames found so far, followed by those of the remaining entries
abbrev pub with_frames : List (ℕ × Frame) → Option (List (ℕ × Frame)) → Option (List (ℕ × Frame))
with_frames fs o = option_map (λ gs. fs ++ gs) o

regrouped : (fs : List (ℕ × Frame)) (d : ℕ × Frame) (o : Option (List (ℕ × Frame))) → with_frames fs (option_map (λ gs. d ∷ gs) o) ≡ with_frames (fs ++ d ∷ []) o
regrouped fs d (Some gs) = ap (λ (l : List (ℕ × Frame)). Some l) (sym (append_assoc fs (d ∷ []) gs))
regrouped fs d None = refl

seen_append : (kept : List (List JType)) (ds others : List Declared) → declared_seen kept (ds ++ others) ≡ declared_seen kept ds ++ declared_seen kept others
seen_append kept [] others = refl
seen_append kept (d ∷ ds) others = ap (λ (l : List (ℕ × Frame)). (d.place, frame_kept kept d) ∷ l) (seen_append kept ds others)

pub seen_more : (kept : List (List JType)) (ds now : List Declared) (d : Declared) → now ≡ ds ++ d ∷ [] → declared_seen kept now ≡ declared_seen kept ds ++ (d.place, frame_kept kept d) ∷ []
seen_more kept ds now d h = ap (declared_seen kept) h ∙ seen_append kept ds (d ∷ [])

-- ---- all entries

module _ (e : Environment) (code : List Placed) where
  -- the frames of an entry and of the entries after it
  abbrev pub rest_of : List Entry → Listed → Option (List (ℕ × Frame))
  rest_of es x = option_map (λ ds. declared_of e x ∷ ds) (framed e code (Some x.place) x.locals es)

  pub record Found (p : Option ℕ) (locals : List JType) (es : List Entry) (ds : List (ℕ × Frame)) : Type 0 where
    pub frames : List Listed
    pub made : frames_from p locals es ≡ Some frames
    pub roomy : All (IsRoomy e code) frames
    pub are : ds ≡ map (declared_of e) frames

  all_more : (x : Listed) (xs : List Listed) → IsRoomy e code x → All (IsRoomy e code) xs → All (IsRoomy e code) (x ∷ xs)
  all_more x xs h k zero d l = h
  all_more x xs h k (suc i) d l = k i d (omega arith)

  pub framed_found : (p : Option ℕ) (locals : List JType) (es : List Entry) (ds : List (ℕ × Frame)) → framed e code p locals es ≡ Some ds → Found p locals es ds
  framed_found p locals [] ds h = record { frames = []; made = refl; roomy = λ k d l. absurd (omega arith); are = cc }
  framed_found p locals (a ∷ es) ds h =
      let s = then_some_parts (rest_of es) (next_listed e code p locals a) ds h in
      let x = s.0 in
      let t = mapped (λ gs. declared_of e x ∷ gs) (framed e code (Some x.place) x.locals es) ds s.2 in
      let one = listed_is e code p locals a x s.1 in
      let more = framed_found (Some x.place) x.locals es t.0 t.1 in
      record {
        frames = x ∷ more.frames;
        made = rw (one.0, more.made) refl;
        roomy = all_more x more.frames one.1 more.roomy;
        are = sym t.2 ∙ ap (λ (gs : List (ℕ × Frame)). declared_of e x ∷ gs) more.are;
      }

  pub framed_again : (p : Option ℕ) (locals : List JType) (es : List Entry) (xs : List Listed) → frames_from p locals es ≡ Some xs → All (IsRoomy e code) xs → framed e code p locals es ≡ Some (map (declared_of e) xs)
  framed_again p locals [] xs h r = let is : [] ≡ xs = cc h in ap (λ (ys : List Listed). Some (map (declared_of e) ys)) is
  framed_again p locals (a ∷ es) xs h r = go (frame_of_change (place_after p a.delta) locals a.change) refl (λ x ys k q. framed_again (Some x.place) x.locals es ys k q) h
    where
      go : (o : Option Listed) → frame_of_change (place_after p a.delta) locals a.change ≡ o → ((x : Listed) (ys : List Listed) → frames_from (Some x.place) x.locals es ≡ Some ys → All (IsRoomy e code) ys → framed e code (Some x.place) x.locals es ≡ Some (map (declared_of e) ys))
          → then_rest o (λ x. frames_from (Some x.place) x.locals es) ≡ Some xs → framed e code p locals (a ∷ es) ≡ Some (map (declared_of e) xs)
      go None f later k = cc
      go (Some x) f later k =
          let m = mapped (λ ys. x ∷ ys) (frames_from (Some x.place) x.locals es) xs k in
          let all = subst (λ (ys : List Listed). All (IsRoomy e code) ys) (sym m.2) r in
          let one = listed_again e code p locals a x f (all zero x (omega arith)) in
          let more = later x m.0 m.1 (λ i d l. all (suc i) d (omega arith)) in
          rw (one, more) (ap (λ (ys : List Listed). Some (map (declared_of e) ys)) m.2)

  -- ---- the loop over the entries

  -- an entry with a frame keeps the loop's invariant, with the frame appended
  pub frames_more : (fs : List (ℕ × Frame)) (es : List Entry) (i : ℕ) (a : Entry) (p : Option ℕ) (locals after stack : List JType) (place : ℕ) (frame : Frame) (total : Option (List (ℕ × Frame))) → i < length es → a ≡ slice_index_or es i a
      → option_map reached (next_listed e code p locals a) ≡ Some (record { place = place; locals = after; stack = stack }) → frame ≡ frame_with e.max_locals after stack
      → with_frames fs (framed e code p locals (drop i es)) ≡ total → with_frames (fs ++ (place, frame) ∷ []) (framed e code (Some place) after (drop (i + 1) es)) ≡ total
  frames_more fs es i a p locals after stack place frame total l h g f so_far =
      let rest = drop (i + 1) es in
      let d : ℕ × Frame = (place, frame) in
      let r = mapped reached (next_listed e code p locals a) (record { place = place; locals = after; stack = stack }) g in
      let x = r.0 in
      let here : declared_of e x ≡ d = ap (λ (y : Reached). (y.place, frame_with e.max_locals y.locals y.stack)) r.2 ∙ ap (λ (y : Frame). (place, y)) (sym f) in
      let next : framed e code (Some x.place) x.locals rest ≡ framed e code (Some place) after rest = ap (λ (y : Reached). framed e code (Some y.place) y.locals rest) r.2 in
      let whole : framed e code p locals (drop i es) ≡ option_map (λ ds. d ∷ ds) (framed e code (Some place) after rest) = rw (drop_at_item es i a l h, r.1, next, here) refl in
      sym (ap (with_frames fs) whole ∙ regrouped fs d (framed e code (Some place) after rest)) ∙ so_far

  -- an entry without a frame makes the result `None`
  pub frames_none : (fs : List (ℕ × Frame)) (es : List Entry) (i : ℕ) (a : Entry) (p : Option ℕ) (locals : List JType) (total : Option (List (ℕ × Frame))) → i < length es → a ≡ slice_index_or es i a
      → option_map reached (next_listed e code p locals a) ≡ None → with_frames fs (framed e code p locals (drop i es)) ≡ total → None ≡ total
  frames_none fs es i a p locals total l h f so_far =
      let none = unmapped reached (next_listed e code p locals a) f in
      let whole : framed e code p locals (drop i es) ≡ None = rw (drop_at_item es i a l h, none) refl in
      sym (ap (with_frames fs) whole) ∙ so_far

  pub frames_all : (fs : List (ℕ × Frame)) (es : List Entry) (i : ℕ) (p : Option ℕ) (locals : List JType) (total : Option (List (ℕ × Frame))) → length es ≤ i
      → with_frames fs (framed e code p locals (drop i es)) ≡ total → Some fs ≡ total
  frames_all fs es i p locals total l so_far =
      let whole : framed e code p locals (drop i es) ≡ Some [] = rw (drop_past es i l) refl in
      sym (ap (with_frames fs) whole ∙ ap (λ (gs : List (ℕ × Frame)). Some gs) (append-nil fs)) ∙ so_far
