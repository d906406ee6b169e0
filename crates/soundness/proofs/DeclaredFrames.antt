-- No declared frame has `Top` on its operand stack.
use Rattle.std.proofs.Common.{◌≡◌, ℕ, zero, suc, ◌-◌, Bool, true, false, List, [], ◌∷◌, length, reverse, Option, Some, None, refl, sym, subst}
use Rattle.std.specs.Prelude.{map, option_map, cond, ◌==◌, nat_le}
use mathlib.Core.List.{reverse_aux}
use Rattle.jtypes.specs.declared.types.RefType.{RefType}
use Rattle.jtypes.specs.declared.types.JType.{JType}
use Rattle.jtypes.specs.declared.types.JType.TheVariants.{Top, Int, Long, Null, Ref}
use Rattle.jtypes.specs.Layout.{Layout, known, stopped, chosen, many, IsLaidOut}
use Rattle.jtypes.specs.declared.refusal.Refusal.TheVariants.{BadStackMap}
use Rattle.jtypes.proofs.Fit.{only_if_some}
use Rattle.classfile.specs.View.{ClassView}
use Rattle.decode.specs.declared.instruction.Placed.{Placed}
use Rattle.frames.specs.Signatures.{constant_type}
use Rattle.frames.specs.declared.frame.Environment.{Environment}
use Rattle.frames.specs.Frames.{Frame, frame_in}
use Rattle.frames.specs.declared.entries.Change.{Change}
use Rattle.frames.specs.declared.entries.Change.TheVariants.{Same, OneItem, Chop, Append, Full}
use Rattle.frames.specs.declared.entries.Entry.{Entry}
use Rattle.frames.specs.StackMap.{object_type, class_item, stack_type, entry_of, one_item, one_item_extended, with_delta, append, full, entry, table, Listed, place_after, frame_of_change, then_rest, frames_from, declared_of, IsDeclared, without, with_table}
use Rattle.verdict.specs.Checked.{NoTop}

reversed_aux : (ts us : List JType) → NoTop ts → NoTop us → NoTop (reverse_aux ts us)
reversed_aux [] us h k = k
reversed_aux (t ∷ ts) us h k = reversed_aux ts (t ∷ us) h.1 (h.0, k)

reversed : (ts : List JType) → NoTop ts → NoTop (reverse ts)
reversed ts h = reversed_aux ts [] h tt

either : {A : Type 0} {P : Type 0} (b : Bool) (l m : Layout A) (text : List ℕ) (x : A) → (IsLaidOut l text x → P) → (IsLaidOut m text x → P) → IsLaidOut (chosen b l m) text x → P
either true l m text x f g h = f h
either false l m text x f g h = g h

object_ok : (o : Option RefType) (text : List ℕ) (t : JType) → IsLaidOut (object_type o) text t → t ≡ Top → ⊥
unfolding object_type
object_ok None text t h e = absurd h
object_ok (Some r) text t h e = let is : t ≡ Ref r = h.1 in cc (is, e)

class_ok : (v : ClassView) (text : List ℕ) (t : JType) → IsLaidOut (class_item v) text t → t ≡ Top → ⊥
unfolding class_item
class_ok v text t h = object_ok (constant_type v h.0) h.2 t h.5

abbrev item_7 : ClassView → ℕ → Layout JType
item_7 v tag = chosen (tag == 7) (class_item v) (stopped BadStackMap)

abbrev item_5 : ClassView → ℕ → Layout JType
item_5 v tag = chosen (tag == 5) (known Null) (item_7 v tag)

abbrev item_4 : ClassView → ℕ → Layout JType
item_4 v tag = chosen (tag == 4) (known Long) (item_5 v tag)

stack_ok : (v : ClassView) (text : List ℕ) (t : JType) → IsLaidOut (stack_type v) text t → t ≡ Top → ⊥
unfolding stack_type
stack_ok v text t h e =
    either (h.0 == 1) (known Int) (item_4 v h.0) h.2 t (λ a. let is : t ≡ Int = a.1 in cc (is, e))
    (either (h.0 == 4) (known Long) (item_5 v h.0) h.2 t (λ a. let is : t ≡ Long = a.1 in cc (is, e))
    (either (h.0 == 5) (known Null) (item_7 v h.0) h.2 t (λ a. let is : t ≡ Null = a.1 in cc (is, e))
    (either (h.0 == 7) (class_item v) (stopped BadStackMap) h.2 t (λ a. class_ok v h.2 t a e) (λ a. absurd a)))) h.5

abbrev ChangeOk : Change → Type 0
ChangeOk (OneItem t) = t ≡ Top → ⊥
ChangeOk (Full locals stack) = NoTop stack
ChangeOk Same = Unit {0}
ChangeOk (Chop n) = Unit {0}
ChangeOk (Append types) = Unit {0}

abbrev EntryOk : Entry → Type 0
EntryOk e = ChangeOk e.change

many_ok : (v : ClassView) (n : ℕ) (text : List ℕ) (ts : List JType) → IsLaidOut (many n (stack_type v)) text ts → NoTop ts
unfolding many
many_ok v zero text ts h = subst NoTop (sym h.1) tt
many_ok v (suc n) text ts h =
    let rest = h.5 in
    subst NoTop (sym rest.5.1) (stack_ok v h.1 h.0 h.4, many_ok v n rest.1 rest.0 rest.4)

one_ok : (v : ClassView) (delta : ℕ) (text : List ℕ) (e : Entry) → IsLaidOut (one_item v delta) text e → EntryOk e
unfolding one_item
one_ok v delta text e h = subst EntryOk (sym h.5.1) (stack_ok v h.1 h.0 h.4)

extended_ok : (v : ClassView) (text : List ℕ) (e : Entry) → IsLaidOut (one_item_extended v) text e → EntryOk e
unfolding one_item_extended
extended_ok v text e h = one_ok v h.0 h.2 e h.5

delta_ok : (c : Change) (text : List ℕ) (e : Entry) → ChangeOk c → IsLaidOut (with_delta c) text e → EntryOk e
unfolding with_delta
delta_ok c text e n h = subst EntryOk (sym h.5.1) n

append_ok : (v : ClassView) (count : ℕ) (text : List ℕ) (e : Entry) → IsLaidOut (append v count) text e → EntryOk e
unfolding append
append_ok v count text e h = subst EntryOk (sym h.5.5.1) tt

full_ok : (v : ClassView) (text : List ℕ) (e : Entry) → IsLaidOut (full v) text e → EntryOk e
unfolding full
full_ok v text e h =
    let s = h.5.5.5.5.5 in
    let m = h.5.5.5.5 in
    subst EntryOk (sym s.1) (many_ok v h.5.5.5.0 m.1 m.0 m.4)

abbrev from_254 : ClassView → ℕ → Layout Entry
from_254 v kind = chosen (nat_le kind 254) (append v (kind - 251)) (full v)

abbrev from_251 : ClassView → ℕ → Layout Entry
from_251 v kind = chosen (kind == 251) (with_delta Same) (from_254 v kind)

abbrev from_250 : ClassView → ℕ → Layout Entry
from_250 v kind = chosen (nat_le kind 250) (with_delta (Chop (251 - kind))) (from_251 v kind)

abbrev from_247 : ClassView → ℕ → Layout Entry
from_247 v kind = chosen (kind == 247) (one_item_extended v) (from_250 v kind)

abbrev from_246 : ClassView → ℕ → Layout Entry
from_246 v kind = chosen (nat_le kind 246) (stopped BadStackMap) (from_247 v kind)

abbrev from_127 : ClassView → ℕ → Layout Entry
from_127 v kind = chosen (nat_le kind 127) (one_item v (kind - 64)) (from_246 v kind)

entry_ok : (v : ClassView) (text : List ℕ) (e : Entry) → IsLaidOut (entry v) text e → EntryOk e
unfolding entry
entry_ok v text e h =
    either (nat_le h.0 63) (known (entry_of h.0 Same)) (from_127 v h.0) h.2 e (λ a. subst EntryOk (sym a.1) tt)
    (either (nat_le h.0 127) (one_item v (h.0 - 64)) (from_246 v h.0) h.2 e (one_ok v (h.0 - 64) h.2 e)
    (either (nat_le h.0 246) (stopped BadStackMap) (from_247 v h.0) h.2 e (λ a. absurd a)
    (either (h.0 == 247) (one_item_extended v) (from_250 v h.0) h.2 e (extended_ok v h.2 e)
    (either (nat_le h.0 250) (with_delta (Chop (251 - h.0))) (from_251 v h.0) h.2 e (delta_ok (Chop (251 - h.0)) h.2 e tt)
    (either (h.0 == 251) (with_delta Same) (from_254 v h.0) h.2 e (delta_ok Same h.2 e tt)
    (either (nat_le h.0 254) (append v (h.0 - 251)) (full v) h.2 e (append_ok v (h.0 - 251) h.2 e) (full_ok v h.2 e))))))) h.5

abbrev EachOk : List Entry → Type 0
EachOk [] = Unit {0}
EachOk (e ∷ es) = EntryOk e × EachOk es

entries_ok : (v : ClassView) (n : ℕ) (text : List ℕ) (es : List Entry) → IsLaidOut (many n (entry v)) text es → EachOk es
unfolding many
entries_ok v zero text es h = subst EachOk (sym h.1) tt
entries_ok v (suc n) text es h =
    let rest = h.5 in
    subst EachOk (sym rest.5.1) (entry_ok v h.1 h.0 h.4, entries_ok v n rest.1 rest.0 rest.4)

table_ok : (v : ClassView) (text : List ℕ) (es : List Entry) → IsLaidOut (table v) text es → EachOk es
unfolding table
table_ok v text es h = entries_ok v h.0 h.2 es h.5

abbrev EachListed : List Listed → Type 0
EachListed [] = Unit {0}
EachListed (x ∷ xs) = NoTop x.stack × EachListed xs

change_listed : (place : ℕ) (locals : List JType) (c : Change) (x : Listed) → frame_of_change place locals c ≡ Some x → ChangeOk c → NoTop x.stack
change_listed place locals Same x e n = let is : [] ≡ x.stack = cc e in subst NoTop is tt
change_listed place locals (OneItem t) x e n = let is : t ∷ [] ≡ x.stack = cc e in subst NoTop is (n, tt)
change_listed place locals (Chop k) x e n = let f = only_if_some (nat_le k (length locals)) _ x e in let is : [] ≡ x.stack = cc f.1 in subst NoTop is tt
change_listed place locals (Append types) x e n = let is : [] ≡ x.stack = cc e in subst NoTop is tt
change_listed place locals (Full new stack) x e n = let is : stack ≡ x.stack = cc e in subst NoTop is n

frames_listed : (p : Option ℕ) (locals : List JType) (es : List Entry) (xs : List Listed) → frames_from p locals es ≡ Some xs → EachOk es → EachListed xs
frames_listed p locals [] xs e n = let is : [] ≡ xs = cc e in subst EachListed is tt
frames_listed p locals (a ∷ es) xs e n =
    go (frame_of_change (place_after p a.delta) locals a.change) refl (λ x ys k. frames_listed (Some x.place) x.locals es ys k n.1) e
  where
    tail : (x : Listed) → NoTop x.stack → (o : Option (List Listed)) → ((ys : List Listed) → o ≡ Some ys → EachListed ys) → option_map (λ ys. x ∷ ys) o ≡ Some xs → EachListed xs
    tail x k None later f = cc
    tail x k (Some ys) later f = let is : x ∷ ys ≡ xs = cc f in subst EachListed is (k, later ys refl)

    go : (o : Option Listed) → frame_of_change (place_after p a.delta) locals a.change ≡ o → ((x : Listed) (ys : List Listed) → frames_from (Some x.place) x.locals es ≡ Some ys → EachListed ys) → then_rest o (λ x. frames_from (Some x.place) x.locals es) ≡ Some xs → EachListed xs
    go None h later f = cc
    go (Some x) h later f = tail x (change_listed (place_after p a.delta) locals a.change x h n.0) (frames_from (Some x.place) x.locals es) (later x) f

frame_listed : (e : Environment) (xs : List Listed) (p : ℕ) (d : Frame) → EachListed xs → frame_in (map (declared_of e) xs) p ≡ Some d → NoTop d.stack
frame_listed e [] p d n h = cc
frame_listed e (x ∷ xs) p d n h = go (frame_listed e xs p d n.1) (x.place == p) h
  where
    go : (frame_in (map (declared_of e) xs) p ≡ Some d → NoTop d.stack) → (b : Bool) → cond b (Some (declared_of e x).1) (frame_in (map (declared_of e) xs) p) ≡ Some d → NoTop d.stack
    go later true f = let is : (declared_of e x).1 ≡ d = cc f in subst (λ (y : Frame). NoTop y.stack) is (reversed x.stack n.0)
    go later false f = later f

pub declared_has_no_top : (v : ClassView) (e : Environment) (code : List Placed) (tables : List (List ℕ)) (ds : List (ℕ × Frame)) → IsDeclared v e code tables ds → (p : ℕ) (d : Frame) → frame_in ds p ≡ Some d → NoTop d.stack
declared_has_no_top v e code tables ds without p d h = cc
declared_has_no_top v e code tables ds (with_table content entries frames laid made roomy) p d h =
    frame_listed e frames p d (frames_listed None e.signature.params entries frames made (table_ok v content entries laid)) h
