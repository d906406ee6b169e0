-- The parse of the tables gives exactly the frames that they declare.
use Rattle.std.proofs.Common.{◌≡◌, ℕ, zero, suc, ◌-◌, ◌<◌, true, false, ltb, List, [], ◌∷◌, ◌++◌, length, get_or, Option, Some, None, Result, Ok, Err, refl, sym, ap, subst, ◌∙◌, append_assoc, arith}
use Rattle.std.specs.Prelude.{◌==◌}
use Rattle.std.proofs.lemmas.Bool.{eqb-true, le-ltb}
use Rattle.std.proofs.lemmas.List.{append-nil, nil_from_length, length-append, take_at, drop_at}
use Rattle.jtypes.specs.declared.refusal.Refusal.{Refusal}
use Rattle.jtypes.specs.declared.types.RefType.{RefType}
use Rattle.jtypes.specs.declared.types.JType.{JType}
use Rattle.jtypes.specs.Layout.{Layout, known, part_or, followed, judged, stopped, chosen, ended, many, number, IsLaidOut, first}
use Rattle.jtypes.proofs.Fit.{only_if_some, then_some_parts}
use Rattle.jtypes.proofs.Laws.{whole_found}
use Rattle.classfile.specs.View.{ClassView}
use Rattle.decode.specs.declared.instruction.Placed.{Placed}
use Rattle.frames.specs.Frames.{Frame}
use Rattle.frames.specs.declared.frame.Environment.{Environment}
use Rattle.frames.specs.declared.table.Declared.{Declared}
use Rattle.frames.specs.declared.table.Frames.{Frames}
use Rattle.frames.specs.Signatures.{constant_type}
use Rattle.frames.specs.declared.entries.Change.{Change}
use Rattle.frames.specs.declared.entries.Change.TheVariants.{Same, Chop}
use Rattle.frames.specs.declared.entries.Entry.{Entry}
use Rattle.frames.specs.StackMap.{object_type, class_item, stack_type, local_type, one_item, one_item_extended, with_delta, append, full, entry, table, place_after, declared_of, IsDeclared, without, with_table}
use Rattle.frames.specs.Reading.{whole, entries_of, next_listed, framed, frames_of}
use Rattle.frames.specs.Seen.{declared_seen, frames_seen, AreRead, AreInOrder}
use Rattle.frames.proofs.Framed.{mapped, listed_is, place_is, rest_of, framed_found, framed_again}

-- ---- the entries

pair_of : {A B : Type 0} (x y : A) (a b : B) → x ≡ y → a ≡ b → (let p : A × B = (x, a) in p ≡ (y, b))
pair_of x y a b p q = cc

pub entries_found : (v : ClassView) (content : List ℕ) (es : List Entry) → entries_of v content ≡ Some es → IsLaidOut (table v) content es
entries_found v content es h = go (first (table v) content) refl h
  where
    go : (read : Result (List Entry × List ℕ) Refusal) → first (table v) content ≡ read → whole read ≡ Some es → IsLaidOut (table v) content es
    go (Err r) e k = cc
    go (Ok x) e k =
        let p = only_if_some (length x.1 == 0) (Some x.0) es k in
        let none : x.1 ≡ [] = nil_from_length x.1 (eqb-true (length x.1) 0 p.0) in
        let same : Some x.0 ≡ Some es = p.1 in
        let value : x.0 ≡ es = cc same in
        whole_found (table v) content es (e ∙ ap (λ (y : List Entry × List ℕ). Ok y) (pair_of x.0 es x.1 [] value none))

-- `IsPlain l` holds if the layout has no `judged` and no `ended` part
abbrev IsPlain : {A : Type 0} → Layout A → Type 0
IsPlain (known x) = Unit {0}
IsPlain (part_or r n) = Unit {0}
IsPlain (followed {A = A} l f) = IsPlain l × ((x : A) → IsPlain (f x))
IsPlain (judged r b) = ⊥
IsPlain (stopped r) = Unit {0}
IsPlain (chosen b l m) = IsPlain l × IsPlain m
IsPlain ended = ⊥

-- a text that a plain layout lays out parses to its value, whatever text follows
read_back : {A : Type 0} (l : Layout A) (text rest : List ℕ) (v : A) → IsPlain l → IsLaidOut l text v → first l (text ++ rest) ≡ Ok (v, rest)
read_back (known x) text rest v p h = rw (h.0, h.1) refl
read_back (part_or r n) text rest v p h =
    let long : ltb (length (text ++ rest)) n ≡ false = le-ltb (length (text ++ rest)) n (omega (arith, length-append text rest, h.0)) in
    rw (long, take_at text rest n h.0, drop_at text rest n h.0, h.1) refl
read_back (followed l f) text rest v p (x, front, back, e, h, k) =
    let regrouped : text ++ rest ≡ front ++ (back ++ rest) = ap (λ (t : List ℕ). t ++ rest) e ∙ append_assoc front back rest in
    rw (regrouped, read_back l front (back ++ rest) x p.0 h) (read_back (f x) back rest v (p.1 x) k)
read_back (judged r b) text rest v p h = absurd p
read_back (stopped r) text rest v p h = absurd h
read_back (chosen true l m) text rest v p h = read_back l text rest v p.0 h
read_back (chosen false l m) text rest v p h = read_back m text rest v p.1 h
read_back ended text rest v p h = absurd p

plain_many : {A : Type 0} (n : ℕ) (l : Layout A) → IsPlain l → IsPlain (many n l)
unfolding many
plain_many zero l p = tt
plain_many (suc n) l p = (p, λ x. (plain_many n l p, λ xs. tt))

number_plain : (n : ℕ) → IsPlain (number n)
unfolding number
number_plain n = (tt, λ bytes. tt)

object_plain : (o : Option RefType) → IsPlain (object_type o)
unfolding object_type
object_plain None = tt
object_plain (Some r) = tt

class_plain : (v : ClassView) → IsPlain (class_item v)
unfolding class_item
class_plain v = (number_plain 2, λ i. object_plain (constant_type v i))

stack_plain : (v : ClassView) → IsPlain (stack_type v)
unfolding stack_type
stack_plain v = (number_plain 1, λ tag. (tt, (tt, (tt, (class_plain v, tt)))))

local_plain : (v : ClassView) → IsPlain (local_type v)
unfolding local_type
local_plain v = (number_plain 1, λ tag. (tt, (tt, (tt, (tt, (class_plain v, tt))))))

one_plain : (v : ClassView) (delta : ℕ) → IsPlain (one_item v delta)
unfolding one_item
one_plain v delta = (stack_plain v, λ t. tt)

extended_plain : (v : ClassView) → IsPlain (one_item_extended v)
unfolding one_item_extended
extended_plain v = (number_plain 2, λ delta. one_plain v delta)

delta_plain : (c : Change) → IsPlain (with_delta c)
unfolding with_delta
delta_plain c = (number_plain 2, λ delta. tt)

append_plain : (v : ClassView) (count : ℕ) → IsPlain (append v count)
unfolding append
append_plain v count = (number_plain 2, λ delta. (plain_many count (local_type v) (local_plain v), λ types. tt))

full_plain : (v : ClassView) → IsPlain (full v)
unfolding full
full_plain v =
    (number_plain 2, λ delta. (number_plain 2, λ l. (plain_many l (local_type v) (local_plain v), λ locals. (number_plain 2, λ s. (plain_many s (stack_type v) (stack_plain v), λ stack. tt)))))

entry_plain : (v : ClassView) → IsPlain (entry v)
unfolding entry
entry_plain v = (
  number_plain 1,
  λ kind.
      (tt, (one_plain v (kind - 64), (tt, (extended_plain v, (delta_plain (Chop (251 - kind)), (delta_plain Same, (append_plain v (kind - 251), full_plain v))))))),
)

table_plain : (v : ClassView) → IsPlain (table v)
unfolding table
table_plain v = (number_plain 2, λ count. plain_many count (entry v) (entry_plain v))

pub entries_again : (v : ClassView) (content : List ℕ) (es : List Entry) → IsLaidOut (table v) content es → entries_of v content ≡ Some es
entries_again v content es h =
    let read : first (table v) content ≡ Ok (es, []) = ap (first (table v)) (sym (append-nil content)) ∙ read_back (table v) content [] es (table_plain v) h in
    rw read refl

-- ---- the tables

pub declared_found : (v : ClassView) (e : Environment) (code : List Placed) (tables : List (List ℕ)) (ds : List (ℕ × Frame)) → Some ds ≡ frames_of v e code tables → IsDeclared v e code tables ds
declared_found v e code [] ds h = let is : ds ≡ [] = cc h in subst (λ (gs : List (ℕ × Frame)). IsDeclared v e code [] gs) (sym is) without
declared_found v e code (content ∷ []) ds h =
    let s = then_some_parts (framed e code None e.signature.params) (entries_of v content) ds (sym h) in
    let f = framed_found e code None e.signature.params s.0 ds s.2 in
    subst (λ (gs : List (ℕ × Frame)). IsDeclared v e code (content ∷ []) gs) (sym f.are) (with_table content s.0 f.frames (entries_found v content s.0 s.1) f.made f.roomy)
declared_found v e code (content ∷ (other ∷ more)) ds h = cc

pub declared_again : (v : ClassView) (e : Environment) (code : List Placed) (tables : List (List ℕ)) (ds : List (ℕ × Frame)) → IsDeclared v e code tables ds → frames_of v e code tables ≡ Some ds
declared_again v e code tables ds without = refl
declared_again v e code tables ds (with_table content entries frames laid made roomy) =
    rw (entries_again v content entries laid) (framed_again e code None e.signature.params entries frames made roomy)

pub none_declared : (v : ClassView) (e : Environment) (code : List Placed) (tables : List (List ℕ)) (ds : List (ℕ × Frame)) → None ≡ frames_of v e code tables → IsDeclared v e code tables ds → ⊥
none_declared v e code tables ds h d = let g = declared_again v e code tables ds d in cc (h, g)

-- ---- the order of the declared frames

-- `IsBehind p n` holds if `n` is above the pc before, if there is one
abbrev IsBehind : Option ℕ → ℕ → Type 0
IsBehind None n = Unit {0}
IsBehind (Some q) n = q < n

abbrev RisesBehind : Option ℕ → List (ℕ × Frame) → Type 0
RisesBehind p [] = Unit {0}
RisesBehind p (d ∷ ds) = IsBehind p d.0 × RisesBehind (Some d.0) ds

is_behind : (p : Option ℕ) (delta : ℕ) → IsBehind p (place_after p delta)
is_behind None delta = tt
is_behind (Some q) delta = omega arith

framed_rises : (e : Environment) (code : List Placed) (p : Option ℕ) (locals : List JType) (es : List Entry) (ds : List (ℕ × Frame)) → framed e code p locals es ≡ Some ds → RisesBehind p ds
framed_rises e code p locals [] ds h = let is : [] ≡ ds = cc h in subst (RisesBehind p) is tt
framed_rises e code p locals (a ∷ es) ds h =
    let s = then_some_parts (rest_of e code es) (next_listed e code p locals a) ds h in
    let x = s.0 in
    let t = mapped (λ gs. declared_of e x ∷ gs) (framed e code (Some x.place) x.locals es) ds s.2 in
    let place = place_is (place_after p a.delta) locals a.change x (listed_is e code p locals a x s.1).0 in
    subst (RisesBehind p) t.2 (subst (IsBehind p) (sym place) (is_behind p a.delta), framed_rises e code (Some x.place) x.locals es t.0 t.1)

later : (kept : List (List JType)) (q : ℕ) (ds : List Declared) → RisesBehind (Some q) (declared_seen kept ds) → (j : ℕ) (d : Declared) → j < length ds → q < (get_or ds j d).place
later kept q [] h j d l = absurd (omega arith)
later kept q (x ∷ ds) h zero d l = h.0
later kept q (x ∷ ds) h (suc j) d l = let m = later kept x.place ds h.1 j d (omega arith) in let n : q < x.place = h.0 in omega (arith, m, n)

rises : (kept : List (List JType)) (p : Option ℕ) (ds : List Declared) → RisesBehind p (declared_seen kept ds) → (i j : ℕ) (d : Declared) → i < j → j < length ds → (get_or ds i d).place < (get_or ds j d).place
rises kept p [] h i j d l m = absurd (omega arith)
rises kept p (x ∷ ds) h zero zero d l m = absurd (omega arith)
rises kept p (x ∷ ds) h zero (suc j) d l m = later kept x.place ds h.1 j d (omega arith)
rises kept p (x ∷ ds) h (suc i) zero d l m = absurd (omega arith)
rises kept p (x ∷ ds) h (suc i) (suc j) d l m = rises kept (Some x.place) ds h.1 i j d (omega arith) (omega arith)

tables_rise : (v : ClassView) (e : Environment) (code : List Placed) (tables : List (List ℕ)) (ds : List (ℕ × Frame)) → Some ds ≡ frames_of v e code tables → RisesBehind None ds
tables_rise v e code [] ds g = let is : [] ≡ ds = cc g in subst (RisesBehind None) is tt
tables_rise v e code (content ∷ []) ds g =
    let s = then_some_parts (framed e code None e.signature.params) (entries_of v content) ds (sym g) in
    framed_rises e code None e.signature.params s.0 ds s.2
tables_rise v e code (content ∷ (other ∷ more)) ds g = cc

pub in_order : (v : ClassView) (e : Environment) (code : List Placed) (tables : List (List ℕ)) (fs : Frames) → AreRead e fs → Some (frames_seen fs) ≡ frames_of v e code tables → AreInOrder fs.declared.items
in_order v e code tables fs r g = record { rise = rises fs.first.locals.kept None fs.declared.items (tables_rise v e code tables (frames_seen fs) g); fit = r.fit }

-- ---- the same tables declare the same frames

pub declared_once : (v : ClassView) (e : Environment) (code : List Placed) (tables : List (List ℕ)) (ds others : List (ℕ × Frame)) → IsDeclared v e code tables ds → IsDeclared v e code tables others → ds ≡ others
declared_once v e code tables ds others a b =
    let both : Some ds ≡ Some others = sym (declared_again v e code tables ds a) ∙ declared_again v e code tables others b in
    cc both
