-- The cells of a method are a table's costs, saturated.
use Rattle.std.proofs.Common.{◌≡◌, ◌≢◌, ℕ, zero, suc, ◌+◌, ◌-◌, ◌<◌, ◌≤◌, Bool, true, false, cond, eqb, List, [], ◌∷◌, length, drop, Option, Some, None, refl, sym, ap, ◌∙◌, subst, arith, inl, inr}
use Rattle.std.specs.Prelude.{slice_get, slice_set, ℤ, IsSome, is_some, ◌&&◌}
use Rattle.std.proofs.lemmas.Bool.{eqb-true, eqb-false, eq-eqb, ne_eqb}
use Rattle.std.proofs.lemmas.List.{length-set, length-replicate, get_or-set_same, get_or-set_other}
use Rattle.decode.specs.declared.instruction.Instruction.{Instruction}
use Rattle.decode.specs.declared.instruction.Instruction.TheVariants as instruction
use Rattle.decode.specs.declared.instruction.Placed.{Placed}
use Rattle.decode.specs.Places.{at_place, targets_in, IsTarget, falls_through, pushed_before}
use Rattle.decode.specs.Reading.{RisesFrom}
use Rattle.frames.specs.declared.frame.Environment.{Environment}
use Rattle.typecheck.specs.Typing.{Method, Class, instruction_at, call_of, own_of, own_number}
use Rattle.typecheck.specs.Calls.{AreRising, callee_in}
use Rattle.typecheck.specs.declared.typed.Called.{Called}
use Rattle.typecheck.specs.declared.typed.Typed.{Typed}
use Rattle.bounds.specs.Paths.{Cost, StandsAt, own_slots, words_at, last_cost, after_one, after_call, length_of}
use Rattle.bounds.specs.Table.{Costs, greater, place_of, cost_among, cost_through, cost_by, IsTable, LeadsOn}
use Rattle.bounds.specs.Cells.{Cell, cut, capped, no_path, either, one_before, call_before, slots_of, last_cell, words_by, cell_at, cell_at_target, cell_among, known_at, known_of, after_callee, cell_by, cells_of, size_by}
use Rattle.bounds.specs.Rows.{IsRowOf, AreKnown, IsCostOf, is_known, are_known}
use Rattle.bounds.proofs.Greatest.{some_is}

-- ---- saturation

abbrev cell : ℕ → ℕ → ℕ → ℕ → Cell
cell s w x d = record { steps = s; words = w; slots = x; depth = d }

pub same_cell : (a b : Cell) → a.steps ≡ b.steps → a.words ≡ b.words → a.slots ≡ b.slots → a.depth ≡ b.depth → a ≡ b
same_cell a b s w x d = ap (λ n. cell n a.words a.slots a.depth) s ∙ ap (λ n. cell b.steps n a.slots a.depth) w ∙ ap (λ n. cell b.steps b.words n a.depth) x ∙ ap (λ n. cell b.steps b.words b.slots n) d

return_is : (row : Typed) (m : Method) → own_slots m ≡ slots_of row → last_cell row ≡ capped (last_cost m)
return_is row m e = same_cell (last_cell row) (capped (last_cost m)) refl refl (ap cut (sym e)) refl

one_is : (w v : ℕ) (x : Cell) (k : Cost) → w ≡ cut v → x ≡ capped k → one_before w x ≡ capped (after_one v k)
one_is w v x k e h =
    let s : x.steps ≡ cut k.steps = ap (λ (y : Cell). y.steps) h in
    let u : x.words ≡ cut k.words = ap (λ (y : Cell). y.words) h in
    same_cell (one_before w x) (capped (after_one v k)) (omega (arith, s)) (omega (arith, e, u)) (ap (λ (y : Cell). y.slots) h) (ap (λ (y : Cell). y.depth) h)

either_is : (x y : Cell) (k l : Cost) → x ≡ capped k → y ≡ capped l → either x y ≡ capped (greater k l)
either_is x y k l e h =
    let s : x.steps ≡ cut k.steps = ap (λ (z : Cell). z.steps) e in
    let w : x.words ≡ cut k.words = ap (λ (z : Cell). z.words) e in
    let u : x.slots ≡ cut k.slots = ap (λ (z : Cell). z.slots) e in
    let d : x.depth ≡ cut k.depth = ap (λ (z : Cell). z.depth) e in
    let s' : y.steps ≡ cut l.steps = ap (λ (z : Cell). z.steps) h in
    let w' : y.words ≡ cut l.words = ap (λ (z : Cell). z.words) h in
    let u' : y.slots ≡ cut l.slots = ap (λ (z : Cell). z.slots) h in
    let d' : y.depth ≡ cut l.depth = ap (λ (z : Cell). z.depth) h in
    same_cell (either x y) (capped (greater k l)) (omega (arith, s, s')) (omega (arith, w, w')) (omega (arith, u, u')) (omega (arith, d, d'))

branch_is : (x y : Cell) (k l : Cost) → x ≡ capped k → y ≡ capped l → one_before 0 (either y x) ≡ capped (greater (after_one 0 k) (after_one 0 l))
branch_is x y k l e h =
    let s : x.steps ≡ cut k.steps = ap (λ (z : Cell). z.steps) e in
    let w : x.words ≡ cut k.words = ap (λ (z : Cell). z.words) e in
    let u : x.slots ≡ cut k.slots = ap (λ (z : Cell). z.slots) e in
    let d : x.depth ≡ cut k.depth = ap (λ (z : Cell). z.depth) e in
    let s' : y.steps ≡ cut l.steps = ap (λ (z : Cell). z.steps) h in
    let w' : y.words ≡ cut l.words = ap (λ (z : Cell). z.words) h in
    let u' : y.slots ≡ cut l.slots = ap (λ (z : Cell). z.slots) h in
    let d' : y.depth ≡ cut l.depth = ap (λ (z : Cell). z.depth) h in
    same_cell (one_before 0 (either y x)) (capped (greater (after_one 0 k) (after_one 0 l))) (omega (arith, s, s')) (omega (arith, w, w')) (omega (arith, u, u')) (omega (arith, d, d'))

call_is : (row : Typed) (m : Method) (x y : Cell) (e k : Cost) → own_slots m ≡ slots_of row → x ≡ capped e → y ≡ capped k → call_before (slots_of row) x y ≡ capped (after_call m e k)
call_is row m x y e k own h g =
    let s : x.steps ≡ cut e.steps = ap (λ (z : Cell). z.steps) h in
    let w : x.words ≡ cut e.words = ap (λ (z : Cell). z.words) h in
    let u : x.slots ≡ cut e.slots = ap (λ (z : Cell). z.slots) h in
    let d : x.depth ≡ cut e.depth = ap (λ (z : Cell). z.depth) h in
    let s' : y.steps ≡ cut k.steps = ap (λ (z : Cell). z.steps) g in
    let w' : y.words ≡ cut k.words = ap (λ (z : Cell). z.words) g in
    let u' : y.slots ≡ cut k.slots = ap (λ (z : Cell). z.slots) g in
    let d' : y.depth ≡ cut k.depth = ap (λ (z : Cell). z.depth) g in
    same_cell (call_before (slots_of row) x y) (capped (after_call m e k)) (omega (arith, s, s')) (omega (arith, w, w')) (omega (arith, own, u, u')) (omega (arith, d, d'))

-- ---- the calls

and_left : (a b : Bool) → a && b ≡ true → a ≡ true
and_left true b e = refl
and_left false b e = cc

and_right : (a b : Bool) → a && b ≡ true → b ≡ true
and_right true b e = e
and_right false b e = cc

-- if the costs of all callees are known, so is that of each call's
each_known : (known : List (Option Cell)) (calls : List Called) → are_known known calls ≡ true → (place : ℕ) → is_known known (own_of (callee_in calls place)) ≡ true
each_known known [] all place = refl
each_known known (x ∷ calls) all place = go (each_known known calls (and_right (is_known known (own_number x.callee.reached)) (are_known known calls) all) place) (eqb x.place place)
  where
    go : is_known known (own_of (callee_in calls place)) ≡ true → (b : Bool) → is_known known (own_of (cond b (Some x.callee) (callee_in calls place))) ≡ true
    go others true = and_left (is_known known (own_number x.callee.reached)) (are_known known calls) all
    go others false = others

-- ---- one instruction

module _ (c : Class) (t : Costs) (row : Typed) (m : Method) (own : own_slots m ≡ slots_of row) (code : m.code ≡ row.code) (known : List (Option Cell)) (right : AreKnown t known) where
  callee_is : (p : Placed) (next : Cell) (o : Option ℕ) → is_known known o ≡ true → words_at m p.place p.instruction ≡ 0 → next ≡ capped (t row.number p.next) → after_callee row next (known_of known o) ≡ capped (cost_through t m row.number p.place p o)
  callee_is p next None is none h = one_is 0 (words_at m p.place p.instruction) next (t row.number p.next) (omega (arith, none)) h
  callee_is p next (Some k) is none h = go (known_at known k) refl is
    where
      go : (o : Option Cell) → known_at known k ≡ o → is_some o ≡ true → after_callee row next o ≡ capped (after_call m (t k 0) (t row.number p.next))
      go None e f = cc
      go (Some x) e f = call_is row m x next (t k 0) (t row.number p.next) own (right.each k x e) h

  words_are : (place : ℕ) (i : Instruction) → words_by row place i ≡ cut (words_at m place i)
  words_are place (instruction.NewArray k) = ap (λ (l : List Placed). cut (suc (length_of (pushed_before l place)))) (sym code)
  words_are place (instruction.Goto z) = refl
  words_are place (instruction.Branch a z) = refl
  words_are place (instruction.Switch z s) = refl
  words_are place (instruction.Return k) = refl
  words_are place instruction.ReturnVoid = refl
  words_are place (instruction.Throw x text) = refl
  words_are place instruction.Nop = refl
  words_are place (instruction.Push x) = refl
  words_are place (instruction.Load k x) = refl
  words_are place (instruction.Store k x) = refl
  words_are place (instruction.Increment x by) = refl
  words_are place (instruction.Operate o) = refl
  words_are place (instruction.Rearrange r) = refl
  words_are place (instruction.Invoke k x) = refl
  words_are place (instruction.ArrayLoad k) = refl
  words_are place (instruction.ArrayStore k) = refl
  words_are place instruction.ReferenceLoad = refl
  words_are place instruction.ArrayLength = refl
  words_are place (instruction.CheckCast x) = refl
  words_are place (instruction.InstanceOf x) = refl

  -- an instruction that costs words and one step
  plain_is : (p : Placed) (i : Instruction) (cells : List Cell) → p.instruction ≡ i → cell_at cells p.next ≡ capped (t row.number p.next) → one_before (words_by row p.place i) (cell_at cells p.next) ≡ capped (after_one (words_at m p.place p.instruction) (t row.number p.next))
  plain_is p i cells e h = one_is (words_by row p.place i) (words_at m p.place p.instruction) (cell_at cells p.next) (t row.number p.next) (words_are p.place i ∙ ap (λ (x : Instruction). cut (words_at m p.place x)) (sym e)) h

  -- the maximum over a switch's targets is the table's, saturated
  among_is : (cells : List Cell) (zs : List ℤ) (x : Cell) (k : Cost) → x ≡ capped k → ((n : ℕ) (z : ℤ) → slice_get zs n ≡ Some z → cell_at_target cells z ≡ capped (t row.number (place_of z))) → cell_among cells zs x ≡ capped (cost_among t row.number zs k)
  among_is cells [] x k e each = e
  among_is cells (z ∷ zs) x k e each =
      either_is (cell_at_target cells z) (cell_among cells zs x) (t row.number (place_of z)) (cost_among t row.number zs k) (each 0 z refl) (among_is cells zs x k e (λ n y f. each (suc n) y f))

  row_is : (p : Placed) (i : Instruction) (cells : List Cell) → p.instruction ≡ i
      → (falls_through i ≡ true → cell_at cells p.next ≡ capped (t row.number p.next))
      → ((z : ℤ) → IsTarget i z → cell_at_target cells z ≡ capped (t row.number (place_of z)))
      → call_of c.view i ≡ own_of (callee_in row.calls.items p.place) → is_known known (own_of (callee_in row.calls.items p.place)) ≡ true
      → cell_by row p cells known i ≡ capped (cost_by c t m row.number p.place p i)
  row_is p (instruction.Return k) cells e next target call is = return_is row m own
  row_is p instruction.ReturnVoid cells e next target call is = return_is row m own
  row_is p (instruction.Throw x text) cells e next target call is = return_is row m own
  row_is p (instruction.Goto z) cells e next target call is = one_is 0 0 (cell_at_target cells z) (t row.number (place_of z)) refl (target z (inl refl))
  row_is p (instruction.Branch a z) cells e next target call is = branch_is (cell_at cells p.next) (cell_at_target cells z) (t row.number p.next) (t row.number (place_of z)) (next refl) (target z (inl refl))
  row_is p (instruction.Switch z s) cells e next target call is =
      one_is 0 0 (cell_among cells (targets_in s) (cell_at_target cells z)) (cost_among t row.number (targets_in s) (t row.number (place_of z))) refl
      (among_is cells (targets_in s) (cell_at_target cells z) (t row.number (place_of z)) (target z (inl refl)) (λ n y f. target y (inr (n, f))))
  row_is p (instruction.Invoke k x) cells e next target call is =
      callee_is p (cell_at cells p.next) (own_of (callee_in row.calls.items p.place)) is (ap (λ (y : Instruction). words_at m p.place y) e) (next refl)
      ∙ ap (λ (o : Option ℕ). capped (cost_through t m row.number p.place p o)) (sym call)
  row_is p (instruction.NewArray k) cells e next target call is = plain_is p (instruction.NewArray k) cells e (next refl)
  row_is p instruction.Nop cells e next target call is = plain_is p instruction.Nop cells e (next refl)
  row_is p (instruction.Push x) cells e next target call is = plain_is p (instruction.Push x) cells e (next refl)
  row_is p (instruction.Load k x) cells e next target call is = plain_is p (instruction.Load k x) cells e (next refl)
  row_is p (instruction.Store k x) cells e next target call is = plain_is p (instruction.Store k x) cells e (next refl)
  row_is p (instruction.Increment x by) cells e next target call is = plain_is p (instruction.Increment x by) cells e (next refl)
  row_is p (instruction.Operate o) cells e next target call is = plain_is p (instruction.Operate o) cells e (next refl)
  row_is p (instruction.Rearrange r) cells e next target call is = plain_is p (instruction.Rearrange r) cells e (next refl)
  row_is p (instruction.ArrayLoad k) cells e next target call is = plain_is p (instruction.ArrayLoad k) cells e (next refl)
  row_is p (instruction.ArrayStore k) cells e next target call is = plain_is p (instruction.ArrayStore k) cells e (next refl)
  row_is p instruction.ReferenceLoad cells e next target call is = plain_is p instruction.ReferenceLoad cells e (next refl)
  row_is p instruction.ArrayLength cells e next target call is = plain_is p instruction.ArrayLength cells e (next refl)
  row_is p (instruction.CheckCast x) cells e next target call is = plain_is p (instruction.CheckCast x) cells e (next refl)
  row_is p (instruction.InstanceOf x) cells e next target call is = plain_is p (instruction.InstanceOf x) cells e (next refl)

-- ---- the last pc

last_at : (q : ℕ) (code : List Placed) (n : ℕ) → RisesFrom q code → length code ≡ suc n → (x : ℕ) (p : Placed) → at_place code x ≡ Some p → (l : Placed) × (slice_get code n ≡ Some l) × (x ≤ l.place)
last_at q [] n rising many x p e = cc
last_at q (y ∷ []) zero rising many x p e = (y, refl, go (eqb y.place x) refl e)
  where
    go : (b : Bool) → eqb y.place x ≡ b → cond b (Some y) None ≡ Some p → x ≤ y.place
    go true is f = let same : y.place ≡ x = eqb-true y.place x is in omega (arith, same)
    go false is f = cc
last_at q (y ∷ []) (suc n) rising many x p e = absurd (omega (arith, many))
last_at q (y ∷ z ∷ zs) zero rising many x p e = absurd (omega (arith, many))
last_at q (y ∷ z ∷ zs) (suc n) (first, up, fits, rising) many x p e = go (last_at y.next (z ∷ zs) n rising (omega (arith, many))) (eqb y.place x) refl e
  where
    go : ((x : ℕ) (p : Placed) → at_place (z ∷ zs) x ≡ Some p → (l : Placed) × (slice_get (z ∷ zs) n ≡ Some l) × (x ≤ l.place)) → (b : Bool) → eqb y.place x ≡ b → cond b (Some y) (at_place (z ∷ zs) x) ≡ Some p → (l : Placed) × (slice_get (z ∷ zs) n ≡ Some l) × (x ≤ l.place)
    go behind true is f =
        let same : y.place ≡ x = eqb-true y.place x is in
        let later = behind z.place z (ap (λ (b : Bool). cond b (Some z) (at_place zs z.place)) (eq-eqb z.place z.place refl)) in
        let far : z.place ≤ later.0.place = later.2 in
        let start : z.place ≡ y.next = rising.0 in
        (later.0, later.1, omega (arith, same, far, start, up))
    go behind false is f = behind x p f

-- each pc is below the size
pub below_size : (code : List Placed) → RisesFrom 0 code → (x : ℕ) (p : Placed) → at_place code x ≡ Some p → x < size_by (slice_get code (length code - 1))
below_size [] rising x p e = cc
below_size (y ∷ ys) rising x p e =
    let short : length (y ∷ ys) - 1 ≡ length ys = omega arith in
    let l = last_at 0 (y ∷ ys) (length ys) rising refl x p e in
    let high : x ≤ l.0.place = l.2 in
    let size : size_by (slice_get (y ∷ ys) (length (y ∷ ys) - 1)) ≡ suc l.0.place = ap (λ (n : ℕ). size_by (slice_get (y ∷ ys) n)) short ∙ ap size_by l.1 in
    omega (arith, high, size)

length_is : (row : Typed) (known : List (Option Cell)) (size : ℕ) (code : List Placed) → length (cells_of row known size code) ≡ size
length_is row known size [] = length-replicate size no_path
length_is row known size (p ∷ code) = length-set (cells_of row known size code) p.place (cell_by row p (cells_of row known size code) known p.instruction) ∙ length_is row known size code

-- ---- the whole method

module _ (c : Class) (set : ℕ → Bool) (on : LeadsOn c set) (t : Costs) (table : IsTable c set t) (row : Typed) (is : IsRowOf c row) (member : set row.number ≡ true) (known : List (Option Cell)) (right : AreKnown t known) (ready : are_known known row.calls.items ≡ true) (size : ℕ) where
  abbrev m : Method
  m = is.method.0

  own : own_slots m ≡ slots_of row
  own = ap (λ (e : Environment). e.max_locals + e.max_stack) is.method.2

  abbrev AreCells : List Placed → Type 0
  AreCells rest = (x : ℕ) (p : Placed) → at_place rest x ≡ Some p → cell_at (cells_of row known size rest) x ≡ capped (t row.number x)

  in_method : (x : ℕ) (o : Option Placed) → at_place row.code x ≡ o → instruction_at m x ≡ o
  in_method x o e = ap (λ (l : List Placed). at_place l x) is.method.3 ∙ e

  in_row : (x : ℕ) → IsSome (instruction_at m x) → (p : Placed) × (at_place row.code x ≡ Some p)
  in_row x h = let y = some_is (instruction_at m x) h in (y.0, ap (λ (l : List Placed). at_place l x) (sym is.method.3) ∙ y.1)

  -- the cell of an instruction is the table's cost, if the cells after it are
  put_is : (p : Placed) (rest : List Placed) → at_place row.code p.place ≡ Some p → ((x : ℕ) → p.place < x → at_place row.code x ≡ at_place rest x) → AreCells rest → cell_by row p (cells_of row known size rest) known p.instruction ≡ capped (t row.number p.place)
  put_is p rest here behind cells =
      let s : StandsAt c row.number p.place m p = record { method = is.method.1; instruction = in_method p.place (Some p) here } in
      row_is c t row m own is.method.3 known right p p.instruction (cells_of row known size rest) refl
      (λ e. let to = on.next row.number p.place m p member s e in let y = in_row p.next to.1 in cells p.next y.0 (sym (behind p.next to.0) ∙ y.1))
      (λ z e.
      let to = on.target row.number p.place m p z member s e in
      let y = in_row to.0 to.3 in
      let goes : cell_at (cells_of row known size rest) to.0 ≡ capped (t row.number to.0) = cells to.0 y.0 (sym (behind to.0 to.2) ∙ y.1) in
      subst (λ (w : ℤ). cell_at_target (cells_of row known size rest) w ≡ capped (t row.number (place_of w))) (sym to.1) goes)
      (is.calls p.place p here)
      (each_known known row.calls.items ready p.place)
      ∙ ap capped (sym (table row.number p.place m p member s))

  first_stands : (y : Placed) (rest : List Placed) → at_place (y ∷ rest) y.place ≡ Some y
  first_stands y rest = ap (λ (b : Bool). cond b (Some y) (at_place rest y.place)) (eq-eqb y.place y.place refl)

  later_stands : (y : Placed) (rest : List Placed) (z : ℕ) → y.place < z → at_place (y ∷ rest) z ≡ at_place rest z
  later_stands y rest z l = let other : y.place ≡ z → ⊥ = λ f. omega (arith, f, l) in ap (λ (b : Bool). cond b (Some y) (at_place rest z)) (ne_eqb y.place z other)

  rest_below : (y : Placed) (rest : List Placed) → ((x : ℕ) (p : Placed) → at_place (y ∷ rest) x ≡ Some p → x < size) → (z : ℕ) (w : Placed) → at_place rest z ≡ Some w → z < size
  rest_below y rest below z w f = go (eqb y.place z) refl
    where
      go : (b : Bool) → eqb y.place z ≡ b → z < size
      go true i = let k = below y.place y (first_stands y rest) in let j : y.place ≡ z = eqb-true y.place z i in omega (arith, k, j)
      go false i = below z w (ap (λ (b : Bool). cond b (Some y) (at_place rest z)) i ∙ f)

  -- the claim for another instruction, after its cell is written
  put_cells : (y : Placed) (rest : List Placed) → y.place < size → cell_by row y (cells_of row known size rest) known y.instruction ≡ capped (t row.number y.place) → AreCells rest → AreCells (y ∷ rest)
  put_cells y rest below value cells x p e = go (eqb y.place x) refl e
    where
      go : (b : Bool) → eqb y.place x ≡ b → cond b (Some y) (at_place rest x) ≡ Some p → cell_at (slice_set (cells_of row known size rest) y.place (cell_by row y (cells_of row known size rest) known y.instruction)) x ≡ capped (t row.number x)
      go true i f =
          let at : y.place ≡ x = eqb-true y.place x i in
          let within : y.place < length (cells_of row known size rest) = let n = length_is row known size rest in omega (arith, below, n) in
          subst (λ (z : ℕ). cell_at (slice_set (cells_of row known size rest) y.place (cell_by row y (cells_of row known size rest) known y.instruction)) z ≡ capped (t row.number z)) at
          (get_or-set_same (cells_of row known size rest) y.place (cell_by row y (cells_of row known size rest) known y.instruction) no_path within ∙ value)
      go false i f =
          let other : x ≢ y.place = λ k. eqb-false y.place x i (sym k) in
          get_or-set_other (cells_of row known size rest) y.place x (cell_by row y (cells_of row known size rest) known y.instruction) no_path other ∙ cells x p f

  filled : (q : ℕ) (rest : List Placed) → RisesFrom q rest → ((x : ℕ) → q ≤ x → at_place row.code x ≡ at_place rest x) → ((x : ℕ) (p : Placed) → at_place rest x ≡ Some p → x < size) → AreCells rest
  filled q [] rising same below = λ x p e. cc
  filled q (y ∷ rest) (first, up, fits, rising) same below =
      let behind : (z : ℕ) → y.place < z → at_place row.code z ≡ at_place rest z = λ z l. same z (omega (arith, first, l)) ∙ later_stands y rest z l in
      let here : at_place row.code y.place ≡ Some y = same y.place (omega (arith, first)) ∙ first_stands y rest in
      let cells : AreCells rest = filled y.next rest rising (λ z l. behind z (omega (arith, l, up))) (rest_below y rest below) in
      put_cells y rest (below y.place y (first_stands y rest)) (put_is y rest here behind cells) cells

-- the cell at the start of a method is the table's cost, when all cells are filled
pub start_is : (c : Class) (set : ℕ → Bool) (t : Costs) (row : Typed) (known : List (Option Cell)) → LeadsOn c set → IsTable c set t → IsRowOf c row → set row.number ≡ true → AreKnown t known → are_known known row.calls.items ≡ true → RisesFrom 0 row.code
    → cell_at (cells_of row known (size_by (slice_get row.code (length row.code - 1))) row.code) 0 ≡ capped (t row.number 0)
start_is c set t row known on table is member right ready rising =
    let y = some_is (at_place row.code 0) is.starts in
    filled c set on t table row is member known right ready (size_by (slice_get row.code (length row.code - 1))) 0 row.code rising (λ x l. refl) (below_size row.code rising) 0 y.0 y.1

-- the same for the list that a loop fills
pub cost_is : (row : Typed) (known : List (Option Cell)) (code : List Placed) (cells : List Cell) (left : ℕ) (x : Cell) → code ≡ row.code → RisesFrom 0 row.code → left ≤ 0 → (AreRising row.calls.items → cells ≡ cells_of row known (size_by (slice_get row.code (length row.code - 1))) (drop left code)) → x ≡ cell_at cells 0 → IsCostOf row known x
cost_is row known code cells left x same rising none filling at c set t on table is member right ready =
    let start : left ≡ 0 = omega (arith, none) in
    let whole : drop left code ≡ row.code = ap (λ (n : ℕ). drop n code) start ∙ same in
    at ∙ ap (λ (l : List Cell). cell_at l 0) (filling is.rising ∙ ap (cells_of row known (size_by (slice_get row.code (length row.code - 1)))) whole) ∙ start_is c set t row known on table is member right ready rising
