-- The starts of methods and the points after a point, as the code finds them.
use Rattle.std.proofs.Common.{◌≡◌, ℕ, ◌<◌, Bool, true, false, not, eqb, eqb-true, eq-eqb, ◌&&◌, ◌⊎◌, inl, inr, List, [], ◌∷◌, ◌++◌, length, get_or, map, Option, Some, None, refl, sym, ap, ◌∙◌, subst, arith}
use Rattle.std.specs.Prelude.{◌==◌, slice_get, Result, Ok, Err, IfOk, MatchOption, Vec}
use Rattle.std.specs.declared.alloc.Global.{Global}
use Rattle.std.specs.declared.alloc.AllocError.{AllocError}
use Rattle.std.proofs.lemmas.Option.{slice_get-get_or}
use Rattle.decode.specs.declared.instruction.Placed.{Placed}
use Rattle.decode.specs.Places.{at_place, is_return}
use Rattle.frames.specs.declared.members.Callee.{Callee}
use Rattle.frames.specs.declared.frame.Environment.{Environment}
use Rattle.typecheck.specs.Typing.{Method, Class, instruction_at, call_of, own_of}
use Rattle.typecheck.specs.Calls.{called_by, callee_in}
use Rattle.typecheck.specs.declared.typed.Typed.{Typed}
use Rattle.unrolled.specs.Known.{Known}
use Rattle.unrolled.specs.Graph.{Node, Following, successors, entered, taken, arguments_by}
use Rattle.unrolled.specs.Rules.{rules_of}
use Rattle.unrolled.specs.Certificates.{Point, leads_on}
use Rattle.unrolled.proofs.Lists.{in_parts, unmapped}
use Rattle.search.specs.declared.node.Following as plain
use Rattle.search.specs.declared.point.Point as plain_point
use Rattle.search.specs.Seen.{following_seen}
use Rattle.search.specs.Followed.{AreFollowings}
use Rattle.loop_bounds.specs.Methods.{AreMethodsOf, HasNumber, HasNumberIf, LacksNumber}
use Rattle.loop_bounds.specs.Found.{points_seen, EachHasMethod}
use Rattle.loop_bounds.specs.Nexts.{at_node, start_in, own_start, HasCallee, AreNexts, HasNoEdge, IsDeadEnd}
use Rattle.loop_bounds.proofs.Rules.{followed, by_call}

-- the method of a class that a number of a typed one names
pub method_of : (c : Class) (rows : List Typed) (k : ℕ) → AreMethodsOf c rows → HasNumber rows k → (m : Method) × (slice_get c.methods k ≡ Some m)
method_of c rows k are (i, within, number) = go rows refl i within number
  where
    go : (rs : List Typed) → rs ≡ rows → (i : ℕ) → i < length rs → ((d : Typed) → (get_or rs i d).number ≡ k) → (m : Method) × (slice_get c.methods k ≡ Some m)
    go [] e i h n = absurd (omega (arith, h))
    go (r ∷ rs) e i h n =
        let row : Typed = get_or (r ∷ rs) i r in
        let at : slice_get rows i ≡ Some row = ap (λ (l : List Typed). slice_get l i) (sym e) ∙ slice_get-get_or (r ∷ rs) i r h in
        let of = (are.each i row at).method in
        (of.0, ap (slice_get c.methods) (sym (n r)) ∙ of.1)

pub started : (c : Class) (rows : List Typed) (fs : List plain.Following) (i : ℕ) (row : Typed) (f : plain.Following) (m : Method) (x : Node) (arguments : List Known) → AreMethodsOf c rows → AreFollowings rows fs
    → slice_get rows i ≡ Some row → slice_get fs i ≡ Some f → x ≡ entered (following_seen f) m arguments → at_node row.number x ≡ at_node row.number (entered (rules_of c row.number) m arguments)
started c rows fs i row f m x arguments are follow r g e =
    ap (at_node row.number) (e ∙ ap (λ (h : Following). entered h m arguments) (sym (followed c rows fs i row f are follow r g)))

-- the method that a typed one is has its size
pub size_of : (c : Class) (rows : List Typed) (i : ℕ) (row : Typed) (m : Method) → AreMethodsOf c rows → slice_get rows i ≡ Some row → slice_get c.methods row.number ≡ Some m → m.environment.max_locals ≡ row.environment.max_locals
size_of c rows i row m are r e =
    let of = (are.each i row r).method in
    let same : m ≡ of.0 = cc (e, of.1) in
    ap (λ (z : Method). z.environment.max_locals) same ∙ ap (λ (z : Environment). z.max_locals) of.2

-- ---- the points after a point

pub nothing_stands : (c : Class) (rows : List Typed) (i : ℕ) (row : Typed) (x : Node) → AreMethodsOf c rows → slice_get rows i ≡ Some row → at_place row.code x.place ≡ None → IsDeadEnd c (rules_of c) (at_node row.number x)
nothing_stands c rows i row x are r none =
    let of = (are.each i row r).method in
    let at : instruction_at of.0 x.place ≡ None = ap (λ (l : List Placed). at_place l x.place) of.3 ∙ none in
    (of.0, of.1, subst (λ (o : Option Placed). HasNoEdge c (rules_of c) (at_node row.number x) o) (sym at) tt)

module _ (c : Class) (rows : List Typed) (fs : List plain.Following) (i : ℕ) (row : Typed) (f : plain.Following) (p : Placed) (x : Node) (are : AreMethodsOf c rows) (follow : AreFollowings rows fs)
    (r : slice_get rows i ≡ Some row) (g : slice_get fs i ≡ Some f) (at : at_place row.code x.place ≡ Some p) where
  abbrev after : List Node
  after = successors c.view (rules_of c row.number) p x

  same_after : successors c.view (following_seen f) p x ≡ after
  same_after = ap (λ (h : Following). successors c.view h p x) (sym (followed c rows fs i row f are follow r g))

  stands : (m : Method) × (slice_get c.methods row.number ≡ Some m) × (instruction_at m x.place ≡ Some p)
  stands = let of = (are.each i row r).method in (of.0, of.1, ap (λ (l : List Placed). at_place l x.place) of.3 ∙ at)

  pub no_edge : successors c.view (following_seen f) p x ≡ [] → is_return p.instruction ≡ false → IsDeadEnd c (rules_of c) (at_node row.number x)
  no_edge e end = (stands.0, stands.1, subst (λ (o : Option Placed). HasNoEdge c (rules_of c) (at_node row.number x) o) (sym stands.2) (end, sym same_after ∙ e))

  -- the method that the call at this pc resolves to
  pub resolved : (o : Option Callee) → o ≡ callee_in row.calls.items x.place → o ≡ called_by c.view p.instruction
  resolved o e = e ∙ (are.each i row r).calls.reached x.place p at

  on_of : (b : Bool) (ys : List Node) → (b ≡ false → ys ≡ [] → ⊥) → leads_on b ys ≡ true
  on_of true ys h = refl
  on_of false [] h = absurd (h refl refl)
  on_of false (y ∷ ys) h = refl

  has_callee : (o : Option ℕ) → HasNumberIf rows o → HasCallee c o
  has_callee None h = tt
  has_callee (Some k) h = method_of c rows k are h

  pub listed_after : (start ys : List Point) → (is_return p.instruction ≡ false → successors c.view (following_seen f) p x ≡ [] → ⊥) → HasNumberIf rows (own_of (called_by c.view p.instruction))
      → start ≡ own_start c (rules_of c) p x (call_of c.view p.instruction) → ys ≡ start ++ map (at_node row.number) (successors c.view (following_seen f) p x) → AreNexts c (rules_of c) (at_node row.number x) ys
  listed_after start ys some has first all = record {
    method = stands.0;
    placed = p;
    stands = record { method = stands.1; instruction = stands.2 };
    on = on_of (is_return p.instruction) after (λ e none. some e (same_after ∙ none));
    callee = subst (HasCallee c) (sym (by_call c.view p.instruction).own) (has_callee (own_of (called_by c.view p.instruction)) has);
    are = all ∙ ap (λ (l : List Point). l ++ map (at_node row.number) (successors c.view (following_seen f) p x)) first
        ∙ ap (λ (l : List Node). own_start c (rules_of c) p x (call_of c.view p.instruction) ++ map (at_node row.number) l) same_after;
  }

-- ---- what the code tests

pub ends : (b e : Bool) (n : ℕ) → e ≡ (not b && (n == 0)) → e ≡ true → (b ≡ false) × (n ≡ 0)
ends true e n is t = let both : false ≡ true = sym is ∙ t in absurd cc
ends false e n is t = (refl, eqb-true n 0 (sym is ∙ t))

pub goes_on : (b e : Bool) (n : ℕ) → e ≡ (not b && (n == 0)) → e ≡ false → b ≡ false → n ≡ 0 → ⊥
goes_on true e n is f g z = absurd cc
goes_on false e n is f g z = let yes : eqb n 0 ≡ true = eq-eqb n 0 z in let both : false ≡ true = sym f ∙ is ∙ yes in absurd cc

pub lacks_none : (rows : List Typed) (o : Option ℕ) → ((k : ℕ) → o ≡ Some k → HasNumber rows k) → LacksNumber rows o → ⊥
lacks_none rows None has lacks = lacks
lacks_none rows (Some k) has lacks = lacks (has k refl)

pub all_have : (rows : List Typed) (j : ℕ) (xs : List Point) (ys : List Node) → HasNumber rows j → EachHasMethod rows xs → EachHasMethod rows (xs ++ map (at_node j) ys)
all_have rows j xs ys has first i y e = go (in_parts xs (map (at_node j) ys) i y e)
  where
    go : ((n : ℕ) × (slice_get xs n ≡ Some y)) ⊎ ((n : ℕ) × (slice_get (map (at_node j) ys) n ≡ Some y)) → HasNumber rows y.method
    go (inl (n, f)) = first n y f
    go (inr (n, f)) = let r = unmapped (at_node j) ys n y f in subst (λ (z : Point). HasNumber rows z.method) r.2 has

-- ---- the start of the own method that is called

pub start_none : (c : Class) (p : Placed) (x : Node) (o : Option Callee) → o ≡ called_by c.view p.instruction → own_of o ≡ None → [] ≡ own_start c (rules_of c) p x (call_of c.view p.instruction)
start_none c p x o e none =
    let call : call_of c.view p.instruction ≡ None = (by_call c.view p.instruction).own ∙ ap own_of (sym e) ∙ none in
    ap (own_start c (rules_of c) p x) (sym call)

pub start_some : (c : Class) (p : Placed) (x : Node) (o : Option Callee) (k : ℕ) (m : Method) (arguments : List Known) (to : List Point) → o ≡ called_by c.view p.instruction → own_of o ≡ Some k → slice_get c.methods k ≡ Some m
    → arguments ≡ taken o x.operands → to ≡ at_node k (entered (rules_of c k) m arguments) ∷ [] → to ≡ own_start c (rules_of c) p x (call_of c.view p.instruction)
start_some c p x o k m arguments to e own method are is =
    let call : call_of c.view p.instruction ≡ Some k = (by_call c.view p.instruction).own ∙ ap own_of (sym e) ∙ own in
    let given : arguments ≡ arguments_by c.view p.instruction x.operands = are ∙ ap (λ (q : Option Callee). taken q x.operands) e ∙ sym ((by_call c.view p.instruction).taken x.operands) in
    is ∙ ap (λ (l : List Known). at_node k (entered (rules_of c k) m l) ∷ []) given
    ∙ ap (start_in c (rules_of c) p x k) (sym method) ∙ ap (own_start c (rules_of c) p x) (sym call)

-- a typed method by where it is
pub some_row : (rows : List Typed) (i k : ℕ) → i < length rows → ((d : Typed) → (get_or rows i d).number ≡ k) → (row : Typed) × (slice_get rows i ≡ Some row) × (row.number ≡ k)
some_row [] i k h n = absurd (omega (arith, h))
some_row (r ∷ rows) i k h n = (get_or (r ∷ rows) i r, slice_get-get_or (r ∷ rows) i r h, n r)

-- the start that was found is that of the own method that is called
pub start_found : (c : Class) (rows : List Typed) (p : Placed) (x : Node) (o : Option Callee) (k : ℕ) (arguments : List Known) (r : Result (Option (Vec plain_point.Point Global)) AllocError) → AreMethodsOf c rows
    → o ≡ called_by c.view p.instruction → own_of o ≡ Some k → arguments ≡ taken o x.operands
    → ((m : Method) → slice_get c.methods k ≡ Some m → IfOk r (λ q. MatchOption q (Unit {0}) (λ to. points_seen to.items ≡ at_node k (entered (rules_of c k) m arguments) ∷ [])))
    → IfOk r (λ q. MatchOption q (HasNumber rows k → ⊥) (λ to. HasNumber rows k))
    → IfOk r (λ q. MatchOption q (Unit {0}) (λ to. points_seen to.items ≡ own_start c (rules_of c) p x (call_of c.view p.instruction)))
start_found c rows p x o k arguments (Err e) are h own args started has = tt
start_found c rows p x o k arguments (Ok None) are h own args started has = tt
start_found c rows p x o k arguments (Ok (Some to)) are h own args started has =
    let m = method_of c rows k are has in
    start_some c p x o k m.0 arguments (points_seen to.items) h own m.1 args (started m.0 m.1)
