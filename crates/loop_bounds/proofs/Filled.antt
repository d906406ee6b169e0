-- Costs that are filled in an order, in which each point comes after those that it leads to.
use Rattle.std.proofs.Common.{◌≡◌, ℕ, zero, suc, ◌+◌, ◌<◌, Bool, true, false, eqb, List, [], ◌∷◌, ◌++◌, length, take, drop, reverse, Some, ◌⊎◌, inl, inr, refl, sym, ap, ◌∙◌, subst, add-one, append_assoc}
use Rattle.std.specs.Prelude.{slice_get, slice_set}
use Rattle.std.proofs.lemmas.Bool.{eqb-true, eqb-false}
use Rattle.std.proofs.lemmas.List.{reverse-append, get_or-set_same, get_or-set_other}
use Rattle.typecheck.specs.declared.typed.Typed.{Typed}
use Rattle.bounds.specs.Cells.{Cell, capped, no_path, cell_at}
use Rattle.unrolled.specs.Certificates.{Point}
use Rattle.search.specs.Orders.{Links, links_at, IsAmong, AreAmong, AreBelow, IsOrder}
use Rattle.loop_bounds.specs.Tables.{AreCellsOf, IsCellOf, AreCosts}

-- ---- an order, by index

split : (xs : List ℕ) (i n : ℕ) → slice_get xs i ≡ Some n → xs ≡ take i xs ++ n ∷ drop (suc i) xs
split [] i n e = absurd cc
split (x ∷ xs) zero n e = let same : x ≡ n = cc in ap (λ y. y ∷ xs) same
split (x ∷ xs) (suc i) n e = ap (λ (l : List ℕ). x ∷ l) (split xs i n e)

turned : (xs : List ℕ) (i n : ℕ) → slice_get xs i ≡ Some n → reverse xs ≡ reverse (drop (suc i) xs) ++ n ∷ reverse (take i xs)
turned xs i n e =
    ap (λ (l : List ℕ). reverse l) (split xs i n e) ∙ reverse-append (take i xs) (n ∷ drop (suc i) xs)
    ∙ ap (λ (l : List ℕ). l ++ reverse (take i xs)) (reverse-append (n ∷ []) (drop (suc i) xs)) ∙ append_assoc (reverse (drop (suc i) xs)) (n ∷ []) (reverse (take i xs))

take_next : (xs : List ℕ) (i n : ℕ) → slice_get xs i ≡ Some n → take (suc i) xs ≡ take i xs ++ n ∷ []
take_next [] i n e = absurd cc
take_next (x ∷ xs) zero n e = let same : x ≡ n = cc in ap (λ y. y ∷ []) same
take_next (x ∷ xs) (suc i) n e = ap (λ (l : List ℕ). x ∷ l) (take_next xs i n e)

pub next_done : (xs : List ℕ) (i n : ℕ) → slice_get xs i ≡ Some n → reverse (take (i + 1) xs) ≡ n ∷ reverse (take i xs)
next_done xs i n e = ap (λ m. reverse (take m xs)) (add-one i) ∙ ap (λ (l : List ℕ). reverse l) (take_next xs i n e) ∙ reverse-append (take i xs) (n ∷ [])

order_at : (g : Links) (xs ys : List ℕ) (n : ℕ) → IsOrder g (xs ++ n ∷ ys) → AreAmong (links_at g n) ys
order_at g [] ys n h = h.0
order_at g (x ∷ xs) ys n h = order_at g xs ys n h.1

below_at : (m : ℕ) (xs ys : List ℕ) (n : ℕ) → AreBelow m (xs ++ n ∷ ys) → n < m
below_at m [] ys n h = h.0
below_at m (x ∷ xs) ys n h = below_at m xs ys n h.1

pub links_done : (g : Links) (xs : List ℕ) (i n : ℕ) → slice_get xs i ≡ Some n → IsOrder g (reverse xs) → AreAmong (links_at g n) (reverse (take i xs))
links_done g xs i n e h = order_at g (reverse (drop (suc i) xs)) (reverse (take i xs)) n (subst (IsOrder g) (turned xs i n e) h)

pub is_below : (m : ℕ) (xs : List ℕ) (i n : ℕ) → slice_get xs i ≡ Some n → AreBelow m (reverse xs) → n < m
is_below m xs i n e h = below_at m (reverse (drop (suc i) xs)) (reverse (take i xs)) n (subst (AreBelow m) (turned xs i n e) h)

-- ---- the costs

among_of : (l done : List ℕ) (q : ℕ) → AreAmong l done → IsAmong l q → IsAmong done q
among_of [] done q all h = absurd h
among_of (x ∷ l) done q all (inl e) = subst (IsAmong done) e all.0
among_of (x ∷ l) done q all (inr h) = among_of l done q all.1 h

pub costs_more : (rows : List Typed) (ps : List Point) (g : Links) (done : List ℕ) (n : ℕ) (k : Point) (cells next : List Cell) (x : Cell) → AreCosts rows ps g done cells → IsCellOf rows cells k (links_at g n) x
    → slice_get ps n ≡ Some k → n < length cells → AreAmong (links_at g n) done → next ≡ slice_set cells n x → AreCosts rows ps g (n ∷ done) next
costs_more rows ps g done n k cells next x so_far is at within links same c marks t are table each q y h e = go (eqb q n) refl
  where
    before : AreCellsOf t ps cells done
    before = so_far c marks t are table (λ m z i f. each m z (inr i) f)

    here : x ≡ capped (t k.method k.node)
    here = let both = each n k (inl refl) at in is c ps marks t are table both.0 both.1 (λ m z i f. before m z (among_of (links_at g n) done m links i) f)

    off : (q ≡ n → ⊥) → (n ≡ q) ⊎ IsAmong done q → IsAmong done q
    off ne (inl f) = absurd (ne (sym f))
    off ne (inr f) = f

    go : (b : Bool) → eqb q n ≡ b → cell_at next q ≡ capped (t y.method y.node)
    go true f =
        let one : q ≡ n = eqb-true q n f in
        let there : slice_get ps n ≡ Some y = ap (slice_get ps) (sym one) ∙ e in
        let equal : k ≡ y = cc (at, there) in
        ap (λ (l : List Cell). cell_at l q) same ∙ ap (cell_at (slice_set cells n x)) one ∙ get_or-set_same cells n x no_path within ∙ here ∙ ap (λ (z : Point). capped (t z.method z.node)) equal
    go false f =
        let ne : q ≡ n → ⊥ = eqb-false q n f in
        ap (λ (l : List Cell). cell_at l q) same ∙ get_or-set_other cells n q x no_path ne ∙ before q y (off ne h) e
