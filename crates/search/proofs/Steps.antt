-- The steps of the search keep what is true of its state.
use Rattle.std.proofs.Common.{◌≡◌, ℕ, zero, suc, ◌+◌, ◌-◌, ◌<◌, ◌≤◌, List, [], ◌∷◌, ◌++◌, length, get_or, drop, replicate, ◌⊎◌, inl, inr, refl, sym, ap, ◌∙◌, subst, arith}
use Rattle.std.proofs.lemmas.List.{length-replicate, length-set}
use Rattle.std.specs.Prelude.{Option, Some, None, slice_get, slice_set, Vec}
use Rattle.std.specs.declared.alloc.Global.{Global}
use Rattle.std.proofs.lemmas.Option.{slice_get_within, slice_get-get_or}
use Rattle.search.specs.declared.order.Frame.{Frame}
use Rattle.search.specs.declared.order.State.{State}
use Rattle.search.specs.declared.order.State.TheVariants.{New, Open, Done}
use Rattle.search.specs.Orders.{Links, items_of, links_at, IsAmong, AreAmong, AreDistinct, AreBelow, AreLinks, IsOrder, Leads, here, onward, IsCircleIn}
use Rattle.search.specs.Passes.{numbers, IsOpen, AreOpen, IsWay, IsPlaced, IsPass, weight, new_work, open_work, work}

-- ---- lists

pub length-items_of : (vs : List (Vec ℕ Global)) → length (items_of vs) ≡ length vs
length-items_of [] = refl
length-items_of (v ∷ vs) = ap suc (length-items_of vs)

pub links_of : (vs : List (Vec ℕ Global)) (i : ℕ) (d : Vec ℕ Global) → i < length vs → links_at (items_of vs) i ≡ (get_or vs i d).items
links_of [] i d h = absurd (omega arith)
links_of (v ∷ vs) zero d h = refl
links_of (v ∷ vs) (suc i) d h = links_of vs i d (omega (arith, h))

pub row_is : (vs : List (Vec ℕ Global)) (i : ℕ) (v : Vec ℕ Global) → i < length vs → v ≡ get_or vs i v → links_at (items_of vs) i ≡ v.items
row_is vs i v h e = links_of vs i v h ∙ ap (λ (w : Vec ℕ Global). w.items) (sym e)

more_all : (qs ks : List ℕ) (x : ℕ) → AreAmong qs ks → AreAmong qs (x ∷ ks)
more_all [] ks x h = tt
more_all (q ∷ qs) ks x h = (inr h.0, more_all qs ks x h.1)

more_below : (qs ks : List ℕ) (x u : ℕ) → AreAmong qs (u ∷ ks) → AreAmong qs (u ∷ x ∷ ks)
more_below [] ks x u h = tt
more_below (q ∷ qs) ks x u h = (go h.0, more_below qs ks x u h.1)
  where
    go : IsAmong (u ∷ ks) q → IsAmong (u ∷ x ∷ ks) q
    go (inl e) = inl e
    go (inr e) = inr (inr e)

-- an entry after one is set
set_cases : (xs : List State) (n q : ℕ) (s : State)
    → ((q ≡ n) × (slice_get (slice_set xs n s) q ≡ Some s)) ⊎ (((q ≡ n) × (slice_get (slice_set xs n s) q ≡ None)) ⊎ ((q ≡ n → ⊥) × (slice_get (slice_set xs n s) q ≡ slice_get xs q)))
set_cases [] n q s = go n q
  where
    go : (n q : ℕ) → ((q ≡ n) × (slice_get (slice_set [] n s) q ≡ Some s)) ⊎ (((q ≡ n) × (slice_get (slice_set [] n s) q ≡ None)) ⊎ ((q ≡ n → ⊥) × (slice_get (slice_set [] n s) q ≡ slice_get [] q)))
    go zero zero = inr (inl (refl, refl))
    go zero (suc q) = inr (inr ((λ e. omega (arith, e)), refl))
    go (suc n) zero = inr (inr ((λ e. omega (arith, e)), refl))
    go (suc n) (suc q) = again (go n q)
      where
        again : ((q ≡ n) × (slice_get (slice_set [] n s) q ≡ Some s)) ⊎ (((q ≡ n) × (slice_get (slice_set [] n s) q ≡ None)) ⊎ ((q ≡ n → ⊥) × (slice_get (slice_set [] n s) q ≡ slice_get [] q)))
            → ((suc q ≡ suc n) × (slice_get (slice_set [] (suc n) s) (suc q) ≡ Some s)) ⊎ (((suc q ≡ suc n) × (slice_get (slice_set [] (suc n) s) (suc q) ≡ None)) ⊎ ((suc q ≡ suc n → ⊥) × (slice_get (slice_set [] (suc n) s) (suc q) ≡ slice_get [] (suc q))))
        again (inl (e, f)) = absurd cc
        again (inr (inl (e, f))) = inr (inl (ap suc e, refl))
        again (inr (inr (ne, f))) = inr (inr ((λ e. ne (omega (arith, e))), refl))
set_cases (x ∷ xs) zero zero s = inl (refl, refl)
set_cases (x ∷ xs) zero (suc q) s = inr (inr ((λ e. omega (arith, e)), refl))
set_cases (x ∷ xs) (suc n) zero s = inr (inr ((λ e. omega (arith, e)), refl))
set_cases (x ∷ xs) (suc n) (suc q) s = go (set_cases xs n q s)
  where
    go : ((q ≡ n) × (slice_get (slice_set xs n s) q ≡ Some s)) ⊎ (((q ≡ n) × (slice_get (slice_set xs n s) q ≡ None)) ⊎ ((q ≡ n → ⊥) × (slice_get (slice_set xs n s) q ≡ slice_get xs q)))
        → ((suc q ≡ suc n) × (slice_get (slice_set xs n s) q ≡ Some s)) ⊎ (((suc q ≡ suc n) × (slice_get (slice_set xs n s) q ≡ None)) ⊎ ((suc q ≡ suc n → ⊥) × (slice_get (slice_set xs n s) q ≡ slice_get xs q)))
    go (inl (e, f)) = inl (ap suc e, f)
    go (inr (inl (e, f))) = inr (inl (ap suc e, f))
    go (inr (inr (ne, f))) = inr (inr ((λ e. ne (omega (arith, e))), f))

drop_next : (xs : List ℕ) (i q : ℕ) → slice_get xs i ≡ Some q → drop i xs ≡ q ∷ drop (suc i) xs
drop_next [] i q e = absurd cc
drop_next (x ∷ xs) zero q e = let same : x ≡ q = cc in ap (λ y. y ∷ xs) same
drop_next (x ∷ xs) (suc i) q e = drop_next xs i q e

drop_all : (xs : List ℕ) → drop (length xs) xs ≡ []
drop_all [] = refl
drop_all (x ∷ xs) = drop_all xs

among_at : (xs : List ℕ) (i q : ℕ) → slice_get xs i ≡ Some q → IsAmong xs q
among_at [] i q e = absurd cc
among_at (x ∷ xs) zero q e = inl cc
among_at (x ∷ xs) (suc i) q e = inr (among_at xs i q e)

below_at : (n : ℕ) (xs : List ℕ) (i q : ℕ) → AreBelow n xs → slice_get xs i ≡ Some q → q < n
below_at n [] i q h e = absurd cc
below_at n (x ∷ xs) zero q h e = let same : x ≡ q = cc in let low = h.0 in omega (arith, same, low)
below_at n (x ∷ xs) (suc i) q h e = below_at n xs i q h.1 e

pub link_below : (n : ℕ) (g : Links) (t i q : ℕ) → AreLinks n g → slice_get (links_at g t) i ≡ Some q → q < n
link_below n [] t i q h e = absurd cc
link_below n (l ∷ ls) zero i q h e = below_at n l i q h.0 e
link_below n (l ∷ ls) (suc t) i q h e = link_below n ls t i q h.1 e

-- ---- the frames

wider : (g : Links) (done later later' : List ℕ) (x : ℕ) (stack : List Frame) → ((qs : List ℕ) → AreAmong qs later → AreAmong qs later') → AreOpen g done later stack
    → AreOpen g (x ∷ done) later' stack
wider g done later later' x [] f h = tt
wider g done later later' x (t ∷ stack) f h = (
  record { within = h.0.within; most = h.0.most; followed = f (drop t.left (links_at g t.number)) h.0.followed },
  wider g done (t.number ∷ done) (t.number ∷ x ∷ done) x stack (λ qs k. more_below qs done x t.number k) h.1,
)

below_way : (g : Links) (t : Frame) (stack : List Frame) → IsWay g (t ∷ stack) → IsWay g stack
below_way g t [] w = tt
below_way g t (u ∷ stack) w = w.1

bottom : (g : Links) (t : Frame) (stack : List Frame) → IsWay g (t ∷ stack) → stack ≡ [] → t.number ≡ 0
bottom g t [] w e = w
bottom g t (u ∷ stack) w e = absurd cc

-- another frame of the same number
same_way : (g : Links) (t : Frame) (left : ℕ) (stack : List Frame) → IsWay g (t ∷ stack) → IsWay g (record { number = t.number; left = left } ∷ stack)
same_way g t left [] w = w
same_way g t left (u ∷ stack) w = w

leads_there : (g : Links) (t : Frame) (stack : List Frame) → IsWay g (t ∷ stack) → Leads g 0 t.number
leads_there g t [] w = subst (λ n. Leads g 0 n) (sym w) here
leads_there g t (u ∷ stack) w = onward (leads_there g u stack w.1) w.0

leads_back : (g : Links) (t : Frame) (stack : List Frame) (q : ℕ) → IsWay g (t ∷ stack) → IsAmong (numbers (t ∷ stack)) q → Leads g q t.number
leads_back g t stack q w (inl e) = subst (λ n. Leads g n t.number) e here
leads_back g t [] q w (inr h) = absurd h
leads_back g t (u ∷ stack) q w (inr h) = onward (leads_back g u stack q w.1 h) w.0

-- ---- the steps

-- the placement of each number after the state of one is set
placed_after : (ss : List State) (n : ℕ) (s : State) (old new done later : List ℕ)
    → IsPlaced n new later (Some s)
    → ((q : ℕ) → (q ≡ n → ⊥) → IsAmong old q → IsAmong new q) → ((q : ℕ) → IsAmong done q → IsAmong later q)
    → ((q : ℕ) → IsPlaced q old done (slice_get ss q)) → (q : ℕ) → IsPlaced q new later (slice_get (slice_set ss n s) q)
placed_after ss n s old new done later here_placed f g h q = go (set_cases ss n q s)
  where
    kept : (q ≡ n → ⊥) → (o : Option State) → IsPlaced q old done o → IsPlaced q new later o
    kept ne None k = tt
    kept ne (Some New) k = tt
    kept ne (Some Open) k = f q ne k
    kept ne (Some Done) k = g q k

    go : ((q ≡ n) × (slice_get (slice_set ss n s) q ≡ Some s)) ⊎ (((q ≡ n) × (slice_get (slice_set ss n s) q ≡ None)) ⊎ ((q ≡ n → ⊥) × (slice_get (slice_set ss n s) q ≡ slice_get ss q)))
        → IsPlaced q new later (slice_get (slice_set ss n s) q)
    go (inl (e, k)) = subst (λ (o : Option State). IsPlaced q new later o) (sym k) (subst (λ m. IsPlaced m new later (Some s)) (sym e) here_placed)
    go (inr (inl (e, k))) = subst (λ (o : Option State). IsPlaced q new later o) (sym k) tt
    go (inr (inr (ne, k))) = subst (λ (o : Option State). IsPlaced q new later o) (sym k) (kept ne (slice_get ss q) (h q))

off_top : (n : ℕ) (ks : List ℕ) (q : ℕ) → (q ≡ n → ⊥) → IsAmong (n ∷ ks) q → IsAmong ks q
off_top n ks q ne (inl e) = absurd (ne (sym e))
off_top n ks q ne (inr h) = h

-- ---- each number once

in_moved : (ns done : List ℕ) (t q : ℕ) → IsAmong (ns ++ t ∷ done) q → (t ≡ q) ⊎ IsAmong (ns ++ done) q
in_moved [] done t q h = h
in_moved (n ∷ ns) done t q (inl e) = inr (inl e)
in_moved (n ∷ ns) done t q (inr h) = go (in_moved ns done t q h)
  where
    go : (t ≡ q) ⊎ IsAmong (ns ++ done) q → (t ≡ q) ⊎ IsAmong (n ∷ ns ++ done) q
    go (inl e) = inl e
    go (inr k) = inr (inr k)

moved : (ns done : List ℕ) (t : ℕ) → (IsAmong (ns ++ done) t → ⊥) → AreDistinct (ns ++ done) → AreDistinct (ns ++ t ∷ done)
moved [] done t new d = (new, d)
moved (n ∷ ns) done t new d = (λ h. go (in_moved ns done t n h), moved ns done t (λ h. new (inr h)) d.1)
  where
    go : (t ≡ n) ⊎ IsAmong (ns ++ done) n → ⊥
    go (inl e) = new (inl (sym e))
    go (inr h) = d.0 h

-- a state that is set isn't new, and what wasn't new isn't after another state is set
set_seen : (ss : List State) (n q : ℕ) (s : State) → (s ≡ New → ⊥) → slice_get (slice_set ss n s) q ≡ Some New → (q ≡ n → ⊥) × (slice_get ss q ≡ Some New)
set_seen ss n q s old e = go (set_cases ss n q s)
  where
    go : ((q ≡ n) × (slice_get (slice_set ss n s) q ≡ Some s)) ⊎ (((q ≡ n) × (slice_get (slice_set ss n s) q ≡ None)) ⊎ ((q ≡ n → ⊥) × (slice_get (slice_set ss n s) q ≡ slice_get ss q)))
        → (q ≡ n → ⊥) × (slice_get ss q ≡ Some New)
    go (inl (f, k)) = let both : Some s ≡ Some New = sym k ∙ e in absurd (old cc)
    go (inr (inl (f, k))) = let both : None ≡ Some New = sym k ∙ e in absurd cc
    go (inr (inr (ne, k))) = (ne, sym k ∙ e)

still_seen : (ss : List State) (n : ℕ) (s : State) (old new : List ℕ) → (s ≡ New → ⊥) → ((q : ℕ) → IsAmong new q → (n ≡ q) ⊎ IsAmong old q)
    → ((q : ℕ) → IsAmong old q → slice_get ss q ≡ Some New → ⊥) → (q : ℕ) → IsAmong new q → slice_get (slice_set ss n s) q ≡ Some New → ⊥
still_seen ss n s old new is from h q k e = go (from q k) (set_seen ss n q s is e)
  where
    go : (n ≡ q) ⊎ IsAmong old q → (q ≡ n → ⊥) × (slice_get ss q ≡ Some New) → ⊥
    go (inl f) (ne, g) = ne (sym f)
    go (inr o) (ne, g) = h q o g

-- the top frame ends
pub ended : (g : Links) (ss : List State) (t : Frame) (stack : List Frame) (done : List ℕ) → IsPass g ss (t ∷ stack) done → t.left ≡ 0
    → IsPass g (slice_set ss t.number Done) stack (t.number ∷ done)
ended g ss t stack done p e =
    let top : IsOpen g done t = p.opens.0 in
    let all : AreAmong (links_at g t.number) done = subst (λ n. AreAmong (drop n (links_at g t.number)) done) e top.followed in
    record {
      size = length-set ss t.number Done ∙ p.size;
      opens = wider g done (t.number ∷ done) (t.number ∷ done) t.number stack (λ qs k. k) p.opens.1;
      way = below_way g t stack p.way;
      order = (all, p.order);
      below = (top.within, p.below);
      placed = placed_after ss t.number Done (t.number ∷ numbers stack) (numbers stack) done (t.number ∷ done) (inl refl) (λ q ne k. off_top t.number (numbers stack) q ne k) (λ q k. inr k) p.placed;
      ends = λ none. inl (bottom g t stack p.way none);
      once = moved (numbers stack) done t.number p.once.0 p.once.1;
      seen = still_seen ss t.number Done (t.number ∷ numbers stack ++ done) (numbers stack ++ t.number ∷ done) (λ f. cc)
          (λ q k. moved_from (in_moved (numbers stack) done t.number q k)) p.seen;
    }
  where
    moved_from : {q : ℕ} → (t.number ≡ q) ⊎ IsAmong (numbers stack ++ done) q → (t.number ≡ q) ⊎ IsAmong (t.number ∷ numbers stack ++ done) q
    moved_from (inl e) = inl e
    moved_from (inr k) = inr (inr k)

followed_more : (g : Links) (t : Frame) (l q : ℕ) (later : List ℕ) → slice_get (links_at g t.number) l ≡ Some q → t.left ≡ suc l → IsAmong later q → AreAmong (drop t.left (links_at g t.number)) later
    → AreAmong (drop l (links_at g t.number)) later
followed_more g t l q later f e k h =
    subst (λ (xs : List ℕ). AreAmong xs later) (sym (drop_next (links_at g t.number) l q f)) (k, subst (λ n. AreAmong (drop n (links_at g t.number)) later) e h)

-- the next link of the top frame leads to a number that is done
pub passed : (g : Links) (ss : List State) (t : Frame) (stack : List Frame) (done : List ℕ) (l q : ℕ) → IsPass g ss (t ∷ stack) done → t.left ≡ suc l
    → slice_get (links_at g t.number) l ≡ Some q → slice_get ss q ≡ Some Done → IsPass g ss (record { number = t.number; left = l } ∷ stack) done
passed g ss t stack done l q p e f s =
    let top : IsOpen g done t = p.opens.0 in
    let known : IsAmong done q = subst (λ (o : Option State). IsPlaced q (numbers (t ∷ stack)) done o) s (p.placed q) in
    let most : t.left ≤ length (links_at g t.number) = top.most in
    record {
      size = p.size;
      opens = (record { within = top.within; most = omega (arith, most, e); followed = followed_more g t l q done f e known top.followed }, p.opens.1);
      way = same_way g t l stack p.way;
      order = p.order;
      below = p.below;
      placed = p.placed;
      ends = λ none. absurd cc;
      once = p.once;
      seen = p.seen;
    }

-- the next link leads to a new number
pub opened : (g : Links) (ss : List State) (t : Frame) (stack : List Frame) (done : List ℕ) (l q : ℕ) → IsPass g ss (t ∷ stack) done → t.left ≡ suc l
    → slice_get (links_at g t.number) l ≡ Some q → slice_get ss q ≡ Some New → q < length g
    → IsPass g (slice_set ss q Open) (record { number = q; left = length (links_at g q) } ∷ record { number = t.number; left = l } ∷ stack) done
opened g ss t stack done l q p e f s b =
    let top : IsOpen g done t = p.opens.0 in
    let most : t.left ≤ length (links_at g t.number) = top.most in
    record {
      size = length-set ss q Open ∙ p.size;
      opens = (
        record { within = b; most = omega arith; followed = subst (λ (xs : List ℕ). AreAmong xs done) (sym (drop_all (links_at g q))) tt },
        (
          record { within = top.within; most = omega (arith, most, e); followed = followed_more g t l q (q ∷ done) f e (inl refl) (more_all (drop t.left (links_at g t.number)) done q top.followed) },
          p.opens.1,
        ),
      );
      way = (among_at (links_at g t.number) l q f, same_way g t l stack p.way);
      order = p.order;
      below = p.below;
      placed = placed_after ss q Open (t.number ∷ numbers stack) (q ∷ t.number ∷ numbers stack) done done (inl refl) (λ r ne k. inr k) (λ r k. k) p.placed;
      ends = λ none. absurd cc;
      once = (λ h. p.seen q h s, p.once);
      seen = still_seen ss q Open (t.number ∷ numbers stack ++ done) (q ∷ t.number ∷ numbers stack ++ done) (λ g. cc) (λ r k. k) p.seen;
    }

-- the next link leads to an open number
pub circled : (g : Links) (ss : List State) (t : Frame) (stack : List Frame) (done : List ℕ) (l q : ℕ) → IsPass g ss (t ∷ stack) done
    → slice_get (links_at g t.number) l ≡ Some q → slice_get ss q ≡ Some Open → IsCircleIn g 0
circled g ss t stack done l q p f s =
    let known : IsAmong (numbers (t ∷ stack)) q = subst (λ (o : Option State). IsPlaced q (numbers (t ∷ stack)) done o) s (p.placed q) in
    record {
      on = t.number;
      next = q;
      there = leads_there g t stack p.way;
      step = among_at (links_at g t.number) l q f;
      back = leads_back g t stack q p.way known;
    }

none_placed : (n q : ℕ) → IsPlaced q [] [] (slice_get (replicate n New) q)
none_placed zero q = tt
none_placed (suc n) zero = tt
none_placed (suc n) (suc q) = none_placed n q

pub begun : (g : Links) → 0 < length g → IsPass g (slice_set (replicate (length g) New) 0 Open) (record { number = 0; left = length (links_at g 0) } ∷ []) []
begun g b = record {
  size = length-set (replicate (length g) New) 0 Open ∙ length-replicate (length g) New;
  opens = (record { within = b; most = omega arith; followed = subst (λ (xs : List ℕ). AreAmong xs []) (sym (drop_all (links_at g 0))) tt }, tt);
  way = refl;
  order = tt;
  below = tt;
  placed = placed_after (replicate (length g) New) 0 Open [] (0 ∷ []) [] [] (inl refl) (λ r ne k. absurd k) (λ r k. k) (λ q. none_placed (length g) q);
  ends = λ none. absurd cc;
  once = (λ h. h, tt);
  seen = still_seen (replicate (length g) New) 0 Open [] (0 ∷ []) (λ g. cc) (λ q k. k) (λ q k e. k);
}

-- ---- the work that is left

work_after : (g : Links) (ss : List State) (i : ℕ) (s : State) → weight s 0 ≡ 0 → new_work g (slice_set ss i s) ≤ new_work g ss
work_after g ss i New w = absurd cc
work_after [] ss i Open w = omega arith
work_after (l ∷ ls) [] i Open w = omega arith
work_after (l ∷ ls) (x ∷ ss) zero Open w = omega arith
work_after (l ∷ ls) (x ∷ ss) (suc i) Open w = let r = work_after ls ss i Open w in omega (arith, r)
work_after [] ss i Done w = omega arith
work_after (l ∷ ls) [] i Done w = omega arith
work_after (l ∷ ls) (x ∷ ss) zero Done w = omega arith
work_after (l ∷ ls) (x ∷ ss) (suc i) Done w = let r = work_after ls ss i Done w in omega (arith, r)

pub ended_less : (g : Links) (ss : List State) (t : Frame) (stack : List Frame) → work g (slice_set ss t.number Done) stack < work g ss (t ∷ stack)
ended_less g ss t stack = let r : new_work g (slice_set ss t.number Done) ≤ new_work g ss = work_after g ss t.number Done refl in omega (arith, r)

pub passed_less : (g : Links) (ss : List State) (t : Frame) (stack : List Frame) (l : ℕ) → t.left ≡ suc l → work g ss (record { number = t.number; left = l } ∷ stack) < work g ss (t ∷ stack)
passed_less g ss t stack l e = omega (arith, e)

work_opened : (g : Links) (ss : List State) (q : ℕ) → slice_get ss q ≡ Some New → q < length g → new_work g (slice_set ss q Open) + (length (links_at g q) + 2) ≡ new_work g ss
work_opened [] ss q s b = absurd (omega arith)
work_opened (l ∷ ls) [] q s b = absurd cc
work_opened (l ∷ ls) (x ∷ ss) zero s b =
    let same : x ≡ New = cc in
    subst (λ (y : State). 0 + new_work ls ss + (length l + 2) ≡ weight y (length l) + new_work ls ss) (sym same) (omega arith)
work_opened (l ∷ ls) (x ∷ ss) (suc q) s b = let r = work_opened ls ss q s (omega (arith, b)) in omega (arith, r)

pub opened_less : (g : Links) (ss : List State) (t : Frame) (stack : List Frame) (l q : ℕ) → t.left ≡ suc l → slice_get ss q ≡ Some New → q < length g
    → work g (slice_set ss q Open) (record { number = q; left = length (links_at g q) } ∷ record { number = t.number; left = l } ∷ stack) < work g ss (t ∷ stack)
opened_less g ss t stack l q e s b = let r = work_opened g ss q s b in omega (arith, r, e)
