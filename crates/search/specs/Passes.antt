-- The state of a depth-first search: the numbers on the way to the current one, and those that are done.
use Rattle.std.specs.Prelude.{◌≡◌, ℕ, ◌+◌, ◌≤◌, ◌<◌, List, [], ◌∷◌, ◌++◌, length, drop, map, Option, Some, None, slice_get}
use Rattle.search.specs.declared.order.Frame.{Frame}
use Rattle.search.specs.declared.order.State.{State}
use Rattle.search.specs.declared.order.State.TheVariants.{New, Open, Done}
use Rattle.search.specs.Orders.{Links, links_at, IsAmong, AreAmong, AreDistinct, AreBelow, IsOrder}

abbrev pub numbers : List Frame → List ℕ
numbers [] = []
numbers (t ∷ stack) = t.number ∷ numbers stack

-- `IsOpen g later t` holds if the links of the frame that are followed are among `later`
pub record IsOpen (g : Links) (later : List ℕ) (t : Frame) : Type 0 where
  pub within : t.number < length g
  pub most : t.left ≤ length (links_at g t.number)
  pub followed : AreAmong (drop t.left (links_at g t.number)) later

-- the same for each frame: the followed links are done, but for the one that leads to the frame above
abbrev pub AreOpen : Links → List ℕ → List ℕ → List Frame → Type 0
AreOpen g done later [] = Unit {0}
AreOpen g done later (t ∷ stack) = IsOpen g later t × AreOpen g done (t.number ∷ done) stack

-- the bottom is the number 0, and each frame above is a link of the one below
abbrev pub IsWay : Links → List Frame → Type 0
IsWay g [] = Unit {0}
IsWay g (t ∷ []) = t.number ≡ 0
IsWay g (t ∷ u ∷ stack) = IsAmong (links_at g u.number) t.number × IsWay g (u ∷ stack)

abbrev pub IsPlaced : ℕ → List ℕ → List ℕ → Option State → Type 0
IsPlaced q stack done None = Unit {0}
IsPlaced q stack done (Some New) = Unit {0}
IsPlaced q stack done (Some Open) = IsAmong stack q
IsPlaced q stack done (Some Done) = IsAmong done q

-- The frames have the top first, and the numbers that are done the last one.
pub record IsPass (g : Links) (states : List State) (stack : List Frame) (done : List ℕ) : Type 0 where
  pub size : length states ≡ length g
  pub opens : AreOpen g done done stack
  pub way : IsWay g stack
  pub order : IsOrder g done
  pub below : AreBelow (length g) done
  pub placed : (q : ℕ) → IsPlaced q (numbers stack) done (slice_get states q)
  pub ends : stack ≡ [] → IsAmong done 0
  pub once : AreDistinct (numbers stack ++ done)
  pub seen : (q : ℕ) → IsAmong (numbers stack ++ done) q → slice_get states q ≡ Some New → ⊥

-- ---- the links that are left to follow

abbrev pub weight : State → ℕ → ℕ
weight New n = n + 2
weight _ n = 0

abbrev pub new_work : Links → List State → ℕ
new_work [] ss = 0
new_work (l ∷ ls) [] = 0
new_work (l ∷ ls) (s ∷ ss) = weight s (length l) + new_work ls ss

abbrev pub open_work : List Frame → ℕ
open_work [] = 0
open_work (t ∷ stack) = (t.left + 1) + open_work stack

abbrev pub work : Links → List State → List Frame → ℕ
work g states stack = new_work g states + open_work stack
