-- Numbers that lead to numbers: orders in which each comes before those that it leads to, and circles.
use Rattle.std.specs.Prelude.{◌≡◌, ℕ, ◌<◌, List, [], ◌∷◌, length, get_or, ◌⊎◌, Vec}
use Rattle.std.specs.declared.alloc.Global.{Global}

-- the links of each number
abbrev pub Links : Type 0
Links = List (List ℕ)

abbrev pub items_of : List (Vec ℕ Global) → Links
items_of [] = []
items_of (v ∷ vs) = v.items ∷ items_of vs

abbrev pub links_at : Links → ℕ → List ℕ
links_at g k = get_or g k []

abbrev pub IsAmong : List ℕ → ℕ → Type 0
IsAmong [] q = ⊥
IsAmong (x ∷ xs) q = (x ≡ q) ⊎ IsAmong xs q

abbrev pub AreAmong : List ℕ → List ℕ → Type 0
AreAmong [] ks = Unit {0}
AreAmong (q ∷ qs) ks = IsAmong ks q × AreAmong qs ks

-- `AreDistinct qs` holds if no two of the numbers are equal
abbrev pub AreDistinct : List ℕ → Type 0
AreDistinct [] = Unit {0}
AreDistinct (q ∷ qs) = (IsAmong qs q → ⊥) × AreDistinct qs

-- `AreBelow n qs` holds if the numbers are below `n`
abbrev pub AreBelow : ℕ → List ℕ → Type 0
AreBelow n [] = Unit {0}
AreBelow n (q ∷ qs) = (q < n) × AreBelow n qs

-- `AreLinks n g` holds if all links are below `n`
abbrev pub AreLinks : ℕ → Links → Type 0
AreLinks n [] = Unit {0}
AreLinks n (l ∷ ls) = AreBelow n l × AreLinks n ls

-- `IsOrder g ks` holds if the links of each number of the list come later in it
abbrev pub IsOrder : Links → List ℕ → Type 0
IsOrder g [] = Unit {0}
IsOrder g (k ∷ ks) = AreAmong (links_at g k) ks × IsOrder g ks

-- `Leads g k q` holds if links lead from `k` to `q`
pub data Leads (g : Links) (k : ℕ) : ℕ → Type 0 where
  here : Leads g k k
  onward : {x y : ℕ} → Leads g k x → IsAmong (links_at g x) y → Leads g k y

-- `IsCircleIn g start` holds if from `start` links lead to a number that leads back to itself
pub record IsCircleIn (g : Links) (start : ℕ) : Type 0 where
  pub on : ℕ
  pub next : ℕ
  pub there : Leads g start on
  pub step : IsAmong (links_at g on) next
  pub back : Leads g next on
