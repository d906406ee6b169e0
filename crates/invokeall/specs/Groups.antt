-- The groups of a round's calls, which workers claim.
use Rattle.std.specs.Prelude.{◌≡◌, ◌≢◌, ℕ, zero, suc, ◌+◌, ◌*◌, ◌%◌, ◌<◌, ◌≤◌, ◌==◌, ltb, List, [], ◌∷◌, ◌++◌, if◌then◌else◌, map, flat_map, length, replicate, slice_index}
use Rattle.claims.specs.Counters.{IsJobCount, one_if, times}
use Rattle.stripe.specs.History.{Call, key_of, stripe_of}
use Rattle.invokeall.specs.declared.groups.Groups.{Groups}

-- The group of a stripe, of as many groups as stripes. 71 is a prime, so different stripes have different groups for up to 64 stripes.
abbrev pub group_at : ℕ → ℕ → ℕ
group_at groups stripe = (71 * stripe) % groups

-- The group of a call, of `groups` groups: that of its key's stripe in a cache of as many stripes.
abbrev pub group_of : ℕ → Call → ℕ
group_of groups call = group_at groups (stripe_of groups (key_of call))

-- The group of each call.
abbrev pub groups_in : Groups → List Call → List ℕ
groups_in g calls = map (group_of (length g.firsts.items)) calls

-- The numbers below `k` of the calls in group `g`, in increasing order. `of` has the group of each call.
abbrev pub members : List ℕ → ℕ → ℕ → List ℕ
members of g zero = []
members of g (suc k) = members of g k ++ (if slice_index of k == g then k ∷ [] else [])

-- The concatenated members of several groups.
abbrev pub members_of_all : List ℕ → ℕ → List ℕ → List ℕ
members_of_all of k gs = flat_map (λ (g : ℕ). members of g k) gs

-- `IsFirst` holds if `r` is the first number from `j` on of a call in group `g`, or the count of calls if there is none.
pub record IsFirst (of : List ℕ) (g j r : ℕ) : Type 0 where
  pub from : j ≤ r
  pub most : r ≤ length of
  pub none : (k : ℕ) → j ≤ k → k < r → slice_index of k ≢ g
  pub here : r < length of → slice_index of r ≡ g

-- `AreLinked` holds if the calls from `j` on are linked: `firsts` has the first call of each of `groups` groups,
-- and `nexts` has the next call in the group of each call.
pub record AreLinked (of : List ℕ) (groups j : ℕ) (firsts nexts : List ℕ) : Type 0 where
  pub groups_are : length firsts ≡ groups
  pub calls_are : length nexts ≡ length of
  pub within : (k : ℕ) → j ≤ k → k < length of → slice_index of k < groups
  pub first : (g : ℕ) → g < groups → IsFirst of g j (slice_index firsts g)
  pub next : (k : ℕ) → j ≤ k → k < length of → IsFirst of (slice_index of k) (k + 1) (slice_index nexts k)

-- `AreGroups` holds if all calls are linked.
abbrev pub AreGroups : List Call → Groups → Type 0
AreGroups calls g = AreLinked (groups_in g calls) (length g.firsts.items) 0 g.firsts.items g.nexts.items

-- `AreBlank` holds if `groups` groups are empty, and there is a link for each of `calls` calls, at most 4,096.
abbrev pub AreBlank : ℕ → ℕ → Groups → Type 0
AreBlank calls groups g = (g.firsts.items ≡ replicate groups calls) × (length g.nexts.items ≡ calls) × IsJobCount calls

-- `AreDifferent` holds if the numbers are distinct and less than `n`.
abbrev pub AreDifferent : ℕ → List ℕ → Type 0
AreDifferent n xs = (x : ℕ) → times x xs ≤ one_if (ltb x n)
