-- The types of a method's local variables: the current ones, and numbered snapshots of them.
use Rattle.std.specs.Prelude.{◌≡◌, ℕ, ◌<◌, ◌+◌, List, [], ◌∷◌, ◌++◌, length, take, All, slice_index_or, true, ◌%◌, nat_lt, if◌then◌else◌, replicate}
use Rattle.jtypes.specs.declared.types.JType.{JType}
use Rattle.jtypes.specs.declared.types.JType.TheVariants.{Top}
use Rattle.locals.specs.Fits.{each_fits}

pub record Held : Type 0 where
  pub row : List JType
  pub kept : List (List JType)

-- the page with a number
abbrev pub page : List (List JType) → ℕ → List JType
page pages n = slice_index_or pages n []

-- the types of the pages with these numbers
abbrev pub row_of : List (List JType) → List ℕ → List JType
row_of pages [] = []
row_of pages (n ∷ ns) = page pages n ++ row_of pages ns

-- the lengths of the pages with these numbers
abbrev pub cut_of : List (List JType) → List ℕ → List ℕ
cut_of pages [] = []
cut_of pages (n ∷ ns) = length (page pages n) ∷ cut_of pages ns

-- the pages of `count` local variables of type Top: the last page and, if there are others, one full page for all of them
abbrev pub blank_pages : ℕ → List (List JType)
blank_pages count = replicate (count % 256) Top ∷ (if nat_lt count 256 then [] else replicate 256 Top ∷ [])

-- `AreInside` holds if there is a page with each of these numbers
abbrev pub AreInside : List (List JType) → List ℕ → Type 0
AreInside pages ns = All (λ n. n < length pages) ns

-- `IsCutAs` holds if the page numbers exist, and the pages have the lengths of those of `row`
pub record IsCutAs (pages : List (List JType)) (row : List ℕ) (ns : List ℕ) : Type 0 where
  pub inside : AreInside pages ns
  pub cut : cut_of pages ns ≡ cut_of pages row

-- `AreCut` holds if all page numbers exist, and the snapshots have pages of the same lengths as the current types
pub record AreCut (pages : List (List JType)) (kept : List (List ℕ)) (row : List ℕ) : Type 0 where
  pub inside : AreInside pages row
  pub others : All (IsCutAs pages row) kept

-- `IsPlace` holds if the index `n` is at offset `at` in the page at position `i`
pub record IsPlace (pages : List (List JType)) (row : List ℕ) (n : ℕ) (i : ℕ) (at : ℕ) : Type 0 where
  pub index : i < length row
  pub inside : at < length (page pages (slice_index_or row i 0))
  pub sum : n ≡ length (row_of pages (take i row)) + at

-- `AreFitting` holds if `fitting` has, for each page, the number of a page that is assignable to it
pub record AreFitting (pages : List (List JType)) (fitting : List ℕ) : Type 0 where
  pub len : length fitting ≡ length pages
  pub inside : AreInside pages fitting
  pub each : (d : ℕ) → d < length pages → each_fits (page pages (slice_index_or fitting d 0)) (page pages d) ≡ true
