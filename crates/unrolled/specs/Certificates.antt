-- Certificates: a list of nodes in which each comes before its successors. A Boolean check of the list shows that it is a cover.
use Rattle.std.specs.Prelude.{◌≡◌, ℕ, suc, ◌==◌, Bool, true, false, ◌&&◌, ◌||◌, List, [], ◌∷◌, length, Option, Some, None, slice_get, if◌then◌else◌}
use Rattle.std.specs.Ordering.{int_eq}
use Rattle.decode.specs.declared.instruction.Placed.{Placed}
use Rattle.decode.specs.Places.{is_return}
use Rattle.typecheck.specs.Typing.{Method, Class, instruction_at, call_of}
use Rattle.unrolled.specs.Known.{Known, Wide, Narrow, Number, Count, Sized, Arguments}
use Rattle.unrolled.specs.Graph.{Node, successors}
use Rattle.unrolled.specs.Rules.{Rules}
use Rattle.unrolled.specs.Paths.{callee_node}
use Rattle.unrolled.specs.Cover.{IsCover}

-- a program point: a node with the index of its method
pub record Point : Type 0 where
  pub method : ℕ
  pub node : Node

-- ---- equality

abbrev pub same_known : Known → Known → Bool
same_known Wide Wide = true
same_known Narrow Narrow = true
same_known (Number a) (Number b) = int_eq a b
same_known Count Count = true
same_known (Sized a) (Sized b) = a == b
same_known Arguments Arguments = true
same_known _ _ = false

abbrev pub all_same : List Known → List Known → Bool
all_same [] [] = true
all_same (a ∷ xs) (b ∷ ys) = same_known a b && all_same xs ys
all_same _ _ = false

abbrev pub same_node : Node → Node → Bool
same_node x y = x.place == y.place && (all_same x.locals y.locals && all_same x.operands y.operands)

abbrev pub same_point : Point → Point → Bool
same_point a b = a.method == b.method && same_node a.node b.node

-- ---- the check

abbrev pub is_in : Point → List Point → Bool
is_in k [] = false
is_in k (x ∷ xs) = is_in k xs || same_point k x

abbrev pub all_in : ℕ → List Node → List Point → Bool
all_in j [] later = true
all_in j (y ∷ ys) later = is_in (record { method = j; node = y }) later && all_in j ys later

-- whether an instruction is a return or has a successor
abbrev pub leads_on : Bool → List Node → Bool
leads_on true ys = true
leads_on false [] = false
leads_on false (y ∷ ys) = true

abbrev pub method_in : ℕ → Rules → Class → Placed → Node → Option Method → List Point → Bool
method_in k rules c p x None later = false
method_in k rules c p x (Some n) later = is_in (record { method = k; node = callee_node c rules k n p x }) later

abbrev pub callee_in : Class → Rules → Placed → Node → Option ℕ → List Point → Bool
callee_in c rules p x None later = true
callee_in c rules p x (Some k) later = method_in k rules c p x (slice_get c.methods k) later

abbrev pub checks_at : Class → Rules → ℕ → Node → Placed → List Point → Bool
checks_at c rules j x p later =
    leads_on (is_return p.instruction) (successors c.view (rules j) p x)
    && (all_in j (successors c.view (rules j) p x) later && callee_in c rules p x (call_of c.view p.instruction) later)

abbrev pub checks_in : Class → Rules → ℕ → Node → Option Placed → List Point → Bool
checks_in c rules j x None later = false
checks_in c rules j x (Some p) later = checks_at c rules j x p later

abbrev pub checks_of : Class → Rules → ℕ → Node → Option Method → List Point → Bool
checks_of c rules j x None later = false
checks_of c rules j x (Some m) later = checks_in c rules j x (instruction_at m x.place) later

-- whether the point has an instruction, all its successors and its own callee's start come later, and only a return has no successor
abbrev pub checks : Class → Rules → Point → List Point → Bool
checks c rules k later = checks_of c rules k.method k.node (slice_get c.methods k.method) later

abbrev pub covers : Class → Rules → List Point → Bool
covers c rules [] = true
covers c rules (k ∷ ks) = covers c rules ks && checks c rules k ks

-- the number of points from the last one equal to this on; 0 if there is none
abbrev pub rank_in : Point → List Point → ℕ
rank_in k [] = 0
rank_in k (x ∷ xs) = if is_in k xs then rank_in k xs else suc (length xs)

-- A list that passes the check is a cover.
abbrev pub CertificatesCover : Type 0
CertificatesCover = (c : Class) (rules : Rules) (ks : List Point) → covers c rules ks ≡ true
    → IsCover c rules (λ j x. is_in (record { method = j; node = x }) ks) (λ j x. rank_in (record { method = j; node = x }) ks)
