-- In a cover, a path through a method without own calls and new arrays has at most one step more than its start's rank.
use Rattle.std.proofs.Common.{◌≡◌, ℕ, suc, ◌≤◌, Bool, true, Some, None, refl, sym, ap, ◌∙◌, subst, arith}
use Rattle.std.specs.Prelude.{slice_get}
use Rattle.decode.specs.declared.instruction.Placed.{Placed}
use Rattle.typecheck.specs.Typing.{Method, Class, instruction_at, call_of}
use Rattle.bounds.specs.Paths.{Cost, own_slots, words_at}
use Rattle.soundness.proofs.StraightCode.{Each, each_at}
use Rattle.unrolled.specs.Graph.{Node}
use Rattle.unrolled.specs.Rules.{Rules}
use Rattle.unrolled.specs.Paths.{Path, ends, leads, calls}
use Rattle.unrolled.specs.Cover.{IsCover}

-- The instruction is no own call.
abbrev pub IsLone : Class → Placed → Type 0
IsLone c p = call_of c.view p.instruction ≡ None

-- The instruction is no `newarray`.
abbrev pub IsDry : Method → Placed → Type 0
IsDry m p = (place : ℕ) → words_at m place p.instruction ≡ 0

pub record IsShort (m : Method) (n : ℕ) (k : Cost) : Type 0 where
  pub steps : k.steps ≤ n
  pub words : k.words ≡ 0
  pub slots : k.slots ≡ own_slots m
  pub depth : k.depth ≡ 1

module _ (c : Class) (rules : Rules) (inside : ℕ → Node → Bool) (rank : ℕ → Node → ℕ) (cover : IsCover c rules inside rank) (j : ℕ) (m : Method) (known : slice_get c.methods j ≡ Some m) (lone : Each (IsLone c) m.code) (dry : Each (IsDry m) m.code) where
  one_method : (i : ℕ) (n : Method) → i ≡ j → slice_get c.methods i ≡ Some n → n ≡ m
  one_method i n same there = let both : Some n ≡ Some m = sym there ∙ ap (slice_get c.methods) same ∙ known in cc both

  pub short_path : {i : ℕ} {x : Node} {k : Cost} → Path c rules i x k → i ≡ j → inside i x ≡ true → IsShort m (suc (rank i x)) k
  short_path {i} (ends n p s e) same h =
      let one = one_method i n same s.method in
      record { steps = omega arith; words = refl; slots = ap own_slots one; depth = refl }
  short_path {i} {x} (leads n p w y s none at path) same h =
      let one = one_method i n same s.method in
      let code : instruction_at m x.place ≡ Some p = subst (λ (z : Method). instruction_at z x.place ≡ Some p) one s.instruction in
      let next = cover.closed i x y n p w h s at in
      let rest = short_path path same next.0 in
      let free : words_at n x.place p.instruction ≡ 0 = ap (λ (z : Method). words_at z x.place p.instruction) one ∙ each_at (IsDry m) m.code dry x.place p code x.place in
      let few = rest.steps in
      let lower = next.1 in
      let none_later = rest.words in
      record { steps = omega (arith, few, lower); words = omega (arith, free, none_later); slots = rest.slots; depth = rest.depth }
  short_path {i} {x} (calls n p callee o w y s call there at inner path) same h =
      let one = one_method i n same s.method in
      let code : instruction_at m x.place ≡ Some p = subst (λ (z : Method). instruction_at z x.place ≡ Some p) one s.instruction in
      let none : call_of c.view p.instruction ≡ None = each_at (IsLone c) m.code lone x.place p code in
      let some : call_of c.view p.instruction ≡ Some callee = call in
      absurd (cc (none, some))
