-- The bounds of an accepted class exist.
use Rattle.std.proofs.Common.{◌≡◌, ℕ, ◌<◌, true, List, Option, Some, None, refl, sym, ap, ◌∙◌, subst, arith}
use Rattle.std.specs.Prelude.{slice_get, not, IsSome, is_some, ℤ, pos}
use Rattle.std.proofs.lemmas.Bool.{and_from, false≢true, false_from_ne_true}
use Rattle.std.proofs.lemmas.Option.{slice_get-get_or}
use Rattle.jtypes.specs.declared.refusal.Refusal.TheVariants.{NoProcess}
use Rattle.jtypes.specs.Lists.{same_bytes}
use Rattle.constpool.specs.Names.{init_name, process_name, process_descriptor}
use Rattle.classfile.specs.View.{ClassView, MethodView, view_of}
use Rattle.decode.specs.declared.instruction.Placed.{Placed}
use Rattle.decode.specs.Places.{IsTarget, falls_through}
use Rattle.typecheck.specs.Typing.{Method, Class, instruction_at, process_from, number_of_process, IsProcessOf, call_of}
use Rattle.bounds.specs.Paths.{StandsAt}
use Rattle.bounds.specs.Table.{bounds_of}
use Rattle.bounds.proofs.Greatest.{tables_are_bounds}
use Rattle.bounds.proofs.FilledTables.{each_has_table}
use Rattle.verdict.specs.Shape.{IsProcess}
use Rattle.verdict.specs.Verdict.{IsAccepted, IsClassOf, by_shape}
use Rattle.verdict.specs.Checked.{IsMember, IsChecked, is_other, members}
use Rattle.soundness.specs.Bounded.{CheckedLeadsOn, AcceptedHasBounds}
use Rattle.verdict.proofs.Texts.{same_is, same_refl}
use Rattle.verdict.proofs.OwnCalls.{none_is_process, process_found}
use Rattle.soundness.proofs.Callees.{entry_of, method_at_number}
use Rattle.soundness.proofs.GoodStates.{IsInside, has_frame, onward, enters_inside, enters_target}
use Rattle.soundness.proofs.PathsExist.{own_call, starts_inside}
use Rattle.soundness.proofs.SafeRuns.{without_room}
use Rattle.soundness.proofs.AcceptedRanks.{accepted_has_ranks}
use Rattle.soundness.proofs.TypedMethods.{accepted_is_checked}
use Rattle.jtypes.specs.Profile.{Third}

-- ---- the methods except the constructor

member_of : (c : Class) (j : ℕ) (m : Method) → members c j ≡ true → slice_get c.methods j ≡ Some m → (w : MethodView) × IsMember c j w m
member_of c j m e known = go (slice_get c.view.methods j) refl e
  where
    go : (o : Option MethodView) → slice_get c.view.methods j ≡ o → is_other o ≡ true → (w : MethodView) × IsMember c j w m
    go None a b = cc
    go (Some w) a b = (w, record { view = a; method = known; other = λ init. false≢true (sym (ap not (ap (λ x. same_bytes x init_name) init ∙ same_refl init_name)) ∙ b) })

is_member : (c : Class) (j : ℕ) (w : MethodView) (m : Method) → IsMember c j w m → members c j ≡ true
is_member c j w m member = ap is_other member.view ∙ ap not (false_from_ne_true (same_bytes w.name init_name) (λ e. member.other (same_is w.name init_name e)))

inside_is : (m : Method) (q : ℕ) → IsInside m q → IsSome (instruction_at m q)
inside_is m q h = ap is_some h.1

pub checked_leads_on : CheckedLeadsOn
checked_leads_on c ok = record { next = next; target = target; callee = callee; ranks = ok.ordered }
  where
    next : (j q : ℕ) (m : Method) (p : Placed) → members c j ≡ true → StandsAt c j q m p → falls_through p.instruction ≡ true → (q < p.next) × IsSome (instruction_at m p.next)
    next j q m p e s falls =
        let member = member_of c j m e s.method in
        let typed = ok.typed j member.0 m member.1 in
        let formed = ok.formed j member.0 m member.1 in
        let f = has_frame m.code typed.0 q p typed.1.each_has_one s.instruction in
        let o = typed.1.outcome q p f.0 s.instruction f.1 in
        ((onward m.code 0 q p formed.consecutive s.instruction).1, inside_is m p.next (enters_inside c m typed.0 p.next o.0 typed.1 (o.2.falls falls)))

    target : (j q : ℕ) (m : Method) (p : Placed) (z : ℤ) → members c j ≡ true → StandsAt c j q m p → IsTarget p.instruction z → (r : ℕ) × (z ≡ pos r) × (q < r) × IsSome (instruction_at m r)
    target j q m p z e s to =
        let member = member_of c j m e s.method in
        let typed = ok.typed j member.0 m member.1 in
        let formed = ok.formed j member.0 m member.1 in
        let f = has_frame m.code typed.0 q p typed.1.each_has_one s.instruction in
        let o = typed.1.outcome q p f.0 s.instruction f.1 in
        let d = o.2.branches z to in
        let there : IsTarget p.instruction (pos d.0) = subst (λ (x : ℤ). IsTarget p.instruction x) d.2 to in
        (d.0, d.2, formed.forward q d.0 p s.instruction there, inside_is m d.0 (enters_inside c m typed.0 d.0 o.0 typed.1 (enters_target m typed.0 d.0 o.0 d.1 d.3 d.4)))

    callee : (j q k : ℕ) (m : Method) (p : Placed) → members c j ≡ true → StandsAt c j q m p → call_of c.view p.instruction ≡ Some k → (members c k ≡ true) × ((n : Method) × (slice_get c.methods k ≡ Some n) × IsSome (instruction_at n 0))
    callee j q k m p e s call =
        let to = own_call c (without_room c ok) p.instruction k call in
        (is_member c k to.0 to.1 to.2, (to.1, to.2.method, inside_is to.1 0 (starts_inside c (without_room c ok) k to.0 to.1 to.2)))

-- ---- `process`

accepted_has_process : (bytes : List ℕ) (c : Class) → IsAccepted Third bytes → IsClassOf Third bytes c → (j : ℕ) × IsProcessOf c j
accepted_has_process bytes c ok of = go (number_of_process c) refl
  where
    absent : number_of_process c ≡ None → ⊥
    absent e = ok NoProcess (by_shape of.pool of.parts of.file (λ a.
        let is : IsProcess a.1 = a.4 in
        let found : slice_get (view_of of.pool of.parts).methods a.0 ≡ Some a.1 = slice_get-get_or (view_of of.pool of.parts).methods a.0 a.1 a.2 ∙ ap (λ x. Some x) a.3 in
        let none : process_from 0 (view_of of.pool of.parts).methods ≡ None = subst (λ (v : ClassView). process_from 0 v.methods ≡ None) of.class.view e in
        let not_it = none_is_process 0 (view_of of.pool of.parts).methods a.0 a.1 none found in
        let name : same_bytes a.1.name process_name ≡ true = ap (λ x. same_bytes x process_name) is.name ∙ same_refl process_name in
        let descriptor : same_bytes a.1.descriptor process_descriptor ≡ true = ap (λ x. same_bytes x process_descriptor) is.descriptor ∙ same_refl process_descriptor in
        false≢true (sym not_it ∙ and_from _ _ name descriptor)))

    go : (o : Option ℕ) → number_of_process c ≡ o → (j : ℕ) × IsProcessOf c j
    go None e = absurd (absent e)
    go (Some j) e = (j, e)

process_member : (c : Class) → IsChecked c → (j : ℕ) → IsProcessOf c j → (w : MethodView) × (m : Method) × IsMember c j w m
process_member c ok j is =
    let p = process_found 0 c.view.methods j is in
    let view : slice_get c.view.methods j ≡ Some p.0 = subst (λ x. slice_get c.view.methods x ≡ Some p.0) (let h = p.2 in omega (arith, h)) p.3 in
    let m = method_at_number c.view.methods c.methods j p.0 ok.count view in
    let entry = entry_of c (without_room c ok) j m.0 is m.1 in
    (entry.view, m.0, entry.member)

pub accepted_has_bounds : AcceptedHasBounds
accepted_has_bounds bytes c accepted of =
    let ranks = accepted_has_ranks bytes c accepted of in
    let ok = accepted_is_checked bytes c ranks.0 accepted of ranks.1 in
    let process = accepted_has_process bytes c accepted of in
    let on = checked_leads_on c ok in
    let table = each_has_table c (members c) on in
    let entry = process_member c ok process.0 process.1 in
    (process.0, bounds_of (table.0 process.0 0), process.1, tables_are_bounds c (members c) table.0 process.0 entry.1 on table.1 (is_member c process.0 entry.0 entry.1 entry.2) entry.2.method (inside_is entry.1 0 (starts_inside c (without_room c ok) process.0 entry.0 entry.1 entry.2)))
