-- The same bytes read in a profile and in the one after it.
use Rattle.std.proofs.Common.{◌≡◌, ℕ, ◌+◌, ◌<◌, Bool, true, false, ltb, List, [], ◌∷◌, ◌++◌, length, Option, None, refl, sym, ap, ◌∙◌, subst, append_assoc, arith, eqb}
use Rattle.std.proofs.lemmas.Bool.{eqb-true}
use Rattle.std.proofs.lemmas.List.{length-append, append-nil}
use Rattle.std.specs.Prelude.{◌⊎◌}
use Rattle.std.proofs.Common.{inl, inr}
use Rattle.jtypes.specs.declared.refusal.Refusal.{Refusal}
use Rattle.jtypes.specs.declared.refusal.Refusal.TheVariants.{OutsideProfile, UnknownOpcode}
use Rattle.jtypes.specs.Layout.{chosen, stopped, IsLaidOut, Stands}
use Rattle.constpool.specs.Lookup.{Slot}
use Rattle.jtypes.specs.Profile.{Profile, First, Second, Third}
use Rattle.decode.specs.declared.instruction.Form.{Form}
use Rattle.decode.specs.declared.instruction.Instruction.{Instruction}
use Rattle.decode.specs.declared.instruction.Placed.{Placed}
use Rattle.decode.specs.Table.{table, added, form_in, form_at}
use Rattle.decode.specs.Profiles.{IsNext}
use Rattle.decode.specs.Code.{one, by_form, IsSequence, StopsWith}
use Rattle.decode.proofs.Runs.{takes_one}

-- ---- the table

-- `Agrees` holds if an opcode has the same form in both profiles, or is below CA and has none in the earlier one
Agrees : Profile → Profile → ℕ → Type 0
Agrees p q opcode = (form_at p opcode ≡ form_at q opcode) ⊎ ((form_at p opcode ≡ None) × (ltb opcode 0xCA ≡ true))

second_agrees : (opcode : ℕ) → Agrees First Second opcode
unfolding form_at Agrees
second_agrees opcode = go (eqb 0xAA opcode) refl (eqb 0xAB opcode) refl (eqb 0xC4 opcode) refl (eqb 0xC8 opcode) refl
  where
    outside : (n : ℕ) → (form_in table n ≡ None) × (ltb n 0xCA ≡ true) → eqb n opcode ≡ true → Agrees First Second opcode
    outside n h e = inr (subst (λ (o : ℕ). (form_in table o ≡ None) × (ltb o 0xCA ≡ true)) (eqb-true n opcode e) h)

    go : (a : Bool) → eqb 0xAA opcode ≡ a → (b : Bool) → eqb 0xAB opcode ≡ b → (c : Bool) → eqb 0xC4 opcode ≡ c → (d : Bool) → eqb 0xC8 opcode ≡ d → Agrees First Second opcode
    go true e b f c g d h = outside 0xAA (refl, refl) e
    go false e true f c g d h = outside 0xAB (refl, refl) f
    go false e false f true g d h = outside 0xC4 (refl, refl) g
    go false e false f false g true h = outside 0xC8 (refl, refl) h
    go false e false f false g false h = inl (rw (e, f, g, h) refl)

third_agrees : (opcode : ℕ) → Agrees Second Third opcode
unfolding form_at Agrees
third_agrees opcode = go (eqb 0xB2 opcode) refl (eqb 0xBB opcode) refl
  where
    outside : (n : ℕ) → (form_in (added ++ table) n ≡ None) × (ltb n 0xCA ≡ true) → eqb n opcode ≡ true → Agrees Second Third opcode
    outside n h e = inr (subst (λ (o : ℕ). (form_in (added ++ table) o ≡ None) × (ltb o 0xCA ≡ true)) (eqb-true n opcode e) h)

    go : (a : Bool) → eqb 0xB2 opcode ≡ a → (b : Bool) → eqb 0xBB opcode ≡ b → Agrees Second Third opcode
    go true e b f = outside 0xB2 (refl, refl) e
    go false e true f = outside 0xBB (refl, refl) f
    go false e false f = inl (rw (e, f) refl)

agree : (p q : Profile) → IsNext p q → (opcode : ℕ) → Agrees p q opcode
agree First Second is opcode = second_agrees opcode
agree Second Third is opcode = third_agrees opcode
agree First First is opcode = absurd is
agree First Third is opcode = absurd is
agree Second First is opcode = absurd is
agree Second Second is opcode = absurd is
agree Third q is opcode = absurd is

-- ---- one instruction

outside_stands : (old : Profile) → (pool : List Slot) (at opcode : ℕ) (bytes : List ℕ) → form_at old opcode ≡ None → ltb opcode 0xCA ≡ true
    → Stands (by_form pool at opcode (form_at old opcode)) bytes (OutsideProfile opcode)
unfolding by_form
outside_stands old pool at opcode bytes none below = rw none (rw below refl)

nothing_outside : (old : Profile) → (pool : List Slot) (at opcode : ℕ) (text : List ℕ) (i : Instruction) → form_at old opcode ≡ None → ltb opcode 0xCA ≡ true
    → IsLaidOut (by_form pool at opcode (form_at old opcode)) text i → ⊥
unfolding by_form
nothing_outside old pool at opcode text i none below h = go (ltb opcode 0xCA) (subst (λ (o : Option Form). IsLaidOut (by_form pool at opcode o) text i) none h)
  where
    go : (b : Bool) → IsLaidOut (chosen {A = Instruction} b (stopped (OutsideProfile opcode)) (stopped UnknownOpcode)) text i → ⊥
    go true k = k
    go false k = k

-- an instruction of the later profile is the same in the earlier one, or a refusal applies there, whatever bytes follow
one_agrees : (old new : Profile) → IsNext old new → (pool : List Slot) (at : ℕ) (front rest : List ℕ) (i : Instruction) → IsLaidOut (one new pool at) front i
    → IsLaidOut (one old pool at) front i ⊎ ((r : Refusal) × Stands (one old pool at) (front ++ rest) r)
unfolding one Agrees
one_agrees old new next pool at front rest i (opcode, f, b, e, h, k) = go (agree old new next opcode)
  where
    go : Agrees old new opcode → IsLaidOut (one old pool at) front i ⊎ ((r : Refusal) × Stands (one old pool at) (front ++ rest) r)
    go (inl same) = inl (opcode, f, b, e, h, subst (λ (o : Option Form). IsLaidOut (by_form pool at opcode o) b i) (sym same) k)
    go (inr (none, below)) = inr (OutsideProfile opcode, inr (opcode, f, b ++ rest, ap (λ (t : List ℕ). t ++ rest) e ∙ append_assoc f b rest, h, outside_stands old pool at opcode (b ++ rest) none below))

stands_agrees : (old new : Profile) → IsNext old new → (pool : List Slot) (at : ℕ) (bytes : List ℕ) (r : Refusal) → Stands (one new pool at) bytes r → (q : Refusal) × Stands (one old pool at) bytes q
unfolding one Agrees
stands_agrees old new next pool at bytes r (inl s) = (r, inl s)
stands_agrees old new next pool at bytes r (inr (opcode, f, b, e, h, k)) = go (agree old new next opcode)
  where
    go : Agrees old new opcode → (q : Refusal) × Stands (one old pool at) bytes q
    go (inl same) = (r, inr (opcode, f, b, e, h, subst (λ (o : Option Form). Stands (by_form pool at opcode o) b r) (sym same) k))
    go (inr (none, below)) = (OutsideProfile opcode, inr (opcode, f, b, e, h, outside_stands old pool at opcode b none below))

one_goes_on : (old new : Profile) → IsNext old new → (pool : List Slot) (at : ℕ) (front : List ℕ) (i : Instruction) → IsLaidOut (one old pool at) front i → IsLaidOut (one new pool at) front i
unfolding one Agrees
one_goes_on old new next pool at front i (opcode, f, b, e, h, k) = go (agree old new next opcode)
  where
    go : Agrees old new opcode → IsLaidOut (one new pool at) front i
    go (inl same) = (opcode, f, b, e, h, subst (λ (o : Option Form). IsLaidOut (by_form pool at opcode o) b i) same k)
    go (inr (none, below)) = absurd (nothing_outside old pool at opcode b i none below k)

-- ---- a code

-- `Stops` holds if the read of these bytes from a pc on stops with a refusal in the profile
Stops : Profile → List Slot → ℕ → List ℕ → Type 0
Stops old pool at bytes =
    (r : Refusal) × (ps : List Placed) × (front : List ℕ) × (back : List ℕ) × (bytes ≡ front ++ back) × IsSequence old pool at front ps × (0 < length back) × Stands (one old pool (at + length front)) back r

sequence_agrees : (old new : Profile) → IsNext old new → (pool : List Slot) (at : ℕ) (text rest : List ℕ) (ps : List Placed) → IsSequence new pool at text ps → IsSequence old pool at text ps ⊎ Stops old pool at (text ++ rest)
unfolding Stops
sequence_agrees old new next pool at text rest [] s = inl s
sequence_agrees old new next pool at text rest (p ∷ ps) (e, f, g, x, n, lo, s) = go (one_agrees old new next pool at f (g ++ rest) p.instruction lo) (sequence_agrees old new next pool (at + length f) g rest ps s)
  where
    whole : text ++ rest ≡ f ++ (g ++ rest)
    whole = ap (λ (t : List ℕ). t ++ rest) x ∙ append_assoc f g rest

    go : IsLaidOut (one old pool at) f p.instruction ⊎ ((r : Refusal) × Stands (one old pool at) (f ++ (g ++ rest)) r)
        → IsSequence old pool (at + length f) g ps ⊎ Stops old pool (at + length f) (g ++ rest)
        → IsSequence old pool at text (p ∷ ps) ⊎ Stops old pool at (text ++ rest)
    go (inr (r, stands)) later =
        let none : List ℕ = [] in
        let here : at ≡ at + length none = omega arith in
        let some : 0 < length (text ++ rest) = omega (arith, takes_one new pool at f p.instruction lo, ap length whole, length-append f (g ++ rest)) in
        let stands' = subst (λ (t : List ℕ). Stands (one old pool at) t r) (sym whole) stands in
        inr (r, [], [], text ++ rest, refl, refl, some, subst (λ (z : ℕ). Stands (one old pool z) (text ++ rest) r) here stands')
    go (inl one_of) (inl rest_of) = inl (e, f, g, x, n, one_of, rest_of)
    go (inl one_of) (inr (r, qs, h, b, w, q, k, stands)) =
        let place : at + length f + length h ≡ at + length (f ++ h) = omega (arith, length-append f h) in
        let parts : text ++ rest ≡ (f ++ h) ++ b = whole ∙ ap (λ (t : List ℕ). f ++ t) w ∙ sym (append_assoc f h b) in
        inr (r, p ∷ qs, f ++ h, b, parts, (e, f, h, refl, n, one_of, q), k, subst (λ (z : ℕ). Stands (one old pool z) b r) place stands)

pub goes_on : (old new : Profile) → IsNext old new → (pool : List Slot) (at : ℕ) (text : List ℕ) (ps : List Placed) → IsSequence old pool at text ps → IsSequence new pool at text ps
goes_on old new next pool at text [] s = s
goes_on old new next pool at text (p ∷ ps) (e, f, g, x, n, lo, s) = (e, f, g, x, n, one_goes_on old new next pool at f p.instruction lo, goes_on old new next pool (at + length f) g ps s)

stops_so : (old : Profile) → (pool : List Slot) (bytes : List ℕ) → ((r : Refusal) → StopsWith old pool bytes r → ⊥) → Stops old pool 0 bytes → ⊥
unfolding Stops
stops_so old pool bytes never (r, ps, front, back, e, s, k, stands) =
    let place : 0 + length front ≡ length front = omega arith in
    never r (ps, front, back, e, s, k, subst (λ (z : ℕ). Stands (one old pool z) back r) place stands)

pub reads_the_same : (old new : Profile) → IsNext old new → (pool : List Slot) (bytes : List ℕ) (code : List Placed) → ((r : Refusal) → StopsWith old pool bytes r → ⊥) → IsSequence new pool 0 bytes code → IsSequence old pool 0 bytes code
reads_the_same old new next pool bytes code never s = go (sequence_agrees old new next pool 0 bytes [] code s)
  where
    go : IsSequence old pool 0 bytes code ⊎ Stops old pool 0 (bytes ++ []) → IsSequence old pool 0 bytes code
    go (inl first) = first
    go (inr stops) = absurd (stops_so old pool bytes never (subst (Stops old pool 0) (append-nil bytes) stops))

pub stops_nowhere : (old new : Profile) → IsNext old new → (pool : List Slot) (bytes : List ℕ) → ((r : Refusal) → StopsWith old pool bytes r → ⊥) → (r : Refusal) → StopsWith new pool bytes r → ⊥
stops_nowhere old new next pool bytes never r (ps, front, back, e, s, k, stands) = go (sequence_agrees old new next pool 0 front back ps s)
  where
    go : IsSequence old pool 0 front ps ⊎ Stops old pool 0 (front ++ back) → ⊥
    go (inl first) = let q = stands_agrees old new next pool (length front) back r stands in never q.0 (ps, front, back, e, first, k, q.1)
    go (inr stops) = stops_so old pool bytes never (subst (Stops old pool 0) (sym e) stops)
