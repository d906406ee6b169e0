-- Splitting one word off a block or its `&`, and converting between uninitialized memory and words.
use Rattle.std.proofs.Common.{◌≡◌, ℕ, zero, suc, ◌+◌, ◌*◌, ◌<◌, ◌≤◌, List, [], ◌∷◌, ◌++◌, length, take, drop, set, get_or, replicate, Some, None, refl, sym, ap, ◌∙◌, arith, w64}
use Rattle.std.specs.Prelude.{Option}
use Rattle.std.proofs.lemmas.List.{take-append-drop, length-take, set_split}
use Rattle.std.proofs.Math.Seq.{drop-cons}
use seplogic.Ra.Ura.{Ura}
use base.Fraction.{full_share}
use base.Logic.{ent, sep, via, snd∗}
use base.Fml.{Lft, Fml, ftrue, fsep, fat, froom}
use mir.Syntax.{ty_int, ty_array}
use mir.Val.{vint}
use types.Logic.{Logic, sem}
use types.Kit.{‵, ◌⊛◌, ◌$◌, ◌∵◌, !, qed, by, move, keep, use1, use2, split, fsplit, fjoin, frame, rewrite, done}
use types.Kit.{drop as skip}
use denote.Plain.{uint_out}
use denote.Steps.{nothing}
use denote.Builtin.{u64}
use denote.Memory.{part_at}
use Rattle.rawwords.specs.Owned.{place_owned, places_owned, place_lent, places_lent}

module _ {M : Type 1} {𝓤 : Ura M} (𝓛 : Logic 𝓤) (b : ℕ) where
  open 𝓛 use {H}

  abbrev Row : ℕ → List (Option ℕ) → Fml
  Row = places_owned b

  cut : (xs ys : List (Option ℕ)) (o at : ℕ) → at ≡ length xs * 8 + o → ent 𝓤 (sem 𝓛 (Row o (xs ++ ys))) (sep 𝓤 (sem 𝓛 (Row o xs)) (sem 𝓛 (Row at ys)))
  cut [] ys o at e = qed 𝓛 (‵ (Row o ys) ∷ []) ∵ rewrite ! 0 (λ (k : ℕ). ‵ (Row k ys)) {x = at} (omega arith) refl $ nothing ! $ done !
  cut (x ∷ xs) ys o at e = qed 𝓛 (‵ (Row o (x ∷ xs ++ ys)) ∷ []) ∵ fsplit ! $ move ! (1 ∷ []) $
      use1 𝓛 (‵ (Row (o + 8) xs) ⊛ ‵ (Row at ys)) (cut xs ys (o + 8) at (omega arith)) $ split ! $ move ! (2 ∷ 0 ∷ []) $ fjoin ! $ done !

  glue : (xs ys : List (Option ℕ)) (o at : ℕ) → at ≡ length xs * 8 + o → ent 𝓤 (sep 𝓤 (sem 𝓛 (Row o xs)) (sem 𝓛 (Row at ys))) (sem 𝓛 (Row o (xs ++ ys)))
  glue [] ys o at e = qed 𝓛 (‵ ftrue ∷ ‵ (Row at ys) ∷ []) ∵ skip ! $ rewrite ! 0 (λ (k : ℕ). ‵ (Row k ys)) {x = o} (omega arith) refl $ done !
  glue (x ∷ xs) ys o at e = qed 𝓛 (‵ (Row o (x ∷ xs)) ∷ ‵ (Row at ys) ∷ []) ∵ fsplit ! $ move ! (1 ∷ 2 ∷ []) $
      use2 𝓛 (‵ (Row (o + 8) (xs ++ ys))) (glue xs ys (o + 8) at (omega arith)) $ move ! (1 ∷ 0 ∷ []) $ fjoin ! $ done !

  -- A word is writable memory, whether or not it is written.
  pub room_of : (o : ℕ) (p : Option ℕ) → ent 𝓤 (sem 𝓛 (place_owned b o p)) (H.room (ty_int w64) b o)
  room_of o (Some x) = qed 𝓛 (‵ (part_at u64 full_share x b o) ∷ []) ∵
      use1 𝓛 (‵ (fat full_share (ty_int w64) b o (vint w64 x))) (uint_out 𝓛 full_share w64 x b o) $ by ! (𝓛.laws.at_room (ty_int w64) b o (vint w64 x))
  room_of o None = 𝓛.laws.raw-room (ty_int w64) b o

  module _ (o : ℕ) (ps : List (Option ℕ)) (i : ℕ) where
    -- The words other than word `i`.
    abbrev pub Besides : Fml
    Besides = fsep (Row o (take i ps)) (Row (i * 8 + o + 8) (drop (suc i) ps))

    before : i ≤ length ps → i * 8 + o ≡ length (take i ps) * 8 + o
    before le = let long : i ≡ length (take i ps) = omega (arith, length-take i ps) in ap (λ k. k * 8 + o) long

    pub place_out : i < length ps → ent 𝓤 (sem 𝓛 (Row o ps)) (sep 𝓤 (H.room (ty_int w64) b (i * 8 + o)) (sem 𝓛 Besides))
    place_out lt = qed 𝓛 (‵ (Row o ps) ∷ []) ∵
        rewrite ! 0 (λ (l : List (Option ℕ)). ‵ (Row o l)) (sym (take-append-drop i ps) ∙ ap (λ l. take i ps ++ l) (drop-cons ps i None lt)) refl $
        use1 𝓛 (‵ (Row o (take i ps)) ⊛ ‵ (Row (i * 8 + o) (get_or ps i None ∷ drop (suc i) ps))) (cut (take i ps) (get_or ps i None ∷ drop (suc i) ps) o (i * 8 + o) (before (omega arith))) $
        split ! $ move ! (1 ∷ []) $ fsplit ! $ move ! (2 ∷ 1 ∷ []) $ fjoin ! $ move ! (1 ∷ []) $
        use1 𝓛 (‵ (froom (ty_int w64) b (i * 8 + o))) (room_of (i * 8 + o) (get_or ps i None)) $ done !

    pub place_in : i < length ps → (p : Option ℕ) → ent 𝓤 (sep 𝓤 (sem 𝓛 (place_owned b (i * 8 + o) p)) (sem 𝓛 Besides)) (sem 𝓛 (Row o (set ps i p)))
    place_in lt p = qed 𝓛 (‵ (place_owned b (i * 8 + o) p) ∷ ‵ Besides ∷ []) ∵ move ! (1 ∷ []) $ fsplit ! $ move ! (2 ∷ 1 ∷ []) $ fjoin ! $ move ! (1 ∷ 0 ∷ []) $
        use2 𝓛 (‵ (Row o (take i ps ++ p ∷ drop (suc i) ps))) (glue (take i ps) (p ∷ drop (suc i) ps) o (i * 8 + o) (before (omega arith))) $
        rewrite ! 0 (λ (l : List (Option ℕ)). ‵ (Row o l)) (sym (set_split ps i p lt)) refl $ done !

  pub of_room : (n o : ℕ) → ent 𝓤 (H.room (ty_array (ty_int w64) n) b o) (sem 𝓛 (Row o (replicate n None)))
  of_room zero o = qed 𝓛 (‵ (froom (ty_array (ty_int w64) 0) b o) ∷ []) ∵ keep ! [] $ done !
  of_room (suc n) o = qed 𝓛 (‵ (froom (ty_array (ty_int w64) (suc n)) b o) ∷ []) ∵
      use1 𝓛 (‵ (froom (ty_int w64) b o) ⊛ ‵ (froom (ty_array (ty_int w64) n) b (o + 8))) (𝓛.laws.room_uncons (ty_int w64) n b o) $ split ! $
      use1 𝓛 (‵ (place_owned b o None)) (𝓛.laws.room-raw (ty_int w64) b o) $ frame ! $ by ! (of_room n (o + 8))

  pub to_room : (ps : List (Option ℕ)) (o : ℕ) → ent 𝓤 (sem 𝓛 (Row o ps)) (H.room (ty_array (ty_int w64) (length ps)) b o)
  to_room [] o = 𝓛.laws.room_nil (ty_int w64) b o
  to_room (p ∷ ps) o = qed 𝓛 (‵ (place_owned b o p) ∷ ‵ (Row (o + 8) ps) ∷ []) ∵
      use1 𝓛 (‵ (froom (ty_int w64) b o)) (room_of o p) $ move ! (1 ∷ []) $
      use1 𝓛 (‵ (froom (ty_array (ty_int w64) (length ps)) b (o + 8))) (to_room ps (o + 8)) $ move ! (1 ∷ []) $ by ! (𝓛.laws.room_cons (ty_int w64) (length ps) b o)

  module _ (κ : Lft) where
    abbrev Seen : ℕ → List (Option ℕ) → Fml
    Seen o ps = places_lent b o ps κ

    pub place_seen : (ps : List (Option ℕ)) (i o at : ℕ) → i < length ps → at ≡ i * 8 + o → ent 𝓤 (sem 𝓛 (Seen o ps)) (sem 𝓛 (place_lent b at (get_or ps i None) κ))
    place_seen [] i o at lt e = absurd (omega arith)
    place_seen (p ∷ ps) zero o at lt e = let same : o ≡ at = omega arith in
        qed 𝓛 (‵ (Seen o (p ∷ ps)) ∷ []) ∵ fsplit ! $ keep ! (0 ∷ []) $ rewrite ! 0 (λ (k : ℕ). ‵ (place_lent b k p κ)) same refl $ done !
    place_seen (p ∷ ps) (suc i) o at lt e =
        via 𝓤 (sem 𝓛 (Seen (o + 8) ps)) (snd∗ 𝓤 (sem 𝓛 (place_lent b o p κ)) (sem 𝓛 (Seen (o + 8) ps))) (place_seen ps i (o + 8) at (omega arith) (omega arith))
