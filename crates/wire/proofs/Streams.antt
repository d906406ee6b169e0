-- Consecutive writes.
use Rattle.std.proofs.Common.{◌≡◌, ℕ, List, ◌++◌, Option, sym, ap, ◌∙◌, append_assoc, inl, inr, subst}
use Rattle.std.specs.Prelude.{Result, Ok, Err, OnOk, OnErr}
use Rattle.std.proofs.KnownBytes.{Appends-trans}
use Rattle.wire.specs.Counting.{Counting, HasRisen, StaysCounted, HasFailed}
use Rattle.wire.specs.Streams.{Wrote, WrotePart}

-- A count that is unchanged by one step and rises in the next has risen over both.
pub risen_later : (a b c : ℕ) → b ≡ a → HasRisen b c → HasRisen a c
risen_later a b c e h = subst (λ n. HasRisen n c) e h

pub stays_on : {T : Type 0} (a b c : Counting T) → StaysCounted a b → StaysCounted b c → StaysCounted a c
stays_on a b c h k = (k.0 ∙ h.0, k.1 ∙ h.1)

pub failed_later : {T : Type 0} (a b c : Counting T) → StaysCounted a b → HasFailed b c → HasFailed a c
failed_later a b c h (inl k) = inl (risen_later a.failures b.failures c.failures h.0 k)
failed_later a b c h (inr k) = inr (risen_later a.idle b.idle c.idle h.1 k)

pub wrote_both : {T : Type 0} (contents : T → Option (List ℕ)) (a b c : Counting T) (xs ys : List ℕ) → Wrote contents a b xs → Wrote contents b c ys → Wrote contents a c (xs ++ ys)
wrote_both contents a b c xs ys h k = record {
  appended = Appends-trans _ _ _ xs ys h.appended k.appended;
  kept = stays_on a b c h.kept k.kept;
}

pub wrote_first : {T : Type 0} (contents : T → Option (List ℕ)) (a b : Counting T) (xs ys : List ℕ) → WrotePart contents a b xs → WrotePart contents a b (xs ++ ys)
wrote_first contents a b xs ys h =
    let (front, back, e, appended) = h.part in
    record {
      part = (front, back ++ ys, ap (λ l. l ++ ys) e ∙ append_assoc front back ys, appended);
      failed = h.failed;
    }

pub wrote_some : {T : Type 0} (contents : T → Option (List ℕ)) (a b c : Counting T) (xs ys : List ℕ) → Wrote contents a b xs → WrotePart contents b c ys → WrotePart contents a c (xs ++ ys)
wrote_some contents a b c xs ys h k =
    let (front, back, e, appended) = k.part in
    record {
      part = (xs ++ front, back, ap (λ l. xs ++ l) e ∙ sym (append_assoc xs front back), Appends-trans _ _ _ xs front h.appended appended);
      failed = failed_later a b c h.kept k.failed;
    }

pub on_err_always : {A E P : Type 0} (r : Result A E) → P → OnErr r P
on_err_always (Ok x) p = tt
on_err_always (Err e) p = p

pub on_err_map : {A E P Q : Type 0} (r : Result A E) → (P → Q) → OnErr r P → OnErr r Q
on_err_map (Ok x) f p = tt
on_err_map (Err e) f p = f p

pub on_ok_map : {A E P Q : Type 0} (r : Result A E) → (P → Q) → OnOk r P → OnOk r Q
on_ok_map (Ok x) f p = f p
on_ok_map (Err e) f p = tt
