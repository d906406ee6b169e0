-- The search among the methods of a class, in order.
use Rattle.std.proofs.Common.{◌≡◌, ◌≢◌, ◌<◌, ◌+◌, ℕ, suc, add-one, true, false, if◌then◌else◌, List, [], ◌∷◌, length, drop, drop-cons, Option, Some, None, sym, ap, ◌∙◌}
use Rattle.std.specs.Prelude.{slice_get}
use Rattle.std.proofs.lemmas.Option.{slice_get_within, get_or_from_slice_get, slice_get-get_or}
use Rattle.constpool.specs.Lookup.{MemberRef}
use Rattle.classfile.specs.View.{MethodView}
use Rattle.frames.specs.Members.{is_method, numbered}

drop_at : {A : Type 0} (xs : List A) (k : ℕ) (x : A) → slice_get xs k ≡ Some x → drop k xs ≡ x ∷ drop (k + 1) xs
drop_at xs k x e =
    drop-cons xs k x (slice_get_within xs k x e) ∙ ap (λ y. y ∷ drop (suc k) xs) (get_or_from_slice_get xs k x x e) ∙ ap (λ n. x ∷ drop n xs) (sym (add-one k))

-- the search from index `k` on finds the method at `k`, or continues at `k + 1`
at_number : (methods : List MethodView) (m : MemberRef) (k : ℕ) (v : MethodView) → slice_get methods k ≡ Some v
    → numbered k (drop k methods) m ≡ (if is_method m v then Some (k, v) else numbered (k + 1) (drop (k + 1) methods) m)
at_number methods m k v e =
    ap (λ vs. numbered k vs m) (drop_at methods k v e) ∙ ap (λ n. if is_method m v then Some (k, v) else numbered n (drop (k + 1) methods) m) (sym (add-one k))

pub number_found : (methods : List MethodView) (m : MemberRef) (k : ℕ) (v : MethodView) (found : Option (ℕ × MethodView)) → slice_get methods k ≡ Some v
    → is_method m v ≡ true → found ≡ numbered k (drop k methods) m → Some (k, v) ≡ found
number_found methods m k v found e is so_far =
    sym (so_far ∙ at_number methods m k v e ∙ ap (λ b. if b then Some (k, v) else numbered (k + 1) (drop (k + 1) methods) m) is)

pub number_later : (methods : List MethodView) (m : MemberRef) (k : ℕ) (v : MethodView) (found : Option (ℕ × MethodView)) → slice_get methods k ≡ Some v
    → is_method m v ≡ false → found ≡ numbered k (drop k methods) m → found ≡ numbered (k + 1) (drop (k + 1) methods) m
number_later methods m k v found e isnt so_far =
    so_far ∙ at_number methods m k v e ∙ ap (λ b. if b then Some (k, v) else numbered (k + 1) (drop (k + 1) methods) m) isnt

pub none_within : (methods : List MethodView) (k : ℕ) → k < length methods → slice_get methods k ≢ None
none_within methods k lt none =
    let blank : MethodView = record { flags = 0; name = []; descriptor = [] } in
    let some = slice_get-get_or methods k blank lt in
    cc
