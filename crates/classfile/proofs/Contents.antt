-- Lemmas for the loop that collects the contents of attributes.
use Rattle.std.proofs.Common.{◌≡◌, ℕ, ◌+◌, ◌<◌, ◌≤◌, suc, true, false, List, [], ◌∷◌, ◌++◌, length, drop, get_or, refl, sym, ap, ◌∙◌, append_assoc, drop-cons, add-one}
use Rattle.std.proofs.Math.ListN.{drop_of_length-le}
use Rattle.std.proofs.lemmas.List.{append-nil}
use Rattle.constpool.specs.Lookup.{Slot}
use Rattle.classfile.specs.declared.class_file.Attribute.{Attribute}
use Rattle.classfile.specs.Code.{is_named, contents_named}

named_head : (pool : List Slot) (name : List ℕ) (a : Attribute) (others : List Attribute) → is_named pool name a.name ≡ true → contents_named pool name (a ∷ others) ≡ a.content ∷ contents_named pool name others
unfolding contents_named
named_head pool name a others h = rw h refl

other_head : (pool : List Slot) (name : List ℕ) (a : Attribute) (others : List Attribute) → is_named pool name a.name ≡ false → contents_named pool name (a ∷ others) ≡ contents_named pool name others
unfolding contents_named
other_head pool name a others h = rw h refl

split_at : (attributes : List Attribute) (i : ℕ) (a : Attribute) → i < length attributes → a ≡ get_or attributes i a → drop i attributes ≡ a ∷ drop (i + 1) attributes
split_at attributes i a lt e =
    let here : drop i attributes ≡ get_or attributes i a ∷ drop (i + 1) attributes = rw add-one (drop-cons attributes i a lt) in
    here ∙ ap (λ (x : Attribute). x ∷ drop (i + 1) attributes) (sym e)

pub named_goes_on : (pool : List Slot) (name : List ℕ) (attributes : List Attribute) (i : ℕ) (a : Attribute) (front total : List (List ℕ)) → i < length attributes → a ≡ get_or attributes i a → is_named pool name a.name ≡ true
    → front ++ contents_named pool name (drop i attributes) ≡ total → (front ++ a.content ∷ []) ++ contents_named pool name (drop (i + 1) attributes) ≡ total
named_goes_on pool name attributes i a front total lt e h so_far =
    let one : contents_named pool name (drop i attributes) ≡ a.content ∷ contents_named pool name (drop (i + 1) attributes) = ap (contents_named pool name) (split_at attributes i a lt e) ∙ named_head pool name a (drop (i + 1) attributes) h in
    append_assoc front (a.content ∷ []) (contents_named pool name (drop (i + 1) attributes)) ∙ ap (λ (t : List (List ℕ)). front ++ t) (sym one) ∙ so_far

pub other_goes_on : (pool : List Slot) (name : List ℕ) (attributes : List Attribute) (i : ℕ) (a : Attribute) (front total : List (List ℕ)) → i < length attributes → a ≡ get_or attributes i a → is_named pool name a.name ≡ false
    → front ++ contents_named pool name (drop i attributes) ≡ total → front ++ contents_named pool name (drop (i + 1) attributes) ≡ total
other_goes_on pool name attributes i a front total lt e h so_far =
    let one : contents_named pool name (drop i attributes) ≡ contents_named pool name (drop (i + 1) attributes) = ap (contents_named pool name) (split_at attributes i a lt e) ∙ other_head pool name a (drop (i + 1) attributes) h in
    ap (λ (t : List (List ℕ)). front ++ t) (sym one) ∙ so_far

pub is_done : (pool : List Slot) (name : List ℕ) (attributes : List Attribute) (i : ℕ) (front total : List (List ℕ)) → length attributes ≤ i → front ++ contents_named pool name (drop i attributes) ≡ total → front ≡ total
unfolding contents_named
is_done pool name attributes i front total le so_far =
    let none : drop i attributes ≡ [] = drop_of_length-le attributes le in
    sym (append-nil front) ∙ rw none at so_far
