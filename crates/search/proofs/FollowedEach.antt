-- What is followed in each method.
use Rattle.std.proofs.Common.{◌≡◌, ℕ, zero, suc, List, [], ◌∷◌, ◌++◌, length, Some, refl, sym, ap, ◌∙◌, subst, ◌⊎◌, inl, inr}
use Rattle.std.specs.Prelude.{slice_get}
use Rattle.typecheck.specs.declared.typed.Typed.{Typed}
use Rattle.search.specs.declared.node.Following.{Following}
use Rattle.search.specs.Followed.{IsFollowing}

follows_either : (fs : List Following) (f g : Following) (i : ℕ) → slice_get (fs ++ f ∷ []) i ≡ Some g → (slice_get fs i ≡ Some g) ⊎ ((i ≡ length fs) × (f ≡ g))
follows_either [] f g zero e = inr (refl, cc)
follows_either [] f g (suc i) e = absurd cc
follows_either (x ∷ fs) f g zero e = inl e
follows_either (x ∷ fs) f g (suc i) e = go (follows_either fs f g i e)
  where
    go : (slice_get fs i ≡ Some g) ⊎ ((i ≡ length fs) × (f ≡ g)) → (slice_get fs i ≡ Some g) ⊎ ((suc i ≡ suc (length fs)) × (f ≡ g))
    go (inl h) = inl h
    go (inr (h, same)) = inr (ap suc h, same)

-- one more method
pub followings_more : (rows : List Typed) (fs next : List Following) (row : Typed) (f : Following) (n : ℕ) → length fs ≡ n → next ≡ fs ++ f ∷ [] → slice_get rows n ≡ Some row → IsFollowing rows row f
    → ((i : ℕ) (x : Typed) (g : Following) → slice_get rows i ≡ Some x → slice_get fs i ≡ Some g → IsFollowing rows x g)
    → (i : ℕ) (x : Typed) (g : Following) → slice_get rows i ≡ Some x → slice_get next i ≡ Some g → IsFollowing rows x g
followings_more rows fs next row f n size e at is old i x g h k = go (follows_either fs f g i (ap (λ (l : List Following). slice_get l i) (sym e) ∙ k))
  where
    go : (slice_get fs i ≡ Some g) ⊎ ((i ≡ length fs) × (f ≡ g)) → IsFollowing rows x g
    go (inl l) = old i x g h l
    go (inr (j, same)) =
        let here : slice_get rows i ≡ Some row = ap (slice_get rows) (j ∙ size) ∙ at in
        let one : row ≡ x = cc (here, h) in
        subst (λ (y : Typed). IsFollowing rows y g) one (subst (λ (y : Following). IsFollowing rows row y) same is)
