-- Lemmas about refused descriptors.
use Rattle.std.proofs.Common.{◌≡◌, ◌≢◌, List, ℕ, None, refl, ap, sym, ◌∙◌, ◌⊎◌, inl, inr}
use Rattle.std.specs.Prelude.{IsNone}
use Rattle.jtypes.specs.declared.refusal.Refusal.{Refusal}
use Rattle.jtypes.specs.declared.refusal.Refusal.TheVariants.{NoMemory, BadDescriptor}
use Rattle.constpool.specs.Descriptor.{sig_of}
use Rattle.classfile.specs.View.{ClassView, MethodView}
use Rattle.frames.specs.Signatures.{method_signature, signature_of}
use Rattle.verdict.specs.Shaping.{DescriptorStands}

pub memory_or_not : (r : Refusal) → (r ≡ NoMemory) ⊎ (r ≢ NoMemory)
memory_or_not NoMemory = inl refl
memory_or_not r = inr (λ e. cc)

unsigned : (v : ClassView) (m : MethodView) → sig_of m.descriptor ≡ None → IsNone (method_signature v m)
unfolding method_signature signature_of
unsigned v m h = rw h refl

pub descriptor_fails : (v : ClassView) (m : MethodView) (d : List ℕ) (r : Refusal) → d ≡ m.descriptor → (r ≢ NoMemory → (r ≡ BadDescriptor) × (sig_of d ≡ None)) → (r ≡ NoMemory) ⊎ DescriptorStands v m r
descriptor_fails v m d r same h = go (memory_or_not r)
  where
    go : (r ≡ NoMemory) ⊎ (r ≢ NoMemory) → (r ≡ NoMemory) ⊎ DescriptorStands v m r
    go (inl e) = inl e
    go (inr n) =
        let no = h n in
        inr (no.0, inl (unsigned v m (ap sig_of (sym same) ∙ no.1)))
