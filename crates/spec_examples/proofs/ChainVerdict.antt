-- The verdicts of the two profiles on the chain class.
use Rattle.std.proofs.Common.{◌≡◌, List, [], length, refl, subst}
use Rattle.jtypes.specs.Profile.{First, Third}
use Rattle.jtypes.proofs.Laws.{laid_out_once}
use Rattle.constpool.specs.Lookup.{Slot}
use Rattle.classfile.specs.declared.class_file.Parts.{Parts}
use Rattle.classfile.specs.Class.{class_file}
use Rattle.verdict.specs.Shape.{ShapeStands}
use Rattle.verdict.specs.Verdict.{IsClassFile, InstructionsStand, TypesStand, IsClassOfFile, ClassStands, by_layout, by_shape, by_instructions, by_types, by_class, by_names}
use Rattle.verdict.proofs.Known.{none_beyond}
use Rattle.soundness.proofs.OneClass.{class_once}
use Rattle.spec_examples.specs.Chain.{chain, chain_pool, chain_parts, RefusesChain, AcceptsChain}
use Rattle.spec_examples.specs.ChainBytes.{chain_bytes}
use Rattle.spec_examples.proofs.Chain.{steps_exceed, allows}
use Rattle.spec_examples.proofs.ChainFile.{is_file, is_class}
use Rattle.spec_examples.proofs.ChainLevels.{has_instructions, has_types}
use Rattle.spec_examples.proofs.ChainShape.{has_shape}

same_file : (pool : List Slot) (p : Parts) → IsClassFile chain_bytes pool p → (let x : List Slot × Parts = (pool, p) in x ≡ (chain_pool, chain_parts))
same_file pool p file = (laid_out_once (class_file (length chain_bytes)) chain_bytes [] chain_bytes [] (pool, p) (chain_pool, chain_parts) file.laid_out is_file.laid_out refl).2

pub refuses_chain : RefusesChain
refuses_chain = by_class chain_pool chain_parts chain is_file has_shape (has_instructions First) (has_types First) (is_class First) steps_exceed

pub accepts_chain : AcceptsChain
accepts_chain r (by_layout s) = is_file.none_stands r s
accepts_chain r (by_shape pool p file s) = has_shape.none_stands r (subst (λ (x : List Slot × Parts). ShapeStands x.0 x.1 r) (same_file pool p file) s)
accepts_chain r (by_instructions pool p file a s) = (has_instructions Third).none_stands r (subst (λ (x : List Slot × Parts). InstructionsStand Third x.0 x.1 r) (same_file pool p file) s)
accepts_chain r (by_types pool p file a b s) = (has_types Third).none_stands r (subst (λ (x : List Slot × Parts). TypesStand Third x.0 x.1 r) (same_file pool p file) s)
accepts_chain r (by_class pool p c file a b d of s) =
    let class : IsClassOfFile Third chain_pool chain_parts c = subst (λ (x : List Slot × Parts). IsClassOfFile Third x.0 x.1 c) (same_file pool p file) of in
    allows r (subst (λ x. ClassStands Third x r) (class_once Third chain_pool chain_parts c chain class (is_class Third)) s)
accepts_chain r (by_names pool p file _ s) = none_beyond pool p r s
