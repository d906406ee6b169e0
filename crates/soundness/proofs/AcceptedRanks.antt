-- An accepted class has ranks.
use Rattle.jtypes.specs.declared.refusal.Refusal.TheVariants.{Recursive}
use Rattle.bounds.proofs.Ranks.{not_recursive_has_ranks}
use Rattle.verdict.specs.Verdict.{by_shape, by_instructions, by_types, by_class, HasShape, HasInstructions, HasTypes}
use Rattle.verdict.specs.Promise.{AcceptedIsOrdered}
use Rattle.jtypes.specs.Profile.{Third}

pub accepted_has_ranks : AcceptedIsOrdered
accepted_has_ranks bytes c ok of = not_recursive_has_ranks c (λ recursive. ok Recursive (by_class of.pool of.parts c of.file shape instructions types of.class recursive))
  where
    shape : HasShape of.pool of.parts
    shape = record { none_stands = λ r s. ok r (by_shape of.pool of.parts of.file s) }

    instructions : HasInstructions Third of.pool of.parts
    instructions = record { none_stands = λ r s. ok r (by_instructions of.pool of.parts of.file shape s) }

    types : HasTypes Third of.pool of.parts
    types = record { none_stands = λ r s. ok r (by_types of.pool of.parts of.file shape instructions s) }
