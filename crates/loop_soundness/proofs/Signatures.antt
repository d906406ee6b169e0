-- The premises on the class's name and signatures, of those of a class with loops.
use Rattle.typecheck.specs.Typing.{Class}
use Rattle.soundness.proofs.Callees.{HasSignatures}
use Rattle.loop_soundness.specs.Checked.{IsCheckedWithLoops}

pub signatures_of : (c : Class) → IsCheckedWithLoops c → HasSignatures c
signatures_of c ok = record { named = ok.named; instance = ok.instance; count = ok.count; signed = ok.signed }
