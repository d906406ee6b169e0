use Rattle.std.proofs.Common.{List, length, [], refl, ap}
use Rattle.jtypes.proofs.Laws.{laid_out_once}
use Rattle.constpool.specs.Lookup.{Slot}
use Rattle.classfile.specs.declared.class_file.Parts.{Parts}
use Rattle.classfile.specs.Class.{class_file}
use Rattle.classfile.proofs.laws.one_class.Goals as goal

pub returns : goal.returns
returns c = λ bytes p q a b h k.
    let same = laid_out_once (class_file (length bytes)) bytes [] bytes [] (p, a) (q, b) h k refl in
    (ap (λ (x : List Slot × Parts). x.0) same.2, ap (λ (x : List Slot × Parts). x.1) same.2)
