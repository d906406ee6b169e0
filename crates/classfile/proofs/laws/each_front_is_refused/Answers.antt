use Rattle.jtypes.proofs.Laws.{front_is_cut}
use Rattle.classfile.specs.Class.{class_file}
use Rattle.classfile.proofs.laws.each_front_is_refused.Goals as goal

pub returns : goal.returns
returns c = λ front back size p a h n. front_is_cut (class_file size) front back (p, a) h n
