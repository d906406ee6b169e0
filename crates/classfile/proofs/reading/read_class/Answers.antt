use Rattle.std.proofs.Common.{length}
use Rattle.jtypes.proofs.Laws.{when_ok, when_accepted, when_refused}
use Rattle.classfile.specs.Class.{class_file}
use Rattle.classfile.specs.declared.class_file.ClassFile.{ClassFile}
use Rattle.classfile.proofs.reading.read_class.Goals as goal

pub returns-clause-found : goal.returns-clause-found
returns-clause-found c = when_ok (λ (x : ClassFile). (x.pool, x.parts)) (class_file (length c.args.bytes.now)) c.args.bytes.now _ c.read_whole.ensures

pub returns-clause-accepted : goal.returns-clause-accepted
returns-clause-accepted c = when_accepted (λ (x : ClassFile). (x.pool, x.parts)) (class_file (length c.args.bytes.now)) c.args.bytes.now _ c.read_whole.ensures

pub returns-clause-refused : goal.returns-clause-refused
returns-clause-refused c = when_refused (λ (x : ClassFile). (x.pool, x.parts)) (class_file (length c.args.bytes.now)) c.args.bytes.now _ c.read_whole.ensures
