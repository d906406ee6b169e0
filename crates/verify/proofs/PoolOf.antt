-- The constant pool of the class of a class file.
use Rattle.std.proofs.Common.{◌≡◌, List, ap}
use Rattle.std.specs.Coded.{Coded, Coded-set, codes}
use Rattle.std.proofs.Math.Logic.{∥∥₁_elim}
use Rattle.constpool.specs.Lookup.{Slot}
use Rattle.classfile.specs.View.{ClassView}
use Rattle.classfile.specs.declared.class_file.Parts.{Parts}
use Rattle.verify.specs.TheClass.{TheClass}

pool_code : Coded (List Slot)
pool_code = Prim.hlevel codes

-- The pool of the class is the pool of the file.
pub pool_is : (pool : List Slot) (parts : Parts) (t : TheClass pool parts) → t.0.view.pool ≡ pool
pool_is pool parts t = ∥∥₁_elim t.1 (Coded-set pool_code t.0.view.pool pool) (λ f. ap (λ (v : ClassView). v.pool) f.view)
