use Rattle.std.proofs.Common.{◌≡◌, ◌++◌, map, drop}
use Rattle.classfile.specs.Code.{contents_named}
use Rattle.classfile.proofs.code.contents_named.Given as goal

abbrev pub invariant-loop-attribute : goal.invariant-loop-attribute
invariant-loop-attribute l =
    map (λ content. content.now) l.contents.items ++ contents_named l.pool l.name (drop l.attribute-index l.attributes) ≡ contents_named l.pool l.name l.attributes
