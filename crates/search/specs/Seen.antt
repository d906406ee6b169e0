-- The models of what is known, of operands and of nodes.
use Rattle.std.specs.Prelude.{List, map, reverse, get_or, false}
use Rattle.search.specs.declared.known.Known as plain
use Rattle.search.specs.declared.known.Known.TheVariants as variant
use Rattle.search.specs.declared.node.Node as plain_node
use Rattle.unrolled.specs.Known.{Known, Wide, Narrow, Number, Count, Sized, Arguments}
use Rattle.search.specs.declared.node.Following as plain_following
use Rattle.unrolled.specs.Graph.{Node, Following}

abbrev pub known_seen : plain.Known → Known
known_seen variant.Wide = Wide
known_seen variant.Narrow = Narrow
known_seen (variant.Number n) = Number n
known_seen variant.Count = Count
known_seen (variant.Sized n) = Sized n
known_seen variant.Arguments = Arguments

abbrev pub locals_seen : List plain.Known → List Known
locals_seen ks = map known_seen ks

-- The code has the top last.
unfoldable pub operands_seen : List plain.Known → List Known
operands_seen ks = map known_seen (reverse ks)

abbrev pub node_seen : plain_node.Node → Node
node_seen x = record { place = x.place; locals = locals_seen x.locals.items; operands = operands_seen x.operands.items }

abbrev pub following_seen : plain_following.Following → Following
following_seen f = record { values = f.values; ints = λ n. get_or f.ints.items n false }
