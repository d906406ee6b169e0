use Rattle.std.proofs.Common.{◌≡◌, drop, take}
use Rattle.std.specs.Prelude.{map}
use Rattle.frames.specs.Members.{numbered}
use Rattle.frames.specs.Seen.{member_seen}
use Rattle.frames.specs.Signed.{method_of}
use Rattle.frames.proofs.Named.{names_asked}
use Rattle.frames.proofs.members.numbered.Given as goal

abbrev pub invariant-loop-k : goal.invariant-loop-k
invariant-loop-k l =
    (numbered 0 (map method_of l.methods) (member_seen l.member) ≡ numbered l.k (drop l.k (map method_of l.methods)) (member_seen l.member))
    × (l.named.items ≡ names_asked l.member.name.now (take l.k l.methods))
