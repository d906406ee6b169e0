use Rattle.explain.proofs.Listing.{same_call}
use Rattle.explain.proofs.circle.reaches.Goals as goal

pub returns-in-Some : goal.returns-in-Some
returns-in-Some c = λ t. same_call c.args.methods.now c.args.call.method c.args.call.place c.in-Some.k c.args.number c.in-Some.ensures t
