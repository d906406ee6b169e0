use Rattle.wire.specs.declared.protocol.Protocol.TheVariants.{One, Two}
use Rattle.test_serve.proofs.Versions.{is_served, no_other, not_served}
use Rattle.test_serve.proofs.laws.versions_have_one_answer.Goals as goal

pub returns-clause-answer : goal.returns-clause-answer
returns-clause-answer g c = record { served = is_served (g.L.Loader.gives c.args._loader.now); alone = no_other (g.L.Loader.gives c.args._loader.now) (c.one_front.ensures.once Two) }

pub returns-clause-two : goal.returns-clause-two
returns-clause-two g c = not_served (g.L.Loader.gives c.args._loader.now) (c.one_front.ensures.once One)
