use Rattle.verdict.proofs.Spots.{is_bad_code}
use Rattle.verdict.proofs.shape_spot.shape_located.Goals as goal

pub bad_method-requires-in-BadCode : goal.bad_method-requires-in-BadCode
bad_method-requires-in-BadCode c = is_bad_code c.args.class.now.pool c.args.class.now.parts c.args.refusal c.requires c.in-BadCode.is
