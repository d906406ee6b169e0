use Rattle.unrolled.proofs.Certificates.{certificates_cover}
use Rattle.unrolled.proofs.Circles.{certificates_exclude}
use Rattle.unrolled.proofs.laws.certificates_cover.Goals as goal

pub returns-clause-cover : goal.returns-clause-cover
returns-clause-cover c = certificates_cover

pub returns-clause-exclude : goal.returns-clause-exclude
returns-clause-exclude c = certificates_exclude
