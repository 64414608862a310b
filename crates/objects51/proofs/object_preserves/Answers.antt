use Rattle.objects51.proofs.Preserved.{object_preserves as law}
use Rattle.objects51.proofs.object_preserves.Goals as goal

pub returns : goal.returns
returns c = law
