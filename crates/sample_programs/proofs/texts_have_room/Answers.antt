use Rattle.sample_programs.proofs.Whole.{texts-have-room}
use Rattle.sample_programs.proofs.texts_have_room.Goals as goal

pub returns : goal.returns
returns c = texts-have-room
