use Rattle.cerco_base.proofs.OneFile.{over_file}
use Rattle.cerco_base.proofs.outside.file_sink.FileSinkSink.put.Goals as goal

pub returns : goal.returns
returns g c = over_file _ _ _ _ _ _ c.append.ensures
