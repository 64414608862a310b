-- What `meaning` reads: the front of a source, and a script. (The compiler's own.)
use Rattle.cerco_base.specs.Outside.IoStates.{FilesState}
use Rattle.cerco_command.specs.Inputs.{IsRead, HasText}
use Rattle.cerco_command.specs.Telling.{MeaningTexts}
use Rattle.cerco_command.specs.Words.{MeaningRequest}
use Rattle.cerco_command.specs.declared.telling.Inputs.{Inputs}

abbrev pub texts_of : Inputs → MeaningTexts
texts_of inputs = record { source = inputs.source.items; script = inputs.script.items }

-- The source is read to its end or to one byte more than the longest source has.
pub record AreReadOf (words : MeaningRequest) (s : FilesState) (texts : MeaningTexts) : Type 0 where
  pub source_read : IsRead 65536 s words.source texts.source
  pub script_read : HasText s words.script texts.script
