use Rattle.pruned_graphs.proofs.Searching.{stay_sound, closed_are_found}
use Rattle.pruned_graphs.proofs.Selecting.{selected_is_pruned}
use Rattle.pruned_graphs.proofs.needed_operations_are_found.Goals as goal

pub returns-clause-sound : goal.returns-clause-sound
returns-clause-sound c = stay_sound

pub returns-clause-exact : goal.returns-clause-exact
returns-clause-exact c = closed_are_found

pub returns-clause-selected : goal.returns-clause-selected
returns-clause-selected c = selected_is_pruned
