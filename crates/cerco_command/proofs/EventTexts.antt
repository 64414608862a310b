-- The lines of events, by the pieces in which they are put.
use Rattle.std.proofs.Common.{◌≡◌, ℕ, List, ◌++◌, Option, Some, None, codes, refl, ap, ◌∙◌, append-nil}
use Rattle.std.proofs.lemmas.List.Concat.{flat_map-append}
use Rattle.cerco_base.specs.declared.events.Port.{Port}
use Rattle.sim51.specs.declared.events.Events.{Events}
use Rattle.sim51.specs.Runs.{events_of, label_events, read_events, write_events}
use Rattle.cerco_command.specs.Messages.{port_lines, event_line, event_lines}

read_text : (cycles : ℕ) (read : Option (Port × ℕ)) → event_lines cycles (read_events read) ≡ port_lines (codes "R") read cycles
read_text cycles None = refl
read_text cycles (Some r) = append-nil _

write_text : (cycles : ℕ) (write : Option (Port × ℕ)) → event_lines cycles (write_events write) ≡ port_lines (codes "P") write cycles
write_text cycles None = refl
write_text cycles (Some w) = append-nil _

pub events_text : (cycles : ℕ) (e : Events) → event_lines cycles (events_of e) ≡ event_lines cycles (label_events e.label) ++ (port_lines (codes "R") e.read cycles ++ port_lines (codes "P") e.write cycles)
events_text cycles e =
    flat_map-append (event_line cycles) (label_events e.label) (read_events e.read ++ write_events e.write)
    ∙ ap (λ (l : List ℕ). event_lines cycles (label_events e.label) ++ l)
    (flat_map-append (event_line cycles) (read_events e.read) (write_events e.write)
    ∙ (ap (λ (l : List ℕ). l ++ event_lines cycles (write_events e.write)) (read_text cycles e.read)
    ∙ ap (λ (l : List ℕ). port_lines (codes "R") e.read cycles ++ l) (write_text cycles e.write)))
