-- The numbers of the four ports of the MCS-51.
use Rattle.std.specs.Prelude.{ℕ}
use Rattle.cerco_base.specs.declared.events.Port.{Port}
use Rattle.cerco_base.specs.declared.events.Port.TheVariants.{P0, P1, P2, P3}

abbrev pub port_number : Port → ℕ
port_number P0 = 0
port_number P1 = 1
port_number P2 = 2
port_number P3 = 3
