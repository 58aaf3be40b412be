-- The bench table holds, by computation. Assumes nothing.
use mathlib.Core.Path.{refl}
use lib.Ieee.{of_bits}
use Rattle.rounding.specs.Divided.{divided}
use Rattle.metering.specs.Reading.{exact_register, is_readable_register}
use Rattle.fuel.specs.Fuel.{exact_milligrams, rounded_milligrams}
use Rattle.emissions.specs.Factor.{captive_judged}
use Rattle.emissions.specs.Figure.{energy_with_losses}
use Rattle.ledger.specs.Bench.{table, AllRight}

pub bench-table : AllRight table
unfolding of_bits divided exact_register is_readable_register exact_milligrams rounded_milligrams captive_judged energy_with_losses
bench-table =
    ((refl, refl), ((refl, refl), ((refl, refl), ((refl, refl), ((refl, refl), ((refl, refl), ((refl, refl), ((refl, refl), ((refl, refl), ((refl, refl), ((refl, refl), tt)))))))))))
