-- How what ends an expression ends a script.
use Rattle.khepri_types.specs.declared.value.Stop.TheVariants.{Refused as refused}
use Rattle.tx_script.specs.declared.halt.Halt.{Halt}
use Rattle.tx_script.specs.declared.halt.Halt.TheVariants as halts
use Rattle.tx_script.specs.declared.halt.Unvalued.{Unvalued}
use Rattle.tx_script.specs.declared.halt.Unvalued.TheVariants.{Refused, NoMemory}

-- a refused expression ends the script
abbrev pub halt_of : Unvalued → Halt
halt_of (Refused why) = halts.Stop (refused why)
halt_of NoMemory = halts.NoMemory
