-- A device's fault as a run's.
use Rattle.mn_edge.specs.declared.device.DeviceBad.{DeviceBad}
use Rattle.mn_edge.specs.declared.device.DeviceBad.TheVariants.{Failed, NoMemory}
use Rattle.mn_perform.specs.declared.ended.Fault.{Fault}
use Rattle.mn_perform.specs.declared.ended.Fault.TheVariants as fault

abbrev pub fault_of : DeviceBad → Fault
fault_of Failed = fault.Write
fault_of NoMemory = fault.NoMemory
