use Rattle.registry_file.proofs.stop.Stop.fault.Goals as goal

pub returns-in_ok-from_str-in-Device : goal.returns-in_ok-from_str-in-Device
returns-in_ok-from_str-in-Device c = (c.in-Device.path, c.in-Device.is, c.in_ok-from_str-in-Device.ensures.ok)

pub returns-in-Load : goal.returns-in-Load
returns-in-Load c = c.in-Load.is

pub returns-in-Table : goal.returns-in-Table
returns-in-Table c = c.in-Table.is

pub returns-in-Add : goal.returns-in-Add
returns-in-Add c = c.in-Add.is
