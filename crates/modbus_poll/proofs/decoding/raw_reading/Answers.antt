-- Answers to the open goals of `raw_reading`.
use Rattle.modbus_poll.proofs.Gauges.{gauge_is}
use Rattle.modbus_poll.proofs.decoding.raw_reading.Goals as goal

pub quantity_or-requires-2 : goal.quantity_or-requires-2
quantity_or-requires-2 c = record { scale = (gauge_is c.args.gauge.now c.requires.map).ambient }
