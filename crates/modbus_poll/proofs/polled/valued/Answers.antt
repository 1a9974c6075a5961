-- Answers to the open goals of `valued`.
use Rattle.modbus_poll.proofs.Gauges.{gauge_is}
use Rattle.modbus_poll.proofs.polled.valued.Goals as goal

pub is_valid-requires : goal.is_valid-requires
is_valid-requires c = record { bit = (gauge_is c.args.gauge.now c.requires.map).valid }
