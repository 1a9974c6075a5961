-- Answers to the open goals of `gauge`.
use Rattle.std.proofs.Common.{◌≡◌, List, get_or, true, sym, subst}
use Rattle.gauge_maps.specs.declared.map.GaugeMap.{GaugeMap}
use Rattle.gauge_maps.specs.Maps.{is_gauge_map}
use Rattle.modbus_poll.proofs.Gauges.{gauges_are}
use Rattle.modbus_poll.proofs.poller.Poller.gauge.Goals as goal

pub returns-clause-map : goal.returns-clause-map
returns-clause-map c =
    let P : List GaugeMap → Type 0 = λ gauges. is_gauge_map (get_or gauges c.self.inside.next _) ≡ true in
    subst P (sym c.get.ensures.items) (gauges_are c.self.inside.line c.self.inside.next _ c.self.invariant.line c.self.invariant.inside)
