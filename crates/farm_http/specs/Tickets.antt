-- The members of a ticket's body, in sorted order. Volumes are whole litres, masses whole kilograms, and factors are in 0.00001.
use Rattle.std.specs.Prelude.{ℕ, List, codes, Option, Some, None}
use Rattle.serde_json.specs.Data.{Data, Members, array, item, member, no_items, no_members, object, string}
use Rattle.farm_fixed.specs.declared.records.Quantities.{Quantities}
use Rattle.farm_ticket.specs.Tickets.{Ticket}
use Rattle.farm_ticket.specs.declared.side.Moved.{Moved}
use Rattle.farm_ticket.specs.declared.side.Side.{Side}
use Rattle.farm_ticket.specs.declared.side.Way.{Way}
use Rattle.farm_ticket.specs.declared.side.Way.TheVariants.{Inward, Outward}
use Rattle.farm_http.specs.Objects.{numbered, signed}

-- the ten figures
unfoldable pub figures_value : Quantities → Data
figures_value q = object (
    signed (codes "ctsh") q.ctsh (signed (codes "fra") q.fra (signed (codes "fw") q.fw (signed (codes "gov") q.gov
    (signed (codes "gsv") q.gsv (signed (codes "mass") q.mass (signed (codes "nsv") q.nsv (signed (codes "swv") q.swv
    (signed (codes "tov") q.tov (signed (codes "vcf") q.vcf no_members))))))))))

-- what moved
unfoldable pub moved_value : Moved → Data
moved_value m = object (signed (codes "gsv") m.gsv (signed (codes "kg") m.mass (signed (codes "nsv") m.nsv (signed (codes "swv") m.swv no_members))))

-- the word of a way
abbrev pub way_word : Way → List ℕ
way_word Inward = codes "in"
way_word Outward = codes "out"

-- a side
unfoldable pub side_value : Side → Data
side_value side = object (
    member (codes "closing") (figures_value side.closing) (member (codes "moved") (moved_value side.moved)
    (member (codes "opening") (figures_value side.opening) (numbered (codes "tank") side.tank
    (member (codes "way") (string (way_word side.way)) no_members)))))

-- the sides of a ticket: the first, and the second where there is one
abbrev pub sides_value : Side → Option Side → Data
sides_value first None = array (item (side_value first) no_items)
sides_value first (Some second) = array (item (side_value first) (item (side_value second) no_items))

-- a ticket
unfoldable pub ticket_members : Ticket → Members
ticket_members ticket =
    numbered (codes "movement") ticket.movement (numbered (codes "number") ticket.number (numbered (codes "party") ticket.party
    (numbered (codes "place") ticket.place (numbered (codes "reverses") ticket.reverses
    (member (codes "sides") (sides_value ticket.first ticket.second) no_members)))))
