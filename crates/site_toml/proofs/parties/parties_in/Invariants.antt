-- The invariants of the loops of `parties_in`.
use Rattle.std.proofs.Common.{◌≡◌, ◌+◌, true, [], drop, length, map}
use Rattle.toml.specs.View.{view}
use Rattle.farm_site.specs.Numbers.{are_numbered}
use Rattle.site_keys.specs.Lists.{numbered_from}
use Rattle.farm_site.specs.Parties.{is_party, party_number}
use Rattle.site_toml.specs.Parties.{party_of}
use Rattle.site_toml.proofs.parties.parties_in.Given as goal

abbrev pub invariant-loop-index : goal.invariant-loop-index
invariant-loop-index l = record {
  read : numbered_from party_number party_of (l.index + 1) l.parties.items (map view (drop l.index l.tables)) ≡ numbered_from party_number party_of 1 [] (map view l.tables);
  count : length l.parties.items ≡ l.index;
  sound : are_numbered party_number is_party l.parties.items ≡ true;
}
