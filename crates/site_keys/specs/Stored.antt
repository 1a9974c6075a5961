-- How the logic tells keys apart, which a model of them has to say: a value of TOML is stored as a tree. No clause reads it.
use Rattle.std.specs.Prelude.{◌≡◌, ℕ, ℤ, Bool, Float, List, refl}
use Rattle.std.proofs.Common.{ap}
use Rattle.std.specs.Coded.{Coded, code_by, coded×, coded_ℕ, codes}
use base.Stored.{Gv, gnil, gnum, gcons}
use Rattle.toml.specs.Data.{Data, string, integer, float, boolean, datetime, array, table, Items, no_items, item, Members, no_members, member}
use Rattle.toml_datetime.specs.declared.datetime.Datetime.{Datetime}
use Rattle.site_keys.specs.Keys.{Keys}

-- a value that has none within
pub data Leaf : Type 0 where
  text : List ℕ → Leaf
  whole : ℤ → Leaf
  real : Float → Leaf
  truth : Bool → Leaf
  moment : Datetime → Leaf

pub leaf_code : Coded Leaf
leaf_code = hlevel codes

pub data Tree : Type 0 where
  end : Tree
  leaf : Leaf → Tree
  pair : Tree → Tree → Tree

abbrev stored : Tree → Gv
stored end = gnil
stored (leaf l) = gcons (gnum 0) (leaf_code.code l)
stored (pair s t) = gcons (gnum 1) (gcons (stored s) (stored t))

pub stored_apart : (s t : Tree) → stored s ≡ stored t → s ≡ t
stored_apart end end is = refl
stored_apart (leaf l) (leaf m) is = ap leaf (leaf_code.inj l m cc)
stored_apart (pair s t) (pair u v) is =
    let first : s ≡ u = stored_apart s u cc in
    let second : t ≡ v = stored_apart t v cc in
    cc
stored_apart s t is = cc

abbrev mutual
  of_data : Data → Tree
  of_data (string s) = leaf (text s)
  of_data (integer z) = leaf (whole z)
  of_data (float x) = leaf (real x)
  of_data (boolean b) = leaf (truth b)
  of_data (datetime d) = leaf (moment d)
  of_data (array ds) = pair end (of_items ds)
  of_data (table ms) = pair (pair end end) (of_members ms)

  of_items : Items → Tree
  of_items no_items = end
  of_items (item d ds) = pair (of_data d) (of_items ds)

  of_members : Members → Tree
  of_members no_members = end
  of_members (member k d ms) = pair (leaf (text k)) (pair (of_data d) (of_members ms))

abbrev of_leaf : Leaf → Data
of_leaf (text s) = string s
of_leaf (whole z) = integer z
of_leaf (real x) = float x
of_leaf (truth b) = boolean b
of_leaf (moment d) = datetime d

-- each of them back; a tree that no value is stored as gives any
abbrev mutual
  to_data : Tree → Data
  to_data (leaf l) = of_leaf l
  to_data (pair end t) = array (to_items t)
  to_data (pair s t) = table (to_members t)
  to_data end = table no_members

  to_items : Tree → Items
  to_items (pair s t) = item (to_data s) (to_items t)
  to_items t = no_items

  to_members : Tree → Members
  to_members (pair (leaf (text k)) (pair s t)) = member k (to_data s) (to_members t)
  to_members t = no_members

mutual
  pub data_back : (d : Data) → to_data (of_data d) ≡ d
  data_back (string s) = refl
  data_back (integer z) = refl
  data_back (float x) = refl
  data_back (boolean b) = refl
  data_back (datetime d) = refl
  data_back (array ds) = ap array (items_back ds)
  data_back (table ms) = ap table (members_back ms)

  pub items_back : (ds : Items) → to_items (of_items ds) ≡ ds
  items_back no_items = refl
  items_back (item d ds) = rw (data_back d, items_back ds) refl

  pub members_back : (ms : Members) → to_members (of_members ms) ≡ ms
  members_back no_members = refl
  members_back (member k d ms) = rw (data_back d, members_back ms) refl

abbrev pub keys_code : Coded Keys
keys_code =
    code_by (ℕ × Data) (coded× coded_ℕ (code_by Tree (record { code = stored; inj = stored_apart }) of_data to_data data_back))
    (λ keys. (keys.item, keys.table)) (λ p. record { item = p.0; table = p.1 }) (λ _. refl)
