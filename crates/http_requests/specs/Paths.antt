-- What a path names: a command by its word, or a look-up.
use Rattle.std.specs.Prelude.{◌≡◌, ◌↔◌, ℕ, ◌≤◌, ◌==◌, ◌&&◌, Bool, IsTrue, if◌then◌else◌, leb, List, ◌++◌, codes, length, Option, Some, None, option_and_then, option_map}
use Rattle.std.specs.List.{before_first}
use Rattle.std.specs.Str.{is_utf8}
use Rattle.std.specs.Str.Parse.{digits_value}
use Rattle.farm_base.specs.Bytes.{is_all_digits}
use Rattle.farm_history.specs.declared.query.Query.TheVariants as queries
use Rattle.farm_http.specs.Limits.{most_place, most_tank_number}
use Rattle.matchit.specs.Router.{RouteOf}
use Rattle.http_requests.specs.Limits.{most_parameter_digits}
use Rattle.http_requests.specs.declared.resource.Resource.{Resource}
use Rattle.http_requests.specs.declared.resource.Resource.TheVariants.{Command, Look}
use Rattle.http_requests.specs.declared.route.Route.{Route}
use Rattle.http_requests.specs.declared.route.Route.TheVariants as kinds
use Rattle.http_requests.specs.Routes.{parameter_of, route_of, text_of}

-- the path of a target: what precedes its first question mark
abbrev pub path_of : List ℕ → List ℕ
path_of target = before_first (λ byte. byte == 63) target

-- a parameter is written as 1 to 10 decimal digits
abbrev pub is_number : List ℕ → Bool
is_number text = leb 1 (length text) && (leb (length text) most_parameter_digits && is_all_digits text)

-- the number that a parameter is, if it is at most this
unfoldable pub number_within : ℕ → List ℕ → Option ℕ
number_within most text = if is_number text && leb (digits_value 10 text) most then Some (digits_value 10 text) else None

-- what a path names that matches a route of a kind
unfoldable pub named_by : Route → List ℕ → RouteOf Route → Option Resource
named_by (kinds.Command word) path route = Some (Command word)
named_by kinds.Stock path route =
    option_map (λ tank. Look (queries.Stock tank)) (option_and_then (number_within most_tank_number) (parameter_of (codes "tank") path route))
named_by kinds.Total path route = Some (Look queries.Total)
named_by kinds.Ticket path route =
    option_map (λ place. Look (queries.Ticket place)) (option_and_then (number_within most_place) (parameter_of (codes "place") path route))

-- what a path names; nothing if it is no UTF-8, has no route, or its parameter is no number within its limit
unfoldable pub resource_of : List ℕ → Option Resource
resource_of path = if is_utf8 path then option_and_then (λ route. named_by route.value path route) (route_of path) else None

-- a parameter is a number of at least one digit and no more digits than the limit, and at most this
pub record IsNumberWithin (most : ℕ) (text : List ℕ) (number : ℕ) : Type 0 where
  pub some : 1 ≤ length text
  pub few : length text ≤ most_parameter_digits
  pub digits : IsTrue (is_all_digits text)
  pub value : number ≡ digits_value 10 text
  pub within : number ≤ most

-- the paths of the desk: `/` and a command's word; `/stock/` and a tank; `/total`; `/ticket/` and a place
abbrev pub IsPathOf : List ℕ → Resource → Type 0
IsPathOf path (Command word) = path ≡ codes "/" ++ text_of word
IsPathOf path (Look (queries.Stock tank)) =
    (parameter : List ℕ) × (path ≡ codes "/stock/" ++ parameter) × IsNumberWithin most_tank_number parameter tank
IsPathOf path (Look queries.Total) = path ≡ codes "/total"
IsPathOf path (Look (queries.Ticket place)) =
    (parameter : List ℕ) × (path ≡ codes "/ticket/" ++ parameter) × IsNumberWithin most_place parameter place

-- a path names something if and only if it is one of these paths
abbrev pub PathsNameResources : Type 0
PathsNameResources = (path : List ℕ) (resource : Resource) → (resource_of path ≡ Some resource) ↔ IsPathOf path resource
