-- A path names something if and only if it is one of the desk's paths.
use Rattle.std.proofs.Common.{◌≡◌, ℕ, Bool, true, false, if◌then◌else◌, List, [], ◌∷◌, ◌++◌, Option, Some, None, option_and_then, option_map, codes, refl, sym, ap, subst, ◌∙◌, arith}
use Rattle.std.proofs.lemmas.Str.{IsUtf8-from_is_utf8, is_utf8-from_IsUtf8}
use Rattle.std.specs.Str.{IsUtf8, is_utf8}
use Rattle.farm_history.specs.declared.query.Query.TheVariants as queries
use Rattle.farm_http.specs.Limits.{most_place, most_tank_number}
use Rattle.matchit.specs.Router.{RouteOf}
use Rattle.http_requests.specs.declared.resource.Resource.{Resource}
use Rattle.http_requests.specs.declared.resource.Resource.TheVariants.{Command, Look}
use Rattle.http_requests.specs.declared.route.Route.{Route}
use Rattle.http_requests.specs.declared.route.Route.TheVariants as kinds
use Rattle.http_requests.specs.Routes.{parameter_of, route_of, text_of}
use Rattle.http_requests.specs.Paths.{IsNumberWithin, IsPathOf, PathsNameResources, named_by, number_within, resource_of}
use Rattle.http_requests.proofs.DeskRows.{ShapeOf, plain, route_fits, stock_found, stock_route, ticket_found, ticket_route, total_found, word_found}
use Rattle.http_requests.proofs.Parameters.{is_taken, is_within, number_is, stock_took, stock_utf8, ticket_took, ticket_utf8, total_utf8, word_utf8}

-- what a path names that is text and matches a route
pub names_by_route : (path : List ℕ) (route : RouteOf Route) → IsUtf8 path → route_of path ≡ Some route
    → resource_of path ≡ named_by route.value path route
unfolding resource_of
names_by_route path route utf8 is =
    ap (λ (v : Bool). if v then option_and_then (λ r. named_by r.value path r) (route_of path) else None) (is_utf8-from_IsUtf8 path utf8)
    ∙ ap (λ found. option_and_then (λ r. named_by r.value path r) found) is

-- what is no text names nothing
pub names_no_text : (path : List ℕ) → ¬ (IsUtf8 path) → resource_of path ≡ None
unfolding resource_of
names_no_text path none = by (is_utf8 path) refl
  where
    by : (v : Bool) → is_utf8 path ≡ v → (if v then option_and_then (λ r. named_by r.value path r) (route_of path) else None) ≡ None
    by true e = absurd (none (IsUtf8-from_is_utf8 path e))
    by false e = refl

-- ---- from what is named to the path

stock_path : (parameter : List ℕ) (number : Option ℕ) (resource : Resource) → number_within most_tank_number parameter ≡ number
    → option_map (λ tank. Look (queries.Stock tank)) number ≡ Some resource → IsPathOf (codes "/stock/" ++ parameter) resource
stock_path parameter None resource is e = absurd cc
stock_path parameter (Some tank) resource is e =
    let same : Look (queries.Stock tank) ≡ resource = cc in
    subst (IsPathOf (codes "/stock/" ++ parameter)) same (parameter, refl, number_is most_tank_number parameter tank is)

ticket_path : (parameter : List ℕ) (number : Option ℕ) (resource : Resource) → number_within most_place parameter ≡ number
    → option_map (λ place. Look (queries.Ticket place)) number ≡ Some resource → IsPathOf (codes "/ticket/" ++ parameter) resource
ticket_path parameter None resource is e = absurd cc
ticket_path parameter (Some place) resource is e =
    let same : Look (queries.Ticket place) ≡ resource = cc in
    subst (IsPathOf (codes "/ticket/" ++ parameter)) same (parameter, refl, number_is most_place parameter place is)

path_by : (kind : Route) (path : List ℕ) (route : RouteOf Route) (resource : Resource) → ShapeOf kind path route
    → named_by kind path route ≡ Some resource → IsPathOf path resource
unfolding named_by
path_by (kinds.Command word) path route resource is e =
    let same : Command word ≡ resource = cc in
    subst (IsPathOf path) same is.0
path_by kinds.Total path route resource is e =
    let same : Look queries.Total ≡ resource = cc in
    subst (IsPathOf path) same is.0
path_by kinds.Stock path route resource is e =
    let P : List ℕ → RouteOf Route → Type 0 =
    λ t r. option_map (λ tank. Look (queries.Stock tank)) (option_and_then (number_within most_tank_number) (parameter_of (codes "tank") t r)) ≡ Some resource in
    let on_path = subst (λ (t : List ℕ). P t stock_route) is.1 (subst (P path) is.2 e) in
    let took = sym (ap (λ found. option_map (λ tank. Look (queries.Stock tank)) (option_and_then (number_within most_tank_number) found)) (stock_took is.0)) ∙ on_path in
    subst (λ (t : List ℕ). IsPathOf t resource) (sym is.1) (stock_path is.0 (number_within most_tank_number is.0) resource refl took)
path_by kinds.Ticket path route resource is e =
    let P : List ℕ → RouteOf Route → Type 0 =
    λ t r. option_map (λ place. Look (queries.Ticket place)) (option_and_then (number_within most_place) (parameter_of (codes "place") t r)) ≡ Some resource in
    let on_path = subst (λ (t : List ℕ). P t ticket_route) is.1 (subst (P path) is.2 e) in
    let took = sym (ap (λ found. option_map (λ place. Look (queries.Ticket place)) (option_and_then (number_within most_place) found)) (ticket_took is.0)) ∙ on_path in
    subst (λ (t : List ℕ). IsPathOf t resource) (sym is.1) (ticket_path is.0 (number_within most_place is.0) resource refl took)

pub is_path : (path : List ℕ) (resource : Resource) → resource_of path ≡ Some resource → IsPathOf path resource
unfolding resource_of
is_path path resource is = by (is_utf8 path) is
  where
    on_route : (found : Option (RouteOf Route)) → route_of path ≡ found
        → option_and_then (λ r. named_by r.value path r) found ≡ Some resource → IsPathOf path resource
    on_route None e named = absurd cc
    on_route (Some route) e named = path_by route.value path route resource (route_fits path route e) named

    by : (v : Bool) → (if v then option_and_then (λ r. named_by r.value path r) (route_of path) else None) ≡ Some resource
        → IsPathOf path resource
    by true named = on_route (route_of path) refl named
    by false wrong = absurd cc

-- ---- from the path to what is named

stock_names : (parameter : List ℕ) (tank : ℕ) → IsNumberWithin most_tank_number parameter tank
    → resource_of (codes "/stock/" ++ parameter) ≡ Some (Look (queries.Stock tank))
unfolding named_by
stock_names [] tank is = absurd (omega (arith, is.some))
stock_names (byte ∷ rest) tank is =
    let taken = is_taken byte rest is.digits in
    names_by_route (codes "/stock/" ++ byte ∷ rest) stock_route (stock_utf8 (byte ∷ rest) taken.text)
    (stock_found byte rest taken.slashless taken.no_token)
    ∙ ap (λ found. option_map (λ t. Look (queries.Stock t)) (option_and_then (number_within most_tank_number) found)) (stock_took (byte ∷ rest))
    ∙ ap (λ number. option_map (λ t. Look (queries.Stock t)) number) (is_within most_tank_number (byte ∷ rest) tank is)

ticket_names : (parameter : List ℕ) (place : ℕ) → IsNumberWithin most_place parameter place
    → resource_of (codes "/ticket/" ++ parameter) ≡ Some (Look (queries.Ticket place))
unfolding named_by
ticket_names [] place is = absurd (omega (arith, is.some))
ticket_names (byte ∷ rest) place is =
    let taken = is_taken byte rest is.digits in
    names_by_route (codes "/ticket/" ++ byte ∷ rest) ticket_route (ticket_utf8 (byte ∷ rest) taken.text)
    (ticket_found byte rest taken.slashless taken.no_token)
    ∙ ap (λ found. option_map (λ p. Look (queries.Ticket p)) (option_and_then (number_within most_place) found)) (ticket_took (byte ∷ rest))
    ∙ ap (λ number. option_map (λ p. Look (queries.Ticket p)) number) (is_within most_place (byte ∷ rest) place is)

pub is_named : (path : List ℕ) (resource : Resource) → IsPathOf path resource → resource_of path ≡ Some resource
unfolding named_by
is_named path (Command word) is =
    subst (λ (t : List ℕ). resource_of t ≡ Some (Command word)) (sym is)
    (names_by_route (codes "/" ++ text_of word) (plain (codes "/" ++ text_of word) (kinds.Command word)) (word_utf8 word) (word_found word))
is_named path (Look queries.Total) is =
    subst (λ (t : List ℕ). resource_of t ≡ Some (Look queries.Total)) (sym is)
    (names_by_route (codes "/total") (plain (codes "/total") kinds.Total) total_utf8 total_found)
is_named path (Look (queries.Stock tank)) is =
    subst (λ (t : List ℕ). resource_of t ≡ Some (Look (queries.Stock tank))) (sym is.1) (stock_names is.0 tank is.2)
is_named path (Look (queries.Ticket place)) is =
    subst (λ (t : List ℕ). resource_of t ≡ Some (Look (queries.Ticket place))) (sym is.1) (ticket_names is.0 place is.2)

pub paths_name : PathsNameResources
paths_name path resource = (is_path path resource, is_named path resource)
