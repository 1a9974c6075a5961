-- The routes of the desk, and the one that a path matches. What a route's text says, and which route a path matches, is said by
-- the kit's router `matchit`.
use Rattle.std.specs.Prelude.{ℕ, List, [], ◌∷◌, Result, Ok, Err, Option, codes}
use Rattle.matchit.specs.Order.{placed}
use Rattle.matchit.specs.Params.{named, walk}
use Rattle.matchit.specs.Route.{Scan, parse_route}
use Rattle.matchit.specs.Router.{RouteOf, route_from}
use Rattle.matchit.specs.Rows.{RowsOf}
use Rattle.matchit.specs.Seek.{first}
use Rattle.matchit.specs.declared.error.InsertError.{InsertError}
use Rattle.http_requests.specs.declared.route.Route.{Route}
use Rattle.http_requests.specs.declared.route.Route.TheVariants as kinds
use Rattle.http_requests.specs.declared.word.Word.{Word}
use Rattle.http_requests.specs.declared.word.Word.TheVariants as words

-- the text of a command's word
abbrev pub text_of : Word → List ℕ
text_of words.Gauge = codes "gauge"
text_of words.Dip = codes "dip"
text_of words.Sample = codes "sample"
text_of words.Open = codes "open"
text_of words.Close = codes "close"
text_of words.Cancel = codes "cancel"
text_of words.Settle = codes "settle"
text_of words.Reverse = codes "reverse"
text_of words.Stop = codes "stop"

-- the twelve routes, and what each is
unfoldable pub routes : List (List ℕ × Route)
routes =
    (codes "/gauge", kinds.Command words.Gauge)
    ∷ (codes "/dip", kinds.Command words.Dip)
    ∷ (codes "/sample", kinds.Command words.Sample)
    ∷ (codes "/open", kinds.Command words.Open)
    ∷ (codes "/close", kinds.Command words.Close)
    ∷ (codes "/cancel", kinds.Command words.Cancel)
    ∷ (codes "/settle", kinds.Command words.Settle)
    ∷ (codes "/reverse", kinds.Command words.Reverse)
    ∷ (codes "/stop", kinds.Command words.Stop)
    ∷ (codes "/stock/{tank}", kinds.Stock)
    ∷ (codes "/total", kinds.Total)
    ∷ (codes "/ticket/{place}", kinds.Ticket)
    ∷ []

-- the rows of a router that takes one route more, if its text can be read
abbrev pub with_read : Result Scan InsertError → Route → RowsOf (RouteOf Route) → RowsOf (RouteOf Route)
with_read (Ok scan) route rows = placed (scan.pattern, route_from scan route) rows
with_read (Err error) route rows = rows

-- the rows of a router that takes one route more
unfoldable pub with_route : List ℕ → Route → RowsOf (RouteOf Route) → RowsOf (RouteOf Route)
with_route text route rows = with_read (parse_route text) route rows

-- the rows of a router that takes these routes in turn
abbrev pub with_routes : List (List ℕ × Route) → RowsOf (RouteOf Route) → RowsOf (RouteOf Route)
with_routes [] rows = rows
with_routes (one ∷ more) rows = with_routes more (with_route one.0 one.1 rows)

-- the rows of the desk's router
unfoldable pub desk_rows : RowsOf (RouteOf Route)
desk_rows = with_routes routes []

-- the route that a path matches
abbrev pub route_of : List ℕ → Option (RouteOf Route)
route_of path = first desk_rows path

-- what the parameter of a name took of a path that matches a route
abbrev pub parameter_of : List ℕ → List ℕ → RouteOf Route → Option (List ℕ)
parameter_of name path route = named name (walk route.pattern route.text path route.names 0 0)
