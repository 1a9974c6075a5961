-- What the router has after an insertion.
use Rattle.std.proofs.Common.{◌≡◌, Ok, Err, Result, inl, inr}
use Rattle.matchit.specs.Route.{Scan}
use Rattle.matchit.specs.Router.{InsertsRead, RouteOf}
use Rattle.matchit.specs.Rows.{RowsOf}
use Rattle.matchit.specs.declared.error.InsertError.{InsertError}
use Rattle.http_requests.specs.declared.route.Route.{Route}
use Rattle.http_requests.specs.Routes.{with_read}

-- an insertion that succeeds adds the route as its text is read
pub inserted : (read : Result Scan InsertError) (route : Route) (old new : RowsOf (RouteOf Route)) (done : Unit {0})
    → InsertsRead read route old new (Ok done) → new ≡ with_read read route old
inserted (Ok scan) route old new done is = is.1
inserted (Err error) route old new done is = elim is.1 [
  | inl wrong ↦ absurd cc
  | inr wrong ↦ absurd cc
]
