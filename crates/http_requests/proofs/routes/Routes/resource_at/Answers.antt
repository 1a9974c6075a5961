-- Answers to the open goals of `resource_at`.
use Rattle.std.proofs.Common.{◌≡◌, List, ℕ, Some, ap, subst, sym, ◌∙◌}
use Rattle.std.specs.Str.{IsUtf8}
use Rattle.matchit.specs.Params.{AllText, walk}
use Rattle.matchit.specs.Router.{RouteOf}
use Rattle.matchit.specs.Rows.{RowsOf}
use Rattle.matchit.specs.Seek.{first}
use Rattle.http_requests.specs.declared.route.Route.{Route}
use Rattle.http_requests.specs.Paths.{named_by, resource_of}
use Rattle.http_requests.specs.Routes.{route_of}
use Rattle.http_requests.proofs.DeskRows.{route_fits}
use Rattle.http_requests.proofs.Naming.{names_by_route, names_no_text}
use Rattle.http_requests.proofs.Parameters.{accepted, given, has_text, refused}
use Rattle.http_requests.proofs.routes.Routes.resource_at.Goals as goal

pub returns-in_err-path : goal.returns-in_err-path
returns-in_err-path c =
    c.from_residual.ensures
    ∙ sym (names_no_text c.args.path.now (refused _ _ c.from_utf8.result c.in_err-path.ensures.value c.from_utf8.ensures.cases))

pub named_by-requires : goal.named_by-requires
named_by-requires c =
    let text = accepted _ _ c.from_utf8.result c.in_ok-path.path c.in_ok-path.ensures.value c.from_utf8.ensures.cases in
    let params = c.in_ok-found.found.params in
    let route : RouteOf Route =
    record { pattern = params.pattern.now; text = params.text.now; names = params.names.now; value = c.in_ok-found.found.value.now } in
    let is = given _ c.at.result c.in_ok-found.found c.in_ok-found.ensures.value c.at.ensures.found in
    let path = given _ c.at.result c.in_ok-found.found c.in_ok-found.ensures.value c.at.ensures.path in
    let utf8 : IsUtf8 c.in_ok-path.path.now = subst IsUtf8 (sym text.0) text.1 in
    let found : route_of c.in_ok-path.path.now ≡ Some route =
    subst (λ (rows : RowsOf (RouteOf Route)). first rows c.in_ok-path.path.now ≡ Some route) c.self.invariant is in
    record {
      text =
          subst (λ (t : List ℕ). AllText (walk route.pattern route.text t route.names 0 0)) (sym path)
          (has_text c.in_ok-path.path.now route utf8 (route_fits c.in_ok-path.path.now route found));
    }

pub returns : goal.returns
returns c =
    let text = accepted _ _ c.from_utf8.result c.in_ok-path.path c.in_ok-path.ensures.value c.from_utf8.ensures.cases in
    let params = c.in_ok-found.found.params in
    let route : RouteOf Route =
    record { pattern = params.pattern.now; text = params.text.now; names = params.names.now; value = c.in_ok-found.found.value.now } in
    let is = given _ c.at.result c.in_ok-found.found c.in_ok-found.ensures.value c.at.ensures.found in
    let path = given _ c.at.result c.in_ok-found.found c.in_ok-found.ensures.value c.at.ensures.path in
    let utf8 : IsUtf8 c.in_ok-path.path.now = subst IsUtf8 (sym text.0) text.1 in
    let found : route_of c.in_ok-path.path.now ≡ Some route =
    subst (λ (rows : RowsOf (RouteOf Route)). first rows c.in_ok-path.path.now ≡ Some route) c.self.invariant is in
    c.named_by.ensures
    ∙ ap (λ (t : List ℕ). named_by route.value t route) path
    ∙ sym (names_by_route c.in_ok-path.path.now route utf8 found)
    ∙ ap resource_of text.0
